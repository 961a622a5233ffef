use Rattle.std.proofs.Common.{◌≡◌, ◌*◌, ◌∙◌, ℕ, Ok, ap, sym, true, arith}
use Rattle.std.proofs.lemmas.Result.{err_from_is_err_and}
use Rattle.b2_matrix.specs.Arrays.{array_rows, combined_element, along_rows}
use Rattle.b2_matrix.specs.Answers.{suit, shape_of, unless_one_refused}
use Rattle.b2_matrix.proofs.Making.{all_taken, answers, stops, combined_if}
use Rattle.b2_matrix.proofs.RowPlaces.{row_of_place}
use Rattle.b2_matrix.proofs.combining.combine.Goals as goal

pub combined_element-requires-clause-row : goal.combined_element-requires-clause-row
combined_element-requires-clause-row c =
    let suits : suit c.args.op c.args.a c.args.b ≡ true = sym c.suit.ensures ∙ c.if-not-suit.false in
    let whole = c.loop-place.auto.into ∙ c.requires.count suits ∙ ap (λ (w : ℕ). c.args.a.rows * w) (sym c.column_count-width.ensures.value) in
    row_of_place c.loop-place.place c.args.a.rows c.column_count-width.result (omega arith)

pub returns-in_err-cell-clause-answer : goal.returns-in_err-cell-clause-answer
returns-in_err-cell-clause-answer c =
    let suits : suit c.args.op c.args.a c.args.b ≡ true = sym c.suit.ensures ∙ c.if-not-suit.false in
    let whole = c.loop-place.auto.into ∙ c.requires.count suits ∙ ap (λ (w : ℕ). c.args.a.rows * w) (sym c.column_count-width.ensures.value) in
    let p = err_from_is_err_and c.from_residual.result c.from_residual.ensures.1 in
    rw (p.1, p.2) (stops (combined_element c.args.op c.args.m (array_rows c.args.a) (array_rows c.args.b)) c.args.a.rows c.column_count-width.result c.loop-place.into c.loop-place.place _ (shape_of c.args.op c.args.a c.args.b)
    (omega arith) c.loop-place.invariant (sym c.combined_element.ensures ∙ c.in_err-cell.was)
    ∙ ap (λ (w : ℕ). unless_one_refused (along_rows c.args.a.rows w (combined_element c.args.op c.args.m (array_rows c.args.a) (array_rows c.args.b))) (shape_of c.args.op c.args.a c.args.b)) c.column_count-width.ensures.value
    ∙ combined_if c.args.op c.args.m c.args.a c.args.b suits)

pub returns-clause-answer : goal.returns-clause-answer
returns-clause-answer c =
    let suits : suit c.args.op c.args.a c.args.b ≡ true = sym c.suit.ensures ∙ c.if-not-suit.false in
    let whole = c.loop-place.auto.into ∙ c.requires.count suits ∙ ap (λ (w : ℕ). c.args.a.rows * w) (sym c.column_count-width.ensures.value) in
    ap (λ (shape : ℕ × ℕ). Ok shape) c.shape_of.ensures
    ∙ answers (combined_element c.args.op c.args.m (array_rows c.args.a) (array_rows c.args.b)) c.args.a.rows c.column_count-width.result c.loop-place.into (shape_of c.args.op c.args.a c.args.b)
    whole (λ k inside. c.loop-place.invariant k (omega arith))
    ∙ ap (λ (w : ℕ). unless_one_refused (along_rows c.args.a.rows w (combined_element c.args.op c.args.m (array_rows c.args.a) (array_rows c.args.b))) (shape_of c.args.op c.args.a c.args.b)) c.column_count-width.ensures.value
    ∙ combined_if c.args.op c.args.m c.args.a c.args.b suits

pub returns-clause-elements : goal.returns-clause-elements
returns-clause-elements c =
    let suits : suit c.args.op c.args.a c.args.b ≡ true = sym c.suit.ensures ∙ c.if-not-suit.false in
    let whole = c.loop-place.auto.into ∙ c.requires.count suits ∙ ap (λ (w : ℕ). c.args.a.rows * w) (sym c.column_count-width.ensures.value) in
    all_taken (combined_element c.args.op c.args.m (array_rows c.args.a) (array_rows c.args.b)) c.args.a.rows c.column_count-width.result c.loop-place.into
    whole (λ k inside. c.loop-place.invariant k (omega arith))
    ∙ ap (λ (w : ℕ). along_rows c.args.a.rows w (combined_element c.args.op c.args.m (array_rows c.args.a) (array_rows c.args.b))) c.column_count-width.ensures.value
