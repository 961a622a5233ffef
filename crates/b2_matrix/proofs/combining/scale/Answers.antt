use Rattle.std.proofs.Common.{◌<◌, ◌≢◌, ◌*◌, ◌∙◌, length, ap, sym, arith, below_more}
use Rattle.std.proofs.lemmas.List.{get_or-set_same, get_or-set_other, get_or_default}
use Rattle.std.proofs.lemmas.Result.{err_from_is_err_and}
use Rattle.b2_dec.specs.Number.{zero_number}
use Rattle.b2_dec.specs.Arithmetic.{product_of}
use Rattle.b2_matrix.specs.Arrays.{column_count, array_rows, entry}
use Rattle.b2_matrix.proofs.Making.{all_taken, answers, stops}
use Rattle.b2_matrix.proofs.RowPlaces.{entry_of_place}
use Rattle.b2_matrix.proofs.combining.scale.Goals as goal

pub returns-in_err-cell-clause-answer : goal.returns-in_err-cell-clause-answer
returns-in_err-cell-clause-answer c =
    let p = err_from_is_err_and c.from_residual.result c.from_residual.ensures.1 in
    let inside : c.loop-place.place < c.args.a.rows * column_count c.args.a = omega (arith, c.requires.count) in
    rw (p.1, p.2) (stops (λ i j. product_of c.args.m c.args.k (entry (array_rows c.args.a) i j)) c.args.a.rows (column_count c.args.a) c.loop-place.into c.loop-place.place _ tt inside
    (λ k low. ap (product_of c.args.m c.args.k) (entry_of_place c.args.a.rows (column_count c.args.a) c.args.a.cells.now k (omega arith)) ∙ c.loop-place.invariant k low)
    (ap (product_of c.args.m c.args.k) (entry_of_place c.args.a.rows (column_count c.args.a) c.args.a.cells.now c.loop-place.place inside ∙ get_or_default c.args.a.cells.now c.loop-place.place zero_number c.index-a-place.result (omega (arith, c.requires.whole)))
    ∙ sym c.mul.ensures ∙ c.in_err-cell.was))

pub loop-place-preserved : goal.loop-place-preserved
loop-place-preserved c =
    below_more _ _
    (λ k low. let ne : k ≢ c.loop-place.place = omega arith in rw get_or-set_other (c.loop-place.invariant k low))
    (let inside : c.loop-place.place < length c.loop-place.into = omega arith in
    rw get_or-set_same (ap (product_of c.args.m c.args.k) (get_or_default c.args.a.cells.now c.loop-place.place zero_number c.index-a-place.result (omega (arith, c.requires.whole, c.requires.count))) ∙ sym c.mul.ensures ∙ c.in_ok-cell.was))

pub returns-clause-answer : goal.returns-clause-answer
returns-clause-answer c =
    answers (λ i j. product_of c.args.m c.args.k (entry (array_rows c.args.a) i j)) c.args.a.rows (column_count c.args.a) c.loop-place.into tt (c.loop-place.auto.into ∙ c.requires.count)
    (λ k inside. ap (product_of c.args.m c.args.k) (entry_of_place c.args.a.rows (column_count c.args.a) c.args.a.cells.now k (omega (arith, c.requires.count))) ∙ c.loop-place.invariant k (omega arith))

pub returns-clause-elements : goal.returns-clause-elements
returns-clause-elements c =
    all_taken (λ i j. product_of c.args.m c.args.k (entry (array_rows c.args.a) i j)) c.args.a.rows (column_count c.args.a) c.loop-place.into (c.loop-place.auto.into ∙ c.requires.count)
    (λ k inside. ap (product_of c.args.m c.args.k) (entry_of_place c.args.a.rows (column_count c.args.a) c.args.a.cells.now k (omega (arith, c.requires.count))) ∙ c.loop-place.invariant k (omega arith))
