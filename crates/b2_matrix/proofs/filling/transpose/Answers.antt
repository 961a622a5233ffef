use Rattle.std.proofs.Common.{◌≡◌, ◌<◌, ◌*◌, ◌∙◌, ℕ, length, sym, ap, arith}
use Rattle.std.proofs.Math.Nat.{mul_comm}
use Rattle.b2_dec.specs.Number.{zero_number}
use Rattle.b2_matrix.specs.Arrays.{column_count, array_rows, transposed, entry}
use Rattle.b2_matrix.proofs.Making.{made_is}
use Rattle.b2_matrix.proofs.RowPlaces.{row_of_place, column_of_place}
use Rattle.b2_matrix.proofs.filling.transpose.Goals as goal

pub entry-requires-clause-row : goal.entry-requires-clause-row
entry-requires-clause-row c =
    let count = c.from-count.ensures in
    let whole : length c.loop-place.into ≡ column_count c.args.a * c.from-count.result = c.loop-place.auto.into ∙ c.requires.count ∙ mul_comm c.args.a.rows (column_count c.args.a) ∙ ap (λ (count : ℕ). column_count c.args.a * count) (sym c.from-count.ensures) in
    let inside : c.loop-place.place < column_count c.args.a * c.from-count.result = omega (arith, whole) in
    omega (arith, column_of_place c.loop-place.place (column_count c.args.a) c.from-count.result inside)

pub entry-requires-clause-column : goal.entry-requires-clause-column
entry-requires-clause-column c =
    let whole : length c.loop-place.into ≡ column_count c.args.a * c.from-count.result = c.loop-place.auto.into ∙ c.requires.count ∙ mul_comm c.args.a.rows (column_count c.args.a) ∙ ap (λ (count : ℕ). column_count c.args.a * count) (sym c.from-count.ensures) in
    let inside : c.loop-place.place < column_count c.args.a * c.from-count.result = omega (arith, whole) in
    row_of_place c.loop-place.place (column_count c.args.a) c.from-count.result inside

pub returns : goal.returns
returns c =
    made_is (λ i j. entry (array_rows c.args.a) j i) zero_number (column_count c.args.a) c.from-count.result c.loop-place.into (c.loop-place.auto.into ∙ c.requires.count ∙ mul_comm c.args.a.rows (column_count c.args.a) ∙ ap (λ (count : ℕ). column_count c.args.a * count) (sym c.from-count.ensures)) (λ p inside. c.loop-place.invariant p (omega arith))
    ∙ ap (λ (count : ℕ). transposed count (column_count c.args.a) (array_rows c.args.a)) c.from-count.ensures
