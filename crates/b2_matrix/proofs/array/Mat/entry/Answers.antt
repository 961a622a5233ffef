use Rattle.std.proofs.Common.{◌≡◌, ◌<◌, ◌+◌, ◌*◌, ◌∙◌, ℕ, length, get_or, sym, ap, arith}
use Rattle.std.proofs.lemmas.List.{get_or_default}
use Rattle.b2_dec.specs.Number.{zero_number}
use Rattle.b2_matrix.specs.Arrays.{column_count}
use Rattle.b2_matrix.proofs.RowPlaces.{entry_at, place_inside}
use Rattle.b2_matrix.proofs.array.Mat.entry.Goals as goal

pub returns : goal.returns
returns c =
    let place : c.args.row * c.column_count.result + c.args.column ≡ c.args.row * column_count c.args.self.now + c.args.column = ap (λ (w : ℕ). c.args.row * w + c.args.column) c.column_count.ensures.value in
    let inside : c.args.row * column_count c.args.self.now + c.args.column < length c.args.self.now.cells.now = omega (arith, place_inside c.args.self.now.rows (column_count c.args.self.now) c.args.row c.args.column c.requires.row c.requires.column, c.requires.whole) in
    ap (λ (k : ℕ). get_or c.args.self.now.cells.now k c.index-self-row.result) place
    ∙ get_or_default c.args.self.now.cells.now (c.args.row * column_count c.args.self.now + c.args.column) c.index-self-row.result zero_number inside
    ∙ sym (entry_at c.args.self.now.rows (column_count c.args.self.now) c.args.self.now.cells.now c.args.row c.args.column c.requires.row c.requires.column)
