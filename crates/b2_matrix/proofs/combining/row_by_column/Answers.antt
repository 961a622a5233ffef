use Rattle.std.proofs.Common.{◌<◌, ◌∙◌, sym, arith, length}
use Rattle.std.proofs.lemmas.Result.{err_from_is_err_and}
use Rattle.b2_matrix.specs.Arrays.{column_count, array_rows, matrix_row, array_column}
use Rattle.b2_matrix.proofs.RowPlaces.{length-row, length-column, column_at}
use Rattle.b2_matrix.proofs.ProductSums.{product_at, step, no_product, no_sum, at_end}
use Rattle.b2_matrix.proofs.combining.row_by_column.Goals as goal

pub returns-in_err-product : goal.returns-in_err-product
returns-in_err-product c =
    let p = err_from_is_err_and c.from_residual.result c.from_residual.ensures.1 in
    let long : c.loop-k.k < length (matrix_row (array_rows c.args.a.now) c.args.i) = omega (arith, length-row c.args.a.now.rows (column_count c.args.a.now) c.args.a.now.cells.now c.args.i c.requires.row c.requires.first) in
    let high : c.loop-k.k < length (array_column (array_rows c.args.b.now) c.args.j) = omega (arith, length-column c.args.b.now.rows (column_count c.args.b.now) c.args.b.now.cells.now c.args.j, c.requires.suit) in
    let below = column_at c.args.b.now.rows (column_count c.args.b.now) c.args.b.now.cells.now c.loop-k.k c.args.j (omega (arith, c.requires.suit)) in
    rw (p.1, p.2) (no_product c.args.m c.loop-k.sum (matrix_row (array_rows c.args.a.now) c.args.i) (array_column (array_rows c.args.b.now) c.args.j) c.loop-k.k _ long high
    (product_at c.args.m _ _ _ _ c.entry.ensures (c.entry-in-loop-k.ensures ∙ sym below) ∙ sym c.mul.ensures ∙ c.in_err-product.was) ∙ c.loop-k.invariant)

pub returns-in_err-sum : goal.returns-in_err-sum
returns-in_err-sum c =
    let p = err_from_is_err_and c.from_residual-in_err-sum.result c.from_residual-in_err-sum.ensures.1 in
    let long : c.loop-k.k < length (matrix_row (array_rows c.args.a.now) c.args.i) = omega (arith, length-row c.args.a.now.rows (column_count c.args.a.now) c.args.a.now.cells.now c.args.i c.requires.row c.requires.first) in
    let high : c.loop-k.k < length (array_column (array_rows c.args.b.now) c.args.j) = omega (arith, length-column c.args.b.now.rows (column_count c.args.b.now) c.args.b.now.cells.now c.args.j, c.requires.suit) in
    let below = column_at c.args.b.now.rows (column_count c.args.b.now) c.args.b.now.cells.now c.loop-k.k c.args.j (omega (arith, c.requires.suit)) in
    rw (p.1, p.2) (no_sum c.args.m c.loop-k.sum c.in_ok-product.product (matrix_row (array_rows c.args.a.now) c.args.i) (array_column (array_rows c.args.b.now) c.args.j) c.loop-k.k _ long high
    (product_at c.args.m _ _ _ _ c.entry.ensures (c.entry-in-loop-k.ensures ∙ sym below) ∙ sym c.mul.ensures ∙ c.in_ok-product.was) (sym c.add.ensures ∙ c.in_err-sum.was) ∙ c.loop-k.invariant)

pub loop-k-preserved : goal.loop-k-preserved
loop-k-preserved c =
    let long : c.loop-k.k < length (matrix_row (array_rows c.args.a.now) c.args.i) = omega (arith, length-row c.args.a.now.rows (column_count c.args.a.now) c.args.a.now.cells.now c.args.i c.requires.row c.requires.first) in
    let high : c.loop-k.k < length (array_column (array_rows c.args.b.now) c.args.j) = omega (arith, length-column c.args.b.now.rows (column_count c.args.b.now) c.args.b.now.cells.now c.args.j, c.requires.suit) in
    let below = column_at c.args.b.now.rows (column_count c.args.b.now) c.args.b.now.cells.now c.loop-k.k c.args.j (omega (arith, c.requires.suit)) in
    step c.args.m c.loop-k.sum c.in_ok-product.product c.in_ok-sum.sum (matrix_row (array_rows c.args.a.now) c.args.i) (array_column (array_rows c.args.b.now) c.args.j) c.loop-k.k long high
    (product_at c.args.m _ _ _ _ c.entry.ensures (c.entry-in-loop-k.ensures ∙ sym below) ∙ sym c.mul.ensures ∙ c.in_ok-product.was) (sym c.add.ensures ∙ c.in_ok-sum.was) ∙ c.loop-k.invariant

pub returns : goal.returns
returns c =
    at_end c.args.m c.loop-k.sum (matrix_row (array_rows c.args.a.now) c.args.i) _ c.loop-k.k (omega (arith, length-row c.args.a.now.rows (column_count c.args.a.now) c.args.a.now.cells.now c.args.i c.requires.row c.requires.first)) ∙ c.loop-k.invariant
