use Rattle.std.proofs.Common.{◌≡◌, drop}
use Rattle.b2_dec.specs.Number.{zero_number}
use Rattle.b2_matrix.specs.Arrays.{array_rows, matrix_row, array_column, sum_of_products}
use Rattle.b2_matrix.proofs.combining.row_by_column.Given as goal

-- what is left leads to the whole sum
abbrev pub invariant-loop-k : goal.invariant-loop-k
invariant-loop-k l =
    sum_of_products l.m l.sum (drop l.k (matrix_row (array_rows l.a) l.i)) (drop l.k (array_column (array_rows l.b) l.j)) ≡ sum_of_products l.m zero_number (matrix_row (array_rows l.a) l.i) (array_column (array_rows l.b) l.j)
