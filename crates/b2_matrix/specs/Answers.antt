-- What a call answers: the shape of a result, or the first code.
use Rattle.std.specs.Prelude.{ℕ, ◌==◌, ◌&&◌, Bool, true, if◌then◌else◌, List, [], ◌∷◌, Result, Ok, Err}
use Rattle.b2_base.specs.declared.codes.TheConstants.{P43_SHAPES}
use Rattle.b2_dec.specs.declared.number.Mode.{Mode}
use Rattle.b2_dec.specs.Number.{Number}
use Rattle.b2_matrix.specs.declared.array.Mat.{Mat}
use Rattle.b2_matrix.specs.declared.combining.MatOp.{MatOp}
use Rattle.b2_matrix.specs.declared.combining.MatOp.TheVariants as op
use Rattle.b2_matrix.specs.declared.array.Fill.{Fill}
use Rattle.b2_matrix.specs.declared.array.Fill.TheVariants as filled_with
use Rattle.b2_matrix.specs.Arrays.{column_count, elements}

-- A product wants as many columns of the first array as the second has rows. Sums and differences want equal shapes.
abbrev pub suit : MatOp → Mat → Mat → Bool
suit op.Add a b = a.rows == b.rows && column_count a == column_count b
suit op.Sub a b = a.rows == b.rows && column_count a == column_count b
suit op.Mul a b = column_count a == b.rows

-- A sum and a difference have the shape of the first array. A product has two dimensions.
abbrev pub shape_of : MatOp → Mat → Mat → ℕ × ℕ
shape_of op.Add a b = (a.rows, a.cols)
shape_of op.Sub a b = (a.rows, a.cols)
shape_of op.Mul a b = (a.rows, column_count b)

-- the first code of what was made in order, or the answer where there is none
abbrev pub unless_one_refused : {A : Type 0} → List (Result Number ℕ) → A → Result A ℕ
unless_one_refused [] answer = Ok answer
unless_one_refused (Ok made ∷ rest) answer = unless_one_refused rest answer
unless_one_refused (Err code ∷ rest) answer = Err code

-- the shape of a sum, a difference or a product
abbrev pub combined : MatOp → Mode → Mat → Mat → Result (ℕ × ℕ) ℕ
combined operation mode a b =
    if suit operation a b then unless_one_refused (elements operation mode a b) (shape_of operation a b) else Err P43_SHAPES

-- Only the unit matrix has to be square.
abbrev pub may_fill : Fill → ℕ → ℕ → Bool
may_fill filled_with.Con count width = true
may_fill filled_with.Zer count width = true
may_fill filled_with.Idn count width = count == width
