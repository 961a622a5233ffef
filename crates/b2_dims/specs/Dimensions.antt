-- Dimensions of an array and the length of its alpha values, as they are written after a name.
use Rattle.std.specs.Prelude.{ℕ, ◌==◌, ℤ, pos, Bool, true, false, Option, Some, Result, Ok, Err, if◌then◌else◌}
use Rattle.b2_base.specs.declared.codes.TheConstants.{P50_DIMENSION, P53_LENGTH}
use Rattle.b2_atom.specs.Tree.{Trees}
use Rattle.b2_atom.specs.Tree.Trees.{Put, In}
use Rattle.b2_vars.specs.Shapes.{is_up_to}
use Rattle.b2_vars.specs.declared.shape.Shape.{Shape}
use Rattle.b2_expr.specs.Answers.{Answer, ◌>>=◌}
use Rattle.b2_expr.specs.Functions.{fixed}
use Rattle.b2_expr.specs.Scope.{Context}
use Rattle.b2_expr.specs.Value.{branch_of, value}
use Rattle.b2_expr.specs.declared.operators.Level.TheVariants as level
use Rattle.b2_dims.specs.declared.dimensions.Dimensions.{Dimensions}

-- a number without its fraction from 1 to the most, or a code
abbrev pub up_to : ℕ → ℕ → Option ℤ → Result ℕ ℕ
up_to most code (Some (pos n)) = if is_up_to most n then Ok n else Err code
up_to most code z = Err code

-- a dimension: up to 4,000 where it is the only one, and up to 255 each where there are two
abbrev pub dimension : ℕ → Option ℤ → Result ℕ ℕ
dimension most n = up_to most P50_DIMENSION n

abbrev pub most_rows : Bool → ℕ
most_rows two = if two then 255 else 4000

-- the second dimension, 0 where none is written
unfoldable pub columns_in : Context → Trees → Result ℕ ℕ
columns_in s (In n (Put comma (In m sum end)) more) = value s level.Sum sum >>= (λ x. dimension 255 (fixed x))
columns_in s t = Ok 0

-- the dimensions from left to right: each is taken and tested before the next
unfoldable pub dimensions_in : Context → Trees → Result Dimensions ℕ
dimensions_in s (Put opening (In n (In m sum columns) close)) =
    value s level.Sum sum >>= (λ x. dimension (most_rows (branch_of columns == 1)) (fixed x) >>= (λ rows. columns_in s columns >>= (λ cols. Ok (record { rows = rows; cols = cols }))))
dimensions_in s t = Err P50_DIMENSION

-- the length of an alpha value; a number has none
abbrev pub tested_length : Bool → Option ℤ → Result ℕ ℕ
tested_length true n = up_to 124 P53_LENGTH n
tested_length false n = Err P53_LENGTH

-- the one that is written, or what stands for it
abbrev pub length_by : (Trees → Answer) → ℕ → Bool → Trees → Result ℕ ℕ
length_by value_of otherwise alpha (In n sum end) = if n == 1 then value_of sum >>= (λ x. tested_length alpha (fixed x)) else Ok otherwise
length_by value_of otherwise alpha t = Ok otherwise

-- the length after dimensions
unfoldable pub length_after : Context → ℕ → Bool → Trees → Result ℕ ℕ
length_after s otherwise alpha t = length_by (value s level.Sum) otherwise alpha t

-- the shape of an array: its dimensions, and then its length
unfoldable pub array_shape : Context → ℕ → Bool → Trees → Result Shape ℕ
array_shape s otherwise alpha (In n dimensions length) = dimensions_in s dimensions >>= (λ d. length_after s otherwise alpha length >>= (λ len. Ok (record { rows = d.rows; cols = d.cols; len = len })))
array_shape s otherwise alpha t = Err P50_DIMENSION
