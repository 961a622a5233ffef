-- The right sides of MAT: what an array of numbers is made of.
use Rattle.std.specs.Prelude.{ℕ, ◌==◌, ◌||◌, Bool, false, Option, Some, None, Result, Ok, Err, if◌then◌else◌}
use Rattle.b2_base.specs.Byte as byte
use Rattle.b2_base.specs.Lexical.{first}
use Rattle.b2_base.specs.declared.codes.TheConstants.{S20_VARIABLE}
use Rattle.b2_atom.specs.Words.{Text}
use Rattle.b2_atom.specs.Tokens.{Token}
use Rattle.b2_atom.specs.Tree.{Trees}
use Rattle.b2_atom.specs.Tree.Trees.{Put, In}
use Rattle.b2_atom.specs.declared.words.TheConstants as word
use Rattle.b2_rows.specs.Links.{first_code, token_code}
use Rattle.b2_matrix.specs.declared.array.Fill.{Fill}
use Rattle.b2_matrix.specs.declared.array.Fill.TheVariants as filled_with
use Rattle.b2_matrix.specs.declared.combining.MatOp.{MatOp}
use Rattle.b2_matrix.specs.declared.combining.MatOp.TheVariants as op
use Rattle.b2_dims.specs.Dimensions.{dimensions_in}
use Rattle.b2_dims.specs.declared.dimensions.Dimensions.{Dimensions}
use Rattle.b2_expr.specs.Answers.{◌>>=◌}
use Rattle.b2_expr.specs.Scope.{Context}
use Rattle.b2_expr.specs.Value.{token_text, value}
use Rattle.b2_expr.specs.declared.operators.Level.TheVariants as level
use Rattle.b2_receiver.specs.declared.receiver.Array.{Array}
use Rattle.b2_stmt_mat.specs.Arrays.{Families, IsArrayIn, array_of}
use Rattle.b2_stmt_mat.specs.declared.formulas.Formula.{Formula}
use Rattle.b2_stmt_mat.specs.declared.formulas.Formula.TheVariants as formula
use Rattle.b2_stmt_mat.specs.declared.formulas.MatrixAssignment.{MatrixAssignment}

-- the array of numbers of a name
abbrev pub matrix_named : Context → Token → Result Array ℕ
matrix_named s name = array_of s.around false (token_text name)

-- a multiple: the number, and then the array
unfoldable pub scaled_in : Context → Trees → Result Formula ℕ
scaled_in s (Put opening (In n sum (Put closing (Put times (Put name end))))) =
    value s level.Sum sum >>= (λ k. matrix_named s name >>= (λ b. Ok (formula.Scaled k b)))
scaled_in s t = Err S20_VARIABLE

unfoldable pub transposed_in : Context → Trees → Result Formula ℕ
transposed_in s (Put trn (In n (Put name end) closing)) = matrix_named s name >>= (λ b. Ok (formula.Transposed b))
transposed_in s t = Err S20_VARIABLE

-- CON, ZER and IDN, with dimensions or without
abbrev pub fill_of : ℕ → Fill
fill_of c = if c == word.CON then filled_with.Con else (if c == word.ZER then filled_with.Zer else filled_with.Idn)

abbrev pub dimensions_written : Context → ℕ → Trees → Result (Option Dimensions) ℕ
dimensions_written s n t = if n == 1 then dimensions_in s t >>= (λ d. Ok (Some d)) else Ok None

unfoldable pub filled_in : Context → Trees → Result Formula ℕ
filled_in s (Put constant (In n dimensions end)) = dimensions_written s n dimensions >>= (λ d. Ok (formula.Filled (fill_of (token_code constant)) d))
filled_in s t = Err S20_VARIABLE

-- one array, or two
abbrev pub op_of : ℕ → MatOp
op_of c = if c == byte.asterisk then op.Mul else (if c == byte.plus then op.Add else op.Sub)

abbrev pub second_in : Context → Array → Trees → Result Formula ℕ
second_in s b (In n sign (Put name end)) = matrix_named s name >>= (λ c. Ok (formula.Combined (op_of (first_code sign)) b c))
second_in s b t = Err S20_VARIABLE

-- whether the sign of a second array stands at a text
abbrev pub has_second : Text → Bool
has_second t = first t == byte.asterisk || first t == byte.plus || first t == byte.minus

unfoldable pub matrices_in : Context → Trees → Result Formula ℕ
matrices_in s (Put name (In n second end)) = matrix_named s name >>= (λ b. if n == 1 then second_in s b second else Ok (formula.Copied b))
matrices_in s t = Err S20_VARIABLE

-- which of them stands there
unfoldable pub but_transposed_in : Context → Trees → Result Formula ℕ
but_transposed_in s (In n a end) = if n == 1 then filled_in s a else matrices_in s a
but_transposed_in s t = Err S20_VARIABLE

unfoldable pub but_scaled_in : Context → Trees → Result Formula ℕ
but_scaled_in s (In n a end) = if n == 1 then transposed_in s a else but_transposed_in s a
but_scaled_in s t = Err S20_VARIABLE

abbrev pub formula_in : Context → ℕ → Trees → Result Formula ℕ
formula_in s n a = if n == 1 then scaled_in s a else but_scaled_in s a

-- the array that is assigned, and then what it is made of
unfoldable pub assignment_in : Context → Trees → Result MatrixAssignment ℕ
assignment_in s (Put mat (Put name (Put equals (In n a end)))) = matrix_named s name >>= (λ v. formula_in s n a >>= (λ made_of. Ok (record { to = v; made_of = made_of })))
assignment_in s t = Err S20_VARIABLE

-- the arrays that are named are there
abbrev pub AreThere : Formula → Families → Type 0
AreThere (formula.Scaled k b) f = IsArrayIn false b f
AreThere (formula.Transposed b) f = IsArrayIn false b f
AreThere (formula.Filled k d) f = Unit {0}
AreThere (formula.Copied b) f = IsArrayIn false b f
AreThere (formula.Combined o b c) f = IsArrayIn false b f × IsArrayIn false c f
