-- Plain expressions: what is read at once, in all surroundings with the same variables and the same mode.
use Rattle.std.specs.Prelude.{◌≡◌, ℕ, ◌==◌, ◌&&◌, ◌||◌, not, get_or, Bool, false, is_err, length, List, None, Ok}
use Rattle.b2_base.specs.Byte as byte
use Rattle.b2_base.specs.Lexical.{first, is_digit}
use Rattle.b2_dec.specs.declared.number.Mode.{Mode}
use Rattle.b2_vars.specs.Tables.{VarsState}
use Rattle.b2_atom.specs.Words.{Text}
use Rattle.b2_atom.specs.declared.rows.TheConstants as row
use Rattle.b2_rows.specs.Rows.{tree_at, after_phrase}
use Rattle.b2_expr.specs.Answers.{TextAnswer}
use Rattle.b2_expr.specs.Levels.{row_of_level}
use Rattle.b2_expr.specs.Reads.{Finds}
use Rattle.b2_expr.specs.Scope.{Context}
use Rattle.b2_expr.specs.Value.{value}
use Rattle.b2_expr.specs.declared.evaluated.Evaluated.{Evaluated}
use Rattle.b2_expr.specs.declared.operators.Level.{Level}
use Rattle.b2_expr.specs.declared.operators.Level.TheVariants as level

-- whether a text begins with a single digit, after which neither a digit nor a point nor an exponent stands
abbrev pub is_one_digit : Text → Bool
is_one_digit t = is_digit (first t) && (not (is_digit (get_or t 1 0)) && (not (get_or t 1 0 == byte.point) && not (get_or t 1 0 == byte.upper_e)))

-- whether a byte joins two numbers
abbrev pub is_operator : ℕ → Bool
is_operator b = b == byte.plus || (b == byte.minus || (b == byte.asterisk || (b == byte.slash || b == byte.caret)))

-- What is found outside functions, where it is a number: how many bytes are left after it, and the value.
pub record IsPlain (own : VarsState) (l : Level) (t : Text) (f : Evaluated) : Type 0 where
  pub left : is_err f.number ≡ false → f.left ≡ length (after_phrase (row_of_level l) t)
  pub number : is_err f.number ≡ false → (e : Context) → e.parameter ≡ None → e.around.own ≡ own → f.number ≡ value e l (tree_at (row_of_level l) t)

abbrev pub IsPlainSum : VarsState → Mode → Text → Evaluated → Type 0
IsPlainSum own mode t f =
    is_err f.number ≡ false → (e : Context) → e.parameter ≡ None → e.around.own ≡ own → e.around.mode ≡ mode
    → Finds (value e level.Sum (tree_at row.SUM t)) (after_phrase row.SUM t) f

-- the bytes of an alpha expression outside functions, and what is left after it
abbrev pub IsPlainText : (Context → TextAnswer) → Text → VarsState → List ℕ → Text → Type 0
IsPlainText means after own bytes left = ((e : Context) → e.parameter ≡ None → e.around.own ≡ own → means e ≡ Ok bytes) × (left ≡ after)
