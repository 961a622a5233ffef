-- The arguments of GOSUB'.
use Rattle.std.specs.Borrow.{Bor}
use Rattle.std.specs.Prelude.{◌≡◌, ℕ, ◌==◌, List, [], ◌∷◌, ◌++◌, drop, Result, Ok, Err, if◌then◌else◌}
use Rattle.b2_base.specs.Lexical.{digits_width}
use Rattle.b2_base.specs.Refusals.{IsRefused}
use Rattle.b2_base.specs.declared.codes.Fault.{Fault}
use Rattle.b2_base.specs.declared.codes.TheConstants.{S17_NUMERIC}
use Rattle.b2_dec.specs.declared.values.Value.{Value}
use Rattle.b2_dec.specs.declared.values.Value.TheVariants as value_kind
use Rattle.b2_atom.specs.Words.{Text}
use Rattle.b2_atom.specs.Tree.{Trees, also}
use Rattle.b2_atom.specs.Tree.Trees.{Done, Put, In}
use Rattle.b2_atom.specs.declared.rows.TheConstants as row
use Rattle.b2_rows.specs.Rows.{after_phrase, list_at, tree_at}
use Rattle.b2_expr.specs.Answers.{◌>>=◌}
use Rattle.b2_expr.specs.Scope.{Context}
use Rattle.b2_expr.specs.Value.{text, value}
use Rattle.b2_expr.specs.declared.operators.Level.TheVariants as level
use Rattle.b2_rows.specs.CommaLists.{all_listed, further_listed, commas}

-- the value of one: bytes or a number
abbrev pub alpha_argument : Context → Trees → Result Value ℕ
alpha_argument s t = text s t >>= (λ bytes. Ok (value_kind.Alpha bytes))

abbrev pub number_argument : Context → Trees → Result Value ℕ
number_argument s t = value s level.Sum t >>= (λ x. Ok (value_kind.Number x))

abbrev pub argument : Context → Trees → Result Value ℕ
argument s (In n t end) = if n == 1 then alpha_argument s t else number_argument s t
argument s t = Err S17_NUMERIC

-- the values from left to right, or the first code
abbrev pub arguments : Context → List Trees → Result (List Value) ℕ
arguments s [] = Ok []
arguments s (t ∷ ts) = argument s t >>= (λ x. arguments s ts >>= (λ xs. Ok (x ∷ xs)))

-- those that are written
abbrev pub operands_of : Trees → List Trees
operands_of (Put word (Put number (In n (Put opening (In m operands close)) end))) = all_listed operands
operands_of t = []

-- those at a text, with commas between them
abbrev pub other_operands : Text → List Trees
other_operands t = further_listed (also (list_at commas row.COMMA_OPERAND t) Done)

abbrev pub arguments_at : Text → List Trees
arguments_at t = tree_at row.OPERAND_OF_ANY_KIND t ∷ other_operands (after_phrase row.OPERAND_OF_ANY_KIND t)

-- what stands after the number of a GOSUB'
abbrev pub past_number : Text → Text
past_number t = drop (digits_width (drop 1 t)) (drop 1 t)

-- values before others, or the code in the place of those
abbrev pub values_before : List Value → Result (List Value) ℕ → Result (List Value) ℕ
values_before xs answer = answer >>= (λ ys. Ok (xs ++ ys))

-- a value after others
abbrev pub put_after : List Value → Result Value ℕ → Result (List Value) ℕ
put_after xs answer = answer >>= (λ x. Ok (xs ++ x ∷ []))

-- one that is put there and what is left of the text, or a code
abbrev pub PutsArgument : Result Value ℕ → Text → List Value → List Value → Result (Bor Text) Fault → Type 0
PutsArgument answer rest old new (Ok left) = (put_after old answer ≡ Ok new) × (left.now ≡ rest)
PutsArgument answer rest old new (Err f) = IsRefused answer f

-- values, or a code
abbrev pub GivesValues : Result (List Value) ℕ → Result (List Value) Fault → Type 0
GivesValues answer (Ok xs) = answer ≡ Ok xs
GivesValues answer (Err f) = IsRefused answer f
