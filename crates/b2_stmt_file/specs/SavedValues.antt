-- The values of a record that is saved.
use Rattle.std.specs.Borrow.{Bor}
use Rattle.std.specs.Prelude.{◌≡◌, ℕ, ◌==◌, List, [], ◌∷◌, ◌++◌, Result, Ok, Err, if◌then◌else◌}
use Rattle.b2_base.specs.Refusals.{IsRefused}
use Rattle.b2_base.specs.declared.codes.Fault.{Fault}
use Rattle.b2_base.specs.declared.codes.TheConstants.{S17_NUMERIC}
use Rattle.b2_dec.specs.declared.values.Value.{Value}
use Rattle.b2_dec.specs.declared.values.Value.TheVariants as value_kind
use Rattle.b2_atom.specs.Tree.{Trees, also}
use Rattle.b2_atom.specs.Tree.Trees.{Done, In}
use Rattle.b2_atom.specs.Words.{Text}
use Rattle.b2_atom.specs.declared.rows.TheConstants as row
use Rattle.b2_rows.specs.CommaLists.{commas, further_listed}
use Rattle.b2_rows.specs.Rows.{after_phrase, list_at, tree_at}
use Rattle.b2_expr.specs.Answers.{◌>>=◌}
use Rattle.b2_expr.specs.Scope.{Context}
use Rattle.b2_expr.specs.Value.{text, value}
use Rattle.b2_expr.specs.declared.operators.Level.TheVariants as level
use Rattle.b2_receiver.specs.Receivers.{whole_array}
use Rattle.b2_stmt_file.specs.Elements.{array_values, array_variables, recorded, then_values}

-- the value of an expression
abbrev pub alpha_saved : Context → Trees → Result (List Value) ℕ
alpha_saved e t = text e t >>= (λ bytes. recorded (value_kind.Alpha bytes))

abbrev pub number_saved : Context → Trees → Result (List Value) ℕ
number_saved e t = value e level.Sum t >>= (λ x. recorded (value_kind.Number x))

abbrev pub operand_saved : Context → Trees → Result (List Value) ℕ
operand_saved e (In n t end) = if n == 1 then alpha_saved e t else number_saved e t
operand_saved e t = Err S17_NUMERIC

-- those of a whole array, which must be there
abbrev pub array_saved : Context → Trees → Result (List Value) ℕ
array_saved e t = whole_array e.around t >>= (λ a. array_variables e.around a >>= (λ vars. array_values vars a))

abbrev pub item_saved : Context → Trees → Result (List Value) ℕ
item_saved e (In n t end) = if n == 1 then array_saved e t else operand_saved e t
item_saved e t = Err S17_NUMERIC

-- from left to right
abbrev pub all_saved : Context → List Trees → Result (List Value) ℕ
all_saved e [] = Ok []
all_saved e (t ∷ ts) = then_values (item_saved e t) (all_saved e ts)

-- the items at a text, with commas between them
abbrev pub other_items : Text → List Trees
other_items t = further_listed (also (list_at commas row.COMMA_SAVED t) Done)

abbrev pub items_at : Text → List Trees
items_at t = tree_at row.SAVED t ∷ other_items (after_phrase row.SAVED t)

-- values before others, or the code in the place of those
abbrev pub values_before : {A : Type 0} → List A → Result (List A) ℕ → Result (List A) ℕ
values_before xs answer = answer >>= (λ ys. Ok (xs ++ ys))

-- values that are put after others, or a code
abbrev pub PutsValues : {A : Type 0} → Result (List A) ℕ → List A → List A → Result (Unit {0}) Fault → Type 0
PutsValues answer old new (Ok done) = values_before old answer ≡ Ok new
PutsValues answer old new (Err f) = IsRefused answer f

-- and what is left of the text
abbrev pub PutsItem : {A : Type 0} → Result (List A) ℕ → Text → List A → List A → Result (Bor Text) Fault → Type 0
PutsItem answer rest old new (Ok left) = (values_before old answer ≡ Ok new) × (left.now ≡ rest)
PutsItem answer rest old new (Err f) = IsRefused answer f

-- values, or a code
abbrev pub GivesValues : {A : Type 0} → Result (List A) ℕ → Result (List A) Fault → Type 0
GivesValues answer (Ok xs) = answer ≡ Ok xs
GivesValues answer (Err f) = IsRefused answer f
