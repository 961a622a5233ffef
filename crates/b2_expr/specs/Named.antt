-- Variables by their names as they are written.
use Rattle.std.specs.Prelude.{ℕ, ◌-◌, Bool, true, false, drop, get_or, Option, Some, None, Result, Ok, if◌then◌else◌}
use Rattle.std.specs.FinMap as map
use Rattle.b2_base.specs.Lexical.{is_digit}
use Rattle.b2_base.specs.declared.codes.TheConstants.{X77_NO_PARTITION}
use Rattle.b2_vars.specs.declared.name.Var.{Var}
use Rattle.b2_vars.specs.Shapes.{cell_at}
use Rattle.b2_vars.specs.Variables.{VariableState, number_at, alpha_at}
use Rattle.b2_vars.specs.Tables.{VarsState, shape_at}
use Rattle.b2_vars.specs.Calls.{get_code}
use Rattle.b2_atom.specs.declared.rows.TheConstants as row
use Rattle.b2_atom.specs.Words.{Text}
use Rattle.b2_atom.specs.Leaves.{leaf_width}
use Rattle.b2_atom.specs.declared.words.Origin.TheVariants.{Atoms}
use Rattle.b2_atom.specs.declared.forms.Leaf.{Leaf}
use Rattle.b2_atom.specs.declared.forms.Leaf.TheVariants as leaf
use Rattle.b2_rows.specs.declared.leaves.Name.{Name}
use Rattle.b2_expr.specs.Answers.{Answer, TextAnswer, ◌>>=◌, unless, or_code}
use Rattle.b2_expr.specs.Scope.{Surroundings}
use Rattle.b2_expr.specs.declared.named.Element.{Element}
use Rattle.b2_expr.specs.declared.named.Located.{Located}
use Rattle.b2_expr.specs.declared.named.NameKind.{NameKind}
use Rattle.b2_expr.specs.declared.named.NameKind.TheVariants as name_kind

-- the variable of a name, where it is known whether subscripts follow
abbrev pub variable_of : Name → Bool → Var
variable_of name array = record { letter = name.letter; digit = name.digit; alpha = name.alpha; array = array }

-- an element, and the variables among which it is looked for
pub record Cell : Type 0 where
  pub vars : VarsState
  pub element : Element

-- whose variables a name speaks of; X77 where there are no `@` variables
abbrev pub variables_of : Surroundings → Name → Result VarsState ℕ
variables_of e name = if name.global then or_code X77_NO_PARTITION e.globals else Ok e.own

-- what is found there, or P59 or P57 where the array isn't there or has no such element
abbrev pub there : {A : Type 0} → (ℕ → Option VariableState → A) → Cell → Result A ℕ
there read l =
    unless (get_code l.element.var l.element.row l.element.column l.vars.table)
    (read (cell_at (shape_at l.element.var l.vars.table) l.element.row l.element.column) (map.get l.vars.table l.element.var))

-- the number of an element
abbrev pub number_there : Cell → Answer
number_there l = there number_at l

-- a numeric element that is there, whose number isn't looked at
abbrev pub element_there : Cell → Result Element ℕ
element_there l = number_there l >>= (λ x. Ok l.element)

-- all bytes of an element
abbrev pub bytes_there : Cell → TextAnswer
bytes_there l = there alpha_at l

-- the row of a name with subscripts or none, and whether it has a `$`
abbrev pub name_row : NameKind → ℕ
name_row name_kind.Number = row.VARIABLE
name_row name_kind.Alpha = row.ALPHA_VARIABLE
name_row name_kind.NumberReceiver = row.NUMERIC_RECEIVER
name_row name_kind.AlphaReceiver = row.ALPHA_RECEIVER_VARIABLE

abbrev pub is_alpha_kind : NameKind → Bool
is_alpha_kind name_kind.Number = false
is_alpha_kind name_kind.Alpha = true
is_alpha_kind name_kind.NumberReceiver = false
is_alpha_kind name_kind.AlphaReceiver = true

-- what the code looks up
abbrev pub cell_seen : Located → Cell
cell_seen l = record { vars = l.vars.now; element = l.element }

-- how it is typed
abbrev pub name_leaf : NameKind → Leaf
name_leaf name_kind.Number = leaf.Name
name_leaf name_kind.Alpha = leaf.AlphaName
name_leaf name_kind.NumberReceiver = leaf.Name
name_leaf name_kind.AlphaReceiver = leaf.AlphaName

-- what stands after it
abbrev pub after_name : NameKind → Text → Text
after_name k t = drop (leaf_width Atoms (name_leaf k) t) t

-- the digit of a plain name counted from 1, 0 where there is none, and how many bytes the name takes
abbrev pub counted_digit : ℕ → ℕ
counted_digit b = if is_digit b then b - 47 else 0

abbrev pub plain_width : Text → ℕ
plain_width t = if is_digit (get_or t 1 0) then 2 else 1

-- the numeric array of a plain name, by its first two bytes
abbrev pub plain_array : ℕ → ℕ → Var
plain_array letter b = record { letter = letter; digit = if is_digit b then Some b else None; alpha = false; array = true }
