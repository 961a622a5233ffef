-- DIM and COM: the variables that they make.
use Rattle.std.specs.Prelude.{ℕ, ◌==◌, ◌||◌, not, is_some, Bool, true, false, List, [], Option, None, Result, Ok, Err, if◌then◌else◌}
use Rattle.b2_base.specs.declared.codes.TheConstants.{S20_VARIABLE}
use Rattle.b2_atom.specs.Tree.{Trees}
use Rattle.b2_atom.specs.Tree.Trees.{Put, In}
use Rattle.b2_atom.specs.declared.words.TheConstants as word
use Rattle.b2_rows.specs.Links.{token_code}
use Rattle.b2_rows.specs.Values.{variable_name}
use Rattle.b2_rows.specs.declared.leaves.Name.{Name}
use Rattle.b2_vars.specs.Calls.{com_code, dim_code, with_new}
use Rattle.b2_vars.specs.Tables.{VarsState}
use Rattle.b2_vars.specs.declared.shape.Shape.{Shape}
use Rattle.b2_expr.specs.Answers.{◌>>=◌}
use Rattle.b2_vars.specs.Assigned.{Assigned}
use Rattle.b2_receiver.specs.Assigning.{unless_refused}
use Rattle.b2_expr.specs.Named.{variable_of, variables_of}
use Rattle.b2_expr.specs.Scope.{Context, Surroundings}
use Rattle.b2_expr.specs.Value.{context_of, token_text}
use Rattle.b2_expr.specs.Workspace.{WorkState, WorkLeft, among, refused}
use Rattle.b2_dims.specs.Dimensions.{array_shape, length_by}
use Rattle.b2_stmt_var.specs.Assignments.{assign_each}
use Rattle.b2_rows.specs.CommaLists.{all_listed}
use Rattle.b2_stmt_var.specs.Lengths.{length_value}
use Rattle.b2_stmt_var.specs.declared.dimensions.Entry.{Entry}

-- the length of an alpha value where none is written is 16; a number has none
abbrev pub usual_length : Bool → ℕ
usual_length alpha = if alpha then 16 else 0

-- the length after a name alone
unfoldable pub length_alone : Context → Bool → Trees → Result ℕ ℕ
length_alone s alpha t = length_by (length_value s) (usual_length alpha) alpha t

-- the shape of a scalar, and of an entry
unfoldable pub lone_shape : Context → Bool → Trees → Result Shape ℕ
lone_shape s alpha t = length_alone s alpha t >>= (λ len. Ok (record { rows = 0; cols = 0; len = len }))

abbrev pub shape_after : Context → Bool → ℕ → Trees → Result Shape ℕ
shape_after s alpha n t = if n == 1 then array_shape s (usual_length alpha) alpha t else lone_shape s alpha t

-- whether there are such variables as a name speaks of
abbrev pub has_variables : Surroundings → Name → Bool
has_variables e name = not name.global || is_some e.globals

-- an entry: X77 comes at its name, before its dimensions
abbrev pub entry_of : Context → Name → ℕ → Trees → Result Entry ℕ
entry_of s name n t = variables_of s.around name >>= (λ vars. shape_after s name.alpha n t >>= (λ shape. Ok (record { global = name.global; var = variable_of name (n == 1); shape = shape })))

unfoldable pub entry_named : Context → Bool → Trees → Result Entry ℕ
entry_named s alpha (Put token (In n t end)) = entry_of s (variable_name alpha (token_text token)) n t
entry_named s alpha t = Err S20_VARIABLE

unfoldable pub entry_in : Context → Trees → Result Entry ℕ
entry_in s (In n a end) = entry_named s (n == 1) a
entry_in s t = Err S20_VARIABLE

-- what makes it, with COM as a common variable
abbrev pub entry_code : Bool → Entry → VarsState → Option ℕ
entry_code true e old = com_code e.var e.shape old
entry_code false e old = dim_code e.var e.shape old

abbrev pub with_entry : Bool → Entry → VarsState → VarsState
with_entry common e old = record old { table = with_new e.var e.shape common old.table }

abbrev pub makes : Bool → Entry → VarsState → Assigned
makes common e old = unless_refused (entry_code common e old) old (record { vars = with_entry common e old; code = None })

abbrev pub makes_found : Bool → Result Entry ℕ → WorkState → WorkLeft
makes_found common (Ok e) w = among e.global (makes common e) w
makes_found common (Err code) w = refused code w

abbrev pub makes_one : Bool → Trees → WorkState → WorkLeft
makes_one common t w = makes_found common (entry_in (context_of w) t) w

abbrev pub is_com : Trees → Bool
is_com (Put dim entries) = token_code dim == word.COM
is_com t = false

abbrev pub entries_of : Trees → List Trees
entries_of (Put dim entries) = all_listed entries
entries_of t = []

-- they are made from left to right, each among the variables as they then are
abbrev pub dimensions : Trees → WorkState → WorkLeft
dimensions t w = assign_each (makes_one (is_com t)) (entries_of t) w
