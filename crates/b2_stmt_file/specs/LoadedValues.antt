-- The receivers of values that are loaded: their kinds, and how they take the values.
use Rattle.std.specs.Prelude.{ℕ, zero, suc, ◌+◌, ◌==◌, List, [], ◌∷◌, replicate, slice_get, Option, Some, None, Result, Ok, Err, if◌then◌else◌}
use Rattle.b2_base.specs.declared.codes.TheConstants.{S20_VARIABLE, X70_TOO_LITTLE, X74_OTHER_KIND}
use Rattle.b2_dec.specs.declared.values.Kind.{Kind}
use Rattle.b2_dec.specs.declared.values.Kind.TheVariants as kind
use Rattle.b2_dec.specs.declared.values.Value.{Value}
use Rattle.b2_atom.specs.Tree.{Trees}
use Rattle.b2_atom.specs.Tree.Trees.{Done, In}
use Rattle.b2_atom.specs.Tree.{also}
use Rattle.b2_atom.specs.Words.{Text}
use Rattle.b2_atom.specs.declared.rows.TheConstants as row
use Rattle.b2_rows.specs.CommaLists.{commas, further_listed}
use Rattle.b2_rows.specs.Rows.{after_phrase, list_at, tree_at}
use Rattle.b2_vars.specs.declared.name.Var.{Var}
use Rattle.b2_vars.specs.declared.shape.Shape.{Shape}
use Rattle.b2_vars.specs.Shapes.{cells}
use Rattle.b2_vars.specs.Tables.{VarsState, shape_at}
use Rattle.b2_expr.specs.Answers.{◌>>=◌}
use Rattle.b2_expr.specs.Kinds.{suits}
use Rattle.b2_expr.specs.Scope.{Context, Surroundings}
use Rattle.b2_expr.specs.Value.{context_of}
use Rattle.b2_expr.specs.Workspace.{WorkLeft, WorkState, surroundings_of}
use Rattle.b2_receiver.specs.Assigning.{is_alpha_receiver}
use Rattle.b2_receiver.specs.Receivers.{IsArray, IsNamed, any_receiver, whole_array}
use Rattle.b2_receiver.specs.Receiving.{given_value}
use Rattle.b2_receiver.specs.declared.receiver.Array.{Array}
use Rattle.b2_receiver.specs.declared.receiver.Receiver.{Receiver}
use Rattle.b2_stmt_file.specs.declared.loaded_values.Item.{Item}
use Rattle.b2_stmt_file.specs.declared.loaded_values.Item.TheVariants as item
use Rattle.b2_stmt_file.specs.Elements.{array_variables, receiver_of, then_values}

-- the kinds of all elements of a whole array, which must be there
abbrev pub kind_of : Var → Kind
kind_of v = if v.alpha then kind.Alpha else kind.Number

abbrev pub kinds_among : Var → VarsState → List Kind
kinds_among v vars = replicate (cells (shape_at v vars.table)) (kind_of v)

abbrev pub array_kinds : Surroundings → Trees → Result (List Kind) ℕ
array_kinds e t = whole_array e t >>= (λ a. array_variables e a >>= (λ vars. Ok (kinds_among a.var vars)))

-- the kind of a receiver, which isn't located yet
abbrev pub receiver_kind : Trees → Kind
receiver_kind (In n t end) = if n == 1 then kind.Alpha else kind.Number
receiver_kind t = kind.Number

abbrev pub one_kind : Trees → Result (List Kind) ℕ
one_kind t = Ok (receiver_kind t ∷ [])

abbrev pub item_kinds : Surroundings → Trees → Result (List Kind) ℕ
item_kinds e (In n t end) = if n == 1 then array_kinds e t else one_kind t
item_kinds e t = Err S20_VARIABLE

abbrev pub all_kinds : Surroundings → List Trees → Result (List Kind) ℕ
all_kinds e [] = Ok []
all_kinds e (t ∷ ts) = then_values (item_kinds e t) (all_kinds e ts)

-- what receivers leave that take values: the variables, how many values were taken, and the code with which that ended or none
pub record Taken : Type 0 where
  pub work : WorkState
  pub next : ℕ
  pub code : Option ℕ

abbrev pub none_taken : ℕ → WorkState → ℕ → Taken
none_taken code w i = record { work = w; next = i; code = Some code }

abbrev pub taken_by : WorkLeft → ℕ → Taken
taken_by r i = record { work = r.work; next = i; code = r.code }

abbrev pub unless_ended : Option ℕ → Taken → (WorkState → ℕ → Taken) → Taken
unless_ended None r more = more r.work r.next
unless_ended (Some code) r more = r

abbrev pub then_takes : Taken → (WorkState → ℕ → Taken) → Taken
then_takes r more = unless_ended r.code r more

-- A receiver takes the next value. There is always one, of its kind: else it would be X70 or X74, as where DATA is read.
abbrev pub takes_value : Receiver → Option Value → WorkState → ℕ → Taken
takes_value to None w i = none_taken X70_TOO_LITTLE w i
takes_value to (Some x) w i = if suits (is_alpha_receiver to) x then taken_by (given_value to x w) (i + 1) else none_taken X74_OTHER_KIND w i

abbrev pub takes_next : Receiver → List Value → WorkState → ℕ → Taken
takes_next to values w i = takes_value to (slice_get values i) w i

abbrev pub element_takes : Array → Shape → ℕ → List Value → WorkState → ℕ → Taken
element_takes a s k values w i = takes_next (receiver_of a s k) values w i

-- n elements of an array from the k-th on, along rows
abbrev pub elements_take : Array → Shape → List Value → (k n : ℕ) → WorkState → ℕ → Taken
elements_take a s values k zero w i = record { work = w; next = i; code = None }
elements_take a s values k (suc n) w i = then_takes (takes_next (receiver_of a s k) values w i) (elements_take a s values (k + 1) n)

-- a whole array, or a receiver, is located among the variables as they then are
abbrev pub item_located : Context → Trees → Result Item ℕ
item_located e (In n t end) = if n == 1 then (whole_array e.around t >>= (λ a. Ok (item.Whole a))) else (any_receiver e t >>= (λ to. Ok (item.One to)))
item_located e t = Err S20_VARIABLE

-- the elements of an array take the next values, by its shape among the variables where it is
abbrev pub shaped_takes : Result VarsState ℕ → Array → List Value → WorkState → ℕ → Taken
shaped_takes (Ok vars) a values w i = elements_take a (shape_at a.var vars.table) values 0 (cells (shape_at a.var vars.table)) w i
shaped_takes (Err code) a values w i = none_taken code w i

abbrev pub array_takes : Array → List Value → WorkState → ℕ → Taken
array_takes a values w i = shaped_takes (array_variables (surroundings_of w) a) a values w i

abbrev pub takes_at : Item → List Value → WorkState → ℕ → Taken
takes_at (item.Whole a) values w i = array_takes a values w i
takes_at (item.One to) values w i = takes_next to values w i

abbrev pub takes_to : Result Item ℕ → List Value → WorkState → ℕ → Taken
takes_to (Ok to) values w i = takes_at to values w i
takes_to (Err code) values w i = none_taken code w i

abbrev pub item_takes : List Value → Trees → WorkState → ℕ → Taken
item_takes values t w i = takes_to (item_located (context_of w) t) values w i

-- what is known of the names in them
abbrev pub IsItem : Item → Type 0
IsItem (item.Whole a) = IsArray a.var
IsItem (item.One to) = IsNamed to

-- from left to right, up to one with a code
abbrev pub each_takes : List Value → List Trees → WorkState → ℕ → Taken
each_takes values [] w i = record { work = w; next = i; code = None }
each_takes values (t ∷ ts) w i = then_takes (item_takes values t w i) (each_takes values ts)

abbrev pub left_of : Taken → WorkLeft
left_of r = record { work = r.work; code = r.code }

abbrev pub all_take : List Value → List Trees → WorkState → WorkLeft
all_take values ts w = left_of (each_takes values ts w 0)

-- the items at a text, with commas between them
abbrev pub other_items : Text → List Trees
other_items t = further_listed (also (list_at commas row.COMMA_LOADED t) Done)

abbrev pub items_at : Text → List Trees
items_at t = tree_at row.LOADED t ∷ other_items (after_phrase row.LOADED t)
