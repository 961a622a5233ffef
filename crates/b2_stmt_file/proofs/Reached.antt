-- A statement on data files changes the `@` variables only where a receiver of DATALOAD DC among them is reached.
use Rattle.std.proofs.Common.{◌==◌, ◌+◌, ℕ, zero, suc, List, [], ◌∷◌, slice_get, Option, Some, None, Result, Ok, Err}
use Rattle.b2_dec.specs.declared.values.Value.{Value}
use Rattle.b2_atom.specs.Tree.{Trees}
use Rattle.b2_atom.specs.Tree.Trees.{Done, Put, In}
use Rattle.b2_atom.specs.declared.rows.TheConstants as row
use Rattle.b2_vars.specs.Globals.{Globals, MayBecome}
use Rattle.b2_vars.specs.Tables.{VarsState}
use Rattle.b2_vars.specs.Shapes.{cells}
use Rattle.b2_vars.specs.Tables.{shape_at}
use Rattle.b2_vars.specs.declared.shape.Shape.{Shape}
use Rattle.b2_expr.specs.Kinds.{suits}
use Rattle.b2_expr.specs.Value.{context_of}
use Rattle.b2_expr.specs.Workspace.{WorkState, surroundings_of, work_in}
use Rattle.b2_expr.proofs.Reached.{after_both, stay}
use Rattle.b2_receiver.specs.Assigning.{is_alpha_receiver}
use Rattle.b2_receiver.specs.Receiving.{given_value}
use Rattle.b2_receiver.specs.declared.receiver.Array.{Array}
use Rattle.b2_receiver.specs.declared.receiver.Receiver.{Receiver}
use Rattle.b2_receiver.proofs.Reached.{given_value_reaches}
use Rattle.b2_base.specs.declared.codes.TheConstants.{X74_OTHER_KIND}
use Rattle.b2_access.specs.Lending.{SeenLent}
use Rattle.b2_access.specs.Partition.{setting_of}
use Rattle.b2_access.specs.Views.{loading_came}
use Rattle.b2_access.specs.Working.{EachReaches, FileWorked, PlansEachReach, Working, globals_after, on_files, stops, told_of_globals}
use Rattle.b2_access.specs.declared.accesses.Access.{Access}
use Rattle.b2_access.specs.declared.accesses.Answer.{Answer}
use Rattle.b2_access.specs.declared.devices.Device.{Device}
use Rattle.b2_access.specs.declared.private.Private.{Private}
use Rattle.b2_access.proofs.Choice.{either}
use Rattle.b2_access.proofs.Dispatch.{each_dispatch}
use Rattle.b2_stmt_file.specs.FileAnswers.{by_loading, values_in}
use Rattle.b2_stmt_file.specs.Elements.{array_variables, receiver_of}
use Rattle.b2_stmt_file.specs.LoadedValues.{Taken, each_takes, elements_take, item_located, item_takes, none_taken, shaped_takes, taken_by, takes_at, takes_next, takes_to, takes_value, then_takes, unless_ended}
use Rattle.b2_stmt_file.specs.Loading.{globals_told, items_loaded, load_ends, loading_ends, takes_by}
use Rattle.b2_stmt_file.specs.Plan.{does, ends, finishes, is_refused, repeats, works}
use Rattle.b2_stmt_file.specs.declared.file_answers.Came.{Came}
use Rattle.b2_stmt_file.specs.declared.file_answers.Came.TheVariants as came
use Rattle.b2_stmt_file.specs.declared.loaded_values.Item.{Item}
use Rattle.b2_stmt_file.specs.declared.loaded_values.Item.TheVariants as item
use Rattle.b2_stmt_file.proofs.Planned.{each_ended}

-- receivers that take values
abbrev TakesReach : (WorkState → ℕ → Taken) → Type 0
TakesReach takes = (w : WorkState) (i : ℕ) → MayBecome w.globals (takes w i).work.globals

unless_reaches : (code : Option ℕ) (g : Globals) (r : Taken) (more : WorkState → ℕ → Taken) → MayBecome g r.work.globals → TakesReach more → MayBecome g (unless_ended code r more).work.globals
unless_reaches None g r more before later = after_both g r.work.globals (more r.work r.next).work.globals before (later r.work r.next)
unless_reaches (Some code) g r more before later = before

then_reaches : (g : Globals) (r : Taken) (more : WorkState → ℕ → Taken) → MayBecome g r.work.globals → TakesReach more → MayBecome g (then_takes r more).work.globals
then_reaches g r more before later = unless_reaches r.code g r more before later

value_reaches : (to : Receiver) (o : Option Value) → TakesReach (takes_value to o)
value_reaches to None w i = stay w.globals
value_reaches to (Some x) w i =
    either (λ (t : Taken). MayBecome w.globals t.work.globals) (suits (is_alpha_receiver to) x) (taken_by (given_value to x w) (i + 1)) (none_taken X74_OTHER_KIND w i)
    (given_value_reaches to x w) (stay w.globals)

next_reaches : (to : Receiver) (values : List Value) → TakesReach (takes_next to values)
next_reaches to values w i = value_reaches to (slice_get values i) w i

elements_reach : (a : Array) (s : Shape) (values : List Value) (k n : ℕ) → TakesReach (elements_take a s values k n)
elements_reach a s values k zero w i = stay w.globals
elements_reach a s values k (suc n) w i =
    then_reaches w.globals (takes_next (receiver_of a s k) values w i) (elements_take a s values (k + 1) n) (next_reaches (receiver_of a s k) values w i) (elements_reach a s values (k + 1) n)

shaped_reaches : (r : Result VarsState ℕ) (a : Array) (values : List Value) → TakesReach (shaped_takes r a values)
shaped_reaches (Ok vars) a values w i = elements_reach a (shape_at a.var vars.table) values 0 (cells (shape_at a.var vars.table)) w i
shaped_reaches (Err code) a values w i = stay w.globals

at_reaches : (to : Item) (values : List Value) → TakesReach (takes_at to values)
at_reaches (item.Whole a) values w i = shaped_reaches (array_variables (surroundings_of w) a) a values w i
at_reaches (item.One to) values w i = next_reaches to values w i

to_reaches : (r : Result Item ℕ) (values : List Value) → TakesReach (takes_to r values)
to_reaches (Ok to) values w i = at_reaches to values w i
to_reaches (Err code) values w i = stay w.globals

item_reaches : (values : List Value) (t : Trees) → TakesReach (item_takes values t)
item_reaches values t w i = to_reaches (item_located (context_of w) t) values w i

each_reaches : (values : List Value) (ts : List Trees) → TakesReach (each_takes values ts)
each_reaches values [] w i = stay w.globals
each_reaches values (t ∷ ts) w i = then_reaches w.globals (item_takes values t w i) (each_takes values ts) (item_reaches values t w i) (each_reaches values ts)

-- what a statement tells of them as it finishes
abbrev Tells : Globals → FileWorked → Type 0
Tells g w = MayBecome g (globals_after w.work.work.globals g)

load_tells : (c : Came) (values : List Value) (ts : List Trees) (w : WorkState) → MayBecome w.globals (globals_after (globals_told c (takes_by c values ts w).work.globals) w.globals)
load_tells (came.File s) values ts w = each_reaches values ts w 0
load_tells (came.Refused code) values ts w = stay w.globals
load_tells came.Ended values ts w = stay w.globals
load_tells came.Later values ts w = stay w.globals

loading_tells : (x : Access) (a : Answer) (t : Trees) (me : Private) (s : SeenLent) → Tells s.globals (loading_ends x a t me s)
loading_tells x a Done me s = stay s.globals
loading_tells x a (In n u t) me s = stay s.globals
loading_tells x a (Put word Done) me s = stay s.globals
loading_tells x a (Put word (In n u t)) me s = stay s.globals
loading_tells x a (Put word (Put dc Done)) me s = stay s.globals
loading_tells x a (Put word (Put dc (Put v t))) me s = stay s.globals
loading_tells x a (Put word (Put dc (In k operands end))) me s =
    either (Tells s.globals) (k == 1) _ (load_ends (by_loading (loading_came x a)) (values_in (loading_came x a)) operands me s) (stay s.globals)
    (load_tells (by_loading (loading_came x a)) (values_in (loading_came x a)) (items_loaded operands) (work_in (setting_of me) s.home me.vars s.globals))

pub plans_reach : (devices : List Device) → PlansEachReach (works devices)
plans_reach devices me s =
    let F : Working → Type 0 = λ k. MayBecome s.globals (globals_after (told_of_globals k) s.globals) in
    each_dispatch is_refused stops (does devices me s) me s F (stay s.globals) (stay s.globals) (λ p is u. either F (u.row == row.IF_END) _ _ (stay s.globals) (stay s.globals))

pub finishes_reach : EachReaches on_files ends
finishes_reach x a me s =
    each_dispatch is_refused (repeats me) (finishes x a me s) me s (Tells s.globals) (stay s.globals) (stay s.globals) (λ p is u.
    each_ended (Tells s.globals) x a me s (λ t. stay s.globals) (λ t. loading_tells x a t me s) (λ t. stay s.globals) (stay s.globals) u)
