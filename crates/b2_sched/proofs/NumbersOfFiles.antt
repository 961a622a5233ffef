-- Statements on data files leave numbers, where the values that are loaded are numbers.
use Rattle.std.proofs.Common.{ℕ, zero, suc, ◌+◌, ◌==◌, List, [], ◌∷◌, slice_get, Option, Some, None, IfSome, Result, Ok, Err}
use Rattle.std.specs.List.{All}
use Rattle.std.proofs.lemmas.List.Elements.{All-head, All-nil, All-tail}
use Rattle.b2_base.specs.declared.codes.TheConstants.{X74_OTHER_KIND}
use Rattle.b2_dec.specs.declared.values.Value.{Value}
use Rattle.b2_atom.specs.Tree.{Trees}
use Rattle.b2_atom.specs.Tree.Trees.{Put, In}
use Rattle.b2_atom.specs.declared.rows.TheConstants as row
use Rattle.b2_vars.specs.Globals.{Globals}
use Rattle.b2_vars.specs.Shapes.{cells}
use Rattle.b2_vars.specs.Tables.{VarsState, shape_at}
use Rattle.b2_vars.specs.declared.shape.Shape.{Shape}
use Rattle.b2_expr.specs.Kinds.{suits}
use Rattle.b2_expr.specs.Value.{context_of}
use Rattle.b2_expr.specs.Workspace.{WorkState, surroundings_of, work_in}
use Rattle.b2_receiver.specs.Assigning.{is_alpha_receiver}
use Rattle.b2_receiver.specs.Receiving.{given_value}
use Rattle.b2_receiver.specs.declared.receiver.Array.{Array}
use Rattle.b2_receiver.specs.declared.receiver.Receiver.{Receiver}
use Rattle.b2_access.specs.Lending.{SeenLent}
use Rattle.b2_access.specs.Partition.{setting_of}
use Rattle.b2_access.specs.Placed.{Statement}
use Rattle.b2_access.specs.Views.{loading_came}
use Rattle.b2_access.specs.Working.{FileWorked, stops}
use Rattle.b2_access.specs.declared.accesses.Access.{Access}
use Rattle.b2_access.specs.declared.accesses.Access.TheVariants as access
use Rattle.b2_access.specs.declared.accesses.Answer.{Answer}
use Rattle.b2_access.specs.declared.accesses.Answer.TheVariants as answer
use Rattle.b2_access.specs.declared.devices.Device.{Device}
use Rattle.b2_access.specs.declared.private.Private.{Private}
use Rattle.b2_access.proofs.Choice.{either}
use Rattle.b2_access.proofs.Dispatch.{each_dispatch}
use Rattle.b2_stmt_file.specs.FileAnswers.{by_loading, values_in}
use Rattle.b2_stmt_file.specs.Elements.{array_variables, receiver_of}
use Rattle.b2_stmt_file.specs.LoadedValues.{Taken, each_takes, elements_take, item_located, item_takes, none_taken, shaped_takes, taken_by, takes_next, takes_to, takes_value, then_takes, unless_ended}
use Rattle.b2_stmt_file.specs.Loading.{globals_told, items_loaded, load_ends, loading_ends, takes_by}
use Rattle.b2_stmt_file.specs.Plan.{asks_for, does, ended_of, ends, finish, finishes, is_refused, plan, repeats, works}
use Rattle.b2_stmt_file.specs.SavedNumbers.{IsAnyNumber}
use Rattle.b2_stmt_file.specs.declared.file_answers.Came.{Came}
use Rattle.b2_stmt_file.specs.declared.file_answers.Came.TheVariants as came
use Rattle.b2_stmt_file.specs.declared.loaded_values.Item.{Item}
use Rattle.b2_stmt_file.specs.declared.loaded_values.Item.TheVariants as item
use Rattle.b2_stmt_file.proofs.Planned.{each_ended}
use Rattle.b2_sched.specs.Numbers.{AnswerHolds, FinishingHolds, GlobalsHold, PlanningHolds, PrivateHolds}
use Rattle.b2_sched.proofs.NumbersAssigned.{WorkHolds, given_value_holds}
use Rattle.b2_sched.proofs.NumbersPut.{Keeps, PutHolds, WorkingHolds, after_holds, planned_holds, work_of_holds, works_in}

pub files_plan_numbers : (devices : List Device) (me : Private) (s : SeenLent) → PrivateHolds me → GlobalsHold s.globals → PlanningHolds (plan devices me s)
files_plan_numbers devices me s h g =
    planned_holds me s (works devices me s) h g
    (each_dispatch is_refused stops (does devices me s) me s WorkingHolds tt tt (λ p is u. either WorkingHolds (u.row == row.IF_END) _ (asks_for devices u me s) tt tt))

-- receivers take values that are numbers
abbrev TakenHolds : Taken → Type 0
TakenHolds r = WorkHolds r.work

unless_holds : (code : Option ℕ) (r : Taken) (more : WorkState → ℕ → Taken) → TakenHolds r → ((w : WorkState) (i : ℕ) → WorkHolds w → TakenHolds (more w i)) → TakenHolds (unless_ended code r more)
unless_holds None r more h k = k r.work r.next h
unless_holds (Some code) r more h k = h

then_holds : (r : Taken) (more : WorkState → ℕ → Taken) → TakenHolds r → ((w : WorkState) (i : ℕ) → WorkHolds w → TakenHolds (more w i)) → TakenHolds (then_takes r more)
then_holds r more h k = unless_holds r.code r more h k

value_at : (values : List Value) (i : ℕ) → All IsAnyNumber values → IfSome (slice_get values i) IsAnyNumber
value_at [] i are = tt
value_at (x ∷ xs) zero are = All-head IsAnyNumber x xs are
value_at (x ∷ xs) (suc i) are = value_at xs i (All-tail IsAnyNumber x xs are)

value_taken : (to : Receiver) (o : Option Value) (w : WorkState) (i : ℕ) → IfSome o IsAnyNumber → WorkHolds w → TakenHolds (takes_value to o w i)
value_taken to None w i is h = h
value_taken to (Some x) w i is h =
    either TakenHolds (suits (is_alpha_receiver to) x) (taken_by (given_value to x w) (i + 1)) (none_taken X74_OTHER_KIND w i) (given_value_holds to x is w h) h

module _ (values : List Value) (are : All IsAnyNumber values) where
  next_taken : (to : Receiver) (w : WorkState) (i : ℕ) → WorkHolds w → TakenHolds (takes_next to values w i)
  next_taken to w i h = value_taken to (slice_get values i) w i (value_at values i are) h

  elements_taken : (a : Array) (shape : Shape) (k n : ℕ) (w : WorkState) (i : ℕ) → WorkHolds w → TakenHolds (elements_take a shape values k n w i)
  elements_taken a shape k zero w i h = h
  elements_taken a shape k (suc n) w i h =
      let to = receiver_of a shape k in
      then_holds (takes_next to values w i) (elements_take a shape values (k + 1) n) (next_taken to w i h) (elements_taken a shape (k + 1) n)

  shaped_taken : (r : Result VarsState ℕ) (a : Array) (w : WorkState) (i : ℕ) → WorkHolds w → TakenHolds (shaped_takes r a values w i)
  shaped_taken (Ok vars) a w i h = let shape = shape_at a.var vars.table in elements_taken a shape 0 (cells shape) w i h
  shaped_taken (Err code) a w i h = h

  located_taken : (r : Result Item ℕ) (w : WorkState) (i : ℕ) → WorkHolds w → TakenHolds (takes_to r values w i)
  located_taken (Ok (item.Whole a)) w i h = shaped_taken (array_variables (surroundings_of w) a) a w i h
  located_taken (Ok (item.One to)) w i h = next_taken to w i h
  located_taken (Err code) w i h = h

  each_taken : (ts : List Trees) (w : WorkState) (i : ℕ) → WorkHolds w → TakenHolds (each_takes values ts w i)
  each_taken [] w i h = h
  each_taken (t ∷ ts) w i h = then_holds (item_takes values t w i) (each_takes values ts) (located_taken (item_located (context_of w) t) w i h) (each_taken ts)

  taken_by_came : (c : Came) (ts : List Trees) → Keeps (takes_by c values ts)
  taken_by_came (came.File file) ts w h = each_taken ts w 0 h
  taken_by_came (came.Refused code) ts w h = h
  taken_by_came came.Ended ts w h = h
  taken_by_came came.Later ts w h = h

-- how a statement finishes
abbrev EndedHolds : FileWorked → Type 0
EndedHolds w = PutHolds w.work.work

loaded_are : (x : Access) (a : Answer) → AnswerHolds a → All IsAnyNumber (values_in (loading_came x a))
loaded_are (access.DataLoad slot kinds) (answer.Values values place) are = are
loaded_are x a are = All-nil IsAnyNumber

told_hold : (c : Came) (g : Globals) → GlobalsHold g → IfSome (globals_told c g) GlobalsHold
told_hold (came.File file) g h = h
told_hold (came.Refused code) g h = tt
told_hold came.Ended g h = tt
told_hold came.Later g h = tt

module _ (x : Access) (a : Answer) (me : Private) (s : SeenLent) (are : AnswerHolds a) (h : PrivateHolds me) (g : GlobalsHold s.globals) where
  load_holds : (operands : Trees) → EndedHolds (load_ends (by_loading (loading_came x a)) (values_in (loading_came x a)) operands me s)
  load_holds operands =
      let c = by_loading (loading_came x a) in
      let values = values_in (loading_came x a) in
      let w = work_in (setting_of me) s.home me.vars s.globals in
      let left = taken_by_came values (loaded_are x a are) c (items_loaded operands) w (works_in me s h g) in
      (left.0, told_hold c (takes_by c values (items_loaded operands) w).work.globals left.1, h.1)

  loading_holds : (t : Trees) → EndedHolds (loading_ends x a t me s)
  loading_holds (Put word (Put dc (In k operands end))) = either EndedHolds (k == 1) _ _ (work_of_holds me h) (load_holds operands)
  loading_holds t = work_of_holds me h

  statement_holds : (u : Statement) → EndedHolds (ended_of u x a me s)
  statement_holds u = each_ended EndedHolds x a me s (λ t. work_of_holds me h) (λ t. loading_holds t) (λ t. work_of_holds me h) (work_of_holds me h) u

  ends_hold : EndedHolds (ends x a me s)
  ends_hold = each_dispatch is_refused (repeats me) (finishes x a me s) me s EndedHolds (work_of_holds me h) (work_of_holds me h) (λ p is u. statement_holds u)

pub files_finish_numbers : (x : Access) (a : Answer) (me : Private) (s : SeenLent) → AnswerHolds a → PrivateHolds me → GlobalsHold s.globals → FinishingHolds (finish x a me s)
files_finish_numbers x a me s are h g =
    let k = ends_hold x a me s are h g in
    ((k.0, k.2), after_holds (ends x a me s).work.work.globals s.globals k.1 g)
