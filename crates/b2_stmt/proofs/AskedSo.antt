-- What a statement of control asks for, and what it asks of the private state, together: by the access it is known which of these it was.
use Rattle.std.proofs.Common.{◌≡◌, ◌∙◌, ◌==◌, ◌||◌, ◌&&◌, ℕ, Bool, true, false, not, List, Option, Some, None, Result, Ok, Err, is_some, refl, ap, subst, if◌then◌else◌}
use Rattle.b2_base.specs.declared.codes.TheConstants.{S26_PROGRAM_ONLY}
use Rattle.b2_dec.specs.declared.values.Value.{Value}
use Rattle.b2_atom.specs.Tree.{Trees}
use Rattle.b2_atom.specs.declared.rows.TheConstants as row
use Rattle.b2_expr.specs.Scope.{Context}
use Rattle.b2_flow.specs.Stacks.{entered_last, has_room}
use Rattle.b2_flow.specs.declared.frame.Place.{Place}
use Rattle.b2_text.specs.Program.{Lines}
use Rattle.b2_text.specs.Spots.{first_opening, is_mark, or_else}
use Rattle.b2_text.specs.declared.spots.Spot.{Spot}
use Rattle.b2_access.specs.Borrowers.{homes_entered}
use Rattle.b2_access.specs.Dispatch.{Here, dispatch, dispatch_at, here}
use Rattle.b2_access.specs.Homes.{at_homes}
use Rattle.b2_access.specs.Lending.{SeenLent}
use Rattle.b2_access.specs.Partition.{runs_program}
use Rattle.b2_access.specs.Placed.{Statement, statement_placed}
use Rattle.b2_access.specs.Planning.{Planning}
use Rattle.b2_access.specs.Steering.{Steered}
use Rattle.b2_access.specs.Standing.{PlaceStands, Stands, is_open}
use Rattle.b2_access.specs.declared.accesses.Access.{Access}
use Rattle.b2_access.specs.declared.accesses.Access.TheVariants as access
use Rattle.b2_access.specs.declared.planned.Outcome.{Outcome}
use Rattle.b2_access.specs.declared.planned.Outcome.TheVariants as outcome
use Rattle.b2_access.specs.declared.planned.Planned.{Planned as PlannedState}
use Rattle.b2_access.specs.declared.planned.Planned.TheVariants as planned
use Rattle.b2_access.specs.declared.private.Private.{Private}
use Rattle.b2_access.proofs.Choice.{either}
use Rattle.b2_access.proofs.Dispatch.{each_dispatch}
use Rattle.std.specs.Option.{option_map, option_map_or}
use Rattle.b2_stmt.specs.Asked.{Asks, asked_of, asks_choice, asks_loop, asks_mark, asks_on, asks_pass, body_place, is_still, line_chosen, place_after}
use Rattle.b2_stmt.specs.Breaks.{turns_to_pass}
use Rattle.b2_stmt.specs.Arguments.{arguments, operands_of}
use Rattle.b2_stmt.specs.Borrowing.{asks_of_others, asks_selected, asks_to_drop, asks_to_enter, asks_to_leave, finds_line}
use Rattle.b2_stmt.specs.Calls.{may_forget_all}
use Rattle.b2_stmt.specs.Choices.{calls_a_line, choice_in}
use Rattle.b2_stmt.specs.Loops.{loop_in}
use Rattle.b2_stmt.specs.Marked.{ends_with_args, mark_in, mark_place, number_called, place_in, takes_args}
use Rattle.b2_stmt.specs.Plan.{acts, acts_unless, around, asked_at, asked_by, by_access, does, is_refused, plan, plans_asked, stops}
use Rattle.b2_stmt.specs.declared.asked.Asked.{Asked}
use Rattle.b2_stmt.specs.declared.asked.Asked.TheVariants as asked
use Rattle.b2_stmt.specs.declared.loops.Loop.{Loop}
use Rattle.b2_stmt.proofs.Erased.{each_erased}
use Rattle.b2_stmt.proofs.HomesKept.{AskedIn, asked_in}
use Rattle.b2_stmt.proofs.PartsCame.{each_asked}

either_two : {A B : Type 0} (F : A → B → Type 0) (b : Bool) (x y : A) (u v : B) → (b ≡ true → F x u) → (b ≡ false → F y v) → F (if b then x else y) (if b then u else v)
either_two F true x y u v one two = one refl
either_two F false x y u v one two = two refl

-- at one place
module _ (me : Private) (s : SeenLent) (F : Planning → Asked → Type 0) (stopped : (o : Outcome) → F (stops me s o) (asked.Nothing o))
    (each : (q : Place) → me.place ≡ Some q → (u : Statement) → is_refused u.row (is_some q.line) ≡ false → F (does me s u (here q me s)) (asked_by u (here q me s) me s)) where
  at_unit : (q : Place) → me.place ≡ Some q → (o : Option Statement)
      → F (dispatch_at is_refused (stops me s) (does me s) o (here q me s)) (dispatch_at is_refused asked.Nothing (λ u h. asked_by u h me s) o (here q me s))
  at_unit q is None = stopped outcome.Ready
  at_unit q is (Some u) = either_two F (is_refused u.row (is_some q.line)) _ _ _ _ (λ no. stopped (outcome.Failed S26_PROGRAM_ONLY)) (λ no. each q is u no)

  at_place : (o : Option Place) → me.place ≡ o → F (dispatch is_refused (stops me s) (does me s) o me s) (dispatch is_refused asked.Nothing (λ u h. asked_by u h me s) o me s)
  at_place None is = stopped outcome.Ready
  at_place (Some q) is = at_unit q is (statement_placed q me.immediate s.home.lines)

  pub each_both : F (plan me s) (asked_at me s)
  each_both = at_place me.place refl

-- RETURN is for programs alone
NotReturn : Asked → Type 0
NotReturn asked.Return = ⊥
NotReturn x = Unit {0}

other_not : (F : Asks → Type 0) (b : Bool) (x y : Asks) → b ≡ false → F y → F (if b then x else y)
other_not F true x y is h = cc
other_not F false x y is h = h

module _ (t : Trees) (h : Here) (s : Context) (lines : Lines) where
  loop_not : (l : Result Loop ℕ) (body : Place) → NotReturn (asks_loop l body)
  unfolding NotReturn
  loop_not (Ok l) body = tt
  loop_not (Err code) body = tt

  mark_not : (n : ℕ) (args : Result (List Value) ℕ) (back : Option Place) → NotReturn (asks_mark n args back)
  unfolding NotReturn
  mark_not n (Ok args) back = tt
  mark_not n (Err code) back = tt

  chosen_not : (goto : Bool) (n : Option ℕ) → NotReturn (line_chosen goto n h lines)
  unfolding NotReturn
  chosen_not true None = tt
  chosen_not true (Some n) = tt
  chosen_not false None = tt
  chosen_not false (Some n) = tt

  choice_not : (r : Result (Bool × Option ℕ) ℕ) → NotReturn (asks_choice r h lines)
  unfolding NotReturn
  choice_not (Ok p) = chosen_not p.0 p.1
  choice_not (Err code) = tt

  on_not : NotReturn (asks_on t h s lines)
  unfolding NotReturn
  on_not = either NotReturn (calls_a_line t && not (is_some h.place.line)) _ _ tt (choice_not (choice_in s t))

  pass_not : (turns : Result ℕ ℕ) → NotReturn (asks_pass turns)
  unfolding NotReturn
  pass_not (Ok turns) = tt
  pass_not (Err code) = tt

  no_return : (r : ℕ) → (r == row.RETURN) ≡ false → NotReturn (asked_of r t h s lines)
  unfolding NotReturn
  no_return r other =
      let F : Asks → Type 0 = λ asks. NotReturn (asks t h s lines) in
      either F (r == row.FOR) _ _ (loop_not (loop_in s t) (body_place h lines))
      (either F (r == row.NEXT) _ _ tt
      (either F (r == row.GOSUB) _ _ tt
      (either F (r == row.GOSUB_MARKED) _ _ (mark_not (number_called t) (arguments s (operands_of t)) (place_after h lines))
      (other_not F (r == row.RETURN) _ _ other
      (either F (r == row.RETURN_CLEAR) _ _ tt
      (either F (r == row.ON) _ _ on_not
      (either F (r == row.STOP) _ _ tt
      (either F (r == row.RUN) _ _ tt
      (either F (r == row.CONTINUE) _ _ tt
      (either F (r == row.SELECT) _ _ tt
      (either F (r == row.SELECT_NO_ROUND) _ _ tt
      (either F (r == row.BREAK) _ _ (pass_not (turns_to_pass s t)) tt))))))))))))

-- in an immediate line it is refused
not_there : (a b c d e f g : Bool) → (a || b || c || d || e || f || g) ≡ false → c ≡ false
not_there true b c d e f g is = cc
not_there false true c d e f g is = cc
not_there false false true d e f g is = cc
not_there false false false d e f g is = refl

program_runs : (me : Private) (q : Place) → me.place ≡ Some q → is_some q.line ≡ true → runs_program me ≡ true
program_runs me q is line = ap (λ (o : Option Place). option_map_or (λ (p : Place). is_some p.line) o false) is ∙ line

-- what it asks of the private state is a RETURN only where the program runs
IfReturns : Private → Asked → Type 0
IfReturns me asked.Return = runs_program me ≡ true
IfReturns me x = Unit {0}

runs_then : (me : Private) (x : Asked) → runs_program me ≡ true → IfReturns me x
unfolding IfReturns
runs_then me asked.Return runs = runs
runs_then me x runs = tt

none_then : (me : Private) (x : Asked) → NotReturn x → IfReturns me x
unfolding IfReturns NotReturn
none_then me asked.Return other = absurd other
none_then me x other = tt

-- WHY IT ASKS, at a place: what it asks of the private state, the frames, and where it has looked
module _ (me : Private) (s : SeenLent) where
  -- GOSUB' enters a text at a DEFFN' that the own text doesn't have, where there is room for a frame
  unfoldable pub Calls : ℕ → Asked → Type 0
  Calls mark (asked.CallMark n args back) = (has_room me.stack ≡ true) × (first_opening (is_mark mark) s.own.lines ≡ None)
  Calls mark x = ⊥

  -- RETURN CLEAR ALL and RUN give all back where they are carried out
  unfoldable pub GivesBack : Place → Asked → Type 0
  GivesBack q (asked.Forget all) = (all && may_forget_all q me) ≡ true
  GivesBack q (asked.Run n) = finds_line n s.own.lines ≡ true
  GivesBack q x = ⊥

  unfoldable pub AskedFor : Place → Access → Asked → Type 0
  AskedFor q (access.ClearAll name homes) x = homes ≡ homes_entered me.stack
  AskedFor q (access.Erase from to homes) x = homes ≡ homes_entered me.stack
  AskedFor q (access.Declare name old) x = Unit {0}
  AskedFor q (access.FindPart name) x = Unit {0}
  AskedFor q (access.Enter name mark) x = Calls mark x
  AskedFor q (access.Leave home) x = (entered_last me.stack ≡ Some home) × (runs_program me ≡ true)
  AskedFor q (access.Drop homes) x = (homes ≡ homes_entered me.stack) × GivesBack q x
  AskedFor q a x = ⊥

  AskedAny : Place → Option Access → Asked → Type 0
  AskedAny q None x = Unit {0}
  AskedAny q (Some a) x = AskedFor q a x

  -- by what it asks for at the texts of others
  leaves_so : (q : Place) (o : Option ℕ) → entered_last me.stack ≡ o → runs_program me ≡ true → AskedAny q (asks_to_leave o) asked.Return
  unfolding AskedAny AskedFor
  leaves_so q None is runs = tt
  leaves_so q (Some home) is runs = (is, runs)

  drops_so : (q : Place) (goes : Bool) (x : Asked) → (goes ≡ true → GivesBack q x) → AskedAny q (asks_to_drop goes me) x
  unfolding AskedAny AskedFor
  drops_so q true x why = (refl, why refl)
  drops_so q false x why = tt

  -- it isn't in the own text where it is in neither
  not_own : (o q : Option Place) → or_else o q ≡ None → q ≡ None
  not_own None q none = none
  not_own (Some p) q none = cc

  no_spot : (part : ℕ) (o : Option Spot) → option_map (place_in part) o ≡ None → o ≡ None
  no_spot part None none = refl
  no_spot part (Some spot) none = cc

  selects_so : (q : Place) (n : ℕ) (args : List Value) (back : Option Place) (o : Option (List ℕ)) → has_room me.stack ≡ true → first_opening (is_mark n) s.own.lines ≡ None
      → AskedAny q (asks_selected n o) (asked.CallMark n args back)
  unfolding AskedAny AskedFor Calls
  selects_so q n args back None room none = tt
  selects_so q n args back (Some name) room none = (room, none)

  room_so : (q : Place) (n : ℕ) (args : List Value) (back : Option Place) (b : Bool) → has_room me.stack ≡ b → first_opening (is_mark n) s.own.lines ≡ None
      → AskedAny q (if b then asks_selected n me.global else None) (asked.CallMark n args back)
  unfolding AskedAny
  room_so q n args back true room none = selects_so q n args back me.global room none
  room_so q n args back false room none = tt

  enters_so : (q : Place) (n : ℕ) (args : List Value) (back : Option Place) (o : Option Place) → mark_place n q me.part s.own.lines s.home.lines ≡ o → AskedAny q (asks_to_enter n o me) (asked.CallMark n args back)
  unfolding AskedAny
  enters_so q n args back (Some to) is = tt
  enters_so q n args back None is =
      room_so q n args back (has_room me.stack) refl (no_spot me.part (first_opening (is_mark n) s.own.lines) (not_own (mark_in q.home n s.home.lines) (mark_in me.part n s.own.lines) is))

  others_so : (x : Asked) (q : Place) → IfReturns me x → AskedAny q (asks_of_others x q me s.own.lines s.home.lines) x
  unfolding AskedAny IfReturns GivesBack
  others_so asked.Return q runs = leaves_so q (entered_last me.stack) refl runs
  others_so (asked.Forget all) q runs = drops_so q (all && may_forget_all q me) (asked.Forget all) (λ goes. goes)
  others_so (asked.Run n) q runs = drops_so q (finds_line n s.own.lines) (asked.Run n) (λ goes. goes)
  others_so (asked.CallMark n args back) q runs = enters_so q n args back (mark_place n q me.part s.own.lines s.home.lines) refl
  others_so x q runs = tt

  -- what it plans
  unfoldable pub Because : PlannedState → Asked → Type 0
  Because (planned.Done o) x = Unit {0}
  Because (planned.Ask a) x = (q : Place) × (me.place ≡ Some q) × AskedFor q a x

  by_access_so : (q : Place) → me.place ≡ Some q → (o : Option Access) (e : Steered) (x : Asked) → AskedAny q o x → Because (by_access o s me e).planned x
  unfolding Because AskedAny
  by_access_so q is None e x why = tt
  by_access_so q is (Some a) e x why = (q, is, why)

  acts_so : (q : Place) → me.place ≡ Some q → (u : Statement) (h : Here) → IfReturns me (asked_by u (here q me s) me s) → Because (acts u (here q me s) me s).planned (asked_by u (here q me s) me s)
  unfolding Because
  acts_so q is u h returns =
      let x = asked_by u (here q me s) me s in
      let F : Planning → Type 0 = λ p. Because p.planned x in
      either F (is_still u.row) _ _ tt
      (either F (u.row == row.DEFFN_MARKED) (ends_with_args (takes_args u.tree me s) me s) (plans_asked x q me s) tt
      (by_access_so q is (asks_of_others x q me s.own.lines s.home.lines) _ x (others_so x q returns)))

  does_so : (q : Place) → me.place ≡ Some q → (u : Statement) → IfReturns me (asked_by u (here q me s) me s) → Because (does me s u (here q me s)).planned (asked_by u (here q me s) me s)
  unfolding Because AskedFor
  does_so q is u returns =
      let x = asked_by u (here q me s) me s in
      let F : Option Access → Type 0 = λ o. Because (acts_unless o u (here q me s) me s).planned x in
      let homes = homes_entered me.stack in
      each_asked F (acts_so q is u (here q me s) returns) homes (λ name. (q, is, refl)) (λ t. each_erased (λ (a : Access). F (Some a)) homes (λ from to. (q, is, refl)) t) (λ name old. (q, is, tt)) (λ name. (q, is, tt))
      u.row u.tree me.declared

  returns_so : (q : Place) (u : Statement) (b : Bool) → me.place ≡ Some q → is_some q.line ≡ b → is_refused u.row b ≡ false → IfReturns me (asked_by u (here q me s) me s)
  returns_so q u true is line allowed = runs_then me (asked_by u (here q me s) me s) (program_runs me q is line)
  returns_so q u false is line allowed =
      none_then me (asked_by u (here q me s) me s) (no_return u.tree (here q me s) (around me s) s.home.lines u.row
      (not_there (u.row == row.GOSUB) (u.row == row.GOSUB_MARKED) (u.row == row.RETURN) (u.row == row.RETURN_CLEAR) (u.row == row.DATA) (u.row == row.DEFFN) (u.row == row.DEFFN_MARKED) allowed))

  plan_so : Because (plan me s).planned (asked_at me s)
  unfolding Because
  plan_so = each_both me s (λ (p : Planning) (x : Asked). Because p.planned x) (λ o. tt) (λ q is u allowed. does_so q is u (returns_so q u (is_some q.line) is refl allowed))

  pub asked_so : (a : Access) → (plan me s).planned ≡ planned.Ask a → (q : Place) × (me.place ≡ Some q) × AskedFor q a (asked_at me s)
  unfolding Because
  asked_so a is = subst (λ (p : PlannedState). Because p (asked_at me s)) is plan_so

  -- and what it asks of the private state names only texts that are open to it
  pub asked_open : Stands me → AskedIn (at_homes (is_open me.part me.stack)) (asked_at me s)
  unfolding AskedIn
  asked_open w =
      each_dispatch is_refused asked.Nothing (λ u h. asked_by u h me s) me s (AskedIn (at_homes (is_open me.part me.stack))) tt tt
      (λ q is u. asked_in (at_homes (is_open me.part me.stack)) u.row u.tree (here q me s) (around me s) s.home.lines (subst (PlaceStands me.part me.stack) is w.place))
