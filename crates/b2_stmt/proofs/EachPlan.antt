-- What a statement of control plans and how it finishes, case by case: it asks for one of a few accesses, and nothing changes; or it has
-- ended, and what it changed is put back.
use Rattle.std.proofs.Common.{◌≡◌, ◌==◌, ◌&&◌, refl, ℕ, Bool, List, Option, Some, None}
use Rattle.b2_atom.specs.Tree.{Trees}
use Rattle.b2_atom.specs.declared.rows.TheConstants as row
use Rattle.b2_flow.specs.Stacks.{entered_last, has_room}
use Rattle.b2_flow.specs.declared.frame.Place.{Place}
use Rattle.b2_text.specs.Program.{Lines}
use Rattle.b2_text.specs.declared.spots.Spot.{Spot}
use Rattle.b2_access.specs.Borrowers.{homes_entered}
use Rattle.b2_access.specs.Dispatch.{Here, here}
use Rattle.b2_access.specs.Lending.{SeenLent}
use Rattle.b2_access.specs.Placed.{Statement}
use Rattle.b2_access.specs.Planning.{Planning, asks, done}
use Rattle.b2_access.specs.Steering.{Steered, steered, unsteered}
use Rattle.b2_access.specs.declared.accesses.Access.{Access}
use Rattle.b2_access.specs.declared.accesses.Access.TheVariants as access
use Rattle.b2_access.specs.declared.accesses.Answer.{Answer}
use Rattle.b2_access.specs.declared.planned.Outcome.TheVariants as outcome
use Rattle.b2_access.specs.declared.private.Private.{Private}
use Rattle.b2_access.proofs.Choice.{either}
use Rattle.b2_access.proofs.Dispatch.{each_dispatch}
use Rattle.b2_stmt.specs.Asked.{carried, is_still, still}
use Rattle.b2_stmt.specs.Borrowing.{
  EnteringRefused,
  LentCame,
  NoTextAsked,
  TextEntered,
  TextLeft,
  TextsGivenBack,
  asks_of_others,
  asks_selected,
  asks_to_drop,
  asks_to_enter,
  asks_to_leave,
  enters,
  finds_line,
  lent_came,
  lent_ends,
}
use Rattle.b2_stmt.specs.Calls.{goes_back, may_forget_all}
use Rattle.b2_stmt.specs.Clearing.{asked_access, edit_finishes}
use Rattle.b2_stmt.specs.Marked.{ends_taken, mark_place, takes_args}
use Rattle.b2_stmt.specs.Plan.{acts, acts_unless, around, asked_at, asked_by, by_access, does, ends_at, is_refused, plan, plans_asked, stops}
use Rattle.b2_stmt.specs.declared.asked.Asked.{Asked}
use Rattle.b2_stmt.specs.declared.asked.Asked.TheVariants as asked
use Rattle.b2_stmt.proofs.Erased.{each_erased}
use Rattle.b2_stmt.proofs.PartsCame.{each_asked}

-- the accesses that they may ask for
unfoldable pub MayAsk : Access → Type 0
MayAsk (access.ClearAll name homes) = Unit {0}
MayAsk (access.Erase from to homes) = Unit {0}
MayAsk (access.Declare name old) = Unit {0}
MayAsk (access.FindPart name) = Unit {0}
MayAsk (access.Enter name mark) = Unit {0}
MayAsk (access.Leave home) = Unit {0}
MayAsk (access.Drop homes) = Unit {0}
MayAsk a = ⊥

unfoldable pub MayAskAny : Option Access → Type 0
MayAskAny None = Unit {0}
MayAskAny (Some a) = MayAsk a

pub may_ask_by_row : (r : ℕ) (t : Trees) (declared : Option (List ℕ)) (homes : ℕ) → MayAskAny (asked_access r t declared homes)
unfolding MayAsk MayAskAny
may_ask_by_row r t declared homes = each_asked MayAskAny tt homes (λ name. tt) (λ t. each_erased MayAsk homes (λ from to. tt) t) (λ name old. tt) (λ name. tt) r t declared

-- what holds of each access to a text of another
module _ (F : Option Access → Type 0) (none : F None) (me : Private) (leaves : (home : ℕ) → entered_last me.stack ≡ Some home → F (Some (access.Leave home)))
    (drops : F (Some (access.Drop (homes_entered me.stack)))) (selects : (name : List ℕ) (mark : ℕ) → F (Some (access.Enter name mark))) where
  left_by : (o : Option ℕ) → entered_last me.stack ≡ o → F (asks_to_leave o)
  left_by None is = none
  left_by (Some home) is = leaves home is

  dropped_by : (goes : Bool) → F (asks_to_drop goes me)
  dropped_by goes = either F goes (Some (access.Drop (homes_entered me.stack))) None drops none

  selected_by : (n : ℕ) (o : Option (List ℕ)) → F (asks_selected n o)
  selected_by n None = none
  selected_by n (Some name) = selects name n

  entered_by : (n : ℕ) (found : Option Place) → F (asks_to_enter n found me)
  entered_by n (Some q) = none
  entered_by n None = either F (has_room me.stack) (asks_selected n me.global) None (selected_by n me.global) none

  pub each_of_others : (x : Asked) (p : Place) (own home : Lines) → F (asks_of_others x p me own home)
  each_of_others asked.Return p own home = left_by (entered_last me.stack) refl
  each_of_others (asked.Forget all) p own home = dropped_by (all && may_forget_all p me)
  each_of_others (asked.Run n) p own home = dropped_by (finds_line n own)
  each_of_others (asked.CallMark n args back) p own home = entered_by n (mark_place n p me.part own home)
  each_of_others (asked.Nothing o) p own home = none
  each_of_others (asked.Begin l body) p own home = none
  each_of_others (asked.Next v) p own home = none
  each_of_others (asked.Call n back) p own home = none
  each_of_others (asked.Stop shown after) p own home = none
  each_of_others (asked.Select mode) p own home = none
  each_of_others asked.Continue p own home = none
  each_of_others (asked.Pass turns) p own home = none

pub may_ask_others : (x : Asked) (p : Place) (me : Private) (own home : Lines) → MayAskAny (asks_of_others x p me own home)
unfolding MayAsk MayAskAny
may_ask_others x p me own home = each_of_others MayAskAny tt me (λ home is. tt) tt (λ name mark. tt) x p own home

-- WHAT HOLDS OF EACH PLAN
module _ (me : Private) (s : SeenLent) (F : Planning → Type 0) (asking : (a : Access) → MayAsk a → F (asks s me a)) (ends : (l : SeenLent) (e : Steered) → F (done l (steered me e))) where
  by_any : (o : Option Access) (e : Steered) → MayAskAny o → F (by_access o s me e)
  unfolding MayAskAny
  by_any None e may = ends s e
  by_any (Some a) e may = asking a may

  acted : (u : Statement) (h : Here) → F (acts u h me s)
  acted u h =
      let x = asked_by u h me s in
      either F (is_still u.row) _ _ (ends s (unsteered me (still u.row u.tree h (around me s) s.home.lines)))
      (either F (u.row == row.DEFFN_MARKED) _ (plans_asked x h.place me s) (ends (record s { globals = (takes_args u.tree me s).work.globals }) (ends_taken me.args (takes_args u.tree me s) me))
      (by_any (asks_of_others x h.place me s.own.lines s.home.lines) (carried x h.place me s.own.lines s.home.lines) (may_ask_others x h.place me s.own.lines s.home.lines)))

  unless : (o : Option Access) (u : Statement) (h : Here) → MayAskAny o → F (acts_unless o u h me s)
  unfolding MayAskAny
  unless None u h may = acted u h
  unless (Some a) u h may = asking a may

  pub each_plan : F (plan me s)
  each_plan =
      each_dispatch is_refused (stops me s) (does me s) me s F (ends s (unsteered me outcome.Ready)) (ends s (unsteered me _)) (λ p is u.
      unless (asked_access u.row u.tree me.declared (homes_entered me.stack)) u (here p me s) (may_ask_by_row u.row u.tree me.declared (homes_entered me.stack)))

-- AND OF EACH END
module _ (me : Private) (s : SeenLent) (G : Steered → Type 0) (refused : (code : ℕ) → G (unsteered me (outcome.Failed code))) (left : G (goes_back me))
    (entered : (home : ℕ) (spot : Spot) → G (enters home spot (asked_at me s) me)) (goes_on : (p : Place) → me.place ≡ Some p → G (carried (asked_at me s) p me s.own.lines s.home.lines)) where
  by_lent : (k : LentCame) (p : Place) → me.place ≡ Some p → (e : Steered) → G e → G (lent_ends k (asked_at me s) p me s.own.lines s.home.lines e)
  by_lent (TextEntered home spot) p is e h = entered home spot
  by_lent (EnteringRefused code) p is e h = refused code
  by_lent TextLeft p is e h = left
  by_lent TextsGivenBack p is e h = goes_on p is
  by_lent NoTextAsked p is e h = h

  at_place : (o : Option Place) → me.place ≡ o → (x : Access) (a : Answer) → G (edit_finishes x a me) → G (ends_at o x a me s)
  at_place None is x a h = h
  at_place (Some p) is x a h = by_lent (lent_came x a) p is (edit_finishes x a me) h

  pub each_end : (x : Access) (a : Answer) → G (edit_finishes x a me) → G (ends_at me.place x a me s)
  each_end x a h = at_place me.place refl x a h
