-- Of the statements of control DEFFN' alone changes the `@` variables, and only where it reaches a receiver among them.
use Rattle.std.proofs.Common.{◌==◌, ℕ, List, [], ◌∷◌, Option, Some, None, Result, Ok, Err, refl}
use Rattle.b2_dec.specs.declared.values.Value.{Value}
use Rattle.b2_atom.specs.Tree.{Trees}
use Rattle.b2_atom.specs.declared.rows.TheConstants as row
use Rattle.b2_vars.specs.Globals.{MayBecome}
use Rattle.b2_expr.specs.Kinds.{suits}
use Rattle.b2_expr.specs.Value.{context_of}
use Rattle.b2_expr.specs.Workspace.{Reaches, WorkLeft, work_in}
use Rattle.b2_expr.proofs.Reached.{stay, then_reaches}
use Rattle.b2_receiver.specs.Assigning.{is_alpha_receiver}
use Rattle.b2_receiver.specs.Receivers.{any_receiver}
use Rattle.b2_receiver.specs.Receiving.{given_value}
use Rattle.b2_receiver.specs.declared.receiver.Receiver.{Receiver}
use Rattle.b2_receiver.proofs.Reached.{given_value_reaches}
use Rattle.b2_access.specs.Borrowers.{homes_entered}
use Rattle.b2_access.specs.Dispatch.{Here, here}
use Rattle.b2_access.specs.Lending.{SeenLent}
use Rattle.b2_access.specs.Partition.{setting_of}
use Rattle.b2_access.specs.Placed.{Statement}
use Rattle.b2_access.specs.Planning.{Planning}
use Rattle.b2_access.specs.Reaching.{PlansReach, ReachedUnlessAsks}
use Rattle.b2_access.specs.Steering.{Steered}
use Rattle.b2_access.specs.declared.accesses.Access.{Access}
use Rattle.b2_access.specs.declared.private.Private.{Private}
use Rattle.b2_access.proofs.Choice.{either}
use Rattle.b2_access.proofs.Dispatch.{each_dispatch}
use Rattle.b2_stmt.specs.Asked.{carried, is_still}
use Rattle.b2_stmt.specs.Borrowing.{asks_of_others}
use Rattle.b2_stmt.specs.Clearing.{asked_access}
use Rattle.b2_stmt.specs.Marked.{args_taken, ends_with_args, parameters_of, take_each, takes_args, takes_value, takes_values, value_to, values_fit}
use Rattle.b2_stmt.specs.Plan.{acts, acts_unless, asked_by, by_access, does, is_refused, plan, plans_asked, stops}

value_to_reaches : (to : Result Receiver ℕ) (x : Value) → Reaches (value_to to x)
value_to_reaches (Ok to) x = λ w. either (λ (r : WorkLeft). MayBecome w.globals r.work.globals) (suits (is_alpha_receiver to) x) (given_value to x w) _ (given_value_reaches to x w) (stay w.globals)
value_to_reaches (Err code) x = λ w. stay w.globals

each_reaches : (ts : List Trees) (xs : List Value) → Reaches (take_each takes_value ts xs)
each_reaches [] xs = λ w. stay w.globals
each_reaches (t ∷ ts) [] = λ w. stay w.globals
each_reaches (t ∷ ts) (x ∷ xs) = λ w. then_reaches w.globals (takes_value t x w) (take_each takes_value ts xs) (value_to_reaches (any_receiver (context_of w) t) x w) (each_reaches ts xs)

values_reach : (ts : List Trees) (xs : List Value) → Reaches (takes_values ts xs)
values_reach ts xs w = either (λ (r : WorkLeft). MayBecome w.globals r.work.globals) (values_fit ts xs) (take_each takes_value ts xs w) _ (each_reaches ts xs w) (stay w.globals)

args_reach : (args : Option (List Value)) (t : Trees) → Reaches (args_taken args t)
args_reach None t = λ w. stay w.globals
args_reach (Some xs) t = values_reach (parameters_of t) xs

-- a statement that asks for no access by its row
acts_reach : (u : Statement) (h : Here) (me : Private) (s : SeenLent) → ReachedUnlessAsks s.globals (acts u h me s).globals (acts u h me s).planned
acts_reach u h me s =
    let F : Planning → Type 0 = λ p. ReachedUnlessAsks s.globals p.globals p.planned in
    let x = asked_by u h me s in
    either F (is_still u.row) _ _ (stay s.globals)
    (either F (u.row == row.DEFFN_MARKED) (ends_with_args (takes_args u.tree me s) me s) (plans_asked x h.place me s) (args_reach me.args u.tree (work_in (setting_of me) s.home me.vars s.globals))
    (asked_reach (asks_of_others x h.place me s.own.lines s.home.lines) (carried x h.place me s.own.lines s.home.lines)))
  where
    asked_reach : (o : Option Access) (e : Steered) → ReachedUnlessAsks s.globals (by_access o s me e).globals (by_access o s me e).planned
    asked_reach None e = stay s.globals
    asked_reach (Some a) e = refl

by_asked : (o : Option Access) (u : Statement) (h : Here) (me : Private) (s : SeenLent) → ReachedUnlessAsks s.globals (acts_unless o u h me s).globals (acts_unless o u h me s).planned
by_asked None u h me s = acts_reach u h me s
by_asked (Some a) u h me s = refl

pub plans_reach : PlansReach plan
plans_reach me s =
    let F : Planning → Type 0 = λ p. ReachedUnlessAsks s.globals p.globals p.planned in
    each_dispatch is_refused (stops me s) (does me s) me s F (stay s.globals) (stay s.globals) (λ p is u. by_asked (asked_access u.row u.tree me.declared (homes_entered me.stack)) u (here p me s) me s)
