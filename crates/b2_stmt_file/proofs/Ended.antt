-- What is planned at a place, where IF END stands there and where another statement does.
use Rattle.std.proofs.Common.{◌≡◌, ◌∙◌, ◌==◌, Bool, true, false, if◌then◌else◌, List, Option, Some, None, Result, Ok, Err, IfOk, refl, sym, ap}
use Rattle.b2_flow.specs.declared.frame.Place.{Place}
use Rattle.b2_atom.specs.declared.rows.TheConstants as row
use Rattle.b2_vars.specs.Globals.{Globals}
use Rattle.b2_access.specs.Dispatch.{dispatch, dispatch_at, here}
use Rattle.b2_access.specs.Lending.{SeenLent}
use Rattle.b2_access.specs.Placed.{Statement, statement_placed}
use Rattle.b2_access.specs.Planning.{Planning}
use Rattle.b2_access.specs.Working.{as_planned, planned_of, stops}
use Rattle.b2_access.specs.declared.devices.Device.{Device}
use Rattle.b2_access.specs.declared.planned.Outcome.{Outcome}
use Rattle.b2_access.specs.declared.planned.Planned.{Planned}
use Rattle.b2_access.specs.declared.private.Private.{Private}
use Rattle.b2_stmt_file.specs.Ending.{if_end}
use Rattle.b2_stmt_file.specs.Plan.{asking, asks_for, does, ended_there, is_refused, plan, works}

none_some : {A : Type 0} (x : A) → None ≡ Some x → ⊥
none_some x e = cc

module _ (devices : List Device) (me : Private) (s : SeenLent) (p : Place) (is : me.place ≡ Some p) where
  there : Option Statement
  there = statement_placed p me.immediate s.home.lines

  at_place : works devices me s ≡ dispatch_at is_refused stops (does devices me s) there (here p me s)
  unfolding there
  at_place = ap (λ (o : Option Place). dispatch is_refused stops (does devices me s) o me s) is

  ends_by : (o : Outcome) (x : Option Statement) → Some o ≡ ended_there me.at_end x (here p me s) s.home.lines → dispatch_at is_refused stops (does devices me s) x (here p me s) ≡ stops o
  ends_by o None e = absurd (none_some o (sym e))
  ends_by o (Some u) e = by (u.row == row.IF_END) e
    where
      by : (b : Bool) → Some o ≡ (if b then Some (if_end me.at_end (here p me s) s.home.lines u.tree) else None) → (if b then stops (if_end me.at_end (here p me s) s.home.lines u.tree) else asks_for devices u me s) ≡ stops o
      by true e = let same : o ≡ if_end me.at_end (here p me s) s.home.lines u.tree = cc in ap stops (sym same)
      by false e = absurd (none_some o (sym e))

  asks_by : (x : Option Statement) → None ≡ ended_there me.at_end x (here p me s) s.home.lines → dispatch_at is_refused stops (does devices me s) x (here p me s) ≡ asking devices me s x
  asks_by None e = refl
  asks_by (Some u) e = by (u.row == row.IF_END) e
    where
      by : (b : Bool) → None ≡ (if b then Some (if_end me.at_end (here p me s) s.home.lines u.tree) else None) → (if b then stops (if_end me.at_end (here p me s) s.home.lines u.tree) else asks_for devices u me s) ≡ asks_for devices u me s
      by true e = absurd (none_some (if_end me.at_end (here p me s) s.home.lines u.tree) e)
      by false e = refl

  pub ended_is : (o : Outcome) → Some o ≡ ended_there me.at_end (statement_placed p me.immediate s.home.lines) (here p me s) s.home.lines → works devices me s ≡ stops o
  unfolding there
  ended_is o e = at_place ∙ ends_by o there e

  pub asked_is : None ≡ ended_there me.at_end (statement_placed p me.immediate s.home.lines) (here p me s) s.home.lines → works devices me s ≡ asking devices me s (statement_placed p me.immediate s.home.lines)
  unfolding there
  asked_is e = at_place ∙ asks_by there e

-- so it is planned as what is asked for
asked_planned : (devices : List Device) (me : Private) (s : SeenLent) (x : Option Statement) → ◌≡◌ {A = Planning} (record { me = me; globals = s.globals; planned = planned_of (asking devices me s x) }) (as_planned me s (asking devices me s x))
asked_planned devices me s None = refl
asked_planned devices me s (Some u) = refl

pub planned_as : {E : Type 0} (devices : List Device) (me new : Private) (s : SeenLent) (g : Globals) (x : Option Statement) (r : Result Planned E) → new ≡ me → g ≡ s.globals → IfOk r (λ q. q ≡ planned_of (asking devices me s x)) → works devices me s ≡ asking devices me s x
    → IfOk r (λ q. ◌≡◌ {A = Planning} (record { me = new; globals = g; planned = q }) (plan devices me s))
planned_as devices me new s g x (Ok q) same lent is there =
    ap (λ (m : Private). record { me = m; globals = g; planned = q }) same
    ∙ ap (λ (v : Globals). record { me = me; globals = v; planned = q }) lent
    ∙ ap (λ (y : Planned). record { me = me; globals = s.globals; planned = y }) is
    ∙ asked_planned devices me s x
    ∙ ap (as_planned me s) (sym there)
planned_as devices me new s g x (Err e) same lent is there = is
