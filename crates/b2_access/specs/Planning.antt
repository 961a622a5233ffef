-- What a statement plans, and how it finishes: what becomes of the private state and of the `@` variables.
use Rattle.std.specs.Prelude.{ℕ, Option, Some, None}
use Rattle.b2_vars.specs.Globals.{Globals}
use Rattle.b2_access.specs.Lending.{SeenLent}
use Rattle.b2_access.specs.declared.accesses.Access.{Access}
use Rattle.b2_access.specs.declared.planned.Outcome.{Outcome}
use Rattle.b2_access.specs.declared.planned.Outcome.TheVariants as outcome
use Rattle.b2_access.specs.declared.planned.Planned.{Planned}
use Rattle.b2_access.specs.declared.planned.Planned.TheVariants as planned
use Rattle.b2_access.specs.declared.private.Private.{Private}

pub record Planning : Type 0 where
  pub me : Private
  pub globals : Globals
  pub planned : Planned

pub record Finishing : Type 0 where
  pub me : Private
  pub globals : Globals
  pub outcome : Outcome

-- a statement that has ended, and the private state after it
pub record Ended : Type 0 where
  pub me : Private
  pub outcome : Outcome

-- it asks for nothing, and the `@` variables stay as they are
abbrev pub done : SeenLent → Ended → Planning
done s e = record { me = e.me; globals = s.globals; planned = planned.Done e.outcome }

abbrev pub finished : SeenLent → Ended → Finishing
finished s e = record { me = e.me; globals = s.globals; outcome = e.outcome }

-- it asks for an access, and nothing changes yet
abbrev pub asks : SeenLent → Private → Access → Planning
asks s me a = record { me = me; globals = s.globals; planned = planned.Ask a }

-- nothing changes
abbrev pub stays : Private → Outcome → Ended
stays me o = record { me = me; outcome = o }

-- where a statement goes on, or a fault
abbrev pub goes_or : Outcome → Option ℕ → Outcome
goes_or goes None = goes
goes_or goes (Some code) = outcome.Failed code
