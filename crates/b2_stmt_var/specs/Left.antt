-- What a statement on variables leaves.
use Rattle.std.specs.Prelude.{ℕ, Option, Some}
use Rattle.b2_text.specs.declared.spots.Spot.{Spot}
use Rattle.b2_expr.specs.Workspace.{WorkState, WorkLeft}
use Rattle.b2_access.specs.Planning.{goes_or}
use Rattle.b2_access.specs.Working.{Worked, work_of}
use Rattle.b2_access.specs.declared.planned.Outcome.TheVariants as outcome
use Rattle.b2_access.specs.declared.private.Private.{Private}

-- its workspace, where READ goes on, and the code with which it ends or none
pub record Left : Type 0 where
  pub work : WorkState
  pub next : Option (Spot × ℕ)
  pub code : Option ℕ

-- nothing is changed, for a code
abbrev pub nothing_left : ℕ → WorkState → Option (Spot × ℕ) → Left
nothing_left code w next = record { work = w; next = next; code = Some code }

-- variables are changed, and READ goes on where it would
abbrev pub variables_left : WorkLeft → Option (Spot × ℕ) → Left
variables_left r next = record { work = r.work; next = next; code = r.code }

-- what it changed of the private state
abbrev pub with_left : Left → Private → Worked
with_left l me = record { work = record (work_of me) { vars = l.work.own; globals = Some l.work.globals; next_data = l.next }; outcome = goes_or outcome.Next l.code }
