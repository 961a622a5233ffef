-- SELECT DISK: the platter is selected from then on, or it fails with a code.
use Rattle.std.specs.Prelude.{ℕ, List, Some, Result, Ok, Err}
use Rattle.b2_access.specs.Working.{Worked, leaves, work_of}
use Rattle.b2_access.specs.declared.planned.Outcome.TheVariants as outcome
use Rattle.b2_access.specs.declared.private.Private.{Private}

abbrev pub selected : Result (List ℕ) ℕ → Private → Worked
selected (Ok addr) me = record { work = record (work_of me) { disk = Some addr }; outcome = outcome.Next }
selected (Err code) me = leaves me (outcome.Failed code)
