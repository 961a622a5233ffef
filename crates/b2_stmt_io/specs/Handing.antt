-- What becomes of a partition that hands its terminal on.
use Rattle.std.specs.Prelude.{Bool, if◌then◌else◌}
use Rattle.b2_access.specs.Views.{handed_on}
use Rattle.b2_access.specs.Working.{Worked, leaves}
use Rattle.b2_access.specs.declared.accesses.Access.{Access}
use Rattle.b2_access.specs.declared.accesses.Answer.{Answer}
use Rattle.b2_access.specs.declared.planned.Outcome.{Outcome}
use Rattle.b2_access.specs.declared.planned.Outcome.TheVariants as outcome
use Rattle.b2_access.specs.declared.private.Private.{Private}

-- $RELEASE TERMINAL goes on where the terminal was handed on, and else its step is repeated
abbrev pub goes_where : Bool → Outcome
goes_where handed = if handed then outcome.Next else outcome.Repeat

abbrev pub hands_on : Access → Answer → Private → Worked
hands_on x a me = leaves me (goes_where (handed_on x a))
