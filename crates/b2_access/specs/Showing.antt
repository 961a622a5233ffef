-- What becomes of a partition once something was shown or printed.
use Rattle.std.specs.Prelude.{ℕ, Option, Some, None}
use Rattle.b2_access.specs.Views.{column_printed, column_shown}
use Rattle.b2_access.specs.Working.{Worked, leaves, work_of}
use Rattle.b2_access.specs.declared.accesses.Access.{Access}
use Rattle.b2_access.specs.declared.accesses.Answer.{Answer}
use Rattle.b2_access.specs.declared.planned.Outcome.TheVariants as outcome
use Rattle.b2_access.specs.declared.private.Private.{Private}

-- a statement that shows something ends once it was shown, and the column is then that of the access; unless it was, the step is
-- repeated
abbrev pub shown_where : Option ℕ → Private → Worked
shown_where (Some column) me = record { work = record (work_of me) { term_column = column }; outcome = outcome.Next }
shown_where None me = leaves me outcome.Repeat

abbrev pub shown : Access → Answer → Private → Worked
shown x a me = shown_where (column_shown x a) me

-- One that may print instead ends as well once it was printed, and the column at the printer is then that of the access.
abbrev pub printed_where : Option ℕ → Private → Worked
printed_where (Some column) me = record { work = record (work_of me) { print_column = column }; outcome = outcome.Next }
printed_where None me = leaves me outcome.Repeat

abbrev pub shown_or_printed_where : (at_terminal : Option ℕ) → (at_printer : Option ℕ) → Private → Worked
shown_or_printed_where (Some column) printed me = shown_where (Some column) me
shown_or_printed_where None printed me = printed_where printed me

abbrev pub shown_or_printed : Access → Answer → Private → Worked
shown_or_printed x a me = shown_or_printed_where (column_shown x a) (column_printed x a) me
