-- What comes of an access that opens a file or moves the place in one, and how a statement finishes by it.
use Rattle.std.specs.Prelude.{ℕ, Bool, true, false, List, [], Option}
use Rattle.b2_base.specs.declared.files.Slot.{Slot}
use Rattle.b2_dec.specs.declared.values.Value.{Value}
use Rattle.b2_access.specs.Views.{FileOpened, LoadingCame, LoadingLater, LoadingRefused, RecordsEnded, ValuesLoaded, OpeningCame, OpeningLater, OpeningRefused, PlaceCame, PlaceLater, PlaceMoved, PlaceRefused, moved_to}
use Rattle.b2_access.specs.Working.{FileWorked, work_of}
use Rattle.b2_access.specs.declared.accesses.Answer.{Answer}
use Rattle.b2_access.specs.declared.accesses.Answer.TheVariants as answer
use Rattle.b2_access.specs.declared.planned.Outcome.{Outcome}
use Rattle.b2_access.specs.declared.planned.Outcome.TheVariants as outcome
use Rattle.b2_access.specs.declared.private.Private.{Private}
use Rattle.b2_stmt_file.specs.Slots.{with_file}
use Rattle.b2_stmt_file.specs.declared.file_answers.Came.{Came}
use Rattle.b2_stmt_file.specs.declared.file_answers.Came.TheVariants as came

-- a file with its place, that its records end, or a code; or it is asked for again
abbrev pub by_opening : OpeningCame → Came
by_opening (FileOpened s) = came.File s
by_opening (OpeningRefused code) = came.Refused code
by_opening OpeningLater = came.Later

abbrev pub by_place : PlaceCame → Came
by_place (PlaceMoved s) = came.File s
by_place (PlaceRefused code) = came.Refused code
by_place PlaceLater = came.Later

abbrev pub by_loading : LoadingCame → Came
by_loading (ValuesLoaded s values) = came.File s
by_loading RecordsEnded = came.Ended
by_loading (LoadingRefused code) = came.Refused code
by_loading LoadingLater = came.Later

-- the values that were loaded
abbrev pub values_in : LoadingCame → List Value
values_in (ValuesLoaded s values) = values
values_in c = []

-- a file with another place, by an answer
abbrev pub moved_by : Slot → Answer → Came
moved_by s (answer.Moved place) = came.File (moved_to s place)
moved_by s (answer.Refused code) = came.Refused code
moved_by s a = came.Later

-- the slot holds that file from then on
abbrev pub slots_after : ℕ → Came → List (Option Slot) → List (Option Slot)
slots_after n (came.File s) slots = with_file n s slots
slots_after n (came.Refused code) slots = slots
slots_after n came.Ended slots = slots
slots_after n came.Later slots = slots

abbrev pub outcome_of : Came → Outcome
outcome_of (came.File s) = outcome.Next
outcome_of (came.Refused code) = outcome.Failed code
outcome_of came.Ended = outcome.Next
outcome_of came.Later = outcome.Repeat

-- whether the records ended where the last load was to be: it is left where nothing came
abbrev pub end_after : Came → Bool → Bool
end_after (came.File s) at_end = false
end_after (came.Refused code) at_end = at_end
end_after came.Ended at_end = true
end_after came.Later at_end = at_end

abbrev pub file_ends : ℕ → Came → Private → FileWorked
file_ends n c me = record { work = record { work = work_of me; more = slots_after n c me.slots }; outcome = outcome_of c }
