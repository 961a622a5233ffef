-- Texts of others: RETURN leaves the one that its call entered, RETURN CLEAR ALL and RUN give back all that were, and GOSUB' enters that of the
-- partition that is selected, where its DEFFN' stands neither in the text at home nor in the own one.
use Rattle.std.specs.Prelude.{◌≡◌, ℕ, ◌&&◌, is_some, Bool, true, List, Option, None, Some, if◌then◌else◌}
use Rattle.b2_base.specs.declared.codes.TheConstants.{X77_NO_PARTITION}
use Rattle.b2_flow.specs.Stacks.{entered_last, has_room}
use Rattle.b2_flow.specs.declared.frame.Place.{Place}
use Rattle.b2_text.specs.Program.{Lines, line_at}
use Rattle.b2_text.specs.Spots.{first_opening, is_mark}
use Rattle.b2_text.specs.declared.spots.Spot.{Spot}
use Rattle.b2_access.specs.Borrowers.{homes_entered}
use Rattle.b2_access.specs.Lending.{SeenLent}
use Rattle.b2_access.specs.Planning.{Planning}
use Rattle.b2_access.specs.Steering.{Steered, unsteered}
use Rattle.b2_access.specs.declared.accesses.Access.{Access}
use Rattle.b2_access.specs.declared.accesses.Access.TheVariants as access
use Rattle.b2_access.specs.declared.accesses.Answer.{Answer}
use Rattle.b2_access.specs.declared.accesses.Answer.TheVariants as answer
use Rattle.b2_access.specs.declared.planned.Outcome.TheVariants as outcome
use Rattle.b2_access.specs.declared.planned.Planned.TheVariants as planned
use Rattle.b2_access.specs.declared.private.Private.{Private}
use Rattle.b2_stmt.specs.Asked.{carried}
use Rattle.b2_stmt.specs.Calls.{goes_back, may_forget_all}
use Rattle.b2_stmt.specs.Marked.{calls_into, mark_place, place_in}
use Rattle.b2_stmt.specs.declared.asked.Asked.{Asked}
use Rattle.b2_stmt.specs.declared.asked.Asked.TheVariants as asked

-- the text that was entered is left
abbrev pub asks_to_leave : Option ℕ → Option Access
asks_to_leave None = None
asks_to_leave (Some home) = Some (access.Leave home)

-- all that were entered are given back, also where none was
abbrev pub asks_to_drop : Bool → Private → Option Access
asks_to_drop goes me = if goes then Some (access.Drop (homes_entered me.stack)) else None

-- whether RUN finds its line
abbrev pub finds_line : Option ℕ → Lines → Bool
finds_line None own = true
finds_line (Some n) own = is_some (line_at n own)

-- the text of the partition that is selected is entered, where there is room for a frame
abbrev pub asks_selected : ℕ → Option (List ℕ) → Option Access
asks_selected n None = None
asks_selected n (Some name) = Some (access.Enter name n)

abbrev pub asks_to_enter : ℕ → Option Place → Private → Option Access
asks_to_enter n (Some q) me = None
asks_to_enter n None me = if has_room me.stack then asks_selected n me.global else None

abbrev pub asks_of_others : Asked → Place → Private → Lines → Lines → Option Access
asks_of_others asked.Return p me own home = asks_to_leave (entered_last me.stack)
asks_of_others (asked.Forget all) p me own home = asks_to_drop (all && may_forget_all p me) me
asks_of_others (asked.Run n) p me own home = asks_to_drop (finds_line n own) me
asks_of_others (asked.CallMark n args back) p me own home = asks_to_enter n (mark_place n p me.part own home) me
asks_of_others x p me own home = None

-- what came of it: a text was entered at a spot, or is refused with a code; it was left; all were given back; or nothing of the kind was asked
pub data LentCame : Type 0 where
  TextEntered : ℕ → Spot → LentCame
  EnteringRefused : ℕ → LentCame
  TextLeft : LentCame
  TextsGivenBack : LentCame
  NoTextAsked : LentCame

abbrev pub lent_came : Access → Answer → LentCame
lent_came (access.Enter name mark) (answer.Entered home spot) = TextEntered home spot
lent_came (access.Enter name mark) answer.NoPart = EnteringRefused X77_NO_PARTITION
lent_came (access.Enter name mark) (answer.Refused code) = EnteringRefused code
lent_came (access.Leave home) answer.Done = TextLeft
lent_came (access.Drop homes) answer.Done = TextsGivenBack
lent_came x a = NoTextAsked

-- how the statement finishes by that, where it is known what it asks of the private state; and else as it would
abbrev pub enters : ℕ → Spot → Asked → Private → Steered
enters home spot (asked.CallMark n args back) me = calls_into (Some home) (place_in home spot) args back me
enters home spot x me = unsteered me outcome.Repeat

abbrev pub lent_ends : LentCame → Asked → Place → Private → Lines → Lines → Steered → Steered
lent_ends (TextEntered home spot) x p me own at_home e = enters home spot x me
lent_ends (EnteringRefused code) x p me own at_home e = unsteered me (outcome.Failed code)
lent_ends TextLeft x p me own at_home e = goes_back me
lent_ends TextsGivenBack x p me own at_home e = carried x p me own at_home
lent_ends NoTextAsked x p me own at_home e = e

-- A way of planning asks for the text of another, at the DEFFN' of a number, only where the own text has none of it. So it never enters the
-- own text as that of another.
abbrev pub EntersOthers : (Private → SeenLent → Planning) → Type 0
EntersOthers plan = (me : Private) (s : SeenLent) (name : List ℕ) (mark : ℕ) → (plan me s).planned ≡ planned.Ask (access.Enter name mark) → first_opening (is_mark mark) s.own.lines ≡ None
