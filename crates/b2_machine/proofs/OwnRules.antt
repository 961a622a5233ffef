-- What the machine's own rules never change of a partition: which one it is, its terminal, the files that it has open, and the devices that
-- it holds.
use Rattle.std.proofs.Common.{◌≡◌, refl, ℕ, ◌&&◌, not, nat_lt, Bool, true, false, List, length, Option, Some, None, is_some, Result, Ok, Err}
use Rattle.b2_base.specs.declared.files.Slot.{Slot}
use Rattle.b2_flow.specs.Stacks.{most_frames}
use Rattle.b2_flow.specs.declared.frame.Place.{Place}
use Rattle.b2_syntax.specs.declared.Entered.{Entered}
use Rattle.b2_syntax.specs.declared.Entered.TheVariants as entered
use Rattle.b2_syntax.specs.declared.LineErr.{LineErr}
use Rattle.b2_syntax.specs.declared.LineErr.TheVariants as refusal
use Rattle.b2_text.specs.Program.{Lines}
use Rattle.b2_text.specs.declared.spots.Spot.{Spot}
use Rattle.b2_access.specs.Lending.{SeenLent}
use Rattle.b2_access.specs.declared.accesses.Access.{Access}
use Rattle.b2_access.specs.declared.accesses.Access.TheVariants as access
use Rattle.b2_access.specs.declared.accesses.Answer.{Answer}
use Rattle.b2_access.specs.declared.accesses.Answer.TheVariants as answer
use Rattle.b2_access.specs.declared.planned.Outcome.{Outcome}
use Rattle.b2_access.specs.declared.planned.Outcome.TheVariants as outcome
use Rattle.b2_access.specs.declared.private.Private.{Private}
use Rattle.b2_access.proofs.Choice.{either}
use Rattle.b2_language.specs.Following.{following_place}
use Rattle.b2_machine.specs.Keys.{calls_where, pressed_by}
use Rattle.b2_machine.specs.Listed.{lists}
use Rattle.b2_machine.specs.Moving.{ends_by, ends_onward, error_place, faults, goes_to, jumps, place_onward}
use Rattle.b2_machine.specs.Typing.{put_by, shown_by, takes, takes_or_refuses, typed_by_key}
use Rattle.b2_machine.specs.declared.ends.Stepped.{Stepped}
use Rattle.b2_machine.specs.declared.moving.Onward.{Onward}

-- the partition itself, its terminal, the files that it has open, and the devices that it holds
pub record Own : Type 0 where
  pub part : ℕ
  pub term : ℕ
  pub slots : List (Option Slot)
  pub held : List (List ℕ)

abbrev pub own_of : Private → Own
own_of me = record { part = me.part; term = me.term; slots = me.slots; held = me.held }

-- all of it stays
abbrev pub StaysOwn : Private → Private → Type 0
StaysOwn me after = own_of after ≡ own_of me

-- what is shown, typed and entered
pub shown_stays : (x : Access) (a : Answer) (me : Private) → StaysOwn me (shown_by x a me).me
shown_stays (access.Show term bytes column) answer.Done me = refl
shown_stays (access.PrintTo addr bytes column) answer.Done me = refl
shown_stays x a me = refl

pub typed_stays : (a : Answer) (me : Private) → StaysOwn me (typed_by_key a me).me
typed_stays answer.Done me = refl
typed_stays a me = refl

pub put_stays : (a : Answer) (me : Private) → StaysOwn me (put_by a me).me
put_stays answer.Done me = refl
put_stays (answer.Locked q) me = refl
put_stays (answer.Refused code) me = refl
put_stays a me = refl

pub takes_stays : (e : Entered) (me : Private) → StaysOwn me (takes e me)
takes_stays entered.Empty me = refl
takes_stays (entered.Delete n) me = refl
takes_stays (entered.Numbered n atoms) me = refl
takes_stays (entered.Immediate atoms) me = refl

pub line_stays : (r : Result Entered LineErr) (me : Private) → StaysOwn me (takes_or_refuses r me)
line_stays (Ok e) me = takes_stays e me
line_stays (Err (refusal.At code column)) me = refl
line_stays (Err refusal.NoMemory) me = refl

-- special function keys
pub called_stays : (o : Option Spot) (me : Private) → StaysOwn me (calls_where o me)
called_stays None me = refl
called_stays (Some spot) me = either (StaysOwn me) (nat_lt (length me.stack) most_frames) _ _ refl refl

pub pressed_stays : (text : Option (List ℕ)) (o : Option Spot) (me : Private) → StaysOwn me (pressed_by text o me)
pressed_stays (Some text) o me = refl
pressed_stays None o me = called_stays o me

-- where it goes on
pub goes_stays : (o : Option Place) (me : Private) → StaysOwn me (goes_to o me).me
goes_stays None me = refl
goes_stays (Some q) me = refl

pub jumped_stays : (p q : Place) (me : Private) (home : Lines) → StaysOwn me (jumps p q me home)
jumped_stays p q me home = either (StaysOwn me) (not (is_some p.line) && is_some q.line) _ _ refl refl

pub faulted_stays : (code : ℕ) (o : Option Place) (p : Place) (me : Private) → StaysOwn me (faults code o p me).me
faulted_stays code None p me = refl
faulted_stays code (Some q) p me = refl

pub ended_stays : (same : Stepped) (o : Outcome) (p : Place) (me : Private) (home : Lines) → StaysOwn me (ends_by same o p me home).me
ended_stays same outcome.Next p me home = goes_stays (following_place p me home) me
ended_stays same (outcome.Jump q) p me home = jumped_stays p q me home
ended_stays same (outcome.Failed code) p me home = faulted_stays code (error_place code p me home) p me
ended_stays same outcome.Repeat p me home = refl
ended_stays same outcome.Break p me home = goes_stays (following_place p me home) me
ended_stays same outcome.Ready p me home = refl

pub onward_stays : (same : Stepped) (o : Outcome) (w : Onward) (p : Place) (me : Private) (home : Lines) → StaysOwn me (ends_onward same o w p me home).me
onward_stays same outcome.Next w p me home = goes_stays (place_onward home p w) me
onward_stays same outcome.Break w p me home = goes_stays (place_onward home p w) me
onward_stays same o w p me home = ended_stays same o p me home

-- LIST
pub listed_stays : (b : Bool) (range : ℕ × ℕ) (me : Private) (s : SeenLent) → StaysOwn me (lists b range me s).me
listed_stays true range me s = refl
listed_stays false range me s = refl
