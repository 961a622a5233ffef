-- Which places a private state names, and which partitions: its place, the place that is kept, and those in its frames, and the homes of these.
use Rattle.std.specs.Prelude.{◌≡◌, ℕ, Bool, true, List, [], ◌∷◌, Option, None, Some}
use Rattle.b2_flow.specs.declared.frame.Frame.{Frame}
use Rattle.b2_flow.specs.declared.frame.Frame.TheVariants.{For, Call}
use Rattle.b2_flow.specs.declared.frame.Place.{Place}
use Rattle.b2_access.specs.AccessRows.{reach}
use Rattle.b2_access.specs.Borrowers.{is_inside}
use Rattle.b2_access.specs.Lending.{SeenLent}
use Rattle.b2_access.specs.Places.{line_start}
use Rattle.b2_access.specs.declared.accesses.Access.{Access}
use Rattle.b2_access.specs.declared.accesses.Answer.{Answer}
use Rattle.b2_access.specs.declared.accesses.Answer.TheVariants as answer
use Rattle.b2_access.specs.declared.planned.Outcome.{Outcome}
use Rattle.b2_access.specs.declared.planned.Outcome.TheVariants as outcome
use Rattle.b2_access.specs.declared.planned.Planned.{Planned}
use Rattle.b2_access.specs.declared.planned.Planned.TheVariants as planned
use Rattle.b2_access.specs.declared.private.Private.{Private}
use Rattle.b2_access.specs.Planning.{Finishing, Planning}

-- WHAT MAY BE NAMED: places, and partitions. With a place go all units of its line and all lines of its text, and with a partition go all
-- units of all its lines.
pub record Naming : Type 0 where
  pub place : Place → Bool
  pub part : ℕ → Bool
  pub units : (p : Place) (k : ℕ) → place p ≡ true → place (record p { unit = k }) ≡ true
  pub lines : (p : Place) (n : ℕ) → place p ≡ true → place (line_start p n) ≡ true
  pub spots : (g n k : ℕ) → part g ≡ true → place (record { home = g; line = Some n; unit = k }) ≡ true

abbrev pub PlaceNamed : Naming → Option Place → Type 0
PlaceNamed among None = Unit {0}
PlaceNamed among (Some p) = among.place p ≡ true

abbrev pub PartIn : (ℕ → Bool) → Option ℕ → Type 0
PartIn among None = Unit {0}
PartIn among (Some part) = among part ≡ true

-- those of a frame, and of all frames
abbrev pub FrameNamed : Naming → Frame → Type 0
FrameNamed among (For v limit step body) = among.place body ≡ true
FrameNamed among (Call back entered) = PlaceNamed among back × PartIn among.part entered

abbrev pub FramesNamed : Naming → List Frame → Type 0
FramesNamed among [] = Unit {0}
FramesNamed among (f ∷ fs) = FrameNamed among f × FramesNamed among fs

-- a partition may be named, and all that it names
pub record NamesOnly (among : Naming) (me : Private) : Type 0 where
  pub part : among.part me.part ≡ true
  pub place : PlaceNamed among me.place
  pub kept : PlaceNamed among me.kept
  pub frames : FramesNamed among me.stack

-- and where a statement leads
abbrev pub OutcomeNamed : Naming → Outcome → Type 0
OutcomeNamed among (outcome.Jump p) = among.place p ≡ true
OutcomeNamed among o = Unit {0}

-- PLACES BY THEIR HOMES: those at some partitions, and these
abbrev pub at_homes : (ℕ → Bool) → Naming
at_homes among = record { place = λ p. among p.home; part = among; units = λ p k h. h; lines = λ p n h. h; spots = λ g n k h. h }

abbrev pub PlaceIn : (ℕ → Bool) → Option Place → Type 0
PlaceIn among p = PlaceNamed (at_homes among) p

abbrev pub FrameIn : (ℕ → Bool) → Frame → Type 0
FrameIn among f = FrameNamed (at_homes among) f

abbrev pub FramesIn : (ℕ → Bool) → List Frame → Type 0
FramesIn among fs = FramesNamed (at_homes among) fs

abbrev pub IsWithin : (ℕ → Bool) → Private → Type 0
IsWithin among me = NamesOnly (at_homes among) me

abbrev pub OutcomeIn : (ℕ → Bool) → Outcome → Type 0
OutcomeIn among o = OutcomeNamed (at_homes among) o

-- the partitions that an access marks as homes: those whose text it leaves or gives back
abbrev pub homes_of : Access → List ℕ
homes_of a = (reach a).borrowers

-- each of them is among some partitions
abbrev pub HomesIn : (ℕ → Bool) → Access → Type 0
HomesIn among a = (h : ℕ) → is_inside h (homes_of a) ≡ true → among h ≡ true

abbrev pub PlannedNamed : Naming → Planned → Type 0
PlannedNamed among (planned.Done o) = OutcomeNamed among o
PlannedNamed among (planned.Ask a) = HomesIn among.part a

abbrev pub PlannedIn : (ℕ → Bool) → Planned → Type 0
PlannedIn among x = PlannedNamed (at_homes among) x

-- whoever an answer leads to is among them: who holds a name, or the text that is entered by one
abbrev pub AnswerIn : (ℕ → Bool) → Answer → Type 0
AnswerIn among (answer.Holder p) = among p ≡ true
AnswerIn among (answer.Entered g spot) = among g ≡ true
AnswerIn among a = Unit {0}

-- A way of planning, and one of finishing, name no place and no partition but the own one, those that were named before, those that go with
-- them, and whom the answer leads to.
abbrev pub PlansWithin : (Private → SeenLent → Planning) → Type 0
PlansWithin plan = (among : Naming) (me : Private) (s : SeenLent) → NamesOnly among me → NamesOnly among (plan me s).me × PlannedNamed among (plan me s).planned

abbrev pub FinishesWithin : (Access → Answer → Private → SeenLent → Finishing) → Type 0
FinishesWithin finish =
    (among : Naming) (x : Access) (a : Answer) (me : Private) (s : SeenLent) → AnswerIn among.part a → NamesOnly among me → NamesOnly among (finish x a me s).me × OutcomeNamed among (finish x a me s).outcome
