-- Where a partition stands: in the text of another only above a call that entered it. So do the place that is kept, where each call leads
-- back to, and the body of each loop, the last two above a call below their own frame.
use Rattle.std.specs.Prelude.{◌≡◌, ◌≤◌, ℕ, ◌+◌, ◌==◌, ◌||◌, nat_lt, Bool, true, List, [], ◌∷◌, Option, Some, None, if◌then◌else◌}
use Rattle.b2_flow.specs.Frames.{enters}
use Rattle.b2_flow.specs.declared.frame.Frame.{Frame}
use Rattle.b2_flow.specs.declared.frame.Frame.TheVariants.{For, Call}
use Rattle.b2_flow.specs.declared.frame.Place.{Place}
use Rattle.b2_access.specs.Entering.{entered_after}
use Rattle.b2_access.specs.Lending.{SeenLent}
use Rattle.b2_access.specs.Partition.{KeepsNone}
use Rattle.b2_access.specs.Planning.{Finishing, Planning}
use Rattle.b2_access.specs.declared.accesses.Access.{Access}
use Rattle.b2_access.specs.declared.accesses.Access.TheVariants as access
use Rattle.b2_access.specs.declared.accesses.Answer.{Answer}
use Rattle.b2_access.specs.declared.planned.Outcome.{Outcome}
use Rattle.b2_access.specs.declared.planned.Outcome.TheVariants as outcome
use Rattle.b2_access.specs.declared.planned.Planned.{Planned}
use Rattle.b2_access.specs.declared.planned.Planned.TheVariants as planned
use Rattle.b2_access.specs.declared.private.Private.{Private}

-- how many frames entered the text of a partition
abbrev pub entered_in : ℕ → List Frame → ℕ
entered_in g [] = 0
entered_in g (f ∷ frames) = if enters g f then entered_in g frames + 1 else entered_in g frames

-- a text is open to a partition: the own one, and one that a frame entered
abbrev pub is_open : ℕ → List Frame → ℕ → Bool
is_open p frames g = g == p || nat_lt 0 (entered_in g frames)

abbrev pub PlaceStands : ℕ → List Frame → Option Place → Type 0
PlaceStands p frames None = Unit {0}
PlaceStands p frames (Some q) = is_open p frames q.home ≡ true

abbrev pub FramesStand : ℕ → List Frame → Type 0
FramesStand p [] = Unit {0}
FramesStand p (For v limit step body ∷ frames) = (is_open p frames body.home ≡ true) × FramesStand p frames
FramesStand p (Call back entered ∷ frames) = PlaceStands p frames back × FramesStand p frames

pub record Stands (me : Private) : Type 0 where
  pub place : PlaceStands me.part me.stack me.place
  pub kept : PlaceStands me.part me.stack me.kept
  pub frames : FramesStand me.part me.stack

-- and where a statement leads from a place: to another, or on from there unless the partition is ready then
abbrev pub LeadsStanding : ℕ → List Frame → Option Place → Outcome → Type 0
LeadsStanding p frames place (outcome.Jump q) = is_open p frames q.home ≡ true
LeadsStanding p frames place outcome.Ready = Unit {0}
LeadsStanding p frames place o = PlaceStands p frames place

-- what a statement leaves that has ended: its frames and the place that is kept stand, and it leads where they let it
pub record EndsStanding (me after : Private) (o : Outcome) : Type 0 where
  pub kept : PlaceStands me.part after.stack after.kept
  pub frames : FramesStand me.part after.stack
  pub leads : LeadsStanding me.part after.stack me.place o

-- A way of planning leaves how many frames entered each text, and stands then, where it has ended.
abbrev pub PlansStanding : (Private → SeenLent → Planning) → Type 0
PlansStanding plan =
    (me : Private) (s : SeenLent) (o : Outcome) → (plan me s).planned ≡ planned.Done o → Stands me → EndsStanding me (plan me s).me o × ((g : ℕ) → entered_in g (plan me s).me.stack ≡ entered_in g me.stack)

-- Where an access changes no text, what is seen after it is what was seen as it was planned.
abbrev pub SeenAgain : Access → SeenLent → SeenLent → Type 0
SeenAgain (access.Enter name mark) s t = s ≡ t
SeenAgain (access.Drop homes) s t = s ≡ t
SeenAgain x s t = Unit {0}

-- One of finishing makes them as many as the access and its answer say, of the texts of partitions from 1 to 16, where it was planned, and
-- stands then. No place is kept while a program runs.
abbrev pub FinishesStanding : (Private → SeenLent → Planning) → (Access → Answer → Private → SeenLent → Finishing) → Type 0
FinishesStanding plan finish =
    (x : Access) (a : Answer) (me : Private) (s t : SeenLent) → (plan me t).planned ≡ planned.Ask x → SeenAgain x s t → KeepsNone me → Stands me
    → EndsStanding me (finish x a me s).me (finish x a me s).outcome × ((g : ℕ) → 1 ≤ g → g ≤ 16 → entered_in g (finish x a me s).me.stack ≡ entered_after x a g (entered_in g me.stack))
