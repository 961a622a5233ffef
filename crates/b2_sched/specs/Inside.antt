-- Who stands inside the text of a partition, in every world: each one as often as its open calls entered it; and that a text stays as it is
-- while somebody does.
use Rattle.std.specs.Prelude.{◌≡◌, ◌≢◌, ◌⊎◌, ◌≤◌, ◌==◌, ◌||◌, ℕ, Bool, true, List, [], ◌∷◌, Option, Some, None, is_some}
use Rattle.b2_flow.specs.declared.frame.Frame.{Frame}
use Rattle.b2_flow.specs.declared.frame.Frame.TheVariants.{For, Call}
use Rattle.b2_flow.specs.declared.frame.Place.{Place}
use Rattle.b2_text.specs.Program.{Lines}
use Rattle.b2_text.specs.Spots.{first_opening, is_mark}
use Rattle.b2_access.specs.Answering.{can_answer}
use Rattle.b2_access.specs.Borrowers.{times}
use Rattle.b2_access.specs.Entering.{entered_after, inside}
use Rattle.b2_access.specs.Lending.{SeenLent}
use Rattle.b2_access.specs.Partition.{KeepsNone}
use Rattle.b2_access.specs.Planning.{Finishing, Planning}
use Rattle.b2_access.specs.Standing.{EndsStanding, PlansStanding, SeenAgain, Stands, entered_in}
use Rattle.b2_access.specs.Store.{StoreState, content}
use Rattle.b2_access.specs.declared.accesses.Access.{Access}
use Rattle.b2_access.specs.declared.accesses.Access.TheVariants as access
use Rattle.b2_access.specs.declared.accesses.Answer.{Answer}
use Rattle.b2_access.specs.declared.devices.Device.{Device}
use Rattle.b2_access.specs.declared.objects.Object.TheVariants as object
use Rattle.b2_access.specs.declared.planned.Outcome.{Outcome}
use Rattle.b2_access.specs.declared.planned.Outcome.TheVariants as outcome
use Rattle.b2_access.specs.declared.planned.Planned.{Planned}
use Rattle.b2_access.specs.declared.planned.Planned.TheVariants as planned
use Rattle.b2_access.specs.declared.private.Private.{Private}
use Rattle.b2_boot.specs.Boots.{BootState}
use Rattle.b2_boot.specs.declared.log.Event.{Event}
use Rattle.b2_language.specs.Languages.{Ways}
use Rattle.b2_machine.specs.Touched.{asking}
use Rattle.b2_stmt.specs.Borrowing.{EntersOthers}
use Rattle.b2_store.specs.DiskWork.{serves}
use Rattle.b2_sched.specs.Choice.{basic}
use Rattle.b2_sched.specs.Start.{AreNumbered, Images, booted}
use Rattle.b2_sched.specs.Turns.{step_of}
use Rattle.b2_sched.specs.World.{WorldState, Turn, does, private_of, ran}

-- A PLACE IN AN IMMEDIATE LINE, which is in no line of a text, is at the own home; so are the place of a partition, the one that is kept, and
-- those in its frames.
abbrev pub is_own_line : ℕ → Place → Bool
is_own_line p q = is_some q.line || q.home == p

abbrev pub PlaceOwn : ℕ → Option Place → Type 0
PlaceOwn p None = Unit {0}
PlaceOwn p (Some q) = is_own_line p q ≡ true

abbrev pub FrameOwn : ℕ → Frame → Type 0
FrameOwn p (For v limit step body) = is_own_line p body ≡ true
FrameOwn p (Call back entered) = PlaceOwn p back

abbrev pub FramesOwn : ℕ → List Frame → Type 0
FramesOwn p [] = Unit {0}
FramesOwn p (f ∷ fs) = FrameOwn p f × FramesOwn p fs

pub record HasOwnLine (p : ℕ) (me : Private) : Type 0 where
  pub part : me.part ≡ p
  pub place : PlaceOwn p me.place
  pub kept : PlaceOwn p me.kept
  pub frames : FramesOwn p me.stack

-- and where a statement leads
abbrev pub LeadsOwn : ℕ → Outcome → Type 0
LeadsOwn p (outcome.Jump q) = is_own_line p q ≡ true
LeadsOwn p o = Unit {0}

abbrev pub PlannedOwn : ℕ → Planned → Type 0
PlannedOwn p (planned.Done o) = LeadsOwn p o
PlannedOwn p (planned.Ask x) = Unit {0}

abbrev pub PlansOwn : (Private → SeenLent → Planning) → Type 0
PlansOwn plan = (p : ℕ) (me : Private) (s : SeenLent) → HasOwnLine p me → HasOwnLine p (plan me s).me × PlannedOwn p (plan me s).planned

abbrev pub FinishesOwn : (Access → Answer → Private → SeenLent → Finishing) → Type 0
FinishesOwn finish = (p : ℕ) (x : Access) (a : Answer) (me : Private) (s : SeenLent) → HasOwnLine p me → HasOwnLine p (finish x a me s).me × LeadsOwn p (finish x a me s).outcome

-- A way of finishing makes as many frames enter each text as the access and its answer say, where it was planned and can be answered so, and
-- stands then (as FinishesStanding says it of all answers).
abbrev pub FinishesAsAnswered : (Private → SeenLent → Planning) → (Access → Answer → Private → SeenLent → Finishing) → Type 0
FinishesAsAnswered plan finish =
    (x : Access) (a : Answer) (me : Private) (s t : SeenLent) → can_answer x a ≡ true → (plan me t).planned ≡ planned.Ask x → SeenAgain x s t → KeepsNone me → HasOwnLine me.part me → Stands me
    → EndsStanding me (finish x a me s).me (finish x a me s).outcome × ((g : ℕ) → 1 ≤ g → g ≤ 16 → entered_in g (finish x a me s).me.stack ≡ entered_after x a g (entered_in g me.stack))

-- What a language owes: its statements make as many frames enter each text as their accesses say, and stand then; they enter no text but
-- another's; they leave the line that waits to be put; and immediate lines stay their own.
pub record EnterAsSaid (ways : Ways) : Type 0 where
  pub plans : (r : ℕ) → PlansStanding (ways.plan r)
  pub finishes : (r : ℕ) → FinishesAsAnswered (ways.plan r) (ways.finish r)
  pub others : (r : ℕ) → EntersOthers (ways.plan r)
  pub plans_numbered : (r : ℕ) (me : Private) (s : SeenLent) → (ways.plan r me s).me.numbered ≡ me.numbered
  pub finishes_numbered : (r : ℕ) (x : Access) (a : Answer) (me : Private) (s : SeenLent) → (ways.finish r x a me s).me.numbered ≡ me.numbered
  pub plans_own : (r : ℕ) → PlansOwn (ways.plan r)
  pub finishes_own : (r : ℕ) → FinishesOwn (ways.finish r)

-- A line waits to be put only where a partition is ready.
abbrev pub PutsReady : Private → Type 0
PutsReady me = (me.numbered ≡ None) ⊎ (me.place ≡ None)

-- what is asked for enters a text only at a DEFFN' that the own text doesn't have
abbrev pub EntersNoOwn : Option Access → Lines → Type 0
EntersNoOwn None lines = Unit {0}
EntersNoOwn (Some (access.Enter name mark)) lines = first_opening (is_mark mark) lines ≡ None
EntersNoOwn (Some x) lines = Unit {0}

-- how many frames entered a text after an access that is asked for, where one is
abbrev pub entered_where : Option Access → ℕ → ℕ → ℕ → StoreState → ℕ
entered_where None who g k s = k
entered_where (Some x) who g k s = entered_after x (serves s who x).answer g k

-- A step of a partition that stands makes as many of its frames enter each text as the access that it asks for and its answer say, of the
-- texts of partitions from 1 to 16; and the partition stands then.
abbrev pub StepsEnterAsSaid : Type 0
StepsEnterAsSaid =
    (devices : List Device) (me : Private) (s : StoreState) → KeepsNone me → PutsReady me → HasOwnLine me.part me → Stands me
    → Stands (step_of devices me s).me
    × ((g : ℕ) → 1 ≤ g → g ≤ 16 → entered_in g (step_of devices me s).me.stack ≡ entered_where (asking (basic devices) me s) me.part g (entered_in g me.stack) s)

-- A PARTITION STANDS INSIDE AS OFTEN AS IT ENTERED: among those inside the text of each that is present it is as often as its frames entered
-- that; it is never inside its own; and it stands in the texts of others above calls that entered them.
pub record IsInsideAsEntered (p : ℕ) (me : Private) (w : WorldState) : Type 0 where
  pub entered : (g : ℕ) (you : Private) → private_of g w ≡ Some you → times p (inside w.store g) ≡ entered_in g me.stack
  pub own : times p (inside w.store p) ≡ 0
  pub stands : Stands me

-- So it is with every partition that is present, whatever was run from a boot whose partitions have numbers from 1 to 16.
abbrev pub AreInsideAsEntered : Type 0
AreInsideAsEntered =
    (b : BootState) (images : Images) (log : List Event) (p : ℕ) (me : Private) → AreNumbered b.partitions → private_of p (ran log (booted b images)) ≡ Some me
    → IsInsideAsEntered p me (ran log (booted b images))

-- A text in which somebody stands before a turn of its partition is the same after it.
abbrev pub TextsStayWhileInside : Type 0
TextsStayWhileInside =
    (b : BootState) (images : Images) (log : List Event) (q n : ℕ) → AreNumbered b.partitions → inside (ran log (booted b images)).store q ≢ []
    → content (does (Turn q n) (ran log (booted b images))).store (object.Text q) ≡ content (ran log (booted b images)).store (object.Text q)
