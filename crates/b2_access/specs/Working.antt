-- WHAT A STATEMENT MAY CHANGE of a partition is a record of its own, which is put back in one place. So by its type it leaves the
-- partition itself and its terminal, where it stands, its frames and the place that is kept, the files that it has open and the devices
-- that it holds, the platter that it starts with, the name that it has declared, how many turns it passes, the lines that it was given, and
-- what was asked of it.
-- Few may change more, each by a FORM that says how that is put back: one on data files changes which files are open besides as it
-- finishes, one that takes or frees devices which of them are held, and one of control what `Steering` says.
use Rattle.std.specs.Prelude.{◌≡◌, ℕ, Bool, true, List, Option, Some, None}
use Rattle.b2_base.specs.declared.files.Slot.{Slot}
use Rattle.b2_dec.specs.declared.number.Mode.{Mode}
use Rattle.b2_dec.specs.declared.values.Value.{Value}
use Rattle.b2_text.specs.declared.spots.Spot.{Spot}
use Rattle.b2_vars.specs.Assigned.{Changed}
use Rattle.b2_vars.specs.Globals.{Globals, MayBecome}
use Rattle.b2_vars.specs.Tables.{VarsState}
use Rattle.b2_access.specs.AnswerKinds.{delays}
use Rattle.b2_access.specs.Homes.{FinishesWithin, Naming, NamesOnly, OutcomeNamed, PlaceNamed, PlannedNamed, PlansWithin}
use Rattle.b2_access.specs.Keeping.{FinishesInPlace, FinishesKeepFiles, FinishesKeepHeld, FinishesKeepNone, PlansInPlace, PlansKeepFiles, PlansKeepHeld, PlansKeepNone}
use Rattle.b2_access.specs.Lending.{SeenLent}
use Rattle.b2_access.specs.OwnTerminal.{FinishesAtTerminal, PlannedAt, PlansAtTerminal}
use Rattle.b2_access.specs.Partition.{terminal_address}
use Rattle.b2_access.specs.Pending.{FinishesToShow, PendingOutput, PlansToShow}
use Rattle.b2_access.specs.Planning.{Ended, Finishing, Planning, done, finished, goes_or}
use Rattle.b2_access.specs.Reaching.{FinishesReach, PlansReach}
use Rattle.b2_access.specs.Waiting.{FinishesUnchanged, PlansBeforeChanges}
use Rattle.b2_access.specs.declared.accesses.Access.{Access}
use Rattle.b2_access.specs.declared.accesses.Answer.{Answer}
use Rattle.b2_access.specs.declared.planned.Outcome.{Outcome}
use Rattle.b2_access.specs.declared.planned.Planned.{Planned}
use Rattle.b2_access.specs.declared.planned.Planned.TheVariants as planned
use Rattle.b2_access.specs.declared.private.Private.{Private}

pub record Work : Type 0 where
  pub mode : Mode
  pub vars : VarsState
  pub print : List ℕ
  pub disk : Option (List ℕ)
  pub global : Option (List ℕ)
  pub term_column : ℕ
  pub print_column : ℕ
  pub last : ℕ
  pub at_end : Bool
  pub next_data : Option (Spot × ℕ)
  pub args : Option (List Value)
  pub shows : Option (List ℕ)
  pub literal : Option (List ℕ)
  pub prompted : Bool
  pub globals : Option Globals

-- nothing is changed; of the `@` variables nothing is told where it leaves them
abbrev pub work_of : Private → Work
work_of me = record {
  mode = me.mode;
  vars = me.vars;
  print = me.print;
  disk = me.disk;
  global = me.global;
  term_column = me.term_column;
  print_column = me.print_column;
  last = me.last;
  at_end = me.at_end;
  next_data = me.next_data;
  args = me.args;
  shows = None;
  literal = me.literal;
  prompted = me.prompted;
  globals = None;
}

-- What it makes wait to be shown is for the terminal; where it makes nothing wait, what waited before still does.
abbrev pub waiting_after : Option (List ℕ) → PendingOutput → PendingOutput
waiting_after None before = before
waiting_after (Some text) before = Some (terminal_address, text)

-- what was changed, the files that are open then, and the devices that are held then
abbrev pub put_all : Work → List (Option Slot) → List (List ℕ) → Private → Private
put_all w slots held me = record me {
  mode = w.mode;
  vars = w.vars;
  slots = slots;
  held = held;
  print = w.print;
  disk = w.disk;
  global = w.global;
  term_column = w.term_column;
  print_column = w.print_column;
  last = w.last;
  at_end = w.at_end;
  next_data = w.next_data;
  args = w.args;
  pending = waiting_after w.shows me.pending;
  literal = w.literal;
  prompted = w.prompted;
}

-- files that were open stay so, and devices that were held
abbrev pub put_back : Work → Private → Private
put_back w me = put_all w me.slots me.held me

-- the `@` variables after it
abbrev pub globals_after : Option Globals → Globals → Globals
globals_after None before = before
globals_after (Some after) before = after

abbrev pub lent_after : Work → SeenLent → SeenLent
lent_after w s = record s { globals = globals_after w.globals s.globals }

-- A FORM OF WHAT A STATEMENT MAY CHANGE: nothing of it is changed, it is put back, and what it tells of the `@` variables
pub record Form (W : Type 0) : Type 0 where
  pub unchanged : Private → W
  pub put : W → Private → Private
  pub globals : W → Option Globals

-- that of most
abbrev pub plain : Form Work
plain = record { unchanged = work_of; put = put_back; globals = λ w. w.globals }

-- what any may change, and more
pub record Wider (More : Type 0) : Type 0 where
  pub work : Work
  pub more : More

-- the files that are open then
abbrev pub OpenSlots : Type 0
OpenSlots = List (Option Slot)

abbrev pub on_files : Form (Wider OpenSlots)
on_files = record {
  unchanged = λ me. record { work = work_of me; more = me.slots };
  put = λ w me. put_all w.work w.more me.held me;
  globals = λ w. w.work.globals;
}

-- the devices that are held then; as it finishes it leaves the `@` variables
abbrev pub HeldDevices : Type 0
HeldDevices = List (List ℕ)

abbrev pub on_devices : Form (Wider HeldDevices)
on_devices = record {
  unchanged = λ me. record { work = work_of me; more = me.held };
  put = λ w me. put_all w.work me.slots w.more me;
  globals = λ w. None;
}

-- a statement that has ended, and what it changed
pub record WorkedIn (W : Type 0) : Type 0 where
  pub work : W
  pub outcome : Outcome

-- it changed nothing
abbrev pub leaves_in : {W : Type 0} → Form W → Private → Outcome → WorkedIn W
leaves_in form me o = record { work = form.unchanged me; outcome = o }

-- a statement of the form of most
abbrev pub Worked : Type 0
Worked = WorkedIn Work

abbrev pub leaves : Private → Outcome → Worked
leaves me o = leaves_in plain me o

abbrev pub FileWorked : Type 0
FileWorked = WorkedIn (Wider OpenSlots)

-- variables that were changed, and where it goes on or a fault
abbrev pub with_variables : Changed → Outcome → Work → Worked
with_variables c goes w = record { work = record w { vars = c.own; globals = Some c.globals }; outcome = goes_or goes c.code }

-- what it comes to: it has ended, or nothing changes, and this is planned
pub data Working : Type 0 where
  Ends : Worked → Working
  Plans : Planned → Working

-- it stops there, and nothing changes
abbrev pub stops : Outcome → Working
stops o = Plans (planned.Done o)

abbrev pub planned_of : Working → Planned
planned_of (Ends w) = planned.Done w.outcome
planned_of (Plans p) = p

-- what it changed is put back
abbrev pub ended : Private → Worked → Ended
ended me w = record { me = put_back w.work me; outcome = w.outcome }

abbrev pub as_planned : Private → SeenLent → Working → Planning
as_planned me s (Ends w) = done (lent_after w.work s) (ended me w)
as_planned me s (Plans p) = record { me = me; globals = s.globals; planned = p }

-- A WAY OF PLANNING, AND ONE OF FINISHING IN A FORM
abbrev pub plans_by : (Private → SeenLent → Working) → Private → SeenLent → Planning
plans_by way me s = as_planned me s (way me s)

abbrev pub FinishingIn : Type 0 → Type 0
FinishingIn W = Access → Answer → Private → SeenLent → WorkedIn W

abbrev pub finishes_in : {W : Type 0} → Form W → FinishingIn W → Access → Answer → Private → SeenLent → Finishing
finishes_in form way x a me s =
    finished (record s { globals = globals_after (form.globals (way x a me s).work) s.globals }) (record { me = form.put (way x a me s).work me; outcome = (way x a me s).outcome })

abbrev pub finishes_by : FinishingIn Work → Access → Answer → Private → SeenLent → Finishing
finishes_by way x a me s = finishes_in plain way x a me s

-- WHAT THEY STILL HAVE TO SHOW. What is planned leads to no place but one that goes with those that were named before, and marks no home but these, and
-- asks at the own terminal alone; what finishes leads to the home of the place; an answer that delays changes nothing; and the `@`
-- variables are changed where a receiver among them was reached, and nowhere else.
abbrev pub PlansEachWithin : (Private → SeenLent → Working) → Type 0
PlansEachWithin way = (among : Naming) (me : Private) (s : SeenLent) → NamesOnly among me → PlannedNamed among (planned_of (way me s))

abbrev pub PlansEachAtTerminal : (Private → SeenLent → Working) → Type 0
PlansEachAtTerminal way = (me : Private) (s : SeenLent) → PlannedAt me.term (planned_of (way me s))

abbrev pub LeadsWithin : {W : Type 0} → FinishingIn W → Type 0
LeadsWithin way = (among : Naming) (x : Access) (a : Answer) (me : Private) (s : SeenLent) → PlaceNamed among me.place → OutcomeNamed among (way x a me s).outcome

abbrev pub ChangesNothing : {W : Type 0} → Form W → FinishingIn W → Type 0
ChangesNothing form way = (x : Access) (a : Answer) (me : Private) (s : SeenLent) → delays a ≡ true → (way x a me s).work ≡ form.unchanged me

-- what it tells of the `@` variables, where it tells anything
abbrev pub told_of_globals : Working → Option Globals
told_of_globals (Ends w) = w.work.globals
told_of_globals (Plans p) = None

abbrev pub PlansEachReach : (Private → SeenLent → Working) → Type 0
PlansEachReach way = (me : Private) (s : SeenLent) → MayBecome s.globals (globals_after (told_of_globals (way me s)) s.globals)

abbrev pub EachReaches : {W : Type 0} → Form W → FinishingIn W → Type 0
EachReaches form way = (x : Access) (a : Answer) (me : Private) (s : SeenLent) → MayBecome s.globals (globals_after (form.globals (way x a me s).work) s.globals)

-- SO IT HOLDS OF EACH, BY ITS FORM; and what each leaves of the open files and of the devices that are held
abbrev pub PlansArePutBack : Type 0
PlansArePutBack =
    (way : Private → SeenLent → Working)
    → PlansInPlace (plans_by way) × PlansKeepNone (plans_by way) × PlansBeforeChanges (plans_by way) × PlansToShow (plans_by way)
    × (PlansEachWithin way → PlansWithin (plans_by way)) × (PlansEachAtTerminal way → PlansAtTerminal (plans_by way))
    × PlansKeepFiles (plans_by way) × PlansKeepHeld (plans_by way) × (PlansEachReach way → PlansReach (plans_by way))

-- whichever form it is
abbrev pub IsPutBack : {W : Type 0} → Form W → Type 0
IsPutBack {W} form =
    (way : FinishingIn W)
    → FinishesInPlace (finishes_in form way) × FinishesAtTerminal (finishes_in form way) × FinishesToShow (finishes_in form way)
    × (ChangesNothing form way → FinishesUnchanged (finishes_in form way)) × (ChangesNothing form way → EachReaches form way → FinishesReach (finishes_in form way))

-- one that changes no frame and no place that is kept
abbrev pub IsLeftInFrames : {W : Type 0} → Form W → Type 0
IsLeftInFrames {W} form = (way : FinishingIn W) → FinishesKeepNone (finishes_in form way) × (LeadsWithin way → FinishesWithin (finishes_in form way))

abbrev pub IsLeftItsFiles : {W : Type 0} → Form W → Type 0
IsLeftItsFiles {W} form = (way : FinishingIn W) → FinishesKeepFiles (finishes_in form way)

abbrev pub IsLeftItsDevices : {W : Type 0} → Form W → Type 0
IsLeftItsDevices {W} form = (way : FinishingIn W) → FinishesKeepHeld (finishes_in form way)

abbrev pub FinishesArePutBack : Type 0
FinishesArePutBack =
    (IsPutBack plain × IsLeftInFrames plain × IsLeftItsFiles plain × IsLeftItsDevices plain)
    × (IsPutBack on_files × IsLeftInFrames on_files × IsLeftItsDevices on_files)
    × (IsPutBack on_devices × IsLeftInFrames on_devices × IsLeftItsFiles on_devices)
