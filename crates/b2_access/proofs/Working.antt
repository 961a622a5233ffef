-- What statements leave by their form: whatever such a statement plans, and however it finishes, what it changed is put back, and all else
-- stays. It holds of every form by a few facts of what the form puts back.
use Rattle.std.proofs.Common.{◌≡◌, ◌∙◌, ℕ, Bool, List, Option, Some, None, ap, inl, inr, refl}
use Rattle.b2_base.specs.declared.files.Slot.{Slot}
use Rattle.b2_vars.specs.Globals.{Globals, MayBecome}
use Rattle.b2_access.specs.Homes.{FinishesWithin, FramesNamed, Naming, NamesOnly, PlaceNamed, PlannedNamed, PlansWithin}
use Rattle.b2_access.specs.Keeping.{FinishesInPlace, FinishesKeepFiles, FinishesKeepHeld, FinishesKeepNone, PlansInPlace, PlansKeepFiles, PlansKeepHeld, PlansKeepNone}
use Rattle.b2_access.specs.Lending.{SeenLent}
use Rattle.b2_access.specs.OwnTerminal.{FinishesAtTerminal, PlannedAt, PlansAtTerminal}
use Rattle.b2_access.specs.Pending.{FinishesToShow, KeepsOrShows, PendingOutput, PlansToShow}
use Rattle.b2_access.specs.Reaching.{FinishesReach, PlansReach, ReachedUnlessAsks}
use Rattle.b2_access.specs.Steering.{Control, put_control, steering}
use Rattle.b2_access.specs.Waiting.{FinishesUnchanged, PlansBeforeChanges, UnchangedIfAsks}
use Rattle.b2_access.specs.Working.{Ends, Plans, ChangesNothing, EachReaches, FinishingIn, Form, LeadsWithin, PlansEachReach, PlansEachWithin, PlansEachAtTerminal, Work, Working, as_planned, finishes_in, globals_after, on_devices, on_files, plain, planned_of, plans_by, put_all, put_back, told_of_globals, waiting_after, work_of}
use Rattle.b2_access.specs.declared.planned.Planned.{Planned}
use Rattle.b2_access.specs.declared.planned.Planned.TheVariants as planned
use Rattle.b2_access.specs.declared.private.Private.{Private}

-- what holds of a partition whatever is put back into it holds of it after a plan
pub after_plan : (P : Private → Type 0) (me : Private) (s : SeenLent) (k : Working) → ((w : Work) → P (put_back w me)) → P (as_planned me s k).me
after_plan P me s (Ends w) h = h w.work
after_plan P me s (Plans p) h = h (work_of me)

-- what is planned is what the statement comes to
pub as_it_comes : (P : Planned → Type 0) (me : Private) (s : SeenLent) (k : Working) → P (planned_of k) → P (as_planned me s k).planned
as_it_comes P me s (Ends w) h = h
as_it_comes P me s (Plans p) h = h

pub within : (among : Naming) (me : Private) (w : Work) (slots : List (Option Slot)) (held : List (List ℕ)) → NamesOnly among me → NamesOnly among (put_all w slots held me)
within among me w slots held h = record { part = h.part; place = h.place; kept = h.kept; frames = h.frames }

pub keeps_or_shows : (o : Option (List ℕ)) (before : PendingOutput) → KeepsOrShows before (waiting_after o before)
keeps_or_shows None before = inl refl
keeps_or_shows (Some text) before = inr refl

unchanged_if_asks : (me : Private) (s : SeenLent) (p : Planned) → UnchangedIfAsks me me p
unchanged_if_asks me s (planned.Done o) = tt
unchanged_if_asks me s (planned.Ask a) = refl

before_changes : (me : Private) (s : SeenLent) (k : Working) → UnchangedIfAsks me (as_planned me s k).me (as_planned me s k).planned
before_changes me s (Ends w) = tt
before_changes me s (Plans p) = unchanged_if_asks me s p

-- what it leaves of the `@` variables
reached_unless_asks : (g : Globals) (p : Planned) → ReachedUnlessAsks g g p
reached_unless_asks g (planned.Done o) = record { unreached = λ h. refl; absent = λ h. refl; there = refl }
reached_unless_asks g (planned.Ask a) = refl

reaches : (me : Private) (s : SeenLent) (k : Working) → MayBecome s.globals (globals_after (told_of_globals k) s.globals) → ReachedUnlessAsks s.globals (as_planned me s k).globals (as_planned me s k).planned
reaches me s (Ends w) h = h
reaches me s (Plans p) h = reached_unless_asks s.globals p

-- WHAT IT PLANS
module _ (way : Private → SeenLent → Working) where
  pub plans_within : PlansEachWithin way → PlansWithin (plans_by way)
  plans_within h among me s w =
      (after_plan (NamesOnly among) me s (way me s) (λ x. within among me x me.slots me.held w), as_it_comes (PlannedNamed among) me s (way me s) (h among me s w))

  pub plans_in_place : PlansInPlace (plans_by way)
  plans_in_place me s = after_plan (λ x. x.place ≡ me.place) me s (way me s) (λ w. refl)

  pub plans_keep_none : PlansKeepNone (plans_by way)
  plans_keep_none me s none = inl (after_plan (λ x. x.kept ≡ me.kept) me s (way me s) (λ w. refl) ∙ none)

  pub plans_at_terminal : PlansEachAtTerminal way → PlansAtTerminal (plans_by way)
  plans_at_terminal h me s = (after_plan (λ x. x.term ≡ me.term) me s (way me s) (λ w. refl), as_it_comes (PlannedAt me.term) me s (way me s) (h me s))

  pub plans_to_show : PlansToShow (plans_by way)
  plans_to_show me s = after_plan (λ x. KeepsOrShows me.pending x.pending) me s (way me s) (λ w. keeps_or_shows w.shows me.pending)

  pub plans_before_changes : PlansBeforeChanges (plans_by way)
  plans_before_changes me s = before_changes me s (way me s)

  pub plans_reach : PlansEachReach way → PlansReach (plans_by way)
  plans_reach h me s = reaches me s (way me s) (h me s)

  pub plans_keep_files : PlansKeepFiles (plans_by way)
  plans_keep_files me s = after_plan (λ x. (x.part ≡ me.part) × (x.slots ≡ me.slots)) me s (way me s) (λ w. (refl, refl))

  pub plans_keep_held : PlansKeepHeld (plans_by way)
  plans_keep_held me s = after_plan (λ x. (x.part ≡ me.part) × (x.held ≡ me.held)) me s (way me s) (λ w. (refl, refl))

-- AND HOW IT FINISHES, in a form of which all that is put back leaves the place and the terminal, and makes nothing wait to be shown but
-- what is for that; and where nothing is changed, nothing is
pub record LeavesRest {W : Type 0} (form : Form W) : Type 0 where
  pub place : (w : W) (me : Private) → (form.put w me).place ≡ me.place
  pub term : (w : W) (me : Private) → (form.put w me).term ≡ me.term
  pub shows : (w : W) (me : Private) → KeepsOrShows me.pending (form.put w me).pending
  pub back : (me : Private) → form.put (form.unchanged me) me ≡ me
  pub untold : (me : Private) → form.globals (form.unchanged me) ≡ None

-- it leaves the frames and the place that is kept; the files that are open; the devices that are held
pub record LeavesFrames {W : Type 0} (form : Form W) : Type 0 where
  pub kept : (w : W) (me : Private) → (form.put w me).kept ≡ me.kept
  pub names : (among : Naming) (w : W) (me : Private) → NamesOnly among me → NamesOnly among (form.put w me)

abbrev pub LeavesFiles : {W : Type 0} → Form W → Type 0
LeavesFiles {W} form = (w : W) (me : Private) → ((form.put w me).part ≡ me.part) × ((form.put w me).slots ≡ me.slots)

abbrev pub LeavesDevices : {W : Type 0} → Form W → Type 0
LeavesDevices {W} form = (w : W) (me : Private) → ((form.put w me).part ≡ me.part) × ((form.put w me).held ≡ me.held)

module _ {W : Type 0} (form : Form W) (rest : LeavesRest form) (way : FinishingIn W) where
  pub finishes_in_place : FinishesInPlace (finishes_in form way)
  finishes_in_place x a me s = rest.place (way x a me s).work me

  pub finishes_at_terminal : FinishesAtTerminal (finishes_in form way)
  finishes_at_terminal x a me s = rest.term (way x a me s).work me

  pub finishes_to_show : FinishesToShow (finishes_in form way)
  finishes_to_show x a me s = rest.shows (way x a me s).work me

  pub finishes_unchanged : ChangesNothing form way → FinishesUnchanged (finishes_in form way)
  finishes_unchanged h x a me s is = ap (λ (w : W). form.put w me) (h x a me s is) ∙ rest.back me

  pub finishes_reach : ChangesNothing form way → EachReaches form way → FinishesReach (finishes_in form way)
  finishes_reach h r x a me s = (
    r x a me s,
    λ is. ap (λ (w : W). globals_after (form.globals w) s.globals) (h x a me s is) ∙ ap (λ (o : Option Globals). globals_after o s.globals) (rest.untold me),
  )

  pub put_back_whole : FinishesInPlace (finishes_in form way) × FinishesAtTerminal (finishes_in form way) × FinishesToShow (finishes_in form way)
      × (ChangesNothing form way → FinishesUnchanged (finishes_in form way)) × (ChangesNothing form way → EachReaches form way → FinishesReach (finishes_in form way))
  put_back_whole = (finishes_in_place, finishes_at_terminal, finishes_to_show, finishes_unchanged, finishes_reach)

module _ {W : Type 0} (form : Form W) (frames : LeavesFrames form) (way : FinishingIn W) where
  pub finishes_within : LeadsWithin way → FinishesWithin (finishes_in form way)
  finishes_within h among x a me s leads w = (frames.names among (way x a me s).work me w, h among x a me s w.place)

  pub finishes_keep_none : FinishesKeepNone (finishes_in form way)
  finishes_keep_none x a me s none = inl (frames.kept (way x a me s).work me ∙ none)

pub finishes_keep_files : {W : Type 0} (form : Form W) → LeavesFiles form → (way : FinishingIn W) → FinishesKeepFiles (finishes_in form way)
finishes_keep_files form leaves way x a me s = leaves (way x a me s).work me

pub finishes_keep_held : {W : Type 0} (form : Form W) → LeavesDevices form → (way : FinishingIn W) → FinishesKeepHeld (finishes_in form way)
finishes_keep_held form leaves way x a me s = leaves (way x a me s).work me

-- what each form leaves
pub plain_rest : LeavesRest plain
plain_rest = record { place = λ w me. refl; term = λ w me. refl; shows = λ w me. keeps_or_shows w.shows me.pending; back = λ me. refl; untold = λ me. refl }

pub plain_frames : LeavesFrames plain
plain_frames = record { kept = λ w me. refl; names = λ among w me h. within among me w me.slots me.held h }

pub files_rest : LeavesRest on_files
files_rest = record { place = λ w me. refl; term = λ w me. refl; shows = λ w me. keeps_or_shows w.work.shows me.pending; back = λ me. refl; untold = λ me. refl }

pub files_frames : LeavesFrames on_files
files_frames = record { kept = λ w me. refl; names = λ among w me h. within among me w.work w.more me.held h }

pub devices_rest : LeavesRest on_devices
devices_rest = record { place = λ w me. refl; term = λ w me. refl; shows = λ w me. keeps_or_shows w.work.shows me.pending; back = λ me. refl; untold = λ me. refl }

pub devices_frames : LeavesFrames on_devices
devices_frames = record { kept = λ w me. refl; names = λ among w me h. within among me w.work me.slots w.more h }

pub steering_rest : LeavesRest steering
steering_rest = record { place = λ w me. refl; term = λ w me. refl; shows = λ w me. keeps_or_shows w.work.shows me.pending; back = λ me. refl; untold = λ me. refl }

-- one of control names what the place that is kept and the frames name then
pub control_in : (among : Naming) (c : Control) (me : Private) → NamesOnly among me → PlaceNamed among c.kept × FramesNamed among c.stack → NamesOnly among (put_control c me)
control_in among c me w h = record { part = w.part; place = w.place; kept = h.0; frames = h.1 }

-- the files that are open, and the devices that are held
pub plain_files : LeavesFiles plain
plain_files w me = (refl, refl)

pub plain_devices : LeavesDevices plain
plain_devices w me = (refl, refl)

pub files_devices : LeavesDevices on_files
files_devices w me = (refl, refl)

pub devices_files : LeavesFiles on_devices
devices_files w me = (refl, refl)

pub steering_devices : LeavesDevices steering
steering_devices w me = (refl, refl)
