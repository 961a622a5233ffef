-- What each access leaves as it was a step does, and so a turn, and so all that happens; and a file is so left.
use Rattle.std.specs.Prelude.{◌≡◌, ℕ, zero, suc, Bool, true, false, List, [], ◌∷◌, Option, Some, None, refl, if◌then◌else◌}
use Rattle.std.proofs.Common.{sym, ◌∙◌}
use Rattle.b2_term.specs.Terminal.{TerminalState, keyed}
use Rattle.b2_dec.specs.declared.values.Value.{Value}
use Rattle.b2_catalog.specs.declared.entry.Entry.{Entry}
use Rattle.b2_access.specs.Loans.{lends}
use Rattle.b2_access.specs.Serving.{itself}
use Rattle.b2_access.specs.Store.{StoreState, content}
use Rattle.b2_access.specs.Touching.{IsLegal}
use Rattle.b2_access.specs.declared.accesses.Access.{Access}
use Rattle.b2_access.specs.declared.devices.Device.{Device}
use Rattle.b2_access.specs.declared.objects.Object.TheVariants as object
use Rattle.b2_access.specs.declared.private.Private.{Private}
use Rattle.b2_machine.specs.Touched.{asking}
use Rattle.b2_machine.specs.Turn.{counted_on, ended_turn, passed_one, passes_none, passes_turn, turn_from, unless_ended}
use Rattle.b2_machine.specs.declared.ends.Why.{Why}
use Rattle.b2_machine.specs.declared.ends.Why.TheVariants as reason
use Rattle.b2_store.specs.Changes.{with_terminal}
use Rattle.b2_store.specs.DiskWork.{serves}
use Rattle.b2_store.specs.Files.{AreGood, AreSound, HasFile, HasFront, HasWhole, IsAbout}
use Rattle.b2_store.proofs.Others.{other-records}
use Rattle.b2_store.proofs.Sound.{platters-stay-sound}
use Rattle.b2_sched.proofs.HeldTurns.{others_leave_held}
use Rattle.b2_sched.proofs.LegalSteps.{IsLegalIfAny, steps_ask_legally}
use Rattle.b2_sched.proofs.StepEnds.{left_where, step_left}
use Rattle.b2_sched.specs.Choice.{basic}
use Rattle.b2_sched.specs.EachStep.{AtEachStep, EachInAction, EachInTurn, EachOf, UnlessPassed}
use Rattle.b2_sched.specs.Files.{AsksElsewhere, FilesOutlastTurns, HeldFilesStay, LeavesFile}
use Rattle.b2_sched.specs.Lawful.{basic_is_lawful}
use Rattle.b2_sched.specs.Turns.{step_of}
use Rattle.b2_sched.specs.World.{WorldState, Action, Key, Front, Halt, Reset, Turn, does, does_all, private_of, with_turn}

-- ---- what holds of a store, through all that happens

are-good : (s : StoreState) → AreSound s → AreGood s
are-good s sound addr image there = (sound addr image there).0

module _ (addr name : List ℕ) (Holds : StoreState → Type 0)
    (served : (who : ℕ) (x : Access) (s : StoreState) → IsLegal x → AreGood s → (IsAbout addr name x → ⊥) → Holds s → Holds (serves s who x).after)
    (moved : (s t : StoreState) → content t (object.Platter addr) ≡ content s (object.Platter addr) → Holds s → Holds t) where
  -- so it does, and platters stay sound
  abbrev Both : StoreState → Type 0
  Both s = AreSound s × Holds s

  same_both : (s t : StoreState) → ((a : List ℕ) → content t (object.Platter a) ≡ content s (object.Platter a)) → Both s → Both t
  same_both s t same k = (λ a image there. k.0 a image (sym (same a) ∙ there), moved s t (same addr) k.1)

  asked : (x : Option Access) (who : ℕ) (s : StoreState) → IsLegalIfAny x → AsksElsewhere addr name x → Both s → Both (left_where x who s)
  asked None who s legal h k = k
  asked (Some x) who s legal h k = (platters-stay-sound who x s legal k.0, served who x s legal (are-good s k.0) h k.1)

  module _ (devices : List Device) where
    in_step : (me : Private) (s : StoreState) → LeavesFile addr name devices me s → Both s → Both (step_of devices me s).after
    in_step me s h k =
        let x = asking (basic devices) me s in
        let l = step_left (basic devices) me s in
        same_both (left_where x me.part l.before) (step_of devices me s).after (λ a. l.left (object.Platter a) refl)
        (asked x me.part l.before (steps_ask_legally (basic devices) (basic_is_lawful devices) me s) h (same_both s l.before (λ a. l.lent (object.Platter a) refl) k))

    in_turn : (n : ℕ) (me : Private) (s : StoreState) (steps : ℕ) → EachInTurn (LeavesFile addr name) devices n me s → Both s → Both (turn_from (basic devices) itself serves lends n me s steps).after
    unfolding turn_from
    in_turn zero me s steps h k = k
    in_turn (suc n) me s steps h k =
        let x = step_of devices me s in
        by x.end.why refl (in_step me s h.0 k) (λ on. in_turn n x.me x.after (counted_on steps x.end) (h.1 on) (in_step me s h.0 k))
      where
        by : (o : Option Why) → (step_of devices me s).end.why ≡ o → Both (step_of devices me s).after
            → ((step_of devices me s).end.why ≡ None → Both (turn_from (basic devices) itself serves lends n (step_of devices me s).me (step_of devices me s).after (counted_on steps (step_of devices me s).end)).after)
            → Both (unless_ended o (λ w. ended_turn (counted_on steps (step_of devices me s).end) w (step_of devices me s).me (step_of devices me s).after) (turn_from (basic devices) itself serves lends n (step_of devices me s).me (step_of devices me s).after (counted_on steps (step_of devices me s).end))).after
        by None is here later = later is
        by (Some why) is here later = here

  terminal_left : (o : Option TerminalState) (t : ℕ) (f : TerminalState → TerminalState) (s : StoreState) → Both s → Both (with_terminal o t f s)
  terminal_left None t f s k = k
  terminal_left (Some x) t f s k = (k.0, moved s (with_terminal (Some x) t f s) refl k.1)

  given : (p n : ℕ) (o : Option Private) (w : WorldState) → EachOf (LeavesFile addr name) w.devices n o w.store → Both w.store → Both (with_turn p o n w).store
  given p n None w h k = k
  given p n (Some me) w h k = by (passes_turn me) h
    where
      by : (b : Bool) → UnlessPassed b (EachInTurn (LeavesFile addr name) w.devices n (passes_none me) w.store)
          → Both (if b then ended_turn 0 reason.Break (passed_one me) w.store else turn_from (basic w.devices) itself serves lends n (passes_none me) w.store 0).after
      by true none = k
      by false each = in_turn w.devices n (passes_none me) w.store 0 each k

  in_action : (x : Action) (w : WorldState) → EachInAction (LeavesFile addr name) x w → Both w.store → Both (does x w).store
  in_action (Key t key) w h k = terminal_left (content w.store (object.Terminal t)) t (keyed key) w.store k
  in_action (Front t p) w h k = terminal_left (content w.store (object.Terminal t)) t (λ x. record x { front = p }) w.store k
  in_action (Halt p) w h k = k
  in_action (Reset p) w h k = k
  in_action (Turn p n) w h k = given p n (private_of p w) w h k

  in_actions : (between : List Action) (w : WorldState) → AtEachStep (LeavesFile addr name) between w → Both w.store → Both (does_all between w).store
  in_actions [] w h k = k
  in_actions (x ∷ rest) w h k = in_actions rest (does x w) h.1 (in_action x w h.0 k)

-- ---- the records of a file

file_moved : (addr image : List ℕ) (e : Entry) (s t : StoreState) → content t (object.Platter addr) ≡ content s (object.Platter addr) → HasFile s addr e image → HasFile t addr e image
file_moved addr image e s t same f = record { there = same ∙ f.there; good = f.good; file = f.file; live = f.live; of_data = f.of_data }

front_moved : (addr : List ℕ) (e : Entry) (pos : ℕ) (records : List (List Value)) (s t : StoreState) → content t (object.Platter addr) ≡ content s (object.Platter addr) → HasFront s addr e pos records → HasFront t addr e pos records
front_moved addr e pos records s t same front = (front.0, file_moved addr front.0 e s t same front.1, front.2)

whole_moved : (addr : List ℕ) (e : Entry) (records : List (List Value)) (s t : StoreState) → content t (object.Platter addr) ≡ content s (object.Platter addr) → HasWhole s addr e records → HasWhole t addr e records
whole_moved addr e records s t same whole = (whole.0, file_moved addr whole.0 e s t same whole.1, whole.2)

pub files_outlast_turns : FilesOutlastTurns
files_outlast_turns w sound between addr e records h = (
  (λ pos most k.
      (in_actions addr e.name (λ s. HasFront s addr e pos records)
      (λ who x s legal good about. (other-records who x s addr e records legal good about).0 pos most)
      (front_moved addr e pos records)
      between w h (sound, k)).1),
  (λ k.
      (in_actions addr e.name (λ s. HasWhole s addr e records)
      (λ who x s legal good about. (other-records who x s addr e records legal good about).1)
      (whole_moved addr e records)
      between w h (sound, k)).1),
)

pub held_files_stay : HeldFilesStay
held_files_stay w p others addr e records reached held other =
    let same = others_leave_held w p addr others (object.Platter addr) reached held other refl in
    (λ pos front. front_moved addr e pos records w.store (does_all others w).store same front, λ whole. whole_moved addr e records w.store (does_all others w).store same whole)
