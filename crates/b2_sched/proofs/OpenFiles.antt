-- Each file that a partition of a world has open is on a platter that the boot lists for it, at its first sector or after it.
use Rattle.std.specs.Prelude.{◌≡◌, ℕ, List, map, Option, Some, None, refl}
use Rattle.std.proofs.Common.{sym, ap, subst, ◌∙◌}
use Rattle.b2_term.specs.Terminal.{TerminalState}
use Rattle.b2_access.specs.Loans.{lends}
use Rattle.b2_access.specs.OpenFiles.{HasOpenFiles}
use Rattle.b2_access.specs.Serving.{itself}
use Rattle.b2_access.specs.Store.{StoreState, content}
use Rattle.b2_access.specs.declared.accesses.Access.{Access}
use Rattle.b2_access.specs.declared.devices.Device.{Device}
use Rattle.b2_access.specs.declared.objects.Object.TheVariants as object
use Rattle.b2_access.specs.declared.private.Private.{Private}
use Rattle.b2_access.proofs.OpenFiles.{none_open}
use Rattle.b2_boot.specs.Boots.{BootState}
use Rattle.b2_boot.specs.Quotas.{quotas_of}
use Rattle.b2_boot.specs.declared.boot.BootPartition.{BootPartition}
use Rattle.b2_boot.specs.declared.log.Event.{Event}
use Rattle.b2_machine.proofs.StepOpenFiles.{steps_keep_open_files}
use Rattle.b2_machine.specs.OpenFiles.{FitsFrom}
use Rattle.b2_machine.specs.Step.{lent_to_begin}
use Rattle.b2_machine.specs.Touched.{asking}
use Rattle.b2_store.specs.Changes.{with_terminal}
use Rattle.b2_store.specs.DiskWork.{serves}
use Rattle.b2_store.specs.Files.{AreSound}
use Rattle.b2_store.proofs.Answered.{answers-fit}
use Rattle.b2_store.proofs.Sound.{platters-stay-sound}
use Rattle.b2_sched.proofs.EachRow.{EachIs}
use Rattle.b2_sched.proofs.Folds.{all_keep_devices}
use Rattle.b2_sched.proofs.KeptThroughout.{AreKept, booted_own, in_actions}
use Rattle.b2_sched.proofs.Lasting.{by_actions}
use Rattle.b2_sched.proofs.LegalSteps.{IsLegalIfAny, steps_ask_legally}
use Rattle.b2_sched.proofs.StepEnds.{begun_stays, left_where, step_left}
use Rattle.b2_sched.specs.Choice.{basic}
use Rattle.b2_sched.specs.Lawful.{basic_asks_for_listed, basic_is_lawful, basic_keeps_open_files}
use Rattle.b2_sched.specs.Laws.{all_actions}
use Rattle.b2_sched.specs.OpenFiles.{OpenFilesAreListed}
use Rattle.b2_sched.specs.Start.{Images, booted, private_row}
use Rattle.b2_sched.specs.Turns.{step_of}
use Rattle.b2_sched.specs.World.{WorldState, private_of, ran}

-- a step: platters stay sound, and so what is answered fits
fits : (s : StoreState) → AreSound s → FitsFrom serves s
fits s sound who a legal = answers-fit s who a legal (λ addr image there. (sound addr image there).0)

same_sound : (s t : StoreState) → ((a : List ℕ) → content t (object.Platter a) ≡ content s (object.Platter a)) → AreSound s → AreSound t
same_sound s t same sound a image there = sound a image (sym (same a) ∙ there)

left_sound : (x : Option Access) (who : ℕ) (s : StoreState) → IsLegalIfAny x → AreSound s → AreSound (left_where x who s)
left_sound None who s legal sound = sound
left_sound (Some x) who s legal sound = platters-stay-sound who x s legal sound

in_step : (devices : List Device) (me : Private) (s : StoreState) → HasOpenFiles devices me × AreSound s → HasOpenFiles devices (step_of devices me s).me × AreSound (step_of devices me s).after
in_step devices me s k =
    let x = asking (basic devices) me s in
    let l = step_left (basic devices) me s in (
      steps_keep_open_files basic basic_is_lawful basic_asks_for_listed basic_keeps_open_files itself serves lends devices me s
          (λ home whose left. fits _ (same_sound s (lent_to_begin itself serves lends me.part home whose s left) (λ a. begun_stays me.part home whose left s (object.Platter a) refl) k.1)) k.0,
      same_sound (left_where x me.part l.before) (step_of devices me s).after (λ a. l.left (object.Platter a) refl)
          (left_sound x me.part l.before (steps_ask_legally (basic devices) (basic_is_lawful devices) me s) (same_sound s l.before (λ a. l.lent (object.Platter a) refl) k.1)),
    )

-- so does what happens besides
sound_terminal : (o : Option TerminalState) (t : ℕ) (f : TerminalState → TerminalState) (s : StoreState) → AreSound s → AreSound (with_terminal o t f s)
sound_terminal None t f s sound = sound
sound_terminal (Some x) t f s sound = sound

open_files_kept : AreKept HasOpenFiles AreSound
open_files_kept = record { step = in_step; halt = λ devices me own. own; reset = λ devices me own. own; pass = λ devices me k own. own; terminal = sound_terminal }

-- at the start of a boot no file is open
booted_open : (devices : List Device) (ps : List BootPartition) → EachIs (λ p me. HasOpenFiles devices me) (map private_row ps)
booted_open devices ps = booted_own (HasOpenFiles devices) (λ x. none_open devices x.number 16) ps

-- after whatever was run from a boot
pub booted_stay_sound : (b : BootState) (images : Images) (log : List Event) → AreSound (booted b images).store → AreSound (ran log (booted b images)).store
booted_stay_sound b images log sound =
    let w = booted b images in
    subst (λ (x : WorldState). AreSound x.store) (sym (by_actions log w)) (in_actions HasOpenFiles AreSound open_files_kept (all_actions (quotas_of b) log) w (booted_open w.devices b.partitions, sound)).1

pub open_files_are_listed : OpenFilesAreListed
open_files_are_listed b images log sound p me is =
    let w = booted b images in
    let acts = all_actions (quotas_of b) log in
    let after = (in_actions HasOpenFiles AreSound open_files_kept acts w (booted_open w.devices b.partitions, sound)).0 in
    subst (λ (ds : List Device). HasOpenFiles ds me) (all_keep_devices acts w) (after p me (ap (private_of p) (sym (by_actions log w)) ∙ is))
