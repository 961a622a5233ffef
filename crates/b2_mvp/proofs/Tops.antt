-- The statuses of the parts are those of the whole.
use Rattle.std.proofs.Common.{◌≡◌, ℕ, List, ◌++◌, Option, Some, None, refl, sym, ap, subst, ◌∙◌, inl, inr, arith}
use Rattle.std.specs.Option.{option_map}
use Rattle.b2_base.specs.Files.{Files, IsAbsent}
use Rattle.b2_base.specs.Outside.{IsPartWritten}
use Rattle.b2_base.specs.Seen.{ShelfSeen, SinkSeen, Later}
use Rattle.b2_boot.specs.Boots.{BootState}
use Rattle.b2_boot.specs.declared.boot.BootPlatter.{BootPlatter}
use Rattle.b2_sched.specs.Start.{CanStart, Images}
use Rattle.b2_mvp.specs.Inputs.{log_limit, image_limit, HasBoot, HaveImages, IsNext, FailsLog, FailsChecks, CannotBoot, CannotLog, CannotOpen, CannotReadFrom, FailsAmong, CannotReadAll, HasInputs, Refuses}
use Rattle.b2_mvp.specs.Outputs.{Output, outputs, with_files, summary, FailsKeep}
use Rattle.b2_mvp.specs.Inputs.Input.{TheBoot, TheLog, TheImage}
use Rattle.b2_mvp.specs.Top.{command_of, boot_for, world_after, Runs, Stops, Delivers, FailsOutput, RunComes}
use Rattle.b2_mvp.specs.declared.inputs.BootAndLog.{BootAndLog}
use Rattle.b2_mvp.specs.declared.inputs.Source.{Source}
use Rattle.b2_mvp.specs.declared.inputs.Source.TheVariants as source
use Rattle.b2_status.specs.Fetches.{FetchFails, IsLonger}
use Rattle.b2_status.specs.Puts.{PutEnds}
use Rattle.b2_status.specs.declared.status.Status.{Status}
use Rattle.b2_status.specs.declared.status.Status.TheVariants as status
use Rattle.b2_mvp.specs.declared.top.Command.TheVariants as command
use Rattle.b2_mvp.specs.declared.top.Job.{Job}
use Rattle.b2_mvp.proofs.BootNumbers.{numbered_for}
use Rattle.b2_mvp.proofs.GroupOutputs.{groups_show, lists_clean, own_part_shows, parts_show, starts_for}
use Rattle.b2_mvp.proofs.Keeps.{rose_later}

-- a fetch that comes after another
pub later_fetch : (name : List ℕ) (limit : ℕ) (old mid new : ShelfSeen) (s : Status) → Later old mid → mid.files ≡ old.files → FetchFails name limit mid new s → FetchFails name limit old new s
later_fetch name limit old mid new status.Ok later same h = h
later_fetch name limit old mid new status.Usage later same h = h
later_fetch name limit old mid new (status.Missing at) later same h = (h.0, rose_later _ _ _ later.misses h.1, subst (λ f. IsAbsent f at) same h.2)
later_fetch name limit old mid new (status.ReadFault at) later same h = (h.0, rose_later _ _ _ later.faults h.1)
later_fetch name limit old mid new (status.TooLong at most) later same h = (h.0, h.1, rose_later _ _ _ later.longs h.2, subst (λ f. IsLonger f at most) same h.3)
later_fetch name limit old mid new (status.BadBoot check) later same h = h
later_fetch name limit old mid new (status.BadLog line check) later same h = h
later_fetch name limit old mid new (status.BadImage address check) later same h = h
later_fetch name limit old mid new (status.WriteFault at) later same h = h
later_fetch name limit old mid new status.NoMemory later same h = h
later_fetch name limit old mid new (status.KeepNoMemory at) later same h = h

-- counts after two calls
pub later_again : (old mid new : ShelfSeen) → Later old mid → Later mid new → Later old new
later_again old mid new h k =
    let a = h.faults in let b = k.faults in let c = h.misses in let d = k.misses in let e = h.longs in let f = k.longs in
    record { faults = omega arith; misses = omega arith; longs = omega arith }

-- a boot that ends the call
pub no_boot : (texts : BootAndLog) (old new : ShelfSeen) (s : Status) → CannotBoot texts.boot old new s → Refuses (source.Files texts) old new s
no_boot texts old new status.Ok h = absurd h
no_boot texts old new status.Usage h = absurd h
no_boot texts old new (status.Missing at) h = record { input = TheBoot; reached = tt; fails = h }
no_boot texts old new (status.ReadFault at) h = record { input = TheBoot; reached = tt; fails = h }
no_boot texts old new (status.TooLong at limit) h = record { input = TheBoot; reached = tt; fails = h }
no_boot texts old new (status.BadBoot check) h = h
no_boot texts old new (status.BadLog line check) h = absurd h
no_boot texts old new (status.BadImage address check) h = absurd h
no_boot texts old new (status.WriteFault at) h = absurd h
no_boot texts old new status.NoMemory h = tt
no_boot texts old new (status.KeepNoMemory at) h = absurd h

log_of_old : (name : List ℕ) (boot : BootState) (line check : ℕ) (old mid : Option Files) → mid ≡ old → FailsLog name mid boot line check → FailsLog name old boot line check
log_of_old name boot line check old mid same h = subst (λ f. FailsLog name f boot line check) same h

-- a log that ends the call, after the boot was read
pub no_log : (texts : BootAndLog) (boot : BootState) (old mid new : ShelfSeen) (s : Status) → Later old mid → mid.files ≡ old.files → HasBoot texts.boot old.files boot
    → CannotLog texts.log boot mid new s → Refuses (source.Files texts) old new s
no_log texts boot old mid new status.Ok later same has h = absurd h
no_log texts boot old mid new status.Usage later same has h = absurd h
no_log texts boot old mid new (status.Missing at) later same has h = record { input = TheLog; reached = (boot, has); fails = later_fetch texts.log log_limit old mid new (status.Missing at) later same h }
no_log texts boot old mid new (status.ReadFault at) later same has h = record { input = TheLog; reached = (boot, has); fails = later_fetch texts.log log_limit old mid new (status.ReadFault at) later same h }
no_log texts boot old mid new (status.TooLong at limit) later same has h =
    record { input = TheLog; reached = (boot, has); fails = later_fetch texts.log log_limit old mid new (status.TooLong at limit) later same h }
no_log texts boot old mid new (status.BadBoot check) later same has h = absurd h
no_log texts boot old mid new (status.BadLog line check) later same has h = (boot, has, log_of_old texts.log boot line check old.files mid.files same h)
no_log texts boot old mid new (status.BadImage address check) later same has h = absurd h
no_log texts boot old mid new (status.WriteFault at) later same has h = absurd h
no_log texts boot old mid new status.NoMemory later same has h = tt
no_log texts boot old mid new (status.KeepNoMemory at) later same has h = absurd h

-- the file of an image that ends the call, after the log was read
refused_file : (c : Source) (old mid new : ShelfSeen) (inputs : HasInputs c old.files) (p : BootPlatter) (name : List ℕ) (s : Status) → Later old mid → mid.files ≡ old.files
    → IsNext old.files inputs.boot.platters p name → CannotOpen p.address name mid new s → Refuses c old new s
refused_file c old mid new inputs p name status.Ok later same next h = absurd h
refused_file c old mid new inputs p name status.Usage later same next h = absurd h
refused_file c old mid new inputs p name (status.Missing at) later same next h =
    record { input = TheImage p name; reached = (inputs, next); fails = later_fetch name image_limit old mid new (status.Missing at) later same h }
refused_file c old mid new inputs p name (status.ReadFault at) later same next h =
    record { input = TheImage p name; reached = (inputs, next); fails = later_fetch name image_limit old mid new (status.ReadFault at) later same h }
refused_file c old mid new inputs p name (status.TooLong at limit) later same next h =
    record { input = TheImage p name; reached = (inputs, next); fails = later_fetch name image_limit old mid new (status.TooLong at limit) later same h }
refused_file c old mid new inputs p name (status.BadBoot check) later same next h = absurd h
refused_file c old mid new inputs p name (status.BadLog line check) later same next h = absurd h
refused_file c old mid new inputs p name (status.BadImage address check) later same next h =
    (inputs, record { platter = p; name = name; next = next; is_at = sym h.0; fails = subst (λ f. FailsChecks name f check) same h.1 })
refused_file c old mid new inputs p name (status.WriteFault at) later same next h = absurd h
refused_file c old mid new inputs p name status.NoMemory later same next h = tt
refused_file c old mid new inputs p name (status.KeepNoMemory at) later same next h = absurd h

-- an image that does, whether it has a file or is blank
refused_image : (c : Source) (old mid new : ShelfSeen) (inputs : HasInputs c old.files) (p : BootPlatter) (image : Option (List ℕ)) (s : Status) → Later old mid → mid.files ≡ old.files
    → p.image ≡ image → ((name : List ℕ) → p.image ≡ Some name → IsNext old.files inputs.boot.platters p name) → CannotReadFrom image p.address mid new s → Refuses c old new s
refused_image c old mid new inputs p None s later same is next h = subst (λ st. Refuses c old new st) (sym h) tt
refused_image c old mid new inputs p (Some name) s later same is next h = refused_file c old mid new inputs p name s later same (next name is) h

by_among : (c : Source) (old mid new : ShelfSeen) (inputs : HasInputs c old.files) (s : Status) → Later old mid → mid.files ≡ old.files → FailsAmong inputs.boot.platters mid new s → Refuses c old new s
by_among c old mid new inputs s later same h =
    refused_image c old mid new inputs h.platter h.platter.image s later same refl
    (λ name is. record {
      before = h.before;
      images = h.images;
      after = h.after;
      in_order = h.in_order;
      have_images = subst (λ f. HaveImages f h.before h.images) same h.have_images;
      named = is;
    })
    h.fails

-- one among those of a boot
pub no_images : (c : Source) (old mid new : ShelfSeen) (inputs : HasInputs c old.files) (s : Status) → Later old mid → mid.files ≡ old.files → CannotReadAll inputs.boot.platters mid new s → Refuses c old new s
no_images c old mid new inputs status.NoMemory later same h = tt
no_images c old mid new inputs s later same h = by_among c old mid new inputs s later same h

stops : (words : List (List ℕ)) (c : Job) (old new : ShelfSeen) (before after : SinkSeen) (s : Status) → command_of words ≡ Some (command.Run c) → new.files ≡ old.files → after ≡ before
    → Refuses c.source old new s → Stops words old new before after s
stops words c old new before after s is same still h = record { job = c; is_command = is; refuses = h; untouched = record { files = same; sink = still } }

-- a command that ends before its run
pub stopped : (words : List (List ℕ)) (c : Job) (old new : ShelfSeen) (before after : SinkSeen) (s : Status) → command_of words ≡ Some (command.Run c) → new.files ≡ old.files → after ≡ before
    → Refuses c.source old new s → RunComes words old new before after s
stopped words c old new before after status.Ok is same still h = absurd h.fails
stopped words c old new before after status.Usage is same still h = absurd h.fails
stopped words c old new before after (status.Missing at) is same still h = stops words c old new before after (status.Missing at) is same still h
stopped words c old new before after (status.ReadFault at) is same still h = stops words c old new before after (status.ReadFault at) is same still h
stopped words c old new before after (status.TooLong at limit) is same still h = stops words c old new before after (status.TooLong at limit) is same still h
stopped words c old new before after (status.BadBoot check) is same still h = stops words c old new before after (status.BadBoot check) is same still h
stopped words c old new before after (status.BadLog line check) is same still h = stops words c old new before after (status.BadLog line check) is same still h
stopped words c old new before after (status.BadImage address check) is same still h = stops words c old new before after (status.BadImage address check) is same still h
stopped words c old new before after (status.WriteFault at) is same still h = absurd h.fails
stopped words c old new before after status.NoMemory is same still h = stops words c old new before after status.NoMemory is same still h
stopped words c old new before after (status.KeepNoMemory at) is same still h = absurd h.fails

-- outputs that failed after the inputs were read
output : (xs ys : List Output) (line text : List ℕ) (old mid new : ShelfSeen) (before after : SinkSeen) (at : List ℕ) (cause later_cause sink_cause : Type 0)
    → xs ≡ ys → line ≡ text → mid.files ≡ old.files → (cause → later_cause)
    → FailsOutput xs line mid new before after at cause sink_cause → FailsOutput ys text old new before after at later_cause sink_cause
output xs ys line text old mid new before after at cause later_cause sink_cause all line_is same later h =
    elim h as (λ _. FailsOutput ys text old new before after at later_cause sink_cause) [
      | inl a ↦ inl (subst (λ zs. FailsKeep zs at old.files new.files) all (subst (λ f. FailsKeep xs at f new.files) same a.0), later a.1, a.2)
      | inr b ↦ inr (b.0, b.1, b.2 ∙ (λ i. with_files (all i) (same i)), subst (IsPartWritten before.written after.written) line_is b.3)
    ]

-- what the words run
abbrev runs : (words : List (List ℕ)) (c : Job) (files : Option Files) (inputs : HasInputs c.source files) (images : Images) → command_of words ≡ Some (command.Run c) → HaveImages files inputs.boot.platters images → Runs words files
runs words c files inputs images is have = record { job = c; is_command = is; inputs = inputs; images = images; have_images = have }

-- what is delivered after the inputs were read and the events were run
pub delivered : (words : List (List ℕ)) (c : Job) (old : ShelfSeen) (inputs : HasInputs c.source old.files) (images : Images) (all : List Output) (line : List ℕ)
    (mid new : ShelfSeen) (before after : SinkSeen) (s : Status)
    → command_of words ≡ Some (command.Run c) → CanStart inputs.boot → HaveImages old.files inputs.boot.platters images
    → all ≡ outputs c.out inputs.boot (world_after (boot_for c.group inputs.boot) images inputs.events).store
    → line ≡ summary (boot_for c.group inputs.boot) (world_after (boot_for c.group inputs.boot) images inputs.events)
    → Later old mid → mid.files ≡ old.files
    → Delivers all line mid new before after s → RunComes words old new before after s
delivered words c old inputs images all line mid new before after status.Ok is can have all_is line_is later same h =
    record {
      run = runs words c old.files inputs images is have;
      files = h.0 ∙ (λ i. with_files (all_is i) (same i));
      written = h.1 ∙ ap (λ (l : List ℕ). option_map (λ w. w ++ l) before.written) line_is;
      groups = groups_show c.out (boot_for c.group inputs.boot) images inputs.events;
      listed = lists_clean (boot_for c.group inputs.boot) images inputs.events (numbered_for c.source old.files inputs c.group);
      parts = parts_show c.out (boot_for c.group inputs.boot) images inputs.events (starts_for c.group inputs.boot can);
      own_part = own_part_shows c.group c.out inputs.boot images inputs.events can;
    }
delivered words c old inputs images all line mid new before after (status.WriteFault at) is can have all_is line_is later same h =
    record {
      run = runs words c old.files inputs images is have;
      left = output all _ line _ old mid new before after at _ _ _ all_is line_is same (rose_later _ _ _ later.faults) h;
    }
delivered words c old inputs images all line mid new before after (status.KeepNoMemory at) is can have all_is line_is later same h =
    record {
      run = runs words c old.files inputs images is have;
      left = output all _ line _ old mid new before after at _ _ _ all_is line_is same (λ u. u) h;
    }
delivered words c old inputs images all line mid new before after s is can have all_is line_is later same h = absurd h

-- a put after all was kept
pub put_after : (all : List Output) (line : List ℕ) (old new : ShelfSeen) (before after : SinkSeen) (s : Status) → new.files ≡ with_files all old.files
    → PutEnds line before after s → Delivers all line old new before after s
put_after all line old new before after status.Ok kept h = (kept, h)
put_after all line old new before after (status.WriteFault at) kept h = inr (h.0, h.1, kept, h.2)
put_after all line old new before after (status.KeepNoMemory at) kept h = inr (h.0, h.1, kept, h.2)
put_after all line old new before after s kept h = absurd h
