-- What a run shows of groups of partitions.
use Rattle.std.specs.Prelude.{◌≡◌, ◌↔◌, ℕ, true, List, [], Option, Some, None}
use Rattle.b2_access.specs.declared.objects.Object.{Object}
use Rattle.b2_access.specs.declared.objects.Object.TheVariants as object
use Rattle.b2_access.specs.Store.{IsIn, content}
use Rattle.b2_audit.specs.Steps.{Step, Group, IsClean, foul, just}
use Rattle.b2_boot.specs.Alone.{alone, is_in_group, stands_at}
use Rattle.b2_boot.specs.Boots.{BootState}
use Rattle.b2_boot.specs.declared.log.Event.{Event}
use Rattle.b2_sched.specs.Groups.{steps_of}
use Rattle.b2_sched.specs.Parts.{has_platter, has_printer, part_boot, part_world}
use Rattle.b2_sched.specs.Start.{Images, booted}
use Rattle.b2_sched.specs.World.{WorldState, ran}
use Rattle.b2_mvp.specs.Outputs.{Output, apart, image, numbers, printout, transcript}

-- what is kept of a terminal, of a printer, and of a platter
abbrev pub transcript_kept : List ℕ → ℕ → WorldState → List Output
transcript_kept out t w = transcript out t (content w.store (object.Terminal t))

abbrev pub printout_kept : List ℕ → List ℕ → WorldState → List Output
printout_kept out a w = printout out a (content w.store (object.Printer a))

abbrev pub image_kept : List ℕ → List ℕ → WorldState → List Output
image_kept out a w = image out a (content w.store (object.Platter a))

-- all steps of a run from a boot
abbrev pub steps_from : BootState → Images → List Event → List Step
steps_from b images log = steps_of log (booted b images)

-- what is kept of the terminals, of the printers, and of the platters, that no outsider wrote is what is kept with the group alone
abbrev pub TerminalsAsAlone : List ℕ → Group → BootState → Images → List Event → Type 0
TerminalsAsAlone out g b images log = (t : ℕ) → (IsIn (object.Terminal t) (foul g (steps_from b images log)) → ⊥)
    → transcript_kept out t (ran log (booted b images)) ≡ transcript_kept out t (ran log (booted (alone g b) images))

abbrev pub PrintersAsAlone : List ℕ → Group → BootState → Images → List Event → Type 0
PrintersAsAlone out g b images log = (a : List ℕ) → (IsIn (object.Printer a) (foul g (steps_from b images log)) → ⊥)
    → printout_kept out a (ran log (booted b images)) ≡ printout_kept out a (ran log (booted (alone g b) images))

abbrev pub PlattersAsAlone : List ℕ → Group → BootState → Images → List Event → Type 0
PlattersAsAlone out g b images log = (a : List ℕ) → (IsIn (object.Platter a) (foul g (steps_from b images log)) → ⊥)
    → image_kept out a (ran log (booted b images)) ≡ image_kept out a (ran log (booted (alone g b) images))

-- A GROUP IS AS ALONE: where none of its steps touches what a step of an outsider wrote before, each transcript, each printout and
-- each image that no outsider wrote is that of the boot with the group alone, from the same images and under the same log.
abbrev pub GroupsShowAsAlone : List ℕ → BootState → Images → List Event → Type 0
GroupsShowAsAlone out b images log =
    (g : Group) → IsClean g (steps_from b images log) → TerminalsAsAlone out g b images log × PrintersAsAlone out g b images log × PlattersAsAlone out g b images log

-- What is kept of the terminals, the printers and the platters of a boot, but for some objects, is the same of two worlds.
pub record ShowsPart (out : List ℕ) (b : BootState) (dirty : List Object) (w v : WorldState) : Type 0 where
  pub terminals : (t : ℕ) → stands_at b.partitions t ≡ true → (IsIn (object.Terminal t) dirty → ⊥) → transcript_kept out t w ≡ transcript_kept out t v
  pub printers : (a : List ℕ) → has_printer b a ≡ true → (IsIn (object.Printer a) dirty → ⊥) → printout_kept out a w ≡ printout_kept out a v
  pub platters : (a : List ℕ) → has_platter b a ≡ true → (IsIn (object.Platter a) dirty → ⊥) → image_kept out a w ≡ image_kept out a v

-- ITS OWN PART IS ENOUGH for such a group: what is kept of the terminals at which its partitions stand, and of the printers and the
-- platters that one of them may use, is what is kept of the group's own part of boot and log, but for what an outsider wrote.
abbrev pub PartsShow : List ℕ → BootState → Images → List Event → Type 0
PartsShow out b images log =
    (g : Group) → IsClean g (steps_from b images log)
    → ShowsPart out (part_boot g b) (foul g (steps_from b images log)) (ran log (booted b images)) (part_world g b images log)

-- And so it is, without a but, for the partitions that a command lists to be there alone.
abbrev pub OwnPartShows : Option (List ℕ) → List ℕ → BootState → Images → List Event → Type 0
OwnPartShows None out b images log = Unit {0}
OwnPartShows (Some parts) out b images log =
    ShowsPart out (part_boot (is_in_group parts) b) [] (ran log (booted (alone (is_in_group parts) b) images)) (part_world (is_in_group parts) b images log)

-- THE LIST: a partition stands in it exactly where it is present and by itself is such a group.
abbrev pub ListsTheClean : BootState → Images → List Event → Type 0
ListsTheClean b images log =
    (p : ℕ) → (is_in_group (apart b (ran log (booted b images))) p ≡ true) ↔ ((is_in_group (numbers b.partitions) p ≡ true) × IsClean (just p) (steps_from b images log))
