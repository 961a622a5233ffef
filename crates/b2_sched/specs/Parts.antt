-- What is a group's own: the part of boot and log that its partitions can come to is enough for them.
use Rattle.std.specs.Prelude.{◌≡◌, ℕ, Bool, true, List, [], ◌∷◌, if◌then◌else◌}
use Rattle.std.specs.List.{list_any}
use Rattle.std.specs.Str.{bytes_eq}
use Rattle.b2_access.specs.Store.{IsIn, content}
use Rattle.b2_access.specs.declared.objects.Object.{Object}
use Rattle.b2_access.specs.declared.objects.Object.TheVariants as object
use Rattle.b2_audit.specs.Steps.{Group, IsClean, foul}
use Rattle.b2_boot.specs.Alone.{alone, has_number, may_be_used, own_boot, part, stands_at}
use Rattle.b2_boot.specs.Boots.{BootState}
use Rattle.b2_boot.specs.declared.log.Event.{Event}
use Rattle.b2_sched.specs.Groups.{steps_of}
use Rattle.b2_sched.specs.Start.{CanStart, Images, booted}
use Rattle.b2_sched.specs.World.{WorldState, private_of, ran}

-- images go with their platters
abbrev pub images_kept : {A : Type 0} → (A → Bool) → List A → Images → Images
images_kept keeps [] images = []
images_kept keeps (d ∷ ds) [] = []
images_kept keeps (d ∷ ds) (i ∷ images) = if keeps d then i ∷ images_kept keeps ds images else images_kept keeps ds images

abbrev pub own_images : BootState → Images → Images
own_images b images = images_kept (λ d. may_be_used b.partitions d.only) b.platters images

-- THE WORLD OF A GROUP'S OWN PART, after all of its log
abbrev pub part_world : Group → BootState → Images → List Event → WorldState
part_world g b images log = ran (part g b log).1 (booted (part g b log).0 (own_images (alone g b) images))

abbrev pub part_boot : Group → BootState → BootState
part_boot g b = own_boot (alone g b)

-- a boot has a printer, and a platter, at an address
abbrev pub has_printer : BootState → List ℕ → Bool
has_printer b a = list_any (λ d. bytes_eq d.address a) b.printers

abbrev pub has_platter : BootState → List ℕ → Bool
has_platter b a = list_any (λ d. bytes_eq d.address a) b.platters

-- Of a world that of the part has the own states of its partitions, what its terminals have at which one of them stands, and what its
-- printers and its platters have, but for some objects.
pub record HasPart (b : BootState) (dirty : List Object) (w v : WorldState) : Type 0 where
  pub privates : (p : ℕ) → has_number b.partitions p ≡ true → private_of p w ≡ private_of p v
  pub terminals : (t : ℕ) → stands_at b.partitions t ≡ true → (IsIn (object.Terminal t) dirty → ⊥) → content w.store (object.Terminal t) ≡ content v.store (object.Terminal t)
  pub printers : (a : List ℕ) → has_printer b a ≡ true → (IsIn (object.Printer a) dirty → ⊥) → content w.store (object.Printer a) ≡ content v.store (object.Printer a)
  pub platters : (a : List ℕ) → has_platter b a ≡ true → (IsIn (object.Platter a) dirty → ⊥) → content w.store (object.Platter a) ≡ content v.store (object.Platter a)

-- To a group alone its own part is enough: whatever keys came to other terminals, and whichever devices there were for others.
abbrev pub PartsAreEnough : Type 0
PartsAreEnough = (g : Group) (b : BootState) (images : Images) (log : List Event) → CanStart b → HasPart (part_boot g b) [] (ran log (booted (alone g b) images)) (part_world g b images log)

-- And so it is to a clean group among others, but for what these wrote.
abbrev pub PartsOfCleanGroupsAreEnough : Type 0
PartsOfCleanGroupsAreEnough = (g : Group) (b : BootState) (images : Images) (log : List Event) → CanStart b → IsClean g (steps_of log (booted b images))
    → HasPart (part_boot g b) (foul g (steps_of log (booted b images))) (ran log (booted b images)) (part_world g b images log)
