-- What a run shows of groups of partitions: the group theorem and own parts over what is kept, and the marks over the list.
use Rattle.std.proofs.Common.{◌≡◌, ℕ, ◌==◌, ◌||◌, ◌&&◌, Bool, true, false, List, [], ◌∷◌, map, Option, Some, None, refl, sym, ap, subst, ◌∙◌, arith}
use Rattle.std.specs.Prelude.{filter}
use Rattle.std.proofs.lemmas.Bool.{and_from, and_parts}
use Rattle.std.proofs.lemmas.Bool.Decides.{nat_tests}
use Rattle.b2_access.specs.declared.objects.Object.{Object}
use Rattle.b2_access.specs.declared.objects.Object.TheVariants as object
use Rattle.b2_audit.specs.Marks.{is_clean}
use Rattle.b2_audit.specs.Steps.{IsPartition}
use Rattle.b2_boot.specs.Alone.{is_in_group}
use Rattle.b2_boot.specs.Boots.{BootState}
use Rattle.b2_boot.specs.declared.boot.BootPartition.{BootPartition}
use Rattle.b2_boot.specs.declared.log.Event.{Event}
use Rattle.b2_sched.proofs.AloneBoots.{as_alone}
use Rattle.b2_sched.proofs.BootDevices.{starts_alone}
use Rattle.b2_sched.proofs.PartRuns.{parts_are_enough, parts_of_clean_groups_are_enough}
use Rattle.b2_sched.proofs.WorldMarks.{who_is_clean}
use Rattle.b2_sched.specs.Parts.{HasPart}
use Rattle.b2_sched.specs.Start.{AreNumbered, CanStart, Images, booted}
use Rattle.b2_sched.specs.World.{WorldState, ran}
use Rattle.b2_mvp.specs.Groups.{GroupsShowAsAlone, ListsTheClean, OwnPartShows, PartsShow, ShowsPart}
use Rattle.b2_mvp.specs.Outputs.{image, numbers, printout, transcript}
use Rattle.b2_mvp.specs.Top.{boot_for}

-- the transcript of a terminal, what a printer printed and the image of a platter are functions of what the store has there
pub groups_show : (out : List ℕ) (b : BootState) (images : Images) (log : List Event) → GroupsShowAsAlone out b images log
groups_show out b images log g clean =
    let same = (as_alone g b images log clean).1 in (
      (λ t not_foul. ap (transcript out t) (same (object.Terminal t) (λ outside. outside) not_foul)),
      (λ a not_foul. ap (printout out a) (same (object.Printer a) (λ outside. outside) not_foul)),
      (λ a not_foul. ap (image out a) (same (object.Platter a) (λ outside. outside) not_foul)),
    )

shows_part : (out : List ℕ) (b : BootState) (dirty : List Object) (w v : WorldState) → HasPart b dirty w v → ShowsPart out b dirty w v
shows_part out b dirty w v h = record {
  terminals = λ t stands clear. ap (transcript out t) (h.terminals t stands clear);
  printers = λ a there clear. ap (printout out a) (h.printers a there clear);
  platters = λ a there clear. ap (image out a) (h.platters a there clear);
}

pub starts_for : (group : Option (List ℕ)) (b : BootState) → CanStart b → CanStart (boot_for group b)
starts_for None b can = can
starts_for (Some parts) b can = starts_alone b (is_in_group parts) can

pub parts_show : (out : List ℕ) (b : BootState) (images : Images) (log : List Event) → CanStart b → PartsShow out b images log
parts_show out b images log can g clean = shows_part out _ _ _ _ (parts_of_clean_groups_are_enough g b images log can clean)

pub own_part_shows : (group : Option (List ℕ)) (out : List ℕ) (b : BootState) (images : Images) (log : List Event) → CanStart b → OwnPartShows group out b images log
own_part_shows None out b images log can = tt
own_part_shows (Some parts) out b images log can = shows_part out _ _ _ _ (parts_are_enough (is_in_group parts) b images log can)

-- a number stands in a filtered list exactly where it stands in the list and passes the test
kept_first : (same there passes here : Bool) → (same ≡ true → true ≡ passes) → here ≡ (there && passes) → (same || here) ≡ ((same || there) && passes)
kept_first true there passes here h k = h refl
kept_first false there passes here h k = k

fails_all : (there : Bool) → (there && false) ≡ false
fails_all true = refl
fails_all false = refl

dropped_first : (same there passes here : Bool) → (same ≡ true → false ≡ passes) → here ≡ (there && passes) → here ≡ ((same || there) && passes)
dropped_first true there passes here h k = k ∙ ap (λ (b : Bool). there && b) (sym (h refl)) ∙ fails_all there ∙ h refl
dropped_first false there passes here h k = k

filtered_first : (test : ℕ → Bool) (n p : ℕ) (ns : List ℕ) (b : Bool) → test n ≡ b → is_in_group (filter test ns) p ≡ (is_in_group ns p && test p)
    → is_in_group (filter test (n ∷ ns)) p ≡ (((n == p) || is_in_group ns p) && test p)
filtered_first test n p ns true is rest =
    let same : (n == p) ≡ true → true ≡ test p = λ e. (let eq : n ≡ p = grind (arith, nat_tests) in sym is ∙ ap test eq) in
    rw is (kept_first (n == p) (is_in_group ns p) (test p) (is_in_group (filter test ns) p) same rest)
filtered_first test n p ns false is rest =
    let same : (n == p) ≡ true → false ≡ test p = λ e. (let eq : n ≡ p = grind (arith, nat_tests) in sym is ∙ ap test eq) in
    rw is (dropped_first (n == p) (is_in_group ns p) (test p) (is_in_group (filter test ns) p) same rest)

listed-filter : (test : ℕ → Bool) (ns : List ℕ) (p : ℕ) → is_in_group (filter test ns) p ≡ (is_in_group ns p && test p)
listed-filter test [] p = refl
listed-filter test (n ∷ ns) p = filtered_first test n p ns (test n) refl (listed-filter test ns p)

-- the partitions of a boot have numbers from 1 to 16
first_numbered : (q : BootPartition) (ps : List BootPartition) (p : ℕ) (same : Bool) → (q.number == p) ≡ same → IsPartition q.number
    → (is_in_group (map (λ r. r.number) ps) p ≡ true → IsPartition p) → (same || is_in_group (map (λ r. r.number) ps) p) ≡ true → IsPartition p
first_numbered q ps p true is here others e = let eq : q.number ≡ p = grind (arith, nat_tests) in subst IsPartition eq here
first_numbered q ps p false is here others e = others e

numbered : (ps : List BootPartition) (p : ℕ) → AreNumbered ps → is_in_group (map (λ r. r.number) ps) p ≡ true → IsPartition p
numbered [] p are e = absurd cc
numbered (q ∷ ps) p are e = first_numbered q ps p (q.number == p) refl are.0 (numbered ps p are.2) e

pub lists_clean : (b : BootState) (images : Images) (log : List Event) → AreNumbered b.partitions → ListsTheClean b images log
lists_clean b images log are p =
    let test = λ (q : ℕ). is_clean q (ran log (booted b images)).marks in
    let both = listed-filter test (numbers b.partitions) p in (
      (λ e.
          let h = and_parts (is_in_group (numbers b.partitions) p) (test p) (sym both ∙ e) in
          (h.0, (who_is_clean b images log p are (numbered b.partitions p are h.0)).0 h.1)),
      (λ h. both ∙ and_from (is_in_group (numbers b.partitions) p) (test p) h.0 ((who_is_clean b images log p are (numbered b.partitions p are h.0)).1 h.1)),
    )
