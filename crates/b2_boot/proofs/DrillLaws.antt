-- What holds of each drill.
use Rattle.std.proofs.Common.{◌≡◌, ℕ, zero, suc, ◌+◌, ◌*◌, ◌%◌, ◌≤◌, true, List, [], ◌∷◌, ◌++◌, flat_map, map, max, Some, None, refl, ◌∙◌, arith}
use Rattle.std.specs.List.{list_all}
use Rattle.std.proofs.lemmas.Nat.{mod_below}
use Rattle.std.proofs.lemmas.Bool.{and_parts, le-leb}
use Rattle.std.proofs.lemmas.List.Folds.{list_all-append}
use Rattle.b2_boot.specs.Boots.{BootState, has_terminal, is_platter}
use Rattle.b2_boot.specs.Drills.{DrillsAreGood, DrillsAreOfTheirBoot, DrillsGrantFew, clerks, disk_of, drill_boot, drill_log, next_of, turns, typed_line}
use Rattle.b2_boot.specs.Logs.{granted_by, is_of_boot, key_events}
use Rattle.b2_boot.specs.Quotas.{quotas_of, steps_of_round}
use Rattle.b2_boot.specs.Rows.{is_between}
use Rattle.b2_boot.specs.declared.log.Event.TheVariants as event
use Rattle.b2_boot.proofs.Events.{keys_fit}
use Rattle.b2_boot.proofs.Granted.{granted_by-append, keys_grant_nothing}

-- the steps of the turns: at most fifty each
turns_grant : (b : BootState) (count x : ℕ) → granted_by b (turns count x) ≤ 50 * count
turns_grant b zero x = omega arith
turns_grant b (suc count) x =
    let rest = turns_grant b count (next_of x) in
    let one = mod_below (next_of x) 50 (omega arith) in
    omega arith

-- keys grant none
lines_grant : (b : BootState) (line : List ℕ) (is : List ℕ) → granted_by b (flat_map (λ i. key_events i line) is) ≡ 0
lines_grant b line [] = refl
lines_grant b line (i ∷ is) =
    granted_by-append b (key_events i line) (flat_map (λ i. key_events i line) is) ∙ rw (keys_grant_nothing b i line, lines_grant b line is) refl

pub drills_grant_few : DrillsGrantFew
unfolding drill_boot drill_log
drills_grant_few n =
    let b = drill_boot n in
    let typed = flat_map (λ i. key_events i (typed_line n)) clerks in
    let all = granted_by-append b (typed ++ turns (10 * n) n) (event.Rounds (2 * n + 10) ∷ []) in
    let some = granted_by-append b typed (turns (10 * n) n) in
    let none = lines_grant b (typed_line n) clerks in
    let few = turns_grant b (10 * n) n in
    let each : steps_of_round (quotas_of b) ≡ 160 = refl in
    omega arith

-- between two numbers, as a test
within : (least most n : ℕ) → least ≤ n → n ≤ most → is_between least most n ≡ true
within least most n low high = rw (le-leb least n low, le-leb n most high) refl

-- each event of the turns is of any boot
turns_fit : (b : BootState) (count x : ℕ) → list_all (is_of_boot b) (turns count x) ≡ true
turns_fit b zero x = refl
turns_fit b (suc count) x =
    let below = mod_below (next_of x) 50 (omega arith) in
    rw (within 1 1000 (1 + next_of x % 50) (omega arith) (omega arith)) (turns_fit b count (next_of x))

-- so is each key at a terminal that stands in it
lines_fit : (b : BootState) (line is : List ℕ) → list_all (λ i. has_terminal i b.terminals) is ≡ true → list_all (is_of_boot b) (flat_map (λ i. key_events i line) is) ≡ true
lines_fit b line [] there = refl
lines_fit b line (i ∷ is) there =
    let (here, others) = and_parts (has_terminal i b.terminals) (list_all (λ i. has_terminal i b.terminals) is) there in
    list_all-append (is_of_boot b) (key_events i line) (flat_map (λ i. key_events i line) is) ∙ rw (keys_fit b i line here, lines_fit b line is others) refl

pub drills_are_of_their_boot : DrillsAreOfTheirBoot
unfolding drill_boot drill_log
drills_are_of_their_boot n few =
    let b = drill_boot n in
    let typed = flat_map (λ i. key_events i (typed_line n)) clerks in
    let end = event.Rounds (2 * n + 10) ∷ [] in
    list_all-append (is_of_boot b) (typed ++ turns (10 * n) n) end
    ∙ rw (list_all-append (is_of_boot b) typed (turns (10 * n) n), lines_fit b (typed_line n) clerks refl, turns_fit b (10 * n) n, within 1 100000 (2 * n + 10) (omega arith) (omega arith)) refl

-- platters of so many sectors, where that is a number of sectors
platters_fit : (sectors : ℕ) → is_between 16 32512 sectors ≡ true
    → list_all is_platter (map (λ i. record { address = disk_of i; image = None; blank = Some sectors; only = Some i; version = None }) clerks) ≡ true
platters_fit sectors fit = rw fit refl

sectors_within : (n : ℕ) → n ≤ 5000 → is_between 16 32512 (max 16 (n + 10)) ≡ true
sectors_within n few = within 16 32512 (max 16 (n + 10)) (omega arith) (omega arith)

pub drills_are_good : DrillsAreGood
unfolding drill_boot
drills_are_good n few = record {
  quota = refl;
  quotas = refl;
  terminals_ascend = (omega arith, (omega arith, (omega arith, (omega arith, (omega arith, (omega arith, (omega arith, (omega arith, tt))))))));
  partitions_ascend = (omega arith, (omega arith, (omega arith, (omega arith, (omega arith, (omega arith, (omega arith, (omega arith, tt))))))));
  sizes = refl;
  listed = refl;
  fronts = refl;
  orders = refl;
  few_platters = omega arith;
  few_printers = omega arith;
  devices_ascend = (omega arith, (omega arith, (omega arith, (omega arith, (omega arith, (omega arith, (omega arith, (omega arith, tt))))))));
  platters = platters_fit (max 16 (n + 10)) (sectors_within n few);
  printers = refl;
  images = refl;
  platters_for = refl;
  printers_for = refl;
  disks = refl;
  programs = refl;
}
