-- The partitions of a boot have numbers from 1 to 16 and terminals from 1 to 12.
use Rattle.std.proofs.Common.{◌≡◌, ℕ, ◌≤◌, nat_le, Bool, true, false, ◌&&◌, List, [], ◌∷◌, map, cond, Option, Some, None, Ok, refl, sym, subst, arith}
use Rattle.std.specs.Prelude.{filter}
use Rattle.std.specs.List.{list_all}
use Rattle.std.proofs.lemmas.Bool.{and_parts, leb-true}
use Rattle.b2_boot.specs.Alone.{is_in_group}
use Rattle.b2_boot.specs.Boots.{BootState, boot_of, boot_by_document, boot_by_rows, boot_from, check_of_rows, partitions_by_number, terminals_by_number, unless_failed, has_its_places, may_be_address, may_be_program, partition_of}
use Rattle.b2_boot.specs.Drills.{drill_boot}
use Rattle.b2_boot.specs.Rows.{RowsState, document_of, document_rows, is_between}
use Rattle.b2_base.specs.Files.{Files}
use Rattle.b2_boot.specs.declared.log.Event.{Event}
use Rattle.b2_boot.specs.declared.boot.BootPartition.{BootPartition}
use Rattle.b2_boot.specs.declared.rows.PartitionRow.{PartitionRow}
use Rattle.b2_boot.proofs.ChecksHeld.{passed, partitions_have_places}
use Rattle.b2_sched.specs.Start.{AreNumbered}
use Rattle.b2_mvp.specs.Inputs.{Gives, HasInputs}
use Rattle.b2_mvp.specs.Top.{boot_for}
use Rattle.b2_mvp.specs.declared.inputs.Source.{Source}
use Rattle.b2_mvp.specs.declared.inputs.Source.TheVariants as source

within : (most n : ℕ) → is_between 1 most n ≡ true → (1 ≤ n) × (n ≤ most)
within most n h = let both = and_parts (nat_le 1 n) (nat_le n most) h in (leb-true 1 n both.0, leb-true n most both.1)

rows_numbered : (ps : List PartitionRow) → list_all has_its_places ps ≡ true → AreNumbered (map partition_of ps)
rows_numbered [] h = tt
rows_numbered (p ∷ ps) h =
    let both = and_parts (has_its_places p) (list_all has_its_places ps) h in
    let disk_and_program = may_be_address p.disk && may_be_program p.program in
    let here = and_parts (is_between 1 16 p.number) (is_between 1 12 p.terminal && disk_and_program) both.0 in
    let there = and_parts (is_between 1 12 p.terminal) disk_and_program here.1 in
    (within 16 p.number here.0, within 12 p.terminal there.0, rows_numbered ps both.1)

by_check : (rows : RowsState) (b : BootState) (check : Option ℕ) → check_of_rows rows ≡ check → unless_failed check (boot_from rows) ≡ Ok b → AreNumbered b.partitions
by_check rows b None is e =
    let same : boot_from rows ≡ b = cc in
    let passes = passed rows (terminals_by_number rows.terminals) (partitions_by_number rows.partitions) (sym is) in
    subst (λ (x : BootState). AreNumbered x.partitions) same (rows_numbered (partitions_by_number rows.partitions) (partitions_have_places rows passes.1))
by_check rows b (Some n) is e = absurd cc

by_rows : (rows : Option RowsState) (b : BootState) → boot_by_rows rows ≡ Ok b → AreNumbered b.partitions
by_rows None b e = absurd cc
by_rows (Some rows) b e = by_check rows b (check_of_rows rows) refl e

by_file : (bytes : List ℕ) (b : BootState) → boot_of bytes ≡ Ok b → AreNumbered b.partitions
by_file bytes b =
    elim (document_of bytes) as (λ document. boot_by_document document ≡ Ok b → AreNumbered b.partitions) [
      | None ↦ λ e. absurd cc
      | Some document ↦ λ e. by_rows (document_rows document) b e
    ]

-- so have those of a drill
drill_numbered : (n : ℕ) → AreNumbered (drill_boot n).partitions
unfolding drill_boot
drill_numbered n =
    ((omega arith, omega arith), (omega arith, omega arith), ((omega arith, omega arith), (omega arith, omega arith), ((omega arith, omega arith), (omega arith, omega arith), ((omega arith, omega arith), (omega arith, omega arith), ((omega arith, omega arith), (omega arith, omega arith), ((omega arith, omega arith), (omega arith, omega arith), ((omega arith, omega arith), (omega arith, omega arith), ((omega arith, omega arith), (omega arith, omega arith), tt))))))))

-- so have those that are left of them
first_left : (p : BootPartition) (ps : List BootPartition) (b : Bool) → AreNumbered (p ∷ ps) → AreNumbered (cond b (p ∷ ps) ps)
first_left p ps true h = h
first_left p ps false h = h.2

left_numbered : (test : BootPartition → Bool) (ps : List BootPartition) → AreNumbered ps → AreNumbered (filter test ps)
left_numbered test [] h = tt
left_numbered test (p ∷ ps) h = first_left p (filter test ps) (test p) (h.0, h.1, left_numbered test ps h.2)

for_group : (group : Option (List ℕ)) (b : BootState) → AreNumbered b.partitions → AreNumbered (boot_for group b).partitions
for_group None b h = h
for_group (Some parts) b h = left_numbered (λ p. is_in_group parts p.number) b.partitions h

-- whether they are those of a file or of a drill
given_numbered : (s : Source) (files : Option Files) (b : BootState) (events : List Event) → Gives s files b events → AreNumbered b.partitions
given_numbered (source.Files texts) files b events given = by_file given.has_boot.bytes b given.has_boot.passes
given_numbered (source.Drill n) files b events given = subst (λ (x : BootState). AreNumbered x.partitions) (sym given.boot_is) (drill_numbered n)

pub numbered_for : (s : Source) (files : Option Files) (inputs : HasInputs s files) (group : Option (List ℕ)) → AreNumbered (boot_for group inputs.boot).partitions
numbered_for s files inputs group = for_group group inputs.boot (given_numbered s files inputs.boot inputs.events inputs.given)
