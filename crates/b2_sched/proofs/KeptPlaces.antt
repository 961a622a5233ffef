-- No partition of a world keeps a place for CONTINUE while its program runs.
use Rattle.std.specs.Prelude.{◌≡◌, ℕ, ◌==◌, Bool, true, false, cond, List, [], ◌∷◌, map, Option, Some, is_some, refl}
use Rattle.std.proofs.Common.{ap, subst}
use Rattle.b2_access.specs.Loans.{lends}
use Rattle.b2_access.specs.Partition.{KeepsNone}
use Rattle.b2_access.specs.Rows.{row_of}
use Rattle.b2_access.specs.Serving.{itself}
use Rattle.b2_store.specs.DiskWork.{serves}
use Rattle.b2_access.specs.declared.private.Private.{Private}
use Rattle.b2_boot.specs.declared.boot.BootPartition.{BootPartition}
use Rattle.b2_machine.proofs.KeptPlace.{turn_keeps}
use Rattle.b2_sched.specs.Choice.{basic}
use Rattle.b2_sched.specs.Lawful.{basic_is_lawful}
use Rattle.b2_sched.proofs.EachRow.{IsKept, each_ran}
use Rattle.b2_sched.proofs.GroupRows.{is_it}
use Rattle.b2_sched.specs.Laws.{NoPlaceIsKept}
use Rattle.b2_sched.specs.Start.{booted, private_row}

-- at the start of a boot
first_by : (x : BootPartition) (xs : List BootPartition) (p : ℕ) (me : Private) → (row_of p (map private_row xs) ≡ Some me → KeepsNone me) → (b : Bool)
    → cond b (Some (private_row x).1) (row_of p (map private_row xs)) ≡ Some me → KeepsNone me
first_by x xs p me later true is = subst KeepsNone (is_it (private_row x).1 me is) (λ r. refl)
first_by x xs p me later false is = later is

booted_none : (ps : List BootPartition) (p : ℕ) (me : Private) → row_of p (map private_row ps) ≡ Some me → KeepsNone me
booted_none [] p me is = let clash : false ≡ true = ap (λ (o : Option Private). is_some o) is in cc
booted_none (x ∷ xs) p me is = first_by x xs p me (booted_none xs p me) (x.number == p) is

keeps_none : IsKept (λ p me. KeepsNone me)
keeps_none = record {
  halt = λ p me h. h;
  reset = λ p me h. h;
  turn = λ devices p n me s h. turn_keeps (basic devices) (basic_is_lawful devices) itself serves lends n me s h;
}

pub no_place_kept : NoPlaceIsKept
no_place_kept b images log p me is = each_ran (λ q you. KeepsNone you) keeps_none log (booted b images) (booted_none b.partitions) p me is
