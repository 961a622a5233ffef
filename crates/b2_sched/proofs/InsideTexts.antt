-- No access changes the own text where somebody stands inside it: an edit is stopped, and all others write no text.
use Rattle.std.specs.Prelude.{◌≡◌, ◌≤◌, ℕ, List, [], ◌∷◌, Option, Some, None, refl}
use Rattle.std.proofs.Common.{ap, arith}
use Rattle.b2_access.specs.AccessRows.{holder_at, row}
use Rattle.b2_access.specs.Borrowers.{times}
use Rattle.b2_access.specs.Entering.{or_nobody}
use Rattle.b2_access.specs.Serving.{performs, unless_stopped}
use Rattle.b2_access.specs.Sharing.{Gives}
use Rattle.b2_access.specs.Stopping.{first_inside, first_other, first_there, stop_by}
use Rattle.b2_access.specs.Store.{StoreState, content}
use Rattle.b2_access.specs.declared.accesses.Access.{Access}
use Rattle.b2_access.specs.declared.accesses.Access.TheVariants as access
use Rattle.b2_access.specs.declared.objects.Object.TheVariants as object
use Rattle.b2_access.proofs.RowLaws.{leaves as row_leaves}
use Rattle.b2_access.proofs.Unwritten.{unwritten}
use Rattle.b2_store.specs.DiskWork.{disks}
use Rattle.b2_sched.proofs.StepEnds.{left_where}

-- one that is inside comes first, or another does
pub somebody_first : (c : Option (List ℕ)) (p : ℕ) → 1 ≤ times p (or_nobody c) → (y : ℕ) × (first_inside c ≡ Some y)
somebody_first None p some = absurd (never some)
  where
    never : 1 ≤ 0 → ⊥
    never h = grind (arith)
somebody_first (Some []) p some = absurd (never some)
  where
    never : 1 ≤ 0 → ⊥
    never h = grind (arith)
somebody_first (Some (y ∷ ys)) p some = (y, refl)

-- an edit is stopped
stopped : (first edited : Option ℕ) (y : ℕ) (g : Gives StoreState) (s : StoreState) → edited ≡ Some y → (unless_stopped (stop_by first edited) g s).after ≡ s
stopped (Some q) edited y g s is = refl
stopped None edited y g s is = ap (λ (o : Option ℕ). (unless_stopped (stop_by None o) g s).after) is

module _ (who y : ℕ) (s : StoreState) (first : first_inside (content s (object.Borrow who)) ≡ Some y) where
  edit_leaves : (a : Access) (g : Gives StoreState) → content (unless_stopped (stop_by (first_other who (first_there (row a).reach s)) (first_inside (content s (object.Borrow who)))) g s).after (object.Text who) ≡ content s (object.Text who)
  edit_leaves a g = ap (λ (t : StoreState). content t (object.Text who)) (stopped (first_other who (first_there (row a).reach s)) (first_inside (content s (object.Borrow who))) y g s first)

pub text_left : (x : Option Access) (who y : ℕ) (s : StoreState) → first_inside (content s (object.Borrow who)) ≡ Some y → content (left_where x who s) (object.Text who) ≡ content s (object.Text who)
text_left None who y s first = refl
text_left (Some (access.PutLine line atoms homes)) who y s first = let a = access.PutLine line atoms homes in edit_leaves who y s first a (performs ((row a).does disks who None) s)
text_left (Some (access.Erase from to homes)) who y s first = let a = access.Erase from to homes in edit_leaves who y s first a (performs ((row a).does disks who None) s)
text_left (Some (access.ClearAll name homes)) who y s first = let a = access.ClearAll name homes in edit_leaves who y s first a (performs ((row a).does disks who None) s)
text_left (Some (access.LoadProgram addr name replace declared homes)) who y s first =
    let a = access.LoadProgram addr name replace declared homes in edit_leaves who y s first a (performs ((row a).does disks who None) s)
text_left (Some a) who y s first = row_leaves (row a) disks who s (object.Text who) (unwritten who (holder_at a s) (object.Text who) a refl)
