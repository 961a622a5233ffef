-- What a loan touches is marked.
use Rattle.std.specs.Prelude.{◌≡◌, ℕ, [], ◌∷◌, ◌++◌, Option, Some, None, refl}
use Rattle.b2_access.specs.declared.lending.At.{At}
use Rattle.b2_access.specs.declared.lending.At.TheVariants as at
use Rattle.b2_access.specs.declared.objects.Object.TheVariants as object
use Rattle.b2_access.specs.Loans.{globals_objects, lender_at, name_objects}
use Rattle.b2_audit.specs.Steps.{AreMarked, IsPartition, LoansAreMarked}
use Rattle.b2_audit.proofs.Accesses.{add, both_are, nothing}

names_are : (whose : At) → AreMarked (name_objects whose)
names_are at.None = nothing
names_are at.Home = nothing
names_are (at.Named n) = add (object.Name n) [] tt nothing

globals_are : (x : Option ℕ) → ((p : ℕ) → x ≡ Some p → IsPartition p) → AreMarked (globals_objects x)
globals_are None is = nothing
globals_are (Some p) is = add (object.Globals p) [] (is p refl) nothing

pub loans_are_marked : LoansAreMarked
loans_are_marked s who home whose own at_home lender =
    let x = lender_at home whose s in
    let globals = both_are (name_objects whose) (globals_objects x) (names_are whose) (globals_are x lender) in
    add (object.Text who) (object.Text home ∷ (name_objects whose ++ globals_objects x)) own (add (object.Text home) (name_objects whose ++ globals_objects x) at_home globals)
