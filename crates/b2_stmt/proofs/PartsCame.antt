-- What came of declaring a name or of looking for who holds it, case by case.
use Rattle.std.proofs.Common.{◌≡◌, ◌==◌, ℕ, true, List, Option, None, Some, refl}
use Rattle.b2_atom.specs.Tree.{Trees}
use Rattle.b2_access.specs.AnswerKinds.{delays}
use Rattle.b2_access.specs.Steering.{Steered}
use Rattle.b2_access.specs.declared.accesses.Access.{Access}
use Rattle.b2_access.specs.declared.accesses.Access.TheVariants as access
use Rattle.b2_access.specs.declared.accesses.Answer.{Answer}
use Rattle.b2_access.specs.declared.accesses.Answer.TheVariants as answer
use Rattle.b2_access.specs.declared.private.Private.{Private}
use Rattle.b2_access.proofs.Choice.{either}
use Rattle.b2_atom.specs.declared.rows.TheConstants as row
use Rattle.b2_stmt.specs.Clearing.{asked_access, asks_to_erase}
use Rattle.b2_stmt.specs.Parts.{NameDeclared, NoPartAsked, PartCame, PartFound, PartRefused, asks_to_declare, asks_to_find, declared_by, declares, given_up, part_came, part_ends, selected_by, selects_part}

pub part_delayed : (x : Access) (a : Answer) → delays a ≡ true → part_came x a ≡ NoPartAsked
part_delayed (access.Declare name old) answer.Done h = cc
part_delayed (access.Declare name old) (answer.Refused c) h = cc
part_delayed (access.FindPart name) (answer.Holder p) h = cc
part_delayed (access.FindPart name) answer.NoPart h = cc
part_delayed x a h = refl

-- whatever holds of each access that a statement may ask for
module _ (F : Option Access → Type 0) (none : F None) (homes : ℕ) (clears : (name : Option (List ℕ)) → F (Some (access.ClearAll name homes))) (erases : (t : Trees) → F (Some (asks_to_erase homes t)))
    (declares_name : (name : List ℕ) (old : Option (List ℕ)) → F (Some (access.Declare name old))) (finds : (name : List ℕ) → F (Some (access.FindPart name))) where
  to_declare : (old name : Option (List ℕ)) → F (asks_to_declare old name)
  to_declare old None = none
  to_declare old (Some name) = declares_name name (given_up name old)

  to_find : (name : Option (List ℕ)) → F (asks_to_find name)
  to_find None = none
  to_find (Some name) = finds name

  pub each_asked : (r : ℕ) (t : Trees) (declared : Option (List ℕ)) → F (asked_access r t declared homes)
  each_asked r t declared =
      either F (r == row.CLEAR) _ _ (clears declared)
      (either F (r == row.CLEAR_P) _ _ (erases t)
      (either F (r == row.DEFFN) _ _ (to_declare declared (declared_by t))
      (either F (r == row.SELECT_PART) _ _ (to_find (selected_by t)) none)))

-- and of how one finishes by what came of them
module _ (G : Steered → Type 0) (me : Private) (declared : (name : List ℕ) → G (declares name me)) (selected : (name : List ℕ) → G (selects_part name me)) where
  pub each_part : (k : PartCame) (e : Steered) → ((c : ℕ) → G (part_ends (PartRefused c) e me)) → G e → G (part_ends k e me)
  each_part (NameDeclared name) e refused else_ends = declared name
  each_part (PartFound name) e refused else_ends = selected name
  each_part (PartRefused c) e refused else_ends = refused c
  each_part NoPartAsked e refused else_ends = else_ends
