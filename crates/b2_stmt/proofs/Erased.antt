-- What CLEAR P asks for, whatever its tree names: that lines go, and that some texts are given back.
use Rattle.std.specs.Prelude.{ℕ}
use Rattle.b2_atom.specs.Tree.{Trees}
use Rattle.b2_atom.specs.Tree.Trees.{Done, Put, In}
use Rattle.b2_access.specs.declared.accesses.Access.{Access}
use Rattle.b2_access.specs.declared.accesses.Access.TheVariants as access
use Rattle.b2_stmt.specs.Clearing.{asks_to_erase}

-- what holds of each access by which lines go
module _ (F : Access → Type 0) (homes : ℕ) (holds : (from to : ℕ) → F (access.Erase from to homes)) where
  pub each_erased : (t : Trees) → F (asks_to_erase homes t)
  each_erased Done = holds 0 9999
  each_erased (In n a t) = holds 0 9999
  each_erased (Put w Done) = holds 0 9999
  each_erased (Put w (In n a t)) = holds 0 9999
  each_erased (Put w (Put letter named)) = holds _ _
