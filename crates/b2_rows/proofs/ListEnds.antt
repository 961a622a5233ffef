-- Trees after which nothing is put.
use Rattle.std.proofs.Common.{◌≡◌, refl, ap}
use Rattle.b2_atom.specs.Tree.{Trees, also}
use Rattle.b2_atom.specs.Tree.Trees.{Done, Put, In}

pub also_done : (a : Trees) → also a Done ≡ a
also_done Done = refl
also_done (Put t a) = ap (Put t) (also_done a)
also_done (In n i a) = ap (In n i) (also_done a)
