-- A list of devices, as it is written.
use Rattle.std.specs.Prelude.{ℕ, List, [], ◌∷◌}
use Rattle.b2_atom.specs.Tree.{Trees}
use Rattle.b2_atom.specs.Tree.Trees.{Put, In}
use Rattle.b2_drive.specs.Drives.{address_in}

-- the addresses after a comma, and those of a list
abbrev pub more_devices : Trees → List (List ℕ)
more_devices (In n (Put comma (In m device more)) end) = address_in device ∷ more_devices more
more_devices t = []

abbrev pub devices_in : Trees → List (List ℕ)
devices_in (In n device more) = address_in device ∷ more_devices more
devices_in t = []
