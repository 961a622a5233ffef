-- What is asked of disks: the access by which files are moved, the file of a name or all live files, the one by which the place in a file
-- is, and the one by which a sector is read.
use Rattle.std.specs.Prelude.{◌≡◌, ℕ, List, Option, Some, None}
use Rattle.b2_base.specs.declared.files.By.{By}
use Rattle.b2_base.specs.declared.files.Slot.{Slot}
use Rattle.b2_platter.specs.Checks.{IsGood}
use Rattle.b2_access.specs.declared.accesses.Access.{Access}
use Rattle.b2_access.specs.declared.accesses.Access.TheVariants as access
use Rattle.b2_access.specs.declared.objects.Object.TheVariants as object
use Rattle.b2_access.specs.Store.{StoreState, content}

abbrev pub moving : List ℕ → Option (List ℕ) → List ℕ → Access
moving from None to = access.MovePlatter from to
moving from (Some name) to = access.MoveFile from name to

-- a platter is good
abbrev pub IsGoodAt : List ℕ → StoreState → Type 0
IsGoodAt addr s = (image : List ℕ) → content s (object.Platter addr) ≡ Some image → IsGood image

-- the one on which a place is moved, and the one of which a sector is read
abbrev pub IsGoodIfSkipped : Access → StoreState → Type 0
IsGoodIfSkipped a s = (slot : Slot) (way : By) → a ≡ access.Skip slot way → IsGoodAt slot.addr s

abbrev pub IsGoodIfRead : Access → StoreState → Type 0
IsGoodIfRead a s = (addr : List ℕ) (at : ℕ) → a ≡ access.BlockLoad addr at → IsGoodAt addr s
