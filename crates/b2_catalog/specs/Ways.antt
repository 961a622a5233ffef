-- How a name is looked up, and where a new one goes.
use Rattle.std.specs.Prelude.{◌≡◌, ℕ, suc, ◌*◌, ◌<◌, ◌≤◌, Bool, true, ◌&&◌, ◌||◌, List, [], ◌∷◌, Option, None, is_some, if◌then◌else◌}
use Rattle.std.specs.List.{find}
use Rattle.std.specs.Str.{bytes_eq}
use Rattle.b2_platter.specs.Slot.{is_entry, is_free, slot_name}
use Rattle.b2_platter.specs.Image.{row, index_of, slots_of, slots_in, has_free, hash, cyclic_from}

-- a slot is that of the file with a name
unfoldable pub has_name : List ℕ → List ℕ → Bool
has_name name slot = is_entry slot && bytes_eq (slot_name slot) name

-- the slot of an index sector that has the name
unfoldable pub slot_in : List ℕ → List ℕ → ℕ → Option ℕ
slot_in image name s = find (λ k. has_name name (row image k)) (slots_in s)

-- the index sectors from the name's hash on, cyclically
abbrev pub way_of : List ℕ → List ℕ → List ℕ
way_of image name = cyclic_from (index_of image) (hash (index_of image) name)

-- a look-up ends at a sector that has the name, or a free slot
unfoldable pub look_up_ends : List ℕ → List ℕ → ℕ → Bool
look_up_ends image name s = is_some (slot_in image name s) || has_free image s

-- how many sectors come up to and with the first that passes, all where none does
abbrev pub count_up_to : (ℕ → Bool) → List ℕ → ℕ
count_up_to test [] = 0
count_up_to test (s ∷ rest) = if test s then 1 else suc (count_up_to test rest)

-- how many index sectors a look-up reads
abbrev pub way : List ℕ → List ℕ → ℕ
way image name = count_up_to (look_up_ends image name) (way_of image name)

-- what a look-up finds along some sectors: it ends at the first that has the name, or a free slot
abbrev pub found_along : (ℕ → Option ℕ) → (ℕ → Bool) → List ℕ → Option ℕ
found_along slot free [] = None
found_along slot free (s ∷ rest) = if is_some (slot s) then slot s else (if free s then None else found_along slot free rest)

-- the lowest free slot of the first sector that has one
abbrev pub place_along : (ℕ → Option ℕ) → List ℕ → Option ℕ
place_along lowest [] = None
place_along lowest (s ∷ rest) = if is_some (lowest s) then lowest s else place_along lowest rest

unfoldable pub lowest_free : List ℕ → ℕ → Option ℕ
lowest_free image s = find (λ k. is_free (row image k)) (slots_in s)

-- the slot that a new name takes
unfoldable pub place : List ℕ → List ℕ → Option ℕ
place image name = place_along (lowest_free image) (way_of image name)

-- the slot of the file with a name, wherever it stands
unfoldable pub slot_found : List ℕ → List ℕ → Option ℕ
slot_found image name = find (λ k. has_name name (row image k)) (slots_of (index_of image))

-- a slot of the index is that of the file with a name
pub record IsSlotOf (image name : List ℕ) (k : ℕ) : Type 0 where
  pub low : 1 ≤ k
  pub high : k < 16 * index_of image
  pub held : has_name name (row image k) ≡ true
