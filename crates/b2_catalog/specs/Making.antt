-- A file that is made: a new one of some sectors, or a scratched one that is taken again.
use Rattle.std.specs.Prelude.{◌≡◌, ℕ, ◌<◌, ◌≤◌, ◌⊎◌, IfSome, Bool, true, List, Option, Some, None, Result, Ok, Err}
use Rattle.std.specs.FinMap.{get, remove}
use Rattle.b2_base.specs.declared.codes.TheConstants.{D82_NO_FILE, D85_INDEX_FULL}
use Rattle.b2_platter.specs.Image.{index_of, sector}
use Rattle.b2_catalog.specs.declared.entry.Entry.{Entry}
use Rattle.b2_catalog.specs.Catalogue.{Catalogue, catalogue}
use Rattle.b2_catalog.specs.Ways.{place, slot_found}
use Rattle.b2_catalog.specs.Changes.{entered, reused}
use Rattle.b2_catalog.specs.Calls.{enter_refusal, reuse_refusal, new_entry, reused_place}
use Rattle.b2_catalog.specs.Results.{unless_refused}

-- why none is made
abbrev pub make_refusal : List ℕ → Option (List ℕ) → List ℕ → ℕ → Option ℕ
make_refusal image None name sectors = enter_refusal image name sectors
make_refusal image (Some old) name sectors = reuse_refusal image old name

-- the file, and the image that has it
abbrev pub MakesFile : List ℕ → Option (List ℕ) → List ℕ → Bool → ℕ → List ℕ → Entry → Type 0
MakesFile image None name program sectors new e =
    (e ≡ new_entry image name program sectors) × IfSome (place image name) (λ k. new ≡ entered image k name program sectors)
MakesFile image (Some old) name program sectors new e =
    IfSome (get (catalogue image) old) (λ was. e ≡ record was { name = name; live = true; program = program })
    × IfSome (slot_found image old) (λ k. IfSome (reused_place image old name) (λ to. new ≡ reused image k to name program))

-- a new file in a slot: the image and the file
abbrev pub new_file : List ℕ → List ℕ → Bool → ℕ → Option ℕ → Result (List ℕ × Entry) ℕ
new_file image name program sectors None = Err D85_INDEX_FULL
new_file image name program sectors (Some k) = Ok (entered image k name program sectors, new_entry image name program sectors)

-- a file that is taken again, from its slot to another
abbrev pub file_again : List ℕ → List ℕ → Bool → Option Entry → Option ℕ → Option ℕ → Result (List ℕ × Entry) ℕ
file_again image name program (Some was) (Some k) (Some to) = Ok (reused image k to name program, record was { name = name; live = true; program = program })
file_again image name program (Some was) (Some k) None = Err D85_INDEX_FULL
file_again image name program (Some was) None to = Err D82_NO_FILE
file_again image name program None k to = Err D82_NO_FILE

abbrev pub file_given : List ℕ → Option (List ℕ) → List ℕ → Bool → ℕ → Result (List ℕ × Entry) ℕ
file_given image None name program sectors = new_file image name program sectors (place image name)
file_given image (Some old) name program sectors = file_again image name program (get (catalogue image) old) (slot_found image old) (reused_place image old name)

-- THE FILE that is made and the image that has it, or why none is made
unfoldable pub file_made : List ℕ → Option (List ℕ) → List ℕ → Bool → ℕ → Result (List ℕ × Entry) ℕ
file_made image old name program sectors = unless_refused (make_refusal image old name sectors) (file_given image old name program sectors)

-- the catalogue without the old file
abbrev pub files_without : List ℕ → Option (List ℕ) → Catalogue
files_without image None = catalogue image
files_without image (Some old) = remove (catalogue image) old

-- the sectors after the index that aren't those of a file are as before
abbrev pub KeepsOthers : List ℕ → List ℕ → Entry → Type 0
KeepsOthers image new e = (n : ℕ) → index_of image ≤ n → ((n < e.start) ⊎ (e.end < n)) → sector new n ≡ sector image n
