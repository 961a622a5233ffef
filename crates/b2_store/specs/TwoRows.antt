-- Files that are moved between the platters of two rows.
use Rattle.std.specs.Prelude.{◌≡◌, ℕ, List, Option, Some, None, Result, Ok, Err}
use Rattle.std.specs.Map.{lookup, set_value}
use Rattle.std.specs.Str.{bytes_eq}
use Rattle.b2_base.specs.declared.codes.Fault.{Fault}
use Rattle.b2_base.specs.declared.codes.Fault.TheVariants as fault
use Rattle.b2_store.specs.FileWork.{moved}

abbrev pub Platters : Type 0
Platters = List (List ℕ × List ℕ)

abbrev pub with_moved : List ℕ → Platters → Result (List ℕ) ℕ → Result Platters ℕ
with_moved to rows (Ok image) = Ok (set_value (λ k. bytes_eq k to) rows image)
with_moved to rows (Err code) = Err code

abbrev pub moved_to_row : Option (List ℕ) → List ℕ → Platters → List ℕ → Option (List ℕ) → Result Platters ℕ
moved_to_row name to rows image None = Ok rows
moved_to_row name to rows image (Some other) = with_moved to rows (moved name image other)

abbrev pub moved_from_row : Option (List ℕ) → List ℕ → Platters → Option (List ℕ) → Result Platters ℕ
moved_from_row name to rows None = Ok rows
moved_from_row name to rows (Some image) = moved_to_row name to rows image (lookup (λ k. bytes_eq k to) rows)

-- what is listed at the second address has the file of that name of the first one besides, or all of its live files
abbrev pub rows_moved : Option (List ℕ) → List ℕ → List ℕ → Platters → Result Platters ℕ
rows_moved name from to rows = moved_from_row name to rows (lookup (λ k. bytes_eq k from) rows)

-- why nothing is moved: a code that is said; or memory failed, which only all files may want
abbrev pub MoveFails : {A : Type 0} → Option (List ℕ) → Result A ℕ → Fault → Type 0
MoveFails name said (fault.Code code) = said ≡ Err code
MoveFails name said fault.NoMemory = name ≡ None
