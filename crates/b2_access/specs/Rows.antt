-- Rows, each found by its key: a number, the address of a device, or a name.
use Rattle.std.specs.Prelude.{ℕ, ◌==◌, ◌||◌, Bool, false, List, [], ◌∷◌, ◌++◌, Option, Some, None, if◌then◌else◌}
use Rattle.std.specs.Map.{lookup, set_value}
use Rattle.std.specs.Str.{bytes_eq}

-- what the first row of a number has, None where no row has it
abbrev pub row_of : {X : Type 0} → ℕ → List (ℕ × X) → Option X
row_of n rows = lookup (λ k. k == n) rows

-- with another content of the first row of a number; where no row has it, all stays
abbrev pub with_row : {X : Type 0} → ℕ → List (ℕ × X) → X → List (ℕ × X)
with_row n rows x = set_value (λ k. k == n) rows x

-- the same by an address
abbrev pub device_row : {X : Type 0} → List ℕ → List (List ℕ × X) → Option X
device_row a rows = lookup (λ k. bytes_eq k a) rows

abbrev pub with_device_row : {X : Type 0} → List ℕ → List (List ℕ × X) → X → List (List ℕ × X)
with_device_row a rows x = set_value (λ k. bytes_eq k a) rows x

-- who holds a name, by rows of which each has a name and its holder: nobody where no row has the name
abbrev pub NameRows : Type 0
NameRows = List (List ℕ × Option ℕ)

abbrev pub holder_in : Option (Option ℕ) → Option ℕ
holder_in None = None
holder_in (Some holder) = holder

abbrev pub name_row : List ℕ → NameRows → Option ℕ
name_row n rows = holder_in (device_row n rows)

-- with another holder of a name, in its row, or in one more where it has none
abbrev pub with_or_added : Option (Option ℕ) → List ℕ → NameRows → Option ℕ → NameRows
with_or_added None n rows holder = rows ++ (n, holder) ∷ []
with_or_added (Some old) n rows holder = with_device_row n rows holder

abbrev pub with_name_row : List ℕ → NameRows → Option ℕ → NameRows
with_name_row n rows holder = with_or_added (device_row n rows) n rows holder

-- what the first row of a number says in a table, and something else where no row has it
abbrev pub at_row : {X : Type 0} → List (ℕ × X) → X → ℕ → X
at_row [] other n = other
at_row (x ∷ rows) other n = if n == x.0 then x.1 else at_row rows other n

-- whether a row of a number is in it
abbrev pub has_row : {X : Type 0} → List (ℕ × X) → ℕ → Bool
has_row [] n = false
has_row (x ∷ rows) n = n == x.0 || has_row rows n
