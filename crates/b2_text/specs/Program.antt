-- A program text: its lines by number, ascending, and the bytes that they may take.
use Rattle.std.specs.Prelude.{ℕ, Bool, ◌+◌, ◌&&◌, nat_le, nat_lt, not, List, [], ◌∷◌, length, filter, Option, Some, None}
use Rattle.std.specs.Option.{option_map_or}
use Rattle.std.specs.Map.{lookup}
use Rattle.std.specs.BTreeMap.{insert_entry, is_at}
use Rattle.std.specs.Ordering.{nat_cmp}

-- each line's number and its atom bytes
abbrev pub Lines : Type 0
Lines = List (ℕ × List ℕ)

pub record TextState : Type 0 where
  pub area : ℕ
  pub lines : Lines

-- a line takes its atom bytes and 5
abbrev pub cost : List ℕ → ℕ
cost atoms = length atoms + 5

-- the bytes that lines take
abbrev pub size_of : Lines → ℕ
size_of [] = 0
size_of (l ∷ ls) = cost l.1 + size_of ls

-- the atoms of the line of a number
abbrev pub line_at : ℕ → Lines → Option (List ℕ)
line_at n lines = lookup (is_at (nat_cmp n)) lines

-- what the line of a number takes, 0 where there is none
abbrev pub cost_at : ℕ → Lines → ℕ
cost_at n lines = option_map_or cost (line_at n lines) 0

-- with a line in its place, where one of its number gives way
abbrev pub with_line : ℕ → List ℕ → Lines → Lines
with_line n atoms lines = insert_entry nat_cmp lines n atoms

abbrev pub is_within : ℕ → ℕ → ℕ → Bool
is_within from to n = nat_le from n && nat_le n to

-- without the lines from a number to another
abbrev pub without : ℕ → ℕ → Lines → Lines
without from to lines = filter (λ l. not (is_within from to l.0)) lines

-- the number of the first line
abbrev pub first_number : Lines → Option ℕ
first_number [] = None
first_number (l ∷ ls) = Some l.0

-- the least number above one, or the least of all
abbrev pub number_after : Option ℕ → Lines → Option ℕ
number_after None lines = first_number lines
number_after (Some n) lines = first_number (filter (λ l. nat_lt n l.0) lines)
