-- Arrays of bytes as elements of one length.
use Rattle.std.specs.Prelude.{ℕ, ◌-◌, ◌*◌, ◌/◌, List, length, take, drop}

-- how many whole elements there are
abbrev pub element_count : ℕ → List ℕ → ℕ
element_count len of = length of / len

-- the element at a place, counted from 1
abbrev pub element_at : ℕ → List ℕ → ℕ → List ℕ
element_at len of place = take len (drop ((place - 1) * len) of)
