-- Where the line of each number stands among all, for one look into a table.
use Rattle.std.specs.Prelude.{◌≡◌, ℕ, ◌+◌, ◌==◌, List, [], ◌∷◌, length, get_or, if◌then◌else◌}
use Rattle.b2_text.specs.Program.{Lines}

-- the place of the line of a number among lines counted from a place on, and another where there is none
abbrev pub place_among : ℕ → ℕ → ℕ → Lines → ℕ
place_among other from n [] = other
place_among other from n (l ∷ ls) = place_among (if n == l.0 then from else other) (from + 1) n ls

-- its place counted from 1, and 0 where there is none
abbrev pub numbered : ℕ → Lines → ℕ
numbered n lines = place_among 0 1 n lines

-- 0 for the number of one of these lines, and for others what it was
abbrev pub forgotten : ℕ → ℕ → Lines → ℕ
forgotten other n [] = other
forgotten other n (l ∷ ls) = forgotten (if n == l.0 then 0 else other) n ls

-- a table that has the place of the line of each number
pub record IsNumbered (table : List ℕ) (lines : Lines) : Type 0 where
  pub long : length table ≡ 10000
  pub found : (n : ℕ) → get_or table n 0 ≡ numbered n lines
