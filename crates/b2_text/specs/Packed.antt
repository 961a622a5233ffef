-- Lists of elements of which some are written over.
use Rattle.std.specs.Prelude.{ℕ, ◌+◌, List, length, take, drop, ◌++◌}

-- with other elements from a place on
abbrev pub with_part : {X : Type 0} → List X → ℕ → List X → List X
with_part xs at ys = take at xs ++ (ys ++ drop (at + length ys) xs)
