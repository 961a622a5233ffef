-- Byte strings of a stated length: padded and cut at the right, and the value in them.
use Rattle.std.specs.Prelude.{ℕ, ◌-◌, max, Bool, List, [], ◌∷◌, ◌++◌, length, take, replicate, ◌==◌}
use Rattle.std.specs.List.{suffix_len}
use Rattle.b2_base.specs.Byte as byte

-- bytes cut to a length, or made as long by blanks after them
abbrev pub padded : ℕ → List ℕ → List ℕ
padded n xs = take n xs ++ replicate (n - length xs) byte.blank

abbrev pub is_blank : ℕ → Bool
is_blank b = b == byte.blank

-- the value in a string: its bytes but the blanks at its end, and one byte at least where it has one
abbrev pub value_of : List ℕ → List ℕ
value_of xs = take (max 1 (length xs - suffix_len is_blank xs)) xs

-- a function of each two bytes that stand over each other; what the second string doesn't reach stays
abbrev pub each_pair : (ℕ → ℕ → ℕ) → List ℕ → List ℕ → List ℕ
each_pair f [] ys = []
each_pair f (x ∷ xs) [] = x ∷ xs
each_pair f (x ∷ xs) (y ∷ ys) = f x y ∷ each_pair f xs ys
