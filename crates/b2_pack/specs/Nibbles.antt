-- Nibbles: the two halves of bytes, the high one first.
use Rattle.std.specs.Prelude.{ℕ, zero, suc, ◌+◌, ◌*◌, ◌/◌, ◌%◌, ◌^◌, nat_le, fold, Bool, List, [], ◌∷◌}

-- the nibbles of bytes
abbrev pub nibbles : List ℕ → List ℕ
nibbles [] = []
nibbles (b ∷ bs) = (b / 16) ∷ (b % 16) ∷ nibbles bs

-- nibbles joined to bytes in pairs, with a 0 after the last one where their count is odd
abbrev pub paired : List ℕ → List ℕ
paired [] = []
paired (h ∷ []) = (16 * h) ∷ []
paired (h ∷ l ∷ ns) = (16 * h + l) ∷ paired ns

-- the last n digits of m
unfoldable pub last_digits : ℕ → ℕ → List ℕ
last_digits zero m = []
last_digits (suc n) m = (m / 10 ^ n % 10) ∷ last_digits n m

-- the number that digits spell when they follow those of n
abbrev pub decimal_after : ℕ → List ℕ → ℕ
decimal_after n ds = fold (λ m d. 10 * m + d) n ds

-- a nibble that is a decimal digit
abbrev pub is_decimal_nibble : ℕ → Bool
is_decimal_nibble n = nat_le n 9
