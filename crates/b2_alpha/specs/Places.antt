-- Numbers written in places of a base, the highest place first.
use Rattle.std.specs.Prelude.{ℕ, zero, suc, ◌+◌, ◌*◌, ◌/◌, ◌%◌, ◌^◌, List, [], ◌∷◌, length}

-- the number that digits of a base spell
abbrev pub number_in_base : ℕ → List ℕ → ℕ
number_in_base base [] = 0
number_in_base base (x ∷ xs) = x * base ^ length xs + number_in_base base xs

-- a number in k places of a base; what is above them is lost
abbrev pub digits_in_base : ℕ → ℕ → ℕ → List ℕ
digits_in_base base zero n = []
digits_in_base base (suc k) n = n / base ^ k % base ∷ digits_in_base base k n
