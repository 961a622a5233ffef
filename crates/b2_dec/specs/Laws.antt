-- What rounding is: laws on fractions and numbers, without places and digits.
use Rattle.std.specs.Prelude.{◌≡◌, ℕ, ◌+◌, ◌-◌, ◌*◌, ◌^◌, ◌<◌, ◌≤◌, ◌⊎◌, Bool, Result, Ok, Err}
use Rattle.b2_base.specs.declared.codes.TheConstants.{C60_UNDERFLOW, C61_OVERFLOW}
use Rattle.b2_dec.specs.declared.number.Mode.TheVariants.{Round, Cut}
use Rattle.b2_dec.specs.declared.number.Mode.{Mode}
use Rattle.b2_dec.specs.Number.{Number, zero_number, IsNumber, size, value}
use Rattle.b2_dec.specs.Rounding.{rnd}
use Rattle.b2_dec.specs.Arithmetic.{sum_of, difference_of}

-- how far two numbers are apart
abbrev pub gap : ℕ → ℕ → ℕ
gap a b = (a - b) + (b - a)

-- No number is nearer to n / d than x, and one as near is not larger.
pub record IsNearest (n d : ℕ) (x : Number) : Type 0 where
  pub nearest : (y : Number) → IsNumber y → gap (size x * d) (n * 10 ^ 111) ≤ gap (size y * d) (n * 10 ^ 111)
  pub half_up : (y : Number) → IsNumber y → size x < size y → gap (size x * d) (n * 10 ^ 111) < gap (size y * d) (n * 10 ^ 111)

-- x is the largest number that is not above n / d.
pub record IsLargestBelow (n d : ℕ) (x : Number) : Type 0 where
  pub below : size x * d ≤ n * 10 ^ 111
  pub largest : (y : Number) → IsNumber y → size y * d ≤ n * 10 ^ 111 → size y ≤ size x

abbrev pub RoundsToNearest : Type 0
RoundsToNearest = (neg : Bool) (n d : ℕ) (x : Number) → 0 < d → rnd Round neg n d ≡ Ok x → IsNearest n d x

abbrev pub CutsDown : Type 0
CutsDown = (neg : Bool) (n d : ℕ) (x : Number) → 0 < d → rnd Cut neg n d ≡ Ok x → IsLargestBelow n d x

-- x is the greatest number whose square is not above a, which is not below zero.
pub record IsRoot (a x : Number) : Type 0 where
  pub square : size x * size x ≤ size a * 10 ^ 111
  pub greatest : (y : Number) → IsNumber y → size y * size y ≤ size a * 10 ^ 111 → size y ≤ size x

-- A sum does not depend on the order, and nothing is left of a number less itself.
abbrev pub SumsCommute : Type 0
SumsCommute = (mode : Mode) (a b : Number) → sum_of mode a b ≡ sum_of mode b a

abbrev pub NothingIsLeft : Type 0
NothingIsLeft = (mode : Mode) (a : Number) → difference_of mode a a ≡ Ok zero_number

-- Numbers of one value are one number.
abbrev pub HasOneSpelling : Type 0
HasOneSpelling = (a b : Number) → IsNumber a → IsNumber b → value a ≡ value b → a ≡ b

-- Twice the thirteen digits from which on a fraction is rounded up to 10^13.
abbrev pub edge : Mode → ℕ
edge Round = 19999999999999
edge Cut = 20000000000000

-- When each answer comes: a number where the fraction is zero or its exponent is in range after rounding, C60 where it is
-- smaller, and C61 where it is larger.
abbrev pub IsInLimits : Mode → ℕ → ℕ → Result Number ℕ → Type 0
IsInLimits mode n d (Ok x) = (n ≡ 0) ⊎ ((edge mode * d ≤ 2 * n * 10 ^ 112) × (2 * n < edge mode * 10 ^ 87 * d))
IsInLimits mode n d (Err c) =
    ((c ≡ C60_UNDERFLOW) × ((0 < n) × (2 * n * 10 ^ 112 < edge mode * d))) ⊎ ((c ≡ C61_OVERFLOW) × (edge mode * 10 ^ 87 * d ≤ 2 * n))

abbrev pub HasLimits : Type 0
HasLimits = (mode : Mode) (neg : Bool) (n d : ℕ) → 0 < d → IsInLimits mode n d (rnd mode neg n d)
