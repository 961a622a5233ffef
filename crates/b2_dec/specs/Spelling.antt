-- How a number stands in the word of a `Dec`.
use Rattle.std.specs.Prelude.{◌≡◌, ℕ, ◌+◌, ◌*◌, ◌/◌, ◌%◌, ◌<◌, nat_le, if◌then◌else◌}
use Rattle.std.proofs.Common.{ap, arith, inl, inr, le-leb}
use Rattle.std.proofs.lemmas.Bool.{cases_lt, lt-leb}
use Rattle.b2_dec.specs.declared.number.Dec.TheInside.{Inside}
use Rattle.b2_dec.specs.Number.{Number, IsNumber}

-- what a place counts, 2^44, and what the sign of a number below zero counts, 2^52
abbrev pub place_unit : ℕ
place_unit = 17592186044416

abbrev pub sign_unit : ℕ
sign_unit = 4503599627370496

-- The digits stand in the lowest 44 bits, the place in the next eight, and the sign above them.
abbrev pub seen : Inside → Number
seen a = record { neg = nat_le sign_unit a.word; coef = a.word % place_unit; place = a.word % sign_unit / place_unit }

pub record IsSpelled (a : Inside) : Type 0 where
  pub fits : a.word < 2 * sign_unit
  pub number : IsNumber (seen a)

abbrev pub inside_of : Number → Inside
inside_of x = record { word = (if x.neg then sign_unit else 0) + x.place * place_unit + x.coef }

word-back : (w : ℕ) → w < 2 * sign_unit
    → (if nat_le sign_unit w then sign_unit else 0) + w % sign_unit / place_unit * place_unit + w % place_unit ≡ w
word-back w h =
    elim (cases_lt w sign_unit) [
      | inl below ↦ rw (lt-leb _ _ below) (omega arith)
      | inr above ↦ rw (le-leb _ _ above) (omega arith)
    ]

pub inside_of-seen : (a : Inside) → IsSpelled a → inside_of (seen a) ≡ a
inside_of-seen a h = ap (λ w. record { word = w }) (word-back a.word h.fits)
