-- How a number or a code stands in one word.
use Rattle.std.specs.Prelude.{◌≡◌, ℕ, ◌+◌, ◌-◌, ◌<◌, ◌≤◌, nat_le, Result, Ok, Err, if◌then◌else◌}
use Rattle.std.proofs.Common.{ap, arith, inl, inr, le-leb}
use Rattle.std.proofs.lemmas.Bool.{cases_lt, lt-leb}
use Rattle.b2_dec.specs.declared.number.Dec.TheInside.{Inside as OfNumber}
use Rattle.b2_dec.specs.declared.number.NumberOrCode.TheInside.{Inside}
use Rattle.b2_dec.specs.Number.{Number}
use Rattle.b2_dec.specs.Spelling.{seen, IsSpelled, inside_of, inside_of-seen}

-- what a code counts above its number, 2^63
abbrev pub code_unit : ℕ
code_unit = 9223372036854775808

abbrev pub number_word : ℕ → OfNumber
number_word w = record { word = w }

-- the word of a number, or a code's number above every one of these
abbrev pub seen_in : ℕ → Result Number ℕ
seen_in w = if nat_le code_unit w then Err (w - code_unit) else Ok (seen (number_word w))

abbrev pub one_seen : Inside → Result Number ℕ
one_seen a = seen_in a.word

pub record IsOneWord (a : Inside) : Type 0 where
  pub number : a.word < code_unit → IsSpelled (number_word a.word)
  pub least : code_unit ≤ a.word → 1 ≤ a.word - code_unit
  pub most : code_unit ≤ a.word → a.word - code_unit ≤ 99

abbrev pub word_of : Result Number ℕ → ℕ
word_of (Ok x) = (inside_of x).word
word_of (Err code) = code_unit + code

abbrev pub one_inside : Result Number ℕ → Inside
one_inside r = record { word = word_of r }

abbrev the_word : OfNumber → ℕ
the_word a = a.word

word-back : (a : Inside) → IsOneWord a → word_of (seen_in a.word) ≡ a.word
word-back a h =
    elim (cases_lt a.word code_unit) [
      | inl below ↦ rw (lt-leb _ _ below) (ap the_word (inside_of-seen (number_word a.word) (IsOneWord.number h below)))
      | inr above ↦ rw (le-leb _ _ above) (omega arith)
    ]

pub one_inside-seen : (a : Inside) → IsOneWord a → one_inside (one_seen a) ≡ a
one_inside-seen a h = ap (λ w. record { word = w }) (word-back a h)
