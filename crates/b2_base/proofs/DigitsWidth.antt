-- How many digits a text begins with, in the standard library's words.
use Rattle.std.proofs.Common.{◌≡◌, ℕ, suc, ◌+◌, List, [], ◌∷◌, Bool, true, false, cond, if◌then◌else◌, refl, arith}
use Rattle.std.specs.List.{prefix_len}
use Rattle.b2_base.specs.Lexical.{is_digit, digits_width}

one_more : (c : Bool) (m n : ℕ) → m ≡ n → (if c then suc m else 0) ≡ cond c (1 + n) 0
one_more true m n h = omega (arith, h)
one_more false m n h = refl

pub digits_width-prefix_len : (text : List ℕ) → digits_width text ≡ prefix_len is_digit text
digits_width-prefix_len [] = refl
digits_width-prefix_len (b ∷ bs) = one_more (is_digit b) (digits_width bs) (prefix_len is_digit bs) (digits_width-prefix_len bs)
