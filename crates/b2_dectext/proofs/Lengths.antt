-- The digits at the front of a text.
use Rattle.std.proofs.Common.{ℕ, ◌<◌, ◌≤◌, List, length, take, arith, ap, ◌∙◌}
use Rattle.std.proofs.lemmas.List.Sums.{prefix_len_passes, prefix_len-le-length}
use Rattle.std.proofs.lemmas.List.{get_or-take, length-take}
use Rattle.std.specs.List.{prefix_len}
use Rattle.b2_base.proofs.DigitsWidth.{digits_width-prefix_len}
use Rattle.b2_base.specs.Lexical.{is_digit, digits_width}
use Rattle.b2_dectext.specs.Digits.{AreDigits}

pub digits_width-le-length : (text : List ℕ) → digits_width text ≤ length text
digits_width-le-length text = rw (digits_width-prefix_len text) (prefix_len-le-length is_digit text)

pub digits_at_front : (text : List ℕ) (n : ℕ) → n ≤ digits_width text → AreDigits (take n text)
digits_at_front text n few = record {
  each = λ k h.
      let below : k < n = omega (arith, length-take n text) in
      let passed : k < prefix_len is_digit text = omega (arith, digits_width-prefix_len text) in
      ap is_digit (get_or-take n text k 0 below) ∙ prefix_len_passes is_digit text k 0 passed;
}
