-- The number of a run of digits is that of the digits alone.
use Rattle.std.proofs.Common.{◌≡◌, ℕ, suc, ◌+◌, ◌-◌, ◌*◌, ◌&&◌, ◌==◌, min, nat_le, nat_lt, Bool, true, false, if◌then◌else◌, [], ◌∷◌, take, drop, refl, ap, ◌∙◌, arith}
use Rattle.b2_base.specs.Byte as byte
use Rattle.b2_base.specs.Lexical.{capped_value, digits_width, first, is_digit}
use Rattle.b2_atom.specs.Words.{Text}
use Rattle.b2_atom.specs.declared.forms.Leaf.TheVariants as leaf
use Rattle.b2_rows.specs.Leaves.{is_leaf, leaf_bytes}
use Rattle.b2_rows.specs.Values.{small_of, slot_number}

capped_by : (x : Bool) (cap n b : ℕ) (bs : Text) → is_digit b ≡ x
    → capped_value cap (min (n * 10 + (b - byte.digit_0)) cap) (take (digits_width bs) bs) ≡ capped_value cap (min (n * 10 + (b - byte.digit_0)) cap) bs
    → capped_value cap n (take (if x then suc (digits_width bs) else 0) (b ∷ bs)) ≡ (if x then capped_value cap (min (n * 10 + (b - byte.digit_0)) cap) bs else n)
capped_by true cap n b bs is more = ap (λ (x : Bool). if x then capped_value cap (min (n * 10 + (b - byte.digit_0)) cap) (take (digits_width bs) bs) else n) is ∙ more
capped_by false cap n b bs is more = refl

digits_capped : (cap n : ℕ) (t : Text) → capped_value cap n (take (digits_width t) t) ≡ capped_value cap n t
digits_capped cap n [] = refl
digits_capped cap n (b ∷ bs) = capped_by (is_digit b) cap n b bs refl (digits_capped cap (min (n * 10 + (b - byte.digit_0)) cap) bs)

small_by : (x : Bool) (t : Text) → nat_lt 0 (if x then digits_width t else 0) ≡ true → small_of (take (if x then digits_width t else 0) t) ≡ capped_value 999 0 t
small_by true t is = digits_capped 999 0 t
small_by false t is = cc

pub small_value : (t : Text) → is_leaf leaf.Small t ≡ true → small_of (leaf_bytes leaf.Small t) ≡ capped_value 999 0 t
small_value t is = small_by (nat_le (capped_value 999 0 t) 255) t is

one_more : (n b : ℕ) (bs : Text) → take (n + 1) (b ∷ bs) ≡ b ∷ take n bs
one_more n b bs = ap (λ (k : ℕ). take k (b ∷ bs)) (let e : n + 1 ≡ suc n = omega arith in e)

slot_by : (x : Bool) (t : Text) → nat_lt 0 (if x then digits_width (drop 1 t) + 1 else 0) ≡ true → slot_number (take (if x then digits_width (drop 1 t) + 1 else 0) t) ≡ capped_value 999 0 (drop 1 t)
slot_by true [] is = refl
slot_by true (b ∷ bs) is = ap (λ (w : Text). capped_value 999 0 (drop 1 w)) (one_more (digits_width bs) b bs) ∙ digits_capped 999 0 bs
slot_by false t is = cc

pub slot_value : (t : Text) → is_leaf leaf.Slot t ≡ true → slot_number (leaf_bytes leaf.Slot t) ≡ capped_value 999 0 (drop 1 t)
slot_value t is = slot_by (first t == byte.number_sign && (nat_lt 0 (digits_width (drop 1 t)) && nat_le (capped_value 999 0 (drop 1 t)) 15)) t is
