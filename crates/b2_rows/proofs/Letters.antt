-- The letter of a name is one of A to Z.
use Rattle.std.proofs.Common.{◌≡◌, ℕ, suc, ◌+◌, ◌&&◌, ◌==◌, nat_lt, Bool, true, false, if◌then◌else◌, [], ◌∷◌, take, get_or, refl, ap, ◌∙◌, arith}
use Rattle.std.proofs.lemmas.Bool.Decides.{nat_tests}
use Rattle.b2_base.specs.Byte as byte
use Rattle.b2_base.specs.Lexical.{first, is_digit, is_letter}
use Rattle.b2_atom.specs.Words.{Text}
use Rattle.b2_atom.specs.Leaves.{name_width}
use Rattle.b2_atom.specs.declared.words.Origin.TheVariants.{Atoms}
use Rattle.b2_atom.specs.declared.forms.Leaf.TheVariants as leaf
use Rattle.b2_atom.proofs.Booleans.{and_left, and_right}
use Rattle.b2_rows.specs.Leaves.{is_leaf, leaf_bytes}
use Rattle.b2_rows.specs.Values.{variable_name}

not_at_sign : (b : ℕ) → is_letter b ≡ true → (b == byte.at_sign) ≡ false
not_at_sign b h = grind (arith, nat_tests)

letter_first : (n : ℕ) (t : Text) → is_letter (first t) ≡ true → is_letter (variable_name true (take (suc n) t)).letter ≡ true
letter_first n [] h = cc
letter_first n (b ∷ bs) h = ap (λ (x : Bool). is_letter (first (if x then take n bs else b ∷ take n bs))) (not_at_sign b h) ∙ h

letter_second : (n : ℕ) (t : Text) → (first t == byte.at_sign) ≡ true → is_letter (get_or t 1 0) ≡ true → is_letter (variable_name true (take (suc (suc n)) t)).letter ≡ true
letter_second n [] h k = cc
letter_second n (b ∷ []) h k = cc
letter_second n (b ∷ c ∷ bs) h k = ap (λ (x : Bool). is_letter (first (if x then c ∷ take n bs else b ∷ c ∷ take n bs))) h ∙ k

letter_by : (a d g e is : Bool) (t : Text) → is_letter (first t) ≡ a → (first t == byte.at_sign && is_letter (get_or t 1 0)) ≡ g
    → nat_lt 0 (if nat_lt 0 (if a then (if d then 2 else 1) else (if g then (if e then 3 else 2) else 0)) && is then (if a then (if d then 2 else 1) else (if g then (if e then 3 else 2) else 0)) + 1 else 0) ≡ true
    → is_letter (variable_name true (take (if nat_lt 0 (if a then (if d then 2 else 1) else (if g then (if e then 3 else 2) else 0)) && is then (if a then (if d then 2 else 1) else (if g then (if e then 3 else 2) else 0)) + 1 else 0) t)).letter ≡ true
letter_by true true g e true t h k some = letter_first 2 t h
letter_by true false g e true t h k some = letter_first 1 t h
letter_by false d true true true t h k some = letter_second 2 t (and_left _ _ k) (and_right (first t == byte.at_sign) _ k)
letter_by false d true false true t h k some = letter_second 1 t (and_left _ _ k) (and_right (first t == byte.at_sign) _ k)
letter_by false d false e true t h k some = cc
letter_by true true g e false t h k some = cc
letter_by true false g e false t h k some = cc
letter_by false d true true false t h k some = cc
letter_by false d true false false t h k some = cc
letter_by false d false e false t h k some = cc

pub alpha_letter : (t : Text) → is_leaf leaf.AlphaName t ≡ true → is_letter (variable_name true (leaf_bytes leaf.AlphaName t)).letter ≡ true
alpha_letter t is =
    letter_by (is_letter (first t)) (is_digit (get_or t 1 0)) (first t == byte.at_sign && is_letter (get_or t 1 0)) (is_digit (get_or t 2 0)) (get_or t (name_width Atoms t) 0 == byte.dollar) t refl refl is
