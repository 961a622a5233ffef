-- Laws of sums, roots and spellings.
use Rattle.std.proofs.Common.{◌≡◌, ℕ, ◌+◌, ◌*◌, ◌^◌, ◌<◌, ◌≤◌, ℤ, pos, ◌-ℤ◌, false, Result, Ok, Err, IfOk, sym, refl, ap, ap₂, ◌∙◌, arith, lit<, mul-le-mul, le_trans, lt_of_le_of_lt, inl, inr, ⊎_elim}
use Rattle.std.proofs.lemmas.Int.{ints}
use Rattle.std.proofs.lemmas.Bool.{cases_order, cases_lt, cases_Bool}
use native.Mathlib.Nat.{eq_of_mul-eq-mul_right, eq-zero-or-pos}
use Rattle.b2_dec.specs.declared.number.Mode.{Mode}
use Rattle.b2_dec.specs.declared.number.Mode.TheVariants.{Cut}
use Rattle.b2_dec.specs.Number.{Number, zero_number, IsNumber, size, value, signed}
use Rattle.b2_dec.specs.Rounding.{rnd, rounded}
use Rattle.b2_dec.specs.Arithmetic.{difference_of, root, root_of}
use Rattle.b2_dec.specs.Laws.{IsLargestBelow, IsRoot}
use Rattle.b2_dec.proofs.TenLemmas.{ten_pos}
use Rattle.b2_dec.proofs.Exact.{rnd-zero}
use Rattle.b2_dec.proofs.Ranks.{less_place}
use Rattle.b2_dec.proofs.Wholes.{signed-parts, signed-nothing, signed-zero, coef-nothing}
use Rattle.b2_dec.proofs.Roots.{root-low, root-high, square_less}
use Rattle.b2_dec.proofs.Grid.{rnd-largest}

nothing_left : (z : ℤ) → z -ℤ z ≡ pos 0
nothing_left z = omega (arith, ints)

pub difference-itself : (mode : Mode) (a : Number) → difference_of mode a a ≡ Ok zero_number
difference-itself mode a = ap (λ z. rounded mode z (10 ^ 111)) (nothing_left (value a)) ∙ rnd-zero mode false (10 ^ 111)

-- ---- spelling

same-digits : (a b : Number) → a.place ≡ b.place → size a ≡ size b → a.coef ≡ b.coef
same-digits a b p e = eq_of_mul-eq-mul_right (10 ^ b.place) (ten_pos b.place) a.coef b.coef (ap (λ t. a.coef * 10 ^ t) (sym p) ∙ e)

same-parts : (a b : Number) → a.neg ≡ b.neg → a.coef ≡ b.coef → a.place ≡ b.place → a ≡ b
same-parts a b s c p =
    ap (λ t. record { neg = t; coef = a.coef; place = a.place }) s
    ∙ ap₂ (λ t u. record { neg = b.neg; coef = t; place = u }) c p

same-sizes : (a b : Number) → 1000000000000 ≤ a.coef → a.coef < 10000000000000 → 1000000000000 ≤ b.coef → b.coef < 10000000000000
    → a.neg ≡ b.neg → size a ≡ size b → a ≡ b
same-sizes a b some few some' few' s e =
    elim (cases_order a.place b.place) [
      | inl p ↦ same-parts a b s (same-digits a b p e) p
      | inr other ↦ absurd (⊎_elim (λ h. let less : size a < size b = less_place a b few some' h in omega arith)
          (λ h. let less : size b < size a = less_place b a few' some h in omega arith) other)
    ]

pub one-spelling : (a b : Number) → IsNumber a → IsNumber b → value a ≡ value b → a ≡ b
one-spelling a b h k e =
    elim (eq-zero-or-pos (size b)) [
      | inl none ↦
          let zero_b : b ≡ zero_number = coef-nothing b k none in
          let here : value a ≡ pos 0 = e ∙ ap (signed b.neg) none ∙ signed-zero b.neg in
          coef-nothing a h (signed-nothing a.neg (size a) here) ∙ sym zero_b
      | inr some ↦
          let parts = signed-parts a.neg b.neg (size a) (size b) some e in
          elim (cases_lt b.coef 1000000000000) [
            | inl few ↦ let none : size b ≡ 0 = ap size (k.spelling few) in absurd (omega arith)
            | inr many ↦ elim (cases_lt a.coef 1000000000000) [
              | inl few ↦ let none : size a ≡ 0 = ap size (h.spelling few) in absurd (omega (arith, parts.1))
              | inr many' ↦ same-sizes a b many' h.digits many k.digits parts.0 parts.1
            ]
          ]
    ]

-- ---- roots

abbrev left : Number → Result Number ℕ
left x = Ok x

abbrev right : Result Number ℕ
right = Err 66

root-is : (a r : Number) → IsLargestBelow (root (size a * 10 ^ 111)) (10 ^ 111) r → IsRoot a r
root-is a r h =
    let n : ℕ = root (size a * 10 ^ 111) in
    let below : size r ≤ n = omega (arith, h.below) in
    record {
      square = le_trans (mul-le-mul below below) (root-low (size a * 10 ^ 111));
      greatest = λ y k under.
          let less : size y < n + 1 = square_less (size y) (n + 1) (lt_of_le_of_lt under (root-high (size a * 10 ^ 111))) in
          h.largest y k (omega arith);
    }

pub root_of-greatest : (a : Number) (s : Result Number ℕ) → s ≡ root_of a → IfOk s (λ r. IsRoot a r)
root_of-greatest a (Err c) e = tt
root_of-greatest a (Ok r) e =
    elim (cases_Bool a.neg) [
      | inl minus ↦ let none : root_of a ≡ Err 66 = rw minus refl in absurd (apart r (e ∙ none))
      | inr plus ↦
          let some : root_of a ≡ rnd Cut false (root (size a * 10 ^ 111)) (10 ^ 111) = rw plus refl in
          root-is a r (rnd-largest false (root (size a * 10 ^ 111)) (10 ^ 111) r (lit< tt) (sym some ∙ sym e))
    ]
  where
    apart : (x : Number) → left x ≡ right → ⊥
    apart x e = cc
