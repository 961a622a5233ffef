-- The number in eight bytes is the one that is packed there.
use Rattle.std.proofs.Common.{◌≡◌, ℕ, ◌+◌, ◌-◌, ◌/◌, ◌%◌, ◌≤◌, ◌==◌, ◌&&◌, ◌||◌, nat_le, nat_lt, not, Bool, true, false, List, Option, Some, None, sym, ap, ap₂, ◌∙◌, refl, arith, inl, inr, lt-ltb, le-ltb, le-leb, leb-true, eqb-true, if◌then◌else◌}
use Rattle.std.proofs.lemmas.Bool.{cases_lt, cases_Bool, lt-leb}
use Rattle.std.proofs.lemmas.Slice.Eq.{bytes_eq-Decides}
use borrow.Author.Tests.{ltb-true}
use Rattle.std.specs.Str.{bytes_eq}
use Rattle.b2_base.specs.Lexical.{first}
use Rattle.b2_dec.specs.Number.{Number, IsNumber, zero_number}
use Rattle.b2_dec.specs.Packing.{packed, packed_digits, pairs_value, signs}
use Rattle.b2_dec.proofs.Nibbles.{pairs_value-packed, packed_digits-most, signs-packed, packed_digits-joined, exponent-packed_digits, coef-packed_digits}
use Rattle.b2_pack.specs.PackedNumbers.{is_number, number_of_nibbles, unpacked_as, unpacked}

sign-back : (neg low : Bool) → (((if neg then 1 else 0) + (if low then 8 else 0)) % 2 == 1) ≡ neg
sign-back true true = refl
sign-back true false = refl
sign-back false true = refl
sign-back false false = refl

low-back : (neg low : Bool) → nat_le 8 ((if neg then 1 else 0) + (if low then 8 else 0)) ≡ low
low-back true true = refl
low-back true false = refl
low-back false true = refl
low-back false false = refl

place-back : (place : ℕ) → place ≤ 198
    → (if nat_lt place 99 then 99 - (if nat_lt place 99 then 99 - place else place - 99) else 99 + (if nat_lt place 99 then 99 - place else place - 99)) ≡ place
place-back place h =
    elim (cases_lt place 99) [
      | inl low ↦ rw (lt-ltb place 99 low) (omega arith)
      | inr high ↦ rw (le-ltb place 99 high) (omega arith)
    ]

nibbles-back : (x : Number) → IsNumber x → number_of_nibbles (signs x) (packed_digits x) ≡ x
nibbles-back x h =
    ap₂ (λ (neg : Bool) (place : ℕ). record { neg = neg; coef = packed_digits x % 10000000000000; place = place })
    (sign-back x.neg (nat_lt x.place 99))
    (ap (λ low. if low then 99 - packed_digits x / 10000000000000 else 99 + packed_digits x / 10000000000000) (low-back x.neg (nat_lt x.place 99))
    ∙ ap (λ size. if nat_lt x.place 99 then 99 - size else 99 + size) (exponent-packed_digits x h) ∙ place-back x.place h.highest)
    ∙ ap (λ coef. record { neg = x.neg; coef = coef; place = x.place }) (coef-packed_digits x h)

number-passes : (x : Number) → IsNumber x → is_number x ≡ true
number-passes x h =
    elim (cases_lt x.coef 1000000000000) [
      | inl few ↦ ap is_number (h.spelling few)
      | inr many ↦ rw (lt-ltb x.coef 10000000000000 h.digits, le-leb x.place 198 h.highest, le-leb 1000000000000 x.coef many) refl
    ]

pub unpacked-packed : (x : Number) → IsNumber x → unpacked (packed x) ≡ Some x
unfolding unpacked
unpacked-packed x h =
    let few = packed_digits-most x h in
    let digits : pairs_value 0 (packed x) % 1000000000000000 ≡ packed_digits x = ap (λ t. t % 1000000000000000) (pairs_value-packed x few) ∙ packed_digits-joined _ (packed_digits x) few in
    let same : number_of_nibbles (first (packed x) / 16) (pairs_value 0 (packed x) % 1000000000000000) ≡ x = ap₂ number_of_nibbles (signs-packed x few) digits ∙ nibbles-back x h in
    ap (λ y. unpacked_as y (packed x)) same
    ∙ ap (λ t. if t && bytes_eq (packed x) (packed x) then Some x else None) (number-passes x h)
    ∙ ap (λ t. if t then Some x else None) ((bytes_eq-Decides (packed x) (packed x)).1 refl)

both : (a b : Bool) → (a && b) ≡ true → (a ≡ true) × (b ≡ true)
both true b e = (refl, e)
both false b e = absurd (cc)

third : (a b : Bool) → (a || b) ≡ true → a ≡ false → b ≡ true
third true b e n = absurd (cc)
third false b e n = e

spelled-zero : (neg : Bool) (coef place : ℕ) → ((coef == 0) && (place == 99) && not neg) ≡ true
    → let x : Number = record { neg = neg; coef = coef; place = place } in x ≡ zero_number
spelled-zero true coef place e = absurd (second (coef == 0) (place == 99) e)
  where
    second : (a b : Bool) → (a && b && false) ≡ true → ⊥
    second true true h = cc
    second true false h = cc
    second false b h = cc
spelled-zero false coef place e =
    let parts = both ((coef == 0) && (place == 99)) true e in
    let two = both (coef == 0) (place == 99) parts.0 in
    ap₂ (λ (c p : ℕ). let x : Number = record { neg = false; coef = c; place = p } in x) (eqb-true coef 0 two.0) (eqb-true place 99 two.1)

number-is : (x : Number) → is_number x ≡ true → IsNumber x
number-is x e =
    let outer = both (nat_lt x.coef 10000000000000 && nat_le x.place 198) _ e in
    let inner = both (nat_lt x.coef 10000000000000) (nat_le x.place 198) outer.0 in
    record {
      digits = ltb-true x.coef 10000000000000 inner.0;
      highest = leb-true x.place 198 inner.1;
      spelling = λ few. spelled-zero x.neg x.coef x.place (third (nat_le 1000000000000 x.coef) _ outer.1 (lt-leb 1000000000000 x.coef few));
    }

as-none : (x : Number) (bytes : List ℕ) → (is_number x ≡ true → packed x ≡ bytes → ⊥) → unpacked_as x bytes ≡ None
as-none x bytes never =
    elim (cases_Bool (is_number x && bytes_eq (packed x) bytes)) [
      | inl passed ↦
          let parts = both (is_number x) (bytes_eq (packed x) bytes) passed in
          absurd (never parts.0 ((bytes_eq-Decides (packed x) bytes).0 parts.1))
      | inr other ↦ rw other refl
    ]

pub unpacked-none : (bytes : List ℕ) → ((x : Number) → IsNumber x → bytes ≡ packed x → ⊥) → unpacked bytes ≡ None
unfolding unpacked
unpacked-none bytes never =
    let x : Number = number_of_nibbles (first bytes / 16) (pairs_value 0 bytes % 1000000000000000) in
    as-none x bytes (λ number same. never x (number-is x number) (sym same))

pub some_is_none : (x : Number) → (let nothing : Option Number = None in nothing) ≡ Some x → ⊥
some_is_none x e = cc
