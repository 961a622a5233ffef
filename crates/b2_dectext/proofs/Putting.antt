-- One text put after another, and the texts that `write` puts.
use Rattle.std.proofs.Common.{◌≡◌, ℕ, ◌+◌, Bool, true, false, ◌==◌, List, [], ◌∷◌, ◌++◌, length, take, drop, sym, ap, ◌∙◌, refl, subst, arith, eqb-true, le-leb, nat_le, ◌-◌, ◌≤◌, ◌<◌, ◌⊎◌, inl, inr, ◌&&◌, append_assoc, length-append}
use Rattle.std.proofs.lemmas.List.{drop-drop, append-nil}
use Rattle.std.proofs.lemmas.Bool.{lt-leb}
use Rattle.b2_dec.specs.Number.{Number}
use Rattle.b2_dectext.specs.Digits.{digit_bytes, without_last_zeros}
use Rattle.b2_dectext.specs.Printed.{IsPut, after_point, with_point, nine_digits, exponent_shown, is_fixed, shown_size}

drop_further : (m k n : ℕ) (xs ys : List ℕ) → n ≡ m + k → drop m xs ≡ drop m ys → drop n xs ≡ drop n ys
drop_further m k n xs ys e same =
    ap (λ i. drop i xs) e ∙ sym (drop-drop k m xs) ∙ ap (drop k) same ∙ drop-drop k m ys ∙ ap (λ i. drop i ys) (sym e)

pub IsPut-append : (text first next : List ℕ) (at middle end : ℕ) (xs ys zs : List ℕ) → first ++ next ≡ text
    → IsPut first at xs ys middle → IsPut next middle ys zs end → IsPut text at xs zs end
IsPut-append text first next at middle end xs ys zs same p q =
    let both : IsPut (first ++ next) at xs zs end = record {
      len = q.len ∙ ap (λ i. i + length next) p.len ∙ omega (arith, length-append first next);
      front = q.front ∙ ap (λ part. part ++ next) p.front ∙ append_assoc (take at xs) first next;
      rest = q.rest ∙ drop_further middle (length next) end ys xs q.len p.rest;
    } in
    subst (λ t. IsPut t at xs zs end) same both

pub IsPut-same : (text other : List ℕ) (at end : ℕ) (xs ys : List ℕ) → other ≡ text → IsPut other at xs ys end → IsPut text at xs ys end
IsPut-same text other at end xs ys same p = subst (λ t. IsPut t at xs ys end) same p

after_point-none : (ds : List ℕ) → true ≡ (length ds == 0) → after_point ds ≡ []
after_point-none [] e = refl
after_point-none (d ∷ ds) e = let none : length (d ∷ ds) ≡ 0 = eqb-true _ _ (sym e) in absurd (omega arith)

after_point-some : (ds : List ℕ) → false ≡ (length ds == 0) → after_point ds ≡ 46 ∷ ds
after_point-some [] e = absurd (cc)
after_point-some (d ∷ ds) e = refl

pub with_point-none : (n : ℕ) (ds front back fraction : List ℕ) → front ≡ take n ds → back ≡ drop n ds → fraction ≡ without_last_zeros back
    → true ≡ (length fraction == 0) → front ≡ with_point n ds
unfolding with_point
with_point-none n ds front back fraction before rest kept none =
    before ∙ sym (append-nil (take n ds)) ∙ ap (λ t. take n ds ++ t) (sym (after_point-none fraction none))
    ∙ ap (λ t. take n ds ++ after_point t) (kept ∙ ap without_last_zeros rest)

pub with_point-some : (n : ℕ) (ds front back fraction : List ℕ) → front ≡ take n ds → back ≡ drop n ds → fraction ≡ without_last_zeros back
    → false ≡ (length fraction == 0) → (front ++ (46 ∷ [])) ++ fraction ≡ with_point n ds
unfolding with_point
with_point-some n ds front back fraction before rest kept some =
    append_assoc front (46 ∷ []) fraction ∙ ap (λ t. t ++ (46 ∷ fraction)) before ∙ ap (λ t. take n ds ++ t) (sym (after_point-some fraction some))
    ∙ ap (λ t. take n ds ++ after_point t) (kept ∙ ap without_last_zeros rest)

pub shown_size-zero : (x : Number) → (x.coef == 0) ≡ true → 48 ∷ [] ≡ shown_size x
unfolding shown_size
shown_size-zero x e = rw e refl

pub shown_size-fixed : (x : Number) → (x.coef == 0) ≡ false → 98 ≤ x.place → x.place ≤ 111 → with_point (x.place - 98) (digit_bytes 13 x.coef) ≡ shown_size x
unfolding shown_size
shown_size-fixed x e low high = rw (e, le-leb _ _ low, le-leb _ _ high) refl

and-false : (a b : Bool) → b ≡ false → (a && b) ≡ false
and-false true b e = e
and-false false b e = refl

not_fixed : (place : ℕ) → (place < 98) ⊎ (111 < place) → is_fixed place ≡ false
not_fixed place (inl low) = rw (lt-leb 98 place low) refl
not_fixed place (inr high) = and-false (nat_le 98 place) _ (lt-leb place 111 high)

pub shown_size-exponent : (x : Number) → (x.coef == 0) ≡ false → (x.place < 98) ⊎ (111 < x.place) → nine_digits (digit_bytes 13 x.coef) ++ exponent_shown x.place ≡ shown_size x
unfolding shown_size
shown_size-exponent x e far = rw (e, not_fixed x.place far) refl
