-- Bytes that write pairs are a specification, and no others are.
use Rattle.std.proofs.Common.{◌≡◌, ℕ, ◌+◌, ◌-◌, ◌≤◌, ◌==◌, ◌&&◌, nat_le, Bool, true, false, List, [], ◌∷◌, ◌++◌, Option, Some, None, is_some, sym, ap, ap₂, ◌∙◌, refl, arith, le-leb, leb-true, eqb-true, ne_eqb, inl, inr, append_assoc, if◌then◌else◌}
use Rattle.std.proofs.lemmas.Bool.{cases_Bool}
use Rattle.b2_pack.specs.declared.specification.TheConstants.{SKIP, TEXT, DIGITS, PACKED, ALPHA}
use Rattle.b2_pack.specs.declared.specification.Field.TheVariants as field
use Rattle.b2_pack.specs.declared.specification.Pair.{Pair}
use Rattle.b2_pack.specs.declared.specification.Pair.TheVariants as pair
use Rattle.b2_pack.specs.Specification.{pair_meant, ends_pairs, before_pairs, specified_pairs, is_specification, pair_written, pair_width, pair_decimals, is_ending}
use Rattle.b2_pack.proofs.Standing.{some_width}
use Rattle.b2_pack.specs.Laws.{ArePairs, pairs_bytes, IsWritten}

-- a pair is what its two bytes mean
pair-read : (p : Pair) (rest : List ℕ) → 1 ≤ pair_width p → pair_decimals p ≤ 9
    → (is_specification (pair_written p ++ rest) ≡ is_specification rest) × (specified_pairs (pair_written p ++ rest) ≡ p ∷ specified_pairs rest)
pair-read (pair.Skip w) rest width few = let some : (w == 0) ≡ false = ne_eqb w 0 (λ e. absurd (omega arith)) in (rw some refl, rw some refl)
pair-read (pair.Holding (field.Text w)) rest width few = let some : (w == 0) ≡ false = ne_eqb w 0 (λ e. absurd (omega arith)) in (rw some refl, rw some refl)
pair-read (pair.Holding (field.Digits d w)) rest width few =
    let some : (w == 0) ≡ false = ne_eqb w 0 (λ e. absurd (omega arith)) in
    let blank : (80 + d == 32) ≡ false = ne_eqb (80 + d) 32 (λ e. absurd (omega arith)) in
    let skip : (80 + d == 0) ≡ false = ne_eqb (80 + d) 0 (λ e. absurd (omega arith)) in
    let text : (80 + d == 16) ≡ false = ne_eqb (80 + d) 16 (λ e. absurd (omega arith)) in
    let low : nat_le 80 (80 + d) ≡ true = le-leb 80 (80 + d) (omega arith) in
    let high : nat_le (80 + d) 89 ≡ true = le-leb (80 + d) 89 (omega arith) in
    let back : 80 + d - 80 ≡ d = omega arith in
    (rw (blank, some, skip, text, low, high) refl, rw (blank, some, skip, text, low, high, back) refl)
pair-read (pair.Holding field.Packed) rest width few = (refl, refl)
pair-read (pair.Holding (field.Alpha w)) rest width few = let some : (w == 0) ≡ false = ne_eqb w 0 (λ e. absurd (omega arith)) in (rw some refl, rw some refl)

ending-read : (ending : List ℕ) → is_ending ending ≡ true → (is_specification ending ≡ true) × (specified_pairs ending ≡ [])
ending-read [] e = (refl, refl)
ending-read (b ∷ []) e = (e, refl)
ending-read (k ∷ w ∷ rest) e = (rw e refl, rw e refl)

pairs-read : (ps : List Pair) (ending : List ℕ) → ArePairs ps → is_ending ending ≡ true
    → (is_specification (pairs_bytes ps ++ ending) ≡ true) × (specified_pairs (pairs_bytes ps ++ ending) ≡ ps)
pairs-read [] ending h e = ending-read ending e
pairs-read (p ∷ ps) ending h e =
    let rest : List ℕ = pairs_bytes ps ++ ending in
    let paired : pairs_bytes (p ∷ ps) ++ ending ≡ pair_written p ++ rest = append_assoc (pair_written p) (pairs_bytes ps) ending in
    let here = pair-read p rest h.0.0 h.0.1 in
    let more = pairs-read ps ending h.1 e in
    (ap is_specification paired ∙ here.0 ∙ more.0, ap specified_pairs paired ∙ here.1 ∙ ap (λ qs. p ∷ qs) more.1)

pub written-read : (text : List ℕ) (ps : List Pair) → IsWritten text ps → (is_specification text ≡ true) × (specified_pairs text ≡ ps)
written-read text ps h =
    let parts = pairs-read ps h.ending h.pairs h.ends in
    (ap is_specification (sym h.text_is) ∙ parts.0, ap specified_pairs (sym h.text_is) ∙ parts.1)

-- what the two bytes of a pair say
abbrev Says : ℕ → ℕ → Option Pair → Type 0
Says k w None = Unit {0}
Says k w (Some p) = ((1 ≤ pair_width p) × (pair_decimals p ≤ 9)) × (pair_written p ≡ k ∷ w ∷ [])

says-if : (k w : ℕ) (b : Bool) (x y : Option Pair) → (b ≡ true → Says k w x) → (b ≡ false → Says k w y) → Says k w (if b then x else y)
says-if k w true x y f g = f refl
says-if k w false x y f g = g refl

first_of : (a b : Bool) → (a && b) ≡ true → (a ≡ true) × (b ≡ true)
first_of true b e = (refl, e)
first_of false b e = absurd (cc)

pair-says : (k w : ℕ) → Says k w (pair_meant k w)
pair-says k w =
    says-if k w (w == 0) None _ (λ t. tt) (λ some.
    let width : 1 ≤ w = some_width w some in
    says-if k w (k == SKIP) _ _ (λ t. ((width, omega arith), ap (λ c. c ∷ w ∷ []) (sym (eqb-true k 0 t)))) (λ f.
    says-if k w (k == TEXT) _ _ (λ t. ((width, omega arith), ap (λ c. c ∷ w ∷ []) (sym (eqb-true k 16 t)))) (λ f2.
    says-if k w (nat_le DIGITS k && nat_le k (DIGITS + 9)) _ _ (λ t.
    let range = first_of (nat_le 80 k) (nat_le k 89) t in
    let low : 80 ≤ k = leb-true 80 k range.0 in
    let high : k ≤ 89 = leb-true k 89 range.1 in
    let back : 80 + (k - 80) ≡ k = omega arith in
    ((width, omega arith), ap (λ c. c ∷ w ∷ []) back)) (λ f3.
    says-if k w ((k == PACKED) && (w == 8)) _ _ (λ t.
    let both = first_of (k == 96) (w == 8) t in
    ((omega arith, omega arith), ap₂ (λ c d. c ∷ d ∷ []) (sym (eqb-true k 96 both.0)) (sym (eqb-true w 8 both.1)))) (λ f4.
    says-if k w (k == ALPHA) _ None (λ t. ((width, omega arith), ap (λ c. c ∷ w ∷ []) (sym (eqb-true k 160 t)))) (λ f5. tt))))))

written-more : (k w : ℕ) (rest : List ℕ) (o : Option Pair) → Says k w o → (is_some o && is_specification rest) ≡ true → (is_specification rest ≡ true → IsWritten rest (specified_pairs rest))
    → IsWritten (k ∷ w ∷ rest) (before_pairs o (specified_pairs rest))
written-more k w rest None says e further = absurd (cc)
written-more k w rest (Some p) says e further =
    let h = further e in
    record {
      ending = h.ending;
      pairs = (says.0, h.pairs);
      ends = h.ends;
      text_is = append_assoc (pair_written p) (pairs_bytes (specified_pairs rest)) h.ending ∙ ap₂ (λ a b. a ++ b) says.1 h.text_is;
    }

pub only-written : (text : List ℕ) → is_specification text ≡ true → IsWritten text (specified_pairs text)
only-written [] e = record { ending = []; pairs = tt; ends = refl; text_is = refl }
only-written (b ∷ []) e = record { ending = b ∷ []; pairs = tt; ends = e; text_is = refl }
only-written (k ∷ w ∷ rest) e =
    elim (cases_Bool (ends_pairs k w)) [
      | inl end ↦ rw end (record { ending = k ∷ w ∷ rest; pairs = tt; ends = end; text_is = refl })
      | inr more ↦ rw more (written-more k w rest (pair_meant k w) (pair-says k w) (rw more at e) (λ h. only-written rest h))
    ]
