-- The digits of a packed number, as the word of its bytes has them.
use Rattle.std.proofs.Common.{◌≡◌, ℕ, zero, suc, ◌+◌, ◌-◌, ◌*◌, ◌/◌, ◌%◌, ◌^◌, ◌<◌, ◌≤◌, ◌==◌, if◌then◌else◌, Bool, true, false, List, ◌∷◌, length, get_or, sym, refl, ap, ap₂, ◌∙◌, subst, arith, lit<, lit≤, div-add-mod', div-one, inl, inr, lt-ltb, le-ltb}
use Rattle.std.specs.Int.{w64, byte_at, bytes_high_first, to_be_bytes, from_be_bytes}
use Rattle.std.proofs.lemmas.Nat.{mod-mul-add, div-mul-add, be_bytes_8, from_be_bytes-to_be_bytes_8}
use Rattle.std.proofs.lemmas.Bool.{cases_lt}
use Rattle.std.proofs.Math.Nat.{div-div-eq-div-mul, div-lt_iff_lt-mul, pow-succ', pow-suc, pow-zero, add-mul-div_left, add-mul-mod_self_right, one-le-pow}
use Rattle.b2_base.specs.Lexical.{decimal_byte}
use Rattle.b2_dec.specs.Number.{Number, IsNumber}
use Rattle.b2_dec.specs.Lanes.{rebased}
use Rattle.b2_dec.specs.Packing.{exponent_size, signs, packed_digits, pairs, packed, head, all_digits}
use Rattle.b2_dec.proofs.Slots.{slots, rebased-slots, slots-most}
use Rattle.b2_dec.proofs.Nibbles.{exponent_size-most, packed_digits-most}
use Rattle.b2_dec.proofs.PartedDigits.{paired, nibbles-bytes, nibbles-most}

-- ---- the digits

-- The place and the sign that the digits give back.
signs-low : (x : Number) → x.place < 99 → signs x ≡ (if x.neg then 1 else 0) + 8
signs-low x h = rw (lt-ltb _ _ h) refl

signs-high : (x : Number) → 99 ≤ x.place → signs x ≡ (if x.neg then 1 else 0) + 0
signs-high x h = rw (le-ltb _ _ h) refl

sign-most : (s : Bool) → (if s then 1 else 0) ≤ 1
sign-most true = lit≤ tt
sign-most false = lit≤ tt

signs-most : (x : Number) → signs x ≤ 9
signs-most x =
    elim (cases_lt x.place 99) [
      | inl low ↦ rw (signs-low x low) (omega (arith, sign-most x.neg))
      | inr high ↦ rw (signs-high x high) (omega (arith, sign-most x.neg))
    ]

byte-most : (x : Number) → IsNumber x → decimal_byte (exponent_size x) < 256
byte-most x h = few (exponent_size x) (exponent_size-most x h.highest)
  where
    few : (e : ℕ) → e ≤ 99 → e / 10 * 16 + e % 10 < 256
    few e h = omega arith

signs-head : (x : Number) (d : ℕ) → IsNumber x → d ≡ head x → d / 256 ≡ signs x
signs-head x d h e = ap (λ t. t / 256) e ∙ div-mul-add (signs x) 256 (decimal_byte (exponent_size x)) (byte-most x h)

pub size-is : (x : Number) (d : ℕ) → IsNumber x → d ≡ head x → d % 256 - 6 * (d % 256 / 16) ≡ exponent_size x
size-is x d h e =
    ap (λ t. t % 256 - 6 * (t % 256 / 16)) e
    ∙ ap (λ t. t - 6 * (t / 16)) (mod-mul-add (signs x) 256 (decimal_byte (exponent_size x)) (byte-most x h)) ∙ back (exponent_size x)
  where
    back : (e : ℕ) → e / 10 * 16 + e % 10 - 6 * ((e / 10 * 16 + e % 10) / 16) ≡ e
    back e = let tens : (e / 10 * 16 + e % 10) / 16 ≡ e / 10 = omega arith in omega arith

pub place-low : (x : Number) (d size : ℕ) → IsNumber x → d ≡ head x → size ≡ exponent_size x → 8 ≤ d / 256 → 99 - size ≡ x.place
place-low x d size h e same some =
    elim (cases_lt x.place 99) [
      | inl low ↦ let here : exponent_size x ≡ 99 - x.place = rw (lt-ltb _ _ low) refl in ap (λ t. 99 - t) (same ∙ here) ∙ omega arith
      | inr high ↦ absurd (few (d / 256) (if x.neg then 1 else 0) some (signs-head x d h e ∙ signs-high x high) (sign-most x.neg))
    ]
  where
    few : (s b : ℕ) → 8 ≤ s → s ≡ b + 0 → b ≤ 1 → ⊥
    few s b h e k = absurd (omega arith)

pub place-high : (x : Number) (d size : ℕ) → IsNumber x → d ≡ head x → size ≡ exponent_size x → d / 256 < 8 → 99 + size ≡ x.place
place-high x d size h e same few =
    elim (cases_lt x.place 99) [
      | inl low ↦ absurd (some (d / 256) (if x.neg then 1 else 0) few (signs-head x d h e ∙ signs-low x low))
      | inr high ↦ let here : exponent_size x ≡ x.place - 99 = rw (le-ltb _ _ high) refl in ap (λ t. 99 + t) (same ∙ here) ∙ omega arith
    ]
  where
    some : (s b : ℕ) → s < 8 → s ≡ b + 8 → ⊥
    some s b h e = absurd (omega arith)

sign-odd : (x : Number) → (signs x % 2 == 1) ≡ x.neg
sign-odd x =
    elim (cases_lt x.place 99) [
      | inl low ↦ rw (lt-ltb _ _ low) (odd x.neg)
      | inr high ↦ rw (le-ltb _ _ high) (plain x.neg)
    ]
  where
    odd : (b : Bool) → (((if b then 1 else 0) + 8) % 2 == 1) ≡ b
    odd true = refl
    odd false = refl

    plain : (b : Bool) → (((if b then 1 else 0) + 0) % 2 == 1) ≡ b
    plain true = refl
    plain false = refl

pub sign-is : (x : Number) (d : ℕ) → IsNumber x → d ≡ head x → (d / 256 % 2 == 1) ≡ x.neg
sign-is x d h e = ap (λ t. t % 2 == 1) (signs-head x d h e) ∙ sign-odd x

pub digits-most : (x : Number) → IsNumber x → all_digits x < 10 ^ 16
digits-most x h = omega (arith, packed_digits-most x h, signs-most x)

-- the digits as two numbers of eight
pub eights : (x : Number) (t : ℕ) → t ≡ signs x * 100 + exponent_size x → (t * 100000 + x.coef / 100000000) * 10 ^ 8 + x.coef % 100000000 ≡ all_digits x
eights x t e = rw e (parts (signs x) (exponent_size x) x.coef)
  where
    parts : (s e c : ℕ) → ((s * 100 + e) * 100000 + c / 100000000) * 10 ^ 8 + c % 100000000 ≡ s * 1000000000000000 + (e * 10000000000000 + c)
    parts s e c = omega arith

-- a number by its parts
pub by_parts : (x : Number) (s : Bool) (c p : ℕ) → s ≡ x.neg → c ≡ x.coef → p ≡ x.place → record { neg = s; coef = c; place = p } ≡ x
by_parts x s c p es ec ep = ap (λ t. record { neg = t; coef = c; place = p }) es ∙ ap₂ (λ t u. record { neg = x.neg; coef = t; place = u }) ec ep

-- ---- the bytes

paired-byte : (v : ℕ) → paired v ≡ decimal_byte (v % 100)
paired-byte v = omega arith

slot-at : (i k v : ℕ) → i < k → slots 256 100 paired k v / 256 ^ i % 256 ≡ decimal_byte (v / 100 ^ i % 100)
unfolding slots
slot-at i zero v h = absurd (omega arith)
slot-at zero (suc k) v h =
    let few : paired v < 256 = omega arith in
    rw (pow-zero 256, pow-zero 100, div-one (slots 256 100 paired (suc k) v), div-one v) (mod-mul-add (slots 256 100 paired k (v / 100)) 256 (paired v) few ∙ paired-byte v)
slot-at (suc i) (suc k) v h =
    let few : paired v < 256 = omega arith in
    let less : i < k = omega arith in
    let next : slots 256 100 paired (suc k) v / 256 ≡ slots 256 100 paired k (v / 100) = div-mul-add (slots 256 100 paired k (v / 100)) 256 (paired v) few in
    ap (λ t. slots 256 100 paired (suc k) v / t % 256) (pow-succ' 256 i)
    ∙ ap (λ t. t % 256) (sym (div-div-eq-div-mul (slots 256 100 paired (suc k) v) 256 (256 ^ i)))
    ∙ ap (λ t. t / 256 ^ i % 256) next ∙ slot-at i k (v / 100) less
    ∙ ap (λ t. decimal_byte (t % 100)) (div-div-eq-div-mul v 100 (100 ^ i)) ∙ ap (λ t. decimal_byte (v / t % 100)) (sym (pow-succ' 100 i))

byte_at-is : (i n : ℕ) → byte_at i n ≡ n / 256 ^ i % 256
byte_at-is zero n = ap (λ t. t % 256) (sym (div-one n) ∙ ap (λ t. n / t) (sym (pow-zero 256)))
byte_at-is (suc i) n = refl

bytes-pairs : (k v : ℕ) → k ≤ 8 → bytes_high_first k (slots 256 100 paired 8 v) ≡ pairs k v
bytes-pairs zero v h = refl
bytes-pairs (suc k) v h =
    ap₂ ◌∷◌ (byte_at-is k (slots 256 100 paired 8 v) ∙ slot-at k 8 v (omega arith)) (bytes-pairs k v (omega arith))

-- Digits above those that are taken change nothing.
pairs-lower : (k a n : ℕ) → pairs k (n + 100 ^ k * a) ≡ pairs k n
pairs-lower zero a n = refl
pairs-lower (suc k) a n =
    let moved : n + 100 ^ suc k * a ≡ n + 100 ^ k * (a * 100) = ap (λ t. n + t * a) (pow-suc 100 k) ∙ ap (λ t. n + t) (turned (100 ^ k) a) in
    let digits : (n + 100 ^ suc k * a) / 100 ^ k % 100 ≡ n / 100 ^ k % 100 =
    ap (λ t. t / 100 ^ k % 100) moved ∙ ap (λ t. t % 100) (add-mul-div_left n (a * 100) (hundred_pos k)) ∙ add-mul-mod_self_right (n / 100 ^ k) a 100 in
    ap₂ ◌∷◌ (ap decimal_byte digits) (ap (pairs k) moved ∙ pairs-lower k (a * 100) n)
  where
    turned : (p a : ℕ) → p * 100 * a ≡ p * (a * 100)
    turned p a = omega arith

    hundred_pos : (k : ℕ) → 0 < 100 ^ k
    hundred_pos k = one-le-pow k 100 (lit< tt)

packed-pairs : (x : Number) → IsNumber x → pairs 8 (all_digits x) ≡ packed x
packed-pairs x h =
    let few : packed_digits x < 1000000000000000 = packed_digits-most x h in
    let rest : all_digits x ≡ packed_digits x + 100 ^ 7 * (signs x * 10) = omega arith in
    ap₂ ◌∷◌ (first (signs x) (packed_digits x) few (digits-most x h)) (ap (pairs 7) rest ∙ pairs-lower 7 (signs x * 10) (packed_digits x))
  where
    first : (s d : ℕ) → d < 1000000000000000 → s * 1000000000000000 + d < 10 ^ 16 → decimal_byte ((s * 1000000000000000 + d) / 100000000000000 % 100) ≡ 16 * s + d / 100000000000000
    first s d h k =
        let all : (s * 1000000000000000 + d) / 100000000000000 % 100 ≡ s * 10 + d / 100000000000000 = omega arith in
        let few : d / 100000000000000 < 10 = omega arith in
        ap decimal_byte all ∙ ap₂ (λ t u. t * 16 + u) (div-mul-add s 10 (d / 100000000000000) few) (mod-mul-add s 10 (d / 100000000000000) few) ∙ omega arith

pub packed-bytes : (x : Number) → IsNumber x → to_be_bytes w64 (rebased 10 16 16 (all_digits x)) ≡ packed x
packed-bytes x h = ap (to_be_bytes w64) (nibbles-bytes (all_digits x)) ∙ bytes-pairs 8 (all_digits x) (omega arith) ∙ packed-pairs x h

-- ---- read back

rebased-back : (n v : ℕ) → v < 10 ^ n → rebased 16 10 n (rebased 10 16 n v) ≡ v
unfolding rebased
rebased-back zero v h = let one : 10 ^ 0 ≡ 1 = pow-zero 10 in omega arith
rebased-back (suc n) v h =
    let small : v % 10 < 16 = omega arith in
    let less : v / 10 < 10 ^ n = (div-lt_iff_lt-mul (lit< tt)).1 (subst (λ t. v < t) (pow-suc 10 n) h) in
    ap₂ (λ s t. rebased 16 10 n s * 10 + t) (div-mul-add (rebased 10 16 n (v / 10)) 16 (v % 10) small) (mod-mul-add (rebased 10 16 n (v / 10)) 16 (v % 10) small)
    ∙ ap (λ t. t * 10 + v % 10) (rebased-back n (v / 10) less) ∙ div-add-mod' v 10

-- Digits that stand below others.
abbrev more : ℕ → ℕ → ℕ
more k zero = k
more k (suc n) = suc (more k n)

joined : (k n a c : ℕ) → c < 10 ^ n → rebased 10 16 (more k n) (a * 10 ^ n + c) ≡ rebased 10 16 k a * 16 ^ n + rebased 10 16 n c
unfolding rebased
joined k zero a c h =
    let whole : a * 10 ^ 0 + c ≡ a = omega arith in
    let unit : rebased 10 16 k a * 16 ^ 0 + 0 ≡ rebased 10 16 k a = omega arith in
    ap (rebased 10 16 k) whole ∙ sym unit
joined k (suc n) a c h =
    let less : c / 10 < 10 ^ n = (div-lt_iff_lt-mul (lit< tt)).1 (subst (λ t. c < t) (pow-suc 10 n) h) in
    let moved : a * 10 ^ suc n + c ≡ a * 10 ^ n * 10 + c = ap (λ t. a * t + c) (pow-suc 10 n) ∙ turned a (10 ^ n) c in
    let upper : (a * 10 ^ suc n + c) / 10 ≡ a * 10 ^ n + c / 10 = ap (λ t. t / 10) moved ∙ above (a * 10 ^ n) c in
    let lower : (a * 10 ^ suc n + c) % 10 ≡ c % 10 = ap (λ t. t % 10) moved ∙ below (a * 10 ^ n) c in
    ap₂ (λ s t. s * 16 + t) (ap (rebased 10 16 (more k n)) upper ∙ joined k n a (c / 10) less) lower
    ∙ apart (rebased 10 16 k a) (16 ^ n) (rebased 10 16 n (c / 10)) (c % 10)
    ∙ ap (λ t. rebased 10 16 k a * t + (rebased 10 16 n (c / 10) * 16 + c % 10)) (sym (pow-suc 16 n))
  where
    turned : (a p c : ℕ) → a * (p * 10) + c ≡ a * p * 10 + c
    turned a p c = omega arith

    above : (q c : ℕ) → (q * 10 + c) / 10 ≡ q + c / 10
    above q c = omega arith

    below : (q c : ℕ) → (q * 10 + c) % 10 ≡ c % 10
    below q c = omega arith

    apart : (x p y r : ℕ) → (x * p + y) * 16 + r ≡ x * (p * 16) + (y * 16 + r)
    apart x p y r = omega arith

three : (s e : ℕ) → s ≤ 9 → e ≤ 99 → rebased 10 16 3 (s * 100 + e) ≡ s * 256 + decimal_byte e
unfolding rebased
three s e h k =
    let top : (s * 100 + e) / 10 / 10 % 10 ≡ s = omega arith in
    let middle : (s * 100 + e) / 10 % 10 ≡ e / 10 = omega arith in
    let low : (s * 100 + e) % 10 ≡ e % 10 = omega arith in
    rw (top, middle, low) (omega arith)

three-none : rebased 10 16 3 0 ≡ 0
unfolding rebased
three-none = refl

thirteen-nibbles : (c : ℕ) → c < 10000000000000 → rebased 10 16 16 c ≡ rebased 10 16 13 c
thirteen-nibbles c h =
    let whole : c ≡ 0 * 10 ^ 13 + c = omega arith in
    ap (rebased 10 16 16) whole ∙ joined 3 13 0 c h ∙ ap (λ t. t * 16 ^ 13 + rebased 10 16 13 c) three-none ∙ omega arith

nibbles-fit : (c : ℕ) → rebased 10 16 13 c < 4503599627370496
nibbles-fit c = rw (rebased-slots 10 16 13 c) (slots-most 16 10 (λ u. u % 10) (λ u. omega arith) 13 c)

-- The word of a packed number: the nibbles of its signs and of its exponent, and those of its digits.
word-is : (x : Number) → IsNumber x → from_be_bytes w64 (packed x) ≡ head x * 4503599627370496 + rebased 10 16 13 x.coef
word-is x h =
    let parts : all_digits x ≡ (signs x * 100 + exponent_size x) * 10 ^ 13 + x.coef = whole (signs x) (exponent_size x) x.coef in
    ap (from_be_bytes w64) (sym (packed-bytes x h)) ∙ from_be_bytes-to_be_bytes_8 (rebased 10 16 16 (all_digits x)) (nibbles-most (all_digits x))
    ∙ ap (rebased 10 16 16) parts ∙ joined 3 13 (signs x * 100 + exponent_size x) x.coef h.digits
    ∙ ap (λ t. t * 4503599627370496 + rebased 10 16 13 x.coef) (three (signs x) (exponent_size x) (signs-most x) (exponent_size-most x h.highest))
  where
    whole : (s e c : ℕ) → s * 1000000000000000 + (e * 10000000000000 + c) ≡ (s * 100 + e) * 10 ^ 13 + c
    whole s e c = omega arith

pub word-head : (x : Number) (w : ℕ) → IsNumber x → w ≡ from_be_bytes w64 (packed x) → w / 4503599627370496 ≡ head x
word-head x w h e = ap (λ t. t / 4503599627370496) (e ∙ word-is x h) ∙ div-mul-add (head x) 4503599627370496 (rebased 10 16 13 x.coef) (nibbles-fit x.coef)

pub word-coef : (x : Number) (w : ℕ) → IsNumber x → w ≡ from_be_bytes w64 (packed x) → rebased 16 10 16 (w % 4503599627370496) ≡ x.coef
word-coef x w h e =
    ap (λ t. rebased 16 10 16 (t % 4503599627370496)) (e ∙ word-is x h)
    ∙ ap (rebased 16 10 16) (mod-mul-add (head x) 4503599627370496 (rebased 10 16 13 x.coef) (nibbles-fit x.coef) ∙ sym (thirteen-nibbles x.coef h.digits))
    ∙ rebased-back 16 x.coef (few x.coef h.digits)
  where
    few : (c : ℕ) → c < 10000000000000 → c < 10 ^ 16
    few c h = omega arith

-- Eight bytes are a packed number where their word is that of the number.
pub word-bytes : (bs ps : List ℕ) (w n : ℕ) → length bs ≡ 8 → ((i : ℕ) → get_or bs i 0 < 256) → n ≡ from_be_bytes w64 bs → to_be_bytes w64 w ≡ ps → w ≡ n → bs ≡ ps
word-bytes bs ps w n long small en ew e = sym (be_bytes_8 bs n long small en) ∙ ap (to_be_bytes w64) (sym e) ∙ ew

pub bytes-word : (bs ps : List ℕ) (w n : ℕ) → w < 2 ^ 64 → n ≡ from_be_bytes w64 bs → to_be_bytes w64 w ≡ ps → bs ≡ ps → w ≡ n
bytes-word bs ps w n fits en ew e =
    sym (from_be_bytes-to_be_bytes_8 w fits) ∙ ap (from_be_bytes w64) (ew ∙ sym e) ∙ sym en
