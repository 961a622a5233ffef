-- The texts of a field, byte by byte.
use Rattle.std.proofs.Common.{◌≡◌, ℕ, zero, suc, ◌+◌, ◌-◌, ◌<◌, ◌≤◌, ◌==◌, Bool, true, false, cond, if◌then◌else◌, List, [], ◌∷◌, ◌++◌, length, take, drop, replicate, set, get_or, refl, ap, ◌∙◌, arith, eq-eqb, ne_eqb, length-append, length-take}
use Rattle.std.proofs.lemmas.List.{drop_more, drop-set, length-replicate}
use Rattle.std.proofs.lemmas.List.Sums.{sum_by-cons}
use Rattle.b2_dec.specs.Number.{Number}
use Rattle.b2_dec.specs.declared.values.Value.{Value}
use Rattle.b2_dec.specs.declared.values.Value.TheVariants as value
use Rattle.b2_dectext.specs.declared.field_parts.Sign.{Sign}
use Rattle.b2_dectext.specs.declared.field_parts.Sign.TheVariants.{Unsigned, Always, Negative}
use Rattle.b2_dectext.specs.FieldParts.{is_hash, sign_bytes}
use Rattle.b2_print.specs.Images.{Field, field_width, point_width, dollar_bytes}
use Rattle.b2_dectext.specs.FieldParts.{right_aligned}
use Rattle.b2_print.specs.Filling.{has_digit, place_byte, hash_count, whole_text, digits_from, point_filled, sign_filled, number_text, fits, filled}

pub point_width-some : (n : ℕ) → (n ≡ 0 → ⊥) → point_width n ≡ n + 1
point_width-some zero h = absurd (h refl)
point_width-some (suc n) h = omega arith

pub point_filled-some : (x : Number) (n : ℕ) → (n ≡ 0 → ⊥) → point_filled x n ≡ 46 ∷ digits_from x 1 n
point_filled-some x zero h = absurd (h refl)
point_filled-some x (suc n) h = refl

pub length-digits_from : (x : Number) (k n : ℕ) → length (digits_from x k n) ≡ n
length-digits_from x k zero = refl
length-digits_from x k (suc n) = ap (λ (t : ℕ). suc t) (length-digits_from x (k + 1) n)

pub length-point_text : (x : Number) (n : ℕ) → length (point_filled x n) ≡ point_width n
length-point_text x zero = refl
length-point_text x (suc n) = ap (λ (t : ℕ). suc t) (length-digits_from x 1 (suc n)) ∙ omega arith

pub length-sign_text : (sign : Sign) (neg : Bool) → length (sign_filled sign neg) ≡ length (sign_bytes sign)
length-sign_text Unsigned neg = refl
length-sign_text Always neg = refl
length-sign_text Negative neg = refl

pub whole_text-shown : (x : Number) (c : ℕ) (cs : List ℕ) (k : ℕ) → hash_count cs ≡ k → has_digit x k ≡ true → whole_text x (c ∷ cs) ≡ place_byte x k c ∷ whole_text x cs
whole_text-shown x c cs k e shows = rw (e, shows) refl

pub whole_text-skipped : (x : Number) (c : ℕ) (cs : List ℕ) (k : ℕ) → hash_count cs ≡ k → has_digit x k ≡ false → whole_text x (c ∷ cs) ≡ whole_text x cs
whole_text-skipped x c cs k e skips = rw (e, skips) refl

pub hash_count-cons : (c : ℕ) (cs : List ℕ) → hash_count (c ∷ cs) ≡ cond (c == 35) 1 0 + hash_count cs
hash_count-cons c cs = sum_by-cons (λ x. cond (is_hash x) 1 0) c cs

pub hash_count-mark : (c : ℕ) (cs : List ℕ) → c ≡ 35 → hash_count (c ∷ cs) ≡ hash_count cs + 1
hash_count-mark c cs e = hash_count-cons c cs ∙ rw (eq-eqb c 35 e) (omega arith)

pub hash_count-other : (c : ℕ) (cs : List ℕ) → (c ≡ 35 → ⊥) → hash_count (c ∷ cs) ≡ hash_count cs
hash_count-other c cs ne = hash_count-cons c cs ∙ rw (ne_eqb c 35 ne) (omega arith)

-- the places from one to the left on
pub one_more : (xs : List ℕ) (done : ℕ) → done < length xs → drop (length xs - (done + 1)) xs ≡ get_or xs (length xs - 1 - done) 0 ∷ drop (length xs - done) xs
one_more xs done h =
    let i = length xs - (done + 1) in
    let same : length xs - 1 - done ≡ i = omega arith in
    let next : i + 1 ≡ length xs - done = omega arith in
    drop_more xs i 0 (omega arith) ∙ rw (same, next) refl

-- one more byte in front of a text
pub put_before : (xs : List ℕ) (start b : ℕ) → 0 < start → start ≤ length xs → drop (start - 1) (set xs (start - 1) b) ≡ b ∷ drop start xs
put_before xs start b some within =
    let next : start - 1 + 1 ≡ start = omega arith in
    drop-set xs (start - 1) b (omega arith) ∙ ap (λ n. b ∷ drop n xs) next

length-shown_if : (b : Bool) (t : ℕ) (shown : List ℕ) (n : ℕ) → length shown ≤ n → length (if b then t ∷ shown else shown) ≤ suc n
length-shown_if true t shown n h = omega arith
length-shown_if false t shown n h = omega arith

pub length-whole_text : (x : Number) (places : List ℕ) → length (whole_text x places) ≤ length places
length-whole_text x [] = omega arith
length-whole_text x (c ∷ cs) = length-shown_if (has_digit x (hash_count cs)) (place_byte x (hash_count cs) c) (whole_text x cs) (length cs) (length-whole_text x cs)

pub length-number_text : (f : Field) (x : Number) → length (number_text f x) ≤ field_width f
length-number_text f x =
    let s = sign_filled f.sign x.neg in
    let d = dollar_bytes f.dollar in
    let w = whole_text x f.whole in
    let p = point_filled x f.decimals in
    omega (arith, length-append (s ++ d ++ w) p, length-append (s ++ d) w, length-append s d, length-sign_text f.sign x.neg, length-whole_text x f.whole, length-point_text x f.decimals)

length-number_if : (b : Bool) (width : ℕ) (text : List ℕ) → length text ≤ width → length (if b then right_aligned width text else replicate width 35) ≡ width
length-number_if true width text h = omega (arith, length-append (replicate (width - length text) 32) text, length-replicate {A = ℕ} (width - length text) 32)
length-number_if false width text h = length-replicate {A = ℕ} width 35

pub length-filled : (f : Field) (v : Value) → length (filled f v) ≡ field_width f
length-filled f (value.Number x) = length-number_if (fits f x) (field_width f) (number_text f x) (length-number_text f x)
length-filled f (value.Alpha a) =
    omega (arith, length-append (take (field_width f) a) (replicate (field_width f - length a) 32), length-take (field_width f) a, length-replicate {A = ℕ} (field_width f - length a) 32)
