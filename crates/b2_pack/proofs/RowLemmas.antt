-- The nibbles and bytes of a row by their places.
use Rattle.std.proofs.Common.{◌≡◌, ◌&&◌, nat_le, ℕ, zero, suc, ◌+◌, ◌*◌, ◌/◌, Bool, true, false, List, [], ◌∷◌, ◌++◌, length, get_or, take, drop, sym, ap, ap₂, ◌∙◌, refl, arith, length-append, if◌then◌else◌}
use Rattle.b2_dec.specs.Number.{Number}
use Rattle.b2_pack.specs.declared.rows.SignNibble.{SignNibble}
use Rattle.b2_pack.specs.declared.rows.SignNibble.TheVariants.{Absent, Before, After}
use Rattle.b2_pack.specs.declared.rows.Row.{Row}
use Rattle.std.specs.List.{list_all}
use Rattle.b2_base.specs.Lexical.{first}
use Rattle.b2_pack.specs.Nibbles.{last_digits, is_decimal_nibble}
use Rattle.b2_pack.specs.Rows.{sign_before, sign_after, row_nibbles, row_bytes, row_length, nibble_count, cut_size, are_digits, digits_start}
use Rattle.b2_pack.proofs.NibbleLemmas.{last_digits-length, paired-at, paired-length, all_taken, all_dropped}

last_at : (ds : List ℕ) (s k : ℕ) → k ≡ length ds → get_or (ds ++ s ∷ []) k 0 ≡ s
last_at [] s zero e = refl
last_at [] s (suc k) e = absurd (omega arith)
last_at (d ∷ ds) s zero e = absurd (omega arith)
last_at (d ∷ ds) s (suc k) e = last_at ds s k (omega arith)

not_last : (ds : List ℕ) (s k : ℕ) → (k ≡ length ds → ⊥) → get_or (ds ++ s ∷ []) k 0 ≡ get_or ds k 0
not_last [] s zero e = absurd (e refl)
not_last [] s (suc k) e = refl
not_last (d ∷ ds) s zero e = refl
not_last (d ∷ ds) s (suc k) e = not_last ds s k (λ same. e (omega (arith, same)))

sign_nibble : Bool → ℕ
sign_nibble true = 13
sign_nibble false = 12

-- the sign after the digits
pub sign-at : (row : Row) (x : Number) (place sign : ℕ) → row.sign ≡ After → place ≡ row.digits → sign_after After x.neg ≡ sign ∷ []
    → sign ≡ get_or (row_nibbles row x) place 0
sign-at row x place sign after e shown =
    let ds : List ℕ = last_digits row.digits (cut_size row.decimals x) in
    rw (after, shown) (sym (last_at ds sign place (e ∙ sym (last_digits-length row.digits (cut_size row.decimals x)))))

pub digit-beside : (row : Row) (x : Number) (place : ℕ) → row.sign ≡ After → (place ≡ row.digits → ⊥)
    → get_or (last_digits row.digits (cut_size row.decimals x)) place 0 ≡ get_or (row_nibbles row x) place 0
digit-beside row x place after e =
    let ds : List ℕ = last_digits row.digits (cut_size row.decimals x) in
    rw after (sym (not_last ds _ place (λ same. e (same ∙ last_digits-length row.digits (cut_size row.decimals x)))))

count : (s : SignNibble) (n : ℕ) (neg : Bool) (ds : List ℕ) → length ds ≡ n → length (sign_before s neg ++ (ds ++ sign_after s neg)) ≡ nibble_count s n
count Absent n neg ds e = omega (arith, length-append ds [], e)
count Before n neg ds e = omega (arith, length-append ds [], e)
count After n neg ds e = omega (arith, length-append ds ((if neg then 13 else 12) ∷ []), e)

pub row_bytes-length : (row : Row) (x : Number) → length (row_bytes row x) ≡ row_length row
row_bytes-length row x =
    paired-length (row_nibbles row x)
    ∙ ap (λ n. (n + 1) / 2) (count row.sign row.digits x.neg (last_digits row.digits (cut_size row.decimals x)) (last_digits-length row.digits (cut_size row.decimals x)))

pub row_byte : (row : Row) (x : Number) (i high low : ℕ) → high ≡ get_or (row_nibbles row x) (2 * i) 0 → low ≡ get_or (row_nibbles row x) (2 * i + 1) 0
    → 16 * high + low ≡ get_or (row_bytes row x) i 0
row_byte row x i high low h l = ap₂ (λ a b. 16 * a + b) h l ∙ sym (paired-at (row_nibbles row x) i)

second_true : (a b : Bool) → (a && b) ≡ true → b ≡ true
second_true true b e = e
second_true false b e = absurd (cc)

-- the digits of a row are digits
pub decimal-digits : (s : SignNibble) (n : ℕ) (ns : List ℕ) → are_digits s n ns ≡ true → list_all is_decimal_nibble (take n (drop (digits_start s) ns)) ≡ true
decimal-digits Absent n ns all = all_taken is_decimal_nibble n (drop 0 ns) (all_dropped is_decimal_nibble 0 ns all)
decimal-digits Before n ns all = all_taken is_decimal_nibble n (drop 1 ns) (all_dropped is_decimal_nibble 1 ns (second_true (nat_le (first ns) 1) (list_all is_decimal_nibble ns) all))
decimal-digits After n ns all = all
