-- Texts without control codes, and where they lead.
use Rattle.std.proofs.Common.{◌≡◌, ℕ, zero, suc, ◌+◌, ◌-◌, ◌/◌, ◌%◌, ◌<◌, ◌≤◌, min, replicate, ◌==◌, ◌&&◌, ◌||◌, nat_lt, nat_le, Bool, true, false, not, if◌then◌else◌, List, [], ◌∷◌, ◌++◌, length, take, drop, refl, sym, ap, ◌∙◌, arith, ne_eqb, le-leb, inl, inr}
use Rattle.std.specs.List.{list_all, flat_map}
use Rattle.std.proofs.lemmas.Bool.{le-ltb, lt-ltb, leb-true, cases_lt}
use Rattle.std.proofs.lemmas.List.Folds.{list_all-append}
use Rattle.b2_base.specs.Lexical.{hex_digit, hex_pair}
use Rattle.b2_dec.specs.Number.{Number}
use Rattle.b2_dectext.specs.Digits.{digit_byte, digit_bytes, without_last_zeros}
use Rattle.b2_dectext.specs.Printed.{printed, shown_size, with_point, after_point, nine_digits, exponent_shown, sign_shown, is_fixed}
use Rattle.b2_print.specs.Columns.{next_column, column_after, passes, placed}
use Rattle.b2_print.proofs.ColumnLemmas.{both}

abbrev pub is_plain : ℕ → Bool
is_plain b = nat_le 32 b

plain-append : (xs ys : List ℕ) → list_all is_plain xs ≡ true → list_all is_plain ys ≡ true → list_all is_plain (xs ++ ys) ≡ true
plain-append xs ys h k = list_all-append is_plain xs ys ∙ ap (λ t. t && list_all is_plain ys) h ∙ k

plain-byte : (b : ℕ) → 32 ≤ b → is_plain b ≡ true
plain-byte b h = le-leb 32 b h

plain-cons : (b : ℕ) (bs : List ℕ) → 32 ≤ b → list_all is_plain bs ≡ true → list_all is_plain (b ∷ bs) ≡ true
plain-cons b bs h k = ap (λ t. t && list_all is_plain bs) (plain-byte b h) ∙ k

pub plain-blanks : (n : ℕ) → list_all is_plain (replicate n 32) ≡ true
plain-blanks zero = refl
plain-blanks (suc n) = plain-blanks n

plain-take : (n : ℕ) (xs : List ℕ) → list_all is_plain xs ≡ true → list_all is_plain (take n xs) ≡ true
plain-take zero xs h = refl
plain-take (suc n) [] h = refl
plain-take (suc n) (x ∷ xs) h =
    let parts = both (is_plain x) (list_all is_plain xs) h in
    ap (λ t. t && list_all is_plain (take n xs)) parts.0 ∙ plain-take n xs parts.1

plain-drop : (n : ℕ) (xs : List ℕ) → list_all is_plain xs ≡ true → list_all is_plain (drop n xs) ≡ true
plain-drop zero xs h = h
plain-drop (suc n) [] h = refl
plain-drop (suc n) (x ∷ xs) h = plain-drop n xs (both (is_plain x) (list_all is_plain xs) h).1

-- the printed form of a number
plain-digits : (k n : ℕ) → list_all is_plain (digit_bytes k n) ≡ true
unfolding digit_bytes
plain-digits zero n = refl
plain-digits (suc k) n = plain-cons (digit_byte k n) (digit_bytes k n) (omega arith) (plain-digits k n)

plain-after_point : (ds : List ℕ) → list_all is_plain ds ≡ true → list_all is_plain (after_point ds) ≡ true
plain-after_point [] h = refl
plain-after_point (d ∷ ds) h = h

plain-with_point : (n : ℕ) (ds : List ℕ) → list_all is_plain ds ≡ true → list_all is_plain (with_point n ds) ≡ true
unfolding with_point
plain-with_point n ds h =
    plain-append (take n ds) (after_point (without_last_zeros (drop n ds))) (plain-take n ds h)
    (plain-after_point (without_last_zeros (drop n ds)) (plain-take _ (drop n ds) (plain-drop n ds h)))

plain-nine : (ds : List ℕ) → list_all is_plain ds ≡ true → list_all is_plain (nine_digits ds) ≡ true
unfolding nine_digits
plain-nine ds h = plain-append (take 1 ds) (46 ∷ take 8 (drop 1 ds)) (plain-take 1 ds h) (plain-take 8 (drop 1 ds) (plain-drop 1 ds h))

plain-if : (b : Bool) (xs ys : List ℕ) → list_all is_plain xs ≡ true → list_all is_plain ys ≡ true → list_all is_plain (if b then xs else ys) ≡ true
plain-if true xs ys h k = h
plain-if false xs ys h k = k

plain-exponent : (place : ℕ) → list_all is_plain (exponent_shown place) ≡ true
unfolding exponent_shown
plain-exponent place = plain-if (nat_lt place 99) (69 ∷ 45 ∷ digit_bytes 2 (99 - place)) (69 ∷ 43 ∷ digit_bytes 2 (place - 99)) (plain-digits 2 (99 - place)) (plain-digits 2 (place - 99))

plain-size : (x : Number) → list_all is_plain (shown_size x) ≡ true
unfolding shown_size
plain-size x =
    let digits = plain-digits 13 x.coef in
    plain-if (x.coef == 0) (48 ∷ []) _ refl
    (plain-if (is_fixed x.place) (with_point (x.place - 98) (digit_bytes 13 x.coef)) (nine_digits (digit_bytes 13 x.coef) ++ exponent_shown x.place)
    (plain-with_point (x.place - 98) (digit_bytes 13 x.coef) digits)
    (plain-append (nine_digits (digit_bytes 13 x.coef)) (exponent_shown x.place) (plain-nine (digit_bytes 13 x.coef) digits) (plain-exponent x.place)))

plain-sign : (neg : Bool) → list_all is_plain (sign_shown neg ∷ []) ≡ true
plain-sign true = refl
plain-sign false = refl

pub plain-printed : (x : Number) → list_all is_plain (printed x) ≡ true
unfolding printed
plain-printed x = plain-append (sign_shown x.neg ∷ []) (shown_size x ++ 32 ∷ []) (plain-sign x.neg) (plain-append (shown_size x) (32 ∷ []) (plain-size x) refl)

-- hexadecimal digits
plain-hex_digit : (t : Bool) (n : ℕ) → 32 ≤ (if t then 48 + n else 65 + (n - 10))
plain-hex_digit true n = omega arith
plain-hex_digit false n = omega arith

pub plain-hex : (bytes : List ℕ) → list_all is_plain (flat_map hex_pair bytes) ≡ true
plain-hex [] = refl
plain-hex (b ∷ bs) =
    plain-cons (hex_digit (b / 16)) (hex_digit (b % 16) ∷ flat_map hex_pair bs) (plain-hex_digit (nat_lt (b / 16) 10) (b / 16))
    (plain-cons (hex_digit (b % 16)) (flat_map hex_pair bs) (plain-hex_digit (nat_lt (b % 16) 10) (b % 16)) (plain-hex bs))

-- a byte of them leads to the next column
plain-next : (column b : ℕ) → is_plain b ≡ true → next_column column b ≡ min (column + 1) 65535
plain-next column b h =
    let shown : 32 ≤ b = leb-true 32 b h in
    rw (ne_eqb b 10 (λ e. absurd (omega (arith, e, shown))), ne_eqb b 13 (λ e. absurd (omega (arith, e, shown))), le-ltb b 32 shown) refl

pub plain-after : (column : ℕ) (text : List ℕ) → column ≤ 65535 → list_all is_plain text ≡ true → column_after column text ≡ min (column + length text) 65535
plain-after column [] h p = omega (arith, h)
plain-after column (b ∷ bs) h p =
    let parts = both (is_plain b) (list_all is_plain bs) p in
    let next : ℕ = min (column + 1) 65535 in
    ap (λ c. column_after c bs) (plain-next column b parts.0) ∙ plain-after next bs (omega arith) parts.1 ∙ omega arith

-- a text passes a width where its last column does
passed-later : (width first last : ℕ) → first ≤ last → (nat_lt width first || nat_lt width last) ≡ nat_lt width last
passed-later width first last h =
    elim (cases_lt width first) [
      | inl above ↦ ap (λ t. t || nat_lt width last) (lt-ltb width first above) ∙ sym (lt-ltb width last (omega (arith, above, h)))
      | inr within ↦ ap (λ t. t || nat_lt width last) (le-ltb width first within)
    ]

or-false : (b : Bool) → (b || false) ≡ b
or-false true = refl
or-false false = refl

plain-passes : (width column b : ℕ) (bs : List ℕ) → column ≤ 65535 → list_all is_plain (b ∷ bs) ≡ true → passes width column (b ∷ bs) ≡ nat_lt width (min (column + suc (length bs)) 65535)
plain-passes width column b [] h p =
    let parts = both (is_plain b) true p in
    or-false (nat_lt width (next_column column b)) ∙ ap (nat_lt width) (plain-next column b parts.0)
plain-passes width column b (d ∷ bs) h p =
    let parts = both (is_plain b) (list_all is_plain (d ∷ bs)) p in
    let next : ℕ = min (column + 1) 65535 in
    let last : ℕ = min (next + suc (length bs)) 65535 in
    let same : last ≡ min (column + suc (suc (length bs))) 65535 = omega arith in
    ap (λ c. nat_lt width c || passes width c (d ∷ bs)) (plain-next column b parts.0)
    ∙ ap (λ t. nat_lt width next || t) (plain-passes width next d bs (omega arith) parts.1)
    ∙ passed-later width next last (omega arith)
    ∙ ap (nat_lt width) same

pub some-passes : (width column : ℕ) (text : List ℕ) → column ≤ 65535 → 0 < length text → list_all is_plain text ≡ true → passes width column text ≡ nat_lt width (min (column + length text) 65535)
some-passes width column [] h some p = absurd (omega (arith, some))
some-passes width column (b ∷ bs) h some p = plain-passes width column b bs h p

-- such a text at its place, by the column after it
pub plain-placed : (width column after : ℕ) (text : List ℕ) (line : Bool) → column ≤ 65535 → 0 < length text → list_all is_plain text ≡ true
    → after ≡ min (column + length text) 65535 → line ≡ (not (column == 0) && nat_lt width after)
    → placed width column (λ c. text) ≡ (if line then 10 ∷ text else text)
plain-placed width column after text line h some p last begins =
    ap (λ t. if not (column == 0) && t then 10 ∷ text else text) (some-passes width column text h some p ∙ ap (nat_lt width) (sym last))
    ∙ ap (λ t. if t then 10 ∷ text else text) (sym begins)

pub plain-column : (column after : ℕ) (text : List ℕ) (line : Bool) → column ≤ 65535 → list_all is_plain text ≡ true → length text ≤ 65535
    → after ≡ min (column + length text) 65535 → column_after column (if line then 10 ∷ text else text) ≡ (if line then length text else after)
plain-column column after text true h p few last = plain-after 0 text (omega arith) p ∙ omega (arith, few)
plain-column column after text false h p few last = plain-after column text h p ∙ sym last

pub some-printed : (x : Number) → 0 < length (printed x)
unfolding printed
some-printed x = omega arith
