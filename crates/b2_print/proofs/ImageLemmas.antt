-- The parts of a field are within the text that it begins.
use Rattle.std.proofs.Common.{◌≡◌, ℕ, zero, suc, ◌+◌, ◌-◌, ◌<◌, ◌≤◌, ◌==◌, ◌||◌, Bool, true, false, cond, if◌then◌else◌, List, [], ◌∷◌, length, drop, refl, sym, ap, ◌∙◌, arith, length-drop, length-take, Some, None}
use Rattle.std.specs.List.{prefix_len, take_while}
use Rattle.std.specs.Option.{IfSome}
use Rattle.std.proofs.lemmas.List.Sums.{prefix_len-le-length}
use Rattle.b2_base.specs.Byte as byte
use Rattle.b2_base.specs.Lexical.{first}
use Rattle.b2_dectext.specs.declared.field_parts.Sign.{Sign}
use Rattle.b2_dectext.specs.declared.field_parts.Sign.TheVariants.{Unsigned, Always, Negative}
use Rattle.b2_dectext.specs.FieldParts.{sign_bytes, is_hash, leading_sign, after_sign}
use Rattle.b2_print.specs.Images.{Field, dollar_bytes, point_width, field_width, is_place, after_dollar, decimals_of, with_places, field_at, literal, field, piece_of, width_after_first, further_pieces, pieces_of}

point-within_if : (test : Bool) (ds : List ℕ) (n : ℕ) → (test ≡ true → suc (length ds) ≡ n) → point_width (if test then prefix_len is_hash ds else 0) ≤ n
point-within_if false ds n h = omega arith
point-within_if true ds n h = point_of (prefix_len is_hash ds) (length ds) n (prefix_len-le-length is_hash ds) (h refl)
  where
    point_of : (p d n : ℕ) → p ≤ d → suc d ≡ n → point_width p ≤ n
    point_of zero d n le e = omega arith
    point_of (suc p) d n le e = omega arith

pub point-within : (text : List ℕ) → point_width (decimals_of text) ≤ length text
point-within [] = omega arith
point-within (b ∷ bs) = point-within_if (b == 46) bs (suc (length bs)) (λ _. refl)

pub sign-within : (text : List ℕ) → length (sign_bytes (leading_sign text)) + length (after_sign text) ≡ length text
sign-within [] = refl
sign-within (b ∷ bs) = by_tests (b == 43) (b == 45)
  where
    by_tests : (p m : Bool) → (let s = (if p then Always else (if m then Negative else Unsigned)) in length (sign_bytes s) + length (drop (length (sign_bytes s)) (b ∷ bs)) ≡ suc (length bs))
    by_tests true m = omega arith
    by_tests false true = omega arith
    by_tests false false = omega arith

pub dollar-within : (text : List ℕ) → length (dollar_bytes (first text == byte.dollar)) + length (after_dollar text) ≡ length text
dollar-within [] = refl
dollar-within (b ∷ bs) = by_test (b == 36)
  where
    by_test : (p : Bool) → length (dollar_bytes p) + length (drop (length (dollar_bytes p)) (b ∷ bs)) ≡ suc (length bs)
    by_test true = omega arith
    by_test false = omega arith

places-within : (sign : Sign) (dollar : Bool) (text : List ℕ) (test : Bool) →
    IfSome (if test then Some (record { sign = sign; dollar = dollar; whole = take_while is_place text; decimals = decimals_of (drop (prefix_len is_place text) text) }) else None)
    (λ f. field_width f ≤ length (sign_bytes sign) + length (dollar_bytes dollar) + length text)
places-within sign dollar text false = tt
places-within sign dollar text true =
    let n = prefix_len is_place text in
    omega (arith, point-within (drop n text), length-drop n text, length-take n text, prefix_len-le-length is_place text)

pub field-within : (text : List ℕ) → IfSome (field_at text) (λ f. field_width f ≤ length text)
unfolding field_at
field-within text =
    let body = after_dollar (after_sign text) in
    let all : length (sign_bytes (leading_sign text)) + length (dollar_bytes (first (after_sign text) == byte.dollar)) + length body ≡ length text =
    omega (arith, sign-within text, dollar-within (after_sign text)) in
    rw all at (places-within (leading_sign text) (first (after_sign text) == byte.dollar) body (first body == byte.number_sign))

places-some : (sign : Sign) (dollar : Bool) (c : ℕ) (cs : List ℕ) (test : Bool) → (c == 35) ≡ test →
    IfSome (if test then Some (record { sign = sign; dollar = dollar; whole = take_while is_place (c ∷ cs); decimals = decimals_of (drop (prefix_len is_place (c ∷ cs)) (c ∷ cs)) }) else None)
    (λ f. 0 < field_width f)
places-some sign dollar c cs false e = tt
places-some sign dollar c cs true e =
    let first : is_place c ≡ true = ap (λ t. t || (c == 44)) e in
    let more : prefix_len is_place (c ∷ cs) ≡ 1 + prefix_len is_place cs = ap (λ t. cond t (1 + prefix_len is_place cs) 0) first in
    omega (arith, more, length-take (prefix_len is_place (c ∷ cs)) (c ∷ cs))

with_places-some : (sign : Sign) (dollar : Bool) (text : List ℕ) → IfSome (with_places sign dollar text) (λ f. 0 < field_width f)
with_places-some sign dollar [] = tt
with_places-some sign dollar (c ∷ cs) = places-some sign dollar c cs (c == 35) refl

pub field-some : (text : List ℕ) → IfSome (field_at text) (λ f. 0 < field_width f)
unfolding field_at
field-some text = with_places-some (leading_sign text) (first (after_sign text) == byte.dollar) (after_dollar (after_sign text))

-- the pieces after some bytes are those of the rest
pub further_pieces-drop : (n : ℕ) (text : List ℕ) → further_pieces n text ≡ pieces_of (drop n text)
unfolding further_pieces
further_pieces-drop zero text = refl
further_pieces-drop (suc n) [] = refl
further_pieces-drop (suc n) (b ∷ bs) = further_pieces-drop n bs

pub pieces_of-nil : pieces_of [] ≡ []
unfolding further_pieces
pieces_of-nil = refl

pieces_of-cons : (b : ℕ) (bs : List ℕ) → pieces_of (b ∷ bs) ≡ piece_of b (field_at (b ∷ bs)) ∷ further_pieces (width_after_first (field_at (b ∷ bs))) bs
unfolding further_pieces
pieces_of-cons b bs = refl

-- a byte outside fields, and the pieces of the rest
pub pieces_of-literal : (b : ℕ) (bs : List ℕ) → field_at (b ∷ bs) ≡ None → pieces_of (b ∷ bs) ≡ literal b ∷ pieces_of bs
pieces_of-literal b bs e = pieces_of-cons b bs ∙ ap (λ o. piece_of b o ∷ further_pieces (width_after_first o) bs) e ∙ ap (λ ps. literal b ∷ ps) (further_pieces-drop 0 bs)

pub drop-first : (n : ℕ) (b : ℕ) (bs : List ℕ) → 0 < n → drop n (b ∷ bs) ≡ drop (n - 1) bs
drop-first zero b bs h = absurd (omega arith)
drop-first (suc n) b bs h =
    let less : suc n - 1 ≡ n = omega arith in
    ap (λ k. drop k bs) (sym less)

-- a field, and the pieces of what follows it
pub pieces_of-field : (b : ℕ) (bs : List ℕ) (f : Field) → field_at (b ∷ bs) ≡ Some f → pieces_of (b ∷ bs) ≡ field f ∷ pieces_of (drop (field_width f) (b ∷ bs))
pieces_of-field b bs f e =
    let some : 0 < field_width f = rw e at (field-some (b ∷ bs)) in
    pieces_of-cons b bs ∙ ap (λ o. piece_of b o ∷ further_pieces (width_after_first o) bs) e
    ∙ ap (λ ps. field f ∷ ps) (further_pieces-drop (field_width f - 1) bs ∙ ap pieces_of (sym (drop-first (field_width f) b bs some)))
