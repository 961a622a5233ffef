-- After packing each value stands in its field, and every other byte is as it was.
use Rattle.std.proofs.Common.{◌≡◌, ℕ, zero, suc, ◌+◌, ◌-◌, ◌<◌, ◌≤◌, ◌==◌, ◌&&◌, ◌||◌, nat_le, nat_lt, Bool, true, false, List, [], ◌∷◌, ◌++◌, length, take, drop, get_or, replicate, Option, Some, None, sym, ap, subst, ◌∙◌, refl, arith, inl, inr, ◌⊎◌, le-leb, lt-ltb, leb-true, length-append, length-drop, eq-eqb, if◌then◌else◌}
use Rattle.std.proofs.lemmas.Bool.{cases_lt, cases_Bool}
use Rattle.std.proofs.lemmas.List.{take_at, drop_at, length-take, length-take-le, get_or-take, get_or-drop, get_or_append_left, get_or-append_right, length-replicate, same_lists}
use Rattle.std.proofs.lemmas.Grind.{get_or_default_zero}
use borrow.Author.Tests.{ltb-true}
use Rattle.b2_base.specs.Byte as byte
use Rattle.b2_dec.specs.declared.values.Value.{Value}
use Rattle.b2_dec.specs.declared.values.Value.TheVariants as value
use Rattle.b2_dec.specs.Packing.{pairs}
use Rattle.b2_dectext.specs.Printed.{without_spaces}
use Rattle.b2_pack.specs.declared.specification.TheConstants.{SKIP, TEXT, DIGITS, PACKED, ALPHA}
use Rattle.b2_pack.specs.declared.specification.Field.{Field}
use Rattle.b2_pack.specs.declared.specification.Field.TheVariants as field
use Rattle.b2_pack.specs.declared.specification.Pair.{Pair}
use Rattle.b2_pack.specs.declared.specification.Pair.TheVariants as pair
use Rattle.b2_pack.specs.Specification.{pair_meant, ends_pairs, before_pairs, specified_pairs, field_length, digits_row}
use Rattle.b2_pack.specs.FieldValues.{value_code, bytes_in_field}
use Rattle.b2_pack.specs.Packing.{Placed, placed_from, placed_fields, written_at, values_code, with_values}
use Rattle.b2_pack.specs.Laws.{Holds, is_covered, Packs}
use Rattle.b2_pack.proofs.RowLemmas.{row_bytes-length}
use Rattle.b2_pack.proofs.PackingLemmas.{code-here, code-fits, code-after}

-- each field has at least one byte
abbrev HasWidth : Pair → Type 0
HasWidth (pair.Skip width) = Unit {0}
HasWidth (pair.Holding f) = 1 ≤ field_length f

abbrev HasWidths : List Pair → Type 0
HasWidths [] = Unit {0}
HasWidths (p ∷ ps) = HasWidth p × HasWidths ps

abbrev MayHaveWidth : Option Pair → Type 0
MayHaveWidth None = Unit {0}
MayHaveWidth (Some p) = HasWidth p

either : (b : Bool) (x y : Option Pair) → MayHaveWidth x → MayHaveWidth y → MayHaveWidth (if b then x else y)
either true x y a b = a
either false x y a b = b

pub some_width : (w : ℕ) → (w == 0) ≡ false → 1 ≤ w
some_width w e =
    elim (cases_lt 0 w) [
      | inl some ↦ omega arith
      | inr none ↦ absurd (wrong (eq-eqb w 0 (omega arith)))
    ]
  where
    wrong : (w == 0) ≡ true → ⊥
    wrong same = cc

pair_width : (k w : ℕ) → MayHaveWidth (pair_meant k w)
pair_width k w =
    elim (cases_Bool (w == 0)) [
      | inl none ↦ rw none tt
      | inr some ↦
          let width : 1 ≤ w = some_width w some in
          rw some
          (either (k == SKIP) _ _ tt (either (k == TEXT) _ _ width (either (nat_le DIGITS k && nat_le k (DIGITS + 9)) _ _ width (either ((k == PACKED) && (w == 8)) _ _ (omega arith) (either (k == ALPHA) _ None width tt)))))
    ]

widths-before : (p : Option Pair) (ps : List Pair) → MayHaveWidth p → HasWidths ps → HasWidths (before_pairs p ps)
widths-before None ps a b = tt
widths-before (Some p) ps a b = (a, b)

widths-if : (b : Bool) (ps : List Pair) → HasWidths ps → HasWidths (if b then [] else ps)
widths-if true ps h = tt
widths-if false ps h = h

pairs_widths : (text : List ℕ) → HasWidths (specified_pairs text)
pairs_widths [] = tt
pairs_widths (b ∷ []) = tt
pairs_widths (k ∷ w ∷ rest) = widths-if (ends_pairs k w) (before_pairs (pair_meant k w) (specified_pairs rest)) (widths-before (pair_meant k w) (specified_pairs rest) (pair_width k w) (pairs_widths rest))

pub never : (n : ℕ) → Some n ≡ None → ⊥
never n e = cc

pub fits-if : (b : Bool) (code : ℕ) → (if b then None else Some code) ≡ None → b ≡ true
fits-if true code e = refl
fits-if false code e = absurd (never code e)

pairs-length : (k n : ℕ) → length (pairs k n) ≡ k
pairs-length zero n = refl
pairs-length (suc k) n = ap suc (pairs-length k n)

value-width : (f : Field) (v : Value) → 1 ≤ field_length f → value_code f v ≡ None → length (bytes_in_field f v) ≡ field_length f
value-width (field.Text w) (value.Number x) least none =
    let fits : length (without_spaces x) ≤ w = leb-true (length (without_spaces x)) w (fits-if (nat_le (length (without_spaces x)) w) 71 none) in
    omega (arith, length-append (replicate (w - length (without_spaces x)) byte.blank) (without_spaces x), length-replicate (w - length (without_spaces x)) byte.blank)
value-width (field.Text w) (value.Alpha a) least none = absurd (never 74 none)
value-width (field.Digits d w) (value.Number x) least none = row_bytes-length (digits_row d w) x ∙ omega arith
value-width (field.Digits d w) (value.Alpha a) least none = absurd (never 74 none)
value-width field.Packed (value.Number x) least none = refl
value-width field.Packed (value.Alpha a) least none = absurd (never 74 none)
value-width (field.Alpha w) (value.Number x) least none = absurd (never 74 none)
value-width (field.Alpha w) (value.Alpha a) least none =
    omega (arith, length-append (take w a) (replicate (w - length a) byte.blank), length-replicate (w - length a) byte.blank, length-take w a)

written-length : (start : ℕ) (bytes buffer : List ℕ) → start + length bytes ≤ length buffer → length (written_at start bytes buffer) ≡ length buffer
written-length start bytes buffer inside =
    omega (arith, length-append (take start buffer) (bytes ++ drop (start + length bytes) buffer), length-append bytes (drop (start + length bytes) buffer), length-take start buffer, length-drop (start + length bytes) buffer)

written-here : (start : ℕ) (bytes buffer : List ℕ) → start + length bytes ≤ length buffer → take (length bytes) (drop start (written_at start bytes buffer)) ≡ bytes
written-here start bytes buffer inside =
    ap (take (length bytes)) (drop_at (take start buffer) (bytes ++ drop (start + length bytes) buffer) start (length-take-le start buffer (omega arith)))
    ∙ take_at bytes (drop (start + length bytes) buffer) (length bytes) refl

written-other : (start : ℕ) (bytes buffer : List ℕ) (k : ℕ) → start + length bytes ≤ length buffer → (k < start) ⊎ (start + length bytes ≤ k)
    → get_or (written_at start bytes buffer) k 0 ≡ get_or buffer k 0
written-other start bytes buffer k inside (inl below) =
    get_or_append_left (take start buffer) (bytes ++ drop (start + length bytes) buffer) 0 k (omega (arith, length-take-le start buffer (omega arith)))
    ∙ get_or-take start buffer k 0 below
written-other start bytes buffer k inside (inr above) =
    get_or-append_right (take start buffer) (bytes ++ drop (start + length bytes) buffer) start k 0 (length-take-le start buffer (omega arith)) (omega arith)
    ∙ get_or-append_right bytes (drop (start + length bytes) buffer) (length bytes) (k - start) 0 refl (omega arith)
    ∙ get_or-drop (start + length bytes) buffer (k - start - length bytes) 0
    ∙ ap (λ i. get_or buffer i 0) (let e : start + length bytes + (k - start - length bytes) ≡ k = omega arith in e)

-- lists that are the same up to a place have the same parts there
part-same : (at w : ℕ) (xs ys : List ℕ) → length xs ≡ length ys → at + w ≤ length xs → ((k : ℕ) → k < at + w → get_or xs k 0 ≡ get_or ys k 0)
    → take w (drop at xs) ≡ take w (drop at ys)
part-same at w xs ys long inside same =
    let left : length (take w (drop at xs)) ≡ w = omega (arith, length-take w (drop at xs), length-drop at xs) in
    let right : length (take w (drop at ys)) ≡ w = omega (arith, length-take w (drop at ys), length-drop at ys) in
    same_lists _ _ (left ∙ sym right) (λ k d below.
    let within : k < w = omega arith in
    let there : at + k < at + w = omega arith in
    let other : k < length (take w (drop at ys)) = omega arith in
    get_or_default_zero (take w (drop at xs)) k d below
    ∙ get_or-take w (drop at xs) k 0 within ∙ get_or-drop at xs k 0 ∙ same (at + k) there
    ∙ sym (get_or-take w (drop at ys) k 0 within ∙ get_or-drop at ys k 0) ∙ sym (get_or_default_zero (take w (drop at ys)) k d other))

-- what stands in a buffer after values were packed from a place on
record Stands (ps : List Pair) (at : ℕ) (vs : List Value) (old new : List ℕ) : Type 0 where
  long : length new ≡ length old
  before : (k : ℕ) → k < at → get_or new k 0 ≡ get_or old k 0
  each : Holds (placed_from at ps) vs new
  others : (k : ℕ) → is_covered (placed_from at ps) vs k ≡ false → get_or new k 0 ≡ get_or old k 0

pub inside-room : (p : Placed) (ps : List Placed) (v : Value) (vs : List Value) (room : ℕ) → values_code (p ∷ ps) (v ∷ vs) room ≡ None → p.start + field_length p.field ≤ room
inside-room p ps v vs room none =
    elim (cases_lt room (p.start + field_length p.field)) [
      | inl short ↦ absurd (never 70 (sym (rw (lt-ltb room (p.start + field_length p.field) short) refl) ∙ none))
      | inr inside ↦ inside
    ]

apart : (at w k : ℕ) (rest : Bool) → ((nat_le at k && nat_lt k (at + w)) || rest) ≡ false → ((k < at) ⊎ (at + w ≤ k)) × (rest ≡ false)
apart at w k rest e =
    elim (cases_lt k at) [
      | inl below ↦ (inl below, beside (nat_le at k && nat_lt k (at + w)) rest e)
      | inr above ↦ elim (cases_lt k (at + w)) [
        | inl within ↦ absurd (covered (le-leb at k above) (lt-ltb k (at + w) within))
        | inr past ↦ (inr past, beside (nat_le at k && nat_lt k (at + w)) rest e)
      ]
    ]
  where
    beside : (a b : Bool) → (a || b) ≡ false → b ≡ false
    beside true b h = absurd (cc)
    beside false b h = h

    covered : nat_le at k ≡ true → nat_lt k (at + w) ≡ true → ⊥
    covered low high = let t : ((nat_le at k && nat_lt k (at + w)) || rest) ≡ true = rw (low, high) refl in cc

stands : (ps : List Pair) (at : ℕ) (vs : List Value) (old : List ℕ) → HasWidths ps → values_code (placed_from at ps) vs (length old) ≡ None
    → Stands ps at vs old (with_values (placed_from at ps) vs old)
stands [] at [] old widths none = record { long = refl; before = λ k below. refl; each = tt; others = λ k free. refl }
stands [] at (v ∷ vs) old widths none = absurd (never 70 none)
stands (pair.Skip w ∷ ps) at vs old widths none =
    let h = stands ps (at + w) vs old widths.1 none in
    record { long = h.long; before = λ k below. h.before k (omega arith); each = h.each; others = h.others }
stands (pair.Holding f ∷ ps) at [] old widths none = record { long = refl; before = λ k below. refl; each = tt; others = λ k free. refl }
stands (pair.Holding f ∷ ps) at (v ∷ vs) old widths none =
    let p : Placed = record { start = at; field = f } in
    let qs : List Placed = placed_from (at + field_length f) ps in
    let inside : at + field_length f ≤ length old = inside-room p qs v vs (length old) none in
    let both = sym (code-here (p ∷ qs) qs p v vs (length old) refl inside) ∙ none in
    let bytes : List ℕ = bytes_in_field f v in
    let wide : length bytes ≡ field_length f = value-width f v widths.0 (code-fits (value_code f v) (values_code qs vs (length old)) both) in
    let room : at + length bytes ≤ length old = omega arith in
    let next : List ℕ = written_at at bytes old in
    let long : length next ≡ length old = written-length at bytes old room in
    let further : values_code qs vs (length next) ≡ None = ap (values_code qs vs) long ∙ code-after (value_code f v) (values_code qs vs (length old)) both in
    let h = stands ps (at + field_length f) vs next widths.1 further in
    let fits : at + field_length f ≤ length (with_values qs vs next) = omega (arith, h.long) in
    record {
      long = h.long ∙ long;
      before = λ k below. h.before k (omega arith) ∙ written-other at bytes old k room (inl below);
      each = (part-same at (field_length f) (with_values qs vs next) next h.long fits h.before ∙ ap (λ n. take n (drop at next)) (sym wide) ∙ written-here at bytes old room, h.each);
      others = λ k free.
          let parts = apart at (field_length f) k (is_covered qs vs k) free in
          h.others k parts.1 ∙ written-other at bytes old k room (subst (λ n. (k < at) ⊎ (at + n ≤ k)) (sym wide) parts.0);
    }

pub packs : (text : List ℕ) (vs : List Value) (old : List ℕ) → values_code (placed_fields text) vs (length old) ≡ None → Packs (placed_fields text) vs old (with_values (placed_fields text) vs old)
packs text vs old none =
    let h = stands (specified_pairs text) 0 vs old (pairs_widths text) none in
    record { each = h.each; others = h.others; long = h.long }

part-at : (start w : ℕ) (xs : List ℕ) (k : ℕ) → start ≤ k → k < start + w → get_or xs k 0 ≡ get_or (take w (drop start xs)) (k - start) 0
part-at start w xs k low high =
    sym (get_or-take w (drop start xs) (k - start) 0 (omega arith) ∙ get_or-drop start xs (k - start) 0 ∙ ap (λ i. get_or xs i 0) (let e : start + (k - start) ≡ k = omega arith in e))

both-true : (a b : Bool) → (a && b) ≡ true → (a ≡ true) × (b ≡ true)
both-true true b e = (refl, e)
both-true false b e = absurd (cc)

covered-same : (ps : List Placed) (vs : List Value) (a b : List ℕ) (k : ℕ) → Holds ps vs a → Holds ps vs b → is_covered ps vs k ≡ true → get_or a k 0 ≡ get_or b k 0
covered-same [] [] a b k ha hb e = absurd (cc)
covered-same (p ∷ ps) [] a b k ha hb e = absurd (cc)
covered-same [] (v ∷ vs) a b k ha hb e = absurd ha
covered-same (p ∷ ps) (v ∷ vs) a b k ha hb e =
    elim (cases_Bool (nat_le p.start k && nat_lt k (p.start + field_length p.field))) [
      | inl here ↦
          let range = both-true (nat_le p.start k) (nat_lt k (p.start + field_length p.field)) here in
          let low : p.start ≤ k = leb-true p.start k range.0 in
          let high : k < p.start + field_length p.field = ltb-true k (p.start + field_length p.field) range.1 in
          part-at p.start (field_length p.field) a k low high ∙ ap (λ xs. get_or xs (k - p.start) 0) (ha.0 ∙ sym hb.0) ∙ sym (part-at p.start (field_length p.field) b k low high)
      | inr other ↦ covered-same ps vs a b k ha.1 hb.1 (sym (ap (λ t. t || is_covered ps vs k) other) ∙ e)
    ]

pub one-spelling : (ps : List Placed) (vs : List Value) (old one other : List ℕ) → Packs ps vs old one → Packs ps vs old other → one ≡ other
one-spelling ps vs old one other h g =
    same_lists one other (h.long ∙ sym g.long) (λ k d below.
    let there : k < length other = omega (arith, h.long, g.long) in
    get_or_default_zero one k d below
    ∙ (elim (cases_Bool (is_covered ps vs k)) [
      | inl here ↦ covered-same ps vs one other k h.each g.each here
      | inr free ↦ h.others k free ∙ sym (g.others k free)
    ]) ∙ sym (get_or_default_zero other k d there))
