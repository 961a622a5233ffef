-- A record that is spelled at a place is read there, and what is read there is spelled.
use Rattle.std.proofs.Common.{Decides, ◌≡◌, ℕ, zero, suc, ◌+◌, ◌-◌, ◌*◌, ◌/◌, ◌%◌, ◌<◌, ◌≤◌, ◌==◌, Bool, true, false, not, ◌&&◌, ◌||◌, nat_le, nat_lt, if◌then◌else◌, min, List, [], ◌∷◌, ◌++◌, length, take, drop, replicate, Option, Some, None, sym, refl, ap, ap₂, ◌∙◌, subst, arith, append_assoc, length-append, le-leb, ne_eqb, inl, inr}
use Rattle.std.specs.List.{list_all}
use Rattle.std.specs.Cmp.Lexicographic.{pointwise, pointwise_decides}
use Rattle.std.specs.Str.{bytes_eq}
use Rattle.std.proofs.lemmas.Bool.{leb-true, ltb-true, lt-ltb, eqb-true, cases_lt, and_from, or_left}
use Rattle.std.proofs.Math.Seq.{take-append_seam, drop-append_seam}
use Rattle.std.proofs.lemmas.List.{take-append-drop}
use Rattle.std.proofs.lemmas.List.FromFn.{take-map-range_with_len}
use Rattle.std.proofs.lemmas.Slice.Eq.{bytes_eq-Decides}
use Rattle.b2_dec.specs.Number.{Number, IsNumber, zero_number}
use Rattle.b2_dec.specs.Packing.{packed, packed_digits, signs, exponent_size, pairs_value}
use Rattle.b2_dec.proofs.Nibbles.{pairs_value-packed, packed_digits-most, exponent_size-most}
use Rattle.b2_dec.specs.declared.values.Value.{Value}
use Rattle.b2_dec.specs.declared.values.Value.TheVariants as value
use Rattle.b2_platter.specs.Image.{sector, sectors_at}
use Rattle.b2_record.specs.declared.items.TheConstants.{NUMBER, ALPHA, END_OF_VALUES}
use Rattle.b2_record.specs.declared.sectors.TheConstants.{ROOM, ONLY, LAST}
use Rattle.b2_record.specs.Items.{value_spelled, group_bytes, is_short, IsStorable, AllStorable}
use Rattle.b2_record.specs.Records.{is_record, is_none, all_values, sector_of, sector_kind, sectors_from, Spells, IsNoRecord}
use Rattle.b2_record.specs.Writing.{groups_of, record_of}
use Rattle.b2_record.specs.Reading.{number_of, values_in, values_read, is_number, is_storable, read_as, is_last, count_to_last, record_in, record_at}
use Rattle.b2_record.proofs.Groups.{and-left, and-right, length-record, record-spelled}
use Rattle.b2_record.proofs.Parsing.{storable-left, storable-right}
use Rattle.b2_record.proofs.Unique.{record-unique, record-length, length-at, some-record}

-- ---- numbers

made : (x : Number) (s : Bool) (c p : ℕ) → s ≡ x.neg → c ≡ x.coef → p ≡ x.place → record { neg = s; coef = c; place = p } ≡ x
made x s c p e f g =
    ap (λ t. record { neg = t; coef = c; place = p }) e
    ∙ ap₂ (λ t u. record { neg = x.neg; coef = t; place = u }) f g

sign-back : (a b : Bool) → (((if a then 1 else 0) + (if b then 8 else 0)) % 2 == 1) ≡ a
sign-back true true = refl
sign-back true false = refl
sign-back false true = refl
sign-back false false = refl

place-back : (a : Bool) (p : ℕ)
    → (if nat_le 8 ((if a then 1 else 0) + (if nat_lt p 99 then 8 else 0)) then 99 - (if nat_lt p 99 then 99 - p else p - 99) else 99 + (if nat_lt p 99 then 99 - p else p - 99)) ≡ p
place-back true p = grind arith
place-back false p = grind arith

first-digit : (s e c n : ℕ) → e ≤ 99 → c < 10000000000000 → n ≡ s * 1000000000000000 + (e * 10000000000000 + c) → n / 1000000000000000 ≡ s
first-digit s e c n h k same = omega (arith, h, k, same)

next-digits : (s e c n : ℕ) → e ≤ 99 → c < 10000000000000 → n ≡ s * 1000000000000000 + (e * 10000000000000 + c) → n / 10000000000000 % 100 ≡ e
next-digits s e c n h k same = omega (arith, h, k, same)

last-digits : (s e c n : ℕ) → e ≤ 99 → c < 10000000000000 → n ≡ s * 1000000000000000 + (e * 10000000000000 + c) → n % 10000000000000 ≡ c
last-digits s e c n h k same = omega (arith, h, k, same)

number-parts : (x : Number) (n : ℕ) → IsNumber x → n ≡ signs x * 1000000000000000 + packed_digits x → number_of n ≡ x
number-parts x n h same =
    let few = exponent_size-most x h.highest in
    let first = first-digit (signs x) (exponent_size x) x.coef n few h.digits same in
    let next = next-digits (signs x) (exponent_size x) x.coef n few h.digits same in
    made x (n / 1000000000000000 % 2 == 1) (n % 10000000000000) (if nat_le 8 (n / 1000000000000000) then 99 - n / 10000000000000 % 100 else 99 + n / 10000000000000 % 100)
    (ap (λ (s : ℕ). s % 2 == 1) first ∙ sign-back x.neg (nat_lt x.place 99))
    (last-digits (signs x) (exponent_size x) x.coef n few h.digits same)
    (ap₂ (λ (s e : ℕ). if nat_le 8 s then 99 - e else 99 + e) first next ∙ place-back x.neg x.place)

pub number-back : (x : Number) → IsNumber x → number_of (pairs_value 0 (packed x)) ≡ x
number-back x h = number-parts x (pairs_value 0 (packed x)) h (pairs_value-packed x (packed_digits-most x h))

-- ---- what may be stored

is_number-from : (x : Number) → IsNumber x → is_number x ≡ true
is_number-from x h =
    elim (cases_lt x.coef 1000000000000) as (λ _. is_number x ≡ true) [
      | inl low ↦ subst (λ (y : Number). is_number y ≡ true) (sym (h.spelling low)) refl
      | inr high ↦ and_from _ _ (and_from _ _ (lt-ltb x.coef 10000000000000 h.digits) (le-leb x.place 198 h.highest)) (or_left _ _ (le-leb 1000000000000 x.coef high))
    ]

not-parts : (a : Bool) → not a ≡ true → a ≡ false
not-parts true h = cc
not-parts false h = refl

zero-from : (x : Number) (b : Bool) → nat_le 1000000000000 x.coef ≡ b → (b || (not x.neg && (x.coef == 0) && (x.place == 99))) ≡ true → x.coef < 1000000000000 → x ≡ zero_number
zero-from x true e h low = let high = leb-true 1000000000000 x.coef e in absurd (omega (arith, high, low))
zero-from x false e h low =
    sym (made x false 0 99 (sym (not-parts x.neg (and-left _ _ (and-left _ _ h)))) (sym (eqb-true x.coef 0 (and-right _ _ (and-left _ _ h)))) (sym (eqb-true x.place 99 (and-right _ _ h))))

number-from : (x : Number) → is_number x ≡ true → IsNumber x
number-from x h = record {
  digits = ltb-true x.coef 10000000000000 (and-left _ _ (and-left _ _ h));
  highest = leb-true x.place 198 (and-right _ _ (and-left _ _ h));
  spelling = zero-from x (nat_le 1000000000000 x.coef) refl (and-right _ _ h);
}

is_storable-from : (v : Value) → IsStorable v → is_storable v ≡ true
is_storable-from (value.Number x) h = is_number-from x h
is_storable-from (value.Alpha b) h = and_from _ _ (le-leb 1 (length b) h.0) (le-leb (length b) 124 h.1)

storable-from : (v : Value) → is_storable v ≡ true → IsStorable v
storable-from (value.Number x) h = number-from x h
storable-from (value.Alpha b) h = (leb-true 1 (length b) (and-left _ _ h), leb-true (length b) 124 (and-right _ _ h))

short-from : (v : Value) → is_storable v ≡ true → is_short v ≡ true
short-from (value.Number x) h = refl
short-from (value.Alpha b) h = h

pub all_storable-from : (values : List Value) → AllStorable values → list_all is_storable values ≡ true
all_storable-from [] h = refl
all_storable-from (v ∷ values) h = and_from _ _ (is_storable-from v h.0) (all_storable-from values h.1)

pub all-storable : (values : List Value) → list_all is_storable values ≡ true → AllStorable values
all-storable [] h = tt
all-storable (v ∷ values) h = (storable-from v (and-left _ _ h), all-storable values (and-right _ _ h))

all-short : (values : List Value) → list_all is_storable values ≡ true → list_all is_short values ≡ true
all-short [] h = refl
all-short (v ∷ values) h = and_from _ _ (short-from v (and-left _ _ h)) (all-short values (and-right _ _ h))

-- ---- values that were spelled are read

alpha-back : (n : ℕ) (b rest : List ℕ) → length b ≤ 124 → values_in (suc n) ((ALPHA + length b) ∷ (b ++ rest)) ≡ value.Alpha b ∷ values_in n rest
alpha-back n b rest few =
    let other : ((ALPHA + length b) == END_OF_VALUES) ≡ false = ne_eqb (ALPHA + length b) END_OF_VALUES (λ e. omega (arith, e, few)) in
    let alpha : ((ALPHA + length b) == NUMBER) ≡ false = ne_eqb (ALPHA + length b) NUMBER (λ e. omega (arith, e)) in
    let len : ALPHA + length b - ALPHA ≡ length b = omega arith in
    rw (other, alpha, len) (ap₂ (λ (a rest : List ℕ). value.Alpha a ∷ values_in n rest) (take-append_seam b rest) (drop-append_seam b rest))

values-back : (n : ℕ) (group : List Value) (tail : List ℕ) → AllStorable group → length group ≤ n → values_in n (group_bytes group ++ END_OF_VALUES ∷ tail) ≡ group
values-back zero [] tail h few = refl
values-back (suc n) [] tail h few = refl
values-back zero (v ∷ group) tail h few = absurd (omega (arith, few))
values-back (suc n) (value.Number x ∷ group) tail h few =
    ap₂ (λ (y : Number) (vs : List Value). value.Number y ∷ vs) (number-back x h.0) (values-back n group tail h.1 (omega (arith, few)))
values-back (suc n) (value.Alpha b ∷ group) tail h few =
    ap (λ (bytes : List ℕ). values_in (suc n) ((ALPHA + length b) ∷ bytes)) (append_assoc b (group_bytes group) (END_OF_VALUES ∷ tail))
    ∙ (alpha-back n b (group_bytes group ++ END_OF_VALUES ∷ tail) h.0.1 ∙ ap (λ (vs : List Value). value.Alpha b ∷ vs) (values-back n group tail h.1 (omega (arith, few))))

some-byte : (v : Value) → 1 ≤ length (value_spelled v)
some-byte (value.Number x) = omega arith
some-byte (value.Alpha b) = omega arith

many-bytes : (group : List Value) → length group ≤ length (group_bytes group)
many-bytes [] = omega arith
many-bytes (v ∷ group) = omega (arith, some-byte v, many-bytes group, length-append (value_spelled v) (group_bytes group))

sector-back : (kind number : ℕ) (group : List Value) → AllStorable group → values_in (length (sector_of kind number group)) (drop 2 (sector_of kind number group)) ≡ group
sector-back kind number group h =
    values-back (length (sector_of kind number group)) group (replicate (ROOM - length (group_bytes group)) 0) h
    (omega (arith, many-bytes group, length-append (group_bytes group) (END_OF_VALUES ∷ replicate (ROOM - length (group_bytes group)) 0)))

sectors-back : (k : ℕ) (groups : List (List Value)) → AllStorable (all_values groups) → values_read (sectors_from k groups) ≡ all_values groups
sectors-back k [] h = refl
sectors-back k (group ∷ groups) h =
    ap₂ (λ (a b : List Value). a ++ b) (sector-back (sector_kind (k == 1) (is_none groups)) k group (storable-left group (all_values groups) h)) (sectors-back (k + 1) groups (storable-right group (all_values groups) h))

-- ---- the last sector of a record is found

last-kind : (b : Bool) → ((sector_kind b true == ONLY) || (sector_kind b true == LAST)) ≡ true
last-kind true = refl
last-kind false = refl

other-kind : (b : Bool) → ((sector_kind b false == ONLY) || (sector_kind b false == LAST)) ≡ false
other-kind true = refl
other-kind false = refl

count-back : (k : ℕ) (groups : List (List Value)) (rest : List (List ℕ)) → is_none groups ≡ false → count_to_last (sectors_from k groups ++ rest) ≡ length groups
count-back k [] rest some = cc
count-back k (group ∷ []) rest some = rw (last-kind (k == 1)) refl
count-back k (group ∷ next ∷ groups) rest some = rw (other-kind (k == 1)) (ap suc (count-back (k + 1) (next ∷ groups) rest refl))

count-chosen : (b : Bool) (n most : ℕ) → n ≤ most → (if b then 1 else suc n) ≤ suc most
count-chosen true n most h = omega arith
count-chosen false n most h = omega (arith, h)

count-le : (sectors : List (List ℕ)) → count_to_last sectors ≤ length sectors
count-le [] = omega arith
count-le (s ∷ sectors) = count-chosen (is_last s) (count_to_last sectors) (length sectors) (count-le sectors)

-- ---- what sectors are read as

same-sectors : (a b : List (List ℕ)) → Decides (pointwise bytes_eq a b) (a ≡ b)
same-sectors = pointwise_decides bytes_eq-Decides

chosen-read : (values : List Value) (sectors : List (List ℕ)) (b : Bool) (found : List Value × ℕ) → (list_all is_storable values && pointwise bytes_eq (record_of values) sectors) ≡ b
    → (if b then Some (values, length sectors) else None) ≡ Some found → (list_all is_storable values ≡ true) × (record_of values ≡ sectors) × ((values, length sectors) ≡ found)
chosen-read values sectors true found e same = (and-left _ _ e, (same-sectors (record_of values) sectors).0 (and-right _ _ e), cc)
chosen-read values sectors false found e same = cc

read-spelled : (values : List Value) (sectors : List (List ℕ)) (found : List Value × ℕ) → length sectors ≤ 255 → read_as values sectors ≡ Some found → Spells found.0 sectors × (found.1 ≡ length sectors)
read-spelled values sectors found few same =
    let parts = chosen-read values sectors (list_all is_storable values && pointwise bytes_eq (record_of values) sectors) found refl same in
    let groups : length (groups_of values) ≤ 255 = omega (arith, few, ap length parts.1, length-record values) in
    let spelled = record-spelled values (all-storable values parts.0) (all-short values parts.0) groups in
    (subst (λ (vs : List Value). Spells vs sectors) (ap (λ (f : List Value × ℕ). f.0) parts.2) (subst (λ (ss : List (List ℕ)). Spells values ss) parts.1 spelled), sym (ap (λ (f : List Value × ℕ). f.1) parts.2))

read-back : (values : List Value) (sectors : List (List ℕ)) → Spells values sectors → record_in sectors ≡ Some (values, length sectors)
read-back values sectors p =
    let storable = subst AllStorable (sym p.all) p.storable in
    let read : values_read sectors ≡ values = ap values_read (sym p.same) ∙ (sectors-back 1 p.groups storable ∙ p.all) in
    let test : (list_all is_storable values && pointwise bytes_eq (record_of values) sectors) ≡ true =
    and_from _ _ (all_storable-from values p.storable) ((same-sectors (record_of values) sectors).1 (sym (record-unique values sectors p))) in
    ap (λ (vs : List Value). read_as vs sectors) read ∙ ap (λ (b : Bool). if b then Some (values, length sectors) else None) test

-- ---- at a place of an image

pub read-at : (image : List ℕ) (at last n : ℕ) (values : List Value) → at + n ≤ last + 1 → Spells values (sectors_at image at n) → record_at image at last ≡ Some (values, n)
unfolding record_at
read-at image at last n values within p =
    let len = record-length image at n values p in
    let few : n ≤ min 255 (last + 1 - at) = omega (arith, len, p.few, within) in
    let all = sectors_at image at (min 255 (last + 1 - at)) in
    let front : take n all ≡ sectors_from 1 p.groups = take-map-range_with_len (sector image) at (min 255 (last + 1 - at)) n few ∙ sym p.same in
    let whole : all ≡ sectors_from 1 p.groups ++ drop n all = sym (take-append-drop n all) ∙ ap (λ (ss : List (List ℕ)). ss ++ drop n all) front in
    let count : count_to_last all ≡ n = ap count_to_last whole ∙ (count-back 1 p.groups (drop n all) (some-record p.groups p.split) ∙ len) in
    ap (λ (k : ℕ). record_in (sectors_at image at k)) count ∙ (read-back values (sectors_at image at n) p ∙ ap (λ (k : ℕ). Some (values, k)) (length-at (sector image) at n))

some-groups : (groups : List (List Value)) → is_record groups ≡ true → 1 ≤ length groups
some-groups [] h = cc
some-groups (group ∷ groups) h = omega arith

pub at-read : (image : List ℕ) (at last : ℕ) (found : List Value × ℕ) → record_at image at last ≡ Some found → Spells found.0 (sectors_at image at found.1) × (at + found.1 ≤ last + 1)
unfolding record_at
at-read image at last found same =
    let most = min 255 (last + 1 - at) in
    let n = count_to_last (sectors_at image at most) in
    let long : n ≤ most = omega (arith, count-le (sectors_at image at most), length-at (sector image) at most) in
    let few : length (sectors_at image at n) ≤ 255 = omega (arith, length-at (sector image) at n, long) in
    let parts = read-spelled (values_read (sectors_at image at n)) (sectors_at image at n) found few same in
    let count : found.1 ≡ n = parts.1 ∙ length-at (sector image) at n in
    let some : 1 ≤ n = omega (arith, some-groups parts.0.groups parts.0.split, record-length image at n found.0 parts.0) in
    (subst (λ (k : ℕ). Spells found.0 (sectors_at image at k)) (sym count) parts.0, omega (arith, count, long, some))

none-from : (image : List ℕ) (at last : ℕ) (o : Option (List Value × ℕ)) → record_at image at last ≡ o → IsNoRecord image at last → o ≡ None
none-from image at last None e none = refl
none-from image at last (Some found) e none = let there = at-read image at last found e in absurd (none found.0 found.1 there.1 there.0)

pub none-read : (image : List ℕ) (at last : ℕ) → IsNoRecord image at last → record_at image at last ≡ None
none-read image at last none = none-from image at last (record_at image at last) refl none

pub read-none : (image : List ℕ) (at last : ℕ) → record_at image at last ≡ None → IsNoRecord image at last
read-none image at last e values n within p = let bad = sym e ∙ read-at image at last n values within p in cc
