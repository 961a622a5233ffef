-- What a good image says spells it, byte for byte.
use Rattle.std.proofs.Common.{◌≡◌, ℕ, zero, suc, ◌+◌, ◌-◌, ◌*◌, ◌/◌, ◌%◌, ◌<◌, ◌≤◌, Bool, true, false, ◌||◌, ◌==◌, List, [], ◌∷◌, ◌++◌, map, length, take, drop, get_or, replicate, refl, sym, ap, ◌∙◌, subst, inl, inr, ◌⊎◌, arith, append_assoc, length-take, length-drop, lit≤}
use Rattle.std.specs.List.{flat_map, range_with_len, list_all}
use Rattle.std.proofs.lemmas.Bool.{and_parts, or_cases, eqb-true, cases_lt}
use Rattle.std.proofs.lemmas.List.{take-append-drop, drop-drop, drop-append-le, take_all, get_or-take, get_or-drop, get_or_past}
use Rattle.std.proofs.lemmas.List.FromFn.{length-map-range_with_len}
use Rattle.std.proofs.Math.Seq.{take-add}
use Rattle.byteorder.specs.Endian.{big_number, big_bytes}
use Rattle.b2_platter.specs.declared.layout.Layout.{Layout}
use Rattle.b2_platter.specs.declared.layout.Layout.TheVariants.{Narrow, Wide}
use Rattle.b2_platter.specs.Layout.{version_of, width_of, sector_number_at, third_place, fourth_place, is_zero, layout_of}
use Rattle.b2_platter.specs.Slot.{is_free, is_gone, is_live, is_entry, is_program, has_kind, slot_start, slot_end, slot_name, is_spelled}
use Rattle.b2_platter.specs.Image.{row, sector, index_of, total_of, catalogue_end, next_free, slots_of}
use Rattle.b2_platter.specs.Checks.{has_head, IsGood}
use Rattle.b2_platter.specs.Edits.{sector_number_bytes, head_bytes}
use Rattle.b2_platter.specs.Volume.{slot_bytes, slot_in_row, image, volume}
use Rattle.b2_platter.proofs.Goodness.{Parts-of}
use Rattle.b2_platter.proofs.Soundness.{Sound-from_Good}

-- lists whose elements are bytes
abbrev pub IsBytes : List ℕ → Type 0
IsBytes xs = (i : ℕ) → get_or xs i 0 < 256

zeros_are : (xs : List ℕ) → list_all is_zero xs ≡ true → xs ≡ replicate (length xs) 0
zeros_are [] h = refl
zeros_are (x ∷ xs) h =
    let parts = and_parts (is_zero x) (list_all is_zero xs) h in
    ap (λ (y : ℕ). y ∷ xs) (eqb-true x 0 parts.0) ∙ ap (λ (ys : List ℕ). 0 ∷ ys) (zeros_are xs parts.1)

two_read : (x y : ℕ) (rest : List ℕ) → x < 256 → y < 256 → big_bytes 2 (big_number 2 (x ∷ y ∷ rest)) ≡ x ∷ y ∷ []
two_read x y rest hx hy =
    let high : (x * 256 + (y * 1 + 0)) / 256 % 256 ≡ x = omega arith in
    let low : (x * 256 + (y * 1 + 0)) % 256 ≡ y = omega arith in
    rw (high, low) refl

three_read : (x y z : ℕ) (rest : List ℕ) → x < 256 → y < 256 → z < 256 → big_bytes 3 (big_number 3 (x ∷ y ∷ z ∷ rest)) ≡ x ∷ y ∷ z ∷ []
three_read x y z rest hx hy hz =
    let high : (x * 65536 + (y * 256 + (z * 1 + 0))) / 65536 % 256 ≡ x = omega arith in
    let middle : (x * 65536 + (y * 256 + (z * 1 + 0))) / 256 % 256 ≡ y = omega arith in
    let low : (x * 65536 + (y * 256 + (z * 1 + 0))) % 256 ≡ z = omega arith in
    rw (high, middle, low) refl

-- a number that is read from bytes is spelled by them
number_spelled : (layout : Layout) (xs : List ℕ) → IsBytes xs → width_of layout ≤ length xs → sector_number_bytes layout (big_number (width_of layout) xs) ≡ take (width_of layout) xs
number_spelled Narrow (x ∷ y ∷ rest) small long = two_read x y rest (small 0) (small 1)
number_spelled Narrow (x ∷ []) small long = absurd (omega arith)
number_spelled Narrow [] small long = absurd (omega arith)
number_spelled Wide (x ∷ y ∷ z ∷ rest) small long = three_read x y z rest (small 0) (small 1) (small 2)
number_spelled Wide (x ∷ y ∷ []) small long = absurd (omega arith)
number_spelled Wide (x ∷ []) small long = absurd (omega arith)
number_spelled Wide [] small long = absurd (omega arith)

width_at_most : (layout : Layout) → width_of layout ≤ 3
width_at_most Narrow = lit≤ tt
width_at_most Wide = lit≤ tt

-- bytes from a place on
bytes_from : (n : ℕ) (xs : List ℕ) → IsBytes xs → IsBytes (drop n xs)
bytes_from n xs small = λ i. subst (λ (x : ℕ). x < 256) (sym (get_or-drop n xs i 0)) (small (n + i))

-- the number at a place of sixteen bytes
read_at : (layout : Layout) (place : ℕ) (r : List ℕ) → length r ≡ 16 → IsBytes r → place + width_of layout ≤ 16 → sector_number_bytes layout (sector_number_at layout place r) ≡ take (width_of layout) (drop place r)
read_at layout place r long small within = number_spelled layout (drop place r) (bytes_from place r small) (omega (arith, length-drop place r))

-- a list is its first two elements, two pieces of some width, and the rest
first_two : (r : List ℕ) → 2 ≤ length r → get_or r 0 0 ∷ get_or r 1 0 ∷ drop 2 r ≡ r
first_two (x ∷ y ∷ rest) long = refl
first_two (x ∷ []) long = absurd (omega arith)
first_two [] long = absurd (omega arith)

piece_joined : (w p : ℕ) (r : List ℕ) → take w (drop p r) ++ drop (p + w) r ≡ drop p r
piece_joined w p r = ap (λ (xs : List ℕ). take w (drop p r) ++ xs) (sym (drop-drop w p r)) ∙ take-append-drop w (drop p r)

pieces_joined : (w v i : ℕ) (a b c d r : List ℕ) → 2 ≤ length r → v ≡ get_or r 0 0 → i ≡ get_or r 1 0 → a ≡ take w (drop 2 r) → b ≡ take w (drop (2 + w) r) → c ++ d ≡ drop (2 + 2 * w) r → v ∷ i ∷ (a ++ b ++ c ++ d) ≡ r
pieces_joined w v i a b c d r long ev ei ea eb ecd =
    let nested : a ++ b ++ c ++ d ≡ a ++ (b ++ (c ++ d)) = append_assoc (a ++ b) c d ∙ append_assoc a b (c ++ d) in
    let last : b ++ (c ++ d) ≡ drop (2 + w) r =
    ap (λ (xs : List ℕ). b ++ xs) (ecd ∙ ap (λ (n : ℕ). drop n r) (omega arith)) ∙ ap (λ (xs : List ℕ). xs ++ drop (2 + w + w) r) eb ∙ piece_joined w (2 + w) r in
    let all : a ++ b ++ c ++ d ≡ drop 2 r = nested ∙ ap (λ (xs : List ℕ). a ++ xs) last ∙ ap (λ (xs : List ℕ). xs ++ drop (2 + w) r) ea ∙ piece_joined w 2 r in
    ap (λ (x : ℕ). x ∷ i ∷ (a ++ b ++ c ++ d)) ev ∙ ap (λ (x : ℕ). get_or r 0 0 ∷ x ∷ (a ++ b ++ c ++ d)) ei ∙ ap (λ (xs : List ℕ). get_or r 0 0 ∷ get_or r 1 0 ∷ xs) all ∙ first_two r long

-- the third number of a head and the 00 after it
head_rest : (layout : Layout) (r : List ℕ) → length r ≡ 16 → IsBytes r → list_all is_zero (drop (fourth_place layout) r) ≡ true → sector_number_bytes layout (sector_number_at layout (third_place layout) r) ++ replicate (16 - fourth_place layout) 0 ≡ drop (third_place layout) r
head_rest layout r long small zeros =
    let few = width_at_most layout in
    let left : length (drop (fourth_place layout) r) ≡ 16 - fourth_place layout = length-drop (fourth_place layout) r ∙ ap (λ (n : ℕ). n - fourth_place layout) long in
    let rest : replicate (16 - fourth_place layout) 0 ≡ drop (third_place layout + width_of layout) r =
    ap (λ (n : ℕ). replicate n 0) (sym left) ∙ sym (zeros_are (drop (fourth_place layout) r) zeros) ∙ ap (λ (n : ℕ). drop n r) (omega arith) in
    ap (λ (xs : List ℕ). xs ++ replicate (16 - fourth_place layout) 0) (read_at layout (third_place layout) r long small (omega (arith, few)))
    ∙ ap (λ (xs : List ℕ). take (width_of layout) (drop (third_place layout) r) ++ xs) rest ∙ piece_joined (width_of layout) (third_place layout) r

pub head_spelled : (layout : Layout) (bytes : List ℕ) → length (row bytes 0) ≡ 16 → IsBytes (row bytes 0) → has_head layout bytes ≡ true → head_bytes layout (index_of bytes) (total_of layout bytes) (catalogue_end layout bytes) (next_free layout bytes) ≡ row bytes 0
unfolding has_head head_bytes index_of total_of catalogue_end next_free
head_spelled layout bytes long small has =
    let few = width_at_most layout in
    let outer = and_parts _ _ has in
    let middle = and_parts _ _ outer.0 in
    let inner = and_parts _ _ middle.0 in
    let first : get_or (row bytes 0) 0 0 ≡ version_of layout = eqb-true _ _ (and_parts _ _ inner.0).0 in
    pieces_joined (width_of layout) _ _ _ _ _ _ (row bytes 0) (omega arith) (sym first) refl (read_at layout 2 (row bytes 0) long small (omega (arith, few)))
    (read_at layout (2 + width_of layout) (row bytes 0) long small (omega (arith, few))) (head_rest layout (row bytes 0) long small outer.1)

-- the rows and the sectors one after the other
rows_joined : (bytes : List ℕ) (a n : ℕ) → flat_map (row bytes) (range_with_len a n) ≡ take (16 * n) (drop (16 * a) bytes)
unfolding row
rows_joined bytes a zero = refl
rows_joined bytes a (suc n) =
    ap (λ (xs : List ℕ). take 16 (drop (16 * a) bytes) ++ xs) (rows_joined bytes (a + 1) n ∙ ap (λ (m : ℕ). take (16 * n) (drop m bytes)) (omega arith) ∙ ap (take (16 * n)) (sym (drop-drop 16 (16 * a) bytes)))
    ∙ sym (take-add 16 (16 * n) (drop (16 * a) bytes)) ∙ ap (λ (m : ℕ). take m (drop (16 * a) bytes)) (omega arith)

sectors_joined : (bytes : List ℕ) (a n : ℕ) → flat_map (sector bytes) (range_with_len a n) ≡ take (256 * n) (drop (256 * a) bytes)
unfolding sector
sectors_joined bytes a zero = refl
sectors_joined bytes a (suc n) =
    ap (λ (xs : List ℕ). take 256 (drop (256 * a) bytes) ++ xs) (sectors_joined bytes (a + 1) n ∙ ap (λ (m : ℕ). take (256 * n) (drop m bytes)) (omega arith) ∙ ap (take (256 * n)) (sym (drop-drop 256 (256 * a) bytes)))
    ∙ sym (take-add 256 (256 * n) (drop (256 * a) bytes)) ∙ ap (λ (m : ℕ). take m (drop (256 * a) bytes)) (omega arith)

-- a map in front of a join
joined_map : {X : Type 0} (f : X → List ℕ) (g : ℕ → X) (h : ℕ → List ℕ) (a n : ℕ) → ((k : ℕ) → a ≤ k → k < a + n → f (g k) ≡ h k) → flat_map f (map g (range_with_len a n)) ≡ flat_map h (range_with_len a n)
joined_map f g h a zero same = refl
joined_map f g h a (suc n) same =
    ap (λ (xs : List ℕ). xs ++ flat_map f (map g (range_with_len (a + 1) n))) (same a (omega arith) (omega arith))
    ∙ ap (λ (xs : List ℕ). h a ++ xs) (joined_map f g h (a + 1) n (λ k low high. same k (omega arith) (omega arith)))

-- a slot is spelled by what it says
free_cells : (layout : Layout) (x : ℕ) (xs : List ℕ) → x ≡ 0 → xs ≡ replicate 15 0 → slot_bytes layout (slot_in_row layout (x ∷ xs)) ≡ x ∷ xs
unfolding slot_in_row is_free
free_cells layout x xs e zeros = rw (e, zeros) refl

gone_cells : (layout : Layout) (x : ℕ) (xs : List ℕ) → x ≡ 18 → xs ≡ replicate 15 0 → slot_bytes layout (slot_in_row layout (x ∷ xs)) ≡ x ∷ xs
unfolding slot_in_row is_free is_gone
gone_cells layout x xs e zeros = rw (e, zeros) refl

file_cells : (layout : Layout) (x y : ℕ) (rest : List ℕ) → ((x ≡ 16) ⊎ (x ≡ 17)) → ((y ≡ 80) ⊎ (y ≡ 68)) → slot_bytes layout (slot_in_row layout (x ∷ y ∷ rest)) ≡ x ∷ y ∷ (sector_number_bytes layout (slot_start layout (x ∷ y ∷ rest)) ++ sector_number_bytes layout (slot_end layout (x ∷ y ∷ rest)) ++ replicate (8 - third_place layout) 0 ++ slot_name (x ∷ y ∷ rest))
unfolding slot_in_row is_free is_gone is_live is_program
file_cells layout x y rest (inl s) (inl k) = rw (s, k) refl
file_cells layout x y rest (inl s) (inr k) = rw (s, k) refl
file_cells layout x y rest (inr s) (inl k) = rw (s, k) refl
file_cells layout x y rest (inr s) (inr k) = rw (s, k) refl

either_test : (x a b : ℕ) → ((x == a) || (x == b)) ≡ true → (x ≡ a) ⊎ (x ≡ b)
either_test x a b h = elim (or_cases (x == a) (x == b) h) [ inl e ↦ inl (eqb-true x a e) | inr e ↦ inr (eqb-true x b e) ]

-- the 00 before the name, and the name
gap_joined : (place : ℕ) (r : List ℕ) → length r ≡ 16 → place ≤ 8 → list_all is_zero (drop place (take 8 r)) ≡ true → replicate (8 - place) 0 ++ drop 8 r ≡ drop place r
gap_joined place r long within zeros =
    let eight : length (take 8 r) ≡ 8 = omega (arith, length-take 8 r) in
    let left : length (drop place (take 8 r)) ≡ 8 - place = length-drop place (take 8 r) ∙ ap (λ (n : ℕ). n - place) eight in
    ap (λ (n : ℕ). replicate n 0 ++ drop 8 r) (sym left) ∙ ap (λ (xs : List ℕ). xs ++ drop 8 r) (sym (zeros_are (drop place (take 8 r)) zeros))
    ∙ sym (drop-append-le place (take 8 r) (drop 8 r) (omega (arith, eight, within))) ∙ ap (drop place) (take-append-drop 8 r)

file_spelled : (layout : Layout) (x y : ℕ) (rest : List ℕ) → length (x ∷ y ∷ rest) ≡ 16 → IsBytes (x ∷ y ∷ rest) → is_entry (x ∷ y ∷ rest) ≡ true → has_kind (x ∷ y ∷ rest) ≡ true → list_all is_zero (drop (third_place layout) (take 8 (x ∷ y ∷ rest))) ≡ true → slot_bytes layout (slot_in_row layout (x ∷ y ∷ rest)) ≡ x ∷ y ∷ rest
unfolding is_entry has_kind slot_start slot_end slot_name
file_spelled layout x y rest long small e k gap =
    let few = width_at_most layout in
    file_cells layout x y rest (either_test x 16 17 e) (either_test y 80 68 k)
    ∙ pieces_joined (width_of layout) x y _ _ _ _ (x ∷ y ∷ rest) (omega arith) refl refl (read_at layout 2 (x ∷ y ∷ rest) long small (omega (arith, few)))
    (read_at layout (2 + width_of layout) (x ∷ y ∷ rest) long small (omega (arith, few))) (gap_joined (third_place layout) (x ∷ y ∷ rest) long (omega (arith, few)) gap)

empty_spelled : (layout : Layout) (x : ℕ) (xs : List ℕ) → length (x ∷ xs) ≡ 16 → (is_free (x ∷ xs) || is_gone (x ∷ xs)) ≡ true → list_all is_zero xs ≡ true → slot_bytes layout (slot_in_row layout (x ∷ xs)) ≡ x ∷ xs
unfolding is_free is_gone
empty_spelled layout x xs long either zeros =
    let fifteen : length xs ≡ 15 = omega arith in
    let all : xs ≡ replicate 15 0 = zeros_are xs zeros ∙ ap (λ (n : ℕ). replicate n 0) fifteen in
    elim (either_test x 0 18 either) [ inl e ↦ free_cells layout x xs e all | inr e ↦ gone_cells layout x xs e all ]

by_status : (layout : Layout) (r : List ℕ) → length r ≡ 16 → IsBytes r → (e : Bool) → is_entry r ≡ e → is_spelled layout r ≡ true → slot_bytes layout (slot_in_row layout r) ≡ r
unfolding is_spelled
by_status layout [] long small e is h = absurd (omega arith)
by_status layout (x ∷ []) long small true is h = absurd (omega arith)
by_status layout (x ∷ y ∷ rest) long small true is h =
    let inner = rw is at h in
    let outer = and_parts _ _ inner in
    let parts = and_parts _ _ outer.0 in
    file_spelled layout x y rest long small is parts.0 parts.1
by_status layout (x ∷ xs) long small false is h =
    let inner = rw is at h in
    let parts = and_parts _ _ inner in
    empty_spelled layout x xs long parts.0 parts.1

pub slot_spelled : (layout : Layout) (r : List ℕ) → length r ≡ 16 → IsBytes r → is_spelled layout r ≡ true → slot_bytes layout (slot_in_row layout r) ≡ r
slot_spelled layout r long small h = by_status layout r long small (is_entry r) refl h

length-row : (bytes : List ℕ) (k : ℕ) → 16 * k + 16 ≤ length bytes → length (row bytes k) ≡ 16
unfolding row
length-row bytes k room = omega (arith, length-take 16 (drop (16 * k) bytes), length-drop (16 * k) bytes)

below_taken : (xs : List ℕ) (n i : ℕ) → IsBytes xs → get_or (take n xs) i 0 < 256
below_taken xs n i small = elim (cases_lt i n) [
  | inl below ↦ subst (λ (x : ℕ). x < 256) (sym (get_or-take n xs i 0 below)) (small i)
  | inr above ↦ subst (λ (x : ℕ). x < 256) (sym (get_or_past (take n xs) i 0 (omega (arith, length-take n xs)))) (omega arith)
]

row_bytes : (bytes : List ℕ) (k : ℕ) → IsBytes bytes → IsBytes (row bytes k)
unfolding row
row_bytes bytes k small = λ i. below_taken (drop (16 * k) bytes) 16 i (bytes_from (16 * k) bytes small)

-- head, slots and sectors are all of the image
whole_joined : (bytes : List ℕ) (i t : ℕ) → 1 ≤ i → i ≤ t → length bytes ≡ 256 * t → (a b c : List ℕ) → a ≡ row bytes 0 → b ≡ take (16 * (16 * i - 1)) (drop 16 bytes) → c ≡ take (256 * (t - i)) (drop (256 * i) bytes) → a ++ (b ++ c) ≡ bytes
unfolding row
whole_joined bytes i t some within whole a b c ea eb ec =
    let rest : c ≡ drop (256 * i) bytes = ec ∙ take_all (256 * (t - i)) (drop (256 * i) bytes) (omega (arith, length-drop (256 * i) bytes)) in
    let index : take 16 bytes ++ take (16 * (16 * i - 1)) (drop 16 bytes) ≡ take (256 * i) bytes = sym (take-add 16 (16 * (16 * i - 1)) bytes) ∙ ap (λ (n : ℕ). take n bytes) (omega arith) in
    sym (append_assoc a b c) ∙ ap (λ (xs : List ℕ). (xs ++ b) ++ c) ea ∙ ap (λ (xs : List ℕ). (take 16 bytes ++ xs) ++ c) eb ∙ ap (λ (xs : List ℕ). xs ++ c) index ∙ ap (λ (xs : List ℕ). take (256 * i) bytes ++ xs) rest
    ∙ take-append-drop (256 * i) bytes

pub volume_spelled : (bytes : List ℕ) → IsGood bytes → IsBytes bytes → image (volume bytes) ≡ bytes
volume_spelled bytes good small =
    let p = Parts-of (layout_of bytes) bytes good in
    let s = Sound-from_Good (layout_of bytes) bytes good in
    let i = index_of bytes in
    let t = total_of (layout_of bytes) bytes in
    let total : index_of bytes + length (map (sector bytes) (range_with_len (index_of bytes) (total_of (layout_of bytes) bytes - index_of bytes))) ≡ total_of (layout_of bytes) bytes = omega (arith, length-map-range_with_len (sector bytes) (index_of bytes) (total_of (layout_of bytes) bytes - index_of bytes)) in
    let front : head_bytes (layout_of bytes) (index_of bytes) (index_of bytes + length (map (sector bytes) (range_with_len (index_of bytes) (total_of (layout_of bytes) bytes - index_of bytes)))) (catalogue_end (layout_of bytes) bytes) (next_free (layout_of bytes) bytes) ≡ row bytes 0 =
    ap (λ (n : ℕ). head_bytes (layout_of bytes) (index_of bytes) n (catalogue_end (layout_of bytes) bytes) (next_free (layout_of bytes) bytes)) total ∙ head_spelled (layout_of bytes) bytes (length-row bytes 0 (omega arith)) (row_bytes bytes 0 small) s.head in
    let slots : flat_map (slot_bytes (layout_of bytes)) (map (λ (k : ℕ). slot_in_row (layout_of bytes) (row bytes k)) (slots_of (index_of bytes))) ≡ take (16 * (16 * index_of bytes - 1)) (drop 16 bytes) =
    joined_map (slot_bytes (layout_of bytes)) (λ k. slot_in_row (layout_of bytes) (row bytes k)) (row bytes) 1 (16 * index_of bytes - 1) (λ k low high. slot_spelled (layout_of bytes) (row bytes k) (length-row bytes k (omega arith)) (row_bytes bytes k small) (s.spelled k low (omega arith))) ∙ rows_joined bytes 1 (16 * index_of bytes - 1) in
    let sectors : flat_map (λ (s : List ℕ). s) (map (sector bytes) (range_with_len (index_of bytes) (total_of (layout_of bytes) bytes - index_of bytes))) ≡ take (256 * (total_of (layout_of bytes) bytes - index_of bytes)) (drop (256 * index_of bytes) bytes) =
    joined_map (λ (s : List ℕ). s) (sector bytes) (sector bytes) (index_of bytes) (total_of (layout_of bytes) bytes - index_of bytes) (λ k low high. refl) ∙ sectors_joined bytes (index_of bytes) (total_of (layout_of bytes) bytes - index_of bytes) in
    whole_joined bytes (index_of bytes) (total_of (layout_of bytes) bytes) p.some (omega arith) p.whole _ _ _ front slots sectors
