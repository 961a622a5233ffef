-- Lists of partitions: what is spelled is read, and nothing else is.
use Rattle.std.proofs.Common.{◌≡◌, ◌≢◌, ℕ, ◌+◌, ◌-◌, ◌/◌, ◌%◌, ◌^◌, ◌≤◌, ◌<◌, ◌==◌, ◌↔◌, nat_le, nat_lt, Bool, true, false, not, List, [], ◌∷◌, ◌++◌, map, Option, Some, None, if◌then◌else◌, refl, sym, ap, subst, ◌∙◌, append-nil, arith, inl, inr}
use Rattle.std.specs.Prelude.{option_map, option_and_then}
use Rattle.std.specs.Fmt.{decimal}
use Rattle.std.specs.List.{list_all}
use Rattle.std.proofs.lemmas.Bool.{and_from, and_parts, cases_lt, not-true}
use Rattle.std.proofs.lemmas.Bool.Decides.{nat_tests}
use Rattle.std.proofs.lemmas.Fmt.{decimal_digit, decimal_step, decimal_by_steps}
use Rattle.std.proofs.lemmas.List.Folds.{list_all-append}
use Rattle.b2_base.specs.Byte as byte
use Rattle.b2_base.specs.Pieces.{pieces, onto}
use Rattle.b2_boot.specs.Boots.{Ascends}
use Rattle.b2_mvp.specs.Parts.{each_after_comma, by_commas, part_in, parts_above, listed_parts, Lists}

-- bytes without a comma, and numbers up to 16
abbrev plain : List ℕ → Bool
plain bs = list_all (λ b. not (b == byte.comma)) bs

abbrev within : List ℕ → Bool
within ps = list_all (λ p. nat_le p 16) ps

plain_digit : (n : ℕ) → n < 10 → plain ((48 + n) ∷ []) ≡ true
plain_digit n small = grind (arith, nat_tests)

plain_decimal : (n : ℕ) → nat_le n 16 ≡ true → plain (decimal n) ≡ true
plain_decimal n small =
    let below : n < 2 ^ 64 = grind (arith, nat_tests) in
    decimal_by_steps (λ m ds. plain ds ≡ true) (λ m h. plain_digit m h)
    (λ m ds h so_far. list_all-append (λ b. not (b == byte.comma)) ds ((48 + m % 10) ∷ [])
    ∙ and_from (plain ds) (plain ((48 + m % 10) ∷ [])) so_far (plain_digit (m % 10) (omega arith))) n below

-- bytes without a comma are one piece
piece_goes_on : (d : ℕ) (b : Bool) (xs : List ℕ) → b ≡ false → (if b then [] ∷ pieces byte.comma xs else onto (d ∷ []) (pieces byte.comma xs)) ≡ onto (d ∷ []) (pieces byte.comma xs)
piece_goes_on d true xs h = absurd cc
piece_goes_on d false xs h = refl

first_piece : (ds rest : List ℕ) → plain ds ≡ true → pieces byte.comma (ds ++ byte.comma ∷ rest) ≡ ds ∷ pieces byte.comma rest
first_piece [] rest h = refl
first_piece (d ∷ ds) rest h =
    let both = and_parts (not (d == byte.comma)) (plain ds) h in
    piece_goes_on d (d == byte.comma) (ds ++ byte.comma ∷ rest) (not-true (d == byte.comma) both.0) ∙ ap (onto (d ∷ [])) (first_piece ds rest both.1)

only_piece : (ds : List ℕ) → plain ds ≡ true → pieces byte.comma ds ≡ ds ∷ []
only_piece [] h = refl
only_piece (d ∷ ds) h =
    let both = and_parts (not (d == byte.comma)) (plain ds) h in
    piece_goes_on d (d == byte.comma) ds (not-true (d == byte.comma) both.0) ∙ ap (onto (d ∷ [])) (only_piece ds both.1)

-- the pieces of a list are its numbers
pieces_of_list : (p : ℕ) (ps : List ℕ) → nat_le p 16 ≡ true → within ps ≡ true → pieces byte.comma (by_commas (p ∷ ps)) ≡ map decimal (p ∷ ps)
pieces_of_list p [] small h = ap (pieces byte.comma) (append-nil (decimal p)) ∙ only_piece (decimal p) (plain_decimal p small)
pieces_of_list p (q ∷ qs) small h =
    let both = and_parts (nat_le q 16) (within qs) h in
    first_piece (decimal p) (by_commas (q ∷ qs)) (plain_decimal p small) ∙ ap (λ ws. decimal p ∷ ws) (pieces_of_list q qs both.0 both.1)

-- the digits of a number, of one and of two
one_digit : (p : ℕ) → 0 < p → p < 10 → part_in ((48 + p) ∷ []) ≡ Some p
one_digit p low high = grind (arith, nat_tests)

two_digits : (k : ℕ) → k ≤ 6 → part_in (49 ∷ (48 + k) ∷ []) ≡ Some (10 + k)
two_digits k high = grind (arith, nat_tests)

two_spelled : (p k : ℕ) → p ≡ 10 + k → k ≤ 6 → decimal p ≡ 49 ∷ (48 + k) ∷ []
two_spelled p k is high =
    let tens : p / 10 ≡ 1 = omega arith in
    let ones : p % 10 ≡ k = omega arith in
    decimal_step p (omega arith) (omega arith) ∙ (λ i. decimal (tens i) ++ ((48 + ones i) ∷ []))
    ∙ ap (λ (ds : List ℕ). ds ++ ((48 + k) ∷ [])) (decimal_digit 1 (omega arith))

-- a number is read
part_read : (p : ℕ) → 0 < p → nat_le p 16 ≡ true → part_in (decimal p) ≡ Some p
part_read p low high =
    elim (cases_lt p 10) as (λ _. part_in (decimal p) ≡ Some p) [
      | inl below ↦ ap part_in (decimal_digit p below) ∙ one_digit p low below
      | inr above ↦
          let is : p ≡ 10 + (p - 10) = omega arith in
          let few : p - 10 ≤ 6 = grind (arith, nat_tests) in
          ap part_in (two_spelled p (p - 10) is few) ∙ two_digits (p - 10) few ∙ ap (λ (n : ℕ). Some n) (sym is)
    ]

-- numbers that ascend are read
read_each : (last : ℕ) (ps : List ℕ) → Ascends last ps → within ps ≡ true → parts_above last (map decimal ps) ≡ Some ps
read_each last [] up h = refl
read_each last (p ∷ ps) up h =
    let both = and_parts (nat_le p 16) (within ps) h in
    let above : nat_lt last p ≡ true = let u = up.0 in grind (arith, nat_tests) in
    ap (option_and_then (λ q. if nat_lt last q then option_map (λ qs. q ∷ qs) (parts_above q (map decimal ps)) else None)) (part_read p (let u = up.0 in omega arith) both.0)
    ∙ ap (λ (b : Bool). if b then option_map (λ qs. p ∷ qs) (parts_above p (map decimal ps)) else None) above
    ∙ ap (option_map (λ qs. p ∷ qs)) (read_each p ps up.1 both.1)

list_read : (word parts : List ℕ) → Lists word parts → listed_parts word ≡ Some parts
list_read word [] h = absurd (h.some refl)
list_read word (p ∷ ps) h =
    let both = and_parts (nat_le p 16) (within ps) h.within in
    ap listed_parts h.spelled ∙ ap (parts_above 0) (pieces_of_list p ps both.0 both.1) ∙ read_each 0 (p ∷ ps) h.ascending h.within

-- a piece that is read is the number's
number_spelled : (w : List ℕ) (p : ℕ) → part_in w ≡ Some p → (w ≡ decimal p) × (nat_le p 16 ≡ true)
number_spelled [] p e = absurd cc
number_spelled (d ∷ []) p e =
    let small : p < 10 = grind (arith, nat_tests) in
    let is : d ≡ 48 + p = grind (arith, nat_tests) in
    ((λ i. is i ∷ []) ∙ sym (decimal_digit p small), grind (arith, nat_tests))
number_spelled (d ∷ x ∷ []) p e =
    let tens : d ≡ 49 = grind (arith, nat_tests) in
    let ones : x ≡ 48 + (p - 10) = grind (arith, nat_tests) in
    let high : p - 10 ≤ 6 = grind (arith, nat_tests) in
    let is : p ≡ 10 + (p - 10) = grind (arith, nat_tests) in
    ((λ i. tens i ∷ ones i ∷ []) ∙ sym (two_spelled p (p - 10) is high), grind (arith, nat_tests))
number_spelled (d ∷ x ∷ y ∷ ws) p e = absurd cc

-- the first number of a list that is read, and the others
record Parted (last : ℕ) (w : List ℕ) (ws : List (List ℕ)) (parts : List ℕ) : Type 0 where
  first : ℕ
  others : List ℕ
  reads : part_in w ≡ Some first
  above : last < first
  more : parts_above first ws ≡ Some others
  all : parts ≡ first ∷ others

by_rest : (last p : ℕ) (w : List ℕ) (ws : List (List ℕ)) (parts : List ℕ) (b : Bool) (rest : Option (List ℕ)) → part_in w ≡ Some p → nat_lt last p ≡ b → parts_above p ws ≡ rest
    → (if b then option_map (λ qs. p ∷ qs) rest else None) ≡ Some parts → Parted last w ws parts
by_rest last p w ws parts true None reads above more e = absurd cc
by_rest last p w ws parts true (Some qs) reads above more e =
    record { first = p; others = qs; reads = reads; above = grind (arith, nat_tests); more = more; all = cc }
by_rest last p w ws parts false rest reads above more e = absurd cc

by_first : (last : ℕ) (w : List ℕ) (ws : List (List ℕ)) (parts : List ℕ) (o : Option ℕ) → part_in w ≡ o
    → option_and_then (λ q. if nat_lt last q then option_map (λ qs. q ∷ qs) (parts_above q ws) else None) o ≡ Some parts → Parted last w ws parts
by_first last w ws parts None reads e = absurd cc
by_first last w ws parts (Some p) reads e = by_rest last p w ws parts (nat_lt last p) (parts_above p ws) reads refl refl e

each_spelled : (last : ℕ) (ws : List (List ℕ)) (parts : List ℕ) → parts_above last ws ≡ Some parts → (ws ≡ map decimal parts) × Ascends last parts × (within parts ≡ true)
each_spelled last [] parts e = let none : [] ≡ parts = cc in subst (λ (ps : List ℕ). ([] ≡ map decimal ps) × Ascends last ps × (within ps ≡ true)) none (refl, tt, refl)
each_spelled last (w ∷ ws) parts e =
    let h = by_first last w ws parts (part_in w) refl e in
    let here = number_spelled w h.first h.reads in
    let there = each_spelled h.first ws h.others h.more in
    subst (λ (ps : List ℕ). (w ∷ ws ≡ map decimal ps) × Ascends last ps × (within ps ≡ true)) (sym h.all)
    ((λ i. here.0 i ∷ there.0 i), (h.above, there.1), and_from (nat_le h.first 16) (within h.others) here.1 there.2)

-- pieces joined again are the text
abbrev after_commas : List (List ℕ) → List ℕ
after_commas [] = []
after_commas (x ∷ xs) = byte.comma ∷ x ++ after_commas xs

abbrev with_commas : List (List ℕ) → List ℕ
with_commas [] = []
with_commas (x ∷ xs) = x ++ after_commas xs

with_commas-onto : (b : ℕ) (ps : List (List ℕ)) → with_commas (onto (b ∷ []) ps) ≡ b ∷ with_commas ps
with_commas-onto b [] = refl
with_commas-onto b (p ∷ ps) = refl

some_piece_by : (is_comma : Bool) (xs : List ℕ) (ps : List (List ℕ)) → (if is_comma then [] ∷ ps else onto xs ps) ≢ []
some_piece_by true xs ps e = absurd cc
some_piece_by false xs [] e = absurd cc
some_piece_by false xs (p ∷ ps) e = absurd cc

some_piece : (bs : List ℕ) → pieces byte.comma bs ≢ []
some_piece [] e = absurd cc
some_piece (b ∷ bs) e = some_piece_by (b == byte.comma) (b ∷ []) (pieces byte.comma bs) e

after_commas_some : (ps : List (List ℕ)) → ps ≢ [] → after_commas ps ≡ byte.comma ∷ with_commas ps
after_commas_some [] some = absurd (some refl)
after_commas_some (p ∷ ps) some = refl

rejoined_by : (b : ℕ) (bs : List ℕ) (is_comma : Bool) → (b == byte.comma) ≡ is_comma → with_commas (pieces byte.comma bs) ≡ bs
    → with_commas (if is_comma then [] ∷ pieces byte.comma bs else onto (b ∷ []) (pieces byte.comma bs)) ≡ b ∷ bs
rejoined_by b bs true is so_far =
    let comma : byte.comma ≡ b = grind (arith, nat_tests) in
    after_commas_some (pieces byte.comma bs) (some_piece bs) ∙ (λ i. comma i ∷ so_far i)
rejoined_by b bs false is so_far = with_commas-onto b (pieces byte.comma bs) ∙ ap (λ (xs : List ℕ). b ∷ xs) so_far

rejoined : (word : List ℕ) → with_commas (pieces byte.comma word) ≡ word
rejoined [] = refl
rejoined (b ∷ bs) = rejoined_by b bs (b == byte.comma) refl (rejoined bs)

joined_numbers : (ps : List ℕ) → after_commas (map decimal ps) ≡ each_after_comma ps
joined_numbers [] = refl
joined_numbers (p ∷ ps) = ap (λ (xs : List ℕ). byte.comma ∷ decimal p ++ xs) (joined_numbers ps)

list_joined : (ps : List ℕ) → with_commas (map decimal ps) ≡ by_commas ps
list_joined [] = refl
list_joined (p ∷ ps) = ap (λ (xs : List ℕ). decimal p ++ xs) (joined_numbers ps)

list_spelled : (word parts : List ℕ) → listed_parts word ≡ Some parts → Lists word parts
list_spelled word parts e =
    let h = each_spelled 0 (pieces byte.comma word) parts e in
    record {
      spelled = sym (rejoined word) ∙ ap with_commas h.0 ∙ list_joined parts;
      some = λ none. some_piece word (h.0 ∙ ap (map decimal) none);
      ascending = h.1;
      within = h.2;
    }

-- a word is read as the partitions that it lists, and as no other
pub listed_alone : (word parts : List ℕ) (read : Option (List ℕ)) → read ≡ listed_parts word → (read ≡ Some parts) ↔ Lists word parts
listed_alone word parts read is = ((λ e. list_spelled word parts (sym is ∙ e)), λ h. is ∙ list_read word parts h)
