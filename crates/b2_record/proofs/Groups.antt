-- The values of a record, sector by sector: how they are parted, and that nothing else parts them so.
use Rattle.std.proofs.Common.{◌≡◌, ℕ, zero, suc, ◌+◌, ◌-◌, ◌<◌, ◌≤◌, ◌==◌, Bool, true, false, not, ◌&&◌, nat_le, if◌then◌else◌, List, [], ◌∷◌, ◌++◌, length, take, drop, Some, None, sym, refl, ap, ap₂, ◌∙◌, subst, arith, append_assoc, append-nil, length-append, length-drop, le-leb, ne_eqb, get_or, replicate, drop-cons, add-one}
use Rattle.b2_record.specs.declared.items.TheConstants.{END_OF_VALUES}
use Rattle.std.proofs.lemmas.Bool.{leb-true}
use borrow.Author.Tests.{lt-leb}
use Rattle.std.specs.List.{list_all, slice_get}
use Rattle.b2_dec.specs.declared.values.Value.{Value}
use Rattle.b2_dec.specs.declared.values.Value.TheVariants as value
use Rattle.b2_record.specs.declared.sectors.TheConstants.{ROOM}
use Rattle.b2_record.specs.Items.{value_spelled, group_bytes, is_short, IsStorable, AllStorable}
use Rattle.b2_record.specs.Records.{has_room, fits_in_sector, goes_over, go_on, is_record, is_none, all_values, sector_of, sector_kind, sectors_from, Spells}
use Rattle.b2_record.specs.Writing.{groups_from, groups_of, record_of, first_count, sectors_left}
use Rattle.b2_record.proofs.Values.{bytes_joined}

-- ---- a group with one more value

pub bytes_more : (group : List Value) (v : Value) → length (group_bytes (group ++ v ∷ [])) ≡ length (group_bytes group) + length (value_spelled v)
bytes_more group v = ap length (bytes_joined group (v ∷ [])) ∙ (length-append (group_bytes group) (value_spelled v ++ []) ∙ ap (λ t. length (group_bytes group) + t) (ap length (append-nil (value_spelled v))))

-- the values after the first sector, sector by sector
abbrev pub later : List Value → List (List Value)
later [] = []
later (v ∷ values) = groups_from (v ∷ []) values

-- the first sector has as many values as have room
from_step : (b : Bool) (used : ℕ) (group : List Value) (v : Value) (values : List Value) → has_room used v ≡ b → length (group_bytes group) ≡ used
    → (length (group_bytes (group ++ v ∷ [])) ≡ used + length (value_spelled v) → groups_from (group ++ v ∷ []) values ≡ ((group ++ v ∷ []) ++ take (first_count (used + length (value_spelled v)) values) values) ∷ later (drop (first_count (used + length (value_spelled v)) values) values))
    → (if b then groups_from (group ++ v ∷ []) values else group ∷ groups_from (v ∷ []) values)
    ≡ (group ++ take (if b then suc (first_count (used + length (value_spelled v)) values) else 0) (v ∷ values)) ∷ later (drop (if b then suc (first_count (used + length (value_spelled v)) values) else 0) (v ∷ values))
from_step true used group v values room same more =
    more (bytes_more group v ∙ ap (λ t. t + length (value_spelled v)) same)
    ∙ ap (λ g. g ∷ later (drop (first_count (used + length (value_spelled v)) values) values)) (append_assoc group (v ∷ []) (take (first_count (used + length (value_spelled v)) values) values))
from_step false used group v values room same more = ap (λ g. g ∷ groups_from (v ∷ []) values) (sym (append-nil group))

pub groups_from-first : (used : ℕ) (group values : List Value) → length (group_bytes group) ≡ used
    → groups_from group values ≡ (group ++ take (first_count used values) values) ∷ later (drop (first_count used values) values)
groups_from-first used group [] same = ap (λ g. g ∷ []) (sym (append-nil group))
groups_from-first used group (v ∷ values) same =
    rw (same) (from_step (has_room used v) used group v values refl same (λ e. groups_from-first (used + length (value_spelled v)) (group ++ v ∷ []) values e))

pub groups-first : (values : List Value) → groups_of values ≡ take (first_count 0 values) values ∷ later (drop (first_count 0 values) values)
groups-first values = groups_from-first 0 [] values refl

-- a short value has room in an empty sector
pub short-few : (v : Value) → is_short v ≡ true → length (value_spelled v) ≤ 125
short-few (value.Number x) h = omega arith
short-few (value.Alpha b) h = grind arith

pub short-room : (v : Value) → is_short v ≡ true → has_room 0 v ≡ true
short-room v h = le-leb (0 + length (value_spelled v)) ROOM (omega (arith, short-few v h))

-- so the values after a sector are parted as a record of their own
pub later-groups : (v : Value) (values : List Value) → is_short v ≡ true → later (v ∷ values) ≡ groups_of (v ∷ values)
later-groups v values h = rw (short-room v h) refl

pub first_count-some : (v : Value) (values : List Value) → is_short v ≡ true → 1 ≤ first_count 0 (v ∷ values)
first_count-some v values h = rw (short-room v h) (omega arith)

some_chosen : (b : Bool) (w : Value) (values group : List Value) → is_none (groups_from (group ++ w ∷ []) values) ≡ false
    → is_none (if b then groups_from (group ++ w ∷ []) values else group ∷ groups_from (w ∷ []) values) ≡ false
some_chosen true w values group e = e
some_chosen false w values group e = refl

some_groups : (values group : List Value) → is_none (groups_from group values) ≡ false
some_groups [] group = refl
some_groups (w ∷ values) group = some_chosen (has_room (length (group_bytes group)) w) w values group (some_groups values (group ++ w ∷ []))

pub is_none-later : (values : List Value) → is_none (later values) ≡ (length values == 0)
is_none-later [] = refl
is_none-later (v ∷ values) = some_groups values (v ∷ []) ∙ sym (ne_eqb (length (v ∷ values)) 0 (λ e. omega (arith, e)))

-- the values of the first sector fit
fits_chosen : (b : Bool) (used : ℕ) (v : Value) (values : List Value) → used ≤ ROOM → has_room used v ≡ b
    → (used + length (value_spelled v) ≤ ROOM → used + length (value_spelled v) + length (group_bytes (take (first_count (used + length (value_spelled v)) values) values)) ≤ ROOM)
    → used + length (group_bytes (take (if b then suc (first_count (used + length (value_spelled v)) values) else 0) (v ∷ values))) ≤ ROOM
fits_chosen true used v values h room more =
    let some : used + length (value_spelled v) ≤ ROOM = leb-true (used + length (value_spelled v)) ROOM room in
    let rest = more some in
    let all = length-append (value_spelled v) (group_bytes (take (first_count (used + length (value_spelled v)) values) values)) in
    omega (arith, rest, all)
fits_chosen false used v values h room more = omega (arith, h)

pub first-fits : (used : ℕ) (values : List Value) → used ≤ ROOM → used + length (group_bytes (take (first_count used values) values)) ≤ ROOM
first-fits used [] h = omega (arith, h)
first-fits used (v ∷ values) h = fits_chosen (has_room used v) used v values h refl (λ some. first-fits (used + length (value_spelled v)) values some)

-- ---- a sector among its record's

pub get-sector : (number i sum : ℕ) (groups : List (List Value)) (sector : List ℕ) (more : List (List ℕ)) → number + i ≡ sum → sectors_from sum (drop i groups) ≡ sector ∷ more
    → slice_get (sectors_from number groups) i ≡ Some sector
get-sector number zero sum groups sector more n e =
    let same : number ≡ sum = omega (arith, n) in
    ap (λ (sectors : List (List ℕ)). slice_get sectors 0) (ap (λ (k : ℕ). sectors_from k groups) same ∙ e)
get-sector number (suc i) sum [] sector more n e = cc
get-sector number (suc i) sum (g ∷ groups) sector more n e = get-sector (number + 1) i sum groups sector more (omega (arith, n)) e

-- ---- one way to part values

pub and-left : (a b : Bool) → (a && b) ≡ true → a ≡ true
and-left true b h = refl
and-left false b h = cc

pub and-right : (a b : Bool) → (a && b) ≡ true → b ≡ true
and-right true b h = h
and-right false b h = cc

not-false : (a : Bool) → not a ≡ true → a ≡ false
not-false true h = cc
not-false false h = refl

-- what fits as a whole has room at each value
room_within : (group : List Value) (v : Value) (rest : List Value) → fits_in_sector (group ++ v ∷ rest) ≡ true → has_room (length (group_bytes group)) v ≡ true
room_within group v rest h =
    let all = ap length (bytes_joined group (v ∷ rest)) in
    let parts = length-append (group_bytes group) (value_spelled v ++ group_bytes rest) in
    let last = length-append (value_spelled v) (group_bytes rest) in
    let most : length (group_bytes (group ++ v ∷ rest)) ≤ ROOM = leb-true (length (group_bytes (group ++ v ∷ rest))) ROOM h in
    le-leb (length (group_bytes group) + length (value_spelled v)) ROOM (omega (arith, all, parts, last, most))

-- values that were parted are parted so by the writer
pub groups_from-only : (group rest : List Value) (groups : List (List Value)) → fits_in_sector (group ++ rest) ≡ true → go_on (length (group_bytes (group ++ rest))) groups ≡ true
    → groups_from group (rest ++ all_values groups) ≡ (group ++ rest) ∷ groups
groups_from-only group [] [] h k = ap (λ g. g ∷ []) (sym (append-nil group))
groups_from-only group [] ([] ∷ groups) h k = cc
groups_from-only group [] ((v ∷ next) ∷ groups) h k =
    let whole = append-nil group in
    let over : goes_over (length (group_bytes (group ++ []))) (v ∷ next) ≡ true = and-left _ _ (and-left _ _ k) in
    let full : has_room (length (group_bytes group)) v ≡ false = rw (sym whole) (not-false _ over) in
    let few : fits_in_sector (v ∷ next) ≡ true = and-right _ _ (and-left _ _ k) in
    let rest = groups_from-only (v ∷ []) next groups few (and-right _ _ k) in
    rw (full, whole) (ap (λ gs. group ∷ gs) rest)
groups_from-only group (v ∷ rest) groups h k =
    let room = room_within group v rest h in
    let all : (group ++ v ∷ []) ++ rest ≡ group ++ v ∷ rest = append_assoc group (v ∷ []) rest in
    let next = groups_from-only (group ++ v ∷ []) rest groups (rw all h) (rw all k) in
    rw room (next ∙ ap (λ g. g ∷ groups) all)

pub groups_of-only : (groups : List (List Value)) → is_record groups ≡ true → groups_of (all_values groups) ≡ groups
groups_of-only [] h = cc
groups_of-only (group ∷ groups) h = groups_from-only [] group groups (and-left _ _ h) (and-right _ _ h)

-- ---- the writer's parts are a record

joined_chosen : (b : Bool) (group : List Value) (v : Value) (values : List Value)
    → all_values (groups_from (group ++ v ∷ []) values) ≡ (group ++ v ∷ []) ++ values → all_values (groups_from (v ∷ []) values) ≡ v ∷ values
    → all_values (if b then groups_from (group ++ v ∷ []) values else group ∷ groups_from (v ∷ []) values) ≡ group ++ v ∷ values
joined_chosen true group v values e k = e ∙ append_assoc group (v ∷ []) values
joined_chosen false group v values e k = ap (λ t. group ++ t) k

pub joined-groups : (group values : List Value) → all_values (groups_from group values) ≡ group ++ values
joined-groups group [] = refl
joined-groups group (v ∷ values) = joined_chosen (has_room (length (group_bytes group)) v) group v values (joined-groups (group ++ v ∷ []) values) (joined-groups (v ∷ []) values)

go_on-next : (used : ℕ) (v : Value) (rest : List Value) (after groups : List (List Value)) → groups ≡ (v ∷ rest) ∷ after → is_record groups ≡ true → has_room used v ≡ false → go_on used groups ≡ true
go_on-next used v rest after groups e h full = rw (e, full) (rw e at h)

parted_chosen : (b : Bool) (group : List Value) (v : Value) (values : List Value) → has_room (length (group_bytes group)) v ≡ b → fits_in_sector group ≡ true
    → (fits_in_sector (group ++ v ∷ []) ≡ true → is_record (groups_from (group ++ v ∷ []) values) ≡ true)
    → is_record (groups_from (v ∷ []) values) ≡ true
    → is_record (if b then groups_from (group ++ v ∷ []) values else group ∷ groups_from (v ∷ []) values) ≡ true
parted_chosen true group v values room h e k =
    let most : length (group_bytes group) + length (value_spelled v) ≤ ROOM = leb-true (length (group_bytes group) + length (value_spelled v)) ROOM room in
    e (le-leb (length (group_bytes (group ++ v ∷ []))) ROOM (omega (arith, most, bytes_more group v)))
parted_chosen false group v values room h e k =
    rw h (go_on-next (length (group_bytes group)) v (take (first_count (length (group_bytes (v ∷ []))) values) values) (later (drop (first_count (length (group_bytes (v ∷ []))) values) values)) (groups_from (v ∷ []) values)
    (groups_from-first (length (group_bytes (v ∷ []))) (v ∷ []) values refl) k room)

alone-fits : (v : Value) → is_short v ≡ true → fits_in_sector (v ∷ []) ≡ true
alone-fits v h = le-leb (length (group_bytes (v ∷ []))) ROOM (omega (arith, short-few v h, ap length (append-nil (value_spelled v))))

pub parted-groups : (group values : List Value) → fits_in_sector group ≡ true → list_all is_short values ≡ true → is_record (groups_from group values) ≡ true
parted-groups group [] h short = rw h refl
parted-groups group (v ∷ values) h short =
    parted_chosen (has_room (length (group_bytes group)) v) group v values refl h
    (λ e. parted-groups (group ++ v ∷ []) values e (and-right _ _ short))
    (parted-groups (v ∷ []) values (alone-fits v (and-left _ _ short)) (and-right _ _ short))

-- ---- a step along the values

pub short-drop : (n : ℕ) (values : List Value) → list_all is_short values ≡ true → list_all is_short (drop n values) ≡ true
short-drop zero values h = h
short-drop (suc n) [] h = refl
short-drop (suc n) (v ∷ values) h = short-drop n values (and-right _ _ h)

pub short-take : (n : ℕ) (values : List Value) → list_all is_short values ≡ true → list_all is_short (take n values) ≡ true
short-take zero values h = refl
short-take (suc n) [] h = refl
short-take (suc n) (v ∷ values) h = ap₂ (λ a b. a && b) (and-left (is_short v) (list_all is_short values) h) (short-take n values (and-right (is_short v) (list_all is_short values) h))

pub drop-tail : {A : Type 0} (n : ℕ) (xs : List A) (x : A) (rest : List A) → drop n xs ≡ x ∷ rest → drop (suc n) xs ≡ rest
drop-tail zero xs x rest e = ap (drop 1) e
drop-tail (suc n) [] x rest e = cc
drop-tail (suc n) (y ∷ xs) x rest e = drop-tail n xs x rest e

later-step : (rest : List Value) → list_all is_short rest ≡ true → (1 ≤ length (later rest)) → later rest ≡ groups_of rest
later-step [] h some = absurd (omega (arith, some))
later-step (v ∷ rest) h some = later-groups v rest (and-left _ _ h)

-- from the values of one sector to those of the next
pub step-groups : (rest : List Value) (n : ℕ) (groups : List (List Value)) → list_all is_short rest ≡ true → groups_of rest ≡ drop (n - 1) groups → 1 ≤ n → n < length groups
    → groups_of (drop (first_count 0 rest) rest) ≡ drop (n + 1 - 1) groups
step-groups rest n groups short same low high =
    let after = drop (first_count 0 rest) rest in
    let tail : drop (suc (n - 1)) groups ≡ later after = drop-tail (n - 1) groups _ _ (sym same ∙ groups-first rest) in
    let place : suc (n - 1) ≡ n + 1 - 1 = omega (arith, low) in
    let some : 1 ≤ length (later after) = omega (arith, low, high, ap length tail, length-drop (suc (n - 1)) groups) in
    sym (later-step after (short-drop _ rest short) some) ∙ (sym tail ∙ ap (λ k. drop k groups) place)

-- the sectors after the first
pub later-length : (v : Value) (values : List Value) → is_short v ≡ true → length (later (v ∷ values)) ≡ 1 + length (later (drop (first_count 0 (v ∷ values)) (v ∷ values)))
later-length v values h = ap length (later-groups v values h ∙ groups-first (v ∷ values)) ∙ omega arith

pub later-rest : (count : ℕ) (rest after values : List Value) → list_all is_short rest ≡ true → 1 ≤ length rest → after ≡ drop (first_count 0 rest) rest
    → count + length (later rest) ≡ length (groups_of values) → count + 1 + length (later after) ≡ length (groups_of values)
later-rest count [] after values short some e h = absurd (omega (arith, some))
later-rest count (v ∷ rest) after values short some e h =
    let step = later-length v rest (and-left (is_short v) (list_all is_short rest) short) in
    let same = ap (λ t. length (later t)) e in
    omega (arith, step, same, h)

pub length-sectors : (number : ℕ) (groups : List (List Value)) → length (sectors_from number groups) ≡ length groups
length-sectors number [] = refl
length-sectors number (group ∷ groups) = ap suc (length-sectors (number + 1) groups)

pub length-record : (values : List Value) → length (record_of values) ≡ length (groups_of values)
length-record values = length-sectors 1 (groups_of values)

pub counted-none : (values : List Value) → 255 < length (groups_of values) → None ≡ (if nat_le (length (record_of values)) 255 then Some (length (record_of values)) else None)
counted-none values h = rw (length-record values, lt-leb (length (groups_of values)) 255 h) refl

pub counted-all : (values : List Value) (count : ℕ) → count ≡ length (groups_of values) → count ≤ 255 → Some count ≡ (if nat_le (length (record_of values)) 255 then Some (length (record_of values)) else None)
counted-all values count e h =
    let same : length (record_of values) ≡ count = length-record values ∙ sym e in
    rw (same, le-leb count 255 h) refl

-- ---- a record of values

pub some-values : (values : List Value) → (length values == 0) ≡ false → 1 ≤ length values
some-values [] h = cc
some-values (v ∷ values) h = omega arith

pub no-values : (values : List Value) → (length values == 0) ≡ true → values ≡ []
no-values [] h = refl
no-values (v ∷ values) h = let bad = ne_eqb (length (v ∷ values)) 0 (λ e. omega (arith, e)) in cc

pub storable-parts : (n : ℕ) (values : List Value) → AllStorable (take n values) → AllStorable (drop n values) → AllStorable values
storable-parts zero values h k = k
storable-parts (suc n) [] h k = tt
storable-parts (suc n) (v ∷ values) h k = (h.0, storable-parts n values h.1 k)

pub record-spelled : (values : List Value) → AllStorable values → list_all is_short values ≡ true → length (groups_of values) ≤ 255 → Spells values (record_of values)
record-spelled values storable short few = record {
  groups = groups_of values;
  storable = storable;
  all = joined-groups [] values;
  split = parted-groups [] values refl short;
  few = few;
  same = refl;
}

some-from : (values group : List Value) → 1 ≤ length (groups_from group values)
some-from values group = subst (λ (gs : List (List Value)). 1 ≤ length gs) (sym (groups_from-first (length (group_bytes group)) group values refl)) (omega arith)

pub later-some : (values : List Value) → 1 ≤ length values → 1 ≤ length (later values)
later-some [] h = absurd (omega (arith, h))
later-some (v ∷ values) h = some-from values (v ∷ [])

pub storable-more : (n : ℕ) (values : List Value) (v : Value) (rest : List Value) → drop n values ≡ v ∷ rest → AllStorable (take n values) → IsStorable v → AllStorable (take (suc n) values)
storable-more zero [] v rest e h k = tt
storable-more zero (w ∷ values) v rest e h k = (subst IsStorable (cc) k, tt)
storable-more (suc n) [] v rest e h k = tt
storable-more (suc n) (w ∷ values) v rest e h k = (h.0, storable-more n values v rest e h.1 k)

pub counted-more : (count used len total : ℕ) (v : Value) (rest after : List Value) → count + first_count used rest ≡ total → rest ≡ v ∷ after → len ≡ length (value_spelled v) → used + len ≤ ROOM
    → count + 1 + first_count (used + len) after ≡ total
counted-more count used len total v rest after h e n room =
    let room_for : has_room used v ≡ true = le-leb (used + length (value_spelled v)) ROOM (omega (arith, n, room)) in
    let step : first_count used (v ∷ after) ≡ suc (first_count (used + length (value_spelled v)) after) = rw room_for refl in
    let same = ap (first_count used) e in
    let here = ap (λ k. first_count (used + k) after) n in
    omega (arith, h, step, same, here)

pub fits-first : (rest : List Value) → fits_in_sector (take (first_count 0 rest) rest) ≡ true
fits-first rest = let few = first-fits 0 rest (omega arith) in le-leb (length (group_bytes (take (first_count 0 rest) rest))) ROOM (omega (arith, few))

-- ---- a sector, and the values after it

later-left : (number : ℕ) (values : List Value) → list_all is_short values ≡ true → sectors_from number (later values) ≡ sectors_left number values
later-left number [] short = refl
later-left number (v ∷ values) short = ap (sectors_from number) (later-groups v values (and-left _ _ short))

pub sector-and-left : (k : ℕ) (values group after : List Value) → list_all is_short after ≡ true → group ≡ take (first_count 0 values) values → after ≡ drop (first_count 0 values) values
    → sectors_from k (groups_of values) ≡ sector_of (sector_kind (k == 1) (length after == 0)) k group ∷ sectors_left (k + 1) after
sector-and-left k values group after short first last =
    let here : groups_of values ≡ group ∷ later after = groups-first values ∙ ap₂ (λ g t. g ∷ later t) (sym first) (sym last) in
    ap (sectors_from k) here
    ∙ ap₂ (λ (b : Bool) (sectors : List (List ℕ)). sector_of (sector_kind (k == 1) b) k group ∷ sectors) (is_none-later after) (later-left (k + 1) after short)

-- where a sector is left, it is the first of the values that are left
pub left-some : (number : ℕ) (values : List Value) → 1 ≤ length (sectors_left number values) → sectors_from number (groups_of values) ≡ sectors_left number values
left-some number [] some = absurd (omega (arith, some))
left-some number (v ∷ values) some = refl

pub next-value : (values : List Value) (i : ℕ) (v : Value) → i < length values → v ≡ get_or values i v → drop i values ≡ v ∷ drop (i + 1) values
next-value values i v h e = drop-cons values i v h ∙ ap₂ (λ w n. w ∷ drop n values) (sym e) (sym (add-one i))

pub storable-next : (n : ℕ) (values : List Value) (v : Value) (rest : List Value) → drop n values ≡ v ∷ rest → AllStorable (take n values) → IsStorable v → AllStorable (take (n + 1) values)
storable-next n values v rest e h k = subst (λ (m : ℕ). AllStorable (take m values)) (sym (add-one n)) (storable-more n values v rest e h k)

pub draft-sector : (kind number : ℕ) (values : List Value) (draft : List ℕ) → draft ≡ (kind ∷ number ∷ group_bytes values) ++ END_OF_VALUES ∷ []
    → draft ++ replicate (256 - length draft) 0 ≡ sector_of kind number values
draft-sector kind number values draft e =
    let n = ap length e in
    let m = length-append (group_bytes values) (END_OF_VALUES ∷ []) in
    let free : 256 - length draft ≡ ROOM - length (group_bytes values) = omega (arith, n, m) in
    ap₂ (λ d k. d ++ replicate k 0) e free ∙ ap (λ t. kind ∷ number ∷ t) (append_assoc (group_bytes values) (END_OF_VALUES ∷ []) (replicate (ROOM - length (group_bytes values)) 0))
