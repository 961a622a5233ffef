-- Lists of addresses: what stands in one to which some were added, or from which some were taken out.
use Rattle.std.specs.Prelude.{◌≡◌, ◌≢◌, ◌⊎◌, ℕ, ◌≤◌, ◌<◌, ◌+◌, nat_le, ◌||◌, ◌&&◌, not, Bool, true, false, List, [], ◌∷◌, ◌++◌, length, refl, if◌then◌else◌}
use Rattle.std.specs.List.{list_any}
use Rattle.std.specs.Str.{bytes_eq}
use Rattle.std.proofs.Common.{sym, ap, subst, ◌∙◌, inl, inr, arith}
use Rattle.std.proofs.lemmas.Bool.{true≢false}
use Rattle.std.proofs.lemmas.Slice.Eq.{bytes_eq-Decides}
use Rattle.std.proofs.lemmas.Bool.Decides.{nat_tests}
use Rattle.b2_access.specs.Devices.{are_distinct}
use Rattle.b2_access.specs.Holding.{IsAddressIn}
use Rattle.b2_access.proofs.Choice.{either}
use Rattle.b2_stmt_disk.specs.devices.Held.{is_among, with_device, with_devices, without_devices}

-- a test finds what stands in a list
is_in : (a : List ℕ) (addrs : List (List ℕ)) → is_among a addrs ≡ true → IsAddressIn a addrs
is_in a [] is = let clash : false ≡ true = is in cc
is_in a (x ∷ addrs) is = by (bytes_eq x a) refl is (λ rest. is_in a addrs rest)
  where
    by : (b : Bool) → bytes_eq x a ≡ b → (b || is_among a addrs) ≡ true → (is_among a addrs ≡ true → IsAddressIn a addrs) → IsAddressIn a (x ∷ addrs)
    by true e h later = inl (sym ((bytes_eq-Decides x a).0 e))
    by false e h later = inr (later h)

is_out : (a : List ℕ) (addrs : List (List ℕ)) → is_among a addrs ≡ false → IsAddressIn a addrs → ⊥
is_out a [] is i = i
is_out a (x ∷ addrs) is i = by (bytes_eq x a) refl is (λ rest j. is_out a addrs rest j) i
  where
    by : (b : Bool) → bytes_eq x a ≡ b → (b || is_among a addrs) ≡ false → (is_among a addrs ≡ false → IsAddressIn a addrs → ⊥) → IsAddressIn a (x ∷ addrs) → ⊥
    by true e h later j = true≢false h
    by false e h later j = elim j [ inl same ↦ true≢false (sym ((bytes_eq-Decides x a).1 (sym same)) ∙ e) | inr k ↦ later h k ]

in_first : (a : List ℕ) (xs ys : List (List ℕ)) → IsAddressIn a xs → IsAddressIn a (xs ++ ys)
in_first a [] ys i = absurd i
in_first a (x ∷ xs) ys i = elim i [ inl e ↦ inl e | inr j ↦ inr (in_first a xs ys j) ]

in_last : (a : List ℕ) (xs ys : List (List ℕ)) → IsAddressIn a ys → IsAddressIn a (xs ++ ys)
in_last a [] ys i = i
in_last a (x ∷ xs) ys i = inr (in_last a xs ys i)

in_either : (a : List ℕ) (xs ys : List (List ℕ)) → IsAddressIn a (xs ++ ys) → IsAddressIn a xs ⊎ IsAddressIn a ys
in_either a [] ys i = inr i
in_either a (x ∷ xs) ys i = elim i [ inl e ↦ inl (inl e) | inr j ↦ elim (in_either a xs ys j) [ inl k ↦ inl (inr k) | inr k ↦ inr k ] ]

-- ---- each stands there once

first_and_rest : (b c : Bool) → (not b && c) ≡ true → (b ≡ false) × (c ≡ true)
first_and_rest false c h = (refl, h)
first_and_rest true c h = absurd (true≢false (sym h))

neither : (a b : Bool) → (a || b) ≡ false → (a ≡ false) × (b ≡ false)
neither false b h = (refl, h)
neither true b h = absurd (true≢false h)

none_of : (b c : Bool) → b ≡ false → c ≡ false → (b || c) ≡ false
none_of b c is also = ap (λ (x : Bool). x || c) is ∙ also

both : (b c : Bool) → b ≡ false → c ≡ true → (not b && c) ≡ true
both b c is also = ap (λ (x : Bool). not x && c) is ∙ also

still_none : (x a : List ℕ) (held : List (List ℕ)) → list_any (bytes_eq x) held ≡ false → bytes_eq x a ≡ false → list_any (bytes_eq x) (held ++ a ∷ []) ≡ false
still_none x a [] h is = none_of (bytes_eq x a) false is refl
still_none x a (y ∷ held) h is =
    let e = neither (bytes_eq x y) (list_any (bytes_eq x) held) h in
    none_of (bytes_eq x y) (list_any (bytes_eq x) (held ++ a ∷ [])) e.0 (still_none x a held e.1 is)

appended : (held : List (List ℕ)) (a : List ℕ) → are_distinct held ≡ true → is_among a held ≡ false → are_distinct (held ++ a ∷ []) ≡ true
appended [] a h new = refl
appended (x ∷ held) a h new =
    let e = first_and_rest (list_any (bytes_eq x) held) (are_distinct held) h in
    let n = neither (bytes_eq x a) (is_among a held) new in
    both (list_any (bytes_eq x) (held ++ a ∷ [])) (are_distinct (held ++ a ∷ [])) (still_none x a held e.0 n.0) (appended held a e.1 n.1)

one_once : (held : List (List ℕ)) (a : List ℕ) → are_distinct held ≡ true → are_distinct (with_device held a) ≡ true
one_once held a h = by (is_among a held) (nat_le 12 (length held)) refl
  where
    by : (b c : Bool) → is_among a held ≡ b → are_distinct (if b || c then held else held ++ a ∷ []) ≡ true
    by true c is = h
    by false true is = h
    by false false is = appended held a h is

pub all_once : (held addrs : List (List ℕ)) → are_distinct held ≡ true → are_distinct (with_devices held addrs) ≡ true
all_once held [] h = h
all_once held (a ∷ addrs) h = all_once (with_device held a) addrs (one_once held a h)

none_left : (x : List ℕ) (addrs held : List (List ℕ)) → list_any (bytes_eq x) held ≡ false → list_any (bytes_eq x) (without_devices addrs held) ≡ false
none_left x addrs [] h = refl
none_left x addrs (y ∷ held) h =
    let e = neither (bytes_eq x y) (list_any (bytes_eq x) held) h in
    let rest = none_left x addrs held e.1 in
    either (λ (l : List (List ℕ)). list_any (bytes_eq x) l ≡ false) (is_among y addrs) (without_devices addrs held) (y ∷ without_devices addrs held) rest
    (none_of (bytes_eq x y) (list_any (bytes_eq x) (without_devices addrs held)) e.0 rest)

pub fewer : (addrs held : List (List ℕ)) → are_distinct held ≡ true → are_distinct (without_devices addrs held) ≡ true
fewer addrs [] h = refl
fewer addrs (x ∷ held) h =
    let e = first_and_rest (list_any (bytes_eq x) held) (are_distinct held) h in
    let rest = fewer addrs held e.1 in
    either (λ (l : List (List ℕ)). are_distinct l ≡ true) (is_among x addrs) (without_devices addrs held) (x ∷ without_devices addrs held) rest
    (both (list_any (bytes_eq x) (without_devices addrs held)) (are_distinct (without_devices addrs held)) (none_left x addrs held e.0) rest)

-- ---- as many as stand in a table

without_first : List ℕ → List (List ℕ) → List (List ℕ)
without_first x [] = []
without_first x (y ∷ ys) = if bytes_eq y x then ys else y ∷ without_first x ys

one_less : (x : List ℕ) (table : List (List ℕ)) → IsAddressIn x table → length table ≡ length (without_first x table) + 1
unfolding without_first
one_less x [] i = absurd i
one_less x (y ∷ ys) i = by (bytes_eq y x) refl i (λ j. one_less x ys j)
  where
    by : (b : Bool) → bytes_eq y x ≡ b → IsAddressIn x (y ∷ ys) → (IsAddressIn x ys → length ys ≡ length (without_first x ys) + 1) → length (y ∷ ys) ≡ length (if b then ys else y ∷ without_first x ys) + 1
    by true e j later = omega arith
    by false e j later = elim j [ inl same ↦ absurd (true≢false (sym ((bytes_eq-Decides y x).1 (sym same)) ∙ e)) | inr k ↦ (let h = later k in omega (arith, h)) ]

still_there : (x a : List ℕ) (table : List (List ℕ)) → a ≢ x → IsAddressIn a table → IsAddressIn a (without_first x table)
unfolding without_first
still_there x a [] apart i = i
still_there x a (y ∷ ys) apart i = by (bytes_eq y x) refl i (λ j. still_there x a ys apart j)
  where
    by : (b : Bool) → bytes_eq y x ≡ b → IsAddressIn a (y ∷ ys) → (IsAddressIn a ys → IsAddressIn a (without_first x ys)) → IsAddressIn a (if b then ys else y ∷ without_first x ys)
    by true e j later = elim j [ inl same ↦ absurd (apart (same ∙ (bytes_eq-Decides y x).0 e)) | inr k ↦ k ]
    by false e j later = elim j [ inl same ↦ inl same | inr k ↦ inr (later k) ]

abbrev pub AreAllIn : List (List ℕ) → List (List ℕ) → Type 0
AreAllIn xs table = (a : List ℕ) → IsAddressIn a xs → IsAddressIn a table

none_again : (x a : List ℕ) (xs : List (List ℕ)) → list_any (bytes_eq x) xs ≡ false → IsAddressIn a xs → a ≢ x
none_again x a [] none i = absurd i
none_again x a (y ∷ ys) none i = by (bytes_eq x y) refl none (λ h j. none_again x a ys h j) i
  where
    by : (b : Bool) → bytes_eq x y ≡ b → (b || list_any (bytes_eq x) ys) ≡ false → (list_any (bytes_eq x) ys ≡ false → IsAddressIn a ys → a ≢ x) → IsAddressIn a (y ∷ ys) → a ≢ x
    by true e h later j = absurd (true≢false h)
    by false e h later j = elim j [ inl same ↦ λ is. true≢false (sym ((bytes_eq-Decides x y).1 (sym is ∙ same)) ∙ e) | inr k ↦ later h k ]

-- distinct addresses of a table are at most as many as it has
pub at_most : (xs table : List (List ℕ)) → are_distinct xs ≡ true → AreAllIn xs table → length xs ≤ length table
at_most [] table once within = omega arith
at_most (x ∷ xs) table once within =
    let e = first_and_rest (list_any (bytes_eq x) xs) (are_distinct xs) once in
    let less = one_less x table (within x (inl refl)) in
    let rest = at_most xs (without_first x table) e.1 (λ a i. still_there x a table (none_again x a xs e.0 i) (within a (inr i))) in
    omega (arith, less, rest)

-- ---- with one more, and with some more

stays_with : (a d : List ℕ) (held : List (List ℕ)) → IsAddressIn a held → IsAddressIn a (with_device held d)
stays_with a d held i = either (λ (l : List (List ℕ)). IsAddressIn a l) (is_among d held || nat_le 12 (length held)) held (held ++ d ∷ []) i (in_first a held (d ∷ []) i)

from_one : (a d : List ℕ) → IsAddressIn a (d ∷ []) → a ≡ d
from_one a d i = elim i [ inl e ↦ e | inr none ↦ absurd none ]

old_or_new : (a d : List ℕ) (held : List (List ℕ)) → IsAddressIn a (with_device held d) → IsAddressIn a held ⊎ (a ≡ d)
old_or_new a d held =
    either (λ (l : List (List ℕ)). IsAddressIn a l → IsAddressIn a held ⊎ (a ≡ d)) (is_among d held || nat_le 12 (length held)) held (held ++ d ∷ []) (λ i. inl i)
    (λ i. elim (in_either a held (d ∷ []) i) [ inl j ↦ inl j | inr j ↦ inr (from_one a d j) ])

pub all_stay_with : (a : List ℕ) (held addrs : List (List ℕ)) → IsAddressIn a held → IsAddressIn a (with_devices held addrs)
all_stay_with a held [] i = i
all_stay_with a held (d ∷ addrs) i = all_stay_with a (with_device held d) addrs (stays_with a d held i)

pub old_or_named : (a : List ℕ) (held addrs : List (List ℕ)) → IsAddressIn a (with_devices held addrs) → IsAddressIn a held ⊎ IsAddressIn a addrs
old_or_named a held [] i = inl i
old_or_named a held (d ∷ addrs) i = elim (old_or_named a (with_device held d) addrs i) [
  | inl j ↦ elim (old_or_new a d held j) [ inl k ↦ inl k | inr e ↦ inr (inl e) ]
  | inr j ↦ inr (inr j)
]

-- distinct addresses of a table
pub record AreOf (table held : List (List ℕ)) : Type 0 where
  pub once : are_distinct held ≡ true
  pub within : AreAllIn held table

one_longer : (held : List (List ℕ)) (d : List ℕ) → length (held ++ d ∷ []) ≡ length held + 1
one_longer [] d = omega arith
one_longer (x ∷ held) d = let rest = one_longer held d in omega (arith, rest)

-- so there is room for one of the table that isn't held
has_room : (table held : List (List ℕ)) (d : List ℕ) → length table ≤ 12 → AreOf table held → IsAddressIn d table → is_among d held ≡ false → length held < 12
has_room table held d few are there new =
    let longer = one_longer held d in
    let most = at_most (held ++ d ∷ []) table (appended held d are.once new) (λ a i. elim (in_either a held (d ∷ []) i) [ inl j ↦ are.within a j | inr j ↦ subst (λ (b : List ℕ). IsAddressIn b table) (sym (from_one a d j)) there ]) in
    omega (arith, few, longer, most)

has_it : (table held : List (List ℕ)) (d : List ℕ) → length table ≤ 12 → AreOf table held → IsAddressIn d table → IsAddressIn d (with_device held d)
has_it table held d few are there = by (is_among d held) (nat_le 12 (length held)) refl refl
  where
    by : (b c : Bool) → is_among d held ≡ b → nat_le 12 (length held) ≡ c → IsAddressIn d (if b || c then held else held ++ d ∷ [])
    by true c is full = is_in d held is
    by false false is full = in_last d held (d ∷ []) (inl refl)
    by false true is full = let room = has_room table held d few are there is in absurd (grind (arith, nat_tests, room, full))

one_more : (table held : List (List ℕ)) (d : List ℕ) → AreOf table held → IsAddressIn d table → AreOf table (with_device held d)
one_more table held d are there =
    record { once = one_once held d are.once; within = λ a i. elim (old_or_new a d held i) [ inl j ↦ are.within a j | inr e ↦ subst (λ (b : List ℕ). IsAddressIn b table) (sym e) there ] }

pub has_named : (a : List ℕ) (table held addrs : List (List ℕ)) → length table ≤ 12 → AreOf table held → AreAllIn addrs table → IsAddressIn a addrs → IsAddressIn a (with_devices held addrs)
has_named a table held [] few are there i = absurd i
has_named a table held (d ∷ addrs) few are there i = elim i [
  | inl e ↦ all_stay_with a (with_device held d) addrs (subst (λ (b : List ℕ). IsAddressIn b (with_device held d)) (sym e) (has_it table held d few are (there d (inl refl))))
  | inr j ↦ has_named a table (with_device held d) addrs few (one_more table held d are (there d (inl refl))) (λ b k. there b (inr k)) j
]

-- ---- without some

pub left : (a : List ℕ) (addrs held : List (List ℕ)) → IsAddressIn a (without_devices addrs held) → IsAddressIn a held × (IsAddressIn a addrs → ⊥)
left a addrs [] i = absurd i
left a addrs (x ∷ held) i = by (is_among x addrs) refl i (λ j. left a addrs held j)
  where
    by : (b : Bool) → is_among x addrs ≡ b → IsAddressIn a (if b then without_devices addrs held else x ∷ without_devices addrs held)
        → (IsAddressIn a (without_devices addrs held) → IsAddressIn a held × (IsAddressIn a addrs → ⊥)) → IsAddressIn a (x ∷ held) × (IsAddressIn a addrs → ⊥)
    by true e j later = let rest = later j in (inr rest.0, rest.1)
    by false e j later = elim j [
      | inl same ↦ (inl same, λ k. is_out x addrs e (subst (λ (y : List ℕ). IsAddressIn y addrs) same k))
      | inr k ↦ (let rest = later k in (inr rest.0, rest.1))
    ]

pub stays_without : (a : List ℕ) (addrs held : List (List ℕ)) → IsAddressIn a held → (IsAddressIn a addrs → ⊥) → IsAddressIn a (without_devices addrs held)
stays_without a addrs [] i out = i
stays_without a addrs (x ∷ held) i out = by (is_among x addrs) refl i (λ j. stays_without a addrs held j out)
  where
    by : (b : Bool) → is_among x addrs ≡ b → IsAddressIn a (x ∷ held) → (IsAddressIn a held → IsAddressIn a (without_devices addrs held)) → IsAddressIn a (if b then without_devices addrs held else x ∷ without_devices addrs held)
    by true e j later = elim j [ inl same ↦ absurd (out (subst (λ (y : List ℕ). IsAddressIn y addrs) (sym same) (is_in x addrs e))) | inr k ↦ later k ]
    by false e j later = elim j [ inl same ↦ inl same | inr k ↦ inr (later k) ]
