-- At one place one record begins at most, and a list of values has one record.
use Rattle.std.proofs.Common.{◌≡◌, ℕ, zero, suc, ◌+◌, ◌-◌, ◌≤◌, ◌==◌, true, false, List, [], ◌∷◌, ◌++◌, length, map, sym, refl, ap, ap₂, ◌∙◌, subst, arith, append-nil, inl, inr}
use Rattle.std.specs.List.{range_with_len}
use Rattle.std.proofs.lemmas.Bool.{cases_lt}
use Rattle.b2_dec.specs.declared.values.Value.{Value}
use Rattle.b2_platter.specs.Image.{sector, sectors_at}
use Rattle.b2_record.specs.Items.{AllStorable}
use Rattle.b2_record.specs.Records.{is_record, is_none, all_values, sector_of, sector_kind, sectors_from, Spells}
use Rattle.b2_record.specs.Writing.{groups_of, record_of}
use Rattle.b2_record.proofs.Groups.{groups_of-only, length-sectors}
use Rattle.b2_record.proofs.Parsing.{storable-left, storable-right, sector-unique}

none-same : (g : List (List Value)) → is_none g ≡ true → g ≡ []
none-same [] h = refl
none-same (x ∷ g) h = cc

-- sectors that begin alike have the same values
groups-unique : (k : ℕ) (g h : List (List Value)) (s t : List (List ℕ)) → AllStorable (all_values g) → AllStorable (all_values h) → is_none g ≡ false → is_none h ≡ false
    → sectors_from k g ++ s ≡ sectors_from k h ++ t → g ≡ h
groups-unique k [] h s t a b some others e = cc
groups-unique k (x ∷ g) [] s t a b some others e = cc
groups-unique k (x ∷ []) (y ∷ []) s t a b some others e =
    let here : sector_of (sector_kind (k == 1) true) k x ≡ sector_of (sector_kind (k == 1) true) k y = cc in
    ap (λ u. u ∷ []) (sector-unique k (k == 1) true true x y (storable-left x [] a) (storable-left y [] b) here).1
groups-unique k (x ∷ []) (y ∷ z ∷ h) s t a b some others e =
    let here : sector_of (sector_kind (k == 1) true) k x ≡ sector_of (sector_kind (k == 1) false) k y = cc in
    let bad = (sector-unique k (k == 1) true false x y (storable-left x [] a) (storable-left y (all_values (z ∷ h)) b) here).0 in cc
groups-unique k (x ∷ z ∷ g) (y ∷ []) s t a b some others e =
    let here : sector_of (sector_kind (k == 1) false) k x ≡ sector_of (sector_kind (k == 1) true) k y = cc in
    let bad = (sector-unique k (k == 1) false true x y (storable-left x (all_values (z ∷ g)) a) (storable-left y [] b) here).0 in cc
groups-unique k (x ∷ z ∷ g) (y ∷ w ∷ h) s t a b some others e =
    let here : sector_of (sector_kind (k == 1) false) k x ≡ sector_of (sector_kind (k == 1) false) k y = cc in
    let rest : sectors_from (k + 1) (z ∷ g) ++ s ≡ sectors_from (k + 1) (w ∷ h) ++ t = cc in
    let same = sector-unique k (k == 1) false false x y (storable-left x (all_values (z ∷ g)) a) (storable-left y (all_values (w ∷ h)) b) here in
    ap₂ (λ u us. u ∷ us) same.1 (groups-unique (k + 1) (z ∷ g) (w ∷ h) s t (storable-right x (all_values (z ∷ g)) a) (storable-right y (all_values (w ∷ h)) b) refl refl rest)

pub some-record : (g : List (List Value)) → is_record g ≡ true → is_none g ≡ false
some-record [] h = cc
some-record (x ∷ g) h = refl

-- two records of which one begins the other
pub begins-unique : (a b : List Value) (x y s t : List (List ℕ)) (p : Spells a x) (q : Spells b y) → x ++ s ≡ y ++ t → p.groups ≡ q.groups
begins-unique a b x y s t p q e =
    groups-unique 1 p.groups q.groups s t (subst AllStorable (sym p.all) p.storable) (subst AllStorable (sym q.all) q.storable) (some-record p.groups p.split) (some-record q.groups q.split)
    (ap (λ u. u ++ s) p.same ∙ (e ∙ ap (λ u. u ++ t) (sym q.same)))

pub reading-unique : (a b : List Value) (sectors : List (List ℕ)) → Spells a sectors → Spells b sectors → a ≡ b
reading-unique a b sectors p q = sym p.all ∙ (ap all_values (begins-unique a b sectors sectors [] [] p q refl) ∙ q.all)

pub record-unique : (values : List Value) (sectors : List (List ℕ)) → Spells values sectors → sectors ≡ record_of values
record-unique values sectors p =
    sym p.same ∙ ap (sectors_from 1) (sym (groups_of-only p.groups p.split) ∙ ap groups_of p.all)

-- ---- at a place of an image

more-sectors : (f : ℕ → List ℕ) (at m k : ℕ) → map f (range_with_len at (m + k)) ≡ map f (range_with_len at m) ++ map f (range_with_len (at + m) k)
more-sectors f at zero k = let none : 0 + k ≡ k = omega arith in let here : at ≡ at + 0 = omega arith in ap₂ (λ n p. map f (range_with_len p n)) none here
more-sectors f at (suc m) k =
    let less : suc m + k ≡ suc (m + k) = omega arith in
    let here : at + 1 + m ≡ at + suc m = omega arith in
    ap (λ n. map f (range_with_len at n)) less ∙ ap (λ u. f at ∷ u) (more-sectors f (at + 1) m k ∙ ap (λ p. map f (range_with_len (at + 1) m) ++ map f (range_with_len p k)) here)

pub length-at : (f : ℕ → List ℕ) (at n : ℕ) → length (map f (range_with_len at n)) ≡ n
length-at f at zero = refl
length-at f at (suc n) = ap suc (length-at f (at + 1) n)

pub record-length : (image : List ℕ) (at n : ℕ) (a : List Value) (p : Spells a (sectors_at image at n)) → length p.groups ≡ n
record-length image at n a p = sym (length-sectors 1 p.groups) ∙ (ap length p.same ∙ length-at (sector image) at n)

begins-shorter : (image : List ℕ) (at m n : ℕ) (a b : List Value) (p : Spells a (sectors_at image at m)) (q : Spells b (sectors_at image at n)) → m ≤ n → p.groups ≡ q.groups
begins-shorter image at m n a b p q h =
    let all : m + (n - m) ≡ n = omega (arith, h) in
    let parts = more-sectors (sector image) at m (n - m) in
    begins-unique a b (sectors_at image at m) (sectors_at image at n) (map (sector image) (range_with_len (at + m) (n - m))) [] p q
    (sym parts ∙ (ap (λ k. sectors_at image at k) all ∙ sym (append-nil (sectors_at image at n))))

pub begins-same : (image : List ℕ) (at m n : ℕ) (a b : List Value) (p : Spells a (sectors_at image at m)) (q : Spells b (sectors_at image at n)) → p.groups ≡ q.groups
begins-same image at m n a b p q =
    elim (cases_lt m n) [
      | inl less ↦ begins-shorter image at m n a b p q (omega (arith, less))
      | inr more ↦ sym (begins-shorter image at n m b a q p more)
    ]

pub length-unique : (image : List ℕ) (at m n : ℕ) (a b : List Value) → Spells a (sectors_at image at m) → Spells b (sectors_at image at n) → m ≡ n
length-unique image at m n a b p q = sym (record-length image at m a p) ∙ (ap length (begins-same image at m n a b p q) ∙ record-length image at n b q)

pub values-unique : (image : List ℕ) (at m n : ℕ) (a b : List Value) → Spells a (sectors_at image at m) → Spells b (sectors_at image at n) → a ≡ b
values-unique image at m n a b p q = sym p.all ∙ (ap all_values (begins-same image at m n a b p q) ∙ q.all)
