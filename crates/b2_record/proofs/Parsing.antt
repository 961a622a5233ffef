-- Reading the values of a sector: what was read, what follows, and when nothing is spelled.
use Rattle.std.proofs.Common.{◌≡◌, ℕ, ◌-◌, ◌≤◌, Bool, true, false, List, [], ◌∷◌, ◌++◌, length, drop, replicate, get_or, sym, refl, ap, ap₂, ◌∙◌, arith, append_assoc, append-nil, length-append, length-drop}
use Rattle.std.specs.List.{list_all}
use Rattle.std.proofs.lemmas.List.{length-replicate}
use Rattle.b2_base.specs.Lexical.{first}
use Rattle.b2_dec.specs.declared.values.Value.{Value}
use Rattle.b2_platter.specs.Layout.{is_zero}
use Rattle.b2_platter.proofs.Zeros.{zeros-all, zeros-none}
use Rattle.b2_record.specs.declared.items.TheConstants.{END_OF_VALUES}
use Rattle.b2_record.specs.declared.sectors.TheConstants.{ROOM, ONLY, FIRST, MIDDLE, LAST}
use Rattle.b2_record.specs.Items.{value_spelled, group_bytes, IsStorable, AllStorable}
use Rattle.b2_record.specs.Records.{IsGroup, sector_of, sector_kind}
use Rattle.b2_record.proofs.Values.{rest_of_values, value-not_end, bytes_joined, group_unique}

pub storable-joined : (a b : List Value) → AllStorable a → AllStorable b → AllStorable (a ++ b)
storable-joined [] b h k = k
storable-joined (v ∷ a) b h k = (h.0, storable-joined a b h.1 k)

pub storable-right : (a b : List Value) → AllStorable (a ++ b) → AllStorable b
storable-right [] b h = h
storable-right (v ∷ a) b h = storable-right a b h.1

pub storable-left : (a b : List Value) → AllStorable (a ++ b) → AllStorable a
storable-left [] b h = tt
storable-left (v ∷ a) b h = (h.0, storable-left a b h.1)

pub read-more : (bytes rest after : List ℕ) (values : List Value) (v : Value) → bytes ≡ group_bytes values ++ rest → rest ≡ value_spelled v ++ after
    → bytes ≡ group_bytes (values ++ v ∷ []) ++ after
read-more bytes rest after values v e k =
    e ∙ (ap (λ t. group_bytes values ++ t) k
    ∙ (sym (append_assoc (group_bytes values) (value_spelled v) after)
    ∙ ap (λ t. t ++ after) (ap (λ t. group_bytes values ++ t) (sym (append-nil (value_spelled v))) ∙ sym (bytes_joined values (v ∷ [])))))

first-cons : (rest : List ℕ) → first rest ≡ END_OF_VALUES → rest ≡ END_OF_VALUES ∷ drop 1 rest
first-cons [] h = cc
first-cons (b ∷ rest) h = ap (λ t. t ∷ rest) h

-- nothing is spelled where neither a value nor the end follows
pub no-group : (bytes rest : List ℕ) (values group : List Value) → bytes ≡ group_bytes values ++ rest → AllStorable values → (first rest ≡ END_OF_VALUES → ⊥)
    → ((v : Value) (after : List ℕ) → IsStorable v → rest ≡ value_spelled v ++ after → ⊥) → IsGroup group bytes → ⊥
no-group bytes rest values group e h other none is =
    let found = rest_of_values values rest group (replicate is.zeros 0) h is.storable (sym e ∙ is.same) in
    no-more found.0 found.1 found.3
  where
    no-more : (more : List Value) → AllStorable more → rest ≡ group_bytes more ++ END_OF_VALUES ∷ replicate is.zeros 0 → ⊥
    no-more [] k same = other (ap first same)
    no-more (w ∷ more) k same = none w (group_bytes more ++ END_OF_VALUES ∷ replicate is.zeros 0) k.0 (same ∙ append_assoc (value_spelled w) (group_bytes more) (END_OF_VALUES ∷ replicate is.zeros 0))

-- or where something else than 00 follows the end
pub no-zeros : (bytes rest : List ℕ) (values group : List Value) → bytes ≡ group_bytes values ++ rest → AllStorable values → first rest ≡ END_OF_VALUES
    → list_all is_zero (drop 1 rest) ≡ false → IsGroup group bytes → ⊥
no-zeros bytes rest values group e h end other is =
    let found = rest_of_values values rest group (replicate is.zeros 0) h is.storable (sym e ∙ is.same) in
    no-more found.0 found.1 found.3
  where
    no-more : (more : List Value) → AllStorable more → rest ≡ group_bytes more ++ END_OF_VALUES ∷ replicate is.zeros 0 → ⊥
    no-more [] k same = let all = ap (λ t. list_all is_zero (drop 1 t)) same ∙ zeros-none is.zeros in cc
    no-more (w ∷ more) k same =
        value-not_end w (group_bytes more ++ END_OF_VALUES ∷ replicate is.zeros 0) (drop 1 rest) k.0
        (sym (append_assoc (value_spelled w) (group_bytes more) (END_OF_VALUES ∷ replicate is.zeros 0)) ∙ (sym same ∙ first-cons rest end))

pub whole-group : (bytes rest : List ℕ) (values : List Value) → bytes ≡ group_bytes values ++ rest → AllStorable values → first rest ≡ END_OF_VALUES
    → list_all is_zero (drop 1 rest) ≡ true → IsGroup values bytes
whole-group bytes rest values e h end zeros = record {
  storable = h;
  zeros = length (drop 1 rest);
  same = e ∙ ap (λ t. group_bytes values ++ t) (first-cons rest end ∙ ap (λ t. END_OF_VALUES ∷ t) (zeros-all (drop 1 rest) zeros));
}

-- ---- a whole sector

pub sector-of : (a b : ℕ) (bytes : List ℕ) (values : List Value) → length bytes ≡ 254 → IsGroup values bytes → a ∷ b ∷ bytes ≡ sector_of a b values
sector-of a b bytes values n is =
    let all = ap length is.same in
    let parts = length-append (group_bytes values) (END_OF_VALUES ∷ replicate is.zeros 0) in
    let zeros = length-replicate {A = ℕ} is.zeros 0 in
    let free : is.zeros ≡ ROOM - length (group_bytes values) = omega (arith, all, parts, zeros, n) in
    ap (λ t. a ∷ b ∷ t) (is.same ∙ ap (λ t. group_bytes values ++ END_OF_VALUES ∷ replicate t 0) free)

pub sector-group : (kind number : ℕ) (bytes : List ℕ) (values : List Value) → AllStorable values → bytes ≡ sector_of kind number values → IsGroup values (drop 2 bytes)
sector-group kind number bytes values h e = record { storable = h; zeros = ROOM - length (group_bytes values); same = ap (drop 2) e }

pub kind-unique : (first a b : Bool) → sector_kind first a ≡ sector_kind first b → a ≡ b
kind-unique start true true e = refl
kind-unique start false false e = refl
kind-unique true true false e = let bad : ONLY ≡ FIRST = e in absurd (omega (arith, bad))
kind-unique true false true e = let bad : FIRST ≡ ONLY = e in absurd (omega (arith, bad))
kind-unique false true false e = let bad : LAST ≡ MIDDLE = e in absurd (omega (arith, bad))
kind-unique false false true e = let bad : MIDDLE ≡ LAST = e in absurd (omega (arith, bad))

pub sector-unique : (number : ℕ) (first a b : Bool) (g h : List Value) → AllStorable g → AllStorable h → sector_of (sector_kind first a) number g ≡ sector_of (sector_kind first b) number h
    → (a ≡ b) × (g ≡ h)
sector-unique number first a b g h s t e =
    let kind : sector_kind first a ≡ sector_kind first b = ap (λ (xs : List ℕ). get_or xs 0 0) e in
    let rest = ap (drop 2) e in
    let same = group_unique g h (replicate (ROOM - length (group_bytes g)) 0) (replicate (ROOM - length (group_bytes h)) 0) s t rest in
    (kind-unique first a b kind, same.0)

pub whole-sector : (bytes : List ℕ) (kind number : ℕ) (values : List Value) → length bytes ≡ 256 → get_or bytes 0 0 ≡ kind → get_or bytes 1 0 ≡ number → IsGroup values (drop 2 bytes)
    → bytes ≡ sector_of kind number values
whole-sector [] kind number values n a b is = cc
whole-sector (x ∷ []) kind number values n a b is = absurd (omega (arith, n))
whole-sector (x ∷ y ∷ bytes) kind number values n a b is =
    let shorter : length bytes ≡ 254 = omega (arith, n) in
    sector-of x y bytes values shorter is ∙ ap₂ (λ k m. sector_of k m values) a b

pub group-room : (bytes : List ℕ) (values : List Value) → length bytes ≡ 256 → IsGroup values (drop 2 bytes) → length (group_bytes values) ≤ 253
group-room bytes values n is =
    let all = ap length is.same in
    let parts = length-append (group_bytes values) (END_OF_VALUES ∷ replicate is.zeros 0) in
    omega (arith, all, parts, n, length-drop 2 bytes)
