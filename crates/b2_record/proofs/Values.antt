-- Values are told apart by their bytes.
use Rattle.std.proofs.Common.{◌≡◌, ℕ, ◌+◌, ◌-◌, ◌*◌, ◌/◌, ◌%◌, Bool, true, false, if◌then◌else◌, List, [], ◌∷◌, ◌++◌, length, sym, refl, ap, ap₂, ◌∙◌, arith, nat_lt, append_assoc}
use Rattle.b2_dec.specs.Number.{Number, IsNumber}
use Rattle.b2_dec.specs.Packing.{packed, packed_digits, signs, exponent_size, pairs_value}
use Rattle.b2_dec.proofs.Nibbles.{pairs_value-packed, packed_digits-most, packed_digits-joined, exponent-packed_digits, coef-packed_digits}
use Rattle.b2_dec.specs.declared.values.Value.{Value}
use Rattle.b2_dec.specs.declared.values.Value.TheVariants as value
use Rattle.b2_record.specs.declared.items.TheConstants.{NUMBER, ALPHA, END_OF_VALUES}
use Rattle.b2_record.specs.Items.{value_spelled, group_bytes, IsStorable, AllStorable}

-- ---- numbers

same-all : (x y : Number) → IsNumber x → IsNumber y → packed x ≡ packed y → signs x * 1000000000000000 + packed_digits x ≡ signs y * 1000000000000000 + packed_digits y
same-all x y h k e = sym (pairs_value-packed x (packed_digits-most x h)) ∙ ap (pairs_value 0) e ∙ pairs_value-packed y (packed_digits-most y k)

same-digits : (x y : Number) → IsNumber x → IsNumber y → packed x ≡ packed y → packed_digits x ≡ packed_digits y
same-digits x y h k e =
    sym (packed_digits-joined (signs x) (packed_digits x) (packed_digits-most x h)) ∙ ap (λ t. t % 1000000000000000) (same-all x y h k e) ∙ packed_digits-joined (signs y) (packed_digits y) (packed_digits-most y k)

same-signs : (x y : Number) → IsNumber x → IsNumber y → packed x ≡ packed y → signs x ≡ signs y
same-signs x y h k e = omega (arith, same-all x y h k e, same-digits x y h k e)

same-coef : (x y : Number) → IsNumber x → IsNumber y → packed x ≡ packed y → x.coef ≡ y.coef
same-coef x y h k e = sym (coef-packed_digits x h) ∙ ap (λ t. t % 10000000000000) (same-digits x y h k e) ∙ coef-packed_digits y k

same-exponent : (x y : Number) → IsNumber x → IsNumber y → packed x ≡ packed y → exponent_size x ≡ exponent_size y
same-exponent x y h k e = sym (exponent-packed_digits x h) ∙ ap (λ t. t / 10000000000000) (same-digits x y h k e) ∙ exponent-packed_digits y k

-- the two signs and the size of the exponent give the sign and the place
same-parts : (a b : Bool) (p q : ℕ)
    → ((if a then 1 else 0) + (if nat_lt p 99 then 8 else 0)) ≡ ((if b then 1 else 0) + (if nat_lt q 99 then 8 else 0))
    → (if nat_lt p 99 then 99 - p else p - 99) ≡ (if nat_lt q 99 then 99 - q else q - 99) → (a ≡ b) × (p ≡ q)
same-parts true true p q s e = (refl, grind arith)
same-parts false false p q s e = (refl, grind arith)
same-parts true false p q s e = absurd (grind arith)
same-parts false true p q s e = absurd (grind arith)

made : (x y : Number) → x.neg ≡ y.neg → x.coef ≡ y.coef → x.place ≡ y.place → x ≡ y
made x y s c p =
    ap (λ t. record { neg = t; coef = x.coef; place = x.place }) s
    ∙ ap₂ (λ t u. record { neg = y.neg; coef = t; place = u }) c p

pub packed-unique : (x y : Number) → IsNumber x → IsNumber y → packed x ≡ packed y → x ≡ y
packed-unique x y h k e =
    let parts = same-parts x.neg y.neg x.place y.place (same-signs x y h k e) (same-exponent x y h k e) in
    made x y parts.0 (same-coef x y h k e) parts.1

-- ---- lists of one length

pub split_alike : (a b s t : List ℕ) → length a ≡ length b → a ++ s ≡ b ++ t → (a ≡ b) × (s ≡ t)
split_alike [] [] s t n e = (refl, e)
split_alike [] (y ∷ b) s t n e = cc
split_alike (x ∷ a) [] s t n e = cc
split_alike (x ∷ a) (y ∷ b) s t n e =
    let rest = split_alike a b s t (cc) (cc) in
    let first : x ≡ y = cc in
    (ap₂ (λ u us. u ∷ us) first rest.0, rest.1)

-- ---- values

pub value_unique : (v w : Value) (s t : List ℕ) → IsStorable v → IsStorable w → value_spelled v ++ s ≡ value_spelled w ++ t → (v ≡ w) × (s ≡ t)
value_unique (value.Number x) (value.Number y) s t h k e =
    let parts = split_alike (value_spelled (value.Number x)) (value_spelled (value.Number y)) s t refl e in
    let same : packed x ≡ packed y = cc in
    (ap value.Number (packed-unique x y h k same), parts.1)
value_unique (value.Number x) (value.Alpha b) s t h k e = let bad : NUMBER ≡ ALPHA + length b = cc in absurd (omega (arith, bad, k.0))
value_unique (value.Alpha a) (value.Number y) s t h k e = let bad : ALPHA + length a ≡ NUMBER = cc in absurd (omega (arith, bad, h.0))
value_unique (value.Alpha a) (value.Alpha b) s t h k e =
    let lead : ALPHA + length a ≡ ALPHA + length b = cc in
    let len : length a ≡ length b = omega (arith, lead) in
    let rest : a ++ s ≡ b ++ t = cc in
    let parts = split_alike a b s t len rest in
    (ap value.Alpha parts.0, parts.1)

-- no value begins with the byte that ends values
pub value-not_end : (v : Value) (s t : List ℕ) → IsStorable v → value_spelled v ++ s ≡ END_OF_VALUES ∷ t → ⊥
value-not_end (value.Number x) s t h e = let bad : NUMBER ≡ END_OF_VALUES = cc in cc
value-not_end (value.Alpha a) s t h e = let bad : ALPHA + length a ≡ END_OF_VALUES = cc in omega (arith, bad, h.1)

-- ---- values one after the other

pub bytes_joined : (a b : List Value) → group_bytes (a ++ b) ≡ group_bytes a ++ group_bytes b
bytes_joined [] b = refl
bytes_joined (v ∷ a) b = ap (λ t. value_spelled v ++ t) (bytes_joined a b) ∙ sym (append_assoc (value_spelled v) (group_bytes a) (group_bytes b))

-- what follows some values that were read
pub rest_of_values : (values : List Value) (rest : List ℕ) (group : List Value) (tail : List ℕ) → AllStorable values → AllStorable group
    → group_bytes values ++ rest ≡ group_bytes group ++ END_OF_VALUES ∷ tail
    → (more : List Value) × AllStorable more × (group ≡ values ++ more) × (rest ≡ group_bytes more ++ END_OF_VALUES ∷ tail)
rest_of_values [] rest group tail h k e = (group, k, refl, e)
rest_of_values (v ∷ values) rest [] tail h k e =
    absurd (value-not_end v (group_bytes values ++ rest) tail h.0 (sym (append_assoc (value_spelled v) (group_bytes values) rest) ∙ e))
rest_of_values (v ∷ values) rest (w ∷ group) tail h k e =
    let here : value_spelled v ++ (group_bytes values ++ rest) ≡ value_spelled w ++ (group_bytes group ++ END_OF_VALUES ∷ tail) =
    sym (append_assoc (value_spelled v) (group_bytes values) rest) ∙ (e ∙ append_assoc (value_spelled w) (group_bytes group) (END_OF_VALUES ∷ tail)) in
    let parts = value_unique v w (group_bytes values ++ rest) (group_bytes group ++ END_OF_VALUES ∷ tail) h.0 k.0 here in
    let found = rest_of_values values rest group tail h.1 k.1 parts.1 in
    (found.0, found.1, ap₂ (λ u us. u ∷ us) (sym parts.0) found.2, found.3)

pub group_unique : (a b : List Value) (s t : List ℕ) → AllStorable a → AllStorable b
    → group_bytes a ++ END_OF_VALUES ∷ s ≡ group_bytes b ++ END_OF_VALUES ∷ t → (a ≡ b) × (s ≡ t)
group_unique [] [] s t h k e = (refl, cc)
group_unique [] (w ∷ b) s t h k e = absurd (value-not_end w (group_bytes b ++ END_OF_VALUES ∷ t) s k.0 (sym (append_assoc (value_spelled w) (group_bytes b) (END_OF_VALUES ∷ t)) ∙ sym e))
group_unique (v ∷ a) [] s t h k e = absurd (value-not_end v (group_bytes a ++ END_OF_VALUES ∷ s) t h.0 (sym (append_assoc (value_spelled v) (group_bytes a) (END_OF_VALUES ∷ s)) ∙ e))
group_unique (v ∷ a) (w ∷ b) s t h k e =
    let here = sym (append_assoc (value_spelled v) (group_bytes a) (END_OF_VALUES ∷ s)) ∙ (e ∙ append_assoc (value_spelled w) (group_bytes b) (END_OF_VALUES ∷ t)) in
    let parts = value_unique v w (group_bytes a ++ END_OF_VALUES ∷ s) (group_bytes b ++ END_OF_VALUES ∷ t) h.0 k.0 here in
    let rest = group_unique a b s t h.1 k.1 parts.1 in
    (ap₂ (λ u us. u ∷ us) parts.0 rest.0, rest.1)
