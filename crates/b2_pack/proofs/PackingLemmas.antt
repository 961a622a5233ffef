-- Values and numbers that are packed from the left, one step at a time.
use Rattle.std.proofs.Common.{◌≡◌, ℕ, zero, suc, ◌+◌, ◌<◌, ◌≤◌, Bool, true, false, if◌then◌else◌, List, [], ◌∷◌, ◌++◌, length, drop, take, get_or, Option, Some, None, sym, ap, ◌∙◌, refl, arith, le-ltb, lt-ltb, inl, inr, append_assoc, length-append, length-drop}
use Rattle.std.proofs.lemmas.Bool.{cases_lt, cases_Bool}
use Rattle.std.proofs.lemmas.List.{drop_more, take_at, drop_at, take-append-drop, length-take-le, drop-drop}
use Rattle.b2_pack.proofs.RowLemmas.{row_bytes-length}
use Rattle.b2_dec.specs.Number.{Number}
use Rattle.b2_dec.specs.declared.values.Value.{Value}
use Rattle.b2_pack.specs.declared.rows.Row.{Row}
use Rattle.b2_pack.specs.Rows.{row_bytes, row_fits, row_length}
use Rattle.b2_pack.specs.declared.specification.Pair.{Pair}
use Rattle.b2_pack.specs.declared.specification.Pair.TheVariants as pair
use Rattle.b2_pack.specs.Specification.{field_length}
use Rattle.b2_pack.specs.FieldValues.{value_code, bytes_in_field}
use Rattle.b2_pack.specs.Packing.{Placed, placed_from, lacks_room, written_at, earlier_code, placed_fields, fields_code, values_code, with_values, numbers_code, numbers_bytes, with_front_bytes}

-- a buffer with numbers in rows, one after another from a place on
abbrev pub with_numbers : Row → ℕ → List Number → List ℕ → List ℕ
with_numbers row at [] buffer = buffer
with_numbers row at (x ∷ xs) buffer = with_numbers row (at + row_length row) xs (written_at at (row_bytes row x) buffer)

pub cons_at : {A : Type 0} (xs : List A) (i : ℕ) (x : A) → i < length xs → x ≡ get_or xs i x → drop i xs ≡ x ∷ drop (i + 1) xs
cons_at xs i x below e = drop_more xs i x below ∙ ap (λ y. y ∷ drop (i + 1) xs) (sym e)

pub none_left : {A : Type 0} (xs : List A) (i : ℕ) → length xs ≤ i → drop i xs ≡ []
none_left [] zero h = refl
none_left [] (suc i) h = refl
none_left (x ∷ xs) zero h = absurd (omega arith)
none_left (x ∷ xs) (suc i) h = none_left xs i (omega arith)

pub code-done : (ps : List Placed) (room : ℕ) → values_code ps [] room ≡ None
code-done [] room = refl
code-done (p ∷ ps) room = refl

pub code-lacks : (ps : List Placed) (v : Value) (vs : List Value) (room : ℕ) → lacks_room ps room ≡ true → values_code ps (v ∷ vs) room ≡ Some 70
code-lacks [] v vs room e = refl
code-lacks (p ∷ ps) v vs room e = rw e refl

pub code-here : (ps qs : List Placed) (p : Placed) (v : Value) (vs : List Value) (room : ℕ) → ps ≡ p ∷ qs → p.start + field_length p.field ≤ room
    → values_code ps (v ∷ vs) room ≡ earlier_code (value_code p.field v) (values_code qs vs room)
code-here ps qs p v vs room e inside = ap (λ rs. values_code rs (v ∷ vs) room) e ∙ rw (le-ltb room (p.start + field_length p.field) inside) refl

pub code-fits : (first next : Option ℕ) → earlier_code first next ≡ None → first ≡ None
code-fits None next e = refl
code-fits (Some code) next e = e

pub code-after : (first next : Option ℕ) → earlier_code first next ≡ None → next ≡ None
code-after None next e = e
code-after (Some code) next e = absurd (cc)

-- values that have no code by a specification have none by its fields
unless_refused : (b : Bool) (code : Option ℕ) (refusal : ℕ) → (if b then code else Some refusal) ≡ None → code ≡ None
unless_refused true code refusal none = none
unless_refused false code refusal none = cc

pub values-fit : (specification : List ℕ) (vs : List Value) (room : ℕ) → fields_code specification vs room ≡ None → values_code (placed_fields specification) vs room ≡ None
values-fit specification vs room none = unless_refused _ (values_code (placed_fields specification) vs room) _ none

pub with-done : (ps : List Placed) (buffer : List ℕ) → with_values ps [] buffer ≡ buffer
with-done [] buffer = refl
with-done (p ∷ ps) buffer = refl

pub with-here : (ps qs : List Placed) (p : Placed) (v : Value) (vs : List Value) (buffer : List ℕ) → ps ≡ p ∷ qs
    → with_values ps (v ∷ vs) buffer ≡ with_values qs vs (written_at p.start (bytes_in_field p.field v) buffer)
with-here ps qs p v vs buffer e = ap (λ rs. with_values rs (v ∷ vs) buffer) e

pub numbers-short : (row : Row) (at : ℕ) (x : Number) (xs : List Number) (room : ℕ) → room < at + row_length row → numbers_code row at (x ∷ xs) room ≡ Some 70
numbers-short row at x xs room short = rw (lt-ltb room (at + row_length row) short) refl

pub numbers-large : (row : Row) (at : ℕ) (x : Number) (xs : List Number) (room : ℕ) → at + row_length row ≤ room → row_fits row x ≡ false
    → numbers_code row at (x ∷ xs) room ≡ Some 71
numbers-large row at x xs room inside large = rw (le-ltb room (at + row_length row) inside, large) refl

pub numbers-next : (row : Row) (at : ℕ) (x : Number) (xs : List Number) (room : ℕ) → at + row_length row ≤ room → row_fits row x ≡ true
    → numbers_code row at (x ∷ xs) room ≡ numbers_code row (at + row_length row) xs room
numbers-next row at x xs room inside fits = rw (le-ltb room (at + row_length row) inside, fits) refl

pub code-lacks_any : (ps : List Placed) (vs : List Value) (room : ℕ) → lacks_room ps room ≡ true → 0 < length vs → values_code ps vs room ≡ Some 70
code-lacks_any ps [] room e some = absurd (omega arith)
code-lacks_any ps (v ∷ vs) room e some = code-lacks ps v vs room e

-- a place past the end of the buffer
pub lacks_room-past : (pairs : List Pair) (at room : ℕ) → room < at → lacks_room (placed_from at pairs) room ≡ true
lacks_room-past [] at room far = refl
lacks_room-past (pair.Skip width ∷ pairs) at room far = lacks_room-past pairs (at + width) room (omega arith)
lacks_room-past (pair.Holding f ∷ pairs) at room far = lt-ltb room (at + field_length f) (omega arith)

numbers-inside : (row : Row) (at : ℕ) (x : Number) (xs : List Number) (room : ℕ) → numbers_code row at (x ∷ xs) room ≡ None → at + row_length row ≤ room
numbers-inside row at x xs room none =
    elim (cases_lt room (at + row_length row)) [
      | inl short ↦ absurd (never 70 (sym (numbers-short row at x xs room short) ∙ none))
      | inr inside ↦ inside
    ]
  where
    never : (n : ℕ) → Some n ≡ None → ⊥
    never n e = cc

numbers-further : (row : Row) (at : ℕ) (x : Number) (xs : List Number) (room : ℕ) → numbers_code row at (x ∷ xs) room ≡ None → numbers_code row (at + row_length row) xs room ≡ None
numbers-further row at x xs room none =
    let inside = numbers-inside row at x xs room none in
    elim (cases_Bool (row_fits row x)) [
      | inl fits ↦ sym (numbers-next row at x xs room inside fits) ∙ none
      | inr large ↦ absurd (never 71 (sym (numbers-large row at x xs room inside large) ∙ none))
    ]
  where
    never : (n : ℕ) → Some n ≡ None → ⊥
    never n e = cc

-- rows that are written one after another stand side by side
numbers-over : (row : Row) (at : ℕ) (xs : List Number) (buffer : List ℕ) → numbers_code row at xs (length buffer) ≡ None
    → with_numbers row at xs buffer ≡ take at buffer ++ (numbers_bytes row xs ++ drop (at + length (numbers_bytes row xs)) buffer)
numbers-over row at [] buffer none = sym (take-append-drop at buffer) ∙ ap (λ k. take at buffer ++ drop k buffer) (let e : at ≡ at + 0 = omega arith in e)
numbers-over row at (x ∷ xs) buffer none =
    let bytes : List ℕ = row_bytes row x in
    let wide : length bytes ≡ row_length row = row_bytes-length row x in
    let inside = numbers-inside row at x xs (length buffer) none in
    let next : List ℕ = written_at at bytes buffer in
    let rest : List ℕ = drop (at + length bytes) buffer in
    let more : List ℕ = numbers_bytes row xs in
    let front : length (take at buffer) ≡ at = length-take-le at buffer (omega arith) in
    let split : next ≡ (take at buffer ++ bytes) ++ rest = sym (append_assoc (take at buffer) bytes rest) in
    let end : length (take at buffer ++ bytes) ≡ at + row_length row = omega (arith, length-append (take at buffer) bytes) in
    let long : length next ≡ length buffer = omega (arith, length-append (take at buffer) (bytes ++ rest), length-append bytes rest, length-drop (at + length bytes) buffer) in
    let taken : take (at + row_length row) next ≡ take at buffer ++ bytes = ap (take (at + row_length row)) split ∙ take_at (take at buffer ++ bytes) rest (at + row_length row) end in
    let left : drop (at + row_length row) next ≡ rest = ap (drop (at + row_length row)) split ∙ drop_at (take at buffer ++ bytes) rest (at + row_length row) end in
    let after : drop (at + row_length row + length more) next ≡ drop (at + length (bytes ++ more)) buffer =
    sym (drop-drop (length more) (at + row_length row) next) ∙ ap (drop (length more)) left ∙ drop-drop (length more) (at + length bytes) buffer
    ∙ ap (λ k. drop k buffer) (let e : at + length bytes + length more ≡ at + length (bytes ++ more) = omega (arith, length-append bytes more) in e) in
    numbers-over row (at + row_length row) xs next (ap (numbers_code row (at + row_length row) xs) long ∙ numbers-further row at x xs (length buffer) none)
    ∙ ap (λ t. t ++ (more ++ drop (at + row_length row + length more) next)) taken
    ∙ ap (λ t. (take at buffer ++ bytes) ++ (more ++ t)) after
    ∙ append_assoc (take at buffer) bytes (more ++ drop (at + length (bytes ++ more)) buffer)
    ∙ ap (λ t. take at buffer ++ t) (sym (append_assoc bytes more (drop (at + length (bytes ++ more)) buffer)))

pub numbers-front : (row : Row) (xs : List Number) (buffer : List ℕ) → numbers_code row 0 xs (length buffer) ≡ None → with_numbers row 0 xs buffer ≡ with_front_bytes (numbers_bytes row xs) buffer
numbers-front row xs buffer none = numbers-over row 0 xs buffer none ∙ ap (λ k. numbers_bytes row xs ++ drop k buffer) (let e : 0 + length (numbers_bytes row xs) ≡ length (numbers_bytes row xs) = omega arith in e)
