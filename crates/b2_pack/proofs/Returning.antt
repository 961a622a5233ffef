-- What is packed is unpacked again.
use Rattle.std.proofs.Common.{◌≡◌, ℕ, zero, suc, ◌+◌, ◌-◌, ◌<◌, ◌≤◌, ◌==◌, true, false, List, [], ◌∷◌, ◌++◌, length, take, drop, map, replicate, Option, Some, None, Ok, Err, sym, ap, ap₂, ◌∙◌, refl, arith, inl, inr, eq-eqb, eqb-true, append_assoc, length-append, length-drop, if◌then◌else◌}
use Rattle.std.proofs.lemmas.Bool.{cases_Bool, cases_lt}
use Rattle.std.proofs.lemmas.List.{take_at, drop_at, drop-drop}
use Rattle.b2_base.specs.Lexical.{skip_blanks}
use Rattle.b2_dec.specs.Number.{Number, IsNumber}
use Rattle.b2_dec.specs.declared.values.Value.{Value}
use Rattle.b2_dec.specs.declared.values.Value.TheVariants as value
use Rattle.b2_dectext.specs.NumberText.{number_len, number_read, sign_len, mantissa_len, fraction_part}
use Rattle.b2_dectext.specs.Printed.{as_shown, without_spaces}
use Rattle.b2_dectext.proofs.ShownBack.{shown-len, shown-read}
use Rattle.b2_pack.specs.declared.rows.Row.{Row}
use Rattle.b2_pack.specs.declared.specification.Field.{Field}
use Rattle.b2_pack.specs.declared.specification.Field.TheVariants as field
use Rattle.b2_pack.specs.Rows.{row_bytes, row_fits, number_of_row, row_length}
use Rattle.b2_pack.specs.Specification.{digits_row, field_length}
use Rattle.b2_dectext.specs.FieldParts.{right_aligned}
use Rattle.b2_pack.specs.FieldValues.{text_number, number_or, as_value, value_code, bytes_in_field, field_value}
use Rattle.b2_pack.specs.Packing.{Placed, values_code, numbers_bytes}
use Rattle.b2_pack.specs.Unpacking.{before_items, values_in, numbers_in}
use Rattle.b2_pack.specs.Laws.{Holds, FieldKeeps, EachFieldKeeps, kept, all_kept, value_kind, AreSpelled}
use Rattle.b2_pack.proofs.RowLemmas.{row_bytes-length}
use Rattle.b2_pack.proofs.UnpackedLemmas.{unpacked-packed}
use Rattle.b2_pack.proofs.PackingLemmas.{code-here, code-fits, code-after}
use Rattle.b2_pack.proofs.ReadingLemmas.{values-here, numbers-here}
use Rattle.b2_pack.proofs.RoundTrips.{row-back}
use Rattle.b2_pack.proofs.Standing.{fits-if, never, inside-room}

skip-blanks : (n : ℕ) (text : List ℕ) → skip_blanks (replicate n 32 ++ text) ≡ skip_blanks text
skip-blanks zero text = refl
skip-blanks (suc n) text = skip-blanks n text

-- no number begins with a blank
blank-first : (text : List ℕ) → number_len (32 ∷ text) ≡ 0
unfolding number_len sign_len mantissa_len fraction_part
blank-first text = refl

no-blank : (text : List ℕ) → 0 < number_len text → skip_blanks text ≡ text
no-blank [] some = refl
no-blank (b ∷ bs) some =
    elim (cases_Bool (b == 32)) [
      | inl same ↦
          let none : number_len (b ∷ bs) ≡ 0 = ap (λ c. number_len (c ∷ bs)) (eqb-true b 32 same) ∙ blank-first bs in
          absurd (omega arith)
      | inr other ↦ rw other refl
    ]

some-number : (text : List ℕ) (x : Number) → number_read text ≡ Some x → 0 < number_len text
unfolding number_read
some-number text x e =
    elim (cases_Bool (number_len text == 0)) [
      | inl none ↦ absurd (nothing x (sym (rw none refl) ∙ e))
      | inr some ↦
          elim (cases_lt 0 (number_len text)) [
            | inl more ↦ more
            | inr less ↦ absurd (wrong some (eq-eqb (number_len text) 0 (omega arith)))
          ]
    ]
  where
    nothing : (y : Number) → (let none : Option Number = None in none) ≡ Some y → ⊥
    nothing y h = cc

    wrong : (number_len text == 0) ≡ false → (number_len text == 0) ≡ true → ⊥
    wrong f t = cc

text-back : (width : ℕ) (x : Number) → IsNumber x → text_number (right_aligned width (without_spaces x)) ≡ Ok (as_shown x)
text-back width x h =
    let text : List ℕ = without_spaces x in
    let number : number_read text ≡ Some (as_shown x) = shown-read x h in
    let left : skip_blanks (right_aligned width text) ≡ text = skip-blanks (width - length text) text ∙ no-blank text (some-number text (as_shown x) number) in
    ap (λ t. if number_len t == length t then number_or 73 (number_read t) else Err 73) left
    ∙ ap (λ b. if b then number_or 73 (number_read text) else Err 73) (eq-eqb (number_len text) (length text) (shown-len x h))
    ∙ ap (number_or 73) number

pub value-back : (f : Field) (v : Value) → value_code f v ≡ None → FieldKeeps f v → field_value f (value_kind v) (bytes_in_field f v) ≡ Ok (kept f v)
value-back (field.Text w) (value.Number x) none exact = ap as_value (text-back w x exact)
value-back (field.Text w) (value.Alpha a) none exact = absurd (never 74 none)
value-back (field.Digits d w) (value.Number x) none exact = ap as_value (row-back (digits_row d w) x (fits-if (row_fits (digits_row d w) x) 71 none) exact)
value-back (field.Digits d w) (value.Alpha a) none exact = absurd (never 74 none)
value-back field.Packed (value.Number x) none exact = ap (λ o. as_value (number_or 76 o)) (unpacked-packed x exact)
value-back field.Packed (value.Alpha a) none exact = absurd (never 74 none)
value-back (field.Alpha w) (value.Number x) none exact = absurd (never 74 none)
value-back (field.Alpha w) (value.Alpha a) none exact = refl

pub values-back : (ps : List Placed) (vs : List Value) (room : ℕ) (new : List ℕ) → values_code ps vs room ≡ None → length new ≡ room → Holds ps vs new → EachFieldKeeps ps vs
    → values_in ps (map value_kind vs) new ≡ Ok (all_kept ps vs)
values-back [] [] room new none long each exact = refl
values-back (p ∷ ps) [] room new none long each exact = refl
values-back [] (v ∷ vs) room new none long each exact = absurd each
values-back (p ∷ ps) (v ∷ vs) room new none long each exact =
    let inside : p.start + field_length p.field ≤ room = inside-room p ps v vs room none in
    let both = sym (code-here (p ∷ ps) ps p v vs room refl inside) ∙ none in
    let here : p.start + field_length p.field ≤ length new = omega arith in
    values-here (p ∷ ps) ps p (value_kind v) (map value_kind vs) new refl here
    ∙ ap₂ before_items
    (ap (field_value p.field (value_kind v)) each.0 ∙ value-back p.field v (code-fits (value_code p.field v) (values_code ps vs room) both) exact.0)
    (values-back ps vs room new (code-after (value_code p.field v) (values_code ps vs room) both) long each.1 exact.1)

numbers-after : (row : Row) (at : ℕ) (xs : List Number) (bytes rest : List ℕ) → at ≤ length bytes → drop at bytes ≡ numbers_bytes row xs ++ rest → AreSpelled row xs → numbers_in row at (length xs) bytes ≡ Ok xs
numbers-after row at [] bytes rest begun e h = refl
numbers-after row at (x ∷ xs) bytes rest begun e h =
    let here : List ℕ = row_bytes row x in
    let more : List ℕ = numbers_bytes row xs in
    let wide : length here ≡ row_length row = row_bytes-length row x in
    let split : drop at bytes ≡ here ++ (more ++ rest) = e ∙ append_assoc here more rest in
    let inside : at + row_length row ≤ length bytes = omega (arith, ap length split, length-append here (more ++ rest), length-drop at bytes) in
    let taken : take (row_length row) (drop at bytes) ≡ here = ap (take (row_length row)) split ∙ take_at here (more ++ rest) (row_length row) wide in
    let left : drop (at + row_length row) bytes ≡ more ++ rest = sym (drop-drop (row_length row) at bytes) ∙ ap (drop (row_length row)) split ∙ drop_at here (more ++ rest) (row_length row) wide in
    numbers-here row at (suc (length xs)) (length xs) bytes refl inside
    ∙ ap₂ before_items (ap (number_of_row row) taken ∙ row-back row x h.0.0 h.0.1) (numbers-after row (at + row_length row) xs bytes rest inside left h.1)

pub numbers-back : (row : Row) (xs : List Number) (rest : List ℕ) → AreSpelled row xs → numbers_in row 0 (length xs) (numbers_bytes row xs ++ rest) ≡ Ok xs
numbers-back row xs rest h = numbers-after row 0 xs (numbers_bytes row xs ++ rest) rest (omega arith) refl h
