-- An array transposed, and transposed back.
use Rattle.std.proofs.Common.{◌≡◌, ◌<◌, ◌*◌, ◌/◌, ◌%◌, ◌∙◌, ℕ, List, length, sym, ap, arith}
use Rattle.b2_dec.specs.Number.{Number, zero_number}
use Rattle.b2_matrix.specs.Arrays.{cut_into_rows, entry, transposed}
use Rattle.b2_matrix.proofs.RowPlaces.{entry_at, entry_of_place, made_from, row_of_place, column_of_place}
use Rattle.b2_matrix.proofs.Making.{made_is}

-- a row of the transposed array has a column's elements
transposed_entry : (count width : ℕ) (xss : List (List Number)) (i j : ℕ) → i < count → j < width → entry (cut_into_rows width count (transposed count width xss)) j i ≡ entry xss i j
transposed_entry count width xss i j low inside =
    entry_at width count (transposed count width xss) j i inside low ∙ made_from (λ r k. entry xss k r) count 0 width j i zero_number inside low ∙ ap (λ (r : ℕ). entry xss i r) (omega arith)

pub transposed-transposed : (count width : ℕ) (cells : List Number) → length cells ≡ count * width → transposed width count (cut_into_rows width count (transposed count width (cut_into_rows count width cells))) ≡ cells
transposed-transposed count width cells whole =
    sym (made_is (λ i j. entry (cut_into_rows width count (transposed count width (cut_into_rows count width cells))) j i) zero_number count width cells whole
    (λ p inside.
    let within : p < count * width = omega (arith, whole) in
    sym (transposed_entry count width (cut_into_rows count width cells) (p / width) (p % width) (row_of_place p count width within) (column_of_place p count width within) ∙ entry_of_place count width cells p within)))
