-- The choices that look further than the next token, as computed.
use Rattle.std.proofs.Common.{◌≡◌, ℕ, zero, suc, ◌+◌, ◌&&◌, ◌||◌, not, ◌/◌, ◌%◌, ◌<◌, ◌≤◌, nat_lt, Bool, true, false, List, [], ◌∷◌, get_or, refl, sym, ap, ◌∙◌, arith, inl, inr, ◌⊎◌}
use Rattle.std.proofs.lemmas.Bool.Decides.{nat_tests}
use Rattle.b2_atom.specs.Grammar.{row_items, rows_of, row_place}
use Rattle.b2_atom.specs.Table.{rows_0, rows_1}
use Rattle.b2_atom.specs.declared.rows.TheConstants as row
use Rattle.b2_atom.specs.declared.forms.Item.{Item}
use Rattle.b2_atom.proofs.Booleans.{and_left, and_right}
use Rattle.b2_atom.proofs.settled.Lookaheads.{every, of_row, of, Within, Beside, paired, before_number, is_expression, within_rows, not_open, not_b, ends_open, besides, alpha, Lookahead}
use Rattle.b2_atom.proofs.settled.Lookaheads.Lookahead.{Spanned}

within_0 : within_rows is_expression before_number 0 rows_0 ≡ true
unfolding of_row of row_items
within_0 = refl

within_1 : within_rows is_expression before_number 64 rows_1 ≡ true
unfolding of_row of row_items
within_1 = refl

or_known : (a b : Bool) → (not a || b) ≡ true → a ≡ true → b ≡ true
or_known true b h k = h
or_known false b h k = cc

one_within : (r : Within) (p : Beside) (rs : List (List Item)) (k j : ℕ) → within_rows r p k rs ≡ true → r (k + j) ≡ true → paired r p (get_or rs j []) ≡ true
one_within r p [] k j h g = refl
one_within r p (x ∷ xs) k zero h g = let same : k + 0 ≡ k = omega arith in or_known (r k) (paired r p x) (and_left _ _ h) (ap r (sym same) ∙ g)
one_within r p (x ∷ xs) k (suc j) h g =
    let same : suc k + j ≡ k + suc j = omega arith in one_within r p xs (suc k) j (and_right (not (r k) || paired r p x) _ h) (ap r same ∙ g)

low_row : (n : ℕ) → is_expression n ≡ true → n < 128
low_row n h = grind (arith, nat_tests)

split : (n : ℕ) → (n < 64) ⊎ (64 ≤ n)
split n = grind arith

place_low : (n : ℕ) → n < 128 → row_place n ≡ n % 64
place_low n h = let low : nat_lt n 192 ≡ true = grind (arith, nat_tests) in rw low refl

parts_of : (n : ℕ) → n < 128 → ((n / 64 ≡ 0) × (0 + row_place n ≡ n)) ⊎ ((n / 64 ≡ 1) × (64 + row_place n ≡ n))
parts_of n h = elim (split n) [
  | inl g ↦ (let a : n / 64 ≡ 0 = omega (arith, g) in let b : 0 + n % 64 ≡ n = omega (arith, g) in inl (a, ap (λ (k : ℕ). 0 + k) (place_low n h) ∙ b))
  | inr g ↦ (let a : n / 64 ≡ 1 = omega (arith, g, h) in let b : 64 + n % 64 ≡ n = omega (arith, g, h) in inr (a, ap (λ (k : ℕ). 64 + k) (place_low n h) ∙ b))
]

pub row_within : (n : ℕ) → is_expression n ≡ true → paired is_expression before_number (row_items n) ≡ true
unfolding row_items
row_within n h = elim (parts_of n (low_row n h)) [
  | inl g ↦ ap (λ (k : ℕ). paired is_expression before_number (get_or (rows_of k) (row_place n) [])) g.0 ∙ one_within is_expression before_number rows_0 0 (row_place n) within_0 (ap is_expression g.1 ∙ h)
  | inr g ↦ ap (λ (k : ℕ). paired is_expression before_number (get_or (rows_of k) (row_place n) [])) g.0 ∙ one_within is_expression before_number rows_1 64 (row_place n) within_1 (ap is_expression g.1 ∙ h)
]

pub operand_ends : ends_open row.OPERAND_OF_ANY_KIND ≡ true
unfolding of_row of row_items
operand_ends = refl

pub receiver_ends : ends_open row.RECEIVER ≡ true
unfolding of_row of row_items
receiver_ends = refl

pub element_ends : ends_open row.ALPHA_RECEIVER_VARIABLE ≡ true
unfolding of_row of row_items
element_ends = refl

pub sum_heads : (every not_open (of row.SUM).heads && (every not_b (of row.SUM).heads && (besides before_number (of row.SUM).ends (Spanned 41 41 ∷ []) && not (of row.SUM).empty))) ≡ true
unfolding of_row of row_items
sum_heads = refl

pub alpha_heads : (every (λ (f : Lookahead). alpha f true) (of row.ALPHA).heads && not (of row.ALPHA).empty) ≡ true
unfolding of_row of row_items
alpha_heads = refl

pub operand_full : (not (of row.OPERAND_OF_ANY_KIND).empty && not (of row.RECEIVER).empty) ≡ true
unfolding of_row of row_items
operand_full = refl

pub element_full : not (of row.ALPHA_RECEIVER_VARIABLE).empty ≡ true
unfolding of_row of row_items
element_full = refl
