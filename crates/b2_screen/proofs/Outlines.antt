-- The cells and rows that an outline leaves as they are.
use Rattle.std.proofs.Common.{◌≡◌, ℕ, ◌+◌, ◌-◌, ◌<◌, ◌≤◌, ◌⊎◌, ◌&&◌, ◌||◌, Bool, true, false, if◌then◌else◌, nat_le, nat_lt, List, refl, ap, ap₂, ◌∙◌, inl, inr, arith, ne_eqb, le-ltb}
use Rattle.b2_base.specs.Byte as byte
use borrow.Author.Tests.{lt-leb}
use Rattle.b2_screen.specs.declared.sheet.Rectangle.{Rectangle}
use Rattle.b2_screen.specs.Sheet.{bar, lies_among, is_end, is_on, outlined_cell, outlined_row}
use Rattle.b2_screen.proofs.Places.{each_none}

and_false : (b : Bool) → (b && false) ≡ false
and_false true = refl
and_false false = refl

-- ---- outside

pub before_all : (first n i : ℕ) → i < first → lies_among first n i ≡ false
before_all first n i low = ap (λ (b : Bool). b && nat_lt i (first + n)) (lt-leb first i low)

pub after_all : (first n i : ℕ) → first + n ≤ i → lies_among first n i ≡ false
after_all first n i high = ap (λ (b : Bool). nat_le first i && b) (le-ltb i (first + n) high) ∙ and_false (nat_le first i)

off_stays : (f : Rectangle) (i j cell : ℕ) → is_on f i j ≡ false → outlined_cell f i j cell ≡ cell
off_stays f i j cell off =
    ap
    (λ (on : Bool). if on
    then (if is_end f.row f.rows i
    then (if is_end f.column f.columns j then byte.plus else byte.minus)
    else (if is_end f.column f.columns j then bar else cell))
    else cell) off

pub column_stays : (f : Rectangle) (i j cell : ℕ) → lies_among f.column f.columns j ≡ false → outlined_cell f i j cell ≡ cell
column_stays f i j cell off = off_stays f i j cell (ap (λ (b : Bool). lies_among f.row f.rows i && b) off ∙ and_false (lies_among f.row f.rows i))

pub row_stays : (f : Rectangle) (i : ℕ) (row : List ℕ) → lies_among f.row f.rows i ≡ false → outlined_row f i row ≡ row
row_stays f i row off = each_none (outlined_cell f i) 0 row (λ j cell. off_stays f i j cell (ap (λ (b : Bool). b && lies_among f.column f.columns j) off))

-- ---- between the sides

either_way : (b : Bool) (cell : ℕ) → (if b then cell else cell) ≡ cell
either_way true cell = refl
either_way false cell = refl

no_end : (first n i : ℕ) → (i ≡ first → ⊥) → (i ≡ first + n - 1 → ⊥) → is_end first n i ≡ false
no_end first n i first_one last_one = ap₂ (λ (a b : Bool). a || b) (ne_eqb i first first_one) (ne_eqb i (first + n - 1) last_one)

inside_stays : (f : Rectangle) (i j cell : ℕ) → is_end f.row f.rows i ≡ false → is_end f.column f.columns j ≡ false → outlined_cell f i j cell ≡ cell
inside_stays f i j cell no_row no_column =
    ap₂
    (λ (r c : Bool). if is_on f i j
    then (if r
    then (if c then byte.plus else byte.minus)
    else (if c then bar else cell))
    else cell) no_row no_column
    ∙ either_way (is_on f i j) cell

-- the cells between one of an outline and the next of its row
skipped : (f : Rectangle) (i j k cell step : ℕ) (b : Bool) → is_end f.row f.rows i ≡ b → (b ≡ false → (j ≡ f.column) ⊎ (f.column + f.columns - 1 ≤ j)) → f.column ≤ j → step ≡ (if b then 1 else f.columns - 1)
    → j < k → k < j + step → outlined_cell f i k cell ≡ cell
skipped f i j k cell step true own place low is past near = absurd (omega (arith, is, past, near))
skipped f i j k cell step false own place low is past near =
    inside_stays f i k cell own
    (no_end f.column f.columns k (λ same. omega (arith, same, past, low)) (λ same. elim (place refl) as (λ _. ⊥) [ inl first ↦ omega (arith, same, first, near, is) | inr last ↦ omega (arith, same, last, past) ]))

pub skip_stays : (f : Rectangle) (i j k cell step : ℕ) → (is_end f.row f.rows i ≡ false → (j ≡ f.column) ⊎ (f.column + f.columns - 1 ≤ j)) → f.column ≤ j → step ≡ (if is_end f.row f.rows i then 1 else f.columns - 1)
    → j < k → k < j + step → outlined_cell f i k cell ≡ cell
skip_stays f i j k cell step place low is past near = skipped f i j k cell step (is_end f.row f.rows i) refl place low is past near

next_side : (f : Rectangle) (j step : ℕ) (b : Bool) → f.column ≤ j → step ≡ (if b then 1 else f.columns - 1) → 2 ≤ f.columns → b ≡ false → f.column + f.columns - 1 ≤ j + step
next_side f j step true low is some h = cc
next_side f j step false low is some h = omega (arith, low, is, some)

pub next_place : (f : Rectangle) (i j step : ℕ) → f.column ≤ j → step ≡ (if is_end f.row f.rows i then 1 else f.columns - 1) → 2 ≤ f.columns → is_end f.row f.rows i ≡ false
    → (j + step ≡ f.column) ⊎ (f.column + f.columns - 1 ≤ j + step)
next_place f i j step low is some h = inr (next_side f j step (is_end f.row f.rows i) low is some h)
