-- Lines that are put to others, one after the other.
use Rattle.std.proofs.Common.{◌≡◌, ℕ, suc, ◌+◌, ◌<◌, ◌≤◌, Bool, true, cond, List, [], ◌∷◌, ◌++◌, All, nat_cmp, refl, sym, ap, subst, ◌∙◌, arith, append_assoc, append-nil}
use Rattle.std.proofs.lemmas.Bool.Decides.{nat_tests}
use Rattle.std.specs.List.{AllByRecursion}
use Rattle.std.specs.List.Sorted.{IsStrictlySortedBy}
use Rattle.std.specs.Map.{keys_of}
use Rattle.b2_text.specs.Program.{Lines, is_within, with_line}
use Rattle.b2_progfile.specs.Programs.{Ascending}
use Rattle.b2_progfile.specs.Saving.{lines_between}
use Rattle.b2_progfile.specs.Loading.{merged}
use Rattle.b2_progfile.proofs.Numbers.{above, zero-low}
use Rattle.b2_progfile.proofs.Parsing.{greater, put-by}

-- ---- numbers of at most 9999

abbrev pub AllSmall : Lines → Type 0
AllSmall [] = Unit {0}
AllSmall (l ∷ lines) = (l.0 ≤ 9999) × AllSmall lines

pub small-lines : (lines : Lines) → All (λ n. n ≤ 9999) (keys_of lines) → AllSmall lines
small-lines [] h = tt
small-lines (l ∷ lines) h = (h 0 0 (omega arith), small-lines lines (λ k d low. h (suc k) d (omega (arith, low))))

inside : (n : ℕ) → n ≤ 9999 → is_within 0 9999 n ≡ true
inside n h = grind (arith, nat_tests)

-- the lines from 0 to 9999 are all
pub between-all : (lines : Lines) → AllSmall lines → lines_between 0 9999 lines ≡ lines
between-all [] h = refl
between-all (l ∷ lines) h =
    ap (λ (b : Bool). cond b (l ∷ lines_between 0 9999 lines) (lines_between 0 9999 lines)) (inside l.0 h.0) ∙ ap (λ (xs : Lines). l ∷ xs) (between-all lines h.1)

-- ---- numbers that ascend

-- numbers ascend from some number on
abbrev pub Rising : ℕ → Lines → Type 0
Rising least [] = Unit {0}
Rising least (l ∷ lines) = (least ≤ l.0) × Rising (l.0 + 1) lines

rising-from : (least : ℕ) (lines : Lines) → IsStrictlySortedBy nat_cmp (keys_of lines) → AllByRecursion (λ y. least ≤ y) (keys_of lines) → Rising least lines
unfolding IsStrictlySortedBy
rising-from least [] sorted low = tt
rising-from least (l ∷ lines) sorted low = (low.0, rising-from (l.0 + 1) lines sorted.1 (above l.0 (keys_of lines) sorted.0))

pub rising-lines : (lines : Lines) → IsStrictlySortedBy nat_cmp (keys_of lines) → Rising 0 lines
rising-lines lines sorted = rising-from 0 lines sorted (zero-low (keys_of lines))

middle-low : (least : ℕ) (l : ℕ × List ℕ) (xs ys : Lines) → Rising least (xs ++ l ∷ ys) → least ≤ l.0
middle-low least l [] ys h = h.0
middle-low least l (x ∷ xs) ys h = let rest = middle-low (x.0 + 1) l xs ys h.1 in omega (arith, rest, h.0)

-- a line is put after those before it
pub with-middle : (least : ℕ) (l : ℕ × List ℕ) (xs ys : Lines) → Rising least (xs ++ l ∷ ys) → with_line l.0 l.1 xs ≡ xs ++ l ∷ []
with-middle least l [] ys h = refl
with-middle least l (x ∷ xs) ys h =
    let rest = middle-low (x.0 + 1) l xs ys h.1 in
    let more : x.0 < l.0 = omega (arith, rest) in
    put-by (nat_cmp l.0 x.0) _ _ (x ∷ with_line l.0 l.1 xs) (greater l.0 x.0 more) ∙ ap (λ (zs : Lines). x ∷ zs) (with-middle (x.0 + 1) l xs ys h.1)

merged-after : (least : ℕ) (xs ys : Lines) → Rising least (xs ++ ys) → merged ys xs ≡ xs ++ ys
merged-after least xs [] h = sym (append-nil xs)
merged-after least xs (l ∷ ys) h =
    ap (merged ys) (with-middle least l xs ys h)
    ∙ (merged-after least (xs ++ l ∷ []) ys (subst (Rising least) (sym (append_assoc xs (l ∷ []) ys)) h) ∙ append_assoc xs (l ∷ []) ys)

-- lines that are put to none are all
pub merged-alone : (lines : Lines) → IsStrictlySortedBy nat_cmp (keys_of lines) → merged lines [] ≡ lines
merged-alone lines sorted = merged-after 0 [] lines (rising-lines lines sorted)

rising-program : (least : ℕ) (lines : Lines) → Ascending least lines → Rising least lines
rising-program least [] h = tt
rising-program least (l ∷ lines) h = (h.0, rising-program (l.0 + 1) lines h.3)

pub merged-program : (lines : Lines) → Ascending 0 lines → merged lines [] ≡ lines
merged-program lines h = merged-after 0 [] lines (rising-program 0 lines h)
