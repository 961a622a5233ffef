-- Lines that are gathered, and put into a text that holds them.
use Rattle.std.proofs.Common.{All, ◌≡◌, ℕ, ◌+◌, ◌≤◌, Bool, true, false, List, [], ◌∷◌, ◌++◌, nat_cmp, sym, ap, subst, ◌∙◌, arith, append_assoc}
use Rattle.std.proofs.lemmas.Map.Views.{All-keys-insert_entry}
use Rattle.std.specs.List.Sorted.{IsStrictlySortedBy}
use Rattle.std.specs.Map.{keys_of}
use Rattle.b2_text.specs.Program.{Lines, size_of, with_line}
use Rattle.b2_text.proofs.Blocks.{size_append}
use Rattle.b2_progfile.specs.Loading.{loaded, merged}
use Rattle.b2_progfile.specs.Programs.{Ascending}
use Rattle.b2_progfile.proofs.Merging.{Rising, rising-lines, with-middle}

-- ---- they are put into an empty text

pub put-next : (l : ℕ × List ℕ) (xs ys all : Lines) → xs ++ l ∷ ys ≡ all → IsStrictlySortedBy nat_cmp (keys_of all) → with_line l.0 l.1 xs ≡ xs ++ l ∷ []
put-next l xs ys all is sorted = with-middle 0 l xs ys (subst (Rising 0) (sym is) (rising-lines all sorted))

pub fits-next : (l : ℕ × List ℕ) (xs ys all : Lines) (area : ℕ) → xs ++ l ∷ ys ≡ all → IsStrictlySortedBy nat_cmp (keys_of all) → size_of all ≤ area
    → size_of (with_line l.0 l.1 xs) ≤ area
fits-next l xs ys all area is sorted fits =
    let put = ap size_of (put-next l xs ys all is sorted) in
    let some = size_append xs (l ∷ []) in
    let whole = sym (ap size_of is) ∙ size_append xs (l ∷ ys) in
    omega (arith, put, some, whole, fits)

pub rest-next : (l : ℕ × List ℕ) (xs more ys all : Lines) → xs ++ l ∷ ys ≡ all → IsStrictlySortedBy nat_cmp (keys_of all) → more ≡ with_line l.0 l.1 xs → more ++ ys ≡ all
rest-next l xs more ys all is sorted put =
    ap (λ (ls : Lines). ls ++ ys) (put ∙ put-next l xs ys all is sorted) ∙ append_assoc xs (l ∷ []) ys ∙ is

-- ---- the lines after a load

merged-small : (least : ℕ) (program lines : Lines) → Ascending least program → All (λ n. n ≤ 9999) (keys_of lines) → All (λ n. n ≤ 9999) (keys_of (merged program lines))
merged-small least [] lines h small = small
merged-small least (l ∷ program) lines h small =
    merged-small (l.0 + 1) program (with_line l.0 l.1 lines) h.3 (All-keys-insert_entry nat_cmp l.0 l.1 (λ n. n ≤ 9999) lines small h.1)

pub loaded-small : (replace : Bool) (program lines : Lines) → Ascending 0 program → All (λ n. n ≤ 9999) (keys_of lines) → All (λ n. n ≤ 9999) (keys_of (loaded replace program lines))
loaded-small true program lines h small = merged-small 0 program [] h (λ i d low. absurd (omega (arith, low)))
loaded-small false program lines h small = merged-small 0 program lines h small
