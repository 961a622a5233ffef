-- The lines of the rows of a screen, one after another.
use Rattle.std.proofs.Common.{◌≡◌, ℕ, suc, ◌+◌, ◌-◌, ◌<◌, List, ◌++◌, ap, sym, ◌∙◌, append_assoc, arith}
use Rattle.std.specs.List.{flat_map, range_with_len}

-- the line of one more row, where those of the rest make the whole
pub one_more : (f : ℕ → List ℕ) (was now whole : List ℕ) (k n : ℕ) → k < n → was ++ flat_map f (range_with_len k (n - k)) ≡ whole → now ≡ was ++ f k
    → now ++ flat_map f (range_with_len (k + 1) (n - (k + 1))) ≡ whole
one_more f was now whole k n within so is =
    let left : n - k ≡ suc (n - (k + 1)) = omega arith in
    ap (λ (xs : List ℕ). xs ++ flat_map f (range_with_len (k + 1) (n - (k + 1)))) is
    ∙ append_assoc was (f k) (flat_map f (range_with_len (k + 1) (n - (k + 1))))
    ∙ ap (λ (m : ℕ). was ++ flat_map f (range_with_len k m)) (sym left)
    ∙ so
