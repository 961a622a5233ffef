-- Rows by number: one that has another content, and all others.
use Rattle.std.specs.Prelude.{◌≡◌, ◌≢◌, ℕ, ◌==◌, true, List, option_map}
use Rattle.std.specs.Cmp.{unsigned_Decides}
use Rattle.std.proofs.Common.{sym, ◌∙◌}
use Rattle.b2_access.specs.Contents.{row_other, row_same}
use Rattle.b2_access.specs.Rows.{row_of, with_row}

never_both : (m n k : ℕ) → m ≢ n → (k == n) ≡ true → (k == m) ≡ true → ⊥
never_both m n k apart is_n is_m = apart (sym ((unsigned_Decides k m).0 is_m) ∙ (unsigned_Decides k n).0 is_n)

pub numbered_same : {X : Type 0} (n : ℕ) (w : X) (es : List (ℕ × X)) → row_of n (with_row n es w) ≡ option_map (λ _. w) (row_of n es)
numbered_same n w es = row_same (λ k. k == n) w es

pub numbered_other : {X : Type 0} (m n : ℕ) (w : X) → m ≢ n → (es : List (ℕ × X)) → row_of m (with_row n es w) ≡ row_of m es
numbered_other m n w apart es = row_other (λ k. k == n) (λ k. k == m) w (λ k. never_both m n k apart) es
