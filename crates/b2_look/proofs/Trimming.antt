-- A row up to its last cell that is no blank.
use Rattle.std.proofs.Common.{◌≡◌, ℕ, ◌-◌, ◌<◌, ◌≤◌, true, false, List, length, get_or, take, ap, arith}
use Rattle.std.specs.List.{suffix_len}
use Rattle.std.proofs.lemmas.List.Sums.{suffix_len_is}
use Rattle.b2_look.specs.Rows.{is_blank, without_last_blanks}

pub kept_up_to : (row : List ℕ) (n : ℕ) → n ≤ length row → ((k : ℕ) → n ≤ k → k < length row → is_blank (get_or row k 0) ≡ true)
    → (0 < n → is_blank (get_or row (n - 1) 0) ≡ false) → take n row ≡ without_last_blanks row
kept_up_to row n within blanks last =
    let counted : suffix_len is_blank row ≡ length row - n = suffix_len_is is_blank row n 0 within blanks last in
    let so : n ≡ length row - suffix_len is_blank row = omega arith in
    ap (λ (m : ℕ). take m row) so
