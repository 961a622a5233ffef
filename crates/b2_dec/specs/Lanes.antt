-- The digits of a number in the parts of a word.
use Rattle.std.specs.Prelude.{ℕ, zero, suc, ◌+◌, ◌*◌, ◌/◌, ◌%◌}

-- the lowest n digits of a number in one base, as they count in another
unfoldable pub rebased : ℕ → ℕ → ℕ → ℕ → ℕ
rebased base other zero v = 0
rebased base other (suc n) v = rebased base other n (v / base) * other + v % base
