use Rattle.std.proofs.Common.{◌≡◌, ℕ, ◌+◌, ◌-◌, ◌<◌, ◌≤◌, true}
use Rattle.b2_platter.specs.Layout.{layout_of}
use Rattle.b2_platter.specs.Checks.{IsGood}
use Rattle.b2_platter.specs.Edits.{is_data_sector, put_from}
use Rattle.b2_platter.specs.Image.{sectors_at}
use Rattle.b2_progfile.proofs.moving.put_copies.Given as goal

-- the sectors that are left make the image that is wanted
abbrev pub invariant-loop-k : goal.invariant-loop-k
invariant-loop-k l = record {
  rest : put_from l.p (l.at + l.k) (sectors_at l.from (l.start + l.k) (l.count - l.k)) ≡ put_from l.fn.p l.at (sectors_at l.from l.start l.count);
  good : IsGood l.p;
  own : (n : ℕ) → l.at ≤ n → n < l.at + l.count → is_data_sector (layout_of l.p) l.p n ≡ true;
}
