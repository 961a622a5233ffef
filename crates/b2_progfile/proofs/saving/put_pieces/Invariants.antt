use Rattle.std.proofs.Common.{◌≡◌, ℕ, ◌+◌, ◌-◌, ◌<◌, ◌≤◌, true, map}
use Rattle.std.specs.List.{range_with_len}
use Rattle.b2_platter.specs.Layout.{layout_of}
use Rattle.b2_platter.specs.Checks.{IsGood}
use Rattle.b2_platter.specs.Edits.{is_data_sector, put_from}
use Rattle.b2_progfile.specs.Saving.{piece_at, text_sectors}
use Rattle.b2_progfile.proofs.saving.put_pieces.Given as goal

-- the sectors that are left make the image that is wanted
abbrev pub invariant-loop-k : goal.invariant-loop-k
invariant-loop-k l = record {
  rest : put_from l.p (l.at + l.k) (map (piece_at l.bytes) (range_with_len l.k (l.count - l.k))) ≡ put_from l.fn.p l.at (text_sectors l.bytes);
  good : IsGood l.p;
  own : (n : ℕ) → l.at ≤ n → n < l.at + l.count → is_data_sector (layout_of l.p) l.p n ≡ true;
}
