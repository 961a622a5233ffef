use Rattle.std.proofs.Common.{◌≡◌, drop}
use Rattle.b2_audit.specs.Marks.{set_among}
use Rattle.b2_audit.proofs.seen.set_among.Given as goal

-- those that are left decide
abbrev pub invariant-loop-row : goal.invariant-loop-row
invariant-loop-row l = set_among l.object (drop l.row-index l.others) ≡ set_among l.object l.others
