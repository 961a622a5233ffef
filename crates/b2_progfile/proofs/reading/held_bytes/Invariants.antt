use Rattle.std.proofs.Common.{◌≡◌, ◌+◌, ◌-◌, ◌++◌}
use Rattle.b2_platter.specs.Image.{sectors_at}
use Rattle.b2_progfile.specs.Programs.{AllPieces, held_bytes}
use Rattle.b2_progfile.proofs.reading.held_bytes.Given as goal

-- what the sectors that are left hold follows what was taken, and all are pieces where those that are left are
abbrev pub invariant-loop-k : goal.invariant-loop-k
invariant-loop-k l = record {
  bytes : l.bytes.items ++ held_bytes (sectors_at l.p (l.at + l.k) (l.count - l.k)) ≡ held_bytes (sectors_at l.p l.at l.count);
  pieces : AllPieces (sectors_at l.p (l.at + l.k) (l.count - l.k)) → AllPieces (sectors_at l.p l.at l.count);
  all : AllPieces (sectors_at l.p l.at l.count) → AllPieces (sectors_at l.p (l.at + l.k) (l.count - l.k));
}
