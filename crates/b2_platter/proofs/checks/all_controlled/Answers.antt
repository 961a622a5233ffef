use Rattle.std.proofs.Common.{arith, ℕ}
use Rattle.b2_platter.specs.Image.{row}
use Rattle.b2_platter.specs.Checks.{is_controlled}
use Rattle.b2_platter.proofs.Ranges.{all_more}
use Rattle.b2_platter.proofs.Rooms.{entry_order, entry_end}
use Rattle.b2_platter.proofs.checks.all_controlled.Goals as goal

pub is_controlled-requires-clause-order : goal.is_controlled-requires-clause-order
is_controlled-requires-clause-order c = rw c.row.ensures (entry_order c.args.layout c.args.bytes.now c.requires.files c.loop-k.k (omega arith) (omega arith))

pub is_controlled-requires-clause-room : goal.is_controlled-requires-clause-room
is_controlled-requires-clause-room c = rw c.row.ensures (λ e. let end = entry_end c.args.layout c.args.bytes.now c.requires.files c.loop-k.k (omega arith) (omega arith) e in omega arith)

pub loop-k-preserved : goal.loop-k-preserved
loop-k-preserved c =
    all_more (λ (k : ℕ). is_controlled c.args.layout c.args.bytes.now (row c.args.bytes.now k)) c.loop-k.k _ _ (omega arith) c.loop-k.invariant (cc)
