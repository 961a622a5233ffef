use Rattle.std.proofs.Common.{◌≡◌, ◌-◌, length}
use Rattle.b2_vars.specs.Tables.{Entries}
use Rattle.b2_vars.specs.Block.{IsLaid, IsKept}
use Rattle.b2_vars.proofs.keeping.keep_common.Given as goal

abbrev pub invariant-loop-from : goal.invariant-loop-from
invariant-loop-from l = record {
  kept : (es : Entries) → IsLaid l.fn.bytes.items l.used l.fn.places.items es → IsKept l.bytes.items l.from l.to l.used l.places.items es;
  size : length l.bytes.items ≡ length l.fn.bytes.items;
}

abbrev pub decreases-loop-from : goal.decreases-loop-from
decreases-loop-from l = l.used - l.from
