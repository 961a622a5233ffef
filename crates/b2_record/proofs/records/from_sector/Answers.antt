use Rattle.b2_record.specs.Writing.{groups_of}
use Rattle.b2_record.proofs.Groups.{step-groups}
use Rattle.std.proofs.Common.{arith}
use Rattle.b2_record.proofs.records.from_sector.Goals as goal

pub loop-number-preserved : goal.loop-number-preserved
loop-number-preserved c = record {
  groups = rw c.after_first-rest.ensures.value (step-groups c.loop-number.rest.now c.loop-number._number (groups_of c.args.values.now) c.loop-number.invariant.short c.loop-number.invariant.groups (omega arith) (omega arith));
  short = c.after_first-rest.ensures.short;
}
