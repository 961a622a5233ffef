use Rattle.b2_record.proofs.Groups.{short-drop, storable-parts}
use Rattle.b2_record.proofs.records.after_first.Goals as goal

pub returns-clause-short : goal.returns-clause-short
returns-clause-short c = rw c.split_at.ensures.back (short-drop c.first_count.result c.args.values.now c.requires)

pub returns-clause-storable : goal.returns-clause-storable
returns-clause-storable c = rw c.split_at.ensures.back (λ h. storable-parts c.first_count.result c.args.values.now c.first_count.ensures.storable h)
