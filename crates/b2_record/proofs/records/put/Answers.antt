use Rattle.std.proofs.Common.{◌≡◌, ◌+◌, ◌-◌, ◌∙◌, sym, ap, arith}
use Rattle.b2_record.specs.Records.{sectors_from}
use Rattle.b2_record.specs.Writing.{groups_of}
use Rattle.b2_record.proofs.Groups.{get-sector, length-record}
use Rattle.b2_record.proofs.records.put.Goals as goal

pub from_sector-rest-requires-clause-within : goal.from_sector-rest-requires-clause-within
from_sector-rest-requires-clause-within c = omega (arith, c.requires.within, length-record c.args.values.now)

pub returns : goal.returns
returns c =
    let place : 1 + (c.args.k - 1) ≡ c.args.k = omega (arith, c.requires.some) in
    get-sector 1 (c.args.k - 1) c.args.k (groups_of c.args.values.now) c.put_next-after.new.into _ place
    (ap (sectors_from c.args.k) (sym c.from_sector-rest.ensures.groups) ∙ c.put_next-after.ensures.sectors)
