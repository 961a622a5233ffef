use Rattle.std.proofs.Common.{◌∙◌}
use Rattle.b2_catalog.proofs.Spelled.{slot_made}
use Rattle.b2_catalog.proofs.spelling.file_slot.Goals as goal

pub returns-clause-value : goal.returns-clause-value
returns-clause-value c =
    slot_made c.args.layout c.args.program c.kind.result c.args.start c.args.end _ c.args.name _ _ _ c.kind.ensures c.second_place.ensures.value c.put_sector_number.ensures c.put_sector_number-2.ensures (c.copy_from_slice.ensures.after ∙ c.bytes.ensures.value)
