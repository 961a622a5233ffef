use Rattle.b2_platter.proofs.Heads.{head_made}
use Rattle.b2_platter.proofs.edits.image_head.Goals as goal

pub returns : goal.returns
returns c =
    head_made c.args.layout _ c.args.index c.args.total c.args.end c.args.next c.width.result c.width-2.result _ _ _ c.version.ensures c.width.ensures.value c.width-2.ensures.value c.put_sector_number.ensures c.put_sector_number-2.ensures c.put_sector_number-3.ensures
