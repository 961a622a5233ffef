use Rattle.std.proofs.Common.{arith, refl}
use Rattle.b2_text.proofs.Keeping.{kept_none}
use Rattle.b2_text.proofs.KeptLists.{listed_none}
use Rattle.b2_text.proofs.Numbering.{numbered_none}
use Rattle.b2_text.proofs.text.Text.new.Goals as goal

pub invariant_of-result : goal.invariant_of-result
invariant_of-result c =
    let bytes = c.in_ok-block.ensures.capacity in
    let places = c.in_ok-places.ensures.capacity in
    let units = c.in_ok-units.ensures.capacity in
    let openers = c.in_ok-openers.ensures.capacity in
    let datas = c.in_ok-datas.ensures.capacity in (
      kept_none c.args.area c.in_ok-block.block.items c.in_ok-places.places.items c.in_ok-units.units.items c.in_ok-block.ensures.items c.in_ok-places.ensures.items c.in_ok-units.ensures.items,
      record {
        few = omega (arith, c.if-area-gt-MOST_AREA.false);
        for_bytes = omega (arith, bytes);
        for_places = omega (arith, places);
        for_units = omega (arith, units);
      },
      listed_none c.args.area c.in_ok-block.block.items c.in_ok-places.places.items c.in_ok-openers.openers.items c.in_ok-datas.datas.items _ _
          c.in_ok-places.ensures.items c.in_ok-openers.ensures.items c.in_ok-datas.ensures.items (omega (arith, openers)) (omega (arith, datas)),
      numbered_none 10000 c.in_ok-table.table.items c.in_ok-block.block.items c.in_ok-places.places.items refl c.in_ok-table.ensures c.in_ok-places.ensures.items,
    )
