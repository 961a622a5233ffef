use Rattle.std.proofs.Common.{arith}
use Rattle.b2_text.proofs.Keeping.{kept_none}
use Rattle.b2_text.proofs.KeptLists.{listed_none}
use Rattle.b2_text.proofs.Numbering.{numbered_none}
use Rattle.b2_text.proofs.text.Text.clear.Goals as goal

pub invariant_of-self : goal.invariant_of-self
invariant_of-self c =
    let room = c.self.invariant.1 in
    let bytes = c.clear.ensures.capacity in
    let places = c.clear-2.ensures.capacity in
    let units = c.clear-3.ensures.capacity in
    let openers = c.clear-4.ensures.capacity in
    let datas = c.clear-5.ensures.capacity in
    let lists = c.self.invariant.2 in (
      kept_none c.self.inside.area c.clear.new.self.items c.clear-2.new.self.items c.clear-3.new.self.items c.clear.ensures.items c.clear-2.ensures.items c.clear-3.ensures.items,
      record {
        few = room.few;
        for_bytes = omega (arith, bytes, room.for_bytes);
        for_places = omega (arith, places, room.for_places);
        for_units = omega (arith, units, room.for_units);
      },
      listed_none c.self.inside.area c.clear.new.self.items c.clear-2.new.self.items c.clear-4.new.self.items c.clear-5.new.self.items _ _
          c.clear-2.ensures.items c.clear-4.ensures.items c.clear-5.ensures.items (omega (arith, openers, lists.for_openers)) (omega (arith, datas, lists.for_datas)),
      numbered_none _ c.forget_all.new.table.items c.clear.new.self.items c.clear-2.new.self.items c.self.invariant.3.long c.forget_all.ensures c.clear-2.ensures.items,
    )
