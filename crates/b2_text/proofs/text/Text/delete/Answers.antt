use Rattle.std.proofs.Common.{ap, sym, subst, arith, nat_cmp}
use Rattle.std.specs.List.Sorted.{IsStrictlySortedBy}
use Rattle.b2_text.specs.Program.{Lines}
use Rattle.b2_text.proofs.Ranges.{without-nothing}
use Rattle.b2_text.specs.Blocks.{holds_data, is_opening, lines_laid}
use Rattle.b2_text.proofs.Keeping.{kept_without}
use Rattle.b2_text.proofs.KeptLists.{listed_without}
use Rattle.b2_text.proofs.Listing.{sorted_listed}
use Rattle.b2_text.proofs.text.Text.delete.Goals as goal

pub returns-then-from-to : goal.returns-then-from-to
returns-then-from-to c =
    ap (λ (ls : Lines). record { area = c.args.self.now.area; lines = ls }) (sym (without-nothing c.args.from c.args.to c.args.self.now.lines c.if-from-to.true))

pub invariant_of-self : goal.invariant_of-self
invariant_of-self c =
    let bytes = c.take_range.ensures.capacity in
    let index = c.take_range.ensures.index_capacity in
    let units = c.take_range.ensures.units_capacity in
    let openers = c.take_members.ensures.capacity in
    let datas = c.take_members-2.ensures.capacity in
    let before = c.self.invariant.1 in (
      kept_without c.self.inside.area c.args.from c.args.to c.self.inside.block.items c.take_range.new.block.items c.self.inside.places.items c.take_range.new.places.items
          c.self.inside.units.items c.take_range.new.units.items c.self.invariant.0 c.take_range.ensures.laid c.take_range.ensures.lines c.take_range.ensures.ordered c.take_range.ensures.kept,
      record {
        few = before.few;
        for_bytes = omega (arith, bytes, before.for_bytes);
        for_places = omega (arith, index, before.for_places);
        for_units = omega (arith, units, before.for_units);
      },
      listed_without c.self.inside.area c.args.from c.args.to (lines_laid c.self.inside.block.items c.self.inside.places.items)
          (lines_laid c.take_range.new.block.items c.take_range.new.places.items) c.self.inside.openers.items c.self.inside.datas.items
          c.take_members.new.numbers.items c.take_members-2.new.numbers.items _ _ _ _ c.self.invariant.2 c.take_range.ensures.lines c.take_members.ensures.items
          c.take_members-2.ensures.items (omega (arith, openers)) (omega (arith, datas)),
      c.take_range.ensures.numbered,
    )

pub take_members-requires-clause-ordered : goal.take_members-requires-clause-ordered
take_members-requires-clause-ordered c =
    subst (IsStrictlySortedBy nat_cmp) (sym c.self.invariant.2.opening)
    (sorted_listed is_opening (lines_laid c.self.inside.block.items c.self.inside.places.items) c.self.invariant.0.ordered)

pub take_members-requires-2-clause-ordered : goal.take_members-requires-2-clause-ordered
take_members-requires-2-clause-ordered c =
    subst (IsStrictlySortedBy nat_cmp) (sym c.self.invariant.2.holding)
    (sorted_listed holds_data (lines_laid c.self.inside.block.items c.self.inside.places.items) c.self.invariant.0.ordered)
