use Rattle.std.proofs.Common.{◌<◌, ◌∙◌, ap, sym, length, arith}
use Rattle.b2_atom.specs.Lines.{units_of}
use Rattle.b2_text.specs.Spots.{is_data}
use Rattle.b2_text.proofs.Positions.{found_at, passed_by}
use Rattle.b2_text.proofs.spots.data_in.Goals as goal

pub returns-then-is_data : goal.returns-then-is_data
returns-then-is_data c =
    let within : c.loop-unit.unit < length (units_of c.args.line.now) = let count = c.units-count.ensures.count in omega (arith, c.loop-unit-test.true, count) in
    let is = ap is_data (sym c.unit_of.ensures) ∙ sym c.is_data.ensures ∙ c.if-is_data.true in
    found_at is_data (units_of c.args.line.now) c.loop-unit.unit within is ∙ c.loop-unit.invariant

pub loop-unit-preserved : goal.loop-unit-preserved
loop-unit-preserved c =
    let within : c.loop-unit.unit < length (units_of c.args.line.now) = let count = c.units-count.ensures.count in omega (arith, c.loop-unit-test.true, count) in
    let is = ap is_data (sym c.unit_of.ensures) ∙ sym c.is_data.ensures ∙ c.if-is_data.false in
    passed_by is_data (units_of c.args.line.now) c.loop-unit.unit within is ∙ c.loop-unit.invariant
