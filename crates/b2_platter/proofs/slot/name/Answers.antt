use Rattle.std.proofs.Common.{arith, drop, length-drop}
use Rattle.std.proofs.lemmas.List.{take_all}
use Rattle.b2_platter.specs.Slot.{slot_name}
use Rattle.b2_platter.proofs.slot.name.Goals as goal

pub returns-clause-value : goal.returns-clause-value
unfolding slot_name
returns-clause-value c = take_all 8 (drop 8 c.args.slot.now) (omega (arith, length-drop 8 c.args.slot.now))
