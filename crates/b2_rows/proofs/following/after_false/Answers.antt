use Rattle.std.proofs.Common.{sym, ap, ◌∙◌, slice_get}
use Rattle.std.specs.Option.{option_map}
use Rattle.b2_atom.specs.Lines.{LineUnit, units_of}
use Rattle.b2_rows.proofs.WhatFollows.{false_part}
use Rattle.b2_rows.proofs.following.after_false.Goals as goal

pub else_goal-requires-clause-phrase : goal.else_goal-requires-clause-phrase
else_goal-requires-clause-phrase c =
    false_part c.args.line.now c.args.k c.in-Some.unit.now c.spells_a_line.ensures
    (ap (λ j. option_map (λ (u : LineUnit). u.bytes) (slice_get (units_of c.args.line.now) j)) (sym c.skip-further.ensures) ∙ sym c.in-Some.ensures.bytes)
    (sym c.is_at.ensures ∙ c.if-is_at.true)
