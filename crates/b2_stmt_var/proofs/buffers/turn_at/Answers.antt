use Rattle.std.proofs.Common.{◌≡◌, ℤ, Ok, ap, ◌∙◌, rules, to_z, of_z, w8}
use Rattle.b2_expr.specs.Scope.{surroundings}
use Rattle.b2_expr.specs.Value.{in_statement}
use Rattle.b2_stmt_var.proofs.TurnRows.{turned_so}
use Rattle.b2_stmt_var.proofs.buffers.turn_at.Goals as goal

-- a signed byte is as it was read
pub returns-in-Ok-bits_of-clause-turn : goal.returns-in-Ok-bits_of-clause-turn
returns-in-Ok-bits_of-clause-turn c =
    let same : to_z w8 (of_z w8 c.in-Ok-bits_of.bits) ≡ c.in-Ok-bits_of.bits = search rules in
    ap (λ (z : ℤ). Ok (record { to = c.in-Ok.to; whole = c.is_at-whole.result; bits = z })) same
    ∙ turned_so (in_statement (surroundings c.args.e.now)) c.args.unit.now c.in-Ok.to c.in-Ok-number.x c.is_at-whole.result c.in-Ok-bits_of.bits c.requires.phrase (search rules) (search rules) (search rules) c.is_at-whole.ensures
