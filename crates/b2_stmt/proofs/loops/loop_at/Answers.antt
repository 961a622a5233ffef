use Rattle.std.proofs.Common.{rules, sym}
use Rattle.b2_expr.specs.Scope.{surroundings}
use Rattle.b2_expr.specs.Value.{in_statement}
use Rattle.b2_stmt.proofs.LoopRows.{from_refused, limit_refused}
use Rattle.b2_stmt.proofs.loops.loop_at.Goals as goal

pub returns-in-Err-clause-written : goal.returns-in-Err-clause-written
returns-in-Err-clause-written c = sym (from_refused (in_statement (surroundings c.args.e.now)) c.args.unit.now c.in-Err.code c.requires.phrase (search rules))

pub returns-in-Err-number-clause-written : goal.returns-in-Err-number-clause-written
returns-in-Err-number-clause-written c =
    sym (limit_refused (in_statement (surroundings c.args.e.now)) c.args.unit.now c.in-Ok.from c.in-Err-number.code c.requires.phrase (search rules) (search rules))
