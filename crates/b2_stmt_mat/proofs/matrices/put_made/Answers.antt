use Rattle.b2_vars.specs.Variables.{reshaped}
use Rattle.b2_stmt_mat.proofs.Written.{changed_there}
use Rattle.b2_stmt_mat.proofs.matrices.put_made.Goals as goal

pub put_numbers-requires-clause-there : goal.put_numbers-requires-clause-there
put_numbers-requires-clause-there c = changed_there c.args.to (reshaped c.args.to c.shape_with.result) c.args.vars.now c.redim.new.self c.in-Ok.ensures.ok c.requires.to
