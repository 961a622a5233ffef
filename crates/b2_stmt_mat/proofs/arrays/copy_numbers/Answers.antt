use Rattle.std.proofs.Common.{◌∙◌, arith}
use Rattle.std.proofs.lemmas.List.{ext_get_or}
use Rattle.b2_dec.specs.Number.{zero_number}
use Rattle.b2_vars.specs.Tables.{variable_at}
use Rattle.b2_stmt_mat.proofs.arrays.copy_numbers.Goals as goal

pub returns : goal.returns
returns c =
    ext_get_or zero_number c.loop-cell.into (variable_at c.args.v c.args.vars.now.table).numbers (c.loop-cell.auto.into ∙ c.requires.count) (λ p inside. c.loop-cell.invariant p (omega arith))
