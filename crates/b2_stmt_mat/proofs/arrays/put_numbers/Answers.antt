use Rattle.std.proofs.Common.{◌≡◌, false, get_or, sym, ap, subst, ◌∙◌, arith}
use Rattle.b2_dec.specs.Number.{zero_number}
use Rattle.b2_vars.specs.Tables.{VarsState, shape_at, variable_at}
use Rattle.b2_vars.specs.Variables.{with_number}
use Rattle.b2_stmt_mat.specs.Arrays.{IsArrayOf}
use Rattle.b2_stmt_mat.proofs.ArraysThere.{number_count}
use Rattle.b2_stmt_mat.proofs.Written.{any_default, finished, next_put, none_put, shape_after, there_after}
use Rattle.b2_stmt_mat.proofs.arrays.put_numbers.Goals as goal

pub loop-cell-init : goal.loop-cell-init
loop-cell-init c = record {
  put = sym (none_put c.args.v c.args.numbers.now c.args.vars.now c.requires.there.there);
  there = c.requires.there;
  shape = c.shape_of-shape.ensures.value;
}

pub loop-cell-preserved : goal.loop-cell-preserved
loop-cell-preserved c =
    let cell = c.loop-cell.cell in
    let x = c.index-numbers-cell.result in
    let before = c.loop-cell.vars in
    let is = c.put_cell_number.ensures in
    let at : x ≡ get_or c.args.numbers.now cell zero_number = c.index-numbers-cell.is ∙ any_default c.args.numbers.now cell x zero_number c.loop-cell-test.true in
    record {
      put = next_put c.args.v cell c.args.numbers.now x c.args.vars.now before c.put_cell_number.new.vars c.loop-cell.invariant.put is at c.loop-cell-test.true (c.requires.count ∙ sym (number_count c.args.v (variable_at c.args.v c.args.vars.now.table) c.requires.there.kind c.shape_of-shape.ensures.sound));
      there = subst (λ (s : VarsState). IsArrayOf false c.args.v s.table) (sym is) (there_after false c.args.v (with_number cell x (variable_at c.args.v before.table)) before.table c.loop-cell.invariant.there);
      shape = c.loop-cell.invariant.shape ∙ sym (ap (λ (s : VarsState). shape_at c.args.v s.table) is ∙ shape_after c.args.v cell x before);
    }

pub returns : goal.returns
returns c =
    finished c.args.v c.loop-cell.cell c.args.numbers.now c.args.vars.now c.loop-cell.vars c.loop-cell.invariant.put (omega (arith, c.loop-cell-test.false, c.loop-cell.auto.cell-end))
    (c.requires.count ∙ sym (number_count c.args.v (variable_at c.args.v c.args.vars.now.table) c.requires.there.kind c.shape_of-shape.ensures.sound))
