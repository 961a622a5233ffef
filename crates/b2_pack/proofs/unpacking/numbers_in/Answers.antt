use Rattle.std.proofs.Common.{◌+◌, ◌-◌, ◌<◌, length, Err, sym, ap, ◌∙◌, arith}
use Rattle.b2_pack.specs.Rows.{row_length}
use Rattle.b2_pack.proofs.ReadingLemmas.{after_items, numbers-short, numbers-ok, numbers-err}
use Rattle.b2_pack.proofs.unpacking.numbers_in.Goals as goal

pub returns-then-width-from-clause-code : goal.returns-then-width-from-clause-code
returns-then-width-from-clause-code c =
    let some : 0 < c.args.n - c.loop.counter = omega arith in
    let short : length c.args.from.now < c.loop.at + row_length c.args.row = omega (arith, c.row_length-width.ensures.width) in
    sym c.loop.invariant.read ∙ ap (after_items c.loop.xs.items) (numbers-short c.args.row c.loop.at (c.args.n - c.loop.counter) c.args.from.now some short)
    ∙ ap Err (sym c.known.ensures)

pub returns-in-Err-clause-code : goal.returns-in-Err-clause-code
returns-in-Err-clause-code c =
    numbers-err c.args.row c.loop.at c.args.n c.loop.counter c.row_length-width.result c.args.from.now c.number_of_row.result c.loop.xs.items c.in-Err.code _
    c.loop-test.true c.row_length-width.ensures.width (omega arith) c.number_of_row.ensures c.in-Err.is c.loop.invariant.read

pub loop-preserved : goal.loop-preserved
loop-preserved c = record {
  inside = omega arith;
  read =
      numbers-ok c.args.row c.loop.at c.args.n c.loop.counter c.row_length-width.result c.args.from.now c.number_of_row.result c.loop.xs.items _ c.in-Ok.x _
      c.loop-test.true c.row_length-width.ensures.width (omega arith) c.number_of_row.ensures c.in-Ok.is c.in_ok-add-in-Ok.ensures c.loop.invariant.read;
}
