use Rattle.std.proofs.Common.{[], rules, sym, ◌∙◌, arith}
use Rattle.b2_screen.specs.Sheet.{outlined_row}
use Rattle.b2_screen.proofs.Places.{each_first, each_onto, each_past, each_skip}
use Rattle.b2_screen.proofs.Outlines.{after_all, before_all, row_stays}
use Rattle.b2_screen.proofs.sheet.outline_rows.Goals as goal

pub loop-i-init : goal.loop-i-init
loop-i-init c =
    let r = c.args.rectangle in
    record {
      height = c.told-rows;
      drawn = each_skip (outlined_row r) 0 r.row r.row c.args.rows.now [] (omega arith) (λ k x _ high. row_stays r k x (before_all r.row r.rows k high)) ∙ each_first (outlined_row r) c.args.rows.now;
    }

pub loop-i-preserved : goal.loop-i-preserved
loop-i-preserved c = record {
  height = search rules;
  drawn = each_onto (outlined_row c.args.rectangle) c.loop-i.i _ c.from.result c.loop-i.rows [] c.outline_row.new.row _
      (search rules) (search rules) (search rules) c.outline_row.ensures c.loop-i.invariant.drawn;
}

pub returns : goal.returns
returns c =
    let r = c.args.rectangle in
    sym (each_past (outlined_row r) c.loop-i.i c.loop-i.rows [] (λ k x low high. row_stays r k x (after_all r.row r.rows k (omega (arith, low, high, c.loop-i-test.false, c.min-end.ensures, c.loop-i.invariant.height)))))
    ∙ c.loop-i.invariant.drawn
