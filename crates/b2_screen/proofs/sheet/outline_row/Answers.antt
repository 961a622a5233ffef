use Rattle.std.proofs.Common.{◌+◌, ◌-◌, refl, rules, set, sym, ◌∙◌, inl, arith}
use Rattle.b2_screen.specs.Sheet.{outlined_cell}
use Rattle.b2_screen.proofs.Places.{each_first, each_onto, each_past, each_skip}
use Rattle.b2_screen.proofs.Outlines.{after_all, before_all, column_stays, next_place, skip_stays}
use Rattle.b2_screen.proofs.sheet.outline_row.Goals as goal

pub loop-j-init : goal.loop-j-init
loop-j-init c =
    let r = c.args.rectangle in
    record {
      width = c.told-row;
      low = omega arith;
      side = λ _. inl refl;
      drawn = each_skip (outlined_cell r c.args.i) 0 r.column r.column c.args.row.now 0 (omega arith) (λ k x _ high. column_stays r c.args.i k x (before_all r.column r.columns k high))
          ∙ each_first (outlined_cell r c.args.i) c.args.row.now;
    }

pub loop-j-preserved : goal.loop-j-preserved
loop-j-preserved c =
    let r = c.args.rectangle in
    let f = outlined_cell r c.args.i in
    let j = c.loop-j.j in
    let step = c.step_along-step.result in
    let along = c.step_along-step.ensures in
    let row = set c.loop-j.row c.from-in-loop-j.result c.outlined_cell.result in
    record {
      width = search rules;
      low = omega (arith, c.loop-j.invariant.low);
      side = next_place r c.args.i j step c.loop-j.invariant.low along.value c.requires.4;
      drawn = each_skip f (j + 1) (step - 1) (j + step) row 0 (omega (arith, along.some)) (λ k x low high. skip_stays r c.args.i j k x step c.loop-j.invariant.side c.loop-j.invariant.low along.value (omega (arith, low)) high)
          ∙ each_onto f j _ c.from.result c.loop-j.row 0 c.outlined_cell.result _ (search rules) (search rules) (omega (arith, c.loop-j-test.true, c.min-end.ensures, c.loop-j.invariant.width)) c.outlined_cell.ensures c.loop-j.invariant.drawn;
    }

pub returns : goal.returns
returns c =
    let r = c.args.rectangle in
    sym (each_past (outlined_cell r c.args.i) c.loop-j.j c.loop-j.row 0
    (λ k x low high. column_stays r c.args.i k x (after_all r.column r.columns k (omega (arith, low, high, c.loop-j-test.false, c.min-end.ensures, c.loop-j.invariant.width)))))
    ∙ c.loop-j.invariant.drawn
