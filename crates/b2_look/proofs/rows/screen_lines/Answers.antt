use Rattle.std.proofs.Common.{ℕ, List, [], ◌++◌, get_or, ap, ◌∙◌, arith}
use Rattle.b2_look.specs.Rows.{row_line}
use Rattle.b2_look.proofs.Lines.{one_more}
use Rattle.b2_look.proofs.rows.screen_lines.Goals as goal

pub loop-row-preserved : goal.loop-row-preserved
loop-row-preserved c =
    one_more (λ r. row_line (get_or c.args.screen.now.sheet.rows r [])) c.loop-row.lines.items c.push_row.new.into.items _ c.loop-row.row 24 (omega arith) c.loop-row.invariant
    (c.in_ok-push_row.ensures ∙ ap (λ (cells : List ℕ). c.loop-row.lines.items ++ row_line cells) c.row.ensures.cells)
