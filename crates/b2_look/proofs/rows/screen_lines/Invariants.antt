use Rattle.std.proofs.Common.{◌≡◌, ◌-◌, ◌++◌, [], get_or}
use Rattle.std.specs.List.{flat_map, range_with_len}
use Rattle.b2_look.specs.Rows.{lines_shown, row_line}
use Rattle.b2_look.proofs.rows.screen_lines.Given as goal

abbrev pub invariant-loop-row : goal.invariant-loop-row
invariant-loop-row l = l.lines.items ++ flat_map (λ r. row_line (get_or l.screen.sheet.rows r [])) (range_with_len l.row (24 - l.row)) ≡ lines_shown l.screen
