use Rattle.std.proofs.Common.{◌≡◌, true, length}
use Rattle.b2_atom.specs.declared.rows.TheConstants as row
use Rattle.b2_atom.specs.declared.forms.Start.TheVariants as start
use Rattle.b2_rows.specs.Rows.{after_phrase, is_list, after_list}
use Rattle.b2_expr.proofs.skip_text.past_pairs.Given as goal

abbrev pub invariant-loop-left : goal.invariant-loop-left
invariant-loop-left l = record {
  list : is_list start.Hex row.HEX_PAIR l.left ≡ true;
  rest : after_list start.Hex row.HEX_PAIR l.left ≡ after_phrase row.HEX_PAIRS l.text;
}

abbrev pub decreases-loop-left : goal.decreases-loop-left
decreases-loop-left l = length l.left
