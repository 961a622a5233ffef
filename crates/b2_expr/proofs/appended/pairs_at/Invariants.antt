use Rattle.std.proofs.Common.{◌≡◌, ◌≤◌, ◌++◌, ◌+◌, true, Ok, length}
use Rattle.b2_atom.specs.declared.rows.TheConstants as row
use Rattle.b2_atom.specs.declared.forms.Start.TheVariants as start
use Rattle.b2_rows.specs.Rows.{tree_at, after_phrase, is_list, list_at, after_list}
use Rattle.b2_expr.specs.Value.{pairs_of, pair_bytes}
use Rattle.b2_expr.proofs.appended.pairs_at.Given as goal

-- the bytes so far, and those of the pairs that are left
abbrev pub invariant-loop-into : goal.invariant-loop-into
invariant-loop-into l = record {
  list : is_list start.Hex row.HEX_PAIR l.left ≡ true;
  bytes : pairs_of (tree_at row.HEX_PAIRS l.text) ≡ Ok (l.into ++ pair_bytes (list_at start.Hex row.HEX_PAIR l.left));
  rest : after_list start.Hex row.HEX_PAIR l.left ≡ after_phrase row.HEX_PAIRS l.text;
  room : length l.into + length l.into + length l.left ≤ 256;
}

abbrev pub decreases-loop-into : goal.decreases-loop-into
decreases-loop-into l = length l.left
