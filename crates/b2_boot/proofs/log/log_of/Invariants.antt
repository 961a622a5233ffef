use Rattle.std.proofs.Common.{◌≡◌, ◌≤◌, ◌+◌, true, length}
use Rattle.std.specs.Option.{option_copied}
use Rattle.std.specs.List.{list_all}
use Rattle.b2_boot.specs.LogLines.{lines_beyond}
use Rattle.b2_boot.specs.Logs.{granted_by, log_from, log_of, onto_log, is_of_boot}
use Rattle.b2_boot.proofs.log.log_of.Given as goal

abbrev pub invariant-loop-left : goal.invariant-loop-left
invariant-loop-left l = record {
  told : onto_log l.events.items (log_from l.boot l.number l.granted (lines_beyond (option_copied l.left))) ≡ log_of l.boot l.fn.bytes;
  granted : l.granted ≤ 5000000;
  in_all : granted_by l.boot l.events.items ≡ l.granted;
  fit : list_all (is_of_boot l.boot) l.events.items ≡ true;
  lines : l.number + length (lines_beyond (option_copied l.left)) ≤ length l.fn.bytes + 2;
}

abbrev pub decreases-loop-left : goal.decreases-loop-left
decreases-loop-left l = length (lines_beyond (option_copied l.left))
