use Rattle.std.proofs.Common.{◌≡◌, ◌++◌, replicate}
use Rattle.b2_stmt_file.proofs.loaded_values.put_kinds.Given as goal

-- the kinds so far before those that are left are all of them
abbrev pub invariant-loop-left : goal.invariant-loop-left
invariant-loop-left l = l.into.items ++ replicate l.left l.kind ≡ l.fn.into.items ++ replicate l.n l.kind

abbrev pub decreases-loop-left : goal.decreases-loop-left
decreases-loop-left l = l.left
