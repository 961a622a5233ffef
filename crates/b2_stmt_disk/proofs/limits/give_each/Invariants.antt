use Rattle.std.proofs.Common.{◌≡◌, length, drop}
use Rattle.b2_expr.specs.Workspace.{SameReferences, workspace}
use Rattle.b2_stmt_disk.specs.Limits.{gives_each}
use Rattle.b2_stmt_disk.specs.Receivers.{AreReceivers, receivers_at}
use Rattle.b2_stmt_disk.proofs.limits.give_each.Given as goal

-- the receivers that are left take the numbers that are left as all of them take all
abbrev pub invariant-loop-n : goal.invariant-loop-n
invariant-loop-n l = record {
  stand : AreReceivers (length (drop l.n-index l.numbers)) l.left;
  given : gives_each (drop l.n-index l.numbers) (receivers_at (length (drop l.n-index l.numbers)) l.left) (workspace l.work) ≡ gives_each l.numbers (receivers_at (length l.numbers) l.text) (workspace l.fn.work);
  held : SameReferences l.fn.work l.work;
}
