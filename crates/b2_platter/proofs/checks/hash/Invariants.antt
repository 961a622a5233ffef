use Rattle.std.proofs.Common.{◌≡◌, ◌*◌, ◌≤◌, take, sum}
use Rattle.b2_platter.proofs.checks.hash.Given as goal

abbrev pub invariant-loop-b : goal.invariant-loop-b
invariant-loop-b l = (l.sum ≡ sum (take l.b-index l.name)) × (l.sum ≤ 255 * l.b-index)
