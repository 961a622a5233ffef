use Rattle.std.proofs.Common.{◌≡◌, ◌++◌, drop}
use Rattle.std.specs.Prelude.{filter}
use Rattle.b2_boot.specs.Alone.{is_in_group}
use Rattle.b2_boot.proofs.alone.members.Given as goal

-- the members so far, and those that are left
abbrev pub invariant-loop-p : goal.invariant-loop-p
invariant-loop-p l = l.members.items ++ filter (λ p. is_in_group l.group p.number) (drop l.p-index l.partitions) ≡ filter (λ p. is_in_group l.group p.number) l.partitions
