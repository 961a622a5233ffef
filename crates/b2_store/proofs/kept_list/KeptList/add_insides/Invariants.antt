use Rattle.std.proofs.Common.{◌≡◌, ◌++◌, map}
use Rattle.b2_store.specs.Kept.{inside_item}
use Rattle.b2_store.proofs.kept_list.KeptList.add_insides.Given as goal

-- the items so far
abbrev pub invariant-loop-row : goal.invariant-loop-row
invariant-loop-row l = l.self ≡ l.fn.self ++ map inside_item l.yielded
