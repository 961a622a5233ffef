use Rattle.std.proofs.Common.{◌≡◌, ◌++◌, drop}
use Rattle.b2_mvp.specs.Parts.{each_after_comma}
use Rattle.b2_mvp.proofs.parts.add_more.Given as goal

-- the bytes so far, and those of the partitions that are left
abbrev pub invariant-loop-part : goal.invariant-loop-part
invariant-loop-part l = l.line.items ++ each_after_comma (drop l.part-index l.parts) ≡ l.fn.line.items ++ each_after_comma l.parts
