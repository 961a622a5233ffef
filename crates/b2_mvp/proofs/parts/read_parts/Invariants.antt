use Rattle.std.proofs.Common.{◌≡◌, ◌≤◌, ◌++◌, length}
use Rattle.std.specs.Prelude.{option_map}
use Rattle.std.specs.Option.{option_copied}
use Rattle.b2_base.specs.Byte as byte
use Rattle.b2_base.specs.Pieces.{pieces_after}
use Rattle.b2_mvp.specs.Parts.{parts_above, listed_parts}
use Rattle.b2_mvp.proofs.parts.read_parts.Given as goal

-- what was read, with what is left, is the whole list; each partition that was read is above the one before, so there are no more
-- of them than the number of the last
abbrev pub invariant-loop-left : goal.invariant-loop-left
invariant-loop-left l = record {
  read : option_map (λ ps. l.parts ++ ps) (parts_above l.last (pieces_after byte.comma (option_copied l.left))) ≡ listed_parts l.fn.word;
  few : length l.parts ≤ l.last;
  last : l.last ≤ 16;
}

abbrev pub decreases-loop-left : goal.decreases-loop-left
decreases-loop-left l = length (pieces_after byte.comma (option_copied l.left))
