use Rattle.std.proofs.Common.{◌≡◌, drop}
use Rattle.b2_text.specs.Blocks.{is_opening, lines_laid}
use Rattle.b2_text.specs.Members.{lines_where}
use Rattle.b2_text.specs.Spots.{is_mark, first_opening}
use Rattle.b2_text.proofs.spots.first_mark.Given as goal

-- what is found in the listed lines from here on is what is found in all
abbrev pub invariant-loop-i : goal.invariant-loop-i
invariant-loop-i l =
    first_opening (is_mark l.n) (drop l.i (lines_where is_opening (lines_laid l.block.items l.places.items))) ≡ first_opening (is_mark l.n) (lines_laid l.block.items l.places.items)
