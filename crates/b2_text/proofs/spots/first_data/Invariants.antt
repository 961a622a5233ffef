use Rattle.std.proofs.Common.{◌≡◌, drop}
use Rattle.b2_text.specs.Blocks.{holds_data, lines_laid}
use Rattle.b2_text.specs.Members.{lines_where}
use Rattle.b2_text.specs.Spots.{data_from}
use Rattle.b2_text.proofs.spots.first_data.Given as goal

-- what is found in the listed lines from here on is what is found in all
abbrev pub invariant-loop-i : goal.invariant-loop-i
invariant-loop-i l =
    data_from l.from (drop l.i (lines_where holds_data (lines_laid l.block.items l.places.items))) ≡ data_from l.from (lines_laid l.block.items l.places.items)
