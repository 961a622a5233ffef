use Rattle.std.proofs.Common.{◌≡◌, ◌++◌, take, drop}
use Rattle.b2_print.specs.Images.{pieces_of, literals}
use Rattle.b2_print.proofs.imaging.first_field.Given as goal

abbrev pub invariant-loop-at : goal.invariant-loop-at
invariant-loop-at l = pieces_of l.image ≡ literals (take l.at l.image) ++ pieces_of (drop l.at l.image)
