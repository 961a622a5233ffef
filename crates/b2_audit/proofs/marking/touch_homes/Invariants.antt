use Rattle.std.proofs.Common.{◌≡◌, drop}
use Rattle.b2_access.specs.Borrowers.{homes_marked, marked_among}
use Rattle.b2_access.specs.Reach.{borrows}
use Rattle.b2_audit.specs.Marks.{touch_all}
use Rattle.b2_audit.proofs.marking.touch_homes.Given as goal

-- with those that are left it is all that is to be marked
abbrev pub invariant-loop-home : goal.invariant-loop-home
invariant-loop-home l = touch_all l.who (borrows (marked_among l.homes (drop l.home-index l.home-items))) l.seen ≡ touch_all l.who (borrows (homes_marked l.homes)) l.fn.seen
