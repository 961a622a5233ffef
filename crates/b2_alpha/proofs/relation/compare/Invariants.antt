use Rattle.std.proofs.Common.{◌≡◌, max, length, drop}
use Rattle.std.specs.Ordering.{nat_cmp}
use Rattle.std.specs.Cmp.Lexicographic.{slice_cmp}
use Rattle.b2_alpha.specs.Values.{padded}
use Rattle.b2_alpha.specs.Relations.{order_of}
use Rattle.b2_alpha.proofs.relation.compare.Given as goal

-- the order from here is the whole order
abbrev pub invariant-loop-i : goal.invariant-loop-i
invariant-loop-i l =
    slice_cmp nat_cmp (drop l.i (padded (max (length l.a) (length l.b)) l.a)) (drop l.i (padded (max (length l.a) (length l.b)) l.b)) ≡ order_of l.a l.b
