use Rattle.std.proofs.Common.{◌≡◌, ◌-◌, ◌++◌}
use Rattle.std.specs.List.{flat_map, range_with_len}
use Rattle.b2_catalog.specs.Listing.{slot_line, listing_of}
use Rattle.b2_catalog.proofs.lines.listing.Given as goal

abbrev pub invariant-loop-k : goal.invariant-loop-k
invariant-loop-k l =
    l.into.items ++ flat_map (slot_line l.p) (range_with_len l.k (l.k-end - l.k)) ≡ l.fn.into.items ++ listing_of l.p
