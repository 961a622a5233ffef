use Rattle.std.proofs.Common.{◌≡◌, length, reverse, take}
use Rattle.b2_flow.specs.Stacks.{has_call, from_call}
use Rattle.b2_flow.proofs.search.nearest_call.Given as goal

-- what is found from here is what is found from the top
abbrev pub invariant-loop-frame : goal.invariant-loop-frame
invariant-loop-frame l = record {
  found : has_call (reverse l.rest) ≡ has_call (reverse l.frames);
  kept : from_call (reverse l.rest) ≡ from_call (reverse l.frames);
  lowest : take (length l.rest) l.frames ≡ l.rest;
}

abbrev pub decreases-loop-frame : goal.decreases-loop-frame
decreases-loop-frame l = length l.rest
