use Rattle.std.proofs.Common.{◌≡◌, ◌<◌, ◌≤◌, ◌++◌, ◌-◌, ◌%◌, length, take, drop}
use Rattle.b2_matalpha.specs.Locators.{received}
use Rattle.b2_matalpha.specs.Searches.{found_places}
use Rattle.b2_matalpha.proofs.SearchPlaces.{found_from}
use Rattle.b2_matalpha.proofs.searching.search.Given as goal

-- what is found from here leads to the whole receiver
abbrev pub invariant-loop-index : goal.invariant-loop-index
invariant-loop-index l = record {
  within : l.used ≤ length l.into;
  inside : l.index ≤ length l.of;
  at : l.index < length l.of → l.index % l.step ≡ 0;
  whole : take l.used l.into ++ received (found_from l.of l.rel l.want l.step l.index) (drop l.used l.into) ≡ received (found_places l.of l.rel l.want l.step) l.fn.into;
}

abbrev pub decreases-loop-index : goal.decreases-loop-index
decreases-loop-index l = length l.of - l.index
