use Rattle.std.proofs.Common.{◌≡◌, drop}
use Rattle.b2_access.specs.Borrowers.{homes_marked, marked_among}
use Rattle.b2_store.specs.Inside.{given_back}
use Rattle.b2_store.proofs.borrows.give_back.Given as goal

-- with those that are left it is all that is to be
abbrev pub invariant-loop-home : goal.invariant-loop-home
invariant-loop-home g l = given_back l.who (marked_among l.homes (drop l.home-index l.home-items)) (g.S.Lookups.state l.store) ≡ given_back l.who (homes_marked l.homes) (g.S.Lookups.state l.fn.store)
