use Rattle.b2_matalpha.proofs.SearchPlaces.{found_rise, found_match, match_found}
use Rattle.b2_matalpha.proofs.laws.searches_find_what_matches.Goals as goal

pub returns-clause-ascending : goal.returns-clause-ascending
returns-clause-ascending c = found_rise

pub returns-clause-only : goal.returns-clause-only
returns-clause-only c = found_match

pub returns-clause-each : goal.returns-clause-each
returns-clause-each c = match_found
