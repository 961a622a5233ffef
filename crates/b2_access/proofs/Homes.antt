-- Accesses that mark no partition as a home; and where a goal leads goes with the place of its statement.
use Rattle.std.proofs.Common.{◌≡◌, ◌∙◌, ℕ, Bool, true, false, List, [], Option, Some, None, Result, Ok, Err, option_map, sym, ap}
use Rattle.std.specs.Option.{option_and_then}
use Rattle.b2_flow.specs.declared.frame.Place.{Place}
use Rattle.b2_rows.specs.declared.following.Goal.{Goal}
use Rattle.b2_rows.specs.declared.following.Goal.TheVariants as goal
use Rattle.b2_text.specs.Program.{Lines, line_at, number_after}
use Rattle.b2_access.specs.Borrowers.{is_inside}
use Rattle.b2_access.specs.Jumps.{to_found, to_goal, to_place, where_there}
use Rattle.b2_access.specs.Homes.{HomesIn, Naming, OutcomeNamed, PlaceNamed, homes_of}
use Rattle.b2_access.specs.Places.{goal_place, line_after, line_start}
use Rattle.b2_access.specs.Planning.{goes_or}
use Rattle.b2_access.specs.declared.accesses.Access.{Access}
use Rattle.b2_access.specs.declared.planned.Outcome.{Outcome}
use Rattle.b2_access.specs.declared.planned.Outcome.TheVariants as outcome

true_is_false : true ≡ false → ⊥
true_is_false h = cc

pub marks_none : (among : ℕ → Bool) (a : Access) → homes_of a ≡ [] → HomesIn among a
marks_none among a none h is = absurd (true_is_false (sym is ∙ ap (is_inside h) none))

-- WHERE A STATEMENT LEADS: on, or to a code
module _ (among : Naming) where
  pub goes_or_in : (goes : Outcome) (code : Option ℕ) → OutcomeNamed among goes → OutcomeNamed among (goes_or goes code)
  goes_or_in goes None h = h
  goes_or_in goes (Some code) h = tt

  pub next_or_fails : (code : Option ℕ) → OutcomeNamed among (goes_or outcome.Next code)
  next_or_fails code = goes_or_in outcome.Next code tt

  -- to a place, or a line
  pub placed : (p : Option Place) → PlaceNamed among p → OutcomeNamed among (to_place p)
  placed None h = tt
  placed (Some p) h = h

  pub lined : (line : Option (List ℕ)) (p : Place) → among.place p ≡ true → OutcomeNamed among (where_there line p)
  lined None p h = tt
  lined (Some line) p h = h

  -- the line after it
  after_by : (n : Option ℕ) (p : Place) → among.place p ≡ true → PlaceNamed among (option_map (line_start p) n)
  after_by None p h = tt
  after_by (Some n) p h = among.lines p n h

  after_line : (lines : Lines) (p : Place) → among.place p ≡ true → PlaceNamed among (line_after lines p)
  after_line lines p h = by_line p.line
    where
      by_line : (l : Option ℕ) → PlaceNamed among (option_and_then (λ (n : ℕ). option_map (line_start p) (number_after (Some n) lines)) l)
      by_line None = tt
      by_line (Some n) = after_by (number_after (Some n) lines) p h

  -- a goal
  pub goal_in : (lines : Lines) (p : Place) (g : Goal) → among.place p ≡ true → PlaceNamed among (goal_place lines p g)
  goal_in lines p (goal.Unit k) h = among.units p k h
  goal_in lines p (goal.Line n) h = among.lines p n h
  goal_in lines p goal.NextLine h = after_line lines p h

  pub goes_in : (lines : Lines) (p : Place) (g : Goal) → among.place p ≡ true → OutcomeNamed among (to_goal lines p g)
  goes_in lines p (goal.Unit k) h = among.units p k h
  goes_in lines p (goal.Line n) h = lined (line_at n lines) (line_start p n) (among.lines p n h)
  goes_in lines p goal.NextLine h = placed (line_after lines p) (after_line lines p h)

  pub found_in : (lines : Lines) (p : Place) (r : Result Goal ℕ) → among.place p ≡ true → OutcomeNamed among (to_found lines p r)
  found_in lines p (Ok g) h = goes_in lines p g h
  found_in lines p (Err code) h = tt
