-- The place of a line and a unit to which a goal leads, as a statement is led that is done fast: it is at home.
use Rattle.std.proofs.Common.{◌≡◌, ◌+◌, ℕ, Option, Some, None, option_map, ap}
use Rattle.b2_flow.specs.declared.frame.Place.{Place}
use Rattle.b2_rows.specs.Following.{tree_units, unit_or_next}
use Rattle.b2_rows.specs.declared.following.Goal.{Goal}
use Rattle.b2_rows.specs.declared.following.Goal.TheVariants as goal
use Rattle.b2_text.specs.Program.{Lines, number_after}
use Rattle.b2_access.specs.Fast.{lead_of, place_following, place_led}
use Rattle.b2_access.specs.Places.{goal_place, line_start}
use Rattle.b2_access.specs.declared.placed.Found.{Found}

unit_led : (home : ℕ) (line : Option ℕ) (k : ℕ) (l : ℕ × ℕ) → option_map (λ n. (n, k)) line ≡ Some l
    → ◌≡◌ {A = Option Place} (Some (record { home = home; line = line; unit = k })) (Some (place_led home l))
unit_led home None k l h = cc
unit_led home (Some n) k l h = ap (option_map (place_led home)) h

line_led : (p : Place) (line : Option ℕ) (l : ℕ × ℕ) → lead_of (option_map (line_start p) line) ≡ Some l → option_map (line_start p) line ≡ Some (place_led p.home l)
line_led p None l h = cc
line_led p (Some n) l h = ap (option_map (place_led p.home)) h

next_led : (lines : Lines) (home : ℕ) (line : Option ℕ) (unit : ℕ) (l : ℕ × ℕ) → lead_of (goal_place lines (record { home = home; line = line; unit = unit }) goal.NextLine) ≡ Some l
    → goal_place lines (record { home = home; line = line; unit = unit }) goal.NextLine ≡ Some (place_led home l)
next_led lines home None unit l h = cc
next_led lines home (Some n) unit l h = line_led (record { home = home; line = Some n; unit = unit }) (number_after (Some n) lines) l h

pub goal_led : (lines : Lines) (p : Place) (g : Goal) (l : ℕ × ℕ) → lead_of (goal_place lines p g) ≡ Some l → goal_place lines p g ≡ Some (place_led p.home l)
goal_led lines p (goal.Unit k) l h = unit_led p.home p.line k l h
goal_led lines p (goal.Line n) l h = ap (option_map (place_led p.home)) h
goal_led lines p goal.NextLine l h = next_led lines p.home p.line p.unit l h

-- the place that follows
pub following_led : (f : Found) (x : ℕ × ℕ) → lead_of (place_following f) ≡ Some x → place_following f ≡ Some (place_led f.place.home x)
following_led f x h = goal_led f.home.now.lines f.place (unit_or_next (f.place.unit + 1) (tree_units f.line.now)) x h
