-- A statement that is done fast: it has ended and changed all that it changes, and leads to a unit of a line at home.
use Rattle.std.specs.Prelude.{◌≡◌, ◌+◌, ℕ, Option, Some, None, option_map}
use Rattle.b2_flow.specs.declared.frame.Place.{Place}
use Rattle.b2_rows.specs.Following.{tree_units, unit_or_next}
use Rattle.b2_access.specs.Places.{goal_place}
use Rattle.b2_access.specs.Planning.{Planning}
use Rattle.b2_access.specs.declared.placed.Found.{Found}
use Rattle.b2_access.specs.declared.planned.Outcome.{Outcome}
use Rattle.b2_access.specs.declared.planned.Outcome.TheVariants as outcome
use Rattle.b2_access.specs.declared.planned.Planned.{Planned}
use Rattle.b2_access.specs.declared.planned.Planned.TheVariants as planned
use Rattle.b2_access.specs.declared.private.Private.{Private}

-- the line and the unit of a place in the program
abbrev pub lead_of : Option Place → Option (ℕ × ℕ)
lead_of None = None
lead_of (Some p) = option_map (λ n. (n, p.unit)) p.line

-- the place of a unit of a line at home
abbrev pub place_led : ℕ → (ℕ × ℕ) → Place
place_led home l = record { home = home; line = Some l.0; unit = l.1 }

-- the place that follows a statement where nothing else is said
abbrev pub place_following : Found → Option Place
place_following f = goal_place f.home.now.lines f.place (unit_or_next (f.place.unit + 1) (tree_units f.line.now))

-- where an outcome leads, by the place that follows; none where the program doesn't just go on
abbrev pub led_by : Outcome → Option Place → Option Place
led_by outcome.Next following = following
led_by (outcome.Jump p) following = Some p
led_by o following = None

abbrev pub led_to : Planned → Option Place → Option Place
led_to (planned.Done o) following = led_by o following
led_to (planned.Ask a) following = None

-- where it was done it has ended as it plans, and leads there; where it wasn't, nothing has changed
abbrev pub DoneFast : Option (ℕ × ℕ) → Found → Private → Private → Planning → Type 0
DoneFast None f me after p = after ≡ me
DoneFast (Some l) f me after p = (p.me ≡ after) × (led_to p.planned (place_following f) ≡ Some (place_led f.place.home l))

-- beside where it stands it changes variables, frames, the arguments of a call and where READ looks next, and nothing else
abbrev pub ChangesFast : Private → Private → Type 0
ChangesFast me after = after ≡ record me { vars = after.vars; stack = after.stack; args = after.args; next_data = after.next_data }
