-- Where a statement is led that is done fast.
use Rattle.std.proofs.Common.{◌≡◌, ◌∙◌, ℕ, sym, ap, Option, Some, None, option_map, unwrap_or}
use Rattle.b2_flow.specs.declared.frame.Place.{Place}
use Rattle.b2_rows.specs.declared.following.Goal.TheVariants as goal
use Rattle.b2_access.specs.Jumps.{to_goal, to_place}
use Rattle.b2_access.specs.Fast.{lead_of, led_by, place_following, place_led}
use Rattle.b2_access.specs.Places.{goal_place}
use Rattle.b2_access.specs.declared.placed.Found.{Found}
use Rattle.b2_access.specs.declared.planned.Outcome.TheVariants as outcome
use Rattle.b2_access.proofs.Led.{following_led, goal_led}
use Rattle.b2_stmt.specs.Fast.{IsPlaceLed, LeadsBy}

-- a place that a lead was made of
led_place : (p : Place) (line : Option ℕ) (l : ℕ × ℕ) → p.line ≡ line → option_map (λ (n : ℕ). (n, p.unit)) line ≡ Some l → p ≡ place_led p.home l
led_place p None l is h = cc
led_place p (Some n) l is h =
    ap (λ (line : Option ℕ). record { home = p.home; line = line; unit = p.unit }) is
    ∙ ap (λ (o : Option (ℕ × ℕ)). place_led p.home (unwrap_or o l)) h

-- a goal on the line, or the next line
to_place_led : (f : Found) (o : Option Place) (l : Option (ℕ × ℕ)) → ((x : ℕ × ℕ) → lead_of o ≡ Some x → o ≡ Some (place_led f.place.home x)) → l ≡ lead_of o → LeadsBy l f (to_place o)
to_place_led f o None at h = tt
to_place_led f o (Some x) at h = ap (λ (p : Option Place). led_by (to_place p) (place_following f)) (at x (sym h))

pub unit_led : (f : Found) (k : ℕ) (l : Option (ℕ × ℕ)) → l ≡ lead_of (goal_place f.home.now.lines f.place (goal.Unit k)) → LeadsBy l f (to_goal f.home.now.lines f.place (goal.Unit k))
unit_led f k l h = to_place_led f (goal_place f.home.now.lines f.place (goal.Unit k)) l (goal_led f.home.now.lines f.place (goal.Unit k)) h

pub next_line_led : (f : Found) (l : Option (ℕ × ℕ)) → l ≡ lead_of (goal_place f.home.now.lines f.place goal.NextLine) → LeadsBy l f (to_goal f.home.now.lines f.place goal.NextLine)
next_line_led f l h = to_place_led f (goal_place f.home.now.lines f.place goal.NextLine) l (goal_led f.home.now.lines f.place goal.NextLine) h

-- the place that follows
next_by : (f : Found) (l : Option (ℕ × ℕ)) → l ≡ lead_of (place_following f) → LeadsBy l f outcome.Next
next_by f None h = tt
next_by f (Some x) h = following_led f x (sym h)

pub next_led : (f : Found) (l : Option (ℕ × ℕ)) → l ≡ lead_of (place_following f) → LeadsBy l f outcome.Next
next_led f l h = next_by f l h

-- a place in a line at home
pub place_in_line : (home : ℕ) (p : Place) (n : ℕ) (l : Option (ℕ × ℕ)) → p.home ≡ home → p.line ≡ Some n → l ≡ Some (n, p.unit) → IsPlaceLed l home p
place_in_line home p n None at_home is h = tt
place_in_line home p n (Some x) at_home is h =
    led_place p (Some n) x is (sym h) ∙ ap (λ (m : ℕ). place_led m x) at_home

pub body_led : (f : Found) (body : Place) (l : Option (ℕ × ℕ)) → IsPlaceLed l f.place.home body → LeadsBy l f (outcome.Jump body)
body_led f body None h = tt
body_led f body (Some x) h = ap Some h
