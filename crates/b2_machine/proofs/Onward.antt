-- A statement that was done fast leads to a next one there.
use Rattle.std.proofs.Common.{◌≡◌, ◌==◌, ◌&&◌, ℕ, Bool, true, false, if◌then◌else◌, refl, ap, ◌∙◌, arith, Some, None}
use Rattle.std.proofs.lemmas.Bool.Decides.{nat_tests}
use Rattle.b2_flow.specs.declared.frame.Place.{Place}
use Rattle.b2_access.specs.Fast.{place_led}
use Rattle.b2_access.specs.declared.private.Private.{Private}
use Rattle.b2_machine.specs.StraightLine.{is_undisturbed, place_in, placed_in}
use Rattle.b2_machine.proofs.Runs.{stands_there}

same_home : (home : ℕ) → (home == home) ≡ true
same_home home = by (home == home) refl
  where
    by : (b : Bool) → (home == home) ≡ b → b ≡ true
    by true e = refl
    by false e = grind (arith, nat_tests)

led_there : (home : ℕ) (l : ℕ × ℕ) → placed_in home (Some (place_led home l)) ≡ Some (place_led home l)
led_there home l = ap (λ (b : Bool). if b && true then Some (place_led home l) else None) (same_home home)

-- it stands there, and nothing comes before
pub next_stands : (home : ℕ) (me after : Private) (p : Place) (l : ℕ × ℕ) → place_in home me ≡ Some p → is_undisturbed after ≡ is_undisturbed me → after.place ≡ Some (place_led p.home l) → place_in home after ≡ Some (place_led home l)
next_stands home me after p l is_p same is_place =
    let stands = stands_there home me p is_p in
    ap (λ (b : Bool). if b then placed_in home after.place else None) (same ∙ stands.undisturbed)
    ∙ ap (placed_in home) (is_place ∙ ap (λ (h : ℕ). Some (place_led h l)) stands.within)
    ∙ led_there home l
