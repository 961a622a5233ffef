-- How far a turn goes on at once.
use Rattle.std.specs.Prelude.{◌≡◌, ◌≤◌, ◌+◌, ◌-◌, ℕ}
use Rattle.b2_access.specs.Homes.{IsWithin}
use Rattle.b2_access.specs.Leading.{NamesIn, is_present}
use Rattle.b2_access.specs.Loans.{Loan}
use Rattle.b2_access.specs.Sharing.{ServingOf}
use Rattle.b2_access.specs.Store.{StoreState}
use Rattle.b2_access.specs.declared.private.Private.{Private}
use Rattle.b2_language.specs.Languages.{Ways}
use Rattle.b2_machine.specs.Turn.{TurnEnd, ended_turn, turn_from, unless_ended}
use Rattle.b2_machine.specs.declared.turning.Went.{Went}

-- all that a partition names is present, and so are those to whom names lead
pub record ArePresent (s : StoreState) (me : Private) : Type 0 where
  pub within : IsWithin (is_present s) me
  pub names : NamesIn (is_present s) s

module _ (ways : Ways) {M : Type 0} (store : M → StoreState) (serving : ServingOf M) (lending : Loan M) where
  -- what a turn of which so many steps are left, and after some that counted, comes to once it went so far
  abbrev pub after_going : ℕ → Went → Private → M → ℕ → TurnEnd M
  after_going left w me m steps = unless_ended w.why (λ y. ended_turn (steps + w.counted) y me m) (turn_from ways store serving lending (left - w.taken) me m (steps + w.counted))

  -- it goes at least one step, at most those that are left, and comes to what it came to before
  pub record Advances (left : ℕ) (me you : Private) (m after : M) (w : Went) : Type 0 where
    pub told : (steps : ℕ) → after_going left w you after steps ≡ turn_from ways store serving lending left me m steps
    pub some : 1 ≤ w.taken
    pub few : w.taken ≤ left
    pub counted : w.counted ≤ w.taken
    pub present : ArePresent (store after) you
