-- A turn is passed or taken: what holds of both holds of it.
use Rattle.std.proofs.Common.{◌≡◌, ℕ, Bool, true, false, if◌then◌else◌}
use Rattle.b2_access.specs.Loans.{Loan}
use Rattle.b2_access.specs.Sharing.{ServingOf}
use Rattle.b2_access.specs.Store.{StoreState}
use Rattle.b2_access.specs.declared.private.Private.{Private}
use Rattle.b2_access.proofs.Choice.{either}
use Rattle.b2_language.specs.Languages.{Ways}
use Rattle.b2_machine.specs.Seeing.{turn_seen}
use Rattle.b2_machine.specs.Turn.{TurnEnd, ended_turn, passed_one, passes_none, passes_turn, turn, turn_from}
use Rattle.b2_machine.specs.declared.ends.Why.TheVariants as reason

module _ (ways : Ways) {M : Type 0} (store : M → StoreState) (serving : ServingOf M) (lending : Loan M) where
  pub each_turn : (P : TurnEnd M → Type 0) (quota : ℕ) (me : Private) (m : M) → P (ended_turn 0 reason.Break (passed_one me) m) → P (turn_from ways store serving lending quota (passes_none me) m 0)
      → P (turn ways store serving lending quota me m)
  each_turn P quota me m gone_fast taken = either P (passes_turn me) (ended_turn 0 reason.Break (passed_one me) m) (turn_from ways store serving lending quota (passes_none me) m 0) gone_fast taken

-- and one that is seen as another is so in both cases
pub turn_seen_by : {M N : Type 0} (see : M → N) (b : Bool) (x y : TurnEnd M) (u v : TurnEnd N) → turn_seen see x ≡ u → turn_seen see y ≡ v → turn_seen see (if b then x else y) ≡ (if b then u else v)
turn_seen_by see true x y u v h k = h
turn_seen_by see false x y u v h k = k
