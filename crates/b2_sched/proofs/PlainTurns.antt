-- A turn over a watched store that serves as a plain one is, seen as the store in it with the same marks, the turn over the plain one.
use Rattle.std.specs.Prelude.{◌≡◌, ℕ, List, refl}
use Rattle.std.proofs.Common.{ap}
use Rattle.b2_access.specs.Loans.{Loan, LoansGlobals, lends}
use Rattle.b2_access.specs.Serving.{itself}
use Rattle.b2_access.specs.Sharing.{Gives, ServingOf}
use Rattle.b2_access.specs.Store.{StoreState}
use Rattle.b2_access.specs.Touching.{touched, written_by}
use Rattle.b2_access.specs.declared.devices.Device.{Device}
use Rattle.b2_access.specs.declared.private.Private.{Private}
use Rattle.b2_audit.specs.Marks.{Marks, marked}
use Rattle.b2_audit.specs.Watching.{watched_loan, watching}
use Rattle.b2_machine.specs.Seeing.{turn_seen}
use Rattle.b2_machine.specs.Turn.{TurnEnd, turn}
use Rattle.b2_machine.proofs.SeenTurns.{turns_are_seen}
use Rattle.b2_store.specs.DiskWork.{serves}
use Rattle.b2_store.specs.Plainly.{ServesPlainly}
use Rattle.b2_sched.specs.Choice.{basic}
use Rattle.b2_sched.specs.Marking.{Watched, store_in, watched_turn}

-- the store in what is meant, with the same marks
abbrev pub plain : {M : Type 0} → (M → StoreState) → M × Marks → Watched
plain store m = (store m.0, m.1)

abbrev pub plain_end : {M : Type 0} → (M → StoreState) → TurnEnd (M × Marks) → TurnEnd Watched
plain_end store t = turn_seen (plain store) t

module _ (devices : List Device) {M : Type 0} (store : M → StoreState) (serving : ServingOf M) (lending : Loan M) (serves_plainly : ServesPlainly store serving) (lends_globals : LoansGlobals store lending) where
  pub turn_plainly : (quota : ℕ) (me : Private) (m : M × Marks)
      → plain_end store (turn (basic devices) (λ (k : M × Marks). store k.0) (watching store serving) (watched_loan store lending) quota me m) ≡ watched_turn devices quota me (store m.0, m.1)
  turn_plainly quota me m =
      turns_are_seen (basic devices) (λ (k : M × Marks). store k.0) store_in (watching store serving) (watching itself serves) (watched_loan store lending) (watched_loan itself lends) (plain store)
      (record {
        stores = refl;
        serves = λ k who a. ap (λ (g : Gives StoreState). record { after = (g.after, marked who (touched (store k.0) who a) (written_by g.answer who a) k.1); answer = g.answer }) (serves_plainly k.0 who a);
        lends = λ who home whose k left. ap (λ (s : StoreState). (s, (watched_loan store lending who home whose k left).1)) (lends_globals who home whose k.0 left);
      })
      quota me m
