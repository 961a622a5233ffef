-- A store that serves as a plain one, seen as the store in what it means.
use Rattle.std.specs.Prelude.{◌≡◌, ℕ}
use Rattle.b2_access.specs.Sharing.{Gives, ServingOf}
use Rattle.b2_access.specs.Store.{StoreState}
use Rattle.b2_access.specs.declared.accesses.Access.{Access}
use Rattle.b2_store.specs.DiskWork.{serves}

abbrev pub ServesPlainly : {M : Type 0} → (M → StoreState) → ServingOf M → Type 0
ServesPlainly {M} store serving = (m : M) (who : ℕ) (a : Access) → ◌≡◌ {A = Gives StoreState} (record { after = store (serving m who a).after; answer = (serving m who a).answer }) (serves (store m) who a)
