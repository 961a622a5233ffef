-- What an access does that nothing stops, and how one is served: they lead from one store to another, with an answer.
use Rattle.std.specs.Prelude.{◌≡◌, ℕ}
use Rattle.b2_access.specs.declared.accesses.Access.{Access}
use Rattle.b2_access.specs.declared.accesses.Answer.{Answer}
use Rattle.b2_access.specs.AccessRows.{holder_at, row}
use Rattle.b2_access.specs.Serving.{performs}
use Rattle.b2_access.specs.Sharing.{Gives}
use Rattle.b2_access.specs.Store.{StoreState}
use Rattle.b2_store.specs.DiskWork.{disks, serves}

-- by the row of the access
abbrev pub Does : ℕ → Access → StoreState → StoreState → Answer → Type 0
Does who a old new answer = ◌≡◌ {A = Gives StoreState} (record { after = new; answer = answer }) (performs ((row a).does disks who (holder_at a old)) old)

-- and as a plain store serves
abbrev pub Serves : ℕ → Access → StoreState → StoreState → Answer → Type 0
Serves who a old new answer = ◌≡◌ {A = Gives StoreState} (record { after = new; answer = answer }) (serves old who a)
