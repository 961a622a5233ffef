-- How accesses are served: what stops one is tested first, and else it does what its row says.
use Rattle.std.specs.Prelude.{◌≡◌, ℕ, true, List, [], ◌∷◌, Option, Some, None}
use Rattle.b2_access.specs.declared.objects.Object.{Object}
use Rattle.b2_access.specs.declared.accesses.Access.{Access}
use Rattle.b2_access.specs.declared.accesses.Answer.{Answer}
use Rattle.b2_access.specs.declared.accesses.Answer.TheVariants as answer
use Rattle.b2_access.specs.AccessRows.{AccessRow, holder_entered, row}
use Rattle.b2_access.specs.AnswerKinds.{stops}
use Rattle.b2_access.specs.Disks.{DiskWork}
use Rattle.b2_access.specs.Sharing.{Gives, ServingOf}
use Rattle.b2_access.specs.Stopping.{stop}
use Rattle.b2_access.specs.Store.{StoreState, content, put}
use Rattle.b2_access.specs.Task.{Put, Task, Look, Tell, Refuse, Missing}

abbrev pub put_each : {written : List Object} → List (Put written) → StoreState → StoreState
put_each [] s = s
put_each (p ∷ ps) s = put_each ps (put p.target p.value s)

-- what a task answers, and the store after it
abbrev pub performs : {reached written : List Object} → Task reached written → StoreState → Gives StoreState
performs (Look o there next) s = performs (next (content s o)) s
performs (Tell puts x) s = record { after = put_each puts s; answer = x }
performs (Refuse c) s = record { after = s; answer = answer.Refused c }
performs Missing s = record { after = s; answer = answer.NoPart }

-- what is given unless an access is stopped, which leaves the store as it is
abbrev pub unless_stopped : Option Answer → Gives StoreState → StoreState → Gives StoreState
unless_stopped None g s = g
unless_stopped (Some x) g s = record { after = s; answer = x }

abbrev pub serves_row : AccessRow → DiskWork → StoreState → ℕ → Gives StoreState
serves_row r disks s who = unless_stopped (stop who r.reach s) (performs (r.does disks who (holder_entered r.reach.entered s)) s) s

-- HOW A PLAIN STORE SERVES, which means itself, where disks do so much
abbrev pub serves : DiskWork → ServingOf StoreState
serves disks s who a = serves_row (row a) disks s who

abbrev pub itself : StoreState → StoreState
itself s = s

-- an access that was stopped leaves the store as it was
abbrev pub StopsUnchanged : Type 0
StopsUnchanged = (disks : DiskWork) (who : ℕ) (a : Access) (s : StoreState) → stops (serves disks s who a).answer ≡ true → (serves disks s who a).after ≡ s
