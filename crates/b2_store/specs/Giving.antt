-- What an edit of the own text comes to beside that: a name is given up, and texts are given back, unless it is refused.
use Rattle.std.specs.Prelude.{ℕ, List, Option, if◌then◌else◌}
use Rattle.b2_access.specs.declared.accesses.Answer.{Answer}
use Rattle.b2_access.specs.AnswerKinds.{stops}
use Rattle.b2_access.specs.Borrowers.{homes_marked}
use Rattle.b2_access.specs.Store.{StoreState}
use Rattle.b2_store.specs.Inside.{given_back}
use Rattle.b2_store.specs.Names.{without_name}

abbrev pub given : ℕ → ℕ → Option (List ℕ) → StoreState → StoreState
given who homes name s = given_back who (homes_marked homes) (without_name who name s)

abbrev pub given_unless_refused : ℕ → ℕ → Option (List ℕ) → Answer → StoreState → StoreState
given_unless_refused who homes name x s = if stops x then s else given who homes name s
