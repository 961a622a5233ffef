-- Whose `@` variables a loan lends, what it touches, and what a store is after it.
use Rattle.std.specs.Prelude.{◌≡◌, ◌≢◌, ℕ, Bool, true, false, List, [], ◌∷◌, ◌++◌, Option, Some, None, option_map}
use Rattle.std.specs.Borrow.{Lends, MutBor, Fml, RattleType}
use Rattle.b2_vars.specs.Globals.{Globals, unreached}
use Rattle.b2_vars.specs.Tables.{VarsState}
use Rattle.b2_vars.specs.contracts.vars.Vars as vars
use Rattle.b2_access.specs.declared.lending.At.{At}
use Rattle.b2_access.specs.declared.lending.At.TheVariants as at
use Rattle.b2_access.specs.declared.lending.Lent.{Lent}
use Rattle.b2_access.specs.declared.objects.Object.{Object}
use Rattle.b2_access.specs.declared.objects.Object.TheVariants as object
pub use Rattle.b2_access.specs.Store.{holder_of}
use Rattle.b2_access.specs.Store.{StoreState, content, put}

-- Whose `@` variables are asked for: those of the home, or those of who holds a name. Nobody's where none are asked for, and where
-- nobody holds the name.
abbrev pub lender_at : ℕ → At → StoreState → Option ℕ
lender_at home at.None s = None
lender_at home at.Home s = Some home
lender_at home (at.Named n) s = holder_of s n

abbrev pub globals_of : Option ℕ → StoreState → Option VarsState
globals_of None s = None
globals_of (Some p) s = content s (object.Globals p)

-- the `@` variables that are asked for, where there are such
abbrev pub globals_at : ℕ → At → StoreState → Option VarsState
globals_at home whose s = globals_of (lender_at home whose s) s

-- what a loan left of them: others in their place, where there were such; a spare that was lent in their place counts for nothing
abbrev pub left_at : ℕ → At → StoreState → VarsState → Option VarsState
left_at home whose s w = option_map (λ _. w) (globals_at home whose s)

-- a store with what a loan left: as it is, where there were none
abbrev pub with_globals_of : Option ℕ → Option VarsState → StoreState → StoreState
with_globals_of None left s = s
with_globals_of (Some p) None s = s
with_globals_of (Some p) (Some w) s = put (object.Globals p) w s

abbrev pub with_globals_at : ℕ → At → StoreState → Option VarsState → StoreState
with_globals_at home whose s left = with_globals_of (lender_at home whose s) left s

-- The objects that a loan touches: the own text and that of the home, the `@` variables that are asked for, and the name by which they
-- are, whoever holds it.
abbrev pub globals_objects : Option ℕ → List Object
globals_objects None = []
globals_objects (Some p) = object.Globals p ∷ []

abbrev pub name_objects : At → List Object
name_objects (at.Named n) = object.Name n ∷ []
name_objects whose = []

abbrev pub loan_touched : ℕ → ℕ → At → StoreState → List Object
loan_touched who home whose s = object.Text who ∷ object.Text home ∷ (name_objects whose ++ globals_objects (lender_at home whose s))

-- the `@` variables that it lends, which are written where a receiver among them was reached
abbrev pub lent_objects : ℕ → At → StoreState → List Object
lent_objects home whose s = globals_objects (lender_at home whose s)

abbrev pub reached_objects : Bool → ℕ → At → StoreState → List Object
reached_objects false home whose s = []
reached_objects true home whose s = lent_objects home whose s

-- what is meant after a loan to a partition, for a home, that left these variables, where there were such, and reached a receiver among
-- them or none
abbrev pub Loan : Type 0 → Type 0
Loan M = ℕ → ℕ → At → M → Globals → M

-- and what is, once it is told after such a loan that a receiver was reached
abbrev pub Noting : Type 0 → Type 0
Noting M = ℕ → ℕ → At → M → M

-- HOW A PLAIN STORE LENDS, which means itself
abbrev pub lends : Loan StoreState
lends who home whose s left = with_globals_at home whose s left.vars

abbrev pub notes_nothing : Noting StoreState
notes_nothing who home whose s = s

-- a loan changes the variables that were asked for, and nothing else
abbrev pub LoansGlobals : {M : Type 0} → (M → StoreState) → Loan M → Type 0
LoansGlobals {M} store lending = (who home : ℕ) (whose : At) (m : M) (left : Globals) → store (lending who home whose m left) ≡ with_globals_at home whose (store m) left.vars

-- told after a loan that left these variables that a receiver was reached, it means what it does after a loan that reached one
abbrev pub NotesReached : {M : Type 0} → Loan M → Noting M → Type 0
NotesReached {M} lending noting =
    (who home : ℕ) (whose : At) (m : M) (left : Option VarsState) → noting who home whose (lending who home whose m (unreached left)) ≡ lending who home whose m (record { vars = left; reached = true })

-- what lent is, once the loan ends, a function of the variables that it left
abbrev pub LendsFrom : (R : RattleType) → (R.Denot → VarsState → R.Denot) → MutBor R.Denot → Lent → Fml
LendsFrom R after s lent = Lends R vars.the_row s lent.globals (after s.now)

-- A LOAN AND ITS END: where no `@` variables are found all stays as it was; where some are, they are what the loan left and nothing else
-- changes; and lent again, they are what it left.
pub record EndsWell {M : Type 0} (store : M → StoreState) (lending : Loan M) (who home : ℕ) (whose : At) (m : M) (w : VarsState) : Type 0 where
  pub unfound : globals_at home whose (store m) ≡ None → store (lending who home whose m (unreached (left_at home whose (store m) w))) ≡ store m
  pub others : (o : Object) → ((p : ℕ) → lender_at home whose (store m) ≡ Some p → o ≢ object.Globals p) → content (store (lending who home whose m (unreached (left_at home whose (store m) w)))) o ≡ content (store m) o
  pub again : globals_at home whose (store (lending who home whose m (unreached (left_at home whose (store m) w)))) ≡ left_at home whose (store m) w

abbrev pub LoansEndWell : {M : Type 0} → (M → StoreState) → Loan M → Type 0
LoansEndWell {M} store lending = (who home : ℕ) (whose : At) (m : M) (w : VarsState) → EndsWell store lending who home whose m w

-- LENT TWICE: texts that are lent once more, to the same partition for the same home and with no `@` variables, mean what they did before
abbrev pub LendsTextsAgain : {M : Type 0} → Loan M → Type 0
LendsTextsAgain {M} lending = (who home : ℕ) (m : M) → lending who home at.None (lending who home at.None m (unreached None)) (unreached None) ≡ lending who home at.None m (unreached None)
