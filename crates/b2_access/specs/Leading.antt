-- To whom names lead: who holds them. What an access is answered leads to nobody else, and none but its partition gets a name by it.
use Rattle.std.specs.Prelude.{◌≡◌, ◌⊎◌, ℕ, Bool, true, List, Some, is_some}
use Rattle.b2_access.specs.Disks.{DiskWork}
use Rattle.b2_access.specs.Homes.{AnswerIn}
use Rattle.b2_access.specs.Serving.{itself, serves}
use Rattle.b2_access.specs.Sharing.{ServingOf}
use Rattle.b2_access.specs.Store.{StoreState, content, IsIn}
use Rattle.b2_access.specs.Touching.{touched}
use Rattle.b2_access.specs.declared.accesses.Access.{Access}
use Rattle.b2_access.specs.declared.objects.Object.{Object}
use Rattle.b2_access.specs.declared.objects.Object.TheVariants as object

abbrev pub LeadsTo : StoreState → List ℕ → ℕ → Type 0
LeadsTo s n p = content s (object.Name n) ≡ Some (Some p)

-- each name leads to one among some partitions, or to nobody; and so does each that is among some objects
abbrev pub NamesIn : (ℕ → Bool) → StoreState → Type 0
NamesIn among s = (n : List ℕ) (p : ℕ) → LeadsTo s n p → among p ≡ true

abbrev pub TouchedNamesIn : (ℕ → Bool) → List Object → StoreState → Type 0
TouchedNamesIn among os s = (n : List ℕ) (p : ℕ) → IsIn (object.Name n) os → LeadsTo s n p → among p ≡ true

module _ {M : Type 0} (store : M → StoreState) (serving : ServingOf M) where
  -- An answer leads to nobody but who holds a name that its access touches.
  abbrev pub AnswersLead : Type 0
  AnswersLead = (among : ℕ → Bool) (who : ℕ) (a : Access) (m : M) → TouchedNamesIn among (touched (store m) who a) (store m) → AnswerIn among (serving m who a).answer

  -- After an access a name leads to whom it led before, or to who asked.
  abbrev pub NamesLead : Type 0
  NamesLead = (who : ℕ) (a : Access) (m : M) (n : List ℕ) (p : ℕ) → LeadsTo (store (serving m who a).after) n p → LeadsTo (store m) n p ⊎ (p ≡ who)

-- so it is in the store, whatever its disks do
abbrev pub AnswersLeadToHolders : Type 0
AnswersLeadToHolders = (disks : DiskWork) → AnswersLead itself (serves disks)

abbrev pub NamesLeadToWhoAsks : Type 0
NamesLeadToWhoAsks = (disks : DiskWork) → NamesLead itself (serves disks)

-- a partition is present that has a text; each name is held by one that is, or by nobody
abbrev pub is_present : StoreState → ℕ → Bool
is_present s p = is_some (content s (object.Text p))

abbrev pub HoldersArePresent : StoreState → Type 0
HoldersArePresent s = NamesIn (is_present s) s

-- Then an answer leads to nobody but who is present, and names do so after the access of one that is.
abbrev pub AnswersLeadToWhoIsPresent : Type 0
AnswersLeadToWhoIsPresent = (disks : DiskWork) (who : ℕ) (a : Access) (s : StoreState) → HoldersArePresent s → AnswerIn (is_present s) (serves disks s who a).answer

abbrev pub HoldersStayPresent : Type 0
HoldersStayPresent = (disks : DiskWork) (who : ℕ) (a : Access) (s : StoreState) → is_present s who ≡ true → HoldersArePresent s → HoldersArePresent (serves disks s who a).after
