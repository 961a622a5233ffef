-- What every partition that is present is.
use Rattle.std.specs.Prelude.{◌≡◌, ℕ, ◌&&◌, nat_le, Bool, List, Some}
use Rattle.b2_access.specs.declared.private.Private.{Private}
use Rattle.b2_access.specs.Homes.{IsWithin}
use Rattle.b2_access.specs.Leading.{NamesIn, is_present}
use Rattle.b2_access.specs.Rows.{row_of}
use Rattle.b2_access.specs.Store.{StoreState}
use Rattle.b2_audit.specs.Marks.{Marks}
use Rattle.b2_audit.specs.Steps.{IsPartition, IsTerminal}
use Rattle.b2_sched.specs.Marking.{AreWhole, IsOwnText}

-- a number from 1 to 16, and one of a partition that is present
abbrev pub is_number : ℕ → Bool
is_number p = nat_le 1 p && nat_le p 16

abbrev pub is_there : StoreState → ℕ → Bool
is_there s p = is_present s p && is_number p

-- A partition by itself: it is the one of its number, from 1 to 16, and has a terminal from 1 to 12; and it names no others as homes.
pub record IsSettled (p : ℕ) (me : Private) : Type 0 where
  pub number : IsPartition p
  pub terminal : IsTerminal me.term
  pub part : me.part ≡ p
  pub homes : IsWithin is_number me

-- In a world it is there, as all are that it names, and all to whom names lead; and nobody else wrote its text.
pub record IsPresent (p : ℕ) (me : Private) (s : StoreState) (m : Marks) : Type 0 where
  pub settled : IsSettled p me
  pub homes : IsWithin (is_present s) me
  pub names : NamesIn (is_there s) s
  pub own : IsOwnText p m
  pub whole : AreWhole m

-- so is each that is present
abbrev pub ArePresent : List (ℕ × Private) → StoreState → Marks → Type 0
ArePresent rows s m = (p : ℕ) (me : Private) → row_of p rows ≡ Some me → IsPresent p me s m
