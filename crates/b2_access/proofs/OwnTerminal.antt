-- Accesses that name no terminal but one; and those that reach it and nothing else, which mark no home and put no line.
use Rattle.std.specs.Prelude.{◌≡◌, ℕ, Bool, [], Option, None, Some, refl}
use Rattle.std.proofs.Common.{ap}
use Rattle.b2_access.specs.Causes.{terminal_of}
use Rattle.b2_access.specs.Homes.{HomesIn, homes_of}
use Rattle.b2_access.specs.OwnTerminal.{IsAtTerminal, NamesAlone}
use Rattle.b2_access.specs.Reach.{Reach}
use Rattle.b2_access.specs.Touching.{IsLegal}
use Rattle.b2_access.specs.declared.accesses.Access.{Access}
use Rattle.b2_access.specs.declared.accesses.Access.TheVariants as access
use Rattle.b2_access.proofs.Homes.{marks_none}

-- one that names none, and one that names this one
pub names_none : (t : ℕ) (a : Access) → terminal_of a ≡ None → NamesAlone t a
names_none t a none u is = cc

pub names_own : (t : ℕ) (a : Access) → terminal_of a ≡ Some t → NamesAlone t a
names_own t a own u is = cc

terminal_is : (t : ℕ) (a : Access) → IsAtTerminal t a → terminal_of a ≡ Some t
terminal_is t a is = ap (λ (r : Reach). r.terminal) is

pub at_terminal_names_own : (t : ℕ) (a : Access) → IsAtTerminal t a → NamesAlone t a
at_terminal_names_own t a is = names_own t a (terminal_is t a is)

-- an edit reaches no terminal, nor does who leaves a text or gives some back, and a disk is none
no_terminal : {A : Type 0} (t : ℕ) → ◌≡◌ {A = Option ℕ} None (Some t) → A
no_terminal t e = absurd (cc)

homes_none : (t : ℕ) (a : Access) → IsAtTerminal t a → homes_of a ≡ []
homes_none t a is = ap (λ (r : Reach). r.borrowers) is

pub at_terminal_marks_none : (among : ℕ → Bool) (t : ℕ) (a : Access) → IsAtTerminal t a → HomesIn among a
at_terminal_marks_none among t a is = marks_none among a (homes_none t a is)

pub at_terminal_is_legal : (t : ℕ) (a : Access) → IsAtTerminal t a → IsLegal a
at_terminal_is_legal t (access.PutLine line atoms homes) is = no_terminal t (terminal_is t (access.PutLine line atoms homes) is)
at_terminal_is_legal t (access.DataNew addr None sectors name) is = no_terminal t (terminal_is t (access.DataNew addr None sectors name) is)
at_terminal_is_legal t (access.DataNew addr (Some old) sectors name) is = no_terminal t (terminal_is t (access.DataNew addr (Some old) sectors name) is)
at_terminal_is_legal t (access.DataSave slot values) is = no_terminal t (terminal_is t (access.DataSave slot values) is)
at_terminal_is_legal t (access.DataEnd slot) is = no_terminal t (terminal_is t (access.DataEnd slot) is)
at_terminal_is_legal t (access.DataLoad slot kinds) is = no_terminal t (terminal_is t (access.DataLoad slot kinds) is)
at_terminal_is_legal t (access.Skip slot way) is = no_terminal t (terminal_is t (access.Skip slot way) is)
at_terminal_is_legal t (access.SaveProgram addr old name from to) is = no_terminal t (terminal_is t (access.SaveProgram addr old name from to) is)
at_terminal_is_legal t (access.RawSave addr at values) is = no_terminal t (terminal_is t (access.RawSave addr at values) is)
at_terminal_is_legal t (access.BlockSave addr at bytes) is = no_terminal t (terminal_is t (access.BlockSave addr at bytes) is)
at_terminal_is_legal t (access.MovePlatter from to) is = no_terminal t (terminal_is t (access.MovePlatter from to) is)
at_terminal_is_legal t (access.MoveFile from name to) is = no_terminal t (terminal_is t (access.MoveFile from name to) is)
at_terminal_is_legal t a is = tt
