-- What the marks say of a list of steps.
use Rattle.std.specs.Prelude.{◌≡◌, ◌≤◌, ◌==◌, ◌↔◌, ℕ, Bool, true, List, [], ◌∷◌, ◌++◌, Some, if◌then◌else◌}
use Rattle.b2_access.specs.declared.objects.Object.{Object}
use Rattle.b2_access.specs.declared.objects.Object.TheVariants as object
use Rattle.b2_access.specs.declared.accesses.Access.{Access}
use Rattle.b2_access.specs.declared.accesses.Answer.{Answer}
use Rattle.b2_access.specs.declared.lending.At.{At}
use Rattle.b2_access.specs.AccessRows.{holder_at, reach}
use Rattle.b2_access.specs.Borrowers.{is_inside}
use Rattle.b2_access.specs.Causes.{terminal_of}
use Rattle.b2_access.specs.Loans.{lender_at, loan_touched}
use Rattle.b2_access.specs.Store.{StoreState, IsIn}
use Rattle.b2_access.specs.Touching.{entered_in, touched, written_by}
use Rattle.b2_audit.specs.Marks.{Marks, marked, touch, touch_all, unmarked, is_clean}

-- a step of a partition, with the objects that it touched and those that it wrote
pub record Step : Type 0 where
  pub who : ℕ
  pub touched : List Object
  pub written : List Object

-- the marks with those of some steps
abbrev pub marks_after : List Step → Marks → Marks
marks_after [] m = m
marks_after (x ∷ xs) m = marks_after xs (marked x.who x.touched x.written m)

-- the members of a group of partitions
abbrev pub Group : Type 0
Group = ℕ → Bool

-- what a step of another wrote, and what all steps of others wrote
abbrev pub by_other : Group → Step → List Object
by_other inside x = if inside x.who then [] else x.written

abbrev pub foul : Group → List Step → List Object
foul inside [] = []
foul inside (x ∷ xs) = by_other inside x ++ foul inside xs

-- A group is clean: none of its steps touches an object that a step of another wrote before.
abbrev pub IsClean : Group → List Step → Type 0
IsClean inside steps = (before after : List Step) (x : Step) → steps ≡ before ++ x ∷ after → inside x.who ≡ true
    → (o : Object) → IsIn o x.touched → IsIn o (foul inside before) → ⊥

-- the group of one partition
abbrev pub just : ℕ → Group
just p q = q == p

abbrev pub IsPartition : ℕ → Type 0
IsPartition p = (1 ≤ p) × (p ≤ 16)

abbrev pub IsTerminal : ℕ → Type 0
IsTerminal t = (1 ≤ t) × (t ≤ 12)

-- an object whose writers are marked: each of the numbers that there are, and each name and device
abbrev pub IsMarked : Object → Type 0
IsMarked (object.Text p) = IsPartition p
IsMarked (object.Borrow p) = IsPartition p
IsMarked (object.Globals p) = IsPartition p
IsMarked (object.Terminal t) = IsTerminal t
IsMarked o = Unit {0}

abbrev pub AreMarked : List Object → Type 0
AreMarked os = (o : Object) → IsIn o os → IsMarked o

-- steps of partitions, that touch and write such objects alone
abbrev pub AreSteps : List Step → Type 0
AreSteps [] = Unit {0}
AreSteps (x ∷ xs) = IsPartition x.who × AreMarked x.touched × AreMarked x.written × AreSteps xs

-- the marks of steps say which partitions are clean
abbrev pub MarksSayClean : Type 0
MarksSayClean = (steps : List Step) (p : ℕ) → AreSteps steps → IsPartition p → (is_clean p (marks_after steps unmarked) ≡ true) ↔ IsClean (just p) steps

-- A step is marked in parts: what it touches first, then what it touches and writes by its access, then what it touches after
-- that. All that it touches is judged by what was written before the step.
abbrev pub MarkedInParts : Type 0
MarkedInParts = (who : ℕ) (first touched later written : List Object) (m : Marks) → IsPartition who → AreMarked later → AreMarked written
    → touch_all who later (marked who touched written (touch_all who first m)) ≡ marked who (first ++ touched ++ later) written m

-- What an access touches and writes is marked, at a terminal that may be, where it gives back and leaves texts of partitions, and enters that
-- of one.
abbrev pub AccessesAreMarked : Type 0
AccessesAreMarked = (s : StoreState) (who : ℕ) (a : Access) → IsPartition who → ((t : ℕ) → terminal_of a ≡ Some t → IsTerminal t) → ((h : ℕ) → is_inside h (reach a).borrowers ≡ true → IsPartition h)
    → (((p : ℕ) → holder_at a s ≡ Some p → IsPartition p) → AreMarked (touched s who a))
    × ((x : Answer) → ((p : ℕ) → entered_in x ≡ Some p → IsPartition p) → AreMarked (written_by x who a))

-- What a loan touches is marked, where the home is a partition, and whoever holds the name by which `@` variables are asked for.
abbrev pub LoansAreMarked : Type 0
LoansAreMarked = (s : StoreState) (who home : ℕ) (whose : At) → IsPartition who → IsPartition home → ((p : ℕ) → lender_at home whose s ≡ Some p → IsPartition p)
    → AreMarked (loan_touched who home whose s)

-- no step writes the text of another
abbrev pub WriteOwnTexts : List Step → Type 0
WriteOwnTexts [] = Unit {0}
WriteOwnTexts (x ∷ xs) = ((q : ℕ) → IsIn (object.Text q) x.written → q ≡ x.who) × WriteOwnTexts xs

-- where that is so, a partition that touches its own text leaves the marks as they are
abbrev pub OwnTextsAreIdle : Type 0
OwnTextsAreIdle = (steps : List Step) (p : ℕ) → AreSteps steps → WriteOwnTexts steps → IsPartition p
    → touch p (object.Text p) (marks_after steps unmarked) ≡ marks_after steps unmarked

-- an access writes no text but the own
abbrev pub AccessesWriteOwnTexts : Type 0
AccessesWriteOwnTexts = (who q : ℕ) (a : Access) (x : Answer) → IsIn (object.Text q) (written_by x who a) → q ≡ who
