-- What a step asks for, and what it touches and writes: the own text, and what its access touches and writes; and where a statement is
-- executed, the text of its home, and the name and the `@` variables that are lent to it.
use Rattle.std.specs.Prelude.{◌≡◌, ◌⊎◌, ℕ, Bool, List, [], ◌∷◌, ◌++◌, Option, Some, None}
use Rattle.b2_flow.specs.declared.frame.Place.{Place}
use Rattle.b2_access.specs.Homes.{IsWithin}
use Rattle.b2_access.specs.Leading.{LeadsTo, TouchedNamesIn}
pub use Rattle.b2_access.specs.Loans.{reached_objects}
use Rattle.b2_access.specs.Loans.{Loan, loan_touched}
use Rattle.b2_access.specs.OwnDevices.{ReachesListed}
use Rattle.b2_access.specs.OwnTerminal.{AskedAt}
use Rattle.b2_access.specs.Pending.{IsForListed, KeepsOrShows}
use Rattle.b2_access.specs.Sharing.{Gives, ServingOf, writes}
use Rattle.b2_access.specs.Store.{StoreState, AgreeOn, IsIn, content}
use Rattle.b2_access.specs.Touching.{touched}
use Rattle.b2_access.specs.declared.accesses.Access.{Access}
use Rattle.b2_access.specs.declared.accesses.Access.TheVariants as access
use Rattle.b2_access.specs.declared.devices.Device.{Device}
use Rattle.b2_access.specs.declared.lending.At.{At}
use Rattle.b2_access.specs.declared.lending.At.TheVariants as at
use Rattle.b2_access.specs.declared.objects.Object.{Object}
use Rattle.b2_access.specs.declared.objects.Object.TheVariants as object
use Rattle.b2_access.specs.declared.private.Private.{Private}
use Rattle.b2_language.specs.Languages.{Ways}
use Rattle.b2_machine.specs.Due.{due}
use Rattle.b2_machine.specs.Readiness.{gives_back, without_halt}
use Rattle.b2_machine.specs.Statements.{begins, finish_by, leaves}
use Rattle.b2_machine.specs.Step.{StepEnd, lent_to_begin, seen_at, seen_by, step, whose_by}
use Rattle.b2_machine.specs.Typing.{inserts_literal, puts_numbered, shows_output}
use Rattle.b2_machine.specs.declared.rules.Rule.{Rule}
use Rattle.b2_machine.specs.declared.rules.Rule.TheVariants as rule
use Rattle.b2_machine.specs.declared.statements.Builder.{Builder}
use Rattle.b2_machine.specs.declared.statements.Progress.{Progress}
use Rattle.b2_machine.specs.declared.statements.Progress.TheVariants as progress

-- the access that a statement asks for: none where it has ended
abbrev pub access_asked : Progress → Option Access
access_asked (progress.Ended e) = None
access_asked (progress.Asks a b w) = Some a

-- what a rule asks for: a halt asks for nothing, and a reset gives back the texts that calls entered
abbrev pub asks_by : Ways → Rule → Private → StoreState → Option Access
asks_by ways rule.Reset me s = Some (gives_back me)
asks_by ways rule.Halt me s = None
asks_by ways rule.Show me s = Some (shows_output me)
asks_by ways rule.Insert me s = Some (inserts_literal me)
asks_by ways rule.Read me s = Some (access.ReadLine me.term)
asks_by ways rule.Put me s = Some (puts_numbered me)
asks_by ways (rule.Execute p) me s = access_asked (begins ways p me (seen_at p me s)).progress

-- WHAT A STEP ASKS FOR, for its partition: None where it asks for nothing.
abbrev pub asking : Ways → Private → StoreState → Option Access
asking ways me s = asks_by ways (due me) (without_halt me) s

-- what is asked for reaches only devices that the table lists for a partition, where anything is
abbrev pub AskedListed : List Device → ℕ → Option Access → Type 0
AskedListed devices who None = Unit {0}
AskedListed devices who (Some a) = ReachesListed devices who a

-- A step asks for devices that the table lists for its partition, and for no others, where what waits to be shown is for one of these.
abbrev pub StepsAskForListed : (List Device → Ways) → Type 0
StepsAskForListed ways = (devices : List Device) (me : Private) (s : StoreState) → IsForListed devices me.part me.pending → AskedListed devices me.part (asking (ways devices) me s)

abbrev pub touched_where : Option Access → ℕ → StoreState → List Object
touched_where None who s = []
touched_where (Some a) who s = touched s who a

-- Where a statement begins, what its loans touch: that of the texts, and that of `@` variables, where its unit wants some.
abbrev pub begin_touched : ℕ → ℕ → At → StoreState → List Object
begin_touched who home at.None s = loan_touched who home at.None s
begin_touched who home whose s = loan_touched who home at.None s ++ loan_touched who home whose s

-- what a step touches, and what it writes
pub record Told : Type 0 where
  pub touched : List Object
  pub written : List Object

abbrev pub tells_both : List Object → List Object → Told → Told
tells_both touched written rest = record { touched = touched ++ rest.touched; written = written ++ rest.written }

module _ {M : Type 0} (store : M → StoreState) (serving : ServingOf M) (lending : Loan M) where
  abbrev pub written_where : Option Access → ℕ → M → List Object
  written_where None who m = []
  written_where (Some a) who m = writes store serving m who a

  -- a step by one of the first five rules
  abbrev pub tells : ℕ → Option Access → M → Told
  tells part a m = record { touched = object.Text part ∷ touched_where a part (store m); written = written_where a part m }

module _ (ways : Ways) {M : Type 0} (store : M → StoreState) (serving : ServingOf M) (lending : Loan M) where
  -- by the sixth: what a statement asks for, and what is lent to it again
  abbrev pub tells_finishing : ℕ → Builder → Access → Place → At → Private → Gives M → Told
  tells_finishing who b a p whose me g = record {
    touched = loan_touched who p.home whose (store g.after);
    written = reached_objects (finish_by ways b a g.answer me (seen_by who p.home whose (store g.after))).globals.reached p.home whose (store g.after);
  }

  abbrev pub tells_carrying : ℕ → Progress → Place → At → Private → M → Told
  tells_carrying who (progress.Ended e) p whose me m = record { touched = []; written = [] }
  tells_carrying who (progress.Asks a b w) p whose me m = tells_both (touched (store m) who a) (writes store serving m who a) (tells_finishing who b a p whose me (serving m who a))

  -- and where it begins
  abbrev pub tells_executing : At → Place → Private → M → Told
  tells_executing whose p me m =
      let s = seen_by me.part p.home whose (store m) in
      let b = begins ways p me s in
      let left = leaves ways p me s in
      tells_both (begin_touched me.part p.home whose (store m)) (reached_objects left.reached p.home whose (store m))
      (tells_carrying me.part b.progress p whose b.me (lent_to_begin store serving lending me.part p.home whose m left))

  -- each rule but the sixth tells by what it asks for
  abbrev pub told_by : Rule → Private → M → Told
  told_by (rule.Execute p) me m = tells_executing (whose_by p me (store m)) p me m
  told_by r me m = tells store serving lending me.part (asks_by ways r me (store m)) m

  -- WHAT A STEP TOUCHES AND WRITES
  abbrev pub told : Private → M → Told
  told me m = told_by (due me) (without_halt me) m

  abbrev pub step_touched : Private → M → List Object
  step_touched me m = (told me m).touched

  abbrev pub step_written : Private → M → List Object
  step_written me m = (told me m).written

module _ {M : Type 0} (store : M → StoreState) where
  -- A step of a partition by what it tells, from two meanings: the lists, the private state, the end, and the contents of what it writes
  -- are the same.
  pub record GoesAlike (tells : M → Told) (goes : M → StepEnd M) (m n : M) : Type 0 where
    pub touches : (tells m).touched ≡ (tells n).touched
    pub wrote : (tells m).written ≡ (tells n).written
    pub own : (goes m).me ≡ (goes n).me
    pub end : (goes m).end ≡ (goes n).end
    pub contents : AgreeOn (tells m).written (store (goes m).after) (store (goes n).after)

  -- From two meanings that agree on what it touches a step goes alike; all that it doesn't write stays; and what it writes it
  -- touches.
  pub record GoesLocally (tells : M → Told) (goes : M → StepEnd M) : Type 0 where
    pub alike : (m n : M) → AgreeOn (tells m).touched (store m) (store n) → GoesAlike tells goes m n
    pub others : (m : M) (o : Object) → (IsIn o (tells m).written → ⊥) → content (store (goes m).after) o ≡ content (store m) o
    pub within : (m : M) (o : Object) → IsIn o (tells m).written → IsIn o (tells m).touched

module _ (ways : Ways) {M : Type 0} (store : M → StoreState) (serving : ServingOf M) (lending : Loan M) where
  -- A STEP IS LOCAL
  abbrev pub StepsAreLocal : Type 0
  StepsAreLocal = (me : Private) → GoesLocally store (told ways store serving lending me) (step ways store serving lending me)

  -- A step names no partition as a home but its own, those that were named before, and those to whom a name leads that it touches.
  abbrev pub StepsStayWithin : Type 0
  StepsStayWithin =
      (among : ℕ → Bool) (me : Private) (m : M) → TouchedNamesIn among (step_touched ways store serving lending me m) (store m) → IsWithin among me → IsWithin among (step ways store serving lending me m).me

  -- After a step a name leads to whom it led before, or to the partition of the step.
  abbrev pub StepsLeadNames : Type 0
  StepsLeadNames = (me : Private) (m : M) (n : List ℕ) (p : ℕ) → LeadsTo (store (step ways store serving lending me m).after) n p → LeadsTo (store m) n p ⊎ (p ≡ me.part)

  -- A step leaves which partition it is.
  abbrev pub StepsKeepPart : Type 0
  StepsKeepPart = (me : Private) (m : M) → (step ways store serving lending me m).me.part ≡ me.part

  -- A step asks at the terminal of its partition alone, and leaves which one that is.
  abbrev pub StepsAskAtTerminal : Type 0
  StepsAskAtTerminal = (me : Private) (m : M) → ((step ways store serving lending me m).me.term ≡ me.term) × AskedAt me.term (asking ways me (store m))

  -- What waits to be shown after a step waited before, or is for the terminal.
  abbrev pub StepsShowAtTerminal : Type 0
  StepsShowAtTerminal = (me : Private) (m : M) → KeepsOrShows me.pending (step ways store serving lending me m).me.pending
