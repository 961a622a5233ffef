-- How a fault is answered.
use Rattle.std.specs.Prelude.{◌≡◌, ℕ, List, Result, Ok, Err}
use Rattle.b2_base.specs.declared.codes.Fault.{Fault}
use Rattle.b2_base.specs.declared.files.Slot.{Slot}
use Rattle.b2_base.specs.declared.codes.Fault.TheVariants as fault
use Rattle.b2_access.specs.declared.accesses.Answer.{Answer}
use Rattle.b2_access.specs.declared.accesses.Answer.TheVariants as answer

-- by its code; want of memory has no answer
abbrev pub IsRefusal : Fault → Answer → Type 0
IsRefusal (fault.Code c) a = a ≡ answer.Refused c
IsRefusal fault.NoMemory a = ⊥

-- a change that is made is done; one that isn't has its code
abbrev pub made_answer : Result (Unit {0}) ℕ → Answer
made_answer (Ok u) = answer.Done
made_answer (Err code) = answer.Refused code

-- what is found is told, or its code
abbrev pub found_answer : {Found : Type 0} → (Found → Answer) → Result Found ℕ → Answer
found_answer says (Ok found) = says found
found_answer says (Err code) = answer.Refused code

abbrev pub opened_answer : Result Slot ℕ → Answer
opened_answer r = found_answer answer.Opened r

abbrev pub moved_answer : Result ℕ ℕ → Answer
moved_answer r = found_answer answer.Moved r

abbrev pub block_answer : Result (List ℕ) ℕ → Answer
block_answer r = found_answer answer.Block r
