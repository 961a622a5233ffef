-- Codes of errors by their causes, and how a call answers by its code.
use Rattle.std.specs.Prelude.{◌≡◌, ℕ, Bool, List, [], ◌∷◌, Option, None, Some, if◌then◌else◌}
use Rattle.std.specs.declared.result.Result.{Result}
use Rattle.std.specs.declared.result.Result.TheVariants.{Ok, Err}
use Rattle.b2_base.specs.declared.codes.Fault.{Fault}
use Rattle.b2_base.specs.declared.codes.Fault.TheVariants as fault

-- a code where its cause holds
abbrev pub code_if : Bool → ℕ → Option ℕ
code_if holds code = if holds then Some code else None

-- the first code of several causes
abbrev pub first_of : List (Option ℕ) → Option ℕ
first_of [] = None
first_of (None ∷ codes) = first_of codes
first_of (Some code ∷ codes) = Some code

-- a call that takes no memory refuses with its code, and ends well where there is none
abbrev pub Answers : {A : Type 0} → Option ℕ → Result A ℕ → Type 0
Answers code (Ok x) = code ≡ None
Answers code (Err c) = code ≡ Some c

-- a refusal has the code of the call; memory fails only where there is none
abbrev pub Fails : Option ℕ → Fault → Type 0
Fails code (fault.Code c) = code ≡ Some c
Fails code fault.NoMemory = code ≡ None

-- a call that takes memory
abbrev pub AnswersOrFails : {A : Type 0} → Option ℕ → Result A Fault → Type 0
AnswersOrFails code (Ok x) = code ≡ None
AnswersOrFails code (Err e) = Fails code e
