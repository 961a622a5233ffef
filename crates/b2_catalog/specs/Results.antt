-- What a call gives where a function says it: a value, or a code.
use Rattle.std.specs.Prelude.{◌≡◌, ℕ, Option, Some, None, Result, Err}
use Rattle.b2_base.specs.declared.codes.Fault.{Fault}
use Rattle.b2_base.specs.declared.codes.Fault.TheVariants as fault

-- a refusal, or else what is given
abbrev pub unless_refused : {A : Type 0} → Option ℕ → Result A ℕ → Result A ℕ
unless_refused None given = given
unless_refused (Some code) given = Err code

-- a call that takes memory fails with the code that is said, or for want of memory
abbrev pub FailsBy : {A : Type 0} → Result A ℕ → Fault → Type 0
FailsBy said (fault.Code code) = said ≡ Err code
FailsBy said fault.NoMemory = Unit {0}
