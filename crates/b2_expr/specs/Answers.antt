-- What evaluating gives: a number, or the first code from the left.
use Rattle.std.specs.Prelude.{ℕ, List, Option, Some, None, Result, Ok, Err}
use Rattle.b2_dec.specs.Number.{Number}

-- a number, or a code
abbrev pub Answer : Type 0
Answer = Result Number ℕ

-- bytes, or a code
abbrev pub TextAnswer : Type 0
TextAnswer = Result (List ℕ) ℕ

-- what comes of a value, or the code in its place
infixl 10 ◌>>=◌
abbrev pub ◌>>=◌ : {A B E : Type 0} → Result A E → (A → Result B E) → Result B E
(Ok a) >>= f = f a
(Err e) >>= f = Err e

-- a value, where there is no code
abbrev pub unless : {A : Type 0} → Option ℕ → A → Result A ℕ
unless None x = Ok x
unless (Some code) x = Err code

-- what is there, or a code
abbrev pub or_code : {A : Type 0} → ℕ → Option A → Result A ℕ
or_code code None = Err code
or_code code (Some x) = Ok x
