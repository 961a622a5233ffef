-- What comes of evaluating along a text.
use Rattle.std.specs.Prelude.{◌≡◌, ◌≤◌, ℕ, ◌+◌, ◌-◌, nat_le, Bool, true, false, List, length, drop, is_err, Result, Ok, Err, if◌then◌else◌}
use Rattle.std.specs.Borrow.{Bor}
use Rattle.b2_atom.specs.Words.{Text}
use Rattle.b2_expr.specs.Answers.{Answer, TextAnswer, ◌>>=◌}
use Rattle.b2_expr.specs.Functions.{joined_text}
use Rattle.b2_expr.specs.declared.evaluated.Evaluated.{Evaluated}
use Rattle.b2_expr.specs.declared.evaluated.Judged.{Judged}

-- a value and what is left of the text, or its code
abbrev pub Gives : {A : Type 0} → Result A ℕ → Text → Result (A × Bor Text) ℕ → Type 0
Gives answer rest (Ok p) = (answer ≡ Ok p.0) × (p.1.now ≡ rest)
Gives answer rest (Err code) = answer ≡ Err code

-- the last bytes of a text, all where there are no more
abbrev pub last : ℕ → Text → Text
last n t = drop (length t - n) t

-- a number or a code, and where there is no code how many bytes are left of the text
pub record Finds (answer : Answer) (rest : Text) (found : Evaluated) : Type 0 where
  pub number : found.number ≡ answer
  pub left : is_err found.number ≡ false → found.left ≡ length rest

-- a truth or a code as one number: 0 and 1, and codes from 2 on
abbrev pub truth_word : Result Bool ℕ → ℕ
truth_word (Ok holds) = if holds then 1 else 0
truth_word (Err code) = 2 + code

-- a truth or a code, and where there is no code how many bytes are left of the text
pub record Judges (answer : Result Bool ℕ) (rest : Text) (judged : Judged) : Type 0 where
  pub word : judged.word ≡ truth_word answer
  pub code : nat_le 2 judged.word ≡ true → (3 ≤ judged.word) × (judged.word ≤ 101)
  pub left : nat_le 2 judged.word ≡ false → judged.left ≡ length rest

-- bytes that are put after others and what is left of the text, or a code
abbrev pub Appends : TextAnswer → Text → List ℕ → List ℕ → Result (Bor Text) ℕ → Type 0
Appends answer rest old new (Ok left) = (answer >>= joined_text old ≡ Ok new) × (left.now ≡ rest)
Appends answer rest old new (Err code) = answer >>= joined_text old ≡ Err code
