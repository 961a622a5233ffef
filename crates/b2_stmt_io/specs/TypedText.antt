-- What is typed: numbers with blanks round them, and the parts of a line.
use Rattle.std.specs.Prelude.{ℕ, ◌==◌, not, Bool, List, [], ◌∷◌, length, drop, Option, Some, None, Ok, Err, if◌then◌else◌}
use Rattle.b2_base.specs.Byte as byte
use Rattle.b2_base.specs.Lexical.{skip_blanks}
use Rattle.b2_base.specs.declared.codes.TheConstants.{X73_NOT_A_NUMBER}
use Rattle.b2_dec.specs.Number.{Number}
use Rattle.b2_dectext.specs.NumberText.{number_len, number_read}
use Rattle.b2_expr.specs.Answers.{Answer}

-- the number that a text is, X73 where it isn't one or is out of range
abbrev pub or_no_number : Option Number → Answer
or_no_number None = Err X73_NOT_A_NUMBER
or_no_number (Some x) = Ok x

-- with blanks after it
abbrev pub number_first : List ℕ → Answer
number_first text = if length (skip_blanks (drop (number_len text) text)) == 0 then or_no_number (number_read text) else Err X73_NOT_A_NUMBER

-- and before it
abbrev pub typed_number : List ℕ → Answer
typed_number text = number_first (skip_blanks text)

-- the parts of a line, which commas end
abbrev pub onto_first : ℕ → List (List ℕ) → List (List ℕ)
onto_first b [] = (b ∷ []) ∷ []
onto_first b (part ∷ parts) = (b ∷ part) ∷ parts

abbrev pub typed_parts : List ℕ → List (List ℕ)
typed_parts [] = [] ∷ []
typed_parts (b ∷ bs) = if b == byte.comma then [] ∷ typed_parts bs else onto_first b (typed_parts bs)

-- whether a byte is within a part
abbrev pub is_within_part : ℕ → Bool
is_within_part b = not (b == byte.comma)
