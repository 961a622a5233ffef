-- A line as it is listed.
use Rattle.std.specs.Prelude.{ℕ, ◌+◌, ◌/◌, ◌%◌, [], ◌∷◌, ◌++◌, Ok, Err, Result}
use Rattle.b2_atom.specs.Words.{Text}
use Rattle.b2_base.specs.Byte as byte
use Rattle.b2_base.specs.Lexical.{without_zeros}
use Rattle.b2_atom.specs.Lines.{line_source}
use Rattle.b2_atom.specs.declared.output.Stop.{Stop}

abbrev pub five_digits : ℕ → Text
five_digits n = (byte.digit_0 + n / 10000) ∷ (byte.digit_0 + n / 1000 % 10) ∷ (byte.digit_0 + n / 100 % 10) ∷ (byte.digit_0 + n / 10 % 10) ∷ (byte.digit_0 + n % 10) ∷ []

-- a number in plain digits
abbrev pub decimal : ℕ → Text
decimal n = without_zeros (five_digits n)

abbrev pub text_of : Result Text Stop → Text
text_of (Ok t) = t
text_of (Err e) = []

-- the line's number, a blank and the canonical source
abbrev pub listing : ℕ → Text → Text
listing n atoms = decimal n ++ byte.blank ∷ text_of (line_source atoms)
