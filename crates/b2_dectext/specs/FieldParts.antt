-- What the field of a number is made of: perhaps a sign, marks for digits, and text at its right end.
use Rattle.std.specs.Prelude.{ℕ, ◌-◌, ◌==◌, Bool, if◌then◌else◌, List, [], ◌∷◌, ◌++◌, length, drop, replicate}
use Rattle.b2_base.specs.Byte as byte
use Rattle.b2_base.specs.Lexical.{first}
use Rattle.b2_dectext.specs.declared.field_parts.Sign.{Sign}
use Rattle.b2_dectext.specs.declared.field_parts.Sign.TheVariants.{Unsigned, Always, Negative}

-- the byte that writes a sign
abbrev pub sign_bytes : Sign → List ℕ
sign_bytes Unsigned = []
sign_bytes Always = byte.plus ∷ []
sign_bytes Negative = byte.minus ∷ []

-- the sign that a text begins with
abbrev pub leading_sign : List ℕ → Sign
leading_sign text = if first text == byte.plus then Always else (if first text == byte.minus then Negative else Unsigned)

-- what follows it
abbrev pub after_sign : List ℕ → List ℕ
after_sign text = drop (length (sign_bytes (leading_sign text))) text

abbrev pub is_hash : ℕ → Bool
is_hash b = b == byte.number_sign

-- a text at the right end of a width, with blanks before it
abbrev pub right_aligned : ℕ → List ℕ → List ℕ
right_aligned width text = replicate (width - length text) byte.blank ++ text
