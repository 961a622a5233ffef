-- What an image is made of: fields, and bytes outside them.
use Rattle.std.specs.Prelude.{◌≡◌, ◌≤◌, ℕ, zero, suc, ◌+◌, ◌-◌, ◌==◌, ◌||◌, Bool, true, false, if◌then◌else◌, List, [], ◌∷◌, ◌++◌, length, take, drop, map, replicate, Option, Some, None}
use Rattle.std.specs.List.{prefix_len, take_while}
use Rattle.b2_base.specs.Byte as byte
use Rattle.b2_base.specs.Lexical.{first}
use Rattle.b2_dectext.specs.FieldParts.{sign_bytes, leading_sign, after_sign, is_hash}
use Rattle.b2_dectext.specs.declared.field_parts.Sign.{Sign}

-- A field: its sign, whether it has a `$`, the `#` and `,` before its point, and the number of `#` after the point.
pub record Field : Type 0 where
  pub sign : Sign
  pub dollar : Bool
  pub whole : List ℕ
  pub decimals : ℕ

-- the bytes that write the parts of a field
abbrev pub dollar_bytes : Bool → List ℕ
dollar_bytes true = byte.dollar ∷ []
dollar_bytes false = []

-- a point and digits after it take one byte more than the digits, and no byte where there are none
abbrev pub point_width : ℕ → ℕ
point_width zero = 0
point_width (suc n) = n + 2

-- how many bytes of an image a field is, and how many bytes fill it
abbrev pub field_width : Field → ℕ
field_width f = length (sign_bytes f.sign) + length (dollar_bytes f.dollar) + length f.whole + point_width f.decimals

abbrev pub is_place : ℕ → Bool
is_place b = b == byte.number_sign || b == byte.comma

-- what follows a `$` that a text begins with
abbrev pub after_dollar : List ℕ → List ℕ
after_dollar text = drop (length (dollar_bytes (first text == byte.dollar))) text

-- how many `#` stand after a point that a text begins with
abbrev pub decimals_of : List ℕ → ℕ
decimals_of text = if first text == byte.point then prefix_len is_hash (drop 1 text) else 0

-- the longest field that a text begins with, if there is one: a sign, a `$`, a `#` with any number of `#` and `,`, and
-- a point with one `#` or more; only the first `#` must be there
abbrev pub with_places : Sign → Bool → List ℕ → Option Field
with_places sign dollar text =
    if first text == byte.number_sign
    then Some (record { sign = sign; dollar = dollar; whole = take_while is_place text; decimals = decimals_of (drop (prefix_len is_place text) text) })
    else None

unfoldable pub field_at : List ℕ → Option Field
field_at text =
    with_places (leading_sign text) (first (after_sign text) == byte.dollar) (after_dollar (after_sign text))

-- a piece of an image: a byte of its own, or a field
pub data Piece : Type 0 where
  literal : ℕ → Piece
  field : Field → Piece

abbrev pub piece_of : ℕ → Option Field → Piece
piece_of b None = literal b
piece_of b (Some f) = field f

-- how many bytes a piece has after its first
abbrev pub width_after_first : Option Field → ℕ
width_after_first None = 0
width_after_first (Some f) = field_width f - 1

-- the pieces of what stands after the first n bytes, which belong to a piece that has begun
unfoldable pub further_pieces : ℕ → List ℕ → List Piece
further_pieces n [] = []
further_pieces (suc n) (b ∷ bs) = further_pieces n bs
further_pieces zero (b ∷ bs) = piece_of b (field_at (b ∷ bs)) ∷ further_pieces (width_after_first (field_at (b ∷ bs))) bs

-- the bytes that write a piece
abbrev pub point_bytes : ℕ → List ℕ
point_bytes zero = []
point_bytes (suc n) = byte.point ∷ replicate (suc n) byte.number_sign

abbrev pub field_bytes : Field → List ℕ
field_bytes f = sign_bytes f.sign ++ dollar_bytes f.dollar ++ f.whole ++ point_bytes f.decimals

abbrev pub piece_bytes : Piece → List ℕ
piece_bytes (literal b) = b ∷ []
piece_bytes (field f) = field_bytes f

-- the pieces of an image
abbrev pub pieces_of : List ℕ → List Piece
pieces_of image = further_pieces 0 image

-- the fields among them
abbrev pub fields : List Piece → List Field
fields [] = []
fields (literal b ∷ ps) = fields ps
fields (field f ∷ ps) = f ∷ fields ps

-- bytes that are pieces of their own
abbrev pub literals : List ℕ → List Piece
literals text = map literal text

-- A field stands at this byte of an image, and only bytes of their own before it.
pub record IsFirstField (image : List ℕ) (at : ℕ) (f : Field) : Type 0 where
  pub inside : at + field_width f ≤ length image
  pub here : field_at (drop at image) ≡ Some f
  pub before : pieces_of image ≡ literals (take at image) ++ pieces_of (drop at image)
