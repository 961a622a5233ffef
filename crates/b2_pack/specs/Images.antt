-- The image of PACK: perhaps a sign, one `#` or more, and perhaps a point and one `#` or more; thirteen `#` at most.
use Rattle.std.specs.Prelude.{ℕ, zero, suc, ◌+◌, ◌==◌, ◌&&◌, ◌||◌, nat_le, replicate, Bool, true, false, if◌then◌else◌, List, [], ◌∷◌, length, drop, Option, Some, None}
use Rattle.std.specs.List.{prefix_len}
use Rattle.b2_base.specs.Byte as byte
use Rattle.b2_base.specs.Lexical.{first}
use Rattle.b2_dectext.specs.FieldParts.{is_hash, after_sign}
use Rattle.b2_pack.specs.declared.rows.SignNibble.TheVariants.{Absent, Before}
use Rattle.b2_pack.specs.declared.rows.Row.{Row}

-- whether a text begins with a sign
abbrev pub begins_signed : List ℕ → Bool
begins_signed text = first text == byte.plus || first text == byte.minus

-- how many `#` follow a point, where a text is nothing else; none where it is empty
abbrev pub decimals_in : List ℕ → Option ℕ
decimals_in [] = Some 0
decimals_in (b ∷ marks) =
    if (b == byte.point) && nat_le 1 (length marks) && (prefix_len is_hash marks == length marks) then Some (length marks) else None

-- the row of an image with this many `#` before the point and after it
abbrev pub image_row_of : Bool → ℕ → Option ℕ → Option Row
image_row_of signed whole None = None
image_row_of signed whole (Some decimals) =
    if nat_le 1 whole && nat_le (whole + decimals) 13
    then Some (record { sign = if signed then Before else Absent; digits = whole + decimals; decimals = decimals })
    else None

-- the row in which a number is packed by an image, and none where the bytes are no image
abbrev pub image_row : List ℕ → Option Row
image_row text =
    let marks = after_sign text in
    image_row_of (begins_signed text) (prefix_len is_hash marks) (decimals_in (drop (prefix_len is_hash marks) marks))

-- the bytes that write an image: a sign, `#`s, and a point with `#`s
abbrev pub sign_mark : Option Bool → List ℕ
sign_mark None = []
sign_mark (Some false) = byte.plus ∷ []
sign_mark (Some true) = byte.minus ∷ []

abbrev pub marks : ℕ → List ℕ
marks n = replicate n byte.number_sign

abbrev pub decimal_marks : ℕ → List ℕ
decimal_marks zero = []
decimal_marks (suc n) = byte.point ∷ marks (suc n)
