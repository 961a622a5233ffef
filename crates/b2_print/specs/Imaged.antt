-- What values become in an image.
use Rattle.std.specs.Prelude.{ℕ, zero, suc, ◌-◌, ◌==◌, ◌&&◌, Bool, not, if◌then◌else◌, List, [], ◌∷◌, ◌++◌, length, Result, Ok, Err}
use Rattle.b2_base.specs.Byte as byte
use Rattle.b2_base.specs.declared.codes.TheConstants.{P42_IMAGE, X71_DOES_NOT_FIT}
use Rattle.b2_dec.specs.Number.{Number}
use Rattle.b2_dec.specs.declared.values.Value.{Value}
use Rattle.b2_dec.specs.declared.values.Value.TheVariants as value
use Rattle.b2_print.specs.Images.{Field, Piece, literal, field, pieces_of, fields}
use Rattle.b2_print.specs.Filling.{filled, fits}

-- One line: the pieces in order with the values in the fields, up to the first field that has no value.
abbrev pub line : List Piece → List Value → List ℕ
line [] values = []
line (literal b ∷ ps) values = b ∷ line ps values
line (field f ∷ ps) [] = []
line (field f ∷ ps) (v ∷ values) = filled f v ++ line ps values

-- The values after the first n go to further lines, each as many as there are fields.
abbrev pub further_lines : List Piece → ℕ → List Value → List ℕ
further_lines ps n [] = []
further_lines ps (suc n) (v ∷ values) = further_lines ps n values
further_lines ps zero (v ∷ values) = byte.newline ∷ line ps (v ∷ values) ++ further_lines ps (length (fields ps) - 1) values

abbrev pub all_lines : List Piece → List Value → List ℕ
all_lines ps values = line ps values ++ further_lines ps (length (fields ps)) values

-- whether there are values and no field for them
abbrev pub lacks_field : List Piece → List Value → Bool
lacks_field ps values = not (length values == 0) && (length (fields ps) == 0)

-- the values in the image, with a newline at the end unless more follows on the line
abbrev pub imaged : List ℕ → List Value → Bool → Result (List ℕ) ℕ
imaged image values more =
    if lacks_field (pieces_of image) values then Err P42_IMAGE
    else Ok (all_lines (pieces_of image) values ++ (if more then [] else byte.newline ∷ []))

-- one number in the first field of an image, which it must fit
abbrev pub converted_in : List Piece → List Field → Number → Result (List ℕ) ℕ
converted_in ps [] x = Err P42_IMAGE
converted_in ps (f ∷ fs) x = if fits f x then Ok (line ps (value.Number x ∷ [])) else Err X71_DOES_NOT_FIT

abbrev pub converted : List ℕ → Number → Result (List ℕ) ℕ
converted image x = converted_in (pieces_of image) (fields (pieces_of image)) x

-- a text that is appended to another, or the code
abbrev pub appended : List ℕ → Result (List ℕ) ℕ → Result (List ℕ) ℕ
appended before (Ok text) = Ok (before ++ text)
appended before (Err code) = Err code
