-- PRINTUSING: values in an image.
use Rattle.std.specs.Prelude.{ℕ, ◌==◌, Bool, false, List, [], ◌∷◌, ◌++◌, Option, None, Some, Result, Ok, Err, if◌then◌else◌}
use Rattle.b2_base.specs.Byte as byte
use Rattle.b2_base.specs.declared.codes.TheConstants.{P36_NO_LINE, P42_IMAGE, S15_LINE_NUMBER, S17_NUMERIC}
use Rattle.b2_dec.specs.declared.values.Value.{Value}
use Rattle.b2_dec.specs.declared.values.Value.TheVariants as kind
use Rattle.b2_atom.specs.Tokens.Token.{Plain}
use Rattle.b2_atom.specs.Tree.{Trees}
use Rattle.b2_atom.specs.Tree.Trees.{Done, Put, In}
use Rattle.b2_rows.specs.Values.{literal_of}
use Rattle.b2_text.specs.Program.{Lines, line_at}
use Rattle.b2_expr.specs.Answers.{TextAnswer, ◌>>=◌}
use Rattle.b2_expr.specs.Scope.{Context}
use Rattle.b2_expr.specs.Value.{text, value}
use Rattle.b2_expr.specs.declared.operators.Level.TheVariants as level
use Rattle.b2_print.specs.Imaged.{imaged}
use Rattle.b2_rows.specs.LineNumbers.{line_in}
use Rattle.b2_rows.specs.CommaLists.{after_all_listed, all_listed}

-- the image on a line: what stands after its `%`
abbrev pub line_image : Option (List ℕ) → TextAnswer
line_image None = Err P36_NO_LINE
line_image (Some []) = Err P42_IMAGE
line_image (Some (b ∷ image)) = if b == byte.percent then Ok image else Err P42_IMAGE

-- or one that is written
abbrev pub written_image : Trees → List ℕ
written_image (Put (Plain k image) end) = literal_of image
written_image t = []

abbrev pub image_in : Lines → ℕ → Trees → TextAnswer
image_in lines n t = if n == 1 then line_image (line_at (line_in t) lines) else Ok (written_image t)

abbrev pub image_named : Lines → Trees → TextAnswer
image_named lines (Put word (In n image more)) = image_in lines n image
image_named lines t = Err S15_LINE_NUMBER

-- the items after it
abbrev pub items_named : Trees → Trees
items_named (Put word (In n image (Put comma items))) = items
items_named t = Done

-- a value of either kind
abbrev pub any_value : Context → Trees → Result Value ℕ
any_value s (In n a end) = if n == 1 then text s a >>= (λ bytes. Ok (kind.Alpha bytes)) else value s level.Sum a >>= (λ x. Ok (kind.Number x))
any_value s t = Err S17_NUMERIC

-- values from left to right, or the first code
abbrev pub values_of : Context → List Trees → Result (List Value) ℕ
values_of s [] = Ok []
values_of s (t ∷ ts) = any_value s t >>= (λ x. values_of s ts >>= (λ xs. Ok (x ∷ xs)))

-- whether a semicolon ends the items
abbrev pub is_joined : Trees → Bool
is_joined (In n semicolon end) = n == 1
is_joined t = false

-- the image first, then the values, and then what they become in it
abbrev pub items_using : Context → List ℕ → Trees → TextAnswer
items_using s image items = values_of s (all_listed items) >>= (λ xs. imaged image xs (is_joined (after_all_listed items)))

abbrev pub prints_using : Context → Trees → TextAnswer
prints_using s t = image_named s.around.home.lines t >>= (λ image. items_using s image (items_named t))

-- values after others, or their code
abbrev pub values_joined : List Value → Result (List Value) ℕ → Result (List Value) ℕ
values_joined before (Ok xs) = Ok (before ++ xs)
values_joined before (Err code) = Err code
