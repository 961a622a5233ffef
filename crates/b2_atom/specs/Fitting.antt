-- Which trees the rows of the table allow, said without any reading.
use Rattle.std.specs.Prelude.{◌≡◌, ℕ, zero, suc, ◌&&◌, ◌||◌, ◌==◌, not, Bool, true, false, List, [], ◌∷◌}
use Rattle.b2_base.specs.Lexical.{is_decimal}
use Rattle.b2_base.specs.Byte as byte
use Rattle.b2_atom.specs.Words.{is_short}
use Rattle.b2_atom.specs.Tokens.{Token}
use Rattle.b2_atom.specs.Tokens.Token.{Coded, Short, Plain, Lined}
use Rattle.b2_atom.specs.Tree.{Trees, tokens}
use Rattle.b2_atom.specs.Tree.Trees.{Done, Put, In}
use Rattle.b2_atom.specs.Table.{forms}
use Rattle.b2_atom.specs.Grammar.{row_items, is_among, barred_following, barred_line, barred_position}
use Rattle.b2_atom.specs.Spelling.{is_whole, is_free_text}
use Rattle.b2_atom.specs.declared.words.TheConstants as word
use Rattle.b2_atom.specs.declared.rows.TheConstants as row
use Rattle.b2_atom.specs.declared.words.Origin.{Origin}
use Rattle.b2_atom.specs.declared.words.Origin.TheVariants as origin
use Rattle.b2_atom.specs.declared.forms.Leaf.{Leaf}
use Rattle.b2_atom.specs.declared.forms.Leaf.TheVariants as leaf
use Rattle.b2_atom.specs.declared.forms.Position.{Position}
use Rattle.b2_atom.specs.declared.forms.Rule.{Rule}
use Rattle.b2_atom.specs.declared.forms.Form.{Form}
use Rattle.b2_atom.specs.declared.forms.Item.{Item}
use Rattle.b2_atom.specs.declared.forms.Item.TheVariants.{Word, Sign, Among, ProgramWord, Ignored, ShortWord, Comma, End, Typed, Part, Maybe, Either, Many, Nest, Statement}

abbrev pub leaf_number : Leaf → ℕ
leaf_number leaf.Number = 0
leaf_number leaf.SignedNumber = 1
leaf_number leaf.Name = 2
leaf_number leaf.AlphaName = 3
leaf_number leaf.LocalName = 4
leaf_number leaf.FunctionName = 5
leaf_number leaf.Literal = 6
leaf_number leaf.LineNumber = 7
leaf_number leaf.HexPair = 8
leaf_number leaf.HexDigit = 9
leaf_number leaf.Address = 10
leaf_number leaf.Slot = 11
leaf_number leaf.Small = 12
leaf_number leaf.Image = 13
leaf_number leaf.Text = 14
leaf_number leaf.Relation = 15

-- whether a token is one that an item gives in such a line
abbrev pub fits_token : Origin → Item → Token → Bool
fits_token o (Word c) (Coded d) = d == c
fits_token o (Sign c code) (Coded d) = d == c
fits_token o (Among low high code) (Coded d) = is_among low high d
fits_token origin.Immediate (ProgramWord c) (Coded d) = false
fits_token o (ProgramWord c) (Coded d) = d == c
fits_token o (ShortWord c) (Short d) = d == c && is_short d
fits_token o Comma (Coded d) = d == byte.comma
fits_token o (Typed k code) (Plain j w) = leaf_number j == leaf_number k && is_whole j w
fits_token o (Typed k code) (Lined high low) = leaf_number k == 7 && (is_decimal high && is_decimal low)
fits_token o i t = false

-- whether a rule allows a statement at a place in such a line
abbrev pub is_allowed : Origin → Position → Rule → Bool
is_allowed o p r = not (barred_following p r || (barred_line o r || barred_position p r))

-- whether a row is that of a statement that is allowed there: one of the forms, or an assignment
abbrev pub is_statement : List Form → Origin → Position → ℕ → Bool
is_statement [] o p n = n == row.ASSIGNMENT
is_statement (f ∷ fs) o p n = (f.row == n && is_allowed o p f.rule) || is_statement fs o p n

-- the items from the first that gives something
abbrev pub giving : List Item → List Item
giving [] = []
giving (Ignored c ∷ is) = giving is
giving (End ∷ is) = giving is
giving (i ∷ is) = i ∷ is

-- items that may give nothing: a remark's text may be empty
abbrev pub may_end : List Item → Bool
may_end [] = true
may_end (Ignored c ∷ is) = may_end is
may_end (End ∷ is) = may_end is
may_end (Typed leaf.Text code ∷ is) = may_end is
may_end (i ∷ is) = false

-- a token in the place of the first item
abbrev pub FitsPut : Origin → List Item → Token → (List Item → Type 0) → Type 0
FitsPut o [] t more = ⊥
FitsPut o (i ∷ is) t more = (fits_token o i t ≡ true) × more is

-- a branch in the place of an item, where `room` parentheses may still open, and `most` in a statement that begins there
abbrev pub FitsBranch : Origin → ℕ → ℕ → Item → List Item → ℕ → (ℕ → List Item → Type 0) → (List Item → Type 0) → Type 0
FitsBranch o most room (Part n) is m below more = (m ≡ 2) × (below room (row_items n) × more is)
FitsBranch o most room (Maybe s n) is zero below more = below room [] × more is
FitsBranch o most room (Maybe s n) is (suc zero) below more = below room (row_items n) × more is
FitsBranch o most room (Either s n k) is zero below more = below room (row_items k) × more is
FitsBranch o most room (Either s n k) is (suc zero) below more = below room (row_items n) × more is
FitsBranch o most room (Many s n) is zero below more = below room [] × more is
FitsBranch o most room (Many s n) is (suc zero) below more = below room (row_items n) × more (Many s n ∷ is)
FitsBranch o most (suc room) (Nest n) is m below more = (m ≡ 2) × (below room (row_items n) × more is)
FitsBranch o most room (Statement p) is m below more = (is_statement forms o p m ≡ true) × (below most (row_items m) × more is)
FitsBranch o most room i is m below more = ⊥

abbrev pub FitsIn : Origin → ℕ → ℕ → List Item → ℕ → (ℕ → List Item → Type 0) → (List Item → Type 0) → Type 0
FitsIn o most room [] m below more = ⊥
FitsIn o most room (i ∷ is) m below more = FitsBranch o most room i is m below more

-- the trees that items allow in such a line, where at most `most` parentheses are open in a statement, and `room` may still open
abbrev pub Fits : Origin → ℕ → ℕ → List Item → Trees → Type 0
Fits o most room is Done = may_end is ≡ true
Fits o most room is (Put t ts) = FitsPut o (giving is) t (λ (rest : List Item). Fits o most room rest ts)
Fits o most room is (In m inner ts) =
    FitsIn o most room (giving is) m (λ (deep : ℕ) (items : List Item). Fits o most deep items inner) (λ (rest : List Item). Fits o most room rest ts)

-- a remark and an image line run to the line's end
abbrev pub is_remark : Token → Bool
is_remark (Coded c) = c == word.REM || c == byte.percent
is_remark t = false

abbrev pub is_rest : List Token → Bool
is_rest [] = true
is_rest (t ∷ []) = is_free_text t
is_rest (t ∷ u ∷ ts) = false

abbrev pub RemarksEnd : List Token → Type 0
RemarksEnd [] = Unit {0}
RemarksEnd (t ∷ ts) = (is_remark t ≡ true → is_rest ts ≡ true) × RemarksEnd ts

-- the trees of lines in whose statements at most `most` parentheses are open
pub record LineTreeWithin (most : ℕ) (o : Origin) (t : Trees) : Type 0 where
  pub fits : Fits o most most (row_items row.LINE) t
  pub remarks : RemarksEnd (tokens t)

-- in the lines of the language at most 32 are open
abbrev pub LineTree : Origin → Trees → Type 0
LineTree o t = LineTreeWithin 32 o t
