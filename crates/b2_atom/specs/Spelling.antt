-- Which texts spell which tokens, and which tokens may stand side by side.
use Rattle.std.specs.Prelude.{◌≡◌, ℕ, ◌-◌, ◌<◌, ◌&&◌, ◌||◌, ◌==◌, not, nat_lt, Bool, true, false, List, [], ◌∷◌, ◌++◌, length, drop, codes, if◌then◌else◌}
use Rattle.b2_base.specs.Byte as byte
use Rattle.b2_base.specs.Lexical.{all_printable, first, is_decimal, is_hex_digit, is_letter}
use Rattle.b2_atom.specs.Words.{Text, skipped, ahead, kept_byte, word_text, is_short}
use Rattle.b2_atom.specs.Tokens.{Token, token_atoms, is_word}
use Rattle.b2_atom.specs.Tokens.Token.{Coded, Short, Plain, Lined}
use Rattle.b2_atom.specs.Tree.{one}
use Rattle.b2_atom.specs.Leaves.{is_alpha_name, name_width, leaf_width}
use Rattle.b2_atom.specs.Grammar.{class_at, is_line, is_among, read_leaf, short_word, begins_let, spelled_after}
use Rattle.b2_atom.specs.declared.words.TheConstants as word
use Rattle.b2_atom.specs.declared.words.Origin.{Origin}
use Rattle.b2_atom.specs.declared.words.Origin.TheVariants as origin
use Rattle.b2_atom.specs.declared.forms.Leaf.{Leaf}
use Rattle.b2_atom.specs.declared.forms.Leaf.TheVariants as leaf

-- what is typed by hand is a whole leaf of its kind by itself
abbrev pub is_whole : Leaf → Text → Bool
is_whole leaf.Text w = nat_lt 0 (length w) && all_printable w
is_whole k w = nat_lt 0 (length w) && leaf_width origin.Atoms k w == length w

-- the bytes that stand for themselves in a line
abbrev pub plain_signs : Text
plain_signs = codes "%&()*+,-/:;=^BEGFNPTV"

abbrev pub is_in : ℕ → Text → Bool
is_in b [] = false
is_in b (c ∷ cs) = b == c || is_in b cs

-- a token that may stand in a line: a word of the table, a sign, a short word, a whole leaf, or a line number of decimal
-- digits
abbrev pub good_token : Token → Bool
good_token (Coded c) = is_among word.REM word.LAST c || is_in c plain_signs
good_token (Short c) = is_short c
good_token (Plain k w) = is_whole k w
good_token (Lined high low) = is_decimal high && is_decimal low

-- a word or a sign that isn't a letter, also a comparison sign
abbrev pub is_word_or_sign : Token → Bool
is_word_or_sign (Coded c) = not (is_letter c)
is_word_or_sign (Short c) = false
is_word_or_sign (Plain leaf.Relation w) = true
is_word_or_sign (Plain k w) = false
is_word_or_sign (Lined high low) = false

abbrev pub is_literal : Token → Bool
is_literal (Plain leaf.Literal w) = true
is_literal t = false

abbrev pub is_free_text : Token → Bool
is_free_text (Plain leaf.Text w) = true
is_free_text t = false

abbrev pub is_image : Token → Bool
is_image (Plain leaf.Image w) = true
is_image t = false

-- a word that begins with `$`
abbrev pub is_dollar : Token → Bool
is_dollar (Coded c) = is_word c && first (word_text c) == byte.dollar
is_dollar t = false

-- a token that doesn't begin with a comparison sign
abbrev pub is_unrelated : Token → Bool
is_unrelated (Coded c) = not (c == byte.equals)
is_unrelated (Plain leaf.Relation w) = false
is_unrelated t = true

-- the two letters that stand after others: of B E G
abbrev pub is_lettered : ℕ → Token → Bool
is_lettered c (Coded d) = not (is_letter d) || (c == byte.upper_b && d == byte.upper_e) || (c == byte.upper_e && d == byte.upper_g)
is_lettered c (Short d) = false
is_lettered c (Plain k w) = false
is_lettered c (Lined high low) = true

-- what may follow a word or a sign
abbrev pub may_follow_code : ℕ → Token → Bool
may_follow_code c t =
    if c == word.REM || c == byte.percent then is_free_text t
    else (not (is_free_text t) && (if is_letter c then is_lettered c t
    else (if c == word.DATA then not (is_word_or_sign t || is_image t) else (if c == word.PRINT then not (is_image t) else true))))

-- what may follow what is typed by hand
abbrev pub may_follow_leaf : Leaf → Token → Bool
may_follow_leaf leaf.Number t = is_word_or_sign t
may_follow_leaf leaf.SignedNumber t = is_word_or_sign t
may_follow_leaf leaf.Name t = is_word_or_sign t && not (is_dollar t)
may_follow_leaf leaf.LocalName t = is_word_or_sign t && not (is_dollar t)
may_follow_leaf leaf.FunctionName t = is_word_or_sign t
may_follow_leaf leaf.Slot t = is_word_or_sign t
may_follow_leaf leaf.Small t = is_word_or_sign t || is_literal t
may_follow_leaf leaf.Relation t = is_unrelated t && not (is_free_text t || is_image t)
may_follow_leaf leaf.Text t = false
may_follow_leaf k t = not (is_free_text t)

-- whether a token may stand directly after another, so that neither runs on into the other
abbrev pub may_follow : Token → Token → Bool
may_follow (Coded c) t = may_follow_code c t
may_follow (Short c) t = not (is_free_text t)
may_follow (Plain k w) t = may_follow_leaf k t
may_follow (Lined high low) t = is_word_or_sign t

abbrev pub Neighbours : List Token → Type 0
Neighbours [] = Unit {0}
Neighbours (t ∷ []) = Unit {0}
Neighbours (t ∷ u ∷ ts) = (may_follow t u ≡ true) × Neighbours (u ∷ ts)

abbrev pub AllGood : List Token → Type 0
AllGood [] = Unit {0}
AllGood (t ∷ ts) = (good_token t ≡ true) × AllGood ts

-- a kind that is known by its first byte alone, whatever follows it
abbrev pub is_classed : Leaf → Bool
is_classed leaf.HexPair = false
is_classed leaf.HexDigit = false
is_classed leaf.Address = false
is_classed leaf.Image = false
is_classed leaf.Text = false
is_classed k = true

abbrev pub has_class : Token → Bool
has_class (Coded c) = true
has_class (Short c) = false
has_class (Plain k w) = is_classed k
has_class (Lined high low) = false

abbrev pub token_class : Token → ℕ
token_class (Coded c) = c
token_class (Short c) = c
token_class (Plain k w) = first w
token_class (Lined high low) = word.LINE_MARK

abbrev pub is_code : ℕ → Token → Bool
is_code c (Coded d) = d == c
is_code c t = false

-- BEG, letter by letter
abbrev pub is_beg : Token → List Token → Bool
is_beg (Coded c) (Coded d ∷ Coded e ∷ ts) = c == byte.upper_b && (d == byte.upper_e && e == byte.upper_g)
is_beg t ts = false

-- where a token begins: blanks before it don't count, but before free text they do
abbrev pub here : Origin → Token → Text → Text
here o (Plain leaf.Text w) s = s
here o t s = skipped o s

-- a text from which a token is read, with what is left
abbrev pub Reads : Origin → Token → Text → Text → Type 0
Reads o (Coded c) s rest = ahead o (skipped o s) ≡ (c, rest)
Reads o (Short c) s rest = short_word o c s ≡ one (Short c) rest
Reads o (Plain k w) s rest = (code : ℕ) → read_leaf o k code s ≡ one (Plain k w) rest
Reads o (Lined high low) s rest = (code : ℕ) → read_leaf o leaf.LineNumber code s ≡ one (Lined high low) rest

-- a name of a number or of an alpha value, as a text shows it
pub record Named (o : Origin) (is_alpha : Bool) (width : ℕ) (w t rest : Text) : Type 0 where
  pub alpha : is_alpha_name o t ≡ is_alpha
  pub width_is : name_width o t ≡ width
  pub behind : drop (length w) t ≡ rest

abbrev pub ShowsName : Origin → Token → Text → Text → Type 0
ShowsName o (Plain leaf.Name w) s rest = Named o false (length w) w (skipped o s) rest
ShowsName o (Plain leaf.LocalName w) s rest = Named o false (length w) w (skipped o s) rest
ShowsName o (Plain leaf.AlphaName w) s rest = Named o true (length w - 1) w (skipped o s) rest
ShowsName o t s rest = Unit {0}

abbrev pub ShowsHex : Origin → Token → Text → Type 0
ShowsHex o (Plain leaf.HexPair w) s = is_hex_digit (kept_byte o (first (skipped o s))) ≡ true
ShowsHex o t s = Unit {0}

abbrev pub ShowsLine : Origin → Token → Text → Type 0
ShowsLine o (Lined high low) s = is_line o (class_at o s) ≡ true
ShowsLine o t s = Unit {0}

-- a text that begins with a token, after which others stand: it is read as that token, and its first bytes show which one
-- it is
pub record Begins (o : Origin) (t : Token) (behind : List Token) (s rest : Text) : Type 0 where
  pub reads : Reads o t s rest
  pub shorter : length rest < length (here o t s)
  pub class : has_class t ≡ true → class_at o s ≡ token_class t
  pub opens : has_class t ≡ true → (first (skipped o s) == byte.opening) ≡ is_code byte.opening t
  pub closes : has_class t ≡ true → (first (skipped o s) == byte.closing) ≡ is_code byte.closing t
  pub lets : has_class t ≡ true → begins_let o (skipped o s) ≡ false
  pub begs : has_class t ≡ true → (class_at o s == byte.upper_b && spelled_after o (ahead o (skipped o s)).1 byte.upper_e byte.upper_g) ≡ is_beg t behind
  pub name : ShowsName o t s rest
  pub hex : ShowsHex o t s
  pub line : ShowsLine o t s

-- the atom bytes of tokens
abbrev pub atoms_of_tokens : List Token → Text
atoms_of_tokens [] = []
atoms_of_tokens (t ∷ ts) = token_atoms t ++ atoms_of_tokens ts

-- a text that spells tokens, and nothing else
abbrev pub Spells : Origin → List Token → Text → Type 0
Spells o [] s = s ≡ []
Spells o (t ∷ ts) s = (rest : Text) × (Begins o t ts s rest × Spells o ts rest)
