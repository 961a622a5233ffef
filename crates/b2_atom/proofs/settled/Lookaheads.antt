-- What may stand at the front of a row's trees, and whether it settles each choice of the table.
use Rattle.std.proofs.Common.{ℕ, zero, suc, ◌==◌, ◌&&◌, ◌||◌, not, nat_le, nat_lt, Bool, true, false, if◌then◌else◌, List, [], ◌∷◌, ◌++◌}
use Rattle.b2_base.specs.Lexical.{first, is_decimal, is_letter}
use Rattle.b2_atom.specs.Words.{Text, all_words, is_short, short_text}
use Rattle.b2_atom.specs.Tokens.{Token}
use Rattle.b2_atom.specs.Tokens.Token.{Coded, Short, Plain, Lined}
use Rattle.b2_atom.specs.Table.{forms}
use Rattle.b2_atom.specs.Grammar.{row_items, is_among}
use Rattle.b2_atom.specs.Spelling.{is_whole, is_in, plain_signs, is_classed}
use Rattle.b2_atom.specs.Fitting.{leaf_number}
use Rattle.b2_atom.specs.declared.words.TheConstants as word
use Rattle.b2_atom.specs.declared.rows.TheConstants as row
use Rattle.b2_atom.specs.declared.forms.Leaf.{Leaf}
use Rattle.b2_atom.specs.declared.forms.Leaf.TheVariants as leaf
use Rattle.b2_atom.specs.declared.forms.Start.{Start}
use Rattle.b2_atom.specs.declared.forms.Start.TheVariants as start
use Rattle.b2_atom.specs.declared.forms.Form.{Form}
use Rattle.b2_atom.specs.declared.forms.Item.{Item}
use Rattle.b2_atom.specs.declared.forms.Item.TheVariants.{Word, Sign, Among, ProgramWord, Ignored, ShortWord, Comma, LeftOut, End, Typed, Part, Maybe, Either, Many, Nest, Statement}

-- codes from one to another
abbrev pub Span : Type 0
Span = ℕ × ℕ

abbrev pub spans : List Span → ℕ → Bool
spans [] c = false
spans (s ∷ ss) c = is_among s.0 s.1 c || spans ss c

-- a span that lies in one of some, and one that meets none of them
abbrev pub inside : List Span → Span → Bool
inside [] t = false
inside (s ∷ ss) t = (nat_le s.0 t.0 && nat_le t.1 s.1) || inside ss t

abbrev pub apart : List Span → Span → Bool
apart [] t = true
apart (s ∷ ss) t = (nat_lt s.1 t.0 || nat_lt t.1 s.0) && apart ss t

abbrev pub every : {A : Type 0} → (A → Bool) → List A → Bool
every p [] = true
every p (x ∷ xs) = p x && every p xs

abbrev pub some : {A : Type 0} → (A → Bool) → List A → Bool
some p [] = false
some p (x ∷ xs) = p x || some p xs

-- what stands at the front of tokens: anything, none, a code of a span, a short word, a leaf, or a line number
pub data Lookahead : Type 0 where
  Any : Lookahead
  None : Lookahead
  Spanned : ℕ → ℕ → Lookahead
  ShortOf : ℕ → Lookahead
  Hand : Leaf → Lookahead
  Numbered : Lookahead

abbrev pub is_ahead : Lookahead → List Token → Bool
is_ahead Any ts = true
is_ahead None [] = true
is_ahead (Spanned a b) (Coded c ∷ ts) = is_among a b c
is_ahead (ShortOf c) (Short d ∷ ts) = d == c && is_short d
is_ahead (Hand k) (Plain j w ∷ ts) = leaf_number j == leaf_number k && is_whole j w
is_ahead Numbered (Lined h l ∷ ts) = is_decimal h && is_decimal l
is_ahead f ts = false

-- the codes by which a leaf is seen; none where it isn't known
abbrev pub leaf_spans : Leaf → List Span
leaf_spans leaf.Number = (46, 46) ∷ (48, 57) ∷ []
leaf_spans leaf.SignedNumber = (43, 43) ∷ (45, 46) ∷ (48, 57) ∷ []
leaf_spans leaf.Name = (64, 90) ∷ []
leaf_spans leaf.AlphaName = (64, 90) ∷ []
leaf_spans leaf.LocalName = (64, 90) ∷ []
leaf_spans leaf.FunctionName = (48, 57) ∷ (65, 90) ∷ []
leaf_spans leaf.Literal = (34, 34) ∷ []
leaf_spans leaf.Slot = (35, 35) ∷ []
leaf_spans leaf.Small = (48, 57) ∷ []
leaf_spans leaf.Relation = (60, 62) ∷ []
leaf_spans k = []

abbrev pub classes : Lookahead → List Span
classes Any = []
classes None = (0, 0) ∷ []
classes (Spanned a b) = (a, b) ∷ []
classes (ShortOf c) = []
classes (Hand k) = leaf_spans k
classes Numbered = (48, 57) ∷ (255, 255) ∷ []

abbrev pub is_some : List Span → Bool
is_some [] = false
is_some (s ∷ ss) = true

abbrev pub sure : List Span → Lookahead → Bool → Bool
sure asked f true = is_some (classes f) && every (inside asked) (classes f)
sure asked f false = is_some (classes f) && every (apart asked) (classes f)

abbrev pub name_spans : List Span
name_spans = (64, 90) ∷ []

abbrev pub number_spans : List Span
number_spans = (46, 46) ∷ (48, 57) ∷ []

abbrev pub alpha_spans : List Span
alpha_spans = (34, 34) ∷ (word.HEX_OPEN, word.BIN_OPEN) ∷ []

abbrev pub numeric_spans : List Span
numeric_spans = (43, 43) ∷ (45, 45) ∷ (46, 46) ∷ (40, 40) ∷ (48, 57) ∷ (word.FN, word.FN) ∷ (word.ABS_OPEN, word.HASH_TERM) ∷ []

abbrev pub is_numeric_name : Lookahead → Bool
is_numeric_name (Hand leaf.Name) = true
is_numeric_name (Hand leaf.LocalName) = true
is_numeric_name f = false

abbrev pub is_alpha_lookahead : Lookahead → Bool
is_alpha_lookahead (Hand leaf.AlphaName) = true
is_alpha_lookahead f = false

abbrev pub is_hex_lookahead : Lookahead → Bool
is_hex_lookahead (Hand leaf.HexPair) = true
is_hex_lookahead f = false

abbrev pub is_numbered : Lookahead → Bool
is_numbered Numbered = true
is_numbered f = false

-- whether the lookahead tells that a numeric expression, or an alpha operand, certainly begins or certainly doesn't
abbrev pub numeric : Lookahead → Bool → Bool
numeric f true = is_numeric_name f || sure numeric_spans f true
numeric f false = is_alpha_lookahead f || sure (name_spans ++ numeric_spans) f false

abbrev pub alpha : Lookahead → Bool → Bool
alpha f true = is_alpha_lookahead f || sure alpha_spans f true
alpha f false = is_numeric_name f || sure (name_spans ++ alpha_spans) f false

-- whether a part certainly begins there, or certainly doesn't
abbrev pub surely : Start → Lookahead → Bool → Bool
surely (start.Code a) f b = sure ((a, a) ∷ []) f b
surely (start.Two a c) f b = sure ((a, a) ∷ (c, c) ∷ []) f b
surely (start.Three a c d) f b = sure ((a, a) ∷ (c, c) ∷ (d, d) ∷ []) f b
surely (start.Among a c) f b = sure ((a, c) ∷ []) f b
surely (start.Pair a c) f true = false
surely (start.Pair a c) f false = sure ((a, a) ∷ []) f false
surely (start.Letters a c d) f true = false
surely (start.Letters a c d) f false = sure ((a, a) ∷ []) f false
surely (start.ShortAfter a c) f true = false
surely (start.ShortAfter a c) f false = sure ((a, a) ∷ []) f false
surely start.Number f b = sure number_spans f b
surely start.Line f true = is_numbered f
surely start.Line f false = sure ((48, 57) ∷ (255, 255) ∷ []) f false
surely start.Numeric f b = numeric f b
surely start.Alpha f b = alpha f b
surely start.Hex f true = is_hex_lookahead f
surely start.Hex (Spanned a b) false = a == 41 && b == 41
surely start.Hex f false = false
surely start.Array f b = false
surely start.AlphaInside f b = false
surely start.CommaOrAlpha f true = alpha f true || sure ((44, 44) ∷ []) f true
surely start.CommaOrAlpha f false = alpha f false && sure ((44, 44) ∷ []) f false
surely start.PrintItem f true = numeric f true || (alpha f true || (sure ((word.TAB_OPEN, word.HEXOF_OPEN) ∷ []) f true || sure ((word.AT_OPEN, word.BOX_OPEN) ∷ []) f true))
surely start.PrintItem f false = numeric f false && (alpha f false && (sure ((word.TAB_OPEN, word.HEXOF_OPEN) ∷ []) f false && sure ((word.AT_OPEN, word.BOX_OPEN) ∷ []) f false))

-- what must not be asked of what follows some items: a question of them; a statement ends only at `:` and the end;
-- or nothing may stand after them
pub data Tail : Type 0 where
  Asked : Start → Tail
  Closed : Tail
  Over : Tail

abbrev pub is_none : Lookahead → Bool
is_none None = true
is_none f = false

abbrev pub is_colon : Lookahead → Bool
is_colon (Spanned a b) = a == 58 && b == 58
is_colon f = false

abbrev pub refused_by : Tail → Lookahead → Bool
refused_by (Asked s) f = surely s f false
refused_by Closed f = is_none f || is_colon f
refused_by Over f = is_none f

-- what is known of a row: the lookaheads of its trees, whether they may be empty, what must not stand after them, how
-- deep their parts go, whether no statement stands in them, and what may be
-- their last token
pub record Known : Type 0 where
  pub heads : List Lookahead
  pub empty : Bool
  pub tails : List Tail
  pub rank : ℕ
  pub plain : Bool
  pub ends : List Lookahead

abbrev pub none_known : Known
none_known = record { heads = []; empty = false; tails = []; rank = 0; plain = true; ends = [] }

abbrev pub when : {A : Type 0} → Bool → List A → List A
when true xs = xs
when false xs = []

abbrev pub larger : ℕ → ℕ → ℕ
larger a b = if nat_le a b then b else a

-- the signs of some bytes
abbrev pub every_sign : List ℕ → List Lookahead
every_sign [] = []
every_sign (c ∷ cs) = Spanned c c ∷ every_sign cs

-- the last tokens that statements may have: all but DATA
abbrev pub statement_ends : List Lookahead
statement_ends =
    every_sign plain_signs
    ++ (Spanned word.REM word.REM ∷ Spanned word.DIM word.READ ∷ Spanned word.RESTORE word.SELECT ∷ Spanned word.PRINT word.PRINT ∷ Spanned word.PRINTUSING word.LAST
    ∷ Hand leaf.Number ∷ Hand leaf.SignedNumber ∷ Hand leaf.Name ∷ Hand leaf.AlphaName ∷ Hand leaf.LocalName ∷ Hand leaf.FunctionName ∷ Hand leaf.Literal ∷ Hand leaf.HexPair
    ∷ Hand leaf.HexDigit ∷ Hand leaf.Address ∷ Hand leaf.Slot ∷ Hand leaf.Small ∷ Hand leaf.Image ∷ Hand leaf.Text ∷ Hand leaf.Relation ∷ Numbered ∷ [])

-- the lookaheads of statements
abbrev pub statement_heads : List Lookahead
statement_heads = Spanned 37 37 ∷ Spanned word.REM word.LAST ∷ Hand leaf.Name ∷ Hand leaf.AlphaName ∷ []

abbrev pub leaf_lookahead : Leaf → Lookahead
leaf_lookahead leaf.LineNumber = Numbered
leaf_lookahead k = Hand k

abbrev pub of_item : (ℕ → Known) → Item → Known
of_item part (Word c) = record { heads = Spanned c c ∷ []; empty = false; tails = []; rank = 0; plain = true; ends = Spanned c c ∷ [] }
of_item part (Sign c code) = record { heads = Spanned c c ∷ []; empty = false; tails = []; rank = 0; plain = true; ends = Spanned c c ∷ [] }
of_item part (Among a b code) = record { heads = Spanned a b ∷ []; empty = false; tails = []; rank = 0; plain = true; ends = Spanned a b ∷ [] }
of_item part (ProgramWord c) = record { heads = Spanned c c ∷ []; empty = false; tails = []; rank = 0; plain = true; ends = Spanned c c ∷ [] }
of_item part (Ignored c) = record { heads = []; empty = true; tails = Asked (start.Code c) ∷ []; rank = 0; plain = true; ends = [] }
of_item part (ShortWord c) = record { heads = ShortOf c ∷ []; empty = false; tails = []; rank = 0; plain = true; ends = ShortOf c ∷ [] }
of_item part Comma = record { heads = Spanned 44 44 ∷ []; empty = false; tails = []; rank = 0; plain = true; ends = Spanned 44 44 ∷ [] }
of_item part LeftOut = none_known
of_item part End = record { heads = []; empty = true; tails = Over ∷ []; rank = 0; plain = true; ends = [] }
of_item part (Typed leaf.Text code) = record { heads = Hand leaf.Text ∷ []; empty = true; tails = Over ∷ []; rank = 0; plain = true; ends = Hand leaf.Text ∷ [] }
of_item part (Typed k code) = record { heads = leaf_lookahead k ∷ []; empty = false; tails = []; rank = 0; plain = true; ends = leaf_lookahead k ∷ [] }
of_item part (Part n) = let k = part n in record { heads = k.heads; empty = k.empty; tails = k.tails; rank = suc k.rank; plain = k.plain; ends = k.ends }
of_item part (Maybe s n) = let k = part n in record { heads = k.heads; empty = true; tails = Asked s ∷ k.tails; rank = suc k.rank; plain = k.plain; ends = k.ends }
of_item part (Either s n m) =
    let k = part n in
    let j = part m in
    record { heads = k.heads ++ j.heads; empty = k.empty || j.empty; tails = when j.empty (Asked s ∷ []) ++ (k.tails ++ j.tails); rank = suc (larger k.rank j.rank); plain = k.plain && j.plain; ends = k.ends ++ j.ends }
of_item part (Many s n) = let k = part n in record { heads = k.heads; empty = true; tails = Asked s ∷ k.tails; rank = suc k.rank; plain = k.plain; ends = k.ends }
of_item part (Nest n) = record { heads = Any ∷ []; empty = true; tails = []; rank = 0; plain = true; ends = [] }
of_item part (Statement p) = record { heads = statement_heads; empty = false; tails = Closed ∷ []; rank = 0; plain = false; ends = statement_ends }

abbrev pub joined_known : Known → Known → Known
joined_known i k = record {
  heads = i.heads ++ when i.empty k.heads;
  empty = i.empty && k.empty;
  tails = when k.empty i.tails ++ k.tails;
  rank = larger i.rank k.rank;
  plain = i.plain && k.plain;
  ends = when k.empty i.ends ++ k.ends;
}

abbrev pub of_items : (ℕ → Known) → List Item → Known
of_items part [] = record { heads = []; empty = true; tails = []; rank = 0; plain = true; ends = [] }
of_items part (i ∷ is) = joined_known (of_item part i) (of_items part is)

unfoldable pub of_row : ℕ → ℕ → Known
of_row zero n = none_known
of_row (suc l) n = of_items (of_row l) (row_items n)

-- what is known of each row
unfoldable pub of : ℕ → Known
of n = of_row 40 n

abbrev pub refuse : List Tail → List Lookahead → Bool
refuse ts fs = every (λ (t : Tail). every (refused_by t) fs) ts

-- a choice by more than the next token, and between which rows
abbrev pub is_far : Start → ℕ → ℕ → Bool
is_far start.Array n m =
    (n == row.WHOLE_ARRAY && (m == row.OPERAND_OF_ANY_KIND || m == row.RECEIVER)) || (n == row.ALPHA_ARRAY && m == row.ALPHA_RECEIVER_VARIABLE)
is_far start.AlphaInside n m = n == row.SCRATCHED_FILE && m == row.SUM
is_far (start.Letters a b c) n m = a == 66 && ((b == 69 && c == 71) && (n == row.BEG && m == row.SUM))
is_far s n m = false

abbrev pub is_near : (ℕ → Known) → Start → ℕ → ℕ → Bool
is_near part s n m = every (λ (f : Lookahead). surely s f true) (part n).heads && every (λ (f : Lookahead). surely s f false) (part m).heads

abbrev pub is_last : List Item → Bool
is_last [] = true
is_last (i ∷ is) = false

abbrev pub is_closed : List Item → Bool
is_closed (Sign c code ∷ is) = c == 41
is_closed is = false

abbrev pub is_remark_item : Item → Bool
is_remark_item (Word c) = c == word.REM || c == 37
is_remark_item (Sign c code) = c == word.REM || c == 37
is_remark_item i = false

-- a row that ends in free text: a remark, or an image line
abbrev pub is_text : List Item → Bool
is_text (Typed leaf.Text code ∷ []) = true
is_text is = false

abbrev pub is_free_row : List Item → Bool
is_free_row [] = false
is_free_row (i ∷ is) = is_remark_item i && is_text is

-- a part that isn't such a row
abbrev pub is_bound : ℕ → Bool
is_bound n = not (is_free_row (row_items n))

-- whether each choice of an item is settled by what stands next
abbrev pub settled_item : (ℕ → Known) → Item → List Item → Bool
settled_item part (Part n) is = is_bound n
settled_item part (Maybe s n) is = is_bound n && (not (part n).empty && every (λ (f : Lookahead). surely s f true) (part n).heads)
settled_item part (Either s n m) is = (is_bound n && is_bound m) && (not (part n).empty && (is_far s n m || is_near part s n m))
settled_item part (Many s n) is =
    is_bound n && (not (part n).empty && (every (λ (f : Lookahead). surely s f true) (part n).heads && refuse (part n).tails (part n).heads))
settled_item part (Nest n) is = is_bound n && ((part n).plain && (is_closed is && refuse (part n).tails (Spanned 41 41 ∷ [])))
settled_item part End is = is_last is
settled_item part (Typed leaf.Text code) is = false
settled_item part i is = true

abbrev pub settled : (ℕ → Known) → List Item → Bool
settled part [] = true
settled part (i ∷ is) = settled_item part i is && (refuse (of_item part i).tails (of_items part is).heads && settled part is)

abbrev pub settled_row : List Item → Bool
settled_row is = nat_le (of_items (of_row 39) is).rank 39 && (is_free_row is || settled of is)

abbrev pub settled_rows : List (List Item) → Bool
settled_rows [] = true
settled_rows (r ∷ rs) = settled_row r && settled_rows rs

-- whether one lookahead lies in another
abbrev pub covers : Lookahead → Lookahead → Bool
covers (Spanned a b) (Spanned c d) = nat_le a c && nat_le d b
covers (Hand k) (Hand j) = leaf_number j == leaf_number k
covers Numbered Numbered = true
covers f g = false

abbrev pub covered : List Lookahead → List Lookahead → Bool
covered gs fs = every (λ (f : Lookahead). some (λ (g : Lookahead). covers g f) gs) fs

-- a statement's row: it begins as statements do, and with a word or a sign where statements stand in it
abbrev pub is_symbol_item : Item → Bool
is_symbol_item (Word c) = true
is_symbol_item (Sign c code) = true
is_symbol_item (Among a b code) = true
is_symbol_item i = false

abbrev pub leading : List Item → Bool
leading [] = false
leading (i ∷ is) = is_symbol_item i

abbrev pub good_statement : ℕ → Bool
good_statement n =
    not (of n).empty
    && (covered statement_heads (of n).heads && (((of n).plain || leading (row_items n)) && ((is_free_row (row_items n) || refuse (of n).tails (None ∷ Spanned 58 58 ∷ [])) && covered statement_ends (of n).ends)))

-- a test of the row of each form, and of assignments
abbrev pub every_statement : (ℕ → Bool) → List Form → Bool
every_statement test [] = test row.ASSIGNMENT
every_statement test (f ∷ fs) = test f.row && every_statement test fs

-- the choice of a statement by its first two tokens
abbrev pub is_spanned : Lookahead → Bool
is_spanned (Spanned a b) = true
is_spanned f = false

-- a short word, and certainly not that one: another, or what a text shows to be none
abbrev pub is_short_of : ℕ → Lookahead → Bool
is_short_of c (ShortOf d) = d == c
is_short_of c f = false

abbrev pub short_spans : ℕ → List Span
short_spans c = (first (short_text c), first (short_text c)) ∷ (c, c) ∷ []

abbrev pub not_short_of : ℕ → Lookahead → Bool
not_short_of c (ShortOf d) = not (d == c)
not_short_of c f = sure (short_spans c) f false

abbrev pub pair_surely : Start → Lookahead → Lookahead → Bool → Bool
pair_surely (start.Pair a c) f g true = is_spanned f && (sure ((a, a) ∷ []) f true && sure ((c, c) ∷ []) g true)
pair_surely (start.Pair a c) f g false = sure ((a, a) ∷ []) f false || (is_spanned f && sure ((c, c) ∷ []) g false)
pair_surely (start.ShortAfter a c) f g true = is_spanned f && (sure ((a, a) ∷ []) f true && is_short_of c g)
pair_surely (start.ShortAfter a c) f g false = sure ((a, a) ∷ []) f false || (is_spanned f && not_short_of c g)
pair_surely st f g b = surely st f b

abbrev pub variable_spans : List Span
variable_spans = (64, 90) ∷ (word.STR_OPEN, word.STR_OPEN) ∷ []

-- no form has a row
abbrev pub lacks : List Form → ℕ → Bool
lacks [] m = not (m == row.ASSIGNMENT)
lacks (x ∷ xs) m = not (x.row == m) && lacks xs m

-- a row is what the forms lead to from two lookaheads
abbrev pub choose : List Form → ℕ → Lookahead → Lookahead → Bool
choose [] m f g = m == row.ASSIGNMENT && sure variable_spans f true
choose (x ∷ xs) m f g =
    if pair_surely x.start f g true then x.row == m && lacks xs m
    else pair_surely x.start f g false && (not (x.row == m) && choose xs m f g)

abbrev pub closing_heads : List Lookahead
closing_heads = None ∷ Spanned 58 58 ∷ []

abbrev pub seconds : List Item → List Lookahead
seconds is = (of_items of is).heads ++ when (of_items of is).empty closing_heads

abbrev pub symbol_choice : ℕ → List Item → Bool
symbol_choice m [] = false
symbol_choice m (i ∷ is) = every (λ (f : Lookahead). every (λ (g : Lookahead). choose forms m f g) (seconds is)) (of_item of i).heads

abbrev pub chosen_row : ℕ → Bool → Bool
chosen_row m true = symbol_choice m (row_items m)
chosen_row m false = every (λ (f : Lookahead). choose forms m f Any) (of m).heads

abbrev pub chosen_statement : ℕ → Bool
chosen_statement m = chosen_row m (leading (row_items m))

-- what stands at the front of items, also where it stands in parentheses
abbrev pub next_heads : List Item → List Lookahead
next_heads [] = []
next_heads (Nest n ∷ is) = (of n).heads ++ when (of n).empty (of_items of is).heads
next_heads (i ∷ is) = (of_items of (i ∷ is)).heads

-- whether each token may stand before what follows it
abbrev pub Beside : Type 0
Beside = Lookahead → Lookahead → Bool

abbrev pub besides : Beside → List Lookahead → List Lookahead → Bool
besides p fs gs = every (λ (f : Lookahead). every (λ (g : Lookahead). p f g) gs) fs

abbrev pub Within : Type 0
Within = ℕ → Bool

abbrev pub paired_item : Within → Beside → Item → List Item → Bool
paired_item r p (Part n) is = r n
paired_item r p (Maybe s n) is = r n
paired_item r p (Either s n m) is = r n && r m
paired_item r p (Many s n) is = r n && (besides p (of n).ends (of n).heads && besides p (of n).ends (of_items of is).heads)
paired_item r p (Nest n) is = r n && (is_closed is && besides p (of n).ends (Spanned 41 41 ∷ []))
paired_item r p (Statement q) is = r row.LINE
paired_item r p i is = true

abbrev pub paired : Within → Beside → List Item → Bool
paired r p [] = true
paired r p (i ∷ is) = paired_item r p i is && (besides p (of_item of i).ends (next_heads is) && paired r p is)

-- whether a token of one lookahead may stand before one of another, as far as the lookaheads tell; after a remark anything may
abbrev pub symbols : Lookahead → Bool
symbols (Spanned a b) = nat_lt b 65 || nat_lt 90 a
symbols (Hand leaf.Relation) = true
symbols f = false

abbrev pub is_kind : ℕ → Lookahead → Bool
is_kind n (Hand k) = leaf_number k == n
is_kind n f = false

abbrev pub is_one : Lookahead → Bool
is_one Any = false
is_one None = false
is_one f = true

abbrev pub not_free : Lookahead → Bool
not_free f = is_one f && not (is_kind 14 f)

abbrev pub not_image : Lookahead → Bool
not_image f = is_one f && not (is_kind 13 f)

-- the codes of the words that begin with `$`
abbrev pub dollar_spans : List Text → ℕ → List Span
dollar_spans [] c = []
dollar_spans (w ∷ ws) c = when (first w == 36) ((c, c) ∷ []) ++ dollar_spans ws (suc c)

abbrev pub no_dollar : Lookahead → Bool
no_dollar (Spanned a b) = nat_lt b 128 || apart (dollar_spans all_words 128) (a, b)
no_dollar f = is_one f

abbrev pub unrelated : Lookahead → Bool
unrelated (Spanned a b) = nat_lt b 61 || nat_lt 61 a
unrelated f = is_one f && not (is_kind 15 f)

abbrev pub lettered : ℕ → Lookahead → Bool
lettered c (Spanned a b) = symbols (Spanned a b) || (a == b && ((c == 66 && a == 69) || (c == 69 && a == 71)))
lettered c Numbered = true
lettered c f = false

abbrev pub is_data : Lookahead → Bool
is_data (Hand k) = not (is_kind 13 (Hand k) || is_kind 15 (Hand k))
is_data f = false

abbrev pub beside_code : ℕ → Lookahead → Bool
beside_code c g =
    if c == word.REM || c == 37 then true
    else (not_free g && (if is_letter c then lettered c g
    else (if c == word.DATA then is_data g else (if c == word.PRINT then not_image g else true))))

abbrev pub beside_leaf : Leaf → Lookahead → Bool
beside_leaf leaf.Number g = symbols g
beside_leaf leaf.SignedNumber g = symbols g
beside_leaf leaf.Name g = symbols g && no_dollar g
beside_leaf leaf.LocalName g = symbols g && no_dollar g
beside_leaf leaf.FunctionName g = symbols g
beside_leaf leaf.Slot g = symbols g
beside_leaf leaf.Small g = symbols g || is_kind 6 g
beside_leaf leaf.Relation g = unrelated g && (not_free g && not_image g)
beside_leaf leaf.Text g = true
beside_leaf k g = not_free g

-- words after which any token but free text may stand
abbrev pub is_calm : ℕ → ℕ → Bool
is_calm a b = nat_le 128 a && apart ((word.REM, word.REM) ∷ (word.DATA, word.DATA) ∷ (word.PRINT, word.PRINT) ∷ []) (a, b)

abbrev pub beside : Beside
beside (Spanned a b) g = if a == b then beside_code a g else is_calm a b && not_free g
beside (ShortOf c) g = not_free g
beside (Hand k) g = beside_leaf k g
beside Numbered g = symbols g
beside f g = false

-- whether each token of a lookahead is a good token
abbrev pub good_lookahead : Lookahead → Bool
good_lookahead (Spanned a b) = (nat_le word.REM a && nat_le b word.LAST) || (a == b && is_in a plain_signs)
good_lookahead (ShortOf c) = true
good_lookahead (Hand k) = true
good_lookahead Numbered = true
good_lookahead f = false

abbrev pub before_good : Beside
before_good f g = good_lookahead g

-- the rows of expressions and receivers
abbrev pub is_expression : ℕ → Bool
is_expression n =
    is_among row.SUM row.ALPHA_VARIABLE n
    || (n == row.NUMERIC_RECEIVER || (n == row.ALPHA_RECEIVER || (n == row.ALPHA_RECEIVER_VARIABLE || (n == row.RECEIVER || n == row.OPERAND_OF_ANY_KIND))))

abbrev pub class_lookahead : Lookahead → Bool
class_lookahead (Spanned a b) = true
class_lookahead (Hand k) = is_classed k
class_lookahead f = false

abbrev pub not_close : Lookahead → Bool
not_close (Spanned a b) = nat_lt b 41 || nat_lt 41 a
not_close f = true

-- what follows a `(` of an expression: no `)`, and nothing of an alpha expression
abbrev pub number_lookahead : Lookahead → Bool
number_lookahead f = alpha f false && (class_lookahead f && not_close f)

abbrev pub is_named : Leaf → Bool
is_named leaf.Name = true
is_named leaf.AlphaName = true
is_named k = false

abbrev pub before_number : Beside
before_number (Spanned a b) g = (nat_lt b 40 || nat_lt 40 a) || number_lookahead g
before_number (Hand k) g = not (is_named k) || class_lookahead g
before_number Numbered g = true
before_number f g = false

abbrev pub within_rows : Within → Beside → ℕ → List (List Item) → Bool
within_rows r p k [] = true
within_rows r p k (x ∷ xs) = (not (r k) || paired r p x) && within_rows r p (suc k) xs

-- what the ends and the heads of the far choices tell
abbrev pub not_open : Lookahead → Bool
not_open f = is_spanned f || sure ((40, 40) ∷ []) f false

abbrev pub not_b : Lookahead → Bool
not_b f = sure ((66, 66) ∷ []) f false || is_numeric_name f

abbrev pub named_or_not : Lookahead → Bool
named_or_not (Hand k) = is_named k || sure name_spans (Hand k) false
named_or_not f = sure name_spans f false

abbrev pub asks_open : Tail → Bool
asks_open (Asked (start.Code c)) = c == 40
asks_open t = false

abbrev pub some_tail : (Tail → Bool) → List Tail → Bool
some_tail p [] = false
some_tail p (t ∷ ts) = p t || some_tail p ts

abbrev pub ends_open : ℕ → Bool
ends_open k = some_tail asks_open (of k).tails && (besides before_number (of k).ends (Spanned 41 41 ∷ []) && every named_or_not (of k).heads)
