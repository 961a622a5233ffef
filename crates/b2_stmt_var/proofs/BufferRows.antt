-- The byte of INIT and its buffers, by its row.
use Rattle.std.proofs.Common.{◌≡◌, ◌<◌, ◌==◌, ℕ, nat_lt, if◌then◌else◌, Bool, true, false, List, [], ◌∷◌, length, drop, refl, sym, ap, subst, ◌∙◌}
use Rattle.b2_base.specs.Byte as byte
use Rattle.b2_base.specs.Lexical.{first}
use Rattle.b2_base.specs.declared.codes.TheConstants.{S11_CLOSE, S13_SEPARATOR, S19_HEX_OR_QUOTE}
use Rattle.b2_atom.specs.Words.{Text}
use Rattle.b2_atom.specs.Leaves.{leaf_width}
use Rattle.b2_atom.specs.Tree.{Trees}
use Rattle.b2_atom.specs.Tokens.Token.{Coded}
use Rattle.b2_atom.specs.Tree.Trees.{Done, Put, In}
use Rattle.b2_atom.specs.Grammar.{row_items}
use Rattle.b2_atom.specs.declared.words.Origin.TheVariants.{Atoms}
use Rattle.b2_atom.specs.declared.words.TheConstants as word
use Rattle.b2_atom.specs.declared.rows.TheConstants as row
use Rattle.b2_atom.specs.declared.forms.Leaf.TheVariants as leaf
use Rattle.b2_atom.specs.declared.forms.Item.{Item}
use Rattle.b2_atom.specs.declared.forms.Item.TheVariants.{Word, Sign, Typed, Part, Nest, Many}
use Rattle.b2_rows.specs.Leaves.{is_leaf, leaf_bytes}
use Rattle.b2_rows.specs.Rows.{is_phrase, tree_at, after_phrase, is_list}
use Rattle.b2_rows.specs.Values.{hex_byte_of}
use Rattle.b2_rows.proofs.RowsRead.{stands_of}
use Rattle.b2_rows.specs.CommaLists.{further_listed, commas}
use Rattle.b2_stmt_var.specs.Buffers.{buffers_of_init, byte_of_init}
use Rattle.b2_rows.proofs.CommaLists.{IsComma, Other, other, tail_at, items_of_other, no_items_left, item_shorter}

abbrev items : List Item
items = Word word.INIT_OPEN ∷ Nest row.HEX_PAIR ∷ Sign byte.closing S11_CLOSE ∷ Part row.BUFFER ∷ Many commas row.COMMA_BUFFER ∷ []

row_is : row_items row.INIT ≡ items
unfolding row_items
row_is = refl

abbrev pair_items : List Item
pair_items = Typed leaf.HexPair S19_HEX_OR_QUOTE ∷ []

pair_row : row_items row.HEX_PAIR ≡ pair_items
unfolding row_items
pair_row = refl

comma_row : IsComma row.COMMA_BUFFER row.BUFFER S13_SEPARATOR
unfolding row_items
comma_row = refl

-- the byte
pair_here : (t : Text) → is_phrase row.HEX_PAIR t ≡ true → is_leaf leaf.HexPair t ≡ true
pair_here t ok = (stands_of row.HEX_PAIR pair_items t pair_row ok).0.0

pub init_pair : (t : Text) → is_phrase row.INIT t ≡ true → is_leaf leaf.HexPair (drop 1 t) ≡ true
init_pair t ok = pair_here (drop 1 t) (stands_of row.INIT items t row_is ok).0.1.0

byte_by : (u : Text) (a : Trees) → is_phrase row.HEX_PAIR u ≡ true → byte_of_init (Put (Coded word.INIT_OPEN) (In 2 (tree_at row.HEX_PAIR u) a)) ≡ hex_byte_of (leaf_bytes leaf.HexPair u)
byte_by u a ok = ap (λ (p : Trees). byte_of_init (Put (Coded word.INIT_OPEN) (In 2 p a))) (stands_of row.HEX_PAIR pair_items u pair_row ok).1

pub init_byte : (t : Text) → is_phrase row.INIT t ≡ true → byte_of_init (tree_at row.INIT t) ≡ hex_byte_of (leaf_bytes leaf.HexPair (drop 1 t))
init_byte t ok =
    ap byte_of_init (stands_of row.INIT items t row_is ok).1 ∙ byte_by (drop 1 t) _ (stands_of row.INIT items t row_is ok).0.1.0

two_wide : (b : Bool) → nat_lt 0 (if b then 2 else 0) ≡ true → ◌≡◌ {A = ℕ} (if b then 2 else 0) 2
two_wide true h = refl
two_wide false h = cc

width_is : (t : Text) → is_leaf leaf.HexPair t ≡ true → leaf_width Atoms leaf.HexPair t ≡ 2
width_is t h = two_wide _ h

-- the buffers stand after it and the parenthesis
after_pair : (t : Text) → is_phrase row.HEX_PAIR t ≡ true → after_phrase row.HEX_PAIR t ≡ drop 2 t
after_pair t ok = (stands_of row.HEX_PAIR pair_items t pair_row ok).2 ∙ ap (λ (n : ℕ). drop n t) (width_is t (pair_here t ok))

four : (t : Text) → drop 1 (drop 2 (drop 1 t)) ≡ drop 4 t
four [] = refl
four (a ∷ []) = refl
four (a ∷ b ∷ []) = refl
four (a ∷ b ∷ c ∷ []) = refl
four (a ∷ b ∷ c ∷ d ∷ t) = refl

first_is : (t : Text) → is_phrase row.INIT t ≡ true → drop 1 (after_phrase row.HEX_PAIR (drop 1 t)) ≡ drop 4 t
first_is t ok = ap (λ (u : Text). drop 1 u) (after_pair (drop 1 t) (stands_of row.INIT items t row_is ok).0.1.0) ∙ four t

abbrev pub past_first : Text → Text
past_first t = after_phrase row.BUFFER t

abbrev pub are_others : Text → Bool
are_others t = is_list commas row.COMMA_BUFFER t

-- the buffers that are left
abbrev pub left_at : Text → Trees
left_at t = tail_at row.COMMA_BUFFER Done t

pub first_part : (t : Text) → is_phrase row.INIT t ≡ true → is_phrase row.BUFFER (drop 4 t) ≡ true
first_part t ok = subst (λ (u : Text). is_phrase row.BUFFER u ≡ true) (first_is t ok) (stands_of row.INIT items t row_is ok).0.1.1.1.0

pub first_list : (t : Text) → is_phrase row.INIT t ≡ true → are_others (past_first (drop 4 t)) ≡ true
first_list t ok = subst (λ (u : Text). are_others (past_first u) ≡ true) (first_is t ok) (stands_of row.INIT items t row_is ok).0.1.1.1.1.0

pub other_part : (t : Text) → are_others t ≡ true → (first t == byte.comma) ≡ true → is_phrase row.BUFFER (drop 1 t) ≡ true
other_part t ok is = Other.part (other row.COMMA_BUFFER row.BUFFER S13_SEPARATOR t comma_row ok is)

pub other_list : (t : Text) → are_others t ≡ true → (first t == byte.comma) ≡ true → are_others (past_first (drop 1 t)) ≡ true
other_list t ok is = Other.list (other row.COMMA_BUFFER row.BUFFER S13_SEPARATOR t comma_row ok is)

pub other_items : (t : Text) → are_others t ≡ true → (first t == byte.comma) ≡ true → further_listed (left_at t) ≡ tree_at row.BUFFER (drop 1 t) ∷ further_listed (left_at (past_first (drop 1 t)))
other_items t ok is = items_of_other row.COMMA_BUFFER row.BUFFER S13_SEPARATOR Done t comma_row ok is

pub no_items : (t : Text) → (first t == byte.comma) ≡ false → further_listed (left_at t) ≡ []
no_items t is = no_items_left row.COMMA_BUFFER Done t is

pub buffer_shorter : (t : Text) → (first (past_first t) == byte.comma) ≡ true → length (drop 1 (past_first t)) < length t
buffer_shorter t is = item_shorter row.BUFFER t is

pub whole_items : (t : Text) → is_phrase row.INIT t ≡ true → tree_at row.BUFFER (drop 4 t) ∷ further_listed (left_at (past_first (drop 4 t))) ≡ buffers_of_init (tree_at row.INIT t)
whole_items t ok =
    sym (ap buffers_of_init (stands_of row.INIT items t row_is ok).1 ∙ ap (λ (u : Text). tree_at row.BUFFER u ∷ further_listed (left_at (past_first u))) (first_is t ok))
