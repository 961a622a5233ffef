-- ROTATE and ROTATEC, by their row.
use Rattle.std.proofs.Common.{◌≡◌, ◌==◌, Bool, true, List, [], ◌∷◌, drop, ℤ, Ok, refl, sym, ap, ◌∙◌}
use Rattle.b2_base.specs.Byte as byte
use Rattle.b2_base.specs.Lexical.{first}
use Rattle.b2_base.specs.declared.codes.TheConstants.{S11_CLOSE, S13_SEPARATOR, S22_WORD}
use Rattle.b2_dec.specs.Number.{Number}
use Rattle.b2_atom.specs.Words.{Text}
use Rattle.b2_atom.specs.Tokens.Token.{Coded}
use Rattle.b2_atom.specs.Tree.{Trees}
use Rattle.b2_atom.specs.Tree.Trees.{Done, Put, In}
use Rattle.b2_atom.specs.Grammar.{row_items}
use Rattle.b2_atom.specs.declared.words.TheConstants as word
use Rattle.b2_atom.specs.declared.rows.TheConstants as row
use Rattle.b2_atom.specs.declared.forms.Item.{Item}
use Rattle.b2_atom.specs.declared.forms.Item.TheVariants.{Among, Sign, Part, Nest}
use Rattle.b2_rows.specs.Rows.{is_phrase, tree_at, after_phrase}
use Rattle.b2_expr.specs.Answers.{◌>>=◌}
use Rattle.b2_expr.specs.Functions.{fixed}
use Rattle.b2_receiver.specs.Receivers.{alpha_receiver}
use Rattle.b2_expr.specs.Scope.{Context}
use Rattle.b2_expr.specs.Value.{value}
use Rattle.b2_expr.specs.declared.operators.Level.TheVariants as level
use Rattle.b2_receiver.specs.declared.receiver.AlphaReceiver.{AlphaReceiver}
use Rattle.b2_rows.proofs.RowsRead.{stands_of}
use Rattle.b2_stmt_var.specs.Buffers.{bits_in, turn_in}

abbrev items : List Item
items = Among word.ROTATE_OPEN word.ROTATEC_OPEN S22_WORD ∷ Nest row.ROTATION ∷ Sign byte.closing S11_CLOSE ∷ []

row_is : row_items row.ROTATE ≡ items
unfolding row_items
row_is = refl

abbrev inner_items : List Item
inner_items = Part row.ALPHA_RECEIVER ∷ Sign byte.comma S13_SEPARATOR ∷ Part row.SUM ∷ []

inner_row : row_items row.ROTATION ≡ inner_items
unfolding row_items
inner_row = refl

inner : (t : Text) → is_phrase row.ROTATE t ≡ true → is_phrase row.ROTATION (drop 1 t) ≡ true
inner t ok = (stands_of row.ROTATE items t row_is ok).0.1.0

pub turn_receiver : (t : Text) → is_phrase row.ROTATE t ≡ true → is_phrase row.ALPHA_RECEIVER (drop 1 t) ≡ true
turn_receiver t ok = (stands_of row.ROTATION inner_items (drop 1 t) inner_row (inner t ok)).0.0

-- the number of bits
abbrev pub bits_text : Text → Text
bits_text t = drop 1 (after_phrase row.ALPHA_RECEIVER (drop 1 t))

pub turn_sum : (t : Text) → is_phrase row.ROTATE t ≡ true → is_phrase row.SUM (bits_text t) ≡ true
turn_sum t ok = (stands_of row.ROTATION inner_items (drop 1 t) inner_row (inner t ok)).0.1.1.0

pub turn_is : (s : Context) (t : Text) → is_phrase row.ROTATE t ≡ true → turn_in s (tree_at row.ROTATE t)
    ≡ (alpha_receiver s (tree_at row.ALPHA_RECEIVER (drop 1 t)) >>= (λ to. value s level.Sum (tree_at row.SUM (bits_text t)) >>= (λ x. bits_in (fixed x) >>= (λ bits. Ok (record { to = to; whole = first t == word.ROTATEC_OPEN; bits = bits })))))
unfolding turn_in
turn_is s t ok =
    ap (turn_in s) (stands_of row.ROTATE items t row_is ok).1
    ∙ ap (λ (a : Trees). turn_in s (Put (Coded (first t)) (In 2 a (Put (Coded byte.closing) Done)))) (stands_of row.ROTATION inner_items (drop 1 t) inner_row (inner t ok)).1

-- where no code comes
pub turned_so : (s : Context) (t : Text) (to : AlphaReceiver) (x : Number) (whole : Bool) (bits : ℤ) → is_phrase row.ROTATE t ≡ true → alpha_receiver s (tree_at row.ALPHA_RECEIVER (drop 1 t)) ≡ Ok to
    → value s level.Sum (tree_at row.SUM (bits_text t)) ≡ Ok x → bits_in (fixed x) ≡ Ok bits → whole ≡ (first t == word.ROTATEC_OPEN) → Ok (record { to = to; whole = whole; bits = bits }) ≡ turn_in s (tree_at row.ROTATE t)
turned_so s t to x whole bits ok is has turns at = sym (turn_is s t ok ∙ rw (is, has, turns, at))
