-- INPUT and LINPUT by their rows: a prompt, and what stands after it.
use Rattle.std.proofs.Common.{◌≡◌, ℕ, ◌==◌, Bool, true, false, if◌then◌else◌, List, [], ◌∷◌, drop, refl, ap, ◌∙◌}
use Rattle.b2_base.specs.Byte as byte
use Rattle.b2_base.specs.Lexical.{first}
use Rattle.b2_base.specs.declared.codes.TheConstants.{S13_SEPARATOR}
use Rattle.b2_atom.specs.Words.{Text}
use Rattle.b2_atom.specs.Leaves.{leaf_width}
use Rattle.b2_atom.specs.Tokens.Token.{Coded}
use Rattle.b2_atom.specs.Tree.{Trees, also}
use Rattle.b2_atom.specs.Tree.Trees.{Done, Put, In}
use Rattle.b2_atom.specs.Grammar.{row_items, starts}
use Rattle.b2_atom.specs.declared.words.Origin.TheVariants.{Atoms}
use Rattle.b2_atom.specs.declared.words.TheConstants as word
use Rattle.b2_atom.specs.declared.rows.TheConstants as row
use Rattle.b2_atom.specs.declared.forms.Start.{Start}
use Rattle.b2_atom.specs.declared.forms.Start.TheVariants as start
use Rattle.b2_atom.specs.declared.forms.Leaf.TheVariants as leaf
use Rattle.b2_atom.specs.declared.forms.Item.{Item}
use Rattle.b2_atom.specs.declared.forms.Item.TheVariants.{Word, Sign, Part, Maybe}
use Rattle.b2_rows.specs.Leaves.{is_leaf, leaf_bytes}
use Rattle.b2_rows.specs.Rows.{is_phrase, tree_at}
use Rattle.b2_rows.specs.Optional.{maybe_phrase, maybe_tree, after_maybe}
use Rattle.b2_rows.specs.Values.{literal_of}
use Rattle.b2_rows.proofs.Optional.{begun_part, begun_tree, begun_rest, left_out_tree, left_out_rest}
use Rattle.b2_rows.proofs.RowsRead.{stands_of}
use Rattle.b2_stmt_io.specs.LineReading.{after_prompt, prompt_bytes, prompt_of, prompt_there, receiver_of}
use Rattle.b2_stmt_io.proofs.LeftOut.{maybe_put, maybe_then}
use Rattle.b2_access.proofs.MarkRows.{after_literal, literal_here, literal_tree}

abbrev pub quoted : Start
quoted = start.Code byte.quote

abbrev Prompted : Text → Type 0
Prompted t = maybe_phrase quoted row.PROMPT t ≡ true

begins : (t : Text) (b : Bool) → (first t == byte.quote) ≡ b → starts Atoms quoted t ≡ b
unfolding starts
begins t b is = is

abbrev prompt_items : List Item
prompt_items = Part row.LITERAL ∷ Sign byte.comma S13_SEPARATOR ∷ []

prompt_row : row_items row.PROMPT ≡ prompt_items
unfolding row_items
prompt_row = refl

part : (t : Text) → Prompted t → (first t == byte.quote) ≡ true → is_phrase row.PROMPT t ≡ true
part t ok is = begun_part quoted row.PROMPT t ok (begins t true is)

literal : (t : Text) → Prompted t → (first t == byte.quote) ≡ true → is_phrase row.LITERAL t ≡ true
literal t ok is = (stands_of row.PROMPT prompt_items t prompt_row (part t ok is)).0.0

pub prompt_here : (t : Text) → Prompted t → (first t == byte.quote) ≡ true → is_leaf leaf.Literal t ≡ true
prompt_here t ok is = literal_here t (literal t ok is)

pub prompt_with : (t : Text) → Prompted t → (first t == byte.quote) ≡ true → prompt_there (maybe_tree quoted row.PROMPT t) ≡ literal_of (leaf_bytes leaf.Literal t)
prompt_with t ok is =
    ap prompt_there (begun_tree quoted row.PROMPT t (begins t true is))
    ∙ ap prompt_bytes (stands_of row.PROMPT prompt_items t prompt_row (part t ok is)).1
    ∙ ap (λ (a : Trees). prompt_bytes (In 2 a (Put (Coded byte.comma) Done))) (literal_tree t (literal t ok is))

pub prompt_without : (t : Text) → (first t == byte.quote) ≡ false → prompt_there (maybe_tree quoted row.PROMPT t) ≡ []
prompt_without t is = ap prompt_there (left_out_tree quoted row.PROMPT t (begins t false is))

pub rest_with : (t : Text) → Prompted t → (first t == byte.quote) ≡ true → after_maybe quoted row.PROMPT t ≡ drop 1 (drop (leaf_width Atoms leaf.Literal t) t)
rest_with t ok is =
    begun_rest quoted row.PROMPT t (begins t true is)
    ∙ (stands_of row.PROMPT prompt_items t prompt_row (part t ok is)).2
    ∙ ap (drop 1) (after_literal t (literal t ok is))

pub rest_without : (t : Text) → (first t == byte.quote) ≡ false → after_maybe quoted row.PROMPT t ≡ t
rest_without t is = left_out_rest quoted row.PROMPT t (begins t false is)

-- what stands after a prompt or none
abbrev pub rest_at : Text → Text
rest_at t = after_maybe quoted row.PROMPT (drop 1 t)

there_by : (b : Bool) (x e : Trees) → prompt_there (also (if b then In 1 x Done else In 0 Done Done) e) ≡ prompt_there (if b then In 1 x Done else In 0 Done Done)
there_by true x e = refl
there_by false x e = refl

pub prompt_is : (c : ℕ) (t : Text) (e : Trees) → prompt_of (Put (Coded c) (also (maybe_tree quoted row.PROMPT t) e)) ≡ prompt_there (maybe_tree quoted row.PROMPT t)
unfolding maybe_tree
prompt_is c t e = there_by (starts Atoms quoted t) (tree_at row.PROMPT t) e

after_by : (c : ℕ) (b : Bool) (x e : Trees) → after_prompt (Put (Coded c) (also (if b then In 1 x Done else In 0 Done Done) e)) ≡ e
after_by c true x e = refl
after_by c false x e = refl

pub after_is : (c : ℕ) (t : Text) (e : Trees) → after_prompt (Put (Coded c) (also (maybe_tree quoted row.PROMPT t) e)) ≡ e
unfolding maybe_tree
after_is c t e = after_by c (starts Atoms quoted t) (tree_at row.PROMPT t) e

-- LINPUT
abbrev linput_items : List Item
linput_items = Word word.LINPUT ∷ Maybe quoted row.PROMPT ∷ Part row.ALPHA_RECEIVER ∷ []

linput_row : row_items row.LINPUT ≡ linput_items
unfolding row_items
linput_row = refl

linput_stands : (t : Text) → is_phrase row.LINPUT t ≡ true → Prompted (drop 1 t) × ((is_phrase row.ALPHA_RECEIVER (rest_at t) ≡ true) × Unit {0})
linput_stands t ok = maybe_then quoted row.PROMPT (drop 1 t) (λ u. (is_phrase row.ALPHA_RECEIVER u ≡ true) × Unit {0}) (stands_of row.LINPUT linput_items t linput_row ok).0.1

pub linput_prompt : (t : Text) → is_phrase row.LINPUT t ≡ true → maybe_phrase quoted row.PROMPT (drop 1 t) ≡ true
linput_prompt t ok = (linput_stands t ok).0

pub linput_receiver : (t : Text) → is_phrase row.LINPUT t ≡ true → is_phrase row.ALPHA_RECEIVER (rest_at t) ≡ true
linput_receiver t ok = (linput_stands t ok).1.0

linput_tree : (t : Text) → is_phrase row.LINPUT t ≡ true → tree_at row.LINPUT t ≡ Put (Coded word.LINPUT) (also (maybe_tree quoted row.PROMPT (drop 1 t)) (In 2 (tree_at row.ALPHA_RECEIVER (rest_at t)) Done))
linput_tree t ok =
    (stands_of row.LINPUT linput_items t linput_row ok).1
    ∙ ap (λ (a : Trees). Put (Coded word.LINPUT) a) (maybe_put quoted row.PROMPT (drop 1 t) (λ u. In 2 (tree_at row.ALPHA_RECEIVER u) Done))

pub linput_shows : (t : Text) → is_phrase row.LINPUT t ≡ true → prompt_of (tree_at row.LINPUT t) ≡ prompt_there (maybe_tree quoted row.PROMPT (drop 1 t))
linput_shows t ok = ap prompt_of (linput_tree t ok) ∙ prompt_is word.LINPUT (drop 1 t) (In 2 (tree_at row.ALPHA_RECEIVER (rest_at t)) Done)

pub linput_to : (t : Text) → is_phrase row.LINPUT t ≡ true → receiver_of (after_prompt (tree_at row.LINPUT t)) ≡ tree_at row.ALPHA_RECEIVER (rest_at t)
linput_to t ok = ap (λ (a : Trees). receiver_of (after_prompt a)) (linput_tree t ok) ∙ ap receiver_of (after_is word.LINPUT (drop 1 t) (In 2 (tree_at row.ALPHA_RECEIVER (rest_at t)) Done))
