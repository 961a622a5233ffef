-- DEFFN' by its row: its number, and its literal.
use Rattle.std.proofs.Common.{◌≡◌, ℕ, ◌==◌, ◌||◌, nat_lt, nat_le, Bool, true, false, if◌then◌else◌, List, [], ◌∷◌, drop, Some, None, refl, ap, subst, ◌∙◌}
use Rattle.b2_base.specs.Byte as byte
use Rattle.b2_base.specs.Lexical.{capped_value, digits_width, first}
use Rattle.b2_base.specs.declared.codes.TheConstants.{S18_ALPHA, S24_SMALL_NUMBER}
use Rattle.b2_atom.specs.Words.{Text}
use Rattle.b2_atom.specs.Leaves.{leaf_width}
use Rattle.b2_atom.specs.Tokens.Token.{Plain}
use Rattle.b2_atom.specs.Tree.{Trees}
use Rattle.b2_atom.specs.Tree.Trees.{Done, Put, In}
use Rattle.b2_atom.specs.Grammar.{row_items, starts}
use Rattle.b2_atom.specs.declared.words.Origin.TheVariants.{Atoms}
use Rattle.b2_atom.specs.declared.words.TheConstants as word
use Rattle.b2_atom.specs.declared.rows.TheConstants as row
use Rattle.b2_atom.specs.declared.forms.Start.{Start}
use Rattle.b2_atom.specs.declared.forms.Start.TheVariants as start
use Rattle.b2_atom.specs.declared.forms.Leaf.TheVariants as leaf
use Rattle.b2_atom.specs.declared.forms.Item.{Item}
use Rattle.b2_atom.specs.declared.forms.Item.TheVariants.{Word, Typed, Maybe}
use Rattle.b2_rows.specs.Choices.{ReadAs, first_branch}
use Rattle.b2_rows.specs.Leaves.{is_leaf, leaf_bytes}
use Rattle.b2_rows.specs.Rows.{is_phrase, tree_at, after_phrase}
use Rattle.b2_rows.specs.Optional.{maybe_phrase, maybe_tree}
use Rattle.b2_rows.specs.Values.{literal_of}
use Rattle.b2_rows.proofs.Choices.{either_first, either_second}
use Rattle.b2_rows.proofs.Optional.{maybe_stands, begun_part, begun_tree, left_out_tree}
use Rattle.b2_rows.proofs.RowsRead.{stands_of}
use Rattle.b2_access.specs.KeyLiterals.{bytes_quoted, mark_bytes, tail_bytes}

-- a literal
abbrev literal_items : List Item
literal_items = Typed leaf.Literal S18_ALPHA ∷ []

literal_row : row_items row.LITERAL ≡ literal_items
unfolding row_items
literal_row = refl

pub literal_here : (t : Text) → is_phrase row.LITERAL t ≡ true → is_leaf leaf.Literal t ≡ true
literal_here t ok = (stands_of row.LITERAL literal_items t literal_row ok).0.0

pub literal_tree : (t : Text) → is_phrase row.LITERAL t ≡ true → tree_at row.LITERAL t ≡ Put (Plain leaf.Literal (leaf_bytes leaf.Literal t)) Done
literal_tree t ok = (stands_of row.LITERAL literal_items t literal_row ok).1

pub after_literal : (t : Text) → is_phrase row.LITERAL t ≡ true → after_phrase row.LITERAL t ≡ drop (leaf_width Atoms leaf.Literal t) t
after_literal t ok = (stands_of row.LITERAL literal_items t literal_row ok).2

-- DEFFN'
abbrev begun : Start
begun = start.Two byte.quote byte.opening

abbrev mark_items : List Item
mark_items = Word word.DEFFN_PRIME ∷ Typed leaf.Small S24_SMALL_NUMBER ∷ Maybe begun row.MARKED_TAIL ∷ []

mark_row : row_items row.DEFFN_MARKED ≡ mark_items
unfolding row_items
mark_row = refl

-- what stands after its number
small_is : (b : Bool) (n : ℕ) → nat_lt 0 (if b then n else 0) ≡ true → (if b then n else 0) ≡ n
small_is true n h = refl
small_is false n h = cc

number_width : (t : Text) → is_leaf leaf.Small t ≡ true → leaf_width Atoms leaf.Small t ≡ digits_width t
number_width t h = small_is (nat_le (capped_value 999 0 t) 255) (digits_width t) h

abbrev tail : Text → Text
tail t = drop (digits_width (drop 1 t)) (drop 1 t)

pub record Marked (t : Text) : Type 0 where
  pub part : maybe_phrase begun row.MARKED_TAIL (tail t) ≡ true
  pub bytes : mark_bytes (tree_at row.DEFFN_MARKED t) ≡ tail_bytes (maybe_tree begun row.MARKED_TAIL (tail t))

marked : (t : Text) → is_phrase row.DEFFN_MARKED t ≡ true → Marked t
unfolding maybe_tree
marked t ok =
    let r = stands_of row.DEFFN_MARKED mark_items t mark_row ok in
    let width = number_width (drop 1 t) r.0.1.0 in
    record {
      part = subst (λ (n : ℕ). maybe_phrase begun row.MARKED_TAIL (drop n (drop 1 t)) ≡ true) width (maybe_stands begun row.MARKED_TAIL (drop (leaf_width Atoms leaf.Small (drop 1 t)) (drop 1 t)) r.0.1.1);
      bytes = ap mark_bytes r.1 ∙ ap (λ (n : ℕ). tail_bytes (maybe_tree begun row.MARKED_TAIL (drop n (drop 1 t)))) width;
    }

-- the literal after it, or none
begins : (t : Text) (b : Bool) → (first t == byte.quote) ≡ b → starts Atoms (start.Code byte.quote) t ≡ b
unfolding starts
begins t b is = is

quote_begins : (c : ℕ) → (c == byte.quote) ≡ true → (c == byte.quote || c == byte.opening) ≡ true
quote_begins c is = ap (λ (b : Bool). b || c == byte.opening) is

begins_tail : (t : Text) → (first t == byte.quote) ≡ true → starts Atoms begun t ≡ true
unfolding starts
begins_tail t is = quote_begins (first t) is

tail_here : (t : Text) → maybe_phrase begun row.MARKED_TAIL t ≡ true → (first t == byte.quote) ≡ true → ReadAs row.MARKED_TAIL row.LITERAL first_branch t
unfolding row_items
tail_here t ok is = either_first row.MARKED_TAIL row.LITERAL row.PARAMETERS (start.Code byte.quote) t refl (begun_part begun row.MARKED_TAIL t ok (begins_tail t is)) (begins t true is)

pub mark_literal : (t : Text) → is_phrase row.DEFFN_MARKED t ≡ true → (first (tail t) == byte.quote) ≡ true → is_leaf leaf.Literal (tail t) ≡ true
mark_literal t ok is = literal_here (tail t) (ReadAs.part (tail_here (tail t) (Marked.part (marked t ok)) is))

pub mark_with : (t : Text) → is_phrase row.DEFFN_MARKED t ≡ true → (first (tail t) == byte.quote) ≡ true → mark_bytes (tree_at row.DEFFN_MARKED t) ≡ Some (literal_of (leaf_bytes leaf.Literal (tail t)))
mark_with t ok is =
    let m = marked t ok in
    let r = tail_here (tail t) m.part is in
    m.bytes ∙ ap tail_bytes (begun_tree begun row.MARKED_TAIL (tail t) (begins_tail (tail t) is))
    ∙ ap (λ (a : Trees). tail_bytes (In 1 a Done)) r.tree
    ∙ ap bytes_quoted (literal_tree (tail t) r.part)

no_literal : (t : Text) (b : Bool) → starts Atoms begun t ≡ b → maybe_phrase begun row.MARKED_TAIL t ≡ true → (first t == byte.quote) ≡ false → tail_bytes (maybe_tree begun row.MARKED_TAIL t) ≡ None
unfolding row_items
no_literal t true it ok is =
    ap tail_bytes (begun_tree begun row.MARKED_TAIL t it)
    ∙ ap (λ (a : Trees). tail_bytes (In 1 a Done)) (ReadAs.tree (either_second row.MARKED_TAIL row.LITERAL row.PARAMETERS (start.Code byte.quote) t refl (begun_part begun row.MARKED_TAIL t ok it) (begins t false is)))
no_literal t false it ok is = ap tail_bytes (left_out_tree begun row.MARKED_TAIL t it)

pub mark_without : (t : Text) → is_phrase row.DEFFN_MARKED t ≡ true → (first (tail t) == byte.quote) ≡ false → mark_bytes (tree_at row.DEFFN_MARKED t) ≡ None
mark_without t ok is = let m = marked t ok in m.bytes ∙ no_literal (tail t) (starts Atoms begun (tail t)) refl m.part is
