-- `$OPEN` by its row: the line that may be named, and the devices.
use Rattle.std.proofs.Common.{◌≡◌, Bool, true, false, if◌then◌else◌, List, [], ◌∷◌, drop, get_or, Some, None, refl, ap, subst, ◌∙◌}
use Rattle.b2_base.specs.Byte as byte
use Rattle.b2_base.specs.declared.codes.TheConstants.{S13_SEPARATOR, S15_LINE_NUMBER}
use Rattle.b2_atom.specs.Words.{Text}
use Rattle.b2_atom.specs.Tokens.Token.{Coded}
use Rattle.b2_atom.specs.Tree.{Trees}
use Rattle.b2_atom.specs.Tree.Trees.{Done, Put, In}
use Rattle.b2_atom.specs.Grammar.{row_items, starts}
use Rattle.b2_atom.specs.declared.words.Origin.TheVariants.{Atoms}
use Rattle.b2_atom.specs.declared.words.TheConstants as word
use Rattle.b2_atom.specs.declared.rows.TheConstants as row
use Rattle.b2_atom.specs.declared.forms.Start.TheVariants as start
use Rattle.b2_atom.specs.declared.forms.Leaf.TheVariants as leaf
use Rattle.b2_atom.specs.declared.forms.Item.{Item}
use Rattle.b2_atom.specs.declared.forms.Item.TheVariants.{Word, Sign, Typed, Part, Maybe}
use Rattle.b2_rows.specs.Leaves.{is_leaf}
use Rattle.b2_rows.specs.Rows.{is_phrase, tree_at, after_phrase, When}
use Rattle.b2_rows.specs.Values.{line_of}
use Rattle.b2_rows.proofs.RowsRead.{stands_of}
use Rattle.b2_stmt_disk.specs.devices.Lists.{devices_in}
use Rattle.b2_stmt_disk.specs.devices.Taking.{devices_to_take, line_if_busy}

abbrev open_items : List Item
open_items = Word word.DOLLAR_OPEN ∷ Maybe start.Line row.LINE_AND_COMMA ∷ Part row.DEVICES ∷ []

open_row : row_items row.OPEN ≡ open_items
unfolding row_items
open_row = refl

abbrev line_items : List Item
line_items = Typed leaf.LineNumber S15_LINE_NUMBER ∷ Sign byte.comma S13_SEPARATOR ∷ []

line_row : row_items row.LINE_AND_COMMA ≡ line_items
unfolding row_items
line_row = refl

-- one way or the other
taken : (b : Bool) (x y : Type 0) → b ≡ true → When b x y → x
taken true x y is h = h
taken false x y is h = cc

other : (b : Bool) (x y : Type 0) → b ≡ false → When b x y → y
other true x y is h = cc
other false x y is h = h

abbrev Named : Text → Type 0
Named t = starts Atoms start.Line (drop 1 t) ≡ true

abbrev Alone : Text → Type 0
Alone t = starts Atoms start.Line (drop 1 t) ≡ false

-- where a line is named
line_part : (t : Text) → is_phrase row.OPEN t ≡ true → Named t → is_phrase row.LINE_AND_COMMA (drop 1 t) ≡ true
line_part t ok is = (taken (starts Atoms start.Line (drop 1 t)) _ _ is (stands_of row.OPEN open_items t open_row ok).0.1).0

pub line_here : (t : Text) → is_phrase row.OPEN t ≡ true → starts Atoms start.Line (drop 1 t) ≡ true → is_leaf leaf.LineNumber (drop 1 t) ≡ true
line_here t ok is = (stands_of row.LINE_AND_COMMA line_items (drop 1 t) line_row (line_part t ok is)).0.0

past_line : (t : Text) → is_phrase row.OPEN t ≡ true → Named t → after_phrase row.LINE_AND_COMMA (drop 1 t) ≡ drop 1 (drop 3 (drop 1 t))
past_line t ok is = (stands_of row.LINE_AND_COMMA line_items (drop 1 t) line_row (line_part t ok is)).2

abbrev branches : Text → Bool → Trees
branches t b = if b then In 1 (tree_at row.LINE_AND_COMMA (drop 1 t)) (In 2 (tree_at row.DEVICES (after_phrase row.LINE_AND_COMMA (drop 1 t))) Done) else In 0 Done (In 2 (tree_at row.DEVICES (drop 1 t)) Done)

open_tree : (t : Text) (b : Bool) → is_phrase row.OPEN t ≡ true → starts Atoms start.Line (drop 1 t) ≡ b → tree_at row.OPEN t ≡ Put (Coded word.DOLLAR_OPEN) (branches t b)
open_tree t b ok is = (stands_of row.OPEN open_items t open_row ok).1 ∙ ap (λ (x : Bool). Put (Coded word.DOLLAR_OPEN) (branches t x)) is

pub line_is : (t : Text) → is_phrase row.OPEN t ≡ true → starts Atoms start.Line (drop 1 t) ≡ true → line_if_busy (tree_at row.OPEN t) ≡ Some (line_of (get_or (drop 1 t) 1 0) (get_or (drop 1 t) 2 0))
line_is t ok is =
    ap line_if_busy (open_tree t true ok is)
    ∙ ap (λ (a : Trees). line_if_busy (Put (Coded word.DOLLAR_OPEN) (In 1 a (In 2 (tree_at row.DEVICES (after_phrase row.LINE_AND_COMMA (drop 1 t))) Done)))) (stands_of row.LINE_AND_COMMA line_items (drop 1 t) line_row (line_part t ok is)).1

pub no_line : (t : Text) → is_phrase row.OPEN t ≡ true → starts Atoms start.Line (drop 1 t) ≡ false → line_if_busy (tree_at row.OPEN t) ≡ None
no_line t ok is = ap line_if_busy (open_tree t false ok is)

pub devices_after : (t : Text) → is_phrase row.OPEN t ≡ true → starts Atoms start.Line (drop 1 t) ≡ true → is_phrase row.DEVICES (drop 1 (drop 3 (drop 1 t))) ≡ true
devices_after t ok is =
    subst (λ (u : Text). is_phrase row.DEVICES u ≡ true) (past_line t ok is)
    (taken (starts Atoms start.Line (drop 1 t)) _ _ is (stands_of row.OPEN open_items t open_row ok).0.1).1.0

pub after_is : (t : Text) → is_phrase row.OPEN t ≡ true → starts Atoms start.Line (drop 1 t) ≡ true → devices_to_take (tree_at row.OPEN t) ≡ devices_in (tree_at row.DEVICES (drop 1 (drop 3 (drop 1 t))))
after_is t ok is = ap devices_to_take (open_tree t true ok is) ∙ ap (λ (u : Text). devices_in (tree_at row.DEVICES u)) (past_line t ok is)

-- and where none is
pub devices_alone : (t : Text) → is_phrase row.OPEN t ≡ true → starts Atoms start.Line (drop 1 t) ≡ false → is_phrase row.DEVICES (drop 1 t) ≡ true
devices_alone t ok is = (other (starts Atoms start.Line (drop 1 t)) _ _ is (stands_of row.OPEN open_items t open_row ok).0.1).0

pub alone_is : (t : Text) → is_phrase row.OPEN t ≡ true → starts Atoms start.Line (drop 1 t) ≡ false → devices_to_take (tree_at row.OPEN t) ≡ devices_in (tree_at row.DEVICES (drop 1 t))
alone_is t ok is = ap devices_to_take (open_tree t false ok is)
