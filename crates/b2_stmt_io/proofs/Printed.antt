-- PRINT by its rows: where its items stand, what they show, and which code comes first.
use Rattle.std.proofs.Common.{◌≡◌, ◌<◌, ℕ, Bool, true, false, if◌then◌else◌, ◌==◌, ◌||◌, List, [], ◌∷◌, ◌++◌, append_assoc, length, drop, refl, sym, ap, subst, ◌∙◌, arith, Result, Ok, Err, Some, None}
use Rattle.std.specs.Prelude.{is_some}
use Rattle.std.specs.declared.option.Option.{Option}
use Rattle.b2_base.specs.Byte as byte
use Rattle.b2_base.specs.Lexical.{first}
use Rattle.b2_base.specs.Refusals.{IsRefused}
use Rattle.b2_base.specs.declared.codes.Fault.{Fault}
use Rattle.b2_base.specs.declared.codes.Fault.TheVariants as fault
use Rattle.b2_base.specs.declared.codes.TheConstants.{S13_SEPARATOR}
use Rattle.b2_atom.specs.Words.{Text}
use Rattle.b2_atom.specs.Tree.{Trees, also}
use Rattle.b2_atom.specs.Tree.Trees.{Done, Put, In}
use Rattle.b2_atom.specs.Tokens.Token.{Coded}
use Rattle.b2_atom.specs.Grammar.{row_items, starts}
use Rattle.b2_atom.specs.declared.words.Origin.TheVariants.{Atoms}
use Rattle.b2_atom.specs.declared.words.TheConstants as word
use Rattle.b2_atom.specs.declared.rows.TheConstants as row
use Rattle.b2_atom.specs.declared.forms.Start.{Start}
use Rattle.b2_atom.specs.declared.forms.Start.TheVariants as start
use Rattle.b2_atom.specs.declared.forms.Item.{Item}
use Rattle.b2_atom.specs.declared.forms.Item.TheVariants.{Word, Sign, Part, Maybe, Many}
use Rattle.b2_rows.specs.Rows.{is_phrase, tree_at, after_phrase, is_list, list_at, Ends}
use Rattle.b2_rows.specs.Optional.{maybe_phrase, maybe_tree, after_maybe}
use Rattle.b2_rows.proofs.Choices.{either_first, either_second}
use Rattle.b2_rows.proofs.Optional.{begun_part, begun_tree, begun_rest, left_out_tree, left_out_rest, maybe_no_longer}
use Rattle.b2_rows.proofs.Lists.{goes, ended}
use Rattle.b2_expr.specs.Answers.{◌>>=◌}
use Rattle.b2_rows.proofs.RowsRead.{stands_of}
use Rattle.b2_print.proofs.ColumnLemmas.{items-go_on}
use Rattle.b2_print.specs.declared.layout.Item.{Item as Shown}
use Rattle.b2_stmt_io.proofs.LeftOut.{maybe_then}
use Rattle.b2_print.specs.Layout.{item_column, item_placed, items_column, layout}
use Rattle.b2_stmt_io.specs.Printing.{Page, further_in, item_at, item_in, item_of, shown_items, items_of, laid_after, newline_where, separator_in, zone_where}
use Rattle.b2_rows.proofs.ListEnds.{also_done}

abbrev print_items : List Item
print_items = Word word.PRINT ∷ Maybe start.PrintItem row.PRINT_ITEM ∷ Many (start.Two byte.comma byte.semicolon) row.FURTHER_ITEM ∷ []

print_row : row_items row.PRINT ≡ print_items
unfolding row_items
print_row = refl

abbrev pub separators : Start
separators = start.Two byte.comma byte.semicolon

-- what stands after an item or none, and the further items at a text
abbrev pub after_item : Text → Text
after_item t = after_maybe start.PrintItem row.PRINT_ITEM t

abbrev pub further_at : Text → Trees
further_at t = list_at separators row.FURTHER_ITEM t

-- the item that a text begins with, or none
abbrev pub item_there : Page → Text → Result (Option Shown) ℕ
item_there s t = item_at s (maybe_tree start.PrintItem row.PRINT_ITEM t)

pub one_part : (t : Text) → maybe_phrase start.PrintItem row.PRINT_ITEM t ≡ true → starts Atoms start.PrintItem t ≡ true → is_phrase row.PRINT_ITEM t ≡ true
one_part t ok is = begun_part start.PrintItem row.PRINT_ITEM t ok is

one_there : (s : Page) (t : Text) → starts Atoms start.PrintItem t ≡ true → item_there s t ≡ (item_of s (tree_at row.PRINT_ITEM t) >>= (λ it. Ok (Some it)))
one_there s t is = ap (item_at s) (begun_tree start.PrintItem row.PRINT_ITEM t is)

none_there : (s : Page) (t : Text) → starts Atoms start.PrintItem t ≡ false → item_there s t ≡ Ok None
none_there s t is = ap (item_at s) (left_out_tree start.PrintItem row.PRINT_ITEM t is)

pub one_rest : (t : Text) → starts Atoms start.PrintItem t ≡ true → after_item t ≡ after_phrase row.PRINT_ITEM t
one_rest t is = begun_rest start.PrintItem row.PRINT_ITEM t is

pub none_rest : (t : Text) → starts Atoms start.PrintItem t ≡ false → after_item t ≡ t
none_rest t is = left_out_rest start.PrintItem row.PRINT_ITEM t is

-- one item is a list of one
append_nil : (xs : List ℕ) → xs ++ [] ≡ xs
append_nil [] = refl
append_nil (x ∷ xs) = ap (λ (l : List ℕ). x ∷ l) (append_nil xs)

pub one_laid : (width column : ℕ) (old new : List ℕ) (it : Shown) → new ≡ old ++ item_placed width column it → new ≡ old ++ layout width column (it ∷ [])
one_laid width column old new it is = is ∙ ap (λ (l : List ℕ). old ++ l) (sym (append_nil (item_placed width column it)))

pub none_laid : (old : List ℕ) → old ≡ old ++ []
none_laid old = sym (append_nil old)

one_text : (width : ℕ) (old new : List ℕ) (column : ℕ) (it : Result Shown ℕ) → (it >>= (λ x. Ok (old ++ item_placed width column x))) ≡ Ok new
    → ((it >>= (λ x. Ok (Some x))) >>= (λ o. Ok (old ++ layout width column (items_of o)))) ≡ Ok new
one_text width old new column (Ok x) is = ap (λ (l : List ℕ). Ok (old ++ l)) (append_nil (item_placed width column x)) ∙ is
one_text width old new column (Err code) is = is

one_column : (width column after : ℕ) (it : Result Shown ℕ) → (it >>= (λ x. Ok (item_column width column x))) ≡ Ok after
    → ((it >>= (λ x. Ok (Some x))) >>= (λ o. Ok (items_column width column (items_of o)))) ≡ Ok after
one_column width column after (Ok x) is = is
one_column width column after (Err code) is = is

one_is : (width column after : ℕ) (it : Result Shown ℕ) → (it >>= (λ x. Ok (item_column width column x))) ≡ Ok after → ((it >>= (λ x. Ok (Some x))) >>= (λ o. Ok (is_some o))) ≡ Ok true
one_is width column after (Ok x) is = refl
one_is width column after (Err code) is = cc

one_code : (code : ℕ) (it : Result Shown ℕ) → it ≡ Err code → (it >>= (λ x. Ok (Some x))) ≡ Err code
one_code code (Ok x) is = cc
one_code code (Err c) is = cc

pub one_shown : (width : ℕ) (s : Page) (t : Text) (old new : List ℕ) (column after : ℕ) → starts Atoms start.PrintItem t ≡ true
    → (item_of s (tree_at row.PRINT_ITEM t) >>= (λ x. Ok (old ++ item_placed width column x))) ≡ Ok new
    → (item_there s t >>= (λ o. Ok (old ++ layout width column (items_of o)))) ≡ Ok new
one_shown width s t old new column after is text = ap (λ (r : Result (Option Shown) ℕ). r >>= (λ o. Ok (old ++ layout width column (items_of o)))) (one_there s t is) ∙ one_text width old new column (item_of s (tree_at row.PRINT_ITEM t)) text

pub one_past : (width : ℕ) (s : Page) (t : Text) (column after : ℕ) → starts Atoms start.PrintItem t ≡ true
    → (item_of s (tree_at row.PRINT_ITEM t) >>= (λ x. Ok (item_column width column x))) ≡ Ok after
    → (item_there s t >>= (λ o. Ok (items_column width column (items_of o)))) ≡ Ok after
one_past width s t column after is at = ap (λ (r : Result (Option Shown) ℕ). r >>= (λ o. Ok (items_column width column (items_of o)))) (one_there s t is) ∙ one_column width column after (item_of s (tree_at row.PRINT_ITEM t)) at

pub one_some : (width : ℕ) (s : Page) (t : Text) (column after : ℕ) → starts Atoms start.PrintItem t ≡ true
    → (item_of s (tree_at row.PRINT_ITEM t) >>= (λ x. Ok (item_column width column x))) ≡ Ok after
    → (item_there s t >>= (λ o. Ok (is_some o))) ≡ Ok true
one_some width s t column after is at = ap (λ (r : Result (Option Shown) ℕ). r >>= (λ o. Ok (is_some o))) (one_there s t is) ∙ one_is width column after (item_of s (tree_at row.PRINT_ITEM t)) at

one_refused : (s : Page) (t : Text) (code : ℕ) → starts Atoms start.PrintItem t ≡ true → item_of s (tree_at row.PRINT_ITEM t) ≡ Err code → item_there s t ≡ Err code
one_refused s t code is unassigned = one_there s t is ∙ one_code code (item_of s (tree_at row.PRINT_ITEM t)) unassigned

pub one_fault : (s : Page) (t : Text) (f : Fault) → starts Atoms start.PrintItem t ≡ true → IsRefused (item_of s (tree_at row.PRINT_ITEM t)) f → IsRefused (item_there s t) f
one_fault s t (fault.Code code) is refused = one_refused s t code is refused
one_fault s t fault.NoMemory is refused = tt

pub none_shown : (width : ℕ) (s : Page) (t : Text) (old : List ℕ) (column : ℕ) → starts Atoms start.PrintItem t ≡ false
    → (item_there s t >>= (λ o. Ok (old ++ layout width column (items_of o)))) ≡ Ok old
none_shown width s t old column is = ap (λ (r : Result (Option Shown) ℕ). r >>= (λ o. Ok (old ++ layout width column (items_of o)))) (none_there s t is) ∙ ap Ok (append_nil old)

pub none_past : (width : ℕ) (s : Page) (t : Text) (column : ℕ) → starts Atoms start.PrintItem t ≡ false → (item_there s t >>= (λ o. Ok (items_column width column (items_of o)))) ≡ Ok column
none_past width s t column is = ap (λ (r : Result (Option Shown) ℕ). r >>= (λ o. Ok (items_column width column (items_of o)))) (none_there s t is)

pub none_some : (s : Page) (t : Text) → starts Atoms start.PrintItem t ≡ false → (item_there s t >>= (λ o. Ok (is_some o))) ≡ Ok false
none_some s t is = ap (λ (r : Result (Option Shown) ℕ). r >>= (λ o. Ok (is_some o))) (none_there s t is)

-- the first item and the further ones, where PRINT is read
print_stands : (t : Text) → is_phrase row.PRINT t ≡ true → (maybe_phrase start.PrintItem row.PRINT_ITEM (drop 1 t) ≡ true) × ((is_list separators row.FURTHER_ITEM (after_item (drop 1 t)) ≡ true) × Unit {0})
print_stands t ok =
    maybe_then start.PrintItem row.PRINT_ITEM (drop 1 t) (λ u. (is_list separators row.FURTHER_ITEM u ≡ true) × Unit {0})
    (stands_of row.PRINT print_items t print_row ok).0.1

pub print_item : (t : Text) → is_phrase row.PRINT t ≡ true → maybe_phrase start.PrintItem row.PRINT_ITEM (drop 1 t) ≡ true
print_item t ok = (print_stands t ok).0

pub print_list : (t : Text) → is_phrase row.PRINT t ≡ true → is_list separators row.FURTHER_ITEM (after_item (drop 1 t)) ≡ true
print_list t ok = (print_stands t ok).1.0

-- what is shown before an item, an item or none, and what follows
abbrev then_further : Page → Bool → List Shown → Option Shown → Trees → Result (List Shown) ℕ
then_further s line before x more = further_in s line more >>= (λ its. Ok (before ++ (items_of x ++ its)))

shows_by : (s : Page) (c : ℕ) (b : Bool) (it : Trees) (f : Text → Trees) (u t : Text)
    → shown_items s (Put (Coded c) (if b then In 1 it (also (f u) Done) else In 0 Done (also (f t) Done))) ≡ (item_at s (if b then In 1 it Done else In 0 Done Done) >>= (λ x. then_further s true [] x (f (if b then u else t))))
shows_by s c true it f u t = ap (λ (l : Trees). item_in s 1 it >>= (λ x. then_further s true [] x l)) (also_done (f u))
shows_by s c false it f u t = ap (λ (l : Trees). then_further s true [] None l) (also_done (f t))

print_is : (s : Page) (t : Text) → is_phrase row.PRINT t ≡ true
    → shown_items s (tree_at row.PRINT t) ≡ (item_there s (drop 1 t) >>= (λ x. then_further s true [] x (further_at (after_item (drop 1 t)))))
unfolding maybe_tree after_maybe
print_is s t ok =
    ap (shown_items s) (stands_of row.PRINT print_items t print_row ok).1
    ∙ shows_by s word.PRINT (starts Atoms start.PrintItem (drop 1 t)) (tree_at row.PRINT_ITEM (drop 1 t)) further_at (after_phrase row.PRINT_ITEM (drop 1 t)) (drop 1 t)

-- separators
comma_stands : (t : Text) → is_phrase row.COMMA t ≡ true → after_phrase row.COMMA t ≡ drop 1 t
unfolding row_items
comma_stands t ok = (stands_of row.COMMA (Sign byte.comma S13_SEPARATOR ∷ []) t refl ok).2

semicolon_stands : (t : Text) → is_phrase row.SEMICOLON t ≡ true → after_phrase row.SEMICOLON t ≡ drop 1 t
unfolding row_items
semicolon_stands t ok = (stands_of row.SEMICOLON (Sign byte.semicolon S13_SEPARATOR ∷ []) t refl ok).2

record Separated (t : Text) : Type 0 where
  pub zone : separator_in (tree_at row.SEPARATOR t) ≡ zone_where (first t == byte.comma)
  pub rest : after_phrase row.SEPARATOR t ≡ drop 1 t

separated_by : (t : Text) (b : Bool) → is_phrase row.SEPARATOR t ≡ true → (first t == byte.comma) ≡ b → Separated t
unfolding row_items starts
separated_by t true ok is =
    let r = either_first row.SEPARATOR row.COMMA row.SEMICOLON (start.Code byte.comma) t refl ok is in
    record { zone = ap separator_in r.tree ∙ sym (ap zone_where is); rest = r.rest ∙ comma_stands t r.part }
separated_by t false ok is =
    let r = either_second row.SEPARATOR row.COMMA row.SEMICOLON (start.Code byte.comma) t refl ok is in
    record { zone = ap separator_in r.tree ∙ sym (ap zone_where is); rest = r.rest ∙ semicolon_stands t r.part }

-- a further item
abbrev further_items : List Item
further_items = Part row.SEPARATOR ∷ Maybe start.PrintItem row.PRINT_ITEM ∷ []

further_row : row_items row.FURTHER_ITEM ≡ further_items
unfolding row_items
further_row = refl

record Follows (t : Text) : Type 0 where
  pub item : maybe_phrase start.PrintItem row.PRINT_ITEM (drop 1 t) ≡ true
  pub list : is_list separators row.FURTHER_ITEM (after_item (drop 1 t)) ≡ true
  pub zone : (s : Page) (line : Bool)
      → further_in s line (further_at t) ≡ (item_there s (drop 1 t) >>= (λ x. then_further s (is_some x) (zone_where (first t == byte.comma)) x (further_at (after_item (drop 1 t)))))

next_by : (s : Page) (line b : Bool) (separator it more : Trees)
    → further_in s line (In 1 (In 2 separator (if b then In 1 it Done else In 0 Done Done)) more) ≡ (item_at s (if b then In 1 it Done else In 0 Done Done) >>= (λ x. then_further s (is_some x) (separator_in separator) x more))
next_by s line true separator it more = refl
next_by s line false separator it more = refl

follows_at : (t u : Text) (separator : Trees) → u ≡ drop 1 t → separator_in separator ≡ zone_where (first t == byte.comma) → maybe_phrase start.PrintItem row.PRINT_ITEM u ≡ true
    → is_list separators row.FURTHER_ITEM (after_item u) ≡ true → further_at t ≡ In 1 (In 2 separator (maybe_tree start.PrintItem row.PRINT_ITEM u)) (further_at (after_item u)) → Follows t
unfolding maybe_tree
follows_at t u separator same zone item list tree = record {
  item = subst (λ (x : Text). maybe_phrase start.PrintItem row.PRINT_ITEM x ≡ true) same item;
  list = subst (λ (x : Text). is_list separators row.FURTHER_ITEM (after_item x) ≡ true) same list;
  zone = λ s line.
      ap (further_in s line) tree ∙ next_by s line (starts Atoms start.PrintItem u) separator (tree_at row.PRINT_ITEM u) (further_at (after_item u))
      ∙ ap (λ (z : List Shown). item_there s u >>= (λ x. then_further s (is_some x) z x (further_at (after_item u)))) zone
      ∙ ap (λ (w : Text). item_there s w >>= (λ x. then_further s (is_some x) (zone_where (first t == byte.comma)) x (further_at (after_item w)))) same;
}

follows : (t : Text) → is_list separators row.FURTHER_ITEM t ≡ true → starts Atoms separators t ≡ true → Follows t
unfolding maybe_tree after_maybe
follows t ok is =
    let g = goes separators row.FURTHER_ITEM t ok is in
    let r = stands_of row.FURTHER_ITEM further_items t further_row g.part in
    let sep = separated_by t (first t == byte.comma) r.0.0 refl in
    let item = maybe_then start.PrintItem row.PRINT_ITEM (after_phrase row.SEPARATOR t) (λ u. Unit {0}) r.0.1 in
    follows_at t (after_phrase row.SEPARATOR t) (tree_at row.SEPARATOR t) sep.rest sep.zone item.0 (subst (λ (x : Text). is_list separators row.FURTHER_ITEM x ≡ true) r.2 g.list)
    (g.tree ∙ ap (λ (a : Trees). In 1 a (further_at (after_phrase row.FURTHER_ITEM t))) r.1 ∙ ap (λ (x : Text). In 1 (In 2 (tree_at row.SEPARATOR t) (maybe_tree start.PrintItem row.PRINT_ITEM (after_phrase row.SEPARATOR t))) (further_at x)) r.2)

pub next_item : (t : Text) → is_list separators row.FURTHER_ITEM t ≡ true → starts Atoms separators t ≡ true → maybe_phrase start.PrintItem row.PRINT_ITEM (drop 1 t) ≡ true
next_item t ok is = Follows.item (follows t ok is)

pub next_list : (t : Text) → is_list separators row.FURTHER_ITEM t ≡ true → starts Atoms separators t ≡ true → is_list separators row.FURTHER_ITEM (after_item (drop 1 t)) ≡ true
next_list t ok is = Follows.list (follows t ok is)

separator_shorter : (t : Text) → (first t == byte.comma || first t == byte.semicolon) ≡ true → length (drop 1 t) < length t
separator_shorter [] is = cc
separator_shorter (b ∷ t) is = omega arith

pub next_shorter : (t : Text) → starts Atoms separators t ≡ true → length (after_item (drop 1 t)) < length t
unfolding starts
next_shorter t is = let e = separator_shorter t is in let f = maybe_no_longer start.PrintItem row.PRINT_ITEM (drop 1 t) in omega (arith, e, f)

-- items laid out after a text
after_first : (width : ℕ) (old : List ℕ) (column : ℕ) (xs : List Shown) (r : Result (List Shown) ℕ)
    → laid_after width old column (r >>= (λ its. Ok (xs ++ its))) ≡ laid_after width (old ++ layout width column xs) (items_column width column xs) r
after_first width old column xs (Err code) = refl
after_first width old column xs (Ok its) =
    let on = items-go_on width column xs its in
    let text : old ++ layout width column (xs ++ its) ≡ (old ++ layout width column xs) ++ layout width (items_column width column xs) its =
    ap (λ (l : List ℕ). old ++ l) on.0 ∙ sym (append_assoc old (layout width column xs) (layout width (items_column width column xs) its)) in
    ap (λ (l : List ℕ). Ok (l, items_column width column (xs ++ its))) text ∙ ap (λ (n : ℕ). Ok ((old ++ layout width column xs) ++ layout width (items_column width column xs) its, n)) on.1

joined_twice : (r : Result (List Shown) ℕ) (xs ys : List Shown) → (r >>= (λ its. Ok (xs ++ (ys ++ its)))) ≡ ((r >>= (λ its. Ok (ys ++ its))) >>= (λ its. Ok (xs ++ its)))
joined_twice (Ok its) xs ys = refl
joined_twice (Err code) xs ys = refl

not_laid : (width : ℕ) (old : List ℕ) (column code : ℕ) (r : Result (List Shown) ℕ) → laid_after width old column r ≡ Err code → r ≡ Err code
not_laid width old column code (Ok its) is = cc
not_laid width old column code (Err c) is = cc

ok_same : {A : Type 0} (x y : A) → ◌≡◌ {A = Result A ℕ} (Ok x) (Ok y) → x ≡ y
ok_same x y h = cc

-- an item or none after what was shown, and what follows it
shown_then : (width : ℕ) (s : Page) (before : List Shown) (more : Trees) (old new : List ℕ) (column after : ℕ) (is : Bool) (r : Result (Option Shown) ℕ)
    → (r >>= (λ o. Ok ((old ++ layout width column before) ++ layout width (items_column width column before) (items_of o)))) ≡ Ok new
    → (r >>= (λ o. Ok (items_column width (items_column width column before) (items_of o)))) ≡ Ok after
    → (r >>= (λ o. Ok (is_some o))) ≡ Ok is
    → laid_after width old column (r >>= (λ o. then_further s (is_some o) before o more)) ≡ laid_after width new after (further_in s is more)
shown_then width s before more old new column after is (Err code) text at some = cc
shown_then width s before more old new column after is (Ok o) text at some =
    let rest : Result (List Shown) ℕ = further_in s (is_some o) more in
    ap (laid_after width old column) (joined_twice rest before (items_of o))
    ∙ after_first width old column before (rest >>= (λ its. Ok (items_of o ++ its)))
    ∙ after_first width (old ++ layout width column before) (items_column width column before) (items_of o) rest
    ∙ ap (λ (l : List ℕ). laid_after width l (items_column width (items_column width column before) (items_of o)) rest) (ok_same _ _ text)
    ∙ ap (λ (n : ℕ). laid_after width new n rest) (ok_same _ _ at)
    ∙ ap (λ (b : Bool). laid_after width new after (further_in s b more)) (ok_same _ _ some)

first_then : (width : ℕ) (s : Page) (more : Trees) (old new : List ℕ) (column after : ℕ) (r : Result (Option Shown) ℕ)
    → (r >>= (λ o. Ok (old ++ layout width column (items_of o)))) ≡ Ok new
    → (r >>= (λ o. Ok (items_column width column (items_of o)))) ≡ Ok after
    → laid_after width old column (r >>= (λ o. then_further s true [] o more)) ≡ laid_after width new after (further_in s true more)
first_then width s more old new column after (Err code) text at = cc
first_then width s more old new column after (Ok o) text at =
    after_first width old column (items_of o) (further_in s true more)
    ∙ ap (λ (l : List ℕ). laid_after width l (items_column width column (items_of o)) (further_in s true more)) (ok_same _ _ text)
    ∙ ap (λ (n : ℕ). laid_after width new n (further_in s true more)) (ok_same _ _ at)

pub first_shown : (width : ℕ) (s : Page) (t : Text) (old new : List ℕ) (column after : ℕ) → is_phrase row.PRINT t ≡ true
    → (item_there s (drop 1 t) >>= (λ o. Ok (old ++ layout width column (items_of o)))) ≡ Ok new
    → (item_there s (drop 1 t) >>= (λ o. Ok (items_column width column (items_of o)))) ≡ Ok after
    → laid_after width new after (further_in s true (further_at (after_item (drop 1 t)))) ≡ laid_after width old column (shown_items s (tree_at row.PRINT t))
first_shown width s t old new column after ok text at =
    sym (ap (laid_after width old column) (print_is s t ok) ∙ first_then width s (further_at (after_item (drop 1 t))) old new column after (item_there s (drop 1 t)) text at)

refused_then : (code : ℕ) (r : Result (Option Shown) ℕ) (f : Option Shown → Result (List Shown) ℕ) → r ≡ Err code → (r >>= f) ≡ Err code
refused_then code (Ok o) f is = cc
refused_then code (Err c) f is = cc

first_refused : (s : Page) (t : Text) (code : ℕ) → is_phrase row.PRINT t ≡ true → item_there s (drop 1 t) ≡ Err code → shown_items s (tree_at row.PRINT t) ≡ Err code
first_refused s t code ok is = print_is s t ok ∙ refused_then code (item_there s (drop 1 t)) (λ x. then_further s true [] x (further_at (after_item (drop 1 t)))) is

pub first_fault : (s : Page) (t : Text) (f : Fault) → is_phrase row.PRINT t ≡ true → IsRefused (item_there s (drop 1 t)) f → IsRefused (shown_items s (tree_at row.PRINT t)) f
first_fault s t (fault.Code code) ok refused = first_refused s t code ok refused
first_fault s t fault.NoMemory ok refused = tt

next_then : (width : ℕ) (s : Page) (line : Bool) (t : Text) (old new : List ℕ) (column after : ℕ) (is : Bool) → is_list separators row.FURTHER_ITEM t ≡ true → starts Atoms separators t ≡ true
    → (item_there s (drop 1 t) >>= (λ o. Ok ((old ++ layout width column (zone_where (first t == byte.comma))) ++ layout width (items_column width column (zone_where (first t == byte.comma))) (items_of o)))) ≡ Ok new
    → (item_there s (drop 1 t) >>= (λ o. Ok (items_column width (items_column width column (zone_where (first t == byte.comma))) (items_of o)))) ≡ Ok after
    → (item_there s (drop 1 t) >>= (λ o. Ok (is_some o))) ≡ Ok is
    → laid_after width new after (further_in s is (further_at (after_item (drop 1 t)))) ≡ laid_after width old column (further_in s line (further_at t))
next_then width s line t old new column after is ok sep text at some =
    sym (ap (laid_after width old column) (Follows.zone (follows t ok sep) s line)
    ∙ shown_then width s (zone_where (first t == byte.comma)) (further_at (after_item (drop 1 t))) old new column after is (item_there s (drop 1 t)) text at some)

pub next_shown : (width : ℕ) (s : Page) (line : Bool) (t : Text) (old between new : List ℕ) (column middle after : ℕ) (is : Bool) → is_list separators row.FURTHER_ITEM t ≡ true → starts Atoms separators t ≡ true
    → between ≡ old ++ layout width column (zone_where (first t == byte.comma)) → middle ≡ items_column width column (zone_where (first t == byte.comma))
    → (item_there s (drop 1 t) >>= (λ o. Ok (between ++ layout width middle (items_of o)))) ≡ Ok new
    → (item_there s (drop 1 t) >>= (λ o. Ok (items_column width middle (items_of o)))) ≡ Ok after
    → (item_there s (drop 1 t) >>= (λ o. Ok (is_some o))) ≡ Ok is
    → laid_after width new after (further_in s is (further_at (after_item (drop 1 t)))) ≡ laid_after width old column (further_in s line (further_at t))
next_shown width s line t old between new column middle after is ok sep zone_text zone_at text at some =
    next_then width s line t old new column after is ok sep
    (subst (λ (n : ℕ). (item_there s (drop 1 t) >>= (λ o. Ok ((old ++ layout width column (zone_where (first t == byte.comma))) ++ layout width n (items_of o)))) ≡ Ok new) zone_at
    (subst (λ (l : List ℕ). (item_there s (drop 1 t) >>= (λ o. Ok (l ++ layout width middle (items_of o)))) ≡ Ok new) zone_text text))
    (subst (λ (n : ℕ). (item_there s (drop 1 t) >>= (λ o. Ok (items_column width n (items_of o)))) ≡ Ok after) zone_at at)
    some

next_refused : (width : ℕ) (s : Page) (line : Bool) (t : Text) (code : ℕ) (old : List ℕ) (column before : ℕ) (whole : Result (List Shown) ℕ) (first_text : List ℕ) → is_list separators row.FURTHER_ITEM t ≡ true → starts Atoms separators t ≡ true
    → item_there s (drop 1 t) ≡ Err code → laid_after width old column (further_in s line (further_at t)) ≡ laid_after width first_text before whole → whole ≡ Err code
next_refused width s line t code old column before whole first_text ok sep found same =
    not_laid width first_text before code whole (sym same ∙ ap (laid_after width old column) (Follows.zone (follows t ok sep) s line
    ∙ refused_then code (item_there s (drop 1 t)) (λ x. then_further s (is_some x) (zone_where (first t == byte.comma)) x (further_at (after_item (drop 1 t)))) found))

pub next_fault : (width : ℕ) (s : Page) (line : Bool) (t : Text) (f : Fault) (old : List ℕ) (column before : ℕ) (whole : Result (List Shown) ℕ) (first_text : List ℕ) → is_list separators row.FURTHER_ITEM t ≡ true → starts Atoms separators t ≡ true
    → IsRefused (item_there s (drop 1 t)) f → laid_after width old column (further_in s line (further_at t)) ≡ laid_after width first_text before whole → IsRefused whole f
next_fault width s line t (fault.Code code) old column before whole first_text ok sep refused same = next_refused width s line t code old column before whole first_text ok sep refused same
next_fault width s line t fault.NoMemory old column before whole first_text ok sep refused same = tt

pub all_shown : (width : ℕ) (s : Page) (line : Bool) (t : Text) (old new : List ℕ) (column after : ℕ) → starts Atoms separators t ≡ false
    → new ≡ old ++ layout width column (newline_where line) → after ≡ items_column width column (newline_where line)
    → laid_after width old column (further_in s line (further_at t)) ≡ Ok (new, after)
all_shown width s line t old new column after is text at =
    ap (λ (a : Trees). laid_after width old column (further_in s line a)) (Ends.tree (ended separators row.FURTHER_ITEM t is))
    ∙ ap (λ (l : List ℕ). Ok (l, items_column width column (newline_where line))) (sym text) ∙ ap (λ (n : ℕ). Ok (new, n)) (sym at)
