-- A row that is read stands item by item, and makes its tree.
use Rattle.std.proofs.Common.{◌≡◌, ◌≤◌, ℕ, Bool, true, false, if◌then◌else◌, ◌==◌, ◌&&◌, List, [], ◌∷◌, length, drop, refl, sym, ap, subst, ◌∙◌, Ok, Err, is_ok}
use Rattle.b2_base.specs.Lexical.{first}
use Rattle.b2_base.specs.Byte as byte
use Rattle.b2_atom.specs.Words.{Text, is_short}
use Rattle.b2_atom.specs.Tokens.Token.{Coded, Short}
use Rattle.b2_atom.specs.Tree.{Trees, Outcome, Parser, and_then, under, also}
use Rattle.b2_atom.specs.Tree.Trees.{Done, Put, In}
use Rattle.b2_atom.specs.Leaves.{refused}
use Rattle.b2_atom.specs.Grammar.{is_among, among, reader, item, many, items, level, absent, row_items, starts, symbol, program_word, ignored, short_word, optional_comma, end_of_line, read_leaf, statement_within}
use Rattle.b2_atom.specs.Lines.{left_after}
use Rattle.b2_atom.specs.declared.words.Origin.TheVariants.{Atoms}
use Rattle.b2_atom.specs.declared.forms.Start.{Start}
use Rattle.b2_atom.specs.declared.forms.Leaf.{Leaf}
use Rattle.b2_atom.specs.declared.forms.Item.{Item}
use Rattle.b2_atom.specs.declared.forms.Item.TheVariants.{Word, Sign, Among, ProgramWord, Ignored, ShortWord, Comma, LeftOut, End, Typed, Part, Maybe, Either, Many, Nest, Statement}
use Rattle.b2_atom.proofs.Booleans.{and_left, and_right, both}
use Rattle.b2_rows.specs.Leaves.{put_leaf, after_leaf}
use Rattle.b2_rows.specs.Rows.{reading_row, reading_list, tree_of, fits_unit, is_phrase, tree_at, after_phrase, is_list, list_at, after_list, When, Stands, tree_by, rest_by, RowStands}
use Rattle.b2_rows.specs.Laws.{EachRowStands}
use Rattle.b2_rows.proofs.Levels.{no_statement, in_parentheses, at_level, up_level, up_nest, list_up, short_drop, short_leaf, short_part, short_list, short_fits, short_of}
use Rattle.b2_rows.proofs.Items.{Holds, holds_preceded, holds_map, symbol_case, among_case, short_case, nothing_case, end_case, leaf_case, part_case, list_case}

-- what the items of a row say of a text, of a tree and of a rest
abbrev pub Row : List Item → Text → Trees → Text → Type 0
Row is t a rest = Stands is t × (a ≡ tree_by is t) × (rest ≡ rest_by is t)

when_true : (b : Bool) (x y : Type 0) → b ≡ true → x → When b x y
when_true true x y h k = k
when_true false x y h k = cc

when_false : (b : Bool) (x y : Type 0) → b ≡ false → y → When b x y
when_false false x y h k = k
when_false true x y h k = cc

-- a row in a row
part_at : (b n : ℕ) (t : Text) (q : Parser Text) (v : Trees → Text → Type 0) → length t ≤ 256
    → (is_phrase n t ≡ true → Holds (λ c r. v (In b (tree_at n t) c) r) (q (after_phrase n t))) → Holds v (and_then (under b (at_level 39 n t)) q)
unfolding is_phrase tree_at after_phrase reading_row
part_at b n t q v short h = part_case b (at_level 39 n t) (reading_row n t) q v (up_level 39 n t) (λ ok. h (both _ _ (short_fits t short) ok))

nest_at : (b n : ℕ) (t : Text) (q : Parser Text) (v : Trees → Text → Type 0) → length t ≤ 256
    → (is_phrase n t ≡ true → Holds (λ c r. v (In b (tree_at n t) c) r) (q (after_phrase n t))) → Holds v (and_then (under b (in_parentheses n t)) q)
unfolding is_phrase tree_at after_phrase
nest_at b n t q v short h = part_case b (in_parentheses n t) (reading_row n t) q v (up_nest n t) (λ ok. h (both _ _ (short_fits t short) ok))

by_start : (b : Bool) (o u : Outcome) (q : Parser Text) (v : Trees → Text → Type 0) → (b ≡ true → Holds v (and_then o q)) → (b ≡ false → Holds v (and_then u q))
    → Holds v (and_then (if b then o else u) q)
by_start true o u q v h k = h refl
by_start false o u q v h k = k refl

list_in : (s : Start) (n : ℕ) (t : Text) (q : Parser Text) (v : Trees → Text → Type 0) → length t ≤ 256
    → (is_list s n t ≡ true → Holds (λ c r. v (also (list_at s n t) c) r) (q (after_list s n t))) → Holds v (and_then (many (reader Atoms) s (at_level 39 n) (length t) t) q)
unfolding is_list list_at after_list reading_list
list_in s n t q v short h = list_case (many (reader Atoms) s (at_level 39 n) (length t) t) _ q v (list_up s n t short) (λ ok. h (both _ _ (short_fits t short) ok))

abbrev in_row : List Item → Parser Text
in_row is t = items no_statement in_parentheses (at_level 39) (reader Atoms) is t

-- a byte at the front
a_byte : (c : ℕ) (is : List Item) (t : Text) → first t ≡ c → Holds (Row is (drop 1 t)) (in_row is (drop 1 t))
    → Holds (λ a r. ((first t ≡ c) × Stands is (drop 1 t)) × (Put (Coded c) a ≡ Put (Coded c) (tree_by is (drop 1 t))) × (r ≡ rest_by is (drop 1 t))) (in_row is (drop 1 t))
a_byte c is t is_c h = holds_map (Row is (drop 1 t)) _ (in_row is (drop 1 t)) (λ a r k. ((is_c, k.0), ap (Put (Coded c)) k.1, k.2)) h

a_leaf : (k : Leaf) (t : Text) (a b : Trees) → a ≡ b → put_leaf k t a ≡ put_leaf k t b
a_leaf k t a b h = ap (put_leaf k t) h

stands : (is : List Item) (t : Text) → length t ≤ 256 → Holds (Row is t) (in_row is t)
unfolding items item symbol among program_word ignored short_word optional_comma end_of_line read_leaf statement_within
stands [] t short = (tt, refl, refl)
stands (Word c ∷ is) t short = symbol_case (first t == c) c t (refused Atoms 22 t) (in_row is) _ refl (λ is_c. a_byte c is t is_c (stands is (drop 1 t) (short_drop 1 t short)))
stands (Sign c code ∷ is) t short = symbol_case (first t == c) c t (refused Atoms code t) (in_row is) _ refl (λ is_c. a_byte c is t is_c (stands is (drop 1 t) (short_drop 1 t short)))
stands (ProgramWord c ∷ is) t short = symbol_case (first t == c) c t (refused Atoms 22 t) (in_row is) _ refl (λ is_c. a_byte c is t is_c (stands is (drop 1 t) (short_drop 1 t short)))
stands (ShortWord c ∷ is) t short =
    short_case (is_short c && first t == c) c t (refused Atoms 22 t) (in_row is) _ refl (λ is_c.
    holds_map (Row is (drop 1 t)) _ (in_row is (drop 1 t)) (λ a r k. ((is_c, k.0), ap (Put (Short c)) k.1, k.2)) (stands is (drop 1 t) (short_drop 1 t short)))
stands (Comma ∷ is) t short = symbol_case (first t == byte.comma) byte.comma t (refused Atoms 13 t) (in_row is) _ refl (λ is_c. a_byte byte.comma is t is_c (stands is (drop 1 t) (short_drop 1 t short)))
stands (Among low high code ∷ is) t short =
    among_case (is_among low high (first t)) low high t (refused Atoms code t) (in_row is) _ refl (λ is_c.
    holds_map (Row is (drop 1 t)) _ (in_row is (drop 1 t)) (λ a r k. ((is_c, k.0), ap (Put (Coded (first t))) k.1, k.2)) (stands is (drop 1 t) (short_drop 1 t short)))
stands (Ignored c ∷ is) t short = nothing_case t (in_row is) _ (stands is t short)
stands (LeftOut ∷ is) t short = tt
stands (End ∷ is) t short =
    end_case t (in_row is) _ (λ ends. holds_map (Row is t) _ (in_row is t) (λ a r k. ((ends, k.0), k.1, k.2)) (stands is t short))
stands (Statement p ∷ is) t short = nothing_case t (in_row is) _ (stands is t short)
stands (Typed k code ∷ is) t short =
    leaf_case k code t (in_row is) _ (λ is_k.
    holds_map (Row is (after_leaf k t)) _ (in_row is (after_leaf k t)) (λ a r m. ((is_k, m.0), a_leaf k t a _ m.1, m.2)) (stands is (after_leaf k t) (short_leaf k t short)))
stands (Part n ∷ is) t short =
    part_at 2 n t (in_row is) _ short (λ ok.
    holds_map (Row is (after_phrase n t)) _ (in_row is (after_phrase n t)) (λ a r k. ((ok, k.0), ap (In 2 (tree_at n t)) k.1, k.2)) (stands is (after_phrase n t) (short_part n t short)))
stands (Nest n ∷ is) t short =
    nest_at 2 n t (in_row is) _ short (λ ok.
    holds_map (Row is (after_phrase n t)) _ (in_row is (after_phrase n t)) (λ a r k. ((ok, k.0), ap (In 2 (tree_at n t)) k.1, k.2)) (stands is (after_phrase n t) (short_part n t short)))
stands (Maybe s n ∷ is) t short =
    by_start (starts Atoms s t) (under 1 (at_level 39 n t)) (absent t) (in_row is) _
    (λ b. part_at 1 n t (in_row is) _ short (λ ok. holds_map (Row is (after_phrase n t)) _ (in_row is (after_phrase n t))
    (λ a r k. (when_true (starts Atoms s t) _ _ b (ok, k.0), ap (In 1 (tree_at n t)) k.1 ∙ sym (ap (λ (x : Bool). if x then In 1 (tree_at n t) (tree_by is (after_phrase n t)) else In 0 Done (tree_by is t)) b), k.2 ∙ sym (ap (λ (x : Bool). if x then rest_by is (after_phrase n t) else rest_by is t) b))) (stands is (after_phrase n t) (short_part n t short))))
    (λ b. holds_preceded _ (In 0 Done Done) (in_row is t) (holds_map (Row is t) _ (in_row is t)
    (λ a r k. (when_false (starts Atoms s t) _ _ b k.0, ap (In 0 Done) k.1 ∙ sym (ap (λ (x : Bool). if x then In 1 (tree_at n t) (tree_by is (after_phrase n t)) else In 0 Done (tree_by is t)) b), k.2 ∙ sym (ap (λ (x : Bool). if x then rest_by is (after_phrase n t) else rest_by is t) b))) (stands is t short)))
stands (Either s n m ∷ is) t short =
    by_start (starts Atoms s t) (under 1 (at_level 39 n t)) (under 0 (at_level 39 m t)) (in_row is) _
    (λ b. part_at 1 n t (in_row is) _ short (λ ok. holds_map (Row is (after_phrase n t)) _ (in_row is (after_phrase n t))
    (λ a r k. (when_true (starts Atoms s t) _ _ b (ok, k.0), ap (In 1 (tree_at n t)) k.1 ∙ sym (ap (λ (x : Bool). if x then In 1 (tree_at n t) (tree_by is (after_phrase n t)) else In 0 (tree_at m t) (tree_by is (after_phrase m t))) b), k.2 ∙ sym (ap (λ (x : Bool). if x then rest_by is (after_phrase n t) else rest_by is (after_phrase m t)) b))) (stands is (after_phrase n t) (short_part n t short))))
    (λ b. part_at 0 m t (in_row is) _ short (λ ok. holds_map (Row is (after_phrase m t)) _ (in_row is (after_phrase m t))
    (λ a r k. (when_false (starts Atoms s t) _ _ b (ok, k.0), ap (In 0 (tree_at m t)) k.1 ∙ sym (ap (λ (x : Bool). if x then In 1 (tree_at n t) (tree_by is (after_phrase n t)) else In 0 (tree_at m t) (tree_by is (after_phrase m t))) b), k.2 ∙ sym (ap (λ (x : Bool). if x then rest_by is (after_phrase n t) else rest_by is (after_phrase m t)) b))) (stands is (after_phrase m t) (short_part m t short))))
stands (Many s n ∷ is) t short =
    list_in s n t (in_row is) _ short (λ ok.
    holds_map (Row is (after_list s n t)) _ (in_row is (after_list s n t)) (λ a r k. ((ok, k.0), ap (also (list_at s n t)) k.1, k.2)) (stands is (after_list s n t) (short_list s n t short)))

of_ok : (v : Trees → Text → Type 0) (o : Outcome) → is_ok o ≡ true → Holds v o → v (tree_of o) (left_after o)
of_ok v (Ok p) is h = h
of_ok v (Err e) is h = cc

read_row : (n : ℕ) (is : List Item) (t : Text) → row_items n ≡ is → is_phrase n t ≡ true → Row is t (tree_at n t) (after_phrase n t)
unfolding is_phrase tree_at after_phrase reading_row level
read_row n is t same ok =
    of_ok (Row is t) (at_level 40 n t) (and_right (fits_unit t) _ ok) (subst (λ (xs : List Item). Holds (Row is t) (in_row xs t)) (sym same) (stands is t (short_of t (and_left _ _ ok))))

-- a row that is read
pub row_stands : (n : ℕ) (is : List Item) (t : Text) → row_items n ≡ is → is_phrase n t ≡ true → RowStands n is t
row_stands n is t same ok = let r = read_row n is t same ok in record { stands = r.0; tree = r.1; rest = r.2 }

pub each_row_stands : EachRowStands
each_row_stands n t ok = row_stands n (row_items n) t refl ok
