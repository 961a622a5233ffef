-- ON and its list of lines, by their rows.
use Rattle.std.proofs.Common.{◌≡◌, ◌<◌, ◌≤◌, ℕ, suc, ◌+◌, ◌-◌, ◌==◌, not, Bool, true, false, if◌then◌else◌, List, [], ◌∷◌, drop, get_or, Some, None, Ok, refl, sym, ap, subst, ◌∙◌, arith}
use Rattle.std.specs.Prelude.{slice_get}
use Rattle.b2_base.specs.Byte as byte
use Rattle.b2_base.specs.Lexical.{first}
use Rattle.b2_base.specs.declared.codes.TheConstants.{S13_SEPARATOR, S15_LINE_NUMBER}
use Rattle.b2_atom.specs.Words.{Text}
use Rattle.b2_atom.specs.Tokens.Token.{Coded, Lined}
use Rattle.b2_atom.specs.Tree.{Trees, also}
use Rattle.b2_atom.specs.Tree.Trees.{Done, Put, In}
use Rattle.b2_atom.specs.Grammar.{row_items, starts}
use Rattle.b2_atom.specs.declared.words.Origin.TheVariants.{Atoms}
use Rattle.b2_atom.specs.declared.words.TheConstants as word
use Rattle.b2_atom.specs.declared.rows.TheConstants as row
use Rattle.b2_atom.specs.declared.forms.Start.TheVariants as start
use Rattle.b2_atom.specs.declared.forms.Leaf.TheVariants as leaf
use Rattle.b2_atom.specs.declared.forms.Item.{Item}
use Rattle.b2_atom.specs.declared.forms.Item.TheVariants.{Word, ProgramWord, Sign, Typed, Part, Either, Many}
use Rattle.b2_rows.specs.Leaves.{is_leaf}
use Rattle.b2_rows.specs.Rows.{is_phrase, tree_at, after_phrase, is_list, list_at, When, Goes, Ends}
use Rattle.b2_rows.specs.Values.{line_of}
use Rattle.b2_rows.proofs.Lists.{goes, ended}
use Rattle.b2_expr.specs.Answers.{◌>>=◌}
use Rattle.b2_expr.specs.Functions.{fixed}
use Rattle.b2_expr.specs.Scope.{Context}
use Rattle.b2_expr.specs.Value.{value}
use Rattle.b2_expr.specs.declared.operators.Level.TheVariants as level
use Rattle.b2_rows.proofs.RowsRead.{stands_of}
use Rattle.b2_stmt.specs.Choices.{calls_a_line, choice_in, counted_line, lines_after, lines_of}
use Rattle.b2_stmt.specs.Lines.{lines_at}
use Rattle.b2_rows.specs.CommaLists.{commas}

-- a comma and a line
abbrev comma_items : List Item
comma_items = Sign byte.comma S13_SEPARATOR ∷ Typed leaf.LineNumber S15_LINE_NUMBER ∷ []

comma_row : row_items row.COMMA_LINE ≡ comma_items
unfolding row_items
comma_row = refl

comma_starts : (t : Text) (b : Bool) → (first t == byte.comma) ≡ b → starts Atoms commas t ≡ b
unfolding starts
comma_starts t b is = is

gone : (t : Text) → is_list commas row.COMMA_LINE t ≡ true → (first t == byte.comma) ≡ true → Goes commas row.COMMA_LINE t
gone t ok is = goes commas row.COMMA_LINE t ok (comma_starts t true is)

pub other_here : (t : Text) → is_list commas row.COMMA_LINE t ≡ true → (first t == byte.comma) ≡ true → is_leaf leaf.LineNumber (drop 1 t) ≡ true
other_here t ok is = (stands_of row.COMMA_LINE comma_items t comma_row (Goes.part (gone t ok is))).0.1.0

pub other_list : (t : Text) → is_list commas row.COMMA_LINE t ≡ true → (first t == byte.comma) ≡ true → is_list commas row.COMMA_LINE (drop 3 (drop 1 t)) ≡ true
other_list t ok is =
    let g = gone t ok is in
    subst (λ (u : Text). is_list commas row.COMMA_LINE u ≡ true) (stands_of row.COMMA_LINE comma_items t comma_row g.part).2 g.list

other_tree : (t : Text) → is_list commas row.COMMA_LINE t ≡ true → (first t == byte.comma) ≡ true
    → list_at commas row.COMMA_LINE t ≡ In 1 (Put (Coded byte.comma) (Put (Lined (get_or (drop 1 t) 1 0) (get_or (drop 1 t) 2 0)) Done)) (list_at commas row.COMMA_LINE (drop 3 (drop 1 t)))
other_tree t ok is =
    let g = gone t ok is in
    let r = stands_of row.COMMA_LINE comma_items t comma_row g.part in
    g.tree ∙ ap (λ (a : Trees). In 1 a (list_at commas row.COMMA_LINE (after_phrase row.COMMA_LINE t))) r.1
    ∙ ap (λ (u : Text). In 1 (Put (Coded byte.comma) (Put (Lined (get_or (drop 1 t) 1 0) (get_or (drop 1 t) 2 0)) Done)) (list_at commas row.COMMA_LINE u)) r.2

-- the lines at a text, one after the other
abbrev line_here : Text → ℕ
line_here t = line_of (get_or t 1 0) (get_or t 2 0)

next_lines : (t : Text) → is_list commas row.COMMA_LINE (drop 3 t) ≡ true → (first (drop 3 t) == byte.comma) ≡ true → lines_at t ≡ line_here t ∷ lines_at (drop 1 (drop 3 t))
next_lines t ok is = ap (λ (a : Trees). line_here t ∷ lines_after (also a Done)) (other_tree (drop 3 t) ok is)

last_line : (t : Text) → (first (drop 3 t) == byte.comma) ≡ false → lines_at t ≡ line_here t ∷ []
last_line t is = ap (λ (a : Trees). line_here t ∷ lines_after (also a Done)) (Ends.tree (ended commas row.COMMA_LINE (drop 3 t) (comma_starts (drop 3 t) false is)))

some_left : (k i : ℕ) → i < k → k - i ≡ suc (k - (i + 1))
some_left k i h = omega arith

none_left : (k i : ℕ) → k ≤ i → k - i ≡ 0
none_left k i h = omega arith

pub on_line : (t : Text) (k i : ℕ) → is_list commas row.COMMA_LINE (drop 3 t) ≡ true → (first (drop 3 t) == byte.comma) ≡ true → i < k
    → slice_get (lines_at (drop 1 (drop 3 t))) (k - (i + 1)) ≡ slice_get (lines_at t) (k - i)
on_line t k i ok is h = sym (ap (λ (n : ℕ). slice_get (lines_at t) n) (some_left k i h) ∙ ap (λ (ls : List ℕ). slice_get ls (suc (k - (i + 1)))) (next_lines t ok is))

pub none_line : (t : Text) (k i : ℕ) → (first (drop 3 t) == byte.comma) ≡ false → i < k → slice_get (lines_at t) (k - i) ≡ None
none_line t k i is h = ap (λ (n : ℕ). slice_get (lines_at t) n) (some_left k i h) ∙ ap (λ (ls : List ℕ). slice_get ls (suc (k - (i + 1)))) (last_line t is)

pub here_line : (t : Text) (k i : ℕ) → k ≤ i → slice_get (lines_at t) (k - i) ≡ Some (line_here t)
here_line t k i h = ap (λ (n : ℕ). slice_get (lines_at t) n) (none_left k i h)

-- ON
abbrev on_items : List Item
on_items = Word word.ON ∷ Part row.SUM ∷ Either (start.Code word.GOTO) row.ON_GOTO row.ON_GOSUB ∷ []

on_row : row_items row.ON ≡ on_items
unfolding row_items
on_row = refl

abbrev goto_items : List Item
goto_items = Word word.GOTO ∷ Typed leaf.LineNumber S15_LINE_NUMBER ∷ Many commas row.COMMA_LINE ∷ []

goto_row : row_items row.ON_GOTO ≡ goto_items
unfolding row_items
goto_row = refl

abbrev gosub_items : List Item
gosub_items = ProgramWord word.GOSUB ∷ Typed leaf.LineNumber S15_LINE_NUMBER ∷ Many commas row.COMMA_LINE ∷ []

gosub_row : row_items row.ON_GOSUB ≡ gosub_items
unfolding row_items
gosub_row = refl

abbrev pub listed_text : Text → Text
listed_text t = after_phrase row.SUM (drop 1 t)

pub on_sum : (t : Text) → is_phrase row.ON t ≡ true → is_phrase row.SUM (drop 1 t) ≡ true
on_sum t ok = (stands_of row.ON on_items t on_row ok).0.1.0

-- of both kinds
pub record Listed (u : Text) (b : Bool) : Type 0 where
  pub line : is_leaf leaf.LineNumber (drop 1 u) ≡ true
  pub list : is_list commas row.COMMA_LINE (drop 3 (drop 1 u)) ≡ true
  pub lines : lines_of (if b then tree_at row.ON_GOTO u else tree_at row.ON_GOSUB u) ≡ lines_at (drop 1 u)

listed_by : (u : Text) (b : Bool) → When b ((is_phrase row.ON_GOTO u ≡ true) × Unit {0}) ((is_phrase row.ON_GOSUB u ≡ true) × Unit {0}) → Listed u b
listed_by u true h =
    let r = stands_of row.ON_GOTO goto_items u goto_row h.0 in
    record { line = r.0.1.0; list = r.0.1.1.0; lines = ap lines_of r.1 }
listed_by u false h =
    let r = stands_of row.ON_GOSUB gosub_items u gosub_row h.0 in
    record { line = r.0.1.0; list = r.0.1.1.0; lines = ap lines_of r.1 }

literals_listed : (t : Text) → is_phrase row.ON t ≡ true → Listed (listed_text t) (first (listed_text t) == word.GOTO)
unfolding starts
literals_listed t ok = listed_by (listed_text t) (first (listed_text t) == word.GOTO) (stands_of row.ON on_items t on_row ok).0.1.1

pub on_first : (t : Text) → is_phrase row.ON t ≡ true → is_leaf leaf.LineNumber (drop 1 (listed_text t)) ≡ true
on_first t ok = Listed.line (literals_listed t ok)

pub on_list : (t : Text) → is_phrase row.ON t ≡ true → is_list commas row.COMMA_LINE (drop 3 (drop 1 (listed_text t))) ≡ true
on_list t ok = Listed.list (literals_listed t ok)

on_by : (s : Context) (b : Bool) (sum x y : Trees) → choice_in s (Put (Coded word.ON) (In 2 sum (if b then In 1 x Done else In 0 y Done)))
    ≡ (value s level.Sum sum >>= (λ n. Ok (b, counted_line (fixed n) (lines_of (if b then x else y)))))
on_by s true sum x y = refl
on_by s false sum x y = refl

calls_by : (b : Bool) (sum x y : Trees) → calls_a_line (Put (Coded word.ON) (In 2 sum (if b then In 1 x Done else In 0 y Done))) ≡ not b
calls_by true sum x y = refl
calls_by false sum x y = refl

pub on_calls : (t : Text) → is_phrase row.ON t ≡ true → calls_a_line (tree_at row.ON t) ≡ not (first (listed_text t) == word.GOTO)
unfolding starts
on_calls t ok =
    ap calls_a_line (stands_of row.ON on_items t on_row ok).1
    ∙ calls_by (first (listed_text t) == word.GOTO) (tree_at row.SUM (drop 1 t)) (tree_at row.ON_GOTO (listed_text t)) (tree_at row.ON_GOSUB (listed_text t))

pub on_is : (s : Context) (t : Text) → is_phrase row.ON t ≡ true → choice_in s (tree_at row.ON t)
    ≡ (value s level.Sum (tree_at row.SUM (drop 1 t)) >>= (λ n. Ok (first (listed_text t) == word.GOTO, counted_line (fixed n) (lines_at (drop 1 (listed_text t))))))
unfolding starts
on_is s t ok =
    ap (choice_in s) (stands_of row.ON on_items t on_row ok).1
    ∙ on_by s (first (listed_text t) == word.GOTO) (tree_at row.SUM (drop 1 t)) (tree_at row.ON_GOTO (listed_text t)) (tree_at row.ON_GOSUB (listed_text t))
    ∙ ap (λ (ls : List ℕ). value s level.Sum (tree_at row.SUM (drop 1 t)) >>= (λ n. Ok (first (listed_text t) == word.GOTO, counted_line (fixed n) ls))) (Listed.lines (literals_listed t ok))
