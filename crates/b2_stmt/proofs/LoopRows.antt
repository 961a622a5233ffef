-- FOR and NEXT, by their rows.
use Rattle.std.proofs.Common.{◌≡◌, ℕ, ◌==◌, Bool, true, false, if◌then◌else◌, List, [], ◌∷◌, drop, Ok, Err, refl, ap, ◌∙◌}
use Rattle.b2_base.specs.Byte as byte
use Rattle.b2_base.specs.Lexical.{first, is_letter}
use Rattle.b2_base.specs.declared.codes.TheConstants.{S12_EQUALS, S20_VARIABLE}
use Rattle.b2_dec.specs.Number.{Number}
use Rattle.b2_atom.specs.Words.{Text}
use Rattle.b2_atom.specs.Leaves.{leaf_width}
use Rattle.b2_atom.specs.Tokens.Token.{Coded, Plain}
use Rattle.b2_atom.specs.Tree.{Trees}
use Rattle.b2_atom.specs.Tree.Trees.{Done, Put, In}
use Rattle.b2_atom.specs.Grammar.{row_items, starts}
use Rattle.b2_atom.specs.declared.words.Origin.TheVariants.{Atoms}
use Rattle.b2_atom.specs.declared.words.TheConstants as word
use Rattle.b2_atom.specs.declared.rows.TheConstants as row
use Rattle.b2_atom.specs.declared.forms.Start.TheVariants as start
use Rattle.b2_atom.specs.declared.forms.Leaf.TheVariants as leaf
use Rattle.b2_atom.specs.declared.forms.Item.{Item}
use Rattle.b2_atom.specs.declared.forms.Item.TheVariants.{Word, Sign, Typed, Part, Maybe}
use Rattle.b2_rows.specs.Leaves.{is_leaf, leaf_bytes}
use Rattle.b2_rows.specs.Rows.{is_phrase, tree_at, after_phrase}
use Rattle.b2_rows.specs.Values.{variable_name}
use Rattle.b2_vars.specs.Names.{is_legal_name}
use Rattle.b2_expr.specs.Answers.{◌>>=◌}
use Rattle.b2_expr.specs.Functions.{whole_number}
use Rattle.b2_expr.specs.Scope.{Context}
use Rattle.b2_expr.specs.Value.{value}
use Rattle.b2_expr.specs.declared.operators.Level.TheVariants as level
use Rattle.b2_rows.proofs.RowsRead.{stands_of}
use Rattle.b2_expr.proofs.Names.{legal_name}
use Rattle.b2_stmt.specs.Loops.{counter, counter_in, loop_in, scalar_of, step_in}
use Rattle.b2_stmt.proofs.BranchRows.{taken_way}

-- the name of a number counts a scalar
pub legal_counter : (w : Text) → is_letter (variable_name false w).letter ≡ true → is_legal_name (scalar_of (counter (variable_name false w))) ≡ true
legal_counter w h = legal_name false false w h

-- NEXT
abbrev next_items : List Item
next_items = Word word.NEXT ∷ Typed leaf.LocalName S20_VARIABLE ∷ []

next_row : row_items row.NEXT ≡ next_items
unfolding row_items
next_row = refl

pub next_name : (t : Text) → is_phrase row.NEXT t ≡ true → is_leaf leaf.LocalName (drop 1 t) ≡ true
next_name t ok = (stands_of row.NEXT next_items t next_row ok).0.1.0

pub next_is : (t : Text) → is_phrase row.NEXT t ≡ true → counter_in (tree_at row.NEXT t) ≡ counter (variable_name false (leaf_bytes leaf.LocalName (drop 1 t)))
next_is t ok = ap counter_in (stands_of row.NEXT next_items t next_row ok).1

-- STEP
abbrev step_items : List Item
step_items = Word word.STEP ∷ Part row.SUM ∷ []

step_row : row_items row.STEP ≡ step_items
unfolding row_items
step_row = refl

pub step_sum : (t : Text) → is_phrase row.STEP t ≡ true → is_phrase row.SUM (drop 1 t) ≡ true
step_sum t ok = (stands_of row.STEP step_items t step_row ok).0.1.0

pub step_is : (s : Context) (t : Text) → is_phrase row.STEP t ≡ true → step_in s 1 (tree_at row.STEP t) ≡ value s level.Sum (tree_at row.SUM (drop 1 t))
step_is s t ok = ap (step_in s 1) (stands_of row.STEP step_items t step_row ok).1

-- FOR
abbrev for_items : List Item
for_items = Word word.FOR ∷ Typed leaf.LocalName S20_VARIABLE ∷ Sign byte.equals S12_EQUALS ∷ Part row.SUM ∷ Word word.TO ∷ Part row.SUM ∷ Maybe (start.Code word.STEP) row.STEP ∷ []

for_row : row_items row.FOR ≡ for_items
unfolding row_items
for_row = refl

abbrev pub from_text : Text → Text
from_text t = drop 1 (drop (leaf_width Atoms leaf.LocalName (drop 1 t)) (drop 1 t))

abbrev pub limit_text : Text → Text
limit_text t = drop 1 (after_phrase row.SUM (from_text t))

abbrev pub step_text : Text → Text
step_text t = after_phrase row.SUM (limit_text t)

pub for_name : (t : Text) → is_phrase row.FOR t ≡ true → is_leaf leaf.LocalName (drop 1 t) ≡ true
for_name t ok = (stands_of row.FOR for_items t for_row ok).0.1.0

pub for_from : (t : Text) → is_phrase row.FOR t ≡ true → is_phrase row.SUM (from_text t) ≡ true
for_from t ok = (stands_of row.FOR for_items t for_row ok).0.1.1.1.0

pub for_limit : (t : Text) → is_phrase row.FOR t ≡ true → is_phrase row.SUM (limit_text t) ≡ true
for_limit t ok = (stands_of row.FOR for_items t for_row ok).0.1.1.1.1.1.0

pub for_step : (t : Text) → is_phrase row.FOR t ≡ true → (first (step_text t) == word.STEP) ≡ true → is_phrase row.STEP (step_text t) ≡ true
unfolding starts
for_step t ok is = (taken_way (first (step_text t) == word.STEP) _ _ is (stands_of row.FOR for_items t for_row ok).0.1.1.1.1.1.1).0

for_by : (s : Context) (name : Text) (b c : Bool) (x y z : Trees) → b ≡ c
    → loop_in s (Put (Coded word.FOR) (Put (Plain leaf.LocalName name) (Put (Coded byte.equals) (In 2 x (Put (Coded word.TO) (In 2 y (if b then In 1 z Done else In 0 Done Done)))))))
    ≡ (value s level.Sum x >>= (λ f. value s level.Sum y >>= (λ l. (if c then step_in s 1 z else whole_number 1) >>= (λ d. Ok (record { var = counter (variable_name false name); from = f; limit = l; step = d })))))
for_by s name true true x y z is = refl
for_by s name false false x y z is = refl
for_by s name true false x y z is = cc
for_by s name false true x y z is = cc

pub for_is : (s : Context) (t : Text) → is_phrase row.FOR t ≡ true → (first (step_text t) == word.STEP) ≡ true → loop_in s (tree_at row.FOR t)
    ≡ (value s level.Sum (tree_at row.SUM (from_text t)) >>= (λ f. value s level.Sum (tree_at row.SUM (limit_text t)) >>= (λ l. step_in s 1 (tree_at row.STEP (step_text t)) >>= (λ d. Ok (record { var = counter (variable_name false (leaf_bytes leaf.LocalName (drop 1 t))); from = f; limit = l; step = d })))))
unfolding starts
for_is s t ok is =
    ap (loop_in s) (stands_of row.FOR for_items t for_row ok).1
    ∙ for_by s (leaf_bytes leaf.LocalName (drop 1 t)) (first (step_text t) == word.STEP) true (tree_at row.SUM (from_text t)) (tree_at row.SUM (limit_text t)) (tree_at row.STEP (step_text t)) is

pub for_without : (s : Context) (t : Text) → is_phrase row.FOR t ≡ true → (first (step_text t) == word.STEP) ≡ false → loop_in s (tree_at row.FOR t)
    ≡ (value s level.Sum (tree_at row.SUM (from_text t)) >>= (λ f. value s level.Sum (tree_at row.SUM (limit_text t)) >>= (λ l. whole_number 1 >>= (λ d. Ok (record { var = counter (variable_name false (leaf_bytes leaf.LocalName (drop 1 t))); from = f; limit = l; step = d })))))
unfolding starts
for_without s t ok is =
    ap (loop_in s) (stands_of row.FOR for_items t for_row ok).1
    ∙ for_by s (leaf_bytes leaf.LocalName (drop 1 t)) (first (step_text t) == word.STEP) false (tree_at row.SUM (from_text t)) (tree_at row.SUM (limit_text t)) (tree_at row.STEP (step_text t)) is

-- where a value has a code
refused_by : (s : Context) (name : Text) (b : Bool) (x y z : Trees) (code : ℕ) → value s level.Sum x ≡ Err code
    → loop_in s (Put (Coded word.FOR) (Put (Plain leaf.LocalName name) (Put (Coded byte.equals) (In 2 x (Put (Coded word.TO) (In 2 y (if b then In 1 z Done else In 0 Done Done))))))) ≡ Err code
refused_by s name true x y z code is = rw is
refused_by s name false x y z code is = rw is

limit_refused_by : (s : Context) (name : Text) (b : Bool) (x y z : Trees) (f : Number) (code : ℕ) → value s level.Sum x ≡ Ok f → value s level.Sum y ≡ Err code
    → loop_in s (Put (Coded word.FOR) (Put (Plain leaf.LocalName name) (Put (Coded byte.equals) (In 2 x (Put (Coded word.TO) (In 2 y (if b then In 1 z Done else In 0 Done Done))))))) ≡ Err code
limit_refused_by s name true x y z f code is refuses = rw (is, refuses)
limit_refused_by s name false x y z f code is refuses = rw (is, refuses)

pub from_refused : (s : Context) (t : Text) (code : ℕ) → is_phrase row.FOR t ≡ true → value s level.Sum (tree_at row.SUM (from_text t)) ≡ Err code → loop_in s (tree_at row.FOR t) ≡ Err code
unfolding starts
from_refused s t code ok is =
    ap (loop_in s) (stands_of row.FOR for_items t for_row ok).1
    ∙ refused_by s (leaf_bytes leaf.LocalName (drop 1 t)) (first (step_text t) == word.STEP) (tree_at row.SUM (from_text t)) (tree_at row.SUM (limit_text t)) (tree_at row.STEP (step_text t)) code is

pub limit_refused : (s : Context) (t : Text) (x : Number) (code : ℕ) → is_phrase row.FOR t ≡ true → value s level.Sum (tree_at row.SUM (from_text t)) ≡ Ok x
    → value s level.Sum (tree_at row.SUM (limit_text t)) ≡ Err code → loop_in s (tree_at row.FOR t) ≡ Err code
unfolding starts
limit_refused s t x code ok is refuses =
    ap (loop_in s) (stands_of row.FOR for_items t for_row ok).1
    ∙ limit_refused_by s (leaf_bytes leaf.LocalName (drop 1 t)) (first (step_text t) == word.STEP) (tree_at row.SUM (from_text t)) (tree_at row.SUM (limit_text t)) (tree_at row.STEP (step_text t)) x code is refuses
