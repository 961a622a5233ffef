-- GOTO, IF, ELSE, ERROR and ON, by their rows.
use Rattle.std.proofs.Common.{◌≡◌, ℕ, ◌+◌, ◌==◌, Bool, true, false, if◌then◌else◌, List, [], ◌∷◌, drop, get_or, Ok, Result, refl, ap, ◌∙◌}
use Rattle.b2_base.specs.Lexical.{first}
use Rattle.b2_base.specs.declared.codes.TheConstants.{S15_LINE_NUMBER, D87_FILE_NAME}
use Rattle.b2_atom.specs.Words.{Text}
use Rattle.b2_atom.specs.Tokens.Token.{Coded, Short, Plain, Lined}
use Rattle.b2_atom.specs.Tree.{Trees}
use Rattle.b2_atom.specs.Tree.Trees.{Done, Put, In}
use Rattle.b2_atom.specs.Grammar.{row_items, starts}
use Rattle.b2_atom.specs.Units.{TreeUnit}
use Rattle.b2_atom.specs.declared.words.Origin.TheVariants.{Atoms}
use Rattle.b2_atom.specs.declared.words.TheConstants as word
use Rattle.b2_atom.specs.declared.rows.TheConstants as row
use Rattle.b2_atom.specs.declared.forms.Start.TheVariants as start
use Rattle.b2_atom.specs.declared.forms.Leaf.TheVariants as leaf
use Rattle.b2_atom.specs.declared.forms.Item.{Item}
use Rattle.b2_atom.specs.declared.forms.Item.TheVariants.{Word, Typed, Part, Either}
use Rattle.b2_rows.specs.Leaves.{is_leaf}
use Rattle.b2_rows.specs.Rows.{is_phrase, tree_at, after_phrase, When}
use Rattle.b2_rows.specs.Values.{line_of}
use Rattle.b2_rows.specs.Following.{after_false, named_goal}
use Rattle.b2_rows.specs.declared.following.Goal.{Goal}
use Rattle.b2_rows.specs.declared.following.Goal.TheVariants as goal
use Rattle.b2_expr.specs.Answers.{◌>>=◌}
use Rattle.b2_expr.specs.Condition.{truth}
use Rattle.b2_expr.specs.Scope.{Context}
use Rattle.b2_rows.proofs.RowsRead.{stands_of}
use Rattle.b2_access.specs.declared.planned.Outcome.TheVariants as outcome
use Rattle.b2_stmt.specs.Branches.{goto_goal, if_goal, skipped_function}
use Rattle.b2_rows.specs.LineNumbers.{line_in}

-- GOTO
abbrev goto_items : List Item
goto_items = Word word.GOTO ∷ Typed leaf.LineNumber S15_LINE_NUMBER ∷ []

goto_row : row_items row.GOTO ≡ goto_items
unfolding row_items
goto_row = refl

pub goto_line : (t : Text) → is_phrase row.GOTO t ≡ true → is_leaf leaf.LineNumber (drop 1 t) ≡ true
goto_line t ok = (stands_of row.GOTO goto_items t goto_row ok).0.1.0

pub goto_is : (t : Text) → is_phrase row.GOTO t ≡ true → goto_goal (tree_at row.GOTO t) ≡ Ok (goal.Line (line_of (get_or (drop 1 t) 1 0) (get_or (drop 1 t) 2 0)))
goto_is t ok = ap goto_goal (stands_of row.GOTO goto_items t goto_row ok).1

-- a line number
abbrev line_items : List Item
line_items = Typed leaf.LineNumber S15_LINE_NUMBER ∷ []

line_row : row_items row.LINE_NUMBER ≡ line_items
unfolding row_items
line_row = refl

pub line_here : (t : Text) → is_phrase row.LINE_NUMBER t ≡ true → is_leaf leaf.LineNumber t ≡ true
line_here t ok = (stands_of row.LINE_NUMBER line_items t line_row ok).0.0

pub line_number : (t : Text) → is_phrase row.LINE_NUMBER t ≡ true → line_in (tree_at row.LINE_NUMBER t) ≡ line_of (get_or t 1 0) (get_or t 2 0)
line_number t ok = ap line_in (stands_of row.LINE_NUMBER line_items t line_row ok).1

line_goal : (k : ℕ) (t : Text) → is_phrase row.LINE_NUMBER t ≡ true → named_goal k 1 (tree_at row.LINE_NUMBER t) ≡ goal.Line (line_of (get_or t 1 0) (get_or t 2 0))
line_goal k t ok = ap (named_goal k 1) (stands_of row.LINE_NUMBER line_items t line_row ok).1

no_line : (k : ℕ) (t : Trees) → named_goal k 0 t ≡ goal.Unit (k + 1)
no_line k Done = refl
no_line k (Put (Coded c) t) = refl
no_line k (Put (Short c) t) = refl
no_line k (Put (Plain l w) t) = refl
no_line k (Put (Lined high low) t) = refl
no_line k (In n a t) = refl

-- where a line or a statement is named
pub taken_way : (b : Bool) (x y : Type 0) → b ≡ true → When b x y → x
taken_way true x y is h = h
taken_way false x y is h = cc

-- IF
abbrev if_items : List Item
if_items = Word word.IF ∷ Part row.CONDITION ∷ Word word.THEN ∷ Either start.Line row.LINE_NUMBER row.FOLLOWING ∷ []

if_row : row_items row.IF ≡ if_items
unfolding row_items
if_row = refl

abbrev pub named_text : Text → Text
named_text t = drop 1 (after_phrase row.CONDITION (drop 1 t))

pub if_condition : (t : Text) → is_phrase row.IF t ≡ true → is_phrase row.CONDITION (drop 1 t) ≡ true
if_condition t ok = (stands_of row.IF if_items t if_row ok).0.1.0

pub if_named : (t : Text) → is_phrase row.IF t ≡ true → starts Atoms start.Line (named_text t) ≡ true → is_leaf leaf.LineNumber (named_text t) ≡ true
if_named t ok is = line_here (named_text t) (taken_way (starts Atoms start.Line (named_text t)) _ _ is (stands_of row.IF if_items t if_row ok).0.1.1.1).0

if_by : (s : Context) (k : ℕ) (us : List TreeUnit) (c : Trees) (t : Text) (b : Bool) → starts Atoms start.Line t ≡ b → When b ((is_phrase row.LINE_NUMBER t ≡ true) × Unit {0}) ((is_phrase row.FOLLOWING t ≡ true) × Unit {0})
    → if_goal s k us (Put (Coded word.IF) (In 2 c (Put (Coded word.THEN) (if b then In 1 (tree_at row.LINE_NUMBER t) Done else In 0 (tree_at row.FOLLOWING t) Done))))
    ≡ (truth s c >>= (λ holds. Ok (if holds then (if b then goal.Line (line_of (get_or t 1 0) (get_or t 2 0)) else goal.Unit (k + 1)) else after_false k us)))
if_by s k us c t true is h = ap (λ (g : Goal). truth s c >>= (λ holds. Ok (if holds then g else after_false k us))) (line_goal k t h.0)
if_by s k us c t false is h = ap (λ (g : Goal). truth s c >>= (λ holds. Ok (if holds then g else after_false k us))) (no_line k (tree_at row.FOLLOWING t))

pub if_is : (s : Context) (k : ℕ) (us : List TreeUnit) (t : Text) → is_phrase row.IF t ≡ true → if_goal s k us (tree_at row.IF t)
    ≡ (truth s (tree_at row.CONDITION (drop 1 t)) >>= (λ holds. Ok (if holds then (if starts Atoms start.Line (named_text t) then goal.Line (line_of (get_or (named_text t) 1 0) (get_or (named_text t) 2 0)) else goal.Unit (k + 1)) else after_false k us)))
if_is s k us t ok =
    let r = stands_of row.IF if_items t if_row ok in
    ap (if_goal s k us) r.1 ∙ if_by s k us (tree_at row.CONDITION (drop 1 t)) (named_text t) (starts Atoms start.Line (named_text t)) refl r.0.1.1.1

-- and once it is known whether its condition holds
pub if_judged : (s : Context) (k : ℕ) (us : List TreeUnit) (t : Text) (h : Bool) → is_phrase row.IF t ≡ true → truth s (tree_at row.CONDITION (drop 1 t)) ≡ Ok h → if_goal s k us (tree_at row.IF t)
    ≡ Ok (if h then (if starts Atoms start.Line (named_text t) then goal.Line (line_of (get_or (named_text t) 1 0) (get_or (named_text t) 2 0)) else goal.Unit (k + 1)) else after_false k us)
if_judged s k us t h ok is =
    if_is s k us t ok
    ∙ ap (λ (x : Result Bool ℕ). x >>= (λ holds. Ok (if holds then (if starts Atoms start.Line (named_text t) then goal.Line (line_of (get_or (named_text t) 1 0) (get_or (named_text t) 2 0)) else goal.Unit (k + 1)) else after_false k us))) is

-- DEFFN
abbrev function_items : List Item
function_items = Word word.DEFFN ∷ Either (start.Code word.GLOBAL_PART) row.GLOBAL_PART row.FUNCTION_BODY ∷ []

function_row : row_items row.DEFFN ≡ function_items
unfolding row_items
function_row = refl

passed_by : (b : Bool) (x y : Trees) → skipped_function (Put (Coded word.DEFFN) (if b then In 1 x Done else In 0 y Done)) ≡ (if b then outcome.Failed D87_FILE_NAME else outcome.Next)
passed_by true x y = refl
passed_by false x y = refl

pub skipped_is : (t : Text) → is_phrase row.DEFFN t ≡ true → skipped_function (tree_at row.DEFFN t) ≡ (if first (drop 1 t) == word.GLOBAL_PART then outcome.Failed D87_FILE_NAME else outcome.Next)
unfolding starts
skipped_is t ok = ap skipped_function (stands_of row.DEFFN function_items t function_row ok).1 ∙ passed_by (first (drop 1 t) == word.GLOBAL_PART) (tree_at row.GLOBAL_PART (drop 1 t)) (tree_at row.FUNCTION_BODY (drop 1 t))
