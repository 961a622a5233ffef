-- An assignment of a number to one scalar, by the bytes of its name: which receiver and which expression it has, and what it leaves.
use Rattle.std.proofs.Common.{◌≡◌, ℕ, zero, suc, ◌+◌, ◌==◌, nat_lt, ◌&&◌, ◌||◌, Bool, true, false, List, [], ◌∷◌, drop, get_or, not, Option, Some, None, is_some, Result, Ok, refl, sym, ap, ◌∙◌, arith}
use Rattle.std.proofs.lemmas.Bool.Decides.{nat_tests}
use Rattle.std.proofs.lemmas.List.{drop-drop}
use Rattle.std.specs.FinMap as map
use Rattle.b2_base.specs.Byte as byte
use Rattle.b2_base.specs.Lexical.{first, is_letter}
use Rattle.b2_dec.specs.Number.{Number}
use Rattle.b2_vars.specs.declared.name.Var.{Var}
use Rattle.b2_vars.specs.Calls.{get_code, no_array, no_cell, full, set_code, with_change, with_scalar}
use Rattle.b2_vars.specs.Answers.{first_of}
use Rattle.b2_vars.specs.Names.{scalar_named}
use Rattle.b2_vars.specs.Shapes.{cell_at}
use Rattle.b2_vars.specs.Tables.{VarsState, shape_at}
use Rattle.b2_vars.specs.Variables.{number_at, with_number}
use Rattle.b2_atom.specs.Words.{Text}
use Rattle.b2_atom.specs.Tree.{Trees}
use Rattle.b2_atom.specs.Leaves.{is_alpha_name}
use Rattle.b2_atom.specs.Grammar.{is_among, starts}
use Rattle.b2_atom.specs.declared.words.TheConstants as word
use Rattle.b2_atom.specs.declared.words.Origin.TheVariants.{Atoms}
use Rattle.b2_atom.specs.declared.rows.TheConstants as row
use Rattle.b2_atom.specs.declared.forms.Start.TheVariants as start
use Rattle.b2_rows.specs.Rows.{is_phrase, tree_at}
use Rattle.b2_rows.specs.CommaLists.{after_all_listed, all_listed}
use Rattle.b2_expr.specs.Answers.{Answer, ◌>>=◌, unless}
use Rattle.b2_expr.specs.Named.{Cell, counted_digit, number_there, plain_width}
use Rattle.b2_expr.specs.Scope.{Context}
use Rattle.b2_expr.specs.Value.{context_of, value}
use Rattle.b2_expr.specs.Workspace.{WorkState, WorkLeft, on_own, then_works}
use Rattle.b2_expr.specs.declared.named.Element.{Element}
use Rattle.b2_expr.specs.declared.operators.Level.TheVariants as level
use Rattle.b2_expr.proofs.PlainNames.{lettered_width, receiver_located, receiver_rest}
use Rattle.b2_receiver.specs.Assigning.{unless_refused}
use Rattle.b2_receiver.specs.Receivers.{number_receiver}
use Rattle.b2_receiver.specs.Receiving.{assign_number_at, number_to}
use Rattle.b2_receiver.proofs.ReceiverRows.{number_is as number_is_there}
use Rattle.b2_stmt_var.specs.Assignments.{assign_each, assigns, numbers_by, sum_of_assignment}
use Rattle.b2_stmt_var.specs.Fast.{assigned}
use Rattle.b2_stmt_var.proofs.Assigned.{number_here, number_is}
use Rattle.b2_stmt_var.proofs.NumberRows.{end_at, first_part, found_part, found_tree, no_items, past_first, whole_end, whole_items}

-- a plain name with `=` after it
first_there : (n : ℕ) (t : Text) → first (drop n t) ≡ get_or t n 0
first_there zero [] = refl
first_there zero (b ∷ t) = refl
first_there (suc n) [] = refl
first_there (suc n) (b ∷ t) = first_there n t

none_of_three : (a b c : Bool) → a ≡ false → b ≡ false → c ≡ false → (a || b || c) ≡ false
none_of_three a b c p q r = ap (λ (x : Bool). x || b || c) p ∙ ap (λ (x : Bool). x || c) q ∙ r

never : (b : Bool) → (b && byte.equals == byte.dollar) ≡ false
never true = refl
never false = refl

no_quote : (b : ℕ) → is_letter b ≡ true → (b == byte.quote) ≡ false
no_quote b h = grind (arith, nat_tests)

no_word : (b : ℕ) → is_letter b ≡ true → is_among word.HEX_OPEN word.BIN_OPEN b ≡ false
no_word b h = grind (arith, nat_tests)

no_dollar : (t : Text) → is_letter (first t) ≡ true → get_or t (plain_width t) 0 ≡ byte.equals → is_alpha_name Atoms t ≡ false
no_dollar t h is =
    ap (λ (n : ℕ). nat_lt 0 n && get_or t n 0 == byte.dollar) (lettered_width t h)
    ∙ ap (λ (b : ℕ). nat_lt 0 (plain_width t) && b == byte.dollar) is
    ∙ never (nat_lt 0 (plain_width t))

no_alpha : (t : Text) → is_letter (first t) ≡ true → get_or t (plain_width t) 0 ≡ byte.equals → starts Atoms start.Alpha t ≡ false
unfolding starts
no_alpha t h is = none_of_three (first t == byte.quote) (is_among word.HEX_OPEN word.BIN_OPEN (first t)) (is_alpha_name Atoms t) (no_quote (first t) h) (no_word (first t) h) (no_dollar t h is)

-- its receiver and its expression
abbrev scalar_of : Text → Var
scalar_of t = scalar_named (first t) (counted_digit (get_or t 1 0))

abbrev element_of : Text → Element
element_of t = record { global = false; var = scalar_of t; row = 0; column = 0 }

module _ (t : Text) (ok : is_phrase row.ASSIGNMENT t ≡ true) (h : is_letter (first t) ≡ true) (is : get_or t (plain_width t) 0 ≡ byte.equals) where
  after_name : first (drop (plain_width t) t) ≡ byte.equals
  after_name = first_there (plain_width t) t ∙ is

  number : is_phrase row.NUMERIC_ASSIGNMENT t ≡ true
  number = number_here t ok (no_alpha t h is)

  alone : (first (drop (plain_width t) t) == byte.opening) ≡ false
  alone = ap (λ (b : ℕ). b == byte.opening) after_name

  past : past_first t ≡ drop (plain_width t) t
  past = receiver_rest t (first_part t number) h alone

  no_comma : (first (past_first t) == byte.comma) ≡ false
  no_comma = ap (λ (u : Text). first u == byte.comma) past ∙ ap (λ (b : ℕ). b == byte.comma) after_name

  rest_is : drop 1 (past_first t) ≡ drop (plain_width t + 1) t
  rest_is = ap (λ (u : Text). drop 1 u) past ∙ drop-drop 1 (plain_width t) t

  pub sum_part : is_phrase row.SUM (drop (plain_width t + 1) t) ≡ true
  sum_part = ap (λ (u : Text). is_phrase row.SUM u) (sym rest_is) ∙ found_part t (past_first t) number no_comma refl

  receivers : all_listed (tree_at row.NUMERIC_ASSIGNMENT t) ≡ tree_at row.NUMERIC_RECEIVER t ∷ []
  receivers = sym (whole_items t number) ∙ ap (λ (ts : List Trees). tree_at row.NUMERIC_RECEIVER t ∷ ts) (no_items (end_at (past_first t)) (past_first t) no_comma)

  expression : sum_of_assignment (after_all_listed (tree_at row.NUMERIC_ASSIGNMENT t)) ≡ tree_at row.SUM (drop (plain_width t + 1) t)
  expression = found_tree t (past_first t) no_comma refl (whole_end t number) ∙ ap (λ (u : Text). tree_at row.SUM u) rest_is

  receiver : (e : Context) → get_code (scalar_of t) 0 0 e.around.own.table ≡ None → number_receiver e (tree_at row.NUMERIC_RECEIVER t) ≡ Ok (element_of t)
  receiver e none =
      number_is_there e (tree_at row.NUMERIC_RECEIVER t)
      ∙ ap (λ (place : Result Cell ℕ). place >>= (λ p. number_there p >>= (λ (x : Number). Ok p.element))) (receiver_located e t (first_part t number) h alone)
      ∙ ap (λ (code : Option ℕ). unless code (number_at (cell_at (shape_at (scalar_of t) e.around.own.table) 0 0) (map.get e.around.own.table (scalar_of t))) >>= (λ (x : Number). Ok (element_of t))) none

-- the codes of setting a scalar, and of reaching it, which are among them
pub uncoded : (code : Option ℕ) → not (is_some code) ≡ true → code ≡ None
uncoded None h = refl
uncoded (Some c) h = cc

front : (a b c : Option ℕ) → first_of (a ∷ b ∷ c ∷ []) ≡ None → first_of (a ∷ b ∷ []) ≡ None
front None None c h = refl
front None (Some x) c h = h
front (Some x) b c h = h

reached : (v : Var) (s : VarsState) → set_code v 0 0 s ≡ None → get_code v 0 0 s.table ≡ None
reached v s h = front (no_array v s.table) (no_cell v 0 0 s.table) (full s.area (with_scalar v s).table) h

-- what it leaves
abbrev with_number_in : Var → Number → VarsState → VarsState
with_number_in v x s = with_change v (with_number (cell_at (shape_at v s.table) 0 0) x) (with_scalar v s)

one_assigned : (w : WorkState) (t : Text) (x : Number) → is_phrase row.ASSIGNMENT t ≡ true → is_letter (first t) ≡ true → get_or t (plain_width t) 0 ≡ byte.equals → set_code (scalar_of t) 0 0 w.own ≡ None
    → assign_number_at (Ok x) (tree_at row.NUMERIC_RECEIVER t) w ≡ assigned w (with_number_in (scalar_of t) x w.own)
one_assigned w t x ok h is none =
    ap (λ (to : Result Element ℕ). number_to to (Ok x) w) (receiver t ok h is (context_of w) (reached (scalar_of t) w.own none))
    ∙ ap (λ (code : Option ℕ). on_own (unless_refused code w.own (record { vars = with_number_in (scalar_of t) x w.own; code = None })) w) none

pub scalar_assigned : (w : WorkState) (t : Text) (n : Answer) (x : Number) (vars : VarsState) → is_phrase row.ASSIGNMENT t ≡ true → is_letter (first t) ≡ true → get_or t (plain_width t) 0 ≡ byte.equals
    → n ≡ value (context_of w) level.Sum (tree_at row.SUM (drop (plain_width t + 1) t)) → n ≡ Ok x → set_code (scalar_of t) 0 0 w.own ≡ None
    → vars ≡ with_number_in (scalar_of t) x w.own → assigns (tree_at row.ASSIGNMENT t) w ≡ assigned w vars
scalar_assigned w t n x vars ok h is worth some none left =
    number_is w t ok (no_alpha t h is)
    ∙ ap (λ (a : Trees). numbers_by (value (context_of w) level.Sum a) (all_listed (tree_at row.NUMERIC_ASSIGNMENT t)) w) (expression t ok h is)
    ∙ ap (λ (a : Answer). numbers_by a (all_listed (tree_at row.NUMERIC_ASSIGNMENT t)) w) (sym worth ∙ some)
    ∙ ap (λ (ts : List Trees). numbers_by (Ok x) ts w) (receivers t ok h is)
    ∙ ap (λ (r : WorkLeft). then_works r (assign_each (assign_number_at (Ok x)) [])) (one_assigned w t x ok h is none)
    ∙ ap (assigned w) (sym left)
