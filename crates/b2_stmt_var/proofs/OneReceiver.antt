-- An assignment to one receiver: which parts it has, and what it leaves.
use Rattle.std.proofs.Common.{◌≡◌, ℕ, ◌==◌, Bool, true, false, List, [], ◌∷◌, drop, Option, Some, None, Result, Ok, Err, refl, sym, ap, ◌∙◌, arith}
use Rattle.std.proofs.lemmas.Bool.Decides.{nat_tests}
use Rattle.b2_base.specs.Byte as byte
use Rattle.b2_base.specs.Lexical.{first}
use Rattle.b2_base.specs.declared.codes.Fault.{Fault}
use Rattle.b2_base.specs.declared.codes.Fault.TheVariants as fault
use Rattle.b2_dec.specs.Number.{Number}
use Rattle.b2_vars.specs.Assigned.{Assigned}
use Rattle.b2_vars.specs.Tables.{VarsState}
use Rattle.b2_atom.specs.Words.{Text}
use Rattle.b2_atom.specs.Tree.{Trees}
use Rattle.b2_atom.specs.Grammar.{starts}
use Rattle.b2_atom.specs.declared.words.Origin.TheVariants.{Atoms}
use Rattle.b2_atom.specs.declared.rows.TheConstants as row
use Rattle.b2_atom.specs.declared.forms.Start.TheVariants as start
use Rattle.b2_rows.specs.Rows.{is_phrase, tree_at, after_phrase, list_at}
use Rattle.b2_rows.specs.CommaLists.{after_all_listed, all_listed}
use Rattle.b2_expr.specs.Answers.{Answer, TextAnswer, ◌>>=◌}
use Rattle.b2_expr.specs.Scope.{Context}
use Rattle.b2_expr.specs.Value.{context_of, text, value}
use Rattle.b2_expr.specs.Workspace.{WorkState, WorkLeft, among, then_works}
use Rattle.b2_expr.specs.declared.named.Element.{Element}
use Rattle.b2_expr.specs.declared.operators.Level.TheVariants as level
use Rattle.b2_receiver.specs.Assigning.{Ends, assigned_number, assigned_side, unless_refused}
use Rattle.b2_receiver.specs.Receivers.{alpha_receiver, number_receiver}
use Rattle.b2_receiver.specs.Receiving.{assign_number_at, assign_side_at, number_to, side_to}
use Rattle.b2_receiver.specs.RightSide.{Side, further_operations, is_right_side, operation_start, right_side, right_side_tree, side_of}
use Rattle.b2_receiver.specs.declared.receiver.AlphaReceiver.{AlphaReceiver}
use Rattle.b2_receiver.proofs.OperationRows.{first_is, first_operand, no_more_is, right_first_here, right_first_is}
use Rattle.b2_stmt_var.specs.Assignments.{assign_each, assigns, numbers_by, side_of_assignment, sides_by, sum_of_assignment}
use Rattle.b2_stmt_var.specs.Fast.{assigned, one_value}
use Rattle.b2_stmt_var.proofs.Assigned.{alpha_here, alpha_is, number_here, number_is}
use Rattle.b2_stmt_var.proofs.NumberRows as number
use Rattle.b2_stmt_var.proofs.SideRows as side

-- `=` is no comma
not_comma : (b : ℕ) → (b == byte.equals) ≡ true → (b == byte.comma) ≡ false
not_comma b h = grind (arith, nat_tests)

-- how it ends
ended : (w : WorkState) (a : Assigned) (after : VarsState) → a.code ≡ None → after ≡ a.vars → record { work = record w { own = a.vars }; code = a.code } ≡ assigned w after
ended w a after none is = ap (λ (code : Option ℕ). record { work = record w { own = a.vars }; code = code }) none ∙ ap (assigned w) (sym is)

own_ended : (w : WorkState) (global : Bool) (does : VarsState → Assigned) (after : VarsState) → global ≡ false → (does w.own).code ≡ None → after ≡ (does w.own).vars
    → among global does w ≡ assigned w after
own_ended w global does after own none is = ap (λ (g : Bool). among g does w) own ∙ ended w (does w.own) after none is

-- where an assignment refuses, nothing has changed
pub refused_alone : (o : Option ℕ) (old after new : VarsState) (f : Fault) → Ends (unless_refused o old (record { vars = after; code = None })) old new (Err f) → new ≡ old
refused_alone None old after new (fault.Code c) h = cc
refused_alone (Some x) old after new (fault.Code c) h = h.1
refused_alone o old after new fault.NoMemory h = h

-- A NUMBER
pub number_part : (t : Text) → is_phrase row.ASSIGNMENT t ≡ true → starts Atoms start.Alpha t ≡ false → is_phrase row.NUMERIC_RECEIVER t ≡ true
number_part t ok kind = number.first_part t (number_here t ok kind)

module _ (t rest : Text) (ok : is_phrase row.ASSIGNMENT t ≡ true) (kind : starts Atoms start.Alpha t ≡ false) (after : rest ≡ after_phrase row.NUMERIC_RECEIVER t) (equals : (first rest == byte.equals) ≡ true) where
  numeric : is_phrase row.NUMERIC_ASSIGNMENT t ≡ true
  numeric = number_here t ok kind

  no_further : (first (number.past_first t) == byte.comma) ≡ false
  no_further = ap (λ (u : Text). first u == byte.comma) (sym after) ∙ not_comma (first rest) equals

  pub sum_part : is_phrase row.SUM (drop 1 rest) ≡ true
  sum_part = ap (λ (u : Text). is_phrase row.SUM (drop 1 u)) after ∙ number.found_part t (number.past_first t) numeric no_further refl

  one_number : all_listed (tree_at row.NUMERIC_ASSIGNMENT t) ≡ tree_at row.NUMERIC_RECEIVER t ∷ []
  one_number = sym (number.whole_items t numeric) ∙ ap (λ (ts : List Trees). tree_at row.NUMERIC_RECEIVER t ∷ ts) (number.no_items (number.end_at (number.past_first t)) (number.past_first t) no_further)

  sum_tree : sum_of_assignment (after_all_listed (tree_at row.NUMERIC_ASSIGNMENT t)) ≡ tree_at row.SUM (drop 1 rest)
  sum_tree = number.found_tree t (number.past_first t) no_further refl (number.whole_end t numeric) ∙ ap (λ (u : Text). tree_at row.SUM (drop 1 u)) (sym after)

pub number_assigned : (w : WorkState) (t rest : Text) (to : Element) (n : Answer) (x : Number) (after : VarsState) → is_phrase row.ASSIGNMENT t ≡ true → starts Atoms start.Alpha t ≡ false
    → number_receiver (context_of w) (tree_at row.NUMERIC_RECEIVER t) ≡ Ok to → rest ≡ after_phrase row.NUMERIC_RECEIVER t → to.global ≡ false → (first rest == byte.equals) ≡ true
    → n ≡ value (context_of w) level.Sum (tree_at row.SUM (drop 1 rest)) → n ≡ Ok x → (assigned_number to x w.own).code ≡ None → after ≡ (assigned_number to x w.own).vars
    → assigns (tree_at row.ASSIGNMENT t) w ≡ assigned w after
number_assigned w t rest to n x after ok kind is past own equals worth some none left =
    number_is w t ok kind
    ∙ ap (λ (a : Trees). numbers_by (value (context_of w) level.Sum a) (all_listed (tree_at row.NUMERIC_ASSIGNMENT t)) w) (sum_tree t rest ok kind past equals)
    ∙ ap (λ (a : Answer). numbers_by a (all_listed (tree_at row.NUMERIC_ASSIGNMENT t)) w) (sym worth ∙ some)
    ∙ ap (λ (ts : List Trees). numbers_by (Ok x) ts w) (one_number t rest ok kind past equals)
    ∙ ap (λ (r : WorkLeft). then_works r (assign_each (assign_number_at (Ok x)) []))
    (ap (λ (p : Result Element ℕ). number_to p (Ok x) w) is ∙ own_ended w to.global (assigned_number to x) after own none left)

-- BYTES
pub text_part : (t : Text) → is_phrase row.ASSIGNMENT t ≡ true → starts Atoms start.Alpha t ≡ true → is_phrase row.ALPHA_RECEIVER t ≡ true
text_part t ok kind = side.first_part t (alpha_here t ok kind)

module _ (t rest : Text) (ok : is_phrase row.ASSIGNMENT t ≡ true) (kind : starts Atoms start.Alpha t ≡ true) (after : rest ≡ after_phrase row.ALPHA_RECEIVER t) (equals : (first rest == byte.equals) ≡ true) (operand : starts Atoms start.Alpha (drop 1 rest) ≡ true) where
  alpha : is_phrase row.ALPHA_ASSIGNMENT t ≡ true
  alpha = alpha_here t ok kind

  no_other : (first (side.past_first t) == byte.comma) ≡ false
  no_other = ap (λ (u : Text). first u == byte.comma) (sym after) ∙ not_comma (first rest) equals

  right_here : is_right_side (drop 1 rest) ≡ true
  right_here = ap (λ (u : Text). is_right_side (drop 1 u)) after ∙ side.found_part t (side.past_first t) alpha no_other refl

  pub side_part : is_phrase row.ALPHA (drop 1 rest) ≡ true
  side_part = first_operand (drop 1 rest) (right_first_here (drop 1 rest) right_here operand)

  one_text : all_listed (tree_at row.ALPHA_ASSIGNMENT t) ≡ tree_at row.ALPHA_RECEIVER t ∷ []
  one_text = sym (side.whole_items t alpha) ∙ ap (λ (ts : List Trees). tree_at row.ALPHA_RECEIVER t ∷ ts) (side.no_items (side.end_at (side.past_first t)) (side.past_first t) no_other)

  side_tree : side_of_assignment (after_all_listed (tree_at row.ALPHA_ASSIGNMENT t)) ≡ right_side_tree (drop 1 rest)
  side_tree = side.found_tree t (side.past_first t) no_other refl (side.whole_end t alpha) ∙ ap (λ (u : Text). right_side_tree (drop 1 u)) (sym after)

  side_is : (e : Context) (bytes : List ℕ) → text e (tree_at row.ALPHA (drop 1 rest)) ≡ Ok bytes → starts Atoms operation_start (after_phrase row.ALPHA (drop 1 rest)) ≡ false
      → right_side e (right_side_tree (drop 1 rest)) ≡ Ok (one_value bytes)
  side_is e bytes worth none =
      right_first_is e (drop 1 rest) operand
      ∙ first_is e (drop 1 rest) (right_first_here (drop 1 rest) right_here operand)
      ∙ ap (λ (a : TextAnswer). a >>= (λ x. side_of (Some x) (further_operations e (Ok []) (list_at operation_start row.OPERATION (after_phrase row.ALPHA (drop 1 rest)))))) worth
      ∙ ap (side_of (Some bytes)) (no_more_is e (Ok []) (after_phrase row.ALPHA (drop 1 rest)) none)

pub text_assigned : (w : WorkState) (t rest left : Text) (to : AlphaReceiver) (bytes : List ℕ) (after : VarsState) → is_phrase row.ASSIGNMENT t ≡ true → starts Atoms start.Alpha t ≡ true
    → alpha_receiver (context_of w) (tree_at row.ALPHA_RECEIVER t) ≡ Ok to → rest ≡ after_phrase row.ALPHA_RECEIVER t → to.element.global ≡ false → (first rest == byte.equals) ≡ true
    → starts Atoms start.Alpha (drop 1 rest) ≡ true → text (context_of w) (tree_at row.ALPHA (drop 1 rest)) ≡ Ok bytes → left ≡ after_phrase row.ALPHA (drop 1 rest) → starts Atoms operation_start left ≡ false
    → (assigned_side to (one_value bytes) w.own).code ≡ None → after ≡ (assigned_side to (one_value bytes) w.own).vars
    → assigns (tree_at row.ASSIGNMENT t) w ≡ assigned w after
text_assigned w t rest left to bytes after ok kind is past own equals operand worth gone none ended left_is =
    alpha_is w t ok kind
    ∙ ap (λ (a : Trees). sides_by (right_side (context_of w) a) (all_listed (tree_at row.ALPHA_ASSIGNMENT t)) w) (side_tree t rest ok kind past equals operand)
    ∙ ap (λ (s : Result Side ℕ). sides_by s (all_listed (tree_at row.ALPHA_ASSIGNMENT t)) w)
    (side_is t rest ok kind past equals operand (context_of w) bytes worth (ap (λ (u : Text). starts Atoms operation_start u) (sym gone) ∙ none))
    ∙ ap (λ (ts : List Trees). sides_by (Ok (one_value bytes)) ts w) (one_text t rest ok kind past equals operand)
    ∙ ap (λ (r : WorkLeft). then_works r (assign_each (assign_side_at (one_value bytes)) []))
    (ap (λ (p : Result AlphaReceiver ℕ). side_to p (one_value bytes) w) is ∙ own_ended w to.element.global (assigned_side to (one_value bytes)) after own ended left_is)
