-- GOSUB' by its row: its arguments one after another, and the two kinds of them.
use Rattle.std.proofs.Common.{◌≡◌, ◌<◌, ℕ, ◌==◌, nat_lt, nat_le, Bool, true, false, if◌then◌else◌, List, [], ◌∷◌, ◌++◌, length, drop, Result, Ok, Err, refl, sym, ap, subst, ◌∙◌}
use Rattle.std.proofs.lemmas.List.{append_assoc, append-nil}
use Rattle.b2_base.specs.Byte as byte
use Rattle.b2_base.specs.Lexical.{capped_value, digits_width, first}
use Rattle.b2_base.specs.declared.codes.TheConstants.{S10_OPEN, S11_CLOSE, S13_SEPARATOR, S24_SMALL_NUMBER}
use Rattle.b2_dec.specs.declared.values.Value.{Value}
use Rattle.b2_atom.specs.Words.{Text}
use Rattle.b2_atom.specs.Leaves.{leaf_width}
use Rattle.b2_atom.specs.Tokens.Token.{Coded}
use Rattle.b2_atom.specs.Tree.{Trees}
use Rattle.b2_atom.specs.Tree.Trees.{Done, Put, In}
use Rattle.b2_atom.specs.Grammar.{row_items, starts}
use Rattle.b2_atom.specs.declared.words.Origin.TheVariants.{Atoms}
use Rattle.b2_atom.specs.declared.words.TheConstants as word
use Rattle.b2_atom.specs.declared.rows.TheConstants as row
use Rattle.b2_atom.specs.declared.forms.Start.TheVariants as start
use Rattle.b2_atom.specs.declared.forms.Leaf.TheVariants as leaf
use Rattle.b2_atom.specs.declared.forms.Item.{Item}
use Rattle.b2_atom.specs.declared.forms.Item.TheVariants.{Word, Sign, Typed, Part, Nest, Maybe, Many}
use Rattle.b2_rows.specs.Choices.{ReadAs, first_branch, second_branch}
use Rattle.b2_rows.specs.Leaves.{is_leaf}
use Rattle.b2_rows.specs.Optional.{maybe_phrase, maybe_tree}
use Rattle.b2_rows.specs.Rows.{is_phrase, tree_at, after_phrase, is_list}
use Rattle.b2_rows.proofs.Choices.{either_first, either_second}
use Rattle.b2_rows.proofs.Optional.{maybe_stands, begun_part, begun_tree, left_out_tree}
use Rattle.b2_expr.specs.Answers.{◌>>=◌}
use Rattle.b2_expr.specs.Scope.{Context}
use Rattle.b2_rows.proofs.RowsRead.{stands_of}
use Rattle.b2_stmt.specs.Arguments.{alpha_argument, argument, arguments, values_before, number_argument, arguments_at, operands_of, other_operands, past_number, put_after}
use Rattle.b2_rows.proofs.CommaLists.{IsComma, Other, other, item_shorter, items_of_other, no_items_left}
use Rattle.b2_rows.specs.CommaLists.{commas}

-- an argument of either kind
alpha_read : (t : Text) → is_phrase row.OPERAND_OF_ANY_KIND t ≡ true → starts Atoms start.Alpha t ≡ true → ReadAs row.OPERAND_OF_ANY_KIND row.ALPHA first_branch t
unfolding row_items
alpha_read t ok is = either_first row.OPERAND_OF_ANY_KIND row.ALPHA row.SUM start.Alpha t refl ok is

number_read : (t : Text) → is_phrase row.OPERAND_OF_ANY_KIND t ≡ true → starts Atoms start.Alpha t ≡ false → ReadAs row.OPERAND_OF_ANY_KIND row.SUM second_branch t
unfolding row_items
number_read t ok is = either_second row.OPERAND_OF_ANY_KIND row.ALPHA row.SUM start.Alpha t refl ok is

pub alpha_here : (t : Text) → is_phrase row.OPERAND_OF_ANY_KIND t ≡ true → starts Atoms start.Alpha t ≡ true → is_phrase row.ALPHA t ≡ true
alpha_here t ok is = ReadAs.part (alpha_read t ok is)

pub alpha_is : (s : Context) (t : Text) → is_phrase row.OPERAND_OF_ANY_KIND t ≡ true → starts Atoms start.Alpha t ≡ true → argument s (tree_at row.OPERAND_OF_ANY_KIND t) ≡ alpha_argument s (tree_at row.ALPHA t)
alpha_is s t ok is = ap (argument s) (ReadAs.tree (alpha_read t ok is))

pub alpha_rest : (t : Text) → is_phrase row.OPERAND_OF_ANY_KIND t ≡ true → starts Atoms start.Alpha t ≡ true → after_phrase row.OPERAND_OF_ANY_KIND t ≡ after_phrase row.ALPHA t
alpha_rest t ok is = ReadAs.rest (alpha_read t ok is)

pub number_here : (t : Text) → is_phrase row.OPERAND_OF_ANY_KIND t ≡ true → starts Atoms start.Alpha t ≡ false → is_phrase row.SUM t ≡ true
number_here t ok is = ReadAs.part (number_read t ok is)

pub number_is : (s : Context) (t : Text) → is_phrase row.OPERAND_OF_ANY_KIND t ≡ true → starts Atoms start.Alpha t ≡ false → argument s (tree_at row.OPERAND_OF_ANY_KIND t) ≡ number_argument s (tree_at row.SUM t)
number_is s t ok is = ap (argument s) (ReadAs.tree (number_read t ok is))

pub number_rest : (t : Text) → is_phrase row.OPERAND_OF_ANY_KIND t ≡ true → starts Atoms start.Alpha t ≡ false → after_phrase row.OPERAND_OF_ANY_KIND t ≡ after_phrase row.SUM t
number_rest t ok is = ReadAs.rest (number_read t ok is)

-- further arguments
comma_row : IsComma row.COMMA_OPERAND row.OPERAND_OF_ANY_KIND S13_SEPARATOR
unfolding row_items
comma_row = refl

abbrev Others : Text → Type 0
Others t = is_list commas row.COMMA_OPERAND t ≡ true

pub other_part : (t : Text) → Others t → (first t == byte.comma) ≡ true → is_phrase row.OPERAND_OF_ANY_KIND (drop 1 t) ≡ true
other_part t ok is = Other.part (other row.COMMA_OPERAND row.OPERAND_OF_ANY_KIND S13_SEPARATOR t comma_row ok is)

pub other_list : (t : Text) → Others t → (first t == byte.comma) ≡ true → Others (after_phrase row.OPERAND_OF_ANY_KIND (drop 1 t))
other_list t ok is = Other.list (other row.COMMA_OPERAND row.OPERAND_OF_ANY_KIND S13_SEPARATOR t comma_row ok is)

pub operand_shorter : (t : Text) → (first (after_phrase row.OPERAND_OF_ANY_KIND t) == byte.comma) ≡ true → length (drop 1 (after_phrase row.OPERAND_OF_ANY_KIND t)) < length t
operand_shorter t is = item_shorter row.OPERAND_OF_ANY_KIND t is

other_items : (t : Text) → Others t → (first t == byte.comma) ≡ true → other_operands t ≡ arguments_at (drop 1 t)
other_items t ok is = items_of_other row.COMMA_OPERAND row.OPERAND_OF_ANY_KIND S13_SEPARATOR Done t comma_row ok is

no_items : (t : Text) → (first t == byte.comma) ≡ false → other_operands t ≡ []
no_items t is = no_items_left row.COMMA_OPERAND Done t is

-- one that was put after others, and those that are left
ok_is : (xs ys : List Value) → ◌≡◌ {A = Result (List Value) ℕ} (Ok xs) (Ok ys) → xs ≡ ys
ok_is xs ys is = cc

put_value : (x : Value) (old new ys : List Value) → old ++ x ∷ [] ≡ new → new ++ ys ≡ old ++ x ∷ ys
put_value x old new ys is = sym (ap (λ (l : List Value). l ++ ys) is) ∙ append_assoc old (x ∷ []) ys

put_by : (answer : Result Value ℕ) (rest : Result (List Value) ℕ) (old new : List Value) → put_after old answer ≡ Ok new
    → values_before new rest ≡ values_before old (answer >>= (λ x. rest >>= (λ xs. Ok (x ∷ xs))))
put_by (Err c) rest old new is = cc
put_by (Ok x) (Err c) old new is = refl
put_by (Ok x) (Ok ys) old new is = ap Ok (put_value x old new ys (ok_is (old ++ x ∷ []) new is))

pub one_put : (s : Context) (t : Text) (old new : List Value) → Others (after_phrase row.OPERAND_OF_ANY_KIND t) → (first (after_phrase row.OPERAND_OF_ANY_KIND t) == byte.comma) ≡ true → put_after old (argument s (tree_at row.OPERAND_OF_ANY_KIND t)) ≡ Ok new
    → values_before new (arguments s (arguments_at (drop 1 (after_phrase row.OPERAND_OF_ANY_KIND t)))) ≡ values_before old (arguments s (arguments_at t))
one_put s t old new ok is put =
    sym (ap (λ (ts : List Trees). values_before new (arguments s ts)) (other_items (after_phrase row.OPERAND_OF_ANY_KIND t) ok is))
    ∙ put_by (argument s (tree_at row.OPERAND_OF_ANY_KIND t)) (arguments s (other_operands (after_phrase row.OPERAND_OF_ANY_KIND t))) old new put

pub last_put : (s : Context) (t : Text) (old new : List Value) → (first (after_phrase row.OPERAND_OF_ANY_KIND t) == byte.comma) ≡ false → put_after old (argument s (tree_at row.OPERAND_OF_ANY_KIND t)) ≡ Ok new
    → values_before old (arguments s (arguments_at t)) ≡ Ok new
last_put s t old new is put =
    sym (put_by (argument s (tree_at row.OPERAND_OF_ANY_KIND t)) (arguments s (other_operands (after_phrase row.OPERAND_OF_ANY_KIND t))) old new put)
    ∙ ap (λ (ts : List Trees). values_before new (arguments s ts)) (no_items (after_phrase row.OPERAND_OF_ANY_KIND t) is)
    ∙ ap Ok (append-nil new)

refused_by : (answer : Result Value ℕ) (rest : Result (List Value) ℕ) (old : List Value) (c : ℕ) → answer ≡ Err c → values_before old (answer >>= (λ x. rest >>= (λ xs. Ok (x ∷ xs)))) ≡ Err c
refused_by (Ok x) rest old c is = cc
refused_by (Err d) rest old c is = cc

pub refused : (s : Context) (t : Text) (old : List Value) (c : ℕ) → argument s (tree_at row.OPERAND_OF_ANY_KIND t) ≡ Err c → values_before old (arguments s (arguments_at t)) ≡ Err c
refused s t old c is = refused_by (argument s (tree_at row.OPERAND_OF_ANY_KIND t)) (arguments s (other_operands (after_phrase row.OPERAND_OF_ANY_KIND t))) old c is

-- GOSUB'
abbrev pub call_items : List Item
call_items = Word word.GOSUB_PRIME ∷ Typed leaf.Small S24_SMALL_NUMBER ∷ Maybe (start.Code byte.opening) row.ARGUMENTS ∷ []

pub call_row : row_items row.GOSUB_MARKED ≡ call_items
unfolding row_items
call_row = refl

abbrev argument_items : List Item
argument_items = Sign byte.opening S10_OPEN ∷ Nest row.OPERANDS ∷ Sign byte.closing S11_CLOSE ∷ []

argument_row : row_items row.ARGUMENTS ≡ argument_items
unfolding row_items
argument_row = refl

abbrev operand_items : List Item
operand_items = Part row.OPERAND_OF_ANY_KIND ∷ Many commas row.COMMA_OPERAND ∷ []

operand_row : row_items row.OPERANDS ≡ operand_items
unfolding row_items
operand_row = refl

-- what stands after its number
small_is : (b : Bool) (n : ℕ) → nat_lt 0 (if b then n else 0) ≡ true → (if b then n else 0) ≡ n
small_is true n h = refl
small_is false n h = cc

pub number_width : (t : Text) → is_leaf leaf.Small t ≡ true → leaf_width Atoms leaf.Small t ≡ digits_width t
number_width t h = small_is (nat_le (capped_value 999 0 t) 255) (digits_width t) h

pub record Called (t : Text) : Type 0 where
  pub part : maybe_phrase (start.Code byte.opening) row.ARGUMENTS (past_number t) ≡ true
  pub operands : operands_of (tree_at row.GOSUB_MARKED t) ≡ operands_of (Put (Coded word.GOSUB_PRIME) (Put (Coded 0) (maybe_tree (start.Code byte.opening) row.ARGUMENTS (past_number t))))

called : (t : Text) → is_phrase row.GOSUB_MARKED t ≡ true → Called t
unfolding maybe_tree
called t ok =
    let r = stands_of row.GOSUB_MARKED call_items t call_row ok in
    let width = number_width (drop 1 t) r.0.1.0 in
    record {
      part = subst (λ (n : ℕ). maybe_phrase (start.Code byte.opening) row.ARGUMENTS (drop n (drop 1 t)) ≡ true) width (maybe_stands (start.Code byte.opening) row.ARGUMENTS (drop (leaf_width Atoms leaf.Small (drop 1 t)) (drop 1 t)) r.0.1.1);
      operands = ap operands_of r.1 ∙ ap (λ (n : ℕ). operands_of (Put (Coded word.GOSUB_PRIME) (Put (Coded 0) (maybe_tree (start.Code byte.opening) row.ARGUMENTS (drop n (drop 1 t)))))) width;
    }

loop_begins : (t : Text) (b : Bool) → (first t == byte.opening) ≡ b → starts Atoms (start.Code byte.opening) t ≡ b
unfolding starts
loop_begins t b is = is

-- with parentheses
inner : (t : Text) → is_phrase row.GOSUB_MARKED t ≡ true → (first (past_number t) == byte.opening) ≡ true → is_phrase row.ARGUMENTS (past_number t) ≡ true
inner t ok is = begun_part (start.Code byte.opening) row.ARGUMENTS (past_number t) (Called.part (called t ok)) (loop_begins (past_number t) true is)

literals_listed : (t : Text) → is_phrase row.ARGUMENTS t ≡ true → is_phrase row.OPERANDS (drop 1 t) ≡ true
literals_listed t ok = (stands_of row.ARGUMENTS argument_items t argument_row ok).0.1.0

pub call_first : (t : Text) → is_phrase row.GOSUB_MARKED t ≡ true → (first (past_number t) == byte.opening) ≡ true → is_phrase row.OPERAND_OF_ANY_KIND (drop 1 (past_number t)) ≡ true
call_first t ok is = (stands_of row.OPERANDS operand_items (drop 1 (past_number t)) operand_row (literals_listed (past_number t) (inner t ok is))).0.0

pub call_list : (t : Text) → is_phrase row.GOSUB_MARKED t ≡ true → (first (past_number t) == byte.opening) ≡ true → Others (after_phrase row.OPERAND_OF_ANY_KIND (drop 1 (past_number t)))
call_list t ok is = (stands_of row.OPERANDS operand_items (drop 1 (past_number t)) operand_row (literals_listed (past_number t) (inner t ok is))).0.1.0

pub call_is : (t : Text) → is_phrase row.GOSUB_MARKED t ≡ true → (first (past_number t) == byte.opening) ≡ true → operands_of (tree_at row.GOSUB_MARKED t) ≡ arguments_at (drop 1 (past_number t))
call_is t ok is =
    Called.operands (called t ok)
    ∙ ap (λ (a : Trees). operands_of (Put (Coded word.GOSUB_PRIME) (Put (Coded 0) a))) (begun_tree (start.Code byte.opening) row.ARGUMENTS (past_number t) (loop_begins (past_number t) true is))
    ∙ ap (λ (a : Trees). operands_of (Put (Coded word.GOSUB_PRIME) (Put (Coded 0) (In 1 a Done)))) (stands_of row.ARGUMENTS argument_items (past_number t) argument_row (inner t ok is)).1
    ∙ ap (λ (a : Trees). operands_of (Put (Coded word.GOSUB_PRIME) (Put (Coded 0) (In 1 (Put (Coded byte.opening) (In 2 a (Put (Coded byte.closing) Done))) Done))))
    (stands_of row.OPERANDS operand_items (drop 1 (past_number t)) operand_row (literals_listed (past_number t) (inner t ok is))).1

-- without
pub call_without : (t : Text) → is_phrase row.GOSUB_MARKED t ≡ true → (first (past_number t) == byte.opening) ≡ false → operands_of (tree_at row.GOSUB_MARKED t) ≡ []
call_without t ok is =
    Called.operands (called t ok) ∙ ap (λ (a : Trees). operands_of (Put (Coded word.GOSUB_PRIME) (Put (Coded 0) a))) (left_out_tree (start.Code byte.opening) row.ARGUMENTS (past_number t) (loop_begins (past_number t) false is))
