-- The right side of an alpha assignment by its rows: which row is read, what it gives, and what is left after it.
use Rattle.std.proofs.Common.{◌≡◌, ◌<◌, ℕ, ◌==◌, Bool, true, false, if◌then◌else◌, nat_lt, List, [], ◌∷◌, length, drop, length-drop, arith, refl, sym, ap, subst, ◌∙◌, Ok, Err, Result, Some, None}
use Rattle.b2_base.specs.Lexical.{first, hex_value}
use Rattle.b2_base.specs.declared.codes.TheConstants.{S18_ALPHA, S19_HEX_OR_QUOTE}
use Rattle.b2_atom.specs.Words.{Text}
use Rattle.b2_atom.specs.Leaves.{leaf_width}
use Rattle.b2_atom.specs.Tree.{Trees}
use Rattle.b2_atom.specs.Tree.Trees.{Done, Put, In}
use Rattle.b2_atom.specs.Grammar.{row_items, starts}
use Rattle.b2_atom.specs.declared.words.Origin.TheVariants.{Atoms}
use Rattle.b2_atom.specs.declared.words.TheConstants as word
use Rattle.b2_atom.specs.declared.rows.TheConstants as row
use Rattle.b2_atom.specs.declared.forms.Start.TheVariants as start
use Rattle.b2_atom.specs.declared.forms.Leaf.TheVariants as leaf
use Rattle.b2_atom.specs.declared.forms.Item.{Item}
use Rattle.b2_atom.specs.declared.forms.Item.TheVariants.{Word, Among, Typed, Part, Either, Many}
use Rattle.b2_rows.specs.Rows.{When, is_phrase, tree_at, after_phrase, is_list, list_at, after_list, Goes, Ends}
use Rattle.b2_rows.specs.Leaves.{is_leaf, leaf_bytes}
use Rattle.b2_rows.specs.Choices.{ReadAs, first_branch, second_branch}
use Rattle.b2_rows.proofs.Choices.{either_first, either_second}
use Rattle.b2_rows.proofs.Levels.{part_no_longer}
use Rattle.b2_rows.proofs.Lists.{goes, ended}
use Rattle.b2_expr.specs.Answers.{◌>>=◌}
use Rattle.b2_receiver.specs.RightSide.{operator_of, with_operand, digit_operation, word_operation, operation, then_operation, further_operations, side_of, first_and_operations, operations_alone, right_side, operation_start, is_right_side, right_side_tree, after_right_side}
use Rattle.b2_expr.specs.Scope.{Context}
use Rattle.b2_expr.specs.Value.{text}
use Rattle.b2_receiver.specs.declared.operations.AlphaOperator.TheVariants as op
use Rattle.b2_receiver.specs.declared.operations.Operation.{Operation}
use Rattle.b2_rows.proofs.RowsRead.{stands_of, shorter_among}
use Rattle.b2_rows.proofs.ListEnds.{also_done}

twice : (t : Text) → drop 1 (drop 1 t) ≡ drop 2 t
twice [] = refl
twice (a ∷ t) = refl

-- BOOL, a digit and an operand
abbrev digit_items : List Item
digit_items = Word word.BOOL ∷ Typed leaf.HexDigit S19_HEX_OR_QUOTE ∷ Part row.ALPHA ∷ []

digit_row : row_items row.BOOLEAN ≡ digit_items
unfolding row_items
digit_row = refl

one_wide : (b : Bool) → nat_lt 0 (if b then 1 else 0) ≡ true → ◌≡◌ {A = ℕ} (if b then 1 else 0) 1
one_wide true h = refl
one_wide false h = cc

width_is : (t : Text) → is_leaf leaf.HexDigit t ≡ true → leaf_width Atoms leaf.HexDigit t ≡ 1
width_is t h = one_wide _ h

pub digit_here : (t : Text) → is_phrase row.BOOLEAN t ≡ true → is_leaf leaf.HexDigit (drop 1 t) ≡ true
digit_here t ok = (stands_of row.BOOLEAN digit_items t digit_row ok).0.1.0

after_digit : (t : Text) → is_phrase row.BOOLEAN t ≡ true → drop (leaf_width Atoms leaf.HexDigit (drop 1 t)) (drop 1 t) ≡ drop 2 t
after_digit t ok = ap (λ (n : ℕ). drop n (drop 1 t)) (width_is (drop 1 t) (digit_here t ok)) ∙ twice t

pub digit_operand : (t : Text) → is_phrase row.BOOLEAN t ≡ true → is_phrase row.ALPHA (drop 2 t) ≡ true
digit_operand t ok = subst (λ (u : Text). is_phrase row.ALPHA u ≡ true) (after_digit t ok) (stands_of row.BOOLEAN digit_items t digit_row ok).0.1.1.0

pub digit_is : (e : Context) (t : Text) → is_phrase row.BOOLEAN t ≡ true → digit_operation e (tree_at row.BOOLEAN t)
    ≡ with_operand (op.Bool (hex_value (first (leaf_bytes leaf.HexDigit (drop 1 t))))) (text e (tree_at row.ALPHA (drop 2 t)))
unfolding digit_operation
digit_is e t ok =
    ap (digit_operation e) (stands_of row.BOOLEAN digit_items t digit_row ok).1
    ∙ ap (λ (u : Text). with_operand (op.Bool (hex_value (first (leaf_bytes leaf.HexDigit (drop 1 t))))) (text e (tree_at row.ALPHA u))) (after_digit t ok)

pub digit_rest : (t : Text) → is_phrase row.BOOLEAN t ≡ true → after_phrase row.BOOLEAN t ≡ after_phrase row.ALPHA (drop 2 t)
digit_rest t ok = (stands_of row.BOOLEAN digit_items t digit_row ok).2 ∙ ap (after_phrase row.ALPHA) (after_digit t ok)

-- any other word and an operand
abbrev logical_items : List Item
logical_items = Among word.AND word.XOR S18_ALPHA ∷ Part row.ALPHA ∷ []

logical_row : row_items row.LOGICAL ≡ logical_items
unfolding row_items
logical_row = refl

abbrev sum_items : List Item
sum_items = Among word.ADD word.DSC S18_ALPHA ∷ Part row.ALPHA ∷ []

sum_row : row_items row.BINARY_SUM ≡ sum_items
unfolding row_items
sum_row = refl

other_row : row_items row.OTHER_OPERATION ≡ Either (start.Among word.AND word.XOR) row.LOGICAL row.BINARY_SUM ∷ []
unfolding row_items
other_row = refl

by_logical : (t : Text) → is_phrase row.OTHER_OPERATION t ≡ true → starts Atoms (start.Among word.AND word.XOR) t ≡ true → ReadAs row.OTHER_OPERATION row.LOGICAL first_branch t
by_logical t ok is = either_first _ _ _ _ t other_row ok is

by_sum : (t : Text) → is_phrase row.OTHER_OPERATION t ≡ true → starts Atoms (start.Among word.AND word.XOR) t ≡ false → ReadAs row.OTHER_OPERATION row.BINARY_SUM second_branch t
by_sum t ok is = either_second _ _ _ _ t other_row ok is

operand_by : (b : Bool) (t : Text) → is_phrase row.OTHER_OPERATION t ≡ true → starts Atoms (start.Among word.AND word.XOR) t ≡ b → is_phrase row.ALPHA (drop 1 t) ≡ true
operand_by true t ok is = (stands_of row.LOGICAL logical_items t logical_row (by_logical t ok is).part).0.1.0
operand_by false t ok is = (stands_of row.BINARY_SUM sum_items t sum_row (by_sum t ok is).part).0.1.0

pub word_operand : (t : Text) → is_phrase row.OTHER_OPERATION t ≡ true → is_phrase row.ALPHA (drop 1 t) ≡ true
word_operand t ok = operand_by (starts Atoms (start.Among word.AND word.XOR) t) t ok refl

word_by : (b : Bool) (e : Context) (t : Text) → is_phrase row.OTHER_OPERATION t ≡ true → starts Atoms (start.Among word.AND word.XOR) t ≡ b
    → word_operation e (tree_at row.OTHER_OPERATION t) ≡ with_operand (operator_of (first t)) (text e (tree_at row.ALPHA (drop 1 t)))
unfolding word_operation
word_by true e t ok is =
    ap (word_operation e) (by_logical t ok is).tree
    ∙ ap (λ (a : Trees). word_operation e (In 1 a Done)) (stands_of row.LOGICAL logical_items t logical_row (by_logical t ok is).part).1
word_by false e t ok is =
    ap (word_operation e) (by_sum t ok is).tree
    ∙ ap (λ (a : Trees). word_operation e (In 0 a Done)) (stands_of row.BINARY_SUM sum_items t sum_row (by_sum t ok is).part).1

pub word_is : (e : Context) (t : Text) → is_phrase row.OTHER_OPERATION t ≡ true
    → word_operation e (tree_at row.OTHER_OPERATION t) ≡ with_operand (operator_of (first t)) (text e (tree_at row.ALPHA (drop 1 t)))
word_is e t ok = word_by (starts Atoms (start.Among word.AND word.XOR) t) e t ok refl

rest_by : (b : Bool) (t : Text) → is_phrase row.OTHER_OPERATION t ≡ true → starts Atoms (start.Among word.AND word.XOR) t ≡ b → after_phrase row.OTHER_OPERATION t ≡ after_phrase row.ALPHA (drop 1 t)
rest_by true t ok is = (by_logical t ok is).rest ∙ (stands_of row.LOGICAL logical_items t logical_row (by_logical t ok is).part).2
rest_by false t ok is = (by_sum t ok is).rest ∙ (stands_of row.BINARY_SUM sum_items t sum_row (by_sum t ok is).part).2

pub word_rest : (t : Text) → is_phrase row.OTHER_OPERATION t ≡ true → after_phrase row.OTHER_OPERATION t ≡ after_phrase row.ALPHA (drop 1 t)
word_rest t ok = rest_by (starts Atoms (start.Among word.AND word.XOR) t) t ok refl

-- an operation
operation_row : row_items row.OPERATION ≡ Either (start.Code word.BOOL) row.BOOLEAN row.OTHER_OPERATION ∷ []
unfolding row_items
operation_row = refl

begins : (c : ℕ) (t : Text) (b : Bool) → (first t == c) ≡ b → starts Atoms (start.Code c) t ≡ b
unfolding starts
begins c t b is = is

by_digit : (t : Text) → is_phrase row.OPERATION t ≡ true → (first t == word.BOOL) ≡ true → ReadAs row.OPERATION row.BOOLEAN first_branch t
by_digit t ok is = either_first _ _ _ _ t operation_row ok (begins word.BOOL t true is)

by_word : (t : Text) → is_phrase row.OPERATION t ≡ true → (first t == word.BOOL) ≡ false → ReadAs row.OPERATION row.OTHER_OPERATION second_branch t
by_word t ok is = either_second _ _ _ _ t operation_row ok (begins word.BOOL t false is)

pub on_digit_here : (t : Text) → is_phrase row.OPERATION t ≡ true → (first t == word.BOOL) ≡ true → is_phrase row.BOOLEAN t ≡ true
on_digit_here t ok is = (by_digit t ok is).part

pub on_digit_is : (e : Context) (t : Text) → is_phrase row.OPERATION t ≡ true → (first t == word.BOOL) ≡ true → operation e (tree_at row.OPERATION t) ≡ digit_operation e (tree_at row.BOOLEAN t)
unfolding operation
on_digit_is e t ok is = ap (operation e) (by_digit t ok is).tree

pub on_digit_rest : (t : Text) → is_phrase row.OPERATION t ≡ true → (first t == word.BOOL) ≡ true → after_phrase row.OPERATION t ≡ after_phrase row.BOOLEAN t
on_digit_rest t ok is = (by_digit t ok is).rest

pub on_word_here : (t : Text) → is_phrase row.OPERATION t ≡ true → (first t == word.BOOL) ≡ false → is_phrase row.OTHER_OPERATION t ≡ true
on_word_here t ok is = (by_word t ok is).part

pub on_word_is : (e : Context) (t : Text) → is_phrase row.OPERATION t ≡ true → (first t == word.BOOL) ≡ false → operation e (tree_at row.OPERATION t) ≡ word_operation e (tree_at row.OTHER_OPERATION t)
unfolding operation
on_word_is e t ok is = ap (operation e) (by_word t ok is).tree

pub on_word_rest : (t : Text) → is_phrase row.OPERATION t ≡ true → (first t == word.BOOL) ≡ false → after_phrase row.OPERATION t ≡ after_phrase row.OTHER_OPERATION t
on_word_rest t ok is = (by_word t ok is).rest

-- further operations, and none
pub more_part : (t : Text) → is_list operation_start row.OPERATION t ≡ true → starts Atoms operation_start t ≡ true → is_phrase row.OPERATION t ≡ true
more_part t ok is = Goes.part (goes operation_start row.OPERATION t ok is)

pub more_list : (t : Text) → is_list operation_start row.OPERATION t ≡ true → starts Atoms operation_start t ≡ true → is_list operation_start row.OPERATION (after_phrase row.OPERATION t) ≡ true
more_list t ok is = Goes.list (goes operation_start row.OPERATION t ok is)

pub more_is : (e : Context) (x : Result (List Operation) ℕ) (t : Text) → is_list operation_start row.OPERATION t ≡ true → starts Atoms operation_start t ≡ true
    → further_operations e x (list_at operation_start row.OPERATION t)
    ≡ further_operations e (then_operation e x (tree_at row.OPERATION t)) (list_at operation_start row.OPERATION (after_phrase row.OPERATION t))
unfolding further_operations
more_is e x t ok is = ap (further_operations e x) (Goes.tree (goes operation_start row.OPERATION t ok is))

pub more_rest : (t : Text) → is_list operation_start row.OPERATION t ≡ true → starts Atoms operation_start t ≡ true
    → after_list operation_start row.OPERATION t ≡ after_list operation_start row.OPERATION (after_phrase row.OPERATION t)
more_rest t ok is = Goes.rest (goes operation_start row.OPERATION t ok is)

front_shorter : (t : Text) → starts Atoms operation_start t ≡ true → length (drop 1 t) < length t
unfolding starts
front_shorter t is = shorter_among word.AND word.DSC t refl is

shorter_by : (b : Bool) (t : Text) → is_phrase row.OPERATION t ≡ true → length (drop 1 t) < length t → (first t == word.BOOL) ≡ b → length (after_phrase row.OPERATION t) < length t
shorter_by true t ok less is =
    let rest = on_digit_rest t ok is ∙ digit_rest t (on_digit_here t ok is) in
    let a = part_no_longer row.ALPHA (drop 2 t) in
    omega (arith, ap length rest, a, less, length-drop 1 t, length-drop 2 t)
shorter_by false t ok less is =
    let rest = on_word_rest t ok is ∙ word_rest t (on_word_here t ok is) in
    let a = part_no_longer row.ALPHA (drop 1 t) in
    omega (arith, ap length rest, a, less)

pub more_shorter : (t : Text) → is_list operation_start row.OPERATION t ≡ true → starts Atoms operation_start t ≡ true → length (after_phrase row.OPERATION t) < length t
more_shorter t ok is = shorter_by (first t == word.BOOL) t (more_part t ok is) (front_shorter t is) refl

pub no_more_is : (e : Context) (x : Result (List Operation) ℕ) (t : Text) → starts Atoms operation_start t ≡ false → further_operations e x (list_at operation_start row.OPERATION t) ≡ x
unfolding further_operations
no_more_is e x t is = ap (further_operations e x) (Ends.tree (ended operation_start row.OPERATION t is))

pub no_more_rest : (t : Text) → starts Atoms operation_start t ≡ false → after_list operation_start row.OPERATION t ≡ t
no_more_rest t is = Ends.rest (ended operation_start row.OPERATION t is)

either_way : (b : Bool) (x y : Result (List Operation) ℕ) → x ≡ y → (if b then x else y) ≡ y
either_way true x y is = is
either_way false x y is = refl

pub refused : (e : Context) (code : ℕ) (a : Trees) → further_operations e (Err code) a ≡ Err code
unfolding further_operations
refused e code (In n a more) = either_way (n == 1) _ _ (refused e code more)
refused e code Done = refl
refused e code (Put token more) = refl

-- a first operand and operations
abbrev first_items : List Item
first_items = Part row.ALPHA ∷ Many operation_start row.OPERATION ∷ []

first_row : row_items row.FIRST_AND_OPERATIONS ≡ first_items
unfolding row_items
first_row = refl

pub first_operand : (t : Text) → is_phrase row.FIRST_AND_OPERATIONS t ≡ true → is_phrase row.ALPHA t ≡ true
first_operand t ok = (stands_of row.FIRST_AND_OPERATIONS first_items t first_row ok).0.0

pub first_list : (t : Text) → is_phrase row.FIRST_AND_OPERATIONS t ≡ true → is_list operation_start row.OPERATION (after_phrase row.ALPHA t) ≡ true
first_list t ok = (stands_of row.FIRST_AND_OPERATIONS first_items t first_row ok).0.1.0

pub first_is : (e : Context) (t : Text) → is_phrase row.FIRST_AND_OPERATIONS t ≡ true → first_and_operations e (tree_at row.FIRST_AND_OPERATIONS t)
    ≡ (text e (tree_at row.ALPHA t) >>= (λ x. side_of (Some x) (further_operations e (Ok []) (list_at operation_start row.OPERATION (after_phrase row.ALPHA t)))))
unfolding first_and_operations
first_is e t ok =
    ap (first_and_operations e) (stands_of row.FIRST_AND_OPERATIONS first_items t first_row ok).1
    ∙ ap (λ (a : Trees). first_and_operations e (In 2 (tree_at row.ALPHA t) a)) (also_done (list_at operation_start row.OPERATION (after_phrase row.ALPHA t)))

pub first_rest : (t : Text) → is_phrase row.FIRST_AND_OPERATIONS t ≡ true → after_phrase row.FIRST_AND_OPERATIONS t ≡ after_list operation_start row.OPERATION (after_phrase row.ALPHA t)
first_rest t ok = (stands_of row.FIRST_AND_OPERATIONS first_items t first_row ok).2

-- operations alone
abbrev alone_items : List Item
alone_items = Part row.OPERATION ∷ Many operation_start row.OPERATION ∷ []

alone_row : row_items row.OPERATIONS ≡ alone_items
unfolding row_items
alone_row = refl

pub alone_first : (t : Text) → is_phrase row.OPERATIONS t ≡ true → is_phrase row.OPERATION t ≡ true
alone_first t ok = (stands_of row.OPERATIONS alone_items t alone_row ok).0.0

pub alone_list : (t : Text) → is_phrase row.OPERATIONS t ≡ true → is_list operation_start row.OPERATION (after_phrase row.OPERATION t) ≡ true
alone_list t ok = (stands_of row.OPERATIONS alone_items t alone_row ok).0.1.0

pub alone_is : (e : Context) (t : Text) → is_phrase row.OPERATIONS t ≡ true → operations_alone e (tree_at row.OPERATIONS t)
    ≡ side_of None (further_operations e (then_operation e (Ok []) (tree_at row.OPERATION t)) (list_at operation_start row.OPERATION (after_phrase row.OPERATION t)))
unfolding operations_alone
alone_is e t ok =
    ap (operations_alone e) (stands_of row.OPERATIONS alone_items t alone_row ok).1
    ∙ ap (λ (a : Trees). operations_alone e (In 2 (tree_at row.OPERATION t) a)) (also_done (list_at operation_start row.OPERATION (after_phrase row.OPERATION t)))

pub alone_rest : (t : Text) → is_phrase row.OPERATIONS t ≡ true → after_phrase row.OPERATIONS t ≡ after_list operation_start row.OPERATION (after_phrase row.OPERATION t)
alone_rest t ok = (stands_of row.OPERATIONS alone_items t alone_row ok).2

-- the right side, which is one or the other
part_by : (b x y : Bool) → When b ((x ≡ true) × Unit {0}) ((y ≡ true) × Unit {0}) → (if b then x else y) ≡ true
part_by true x y h = h.0
part_by false x y h = h.0

-- as the last item of an assignment's row
pub right_side_stands : (t : Text) → When (starts Atoms start.Alpha t) ((is_phrase row.FIRST_AND_OPERATIONS t ≡ true) × Unit {0}) ((is_phrase row.OPERATIONS t ≡ true) × Unit {0}) → is_right_side t ≡ true
unfolding is_right_side
right_side_stands t h = part_by (starts Atoms start.Alpha t) _ _ h

pub right_first_here : (t : Text) → is_right_side t ≡ true → starts Atoms start.Alpha t ≡ true → is_phrase row.FIRST_AND_OPERATIONS t ≡ true
unfolding is_right_side
right_first_here t ok is = sym (ap (λ (b : Bool). if b then is_phrase row.FIRST_AND_OPERATIONS t else is_phrase row.OPERATIONS t) is) ∙ ok

pub right_first_is : (e : Context) (t : Text) → starts Atoms start.Alpha t ≡ true → right_side e (right_side_tree t) ≡ first_and_operations e (tree_at row.FIRST_AND_OPERATIONS t)
unfolding right_side_tree right_side
right_first_is e t is = ap (λ (b : Bool). right_side e (if b then In 1 (tree_at row.FIRST_AND_OPERATIONS t) Done else In 0 (tree_at row.OPERATIONS t) Done)) is

pub right_first_rest : (t : Text) → starts Atoms start.Alpha t ≡ true → after_right_side t ≡ after_phrase row.FIRST_AND_OPERATIONS t
unfolding after_right_side
right_first_rest t is = ap (λ (b : Bool). if b then after_phrase row.FIRST_AND_OPERATIONS t else after_phrase row.OPERATIONS t) is

pub right_alone_here : (t : Text) → is_right_side t ≡ true → starts Atoms start.Alpha t ≡ false → is_phrase row.OPERATIONS t ≡ true
unfolding is_right_side
right_alone_here t ok is = sym (ap (λ (b : Bool). if b then is_phrase row.FIRST_AND_OPERATIONS t else is_phrase row.OPERATIONS t) is) ∙ ok

pub right_alone_is : (e : Context) (t : Text) → starts Atoms start.Alpha t ≡ false → right_side e (right_side_tree t) ≡ operations_alone e (tree_at row.OPERATIONS t)
unfolding right_side_tree right_side
right_alone_is e t is = ap (λ (b : Bool). right_side e (if b then In 1 (tree_at row.FIRST_AND_OPERATIONS t) Done else In 0 (tree_at row.OPERATIONS t) Done)) is

pub right_alone_rest : (t : Text) → starts Atoms start.Alpha t ≡ false → after_right_side t ≡ after_phrase row.OPERATIONS t
unfolding after_right_side
right_alone_rest t is = ap (λ (b : Bool). if b then after_phrase row.FIRST_AND_OPERATIONS t else after_phrase row.OPERATIONS t) is
