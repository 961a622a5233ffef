-- Numeric operands, by their rows: where the parts of each stand, what the tree comes to, and what is left.
use Rattle.std.proofs.Common.{◌≡◌, ◌<◌, ℕ, length, arith, Bool, true, false, ◌||◌, nat_lt, if◌then◌else◌, List, [], ◌∷◌, drop, take, get_or, refl, ap, ◌∙◌, subst, length-drop}
use Rattle.b2_base.specs.Byte as byte
use Rattle.b2_base.specs.Lexical.{first, is_digit, is_letter}
use Rattle.b2_base.specs.declared.codes.TheConstants.{S10_OPEN, S11_CLOSE, S13_SEPARATOR, S17_NUMERIC, S21_COMPARISON, S22_WORD}
use Rattle.b2_atom.specs.Words.{Text}
use Rattle.b2_atom.specs.Leaves.{leaf_width}
use Rattle.b2_atom.specs.Tokens.Token.{Coded}
use Rattle.b2_atom.specs.Tree.{Trees}
use Rattle.b2_atom.specs.Tree.Trees.{Done, Put, In}
use Rattle.b2_atom.specs.Grammar.{row_items}
use Rattle.b2_atom.specs.declared.words.Origin.TheVariants.{Atoms}
use Rattle.b2_atom.specs.declared.words.TheConstants as word
use Rattle.b2_atom.specs.declared.rows.TheConstants as row
use Rattle.b2_atom.specs.declared.forms.Start.TheVariants as start
use Rattle.b2_atom.specs.declared.forms.Leaf.TheVariants as leaf
use Rattle.b2_atom.specs.declared.forms.Item.{Item}
use Rattle.b2_atom.specs.declared.forms.Item.TheVariants.{Word, Among, Sign, Typed, Part, Maybe, Nest}
use Rattle.b2_rows.specs.Rows.{is_phrase, tree_at, after_phrase}
use Rattle.b2_rows.specs.Leaves.{is_leaf}
use Rattle.b2_rows.specs.Values.{relation_of}
use Rattle.b2_rows.specs.Optional.{maybe_phrase, maybe_tree, after_maybe}
use Rattle.b2_rows.proofs.Optional.{maybe_stands}
use Rattle.b2_rows.proofs.Levels.{part_no_longer}
use Rattle.b2_expr.specs.Answers.{◌>>=◌}
use Rattle.b2_expr.specs.Functions.{of_one, of_two, of_text, position_of, count_or, number_of, whole_number}
use Rattle.b2_expr.specs.Scope.{Context, Surroundings, kept_number}
use Rattle.b2_expr.specs.Value.{value, operand, text, second, extremes, literal_number, literal_value, kept_value}
use Rattle.b2_expr.specs.declared.operators.Level.TheVariants as level
use Rattle.b2_rows.specs.declared.operands.Operand.TheVariants as kind
use Rattle.b2_expr.specs.Further.{are_further, further_tree, after_further}
use Rattle.b2_rows.proofs.RowsRead.{stands_of, shorter_at, shorter_among}
use Rattle.b2_expr.proofs.Extremes.{numbers_front, numbers_further, numbers_tree, numbers_gives, numbers_rest}

-- an expression in parentheses
abbrev group_items : List Item
group_items = Sign byte.opening S10_OPEN ∷ Nest row.SUM ∷ Sign byte.closing S11_CLOSE ∷ []

group_row : row_items row.PARENTHESES ≡ group_items
unfolding row_items
group_row = refl

pub group_sum : (t : Text) → is_phrase row.PARENTHESES t ≡ true → is_phrase row.SUM (drop 1 t) ≡ true
group_sum t ok = (stands_of row.PARENTHESES group_items t group_row ok).0.1.0

pub group_is : (e : Context) (t : Text) → is_phrase row.PARENTHESES t ≡ true → operand e kind.Parentheses (tree_at row.PARENTHESES t) ≡ value e level.Sum (tree_at row.SUM (drop 1 t))
unfolding operand
group_is e t ok = ap (operand e kind.Parentheses) (stands_of row.PARENTHESES group_items t group_row ok).1

pub group_rest : (t : Text) → is_phrase row.PARENTHESES t ≡ true → after_phrase row.PARENTHESES t ≡ drop 1 (after_phrase row.SUM (drop 1 t))
group_rest t ok = (stands_of row.PARENTHESES group_items t group_row ok).2

pub group_shorter : (t : Text) → is_phrase row.PARENTHESES t ≡ true → length (drop 1 t) < length t
group_shorter t ok = shorter_at t 39 (stands_of row.PARENTHESES group_items t group_row ok).0.0

-- a function of one number
abbrev one_items : List Item
one_items = Among word.ABS_OPEN word.SQR_OPEN S17_NUMERIC ∷ Nest row.SUM ∷ Sign byte.closing S11_CLOSE ∷ []

one_row : row_items row.OF_ONE ≡ one_items
unfolding row_items
one_row = refl

pub one_sum : (t : Text) → is_phrase row.OF_ONE t ≡ true → is_phrase row.SUM (drop 1 t) ≡ true
one_sum t ok = (stands_of row.OF_ONE one_items t one_row ok).0.1.0

pub one_is : (e : Context) (t : Text) → is_phrase row.OF_ONE t ≡ true → operand e kind.OfOne (tree_at row.OF_ONE t) ≡ (value e level.Sum (tree_at row.SUM (drop 1 t)) >>= of_one (first t))
unfolding operand
one_is e t ok = ap (operand e kind.OfOne) (stands_of row.OF_ONE one_items t one_row ok).1

pub one_rest : (t : Text) → is_phrase row.OF_ONE t ≡ true → after_phrase row.OF_ONE t ≡ drop 1 (after_phrase row.SUM (drop 1 t))
one_rest t ok = (stands_of row.OF_ONE one_items t one_row ok).2

pub one_shorter : (t : Text) → is_phrase row.OF_ONE t ≡ true → length (drop 1 t) < length t
one_shorter t ok = shorter_among word.ABS_OPEN word.SQR_OPEN t refl (stands_of row.OF_ONE one_items t one_row ok).0.0

-- a function of two numbers
abbrev two_items : List Item
two_items = Among word.ROUND_OPEN word.MOD_OPEN S17_NUMERIC ∷ Nest row.TWO_NUMBERS ∷ Sign byte.closing S11_CLOSE ∷ []

two_row : row_items row.OF_TWO ≡ two_items
unfolding row_items
two_row = refl

abbrev pair_items : List Item
pair_items = Part row.SUM ∷ Sign byte.comma S13_SEPARATOR ∷ Part row.SUM ∷ []

pair_row : row_items row.TWO_NUMBERS ≡ pair_items
unfolding row_items
pair_row = refl

pair_of : (t : Text) → is_phrase row.OF_TWO t ≡ true → is_phrase row.TWO_NUMBERS (drop 1 t) ≡ true
pair_of t ok = (stands_of row.OF_TWO two_items t two_row ok).0.1.0

abbrev pub second_at : Text → Text
second_at t = drop 1 (after_phrase row.SUM (drop 1 t))

pub two_first : (t : Text) → is_phrase row.OF_TWO t ≡ true → is_phrase row.SUM (drop 1 t) ≡ true
two_first t ok = (stands_of row.TWO_NUMBERS pair_items (drop 1 t) pair_row (pair_of t ok)).0.0

pub two_second : (t : Text) → is_phrase row.OF_TWO t ≡ true → is_phrase row.SUM (second_at t) ≡ true
two_second t ok = (stands_of row.TWO_NUMBERS pair_items (drop 1 t) pair_row (pair_of t ok)).0.1.1.0

pub two_is : (e : Context) (t : Text) → is_phrase row.OF_TWO t ≡ true → operand e kind.OfTwo (tree_at row.OF_TWO t)
    ≡ (value e level.Sum (tree_at row.SUM (drop 1 t)) >>= (λ x. value e level.Sum (tree_at row.SUM (second_at t)) >>= of_two e.around.mode (first t) x))
unfolding operand
two_is e t ok =
    ap (operand e kind.OfTwo) (stands_of row.OF_TWO two_items t two_row ok).1
    ∙ ap (λ (a : Trees). operand e kind.OfTwo (Put (Coded (first t)) (In 2 a (Put (Coded byte.closing) Done)))) (stands_of row.TWO_NUMBERS pair_items (drop 1 t) pair_row (pair_of t ok)).1

pub two_rest : (t : Text) → is_phrase row.OF_TWO t ≡ true → after_phrase row.OF_TWO t ≡ drop 1 (after_phrase row.SUM (second_at t))
two_rest t ok =
    (stands_of row.OF_TWO two_items t two_row ok).2
    ∙ ap (drop 1) (stands_of row.TWO_NUMBERS pair_items (drop 1 t) pair_row (pair_of t ok)).2

pub two_shorter : (t : Text) → is_phrase row.OF_TWO t ≡ true → length (drop 1 t) < length t
two_shorter t ok = shorter_among word.ROUND_OPEN word.MOD_OPEN t refl (stands_of row.OF_TWO two_items t two_row ok).0.0

pub second_shorter : (t : Text) → is_phrase row.OF_TWO t ≡ true → length (second_at t) < length t
second_shorter t ok =
    let a = two_shorter t ok in
    let b = part_no_longer row.SUM (drop 1 t) in
    omega (arith, a, b, length-drop 1 (after_phrase row.SUM (drop 1 t)))

-- a function of an alpha value
abbrev alpha_items : List Item
alpha_items = Among word.LEN_OPEN word.NUM_OPEN S17_NUMERIC ∷ Nest row.ALPHA ∷ Sign byte.closing S11_CLOSE ∷ []

alpha_row : row_items row.OF_ALPHA ≡ alpha_items
unfolding row_items
alpha_row = refl

pub alpha_text : (t : Text) → is_phrase row.OF_ALPHA t ≡ true → is_phrase row.ALPHA (drop 1 t) ≡ true
alpha_text t ok = (stands_of row.OF_ALPHA alpha_items t alpha_row ok).0.1.0

pub alpha_is : (e : Context) (t : Text) → is_phrase row.OF_ALPHA t ≡ true → operand e kind.OfAlpha (tree_at row.OF_ALPHA t) ≡ (text e (tree_at row.ALPHA (drop 1 t)) >>= of_text (first t))
unfolding operand
alpha_is e t ok = ap (operand e kind.OfAlpha) (stands_of row.OF_ALPHA alpha_items t alpha_row ok).1

pub alpha_rest : (t : Text) → is_phrase row.OF_ALPHA t ≡ true → after_phrase row.OF_ALPHA t ≡ drop 1 (after_phrase row.ALPHA (drop 1 t))
alpha_rest t ok = (stands_of row.OF_ALPHA alpha_items t alpha_row ok).2

pub alpha_shorter : (t : Text) → is_phrase row.OF_ALPHA t ≡ true → length (drop 1 t) < length t
alpha_shorter t ok = shorter_among word.LEN_OPEN word.NUM_OPEN t refl (stands_of row.OF_ALPHA alpha_items t alpha_row ok).0.0

-- the last code, the partition or the terminal
abbrev kept_items : List Item
kept_items = Among word.ERR word.HASH_TERM S17_NUMERIC ∷ []

kept_row : row_items row.KEPT_NUMBER ≡ kept_items
unfolding row_items
kept_row = refl

pub kept_is : (e : Surroundings) (t : Text) → is_phrase row.KEPT_NUMBER t ≡ true → kept_value e (tree_at row.KEPT_NUMBER t) ≡ whole_number (kept_number e (first t))
kept_is e t ok = ap (kept_value e) (stands_of row.KEPT_NUMBER kept_items t kept_row ok).1

pub kept_rest : (t : Text) → is_phrase row.KEPT_NUMBER t ≡ true → after_phrase row.KEPT_NUMBER t ≡ drop 1 t
kept_rest t ok = (stands_of row.KEPT_NUMBER kept_items t kept_row ok).2

-- a number that is written out
abbrev literal_items : List Item
literal_items = Typed leaf.Number S17_NUMERIC ∷ []

literal_row : row_items row.NUMBER ≡ literal_items
unfolding row_items
literal_row = refl

pub literal_is : (t : Text) → is_phrase row.NUMBER t ≡ true → literal_number (tree_at row.NUMBER t) ≡ literal_value (take (leaf_width Atoms leaf.Number t) t)
literal_is t ok = ap literal_number (stands_of row.NUMBER literal_items t literal_row ok).1

pub literal_rest : (t : Text) → is_phrase row.NUMBER t ≡ true → after_phrase row.NUMBER t ≡ drop (leaf_width Atoms leaf.Number t) t
literal_rest t ok = (stands_of row.NUMBER literal_items t literal_row ok).2

pub literal_here : (t : Text) → is_phrase row.NUMBER t ≡ true → is_leaf leaf.Number t ≡ true
literal_here t ok = (stands_of row.NUMBER literal_items t literal_row ok).0.0

-- a call of a function
abbrev call_items : List Item
call_items = Word word.FN ∷ Typed leaf.FunctionName S22_WORD ∷ Sign byte.opening S10_OPEN ∷ Nest row.SUM ∷ Sign byte.closing S11_CLOSE ∷ []

call_row : row_items row.FUNCTION ≡ call_items
unfolding row_items
call_row = refl

-- the name is one byte
one_letter : (b : Bool) → nat_lt 0 (if b then 1 else 0) ≡ true → ◌≡◌ {A = ℕ} (if b then 1 else 0) 1
one_letter true h = refl
one_letter false h = cc

name_size : (t : Text) → is_phrase row.FUNCTION t ≡ true → leaf_width Atoms leaf.FunctionName (drop 1 t) ≡ 1
name_size t ok = one_letter _ (stands_of row.FUNCTION call_items t call_row ok).0.1.0

abbrev argument_at : Text → Text
argument_at t = drop 1 (drop (leaf_width Atoms leaf.FunctionName (drop 1 t)) (drop 1 t))

drop_three : (t : Text) → drop 1 (drop 1 (drop 1 t)) ≡ drop 3 t
drop_three [] = refl
drop_three (a ∷ []) = refl
drop_three (a ∷ b ∷ []) = refl
drop_three (a ∷ b ∷ c ∷ t) = refl

argument_is : (t : Text) → is_phrase row.FUNCTION t ≡ true → argument_at t ≡ drop 3 t
argument_is t ok = ap (λ (n : ℕ). drop 1 (drop n (drop 1 t))) (name_size t ok) ∙ drop_three t

pub call_sum : (t : Text) → is_phrase row.FUNCTION t ≡ true → is_phrase row.SUM (drop 3 t) ≡ true
call_sum t ok = subst (λ (u : Text). is_phrase row.SUM u ≡ true) (argument_is t ok) (stands_of row.FUNCTION call_items t call_row ok).0.1.1.1.0

letter_of : (b c : Bool) → nat_lt 0 (if b || c then 1 else 0) ≡ true → (b || c) ≡ true
letter_of true c h = refl
letter_of false true h = refl
letter_of false false h = cc

first_of_rest : (t : Text) → first (drop 1 t) ≡ get_or t 1 0
first_of_rest [] = refl
first_of_rest (a ∷ []) = refl
first_of_rest (a ∷ b ∷ t) = refl

pub call_name : (t : Text) → is_phrase row.FUNCTION t ≡ true → (is_letter (get_or t 1 0) || is_digit (get_or t 1 0)) ≡ true
call_name t ok =
    subst (λ (b : ℕ). (is_letter b || is_digit b) ≡ true) (first_of_rest t) (letter_of (is_letter (first (drop 1 t))) (is_digit (first (drop 1 t))) (stands_of row.FUNCTION call_items t call_row ok).0.1.0)

first_of_one : (t : Text) → first (take 1 t) ≡ first t
first_of_one [] = refl
first_of_one (b ∷ t) = refl

pub call_is : (e : Context) (t : Text) → is_phrase row.FUNCTION t ≡ true → operand e kind.Function (tree_at row.FUNCTION t) ≡ (value e level.Sum (tree_at row.SUM (drop 3 t)) >>= e.call (get_or t 1 0))
unfolding operand
call_is e t ok =
    ap (operand e kind.Function) (stands_of row.FUNCTION call_items t call_row ok).1
    ∙ ap (λ (n : ℕ). value e level.Sum (tree_at row.SUM (argument_at t)) >>= e.call (first (take n (drop 1 t)))) (name_size t ok)
    ∙ ap (λ (b : ℕ). value e level.Sum (tree_at row.SUM (argument_at t)) >>= e.call b) (first_of_one (drop 1 t) ∙ first_of_rest t)
    ∙ ap (λ (u : Text). value e level.Sum (tree_at row.SUM u) >>= e.call (get_or t 1 0)) (argument_is t ok)

pub call_rest : (t : Text) → is_phrase row.FUNCTION t ≡ true → after_phrase row.FUNCTION t ≡ drop 1 (after_phrase row.SUM (drop 3 t))
call_rest t ok = (stands_of row.FUNCTION call_items t call_row ok).2 ∙ ap (λ (u : Text). drop 1 (after_phrase row.SUM u)) (argument_is t ok)

pub call_shorter : (t : Text) → is_phrase row.FUNCTION t ≡ true → length (drop 3 t) < length t
call_shorter t ok =
    let a = shorter_at t 148 (stands_of row.FUNCTION call_items t call_row ok).0.0 in
    omega (arith, a, length-drop 3 t, length-drop 1 t)

-- a position
abbrev position_items : List Item
position_items = Word word.POS_OPEN ∷ Nest row.POSITION_ARGUMENTS ∷ Sign byte.closing S11_CLOSE ∷ []

position_row : row_items row.POSITION ≡ position_items
unfolding row_items
position_row = refl

abbrev compared_items : List Item
compared_items = Part row.ALPHA ∷ Typed leaf.Relation S21_COMPARISON ∷ Part row.ALPHA ∷ []

arguments_row : row_items row.POSITION_ARGUMENTS ≡ compared_items
unfolding row_items
arguments_row = refl

arguments_of : (t : Text) → is_phrase row.POSITION t ≡ true → is_phrase row.POSITION_ARGUMENTS (drop 1 t) ≡ true
arguments_of t ok = (stands_of row.POSITION position_items t position_row ok).0.1.0

-- where the sign and the second value of a comparison stand
abbrev pub sign_at : ℕ → Text → Text
sign_at n t = after_phrase n t

abbrev pub sign_size : ℕ → Text → ℕ
sign_size n t = leaf_width Atoms leaf.Relation (sign_at n t)

abbrev pub other_at : ℕ → Text → Text
other_at n t = drop (sign_size n t) (sign_at n t)

pub position_first : (t : Text) → is_phrase row.POSITION t ≡ true → is_phrase row.ALPHA (drop 1 t) ≡ true
position_first t ok = (stands_of row.POSITION_ARGUMENTS compared_items (drop 1 t) arguments_row (arguments_of t ok)).0.0

pub position_sign : (t : Text) → is_phrase row.POSITION t ≡ true → is_leaf leaf.Relation (sign_at row.ALPHA (drop 1 t)) ≡ true
position_sign t ok = (stands_of row.POSITION_ARGUMENTS compared_items (drop 1 t) arguments_row (arguments_of t ok)).0.1.0

pub position_second : (t : Text) → is_phrase row.POSITION t ≡ true → is_phrase row.ALPHA (other_at row.ALPHA (drop 1 t)) ≡ true
position_second t ok = (stands_of row.POSITION_ARGUMENTS compared_items (drop 1 t) arguments_row (arguments_of t ok)).0.1.1.0

pub position_is : (e : Context) (t : Text) → is_phrase row.POSITION t ≡ true → operand e kind.Position (tree_at row.POSITION t)
    ≡ (text e (tree_at row.ALPHA (drop 1 t)) >>= (λ x. text e (tree_at row.ALPHA (other_at row.ALPHA (drop 1 t)))
    >>= position_of (relation_of (take (sign_size row.ALPHA (drop 1 t)) (sign_at row.ALPHA (drop 1 t)))) x))
unfolding operand
position_is e t ok =
    ap (operand e kind.Position) (stands_of row.POSITION position_items t position_row ok).1
    ∙ ap (λ (a : Trees). operand e kind.Position (Put (Coded word.POS_OPEN) (In 2 a (Put (Coded byte.closing) Done)))) (stands_of row.POSITION_ARGUMENTS compared_items (drop 1 t) arguments_row (arguments_of t ok)).1

pub position_rest : (t : Text) → is_phrase row.POSITION t ≡ true → after_phrase row.POSITION t ≡ drop 1 (after_phrase row.ALPHA (other_at row.ALPHA (drop 1 t)))
position_rest t ok =
    (stands_of row.POSITION position_items t position_row ok).2
    ∙ ap (drop 1) (stands_of row.POSITION_ARGUMENTS compared_items (drop 1 t) arguments_row (arguments_of t ok)).2

pub position_shorter : (t : Text) → is_phrase row.POSITION t ≡ true → length (drop 1 t) < length t
position_shorter t ok = shorter_at t 225 (stands_of row.POSITION position_items t position_row ok).0.0

pub other_shorter : (t : Text) → is_phrase row.POSITION t ≡ true → length (other_at row.ALPHA (drop 1 t)) < length t
other_shorter t ok =
    let a = position_shorter t ok in
    let b = part_no_longer row.ALPHA (drop 1 t) in
    omega (arith, a, b, length-drop (sign_size row.ALPHA (drop 1 t)) (sign_at row.ALPHA (drop 1 t)))

-- the number of bytes
abbrev bytes_items : List Item
bytes_items = Word word.VAL_OPEN ∷ Nest row.ALPHA_AND_NUMBER ∷ Sign byte.closing S11_CLOSE ∷ []

bytes_row : row_items row.VALUE ≡ bytes_items
unfolding row_items
bytes_row = refl

abbrev counted_items : List Item
counted_items = Part row.ALPHA ∷ Maybe (start.Code byte.comma) row.COMMA_NUMBER ∷ []

counted_row : row_items row.ALPHA_AND_NUMBER ≡ counted_items
unfolding row_items
counted_row = refl

counted_of : (t : Text) → is_phrase row.VALUE t ≡ true → is_phrase row.ALPHA_AND_NUMBER (drop 1 t) ≡ true
counted_of t ok = (stands_of row.VALUE bytes_items t bytes_row ok).0.1.0

pub bytes_first : (t : Text) → is_phrase row.VALUE t ≡ true → is_phrase row.ALPHA (drop 1 t) ≡ true
bytes_first t ok = (stands_of row.ALPHA_AND_NUMBER counted_items (drop 1 t) counted_row (counted_of t ok)).0.0

pub bytes_count : (t : Text) → is_phrase row.VALUE t ≡ true → maybe_phrase (start.Code byte.comma) row.COMMA_NUMBER (after_phrase row.ALPHA (drop 1 t)) ≡ true
bytes_count t ok = maybe_stands _ _ _ (stands_of row.ALPHA_AND_NUMBER counted_items (drop 1 t) counted_row (counted_of t ok)).0.1

counted_tree : (t : Text) → is_phrase row.VALUE t ≡ true
    → tree_at row.ALPHA_AND_NUMBER (drop 1 t) ≡ In 2 (tree_at row.ALPHA (drop 1 t)) (maybe_tree (start.Code byte.comma) row.COMMA_NUMBER (after_phrase row.ALPHA (drop 1 t)))
unfolding maybe_tree
counted_tree t ok = (stands_of row.ALPHA_AND_NUMBER counted_items (drop 1 t) counted_row (counted_of t ok)).1

pub bytes_is : (e : Context) (t : Text) → is_phrase row.VALUE t ≡ true → operand e kind.Value (tree_at row.VALUE t)
    ≡ (text e (tree_at row.ALPHA (drop 1 t)) >>= (λ x. second e (maybe_tree (start.Code byte.comma) row.COMMA_NUMBER (after_phrase row.ALPHA (drop 1 t))) >>= count_or 1 1 4 >>= number_of x))
unfolding operand
bytes_is e t ok =
    ap (operand e kind.Value) (stands_of row.VALUE bytes_items t bytes_row ok).1
    ∙ ap (λ (a : Trees). operand e kind.Value (Put (Coded word.VAL_OPEN) (In 2 a (Put (Coded byte.closing) Done)))) (counted_tree t ok)

pub bytes_rest : (t : Text) → is_phrase row.VALUE t ≡ true → after_phrase row.VALUE t ≡ drop 1 (after_maybe (start.Code byte.comma) row.COMMA_NUMBER (after_phrase row.ALPHA (drop 1 t)))
unfolding after_maybe
bytes_rest t ok =
    (stands_of row.VALUE bytes_items t bytes_row ok).2
    ∙ ap (drop 1) (stands_of row.ALPHA_AND_NUMBER counted_items (drop 1 t) counted_row (counted_of t ok)).2

pub bytes_shorter : (t : Text) → is_phrase row.VALUE t ≡ true → length (drop 1 t) < length t
bytes_shorter t ok = shorter_at t 226 (stands_of row.VALUE bytes_items t bytes_row ok).0.0

pub count_shorter : (t : Text) → is_phrase row.VALUE t ≡ true → length (after_phrase row.ALPHA (drop 1 t)) < length t
count_shorter t ok =
    let a = bytes_shorter t ok in
    let b = part_no_longer row.ALPHA (drop 1 t) in
    omega (arith, a, b)

-- MAX or MIN
abbrev more_items : List Item
more_items = Among word.MAX_OPEN word.MIN_OPEN S17_NUMERIC ∷ Nest row.NUMBERS_2 ∷ Sign byte.closing S11_CLOSE ∷ []

more_row : row_items row.OF_MORE ≡ more_items
unfolding row_items
more_row = refl

numbers_of : (t : Text) → is_phrase row.OF_MORE t ≡ true → is_phrase row.NUMBERS_2 (drop 1 t) ≡ true
numbers_of t ok = (stands_of row.OF_MORE more_items t more_row ok).0.1.0

pub more_first : (t : Text) → is_phrase row.OF_MORE t ≡ true → is_phrase row.SUM (drop 1 t) ≡ true
more_first t ok = numbers_front (drop 1 t) (numbers_of t ok)

pub more_further : (t : Text) → is_phrase row.OF_MORE t ≡ true → are_further 7 (after_phrase row.SUM (drop 1 t)) ≡ true
more_further t ok = numbers_further (drop 1 t) (numbers_of t ok)

pub more_is : (e : Context) (t : Text) → is_phrase row.OF_MORE t ≡ true → operand e kind.OfMore (tree_at row.OF_MORE t)
    ≡ extremes e (first t) (value e level.Sum (tree_at row.SUM (drop 1 t))) (further_tree 7 (after_phrase row.SUM (drop 1 t)))
unfolding operand
more_is e t ok =
    ap (operand e kind.OfMore) (stands_of row.OF_MORE more_items t more_row ok).1
    ∙ ap (λ (a : Trees). operand e kind.OfMore (Put (Coded (first t)) (In 2 a (Put (Coded byte.closing) Done)))) (numbers_tree (drop 1 t) (numbers_of t ok))
    ∙ numbers_gives e (first t) (value e level.Sum (tree_at row.SUM (drop 1 t))) (drop 1 t) (numbers_of t ok)

pub more_rest : (t : Text) → is_phrase row.OF_MORE t ≡ true → after_phrase row.OF_MORE t ≡ drop 1 (after_further 7 (after_phrase row.SUM (drop 1 t)))
more_rest t ok = (stands_of row.OF_MORE more_items t more_row ok).2 ∙ ap (drop 1) (numbers_rest (drop 1 t) (numbers_of t ok))

pub more_shorter : (t : Text) → is_phrase row.OF_MORE t ≡ true → length (drop 1 t) < length t
more_shorter t ok = shorter_among word.MAX_OPEN word.MIN_OPEN t refl (stands_of row.OF_MORE more_items t more_row ok).0.0

pub rest_shorter : (t : Text) → is_phrase row.OF_MORE t ≡ true → length (after_phrase row.SUM (drop 1 t)) < length t
rest_shorter t ok = let a = more_shorter t ok in let b = part_no_longer row.SUM (drop 1 t) in omega (arith, a, b)
