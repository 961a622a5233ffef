-- Conditions and comparisons, by their rows.
use Rattle.std.proofs.Common.{◌≡◌, ◌<◌, ℕ, length, Bool, true, false, List, [], ◌∷◌, drop, take, refl, ap, ◌∙◌, Ok, Err, Result}
use Rattle.std.specs.Ordering.{int_cmp}
use Rattle.b2_base.specs.Lexical.{first}
use Rattle.b2_base.specs.declared.codes.TheConstants.{S21_COMPARISON, S22_WORD}
use Rattle.b2_dec.specs.Number.{value as size_of_number}
use Rattle.b2_alpha.specs.Relations.{holds, order_of}
use Rattle.b2_atom.specs.Words.{Text}
use Rattle.b2_atom.specs.Tree.{Trees}
use Rattle.b2_atom.specs.Tree.Trees.{Done, Put, In}
use Rattle.b2_atom.specs.Grammar.{row_items, starts}
use Rattle.b2_atom.specs.declared.words.Origin.TheVariants.{Atoms}
use Rattle.b2_atom.specs.declared.words.TheConstants as word
use Rattle.b2_atom.specs.declared.rows.TheConstants as row
use Rattle.b2_atom.specs.declared.forms.Start.TheVariants as start
use Rattle.b2_atom.specs.declared.forms.Leaf.TheVariants as leaf
use Rattle.b2_atom.specs.declared.forms.Item.{Item}
use Rattle.b2_atom.specs.declared.forms.Item.TheVariants.{Among, Typed, Part, Either}
use Rattle.b2_rows.specs.Rows.{is_phrase, tree_at, after_phrase, is_list, list_at, after_list, Goes}
use Rattle.b2_rows.specs.Leaves.{is_leaf}
use Rattle.b2_rows.specs.Values.{relation_of}
use Rattle.b2_rows.specs.Chains.{is_operator_of, more_start}
use Rattle.b2_rows.specs.Choices.{ReadAs, first_branch, second_branch}
use Rattle.b2_rows.specs.declared.chains.Chain.TheVariants as chain
use Rattle.b2_rows.proofs.Choices.{either_first, either_second}
use Rattle.b2_rows.proofs.Lists.{goes}
use Rattle.b2_rows.proofs.EachChain as each
use Rattle.b2_expr.specs.Answers.{◌>>=◌}
use Rattle.b2_expr.specs.Condition.{compared_text, compared_numbers, compared, further_condition, truth}
use Rattle.b2_expr.specs.Operators.{joined_condition}
use Rattle.b2_expr.specs.Scope.{Context}
use Rattle.b2_expr.specs.Value.{value, text}
use Rattle.b2_expr.specs.declared.operators.Level.TheVariants as level
use Rattle.b2_expr.proofs.Operands.{sign_at, sign_size, other_at}
use Rattle.b2_rows.proofs.RowsRead.{stands_of}

-- a chain of comparisons
pub truth_first : (t : Text) → is_phrase row.CONDITION t ≡ true → is_phrase row.COMPARISON t ≡ true
truth_first t ok = each.condition_item t ok

pub truth_list : (t : Text) → is_phrase row.CONDITION t ≡ true → is_list (more_start chain.Condition) row.FURTHER_COMPARISON (after_phrase row.COMPARISON t) ≡ true
truth_list t ok = each.condition_list t ok

pub truth_value : (e : Context) (t : Text) → is_phrase row.CONDITION t ≡ true
    → truth e (tree_at row.CONDITION t) ≡ further_condition e (compared e (tree_at row.COMPARISON t)) (list_at (more_start chain.Condition) row.FURTHER_COMPARISON (after_phrase row.COMPARISON t))
unfolding truth
truth_value e t ok = ap (truth e) (each.condition_tree t ok)

pub truth_rest : (t : Text) → is_phrase row.CONDITION t ≡ true → after_phrase row.CONDITION t ≡ after_list (more_start chain.Condition) row.FURTHER_COMPARISON (after_phrase row.COMPARISON t)
truth_rest t ok = each.condition_rest t ok

-- a further comparison, and none
pub on_comparison : (t : Text) → is_list (more_start chain.Condition) row.FURTHER_COMPARISON t ≡ true → is_operator_of chain.Condition (first t) ≡ true → is_phrase row.COMPARISON (drop 1 t) ≡ true
on_comparison t ok b = each.more_item chain.Condition t ok b

pub on_list : (t : Text) → is_list (more_start chain.Condition) row.FURTHER_COMPARISON t ≡ true → is_operator_of chain.Condition (first t) ≡ true
    → is_list (more_start chain.Condition) row.FURTHER_COMPARISON (after_phrase row.COMPARISON (drop 1 t)) ≡ true
on_list t ok b = each.more_list chain.Condition t ok b

abbrev further_items : List Item
further_items = Among word.AND word.XOR S22_WORD ∷ Part row.COMPARISON ∷ []

further_row : row_items row.FURTHER_COMPARISON ≡ further_items
unfolding row_items
further_row = refl

begins : (t : Text) → is_operator_of chain.Condition (first t) ≡ true → starts Atoms (more_start chain.Condition) t ≡ true
unfolding starts
begins t b = b

further_part : (t : Text) → is_list (more_start chain.Condition) row.FURTHER_COMPARISON t ≡ true → is_operator_of chain.Condition (first t) ≡ true → is_phrase row.FURTHER_COMPARISON t ≡ true
further_part t ok b = Goes.part (goes (more_start chain.Condition) row.FURTHER_COMPARISON t ok (begins t b))

pub on_value : (e : Context) (x : Result Bool ℕ) (t : Text) → is_list (more_start chain.Condition) row.FURTHER_COMPARISON t ≡ true → is_operator_of chain.Condition (first t) ≡ true
    → further_condition e x (list_at (more_start chain.Condition) row.FURTHER_COMPARISON t)
    ≡ further_condition e (x >>= (λ p. compared e (tree_at row.COMPARISON (drop 1 t)) >>= (λ q. Ok (joined_condition (first t) p q)))) (list_at (more_start chain.Condition) row.FURTHER_COMPARISON (after_phrase row.COMPARISON (drop 1 t)))
on_value e x t ok b =
    ap (further_condition e x) (each.more_tree chain.Condition t ok b)
    ∙ ap (λ (a : Trees). further_condition e x (In 1 a (list_at (more_start chain.Condition) row.FURTHER_COMPARISON (after_phrase row.COMPARISON (drop 1 t))))) (stands_of row.FURTHER_COMPARISON further_items t further_row (further_part t ok b)).1

pub on_rest : (t : Text) → is_list (more_start chain.Condition) row.FURTHER_COMPARISON t ≡ true → is_operator_of chain.Condition (first t) ≡ true
    → after_list (more_start chain.Condition) row.FURTHER_COMPARISON t ≡ after_list (more_start chain.Condition) row.FURTHER_COMPARISON (after_phrase row.COMPARISON (drop 1 t))
on_rest t ok b = each.more_rest chain.Condition t ok b

pub on_shorter : (t : Text) → is_operator_of chain.Condition (first t) ≡ true → length (after_phrase row.COMPARISON (drop 1 t)) < length t
on_shorter t b = each.more_shorter chain.Condition t b

pub off_value : (e : Context) (x : Result Bool ℕ) (t : Text) → is_operator_of chain.Condition (first t) ≡ false → further_condition e x (list_at (more_start chain.Condition) row.FURTHER_COMPARISON t) ≡ x
off_value e x t b = ap (further_condition e x) (each.no_more chain.Condition t b)

pub off_rest : (t : Text) → is_operator_of chain.Condition (first t) ≡ false → after_list (more_start chain.Condition) row.FURTHER_COMPARISON t ≡ t
off_rest t b = each.no_rest chain.Condition t b

pub condition_refused : (e : Context) (code : ℕ) (t : Trees) → further_condition e (Err code) t ≡ Err code
condition_refused e code (In n (Put sign (In m a end)) more) = condition_refused e code more
condition_refused e code Done = refl
condition_refused e code (Put token more) = refl
condition_refused e code (In n Done more) = refl
condition_refused e code (In n (In k a b) more) = refl
condition_refused e code (In n (Put token Done) more) = refl
condition_refused e code (In n (Put token (Put t u)) more) = refl

-- comparisons of alpha expressions, and of numeric ones
comparison_row : row_items row.COMPARISON ≡ Either start.Alpha row.ALPHA_COMPARISON row.NUMERIC_COMPARISON ∷ []
unfolding row_items
comparison_row = refl

alpha_read : (t : Text) → is_phrase row.COMPARISON t ≡ true → starts Atoms start.Alpha t ≡ true → ReadAs row.COMPARISON row.ALPHA_COMPARISON first_branch t
alpha_read t ok is = either_first row.COMPARISON row.ALPHA_COMPARISON row.NUMERIC_COMPARISON start.Alpha t comparison_row ok is

numeric_read : (t : Text) → is_phrase row.COMPARISON t ≡ true → starts Atoms start.Alpha t ≡ false → ReadAs row.COMPARISON row.NUMERIC_COMPARISON second_branch t
numeric_read t ok is = either_second row.COMPARISON row.ALPHA_COMPARISON row.NUMERIC_COMPARISON start.Alpha t comparison_row ok is

pub alpha_here : (t : Text) → is_phrase row.COMPARISON t ≡ true → starts Atoms start.Alpha t ≡ true → is_phrase row.ALPHA_COMPARISON t ≡ true
alpha_here t ok is = ReadAs.part (alpha_read t ok is)

pub alpha_gives : (e : Context) (t : Text) → is_phrase row.COMPARISON t ≡ true → starts Atoms start.Alpha t ≡ true → compared e (tree_at row.COMPARISON t) ≡ compared_text e (tree_at row.ALPHA_COMPARISON t)
alpha_gives e t ok is = ap (compared e) (ReadAs.tree (alpha_read t ok is))

pub alpha_left : (t : Text) → is_phrase row.COMPARISON t ≡ true → starts Atoms start.Alpha t ≡ true → after_phrase row.COMPARISON t ≡ after_phrase row.ALPHA_COMPARISON t
alpha_left t ok is = ReadAs.rest (alpha_read t ok is)

pub numeric_here : (t : Text) → is_phrase row.COMPARISON t ≡ true → starts Atoms start.Alpha t ≡ false → is_phrase row.NUMERIC_COMPARISON t ≡ true
numeric_here t ok is = ReadAs.part (numeric_read t ok is)

pub numeric_gives : (e : Context) (t : Text) → is_phrase row.COMPARISON t ≡ true → starts Atoms start.Alpha t ≡ false → compared e (tree_at row.COMPARISON t) ≡ compared_numbers e (tree_at row.NUMERIC_COMPARISON t)
numeric_gives e t ok is = ap (compared e) (ReadAs.tree (numeric_read t ok is))

pub numeric_left : (t : Text) → is_phrase row.COMPARISON t ≡ true → starts Atoms start.Alpha t ≡ false → after_phrase row.COMPARISON t ≡ after_phrase row.NUMERIC_COMPARISON t
numeric_left t ok is = ReadAs.rest (numeric_read t ok is)

abbrev texts_items : List Item
texts_items = Part row.ALPHA ∷ Typed leaf.Relation S21_COMPARISON ∷ Part row.ALPHA ∷ []

texts_row : row_items row.ALPHA_COMPARISON ≡ texts_items
unfolding row_items
texts_row = refl

pub texts_first : (t : Text) → is_phrase row.ALPHA_COMPARISON t ≡ true → is_phrase row.ALPHA t ≡ true
texts_first t ok = (stands_of row.ALPHA_COMPARISON texts_items t texts_row ok).0.0

pub texts_sign : (t : Text) → is_phrase row.ALPHA_COMPARISON t ≡ true → is_leaf leaf.Relation (sign_at row.ALPHA t) ≡ true
texts_sign t ok = (stands_of row.ALPHA_COMPARISON texts_items t texts_row ok).0.1.0

pub texts_second : (t : Text) → is_phrase row.ALPHA_COMPARISON t ≡ true → is_phrase row.ALPHA (other_at row.ALPHA t) ≡ true
texts_second t ok = (stands_of row.ALPHA_COMPARISON texts_items t texts_row ok).0.1.1.0

pub texts_is : (e : Context) (t : Text) → is_phrase row.ALPHA_COMPARISON t ≡ true → compared_text e (tree_at row.ALPHA_COMPARISON t)
    ≡ (text e (tree_at row.ALPHA t) >>= (λ x. text e (tree_at row.ALPHA (other_at row.ALPHA t)) >>= (λ y. Ok (holds (relation_of (take (sign_size row.ALPHA t) (sign_at row.ALPHA t))) (order_of x y)))))
texts_is e t ok = ap (compared_text e) (stands_of row.ALPHA_COMPARISON texts_items t texts_row ok).1

pub texts_rest : (t : Text) → is_phrase row.ALPHA_COMPARISON t ≡ true → after_phrase row.ALPHA_COMPARISON t ≡ after_phrase row.ALPHA (other_at row.ALPHA t)
texts_rest t ok = (stands_of row.ALPHA_COMPARISON texts_items t texts_row ok).2

abbrev numbers_items : List Item
numbers_items = Part row.SUM ∷ Typed leaf.Relation S21_COMPARISON ∷ Part row.SUM ∷ []

numbers_row : row_items row.NUMERIC_COMPARISON ≡ numbers_items
unfolding row_items
numbers_row = refl

pub numbers_first : (t : Text) → is_phrase row.NUMERIC_COMPARISON t ≡ true → is_phrase row.SUM t ≡ true
numbers_first t ok = (stands_of row.NUMERIC_COMPARISON numbers_items t numbers_row ok).0.0

pub numbers_sign : (t : Text) → is_phrase row.NUMERIC_COMPARISON t ≡ true → is_leaf leaf.Relation (sign_at row.SUM t) ≡ true
numbers_sign t ok = (stands_of row.NUMERIC_COMPARISON numbers_items t numbers_row ok).0.1.0

pub numbers_second : (t : Text) → is_phrase row.NUMERIC_COMPARISON t ≡ true → is_phrase row.SUM (other_at row.SUM t) ≡ true
numbers_second t ok = (stands_of row.NUMERIC_COMPARISON numbers_items t numbers_row ok).0.1.1.0

pub numbers_is : (e : Context) (t : Text) → is_phrase row.NUMERIC_COMPARISON t ≡ true → compared_numbers e (tree_at row.NUMERIC_COMPARISON t)
    ≡ (value e level.Sum (tree_at row.SUM t) >>= (λ x. value e level.Sum (tree_at row.SUM (other_at row.SUM t)) >>= (λ y. Ok (holds (relation_of (take (sign_size row.SUM t) (sign_at row.SUM t))) (int_cmp (size_of_number x) (size_of_number y))))))
numbers_is e t ok = ap (compared_numbers e) (stands_of row.NUMERIC_COMPARISON numbers_items t numbers_row ok).1

pub numbers_rest : (t : Text) → is_phrase row.NUMERIC_COMPARISON t ≡ true → after_phrase row.NUMERIC_COMPARISON t ≡ after_phrase row.SUM (other_at row.SUM t)
numbers_rest t ok = (stands_of row.NUMERIC_COMPARISON numbers_items t numbers_row ok).2
