-- What chains of operators come to.
use Rattle.std.proofs.Common.{◌≡◌, ◌<◌, ℕ, length, true, false, drop, refl, ap, ◌∙◌, Err}
use Rattle.b2_base.specs.Lexical.{first}
use Rattle.b2_atom.specs.Words.{Text}
use Rattle.b2_atom.specs.Tree.{Trees}
use Rattle.b2_atom.specs.Tree.Trees.{Done, Put, In}
use Rattle.b2_rows.specs.Rows.{is_phrase, tree_at, after_phrase, is_list, list_at, after_list}
use Rattle.b2_rows.specs.Chains.{is_operator_of, more_start, more_row, item_row}
use Rattle.b2_rows.specs.Links.{IsLink}
use Rattle.b2_rows.specs.declared.chains.Chain.{Chain}
use Rattle.b2_rows.specs.declared.chains.Chain.TheVariants as chain
use Rattle.b2_rows.proofs.Links.{link_means}
use Rattle.b2_rows.proofs.EachChain as each
use Rattle.b2_expr.specs.Answers.{Answer, ◌>>=◌}
use Rattle.b2_expr.specs.Operators.{joined}
use Rattle.b2_expr.specs.Scope.{Context}
use Rattle.b2_expr.specs.Value.{item_level, value, further}
use Rattle.b2_expr.specs.Levels.{chain_of, is_chain, row_of_level, list_of, tail_of, is_operator}
use Rattle.b2_expr.specs.declared.operators.Level.{Level}
use Rattle.b2_expr.specs.declared.operators.Level.TheVariants as level

-- a row of a chain: its first item, and the list of what follows
pub chain_item : (l : Level) (t : Text) → is_chain l ≡ true → is_phrase (row_of_level l) t ≡ true → is_phrase (row_of_level (item_level l)) t ≡ true
chain_item level.Sum t h ok = each.chain_item chain.Sum t ok
chain_item level.Product t h ok = each.chain_item chain.Product t ok
chain_item level.Factor t h ok = cc
chain_item level.Power t h ok = each.chain_item chain.Power t ok
chain_item level.Operand t h ok = cc

pub chain_list : (l : Level) (t : Text) → is_chain l ≡ true → is_phrase (row_of_level l) t ≡ true → is_list (more_start (chain_of l)) (more_row (chain_of l)) (tail_of l t) ≡ true
chain_list level.Sum t h ok = each.chain_list chain.Sum t ok
chain_list level.Product t h ok = each.chain_list chain.Product t ok
chain_list level.Factor t h ok = cc
chain_list level.Power t h ok = each.chain_list chain.Power t ok
chain_list level.Operand t h ok = cc

pub chain_value : (e : Context) (l : Level) (t : Text) → is_chain l ≡ true → is_phrase (row_of_level l) t ≡ true
    → value e l (tree_at (row_of_level l) t) ≡ further e l (value e (item_level l) (tree_at (row_of_level (item_level l)) t)) (list_of l (tail_of l t))
unfolding value
chain_value e level.Sum t h ok = ap (value e level.Sum) (each.chain_tree chain.Sum t ok)
chain_value e level.Product t h ok = ap (value e level.Product) (each.chain_tree chain.Product t ok)
chain_value e level.Factor t h ok = cc
chain_value e level.Power t h ok = ap (value e level.Power) (each.chain_tree chain.Power t ok)
chain_value e level.Operand t h ok = cc

pub chain_rest : (l : Level) (t : Text) → is_chain l ≡ true → is_phrase (row_of_level l) t ≡ true → after_phrase (row_of_level l) t ≡ after_list (more_start (chain_of l)) (more_row (chain_of l)) (tail_of l t)
chain_rest level.Sum t h ok = each.chain_rest chain.Sum t ok
chain_rest level.Product t h ok = each.chain_rest chain.Product t ok
chain_rest level.Factor t h ok = cc
chain_rest level.Power t h ok = each.chain_rest chain.Power t ok
chain_rest level.Operand t h ok = cc

-- a further item, where an operator of the level stands
pub more_item : (l : Level) (t : Text) → is_chain l ≡ true → is_list (more_start (chain_of l)) (more_row (chain_of l)) t ≡ true → is_operator l (first t) ≡ true → is_phrase (row_of_level (item_level l)) (drop 1 t) ≡ true
more_item level.Sum t h ok b = each.more_item chain.Sum t ok b
more_item level.Product t h ok b = each.more_item chain.Product t ok b
more_item level.Factor t h ok b = cc
more_item level.Power t h ok b = each.more_item chain.Power t ok b
more_item level.Operand t h ok b = cc

pub more_list : (l : Level) (t : Text) → is_chain l ≡ true → is_list (more_start (chain_of l)) (more_row (chain_of l)) t ≡ true → is_operator l (first t) ≡ true
    → is_list (more_start (chain_of l)) (more_row (chain_of l)) (tail_of l (drop 1 t)) ≡ true
more_list level.Sum t h ok b = each.more_list chain.Sum t ok b
more_list level.Product t h ok b = each.more_list chain.Product t ok b
more_list level.Factor t h ok b = cc
more_list level.Power t h ok b = each.more_list chain.Power t ok b
more_list level.Operand t h ok b = cc

-- what a further item makes of a number
abbrev pub joins : Context → Level → Answer → Trees → ℕ → Trees → Answer
joins e l x more c a = further e l (x >>= (λ v. value e (item_level l) a >>= joined e.around.mode c v)) more

link_value : (e : Context) (l : Level) (x : Answer) (more : Trees) (c : ℕ) (a u : Trees) → IsLink c a u → further e l x (In 1 u more) ≡ joins e l x more c a
unfolding further
link_value e l x more c a u is = link_means (λ u. further e l x (In 1 u more)) (joins e l x more) (λ token b. refl) (λ k o b. refl) c a u is

more_by : (e : Context) (l : Level) (c : Chain) (x : Answer) (t : Text) → is_list (more_start c) (more_row c) t ≡ true → is_operator_of c (first t) ≡ true
    → further e l x (list_at (more_start c) (more_row c) t)
    ≡ joins e l x (list_at (more_start c) (more_row c) (after_phrase (item_row c) (drop 1 t))) (first t) (tree_at (item_row c) (drop 1 t))
more_by e l c x t ok b = ap (further e l x) (each.more_tree c t ok b) ∙ link_value e l x _ (first t) _ _ (each.more_link c t ok b)

pub more_value : (e : Context) (l : Level) (x : Answer) (t : Text) → is_chain l ≡ true → is_list (more_start (chain_of l)) (more_row (chain_of l)) t ≡ true → is_operator l (first t) ≡ true
    → further e l x (list_of l t)
    ≡ further e l (x >>= (λ v. value e (item_level l) (tree_at (row_of_level (item_level l)) (drop 1 t)) >>= joined e.around.mode (first t) v)) (list_of l (tail_of l (drop 1 t)))
more_value e level.Sum x t h ok b = more_by e level.Sum chain.Sum x t ok b
more_value e level.Product x t h ok b = more_by e level.Product chain.Product x t ok b
more_value e level.Factor x t h ok b = cc
more_value e level.Power x t h ok b = more_by e level.Power chain.Power x t ok b
more_value e level.Operand x t h ok b = cc

pub more_rest : (l : Level) (t : Text) → is_chain l ≡ true → is_list (more_start (chain_of l)) (more_row (chain_of l)) t ≡ true → is_operator l (first t) ≡ true
    → after_list (more_start (chain_of l)) (more_row (chain_of l)) t ≡ after_list (more_start (chain_of l)) (more_row (chain_of l)) (tail_of l (drop 1 t))
more_rest level.Sum t h ok b = each.more_rest chain.Sum t ok b
more_rest level.Product t h ok b = each.more_rest chain.Product t ok b
more_rest level.Factor t h ok b = cc
more_rest level.Power t h ok b = each.more_rest chain.Power t ok b
more_rest level.Operand t h ok b = cc

-- where none stands
no_further : (e : Context) (l : Level) (x : Answer) → further e l x (In 0 Done Done) ≡ x
unfolding further
no_further e l x = refl

none_of : (l : Level) (t : Text) → is_chain l ≡ true → is_operator l (first t) ≡ false → list_of l t ≡ In 0 Done Done
none_of level.Sum t h b = each.no_more chain.Sum t b
none_of level.Product t h b = each.no_more chain.Product t b
none_of level.Factor t h b = cc
none_of level.Power t h b = each.no_more chain.Power t b
none_of level.Operand t h b = cc

pub no_more : (e : Context) (l : Level) (x : Answer) (t : Text) → is_chain l ≡ true → is_operator l (first t) ≡ false → further e l x (list_of l t) ≡ x
no_more e l x t h b = ap (further e l x) (none_of l t h b) ∙ no_further e l x

pub no_rest : (l : Level) (t : Text) → is_chain l ≡ true → is_operator l (first t) ≡ false → after_list (more_start (chain_of l)) (more_row (chain_of l)) t ≡ t
no_rest level.Sum t h b = each.no_rest chain.Sum t b
no_rest level.Product t h b = each.no_rest chain.Product t b
no_rest level.Factor t h b = cc
no_rest level.Power t h b = each.no_rest chain.Power t b
no_rest level.Operand t h b = cc

-- a code goes through what follows
pub refused : (e : Context) (l : Level) (code : ℕ) (t : Trees) → further e l (Err code) t ≡ Err code
unfolding further
refused e l code (In n (In k o (In m a end)) more) = refused e l code more
refused e l code (In n (Put token (In m a end)) more) = refused e l code more
refused e l code Done = refl
refused e l code (Put token more) = refl
refused e l code (In n Done more) = refl
refused e l code (In n (Put token Done) more) = refl
refused e l code (In n (Put token (Put t u)) more) = refl
refused e l code (In n (In k o Done) more) = refl
refused e l code (In n (In k o (Put t u)) more) = refl

pub more_shorter : (l : Level) (t : Text) → is_operator l (first t) ≡ true → length (drop 1 t) < length t
more_shorter level.Sum t b = each.operator_shorter chain.Sum t b
more_shorter level.Product t b = each.operator_shorter chain.Product t b
more_shorter level.Factor t b = cc
more_shorter level.Power t b = each.operator_shorter chain.Power t b
more_shorter level.Operand t b = cc
