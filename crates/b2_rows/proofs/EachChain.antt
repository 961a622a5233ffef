-- Chains one fact at a time, as functions that read them cite them: of any chain, and of each.
use Rattle.std.proofs.Common.{◌≡◌, ◌<◌, true, false, [], ◌∷◌, length, drop, arith}
use Rattle.b2_base.specs.Lexical.{first}
use Rattle.b2_atom.specs.Words.{Text}
use Rattle.b2_atom.specs.Tree.Trees.{Done, In}
use Rattle.b2_atom.specs.declared.rows.TheConstants as row
use Rattle.b2_rows.specs.Rows.{is_phrase, tree_at, after_phrase, is_list, list_at, after_list}
use Rattle.b2_rows.specs.Links.{first_code, IsLink}
use Rattle.b2_rows.specs.Chains.{chain_row, front_row, item_row, more_row, more_start, is_sign, is_operator_of}
use Rattle.b2_rows.specs.declared.chains.Chain.{Chain}
use Rattle.b2_rows.specs.declared.chains.Chain.TheVariants as chain
use Rattle.b2_rows.proofs.Levels.{part_no_longer}
use Rattle.b2_rows.proofs.ChainRows.{chain_stands, chain_goes, chain_ends, signed_factor, plain_factor}

-- the first item, and the repetition after it
pub chain_item : (c : Chain) (t : Text) → is_phrase (chain_row c) t ≡ true → is_phrase (front_row c) t ≡ true
chain_item c t ok = (chain_stands c t ok).part

pub chain_list : (c : Chain) (t : Text) → is_phrase (chain_row c) t ≡ true → is_list (more_start c) (more_row c) (after_phrase (front_row c) t) ≡ true
chain_list c t ok = (chain_stands c t ok).list

pub chain_tree : (c : Chain) (t : Text) → is_phrase (chain_row c) t ≡ true
    → tree_at (chain_row c) t ≡ In 2 (tree_at (front_row c) t) (list_at (more_start c) (more_row c) (after_phrase (front_row c) t))
chain_tree c t ok = (chain_stands c t ok).tree

pub chain_rest : (c : Chain) (t : Text) → is_phrase (chain_row c) t ≡ true → after_phrase (chain_row c) t ≡ after_list (more_start c) (more_row c) (after_phrase (front_row c) t)
chain_rest c t ok = (chain_stands c t ok).rest

-- where an operator stands: an item after it, the same repetition after that, and less than before
pub more_item : (c : Chain) (t : Text) → is_list (more_start c) (more_row c) t ≡ true → is_operator_of c (first t) ≡ true → is_phrase (item_row c) (drop 1 t) ≡ true
more_item c t ok is = (chain_goes c t ok is).part

pub more_list : (c : Chain) (t : Text) → is_list (more_start c) (more_row c) t ≡ true → is_operator_of c (first t) ≡ true → is_list (more_start c) (more_row c) (after_phrase (item_row c) (drop 1 t)) ≡ true
more_list c t ok is = (chain_goes c t ok is).list

pub more_tree : (c : Chain) (t : Text) → is_list (more_start c) (more_row c) t ≡ true → is_operator_of c (first t) ≡ true
    → list_at (more_start c) (more_row c) t ≡ In 1 (tree_at (more_row c) t) (list_at (more_start c) (more_row c) (after_phrase (item_row c) (drop 1 t)))
more_tree c t ok is = (chain_goes c t ok is).tree

pub more_link : (c : Chain) (t : Text) → is_list (more_start c) (more_row c) t ≡ true → is_operator_of c (first t) ≡ true → IsLink (first t) (tree_at (item_row c) (drop 1 t)) (tree_at (more_row c) t)
more_link c t ok is = (chain_goes c t ok is).link

pub more_rest : (c : Chain) (t : Text) → is_list (more_start c) (more_row c) t ≡ true → is_operator_of c (first t) ≡ true
    → after_list (more_start c) (more_row c) t ≡ after_list (more_start c) (more_row c) (after_phrase (item_row c) (drop 1 t))
more_rest c t ok is = (chain_goes c t ok is).rest

pub operator_shorter : (c : Chain) (t : Text) → is_operator_of c (first t) ≡ true → length (drop 1 t) < length t
operator_shorter chain.Sum [] is = cc
operator_shorter chain.Product [] is = cc
operator_shorter chain.Power [] is = cc
operator_shorter chain.Alpha [] is = cc
operator_shorter chain.Condition [] is = cc
operator_shorter chain.Length [] is = cc
operator_shorter chain.LengthProduct [] is = cc
operator_shorter chain.LengthPower [] is = cc
operator_shorter c (b ∷ t) is = omega arith

pub more_shorter : (c : Chain) (t : Text) → is_operator_of c (first t) ≡ true → length (after_phrase (item_row c) (drop 1 t)) < length t
more_shorter c t is = let a = operator_shorter c t is in let b = part_no_longer (item_row c) (drop 1 t) in omega (arith, a, b)

-- where none stands: the repetition ends
pub no_more : (c : Chain) (t : Text) → is_operator_of c (first t) ≡ false → list_at (more_start c) (more_row c) t ≡ In 0 Done Done
no_more c t none = (chain_ends c t none).tree

pub no_rest : (c : Chain) (t : Text) → is_operator_of c (first t) ≡ false → after_list (more_start c) (more_row c) t ≡ t
no_rest c t none = (chain_ends c t none).rest

-- factors: with a sign
pub signed_part : (t : Text) → is_phrase row.FACTOR t ≡ true → is_sign (first t) ≡ true → is_phrase row.POWER (drop 1 t) ≡ true
signed_part t ok is = (signed_factor t ok is).part

pub signed_tree : (t : Text) → is_phrase row.FACTOR t ≡ true → is_sign (first t) ≡ true → tree_at row.FACTOR t ≡ In 1 (tree_at row.SIGN t) (In 2 (tree_at row.POWER (drop 1 t)) Done)
signed_tree t ok is = (signed_factor t ok is).tree

pub signed_code : (t : Text) → is_phrase row.FACTOR t ≡ true → is_sign (first t) ≡ true → first_code (tree_at row.SIGN t) ≡ first t
signed_code t ok is = (signed_factor t ok is).sign

pub signed_rest : (t : Text) → is_phrase row.FACTOR t ≡ true → is_sign (first t) ≡ true → after_phrase row.FACTOR t ≡ after_phrase row.POWER (drop 1 t)
signed_rest t ok is = (signed_factor t ok is).rest

pub signed_shorter : (t : Text) → is_sign (first t) ≡ true → length (drop 1 t) < length t
signed_shorter t is = operator_shorter chain.Sum t is

-- and without
pub plain_part : (t : Text) → is_phrase row.FACTOR t ≡ true → is_sign (first t) ≡ false → is_phrase row.POWER t ≡ true
plain_part t ok is = (plain_factor t ok is).part

pub plain_tree : (t : Text) → is_phrase row.FACTOR t ≡ true → is_sign (first t) ≡ false → tree_at row.FACTOR t ≡ In 0 Done (In 2 (tree_at row.POWER t) Done)
plain_tree t ok is = (plain_factor t ok is).tree

pub plain_rest : (t : Text) → is_phrase row.FACTOR t ≡ true → is_sign (first t) ≡ false → after_phrase row.FACTOR t ≡ after_phrase row.POWER t
plain_rest t ok is = (plain_factor t ok is).rest

-- each chain: its first item, the repetition after it, its tree and what is left
pub sum_item : (t : Text) → is_phrase row.SUM t ≡ true → is_phrase row.PRODUCT t ≡ true
sum_item t ok = chain_item chain.Sum t ok

pub sum_list : (t : Text) → is_phrase row.SUM t ≡ true → is_list (more_start chain.Sum) row.ADDEND (after_phrase row.PRODUCT t) ≡ true
sum_list t ok = chain_list chain.Sum t ok

pub sum_tree : (t : Text) → is_phrase row.SUM t ≡ true → tree_at row.SUM t ≡ In 2 (tree_at row.PRODUCT t) (list_at (more_start chain.Sum) row.ADDEND (after_phrase row.PRODUCT t))
sum_tree t ok = chain_tree chain.Sum t ok

pub sum_rest : (t : Text) → is_phrase row.SUM t ≡ true → after_phrase row.SUM t ≡ after_list (more_start chain.Sum) row.ADDEND (after_phrase row.PRODUCT t)
sum_rest t ok = chain_rest chain.Sum t ok

pub product_item : (t : Text) → is_phrase row.PRODUCT t ≡ true → is_phrase row.FACTOR t ≡ true
product_item t ok = chain_item chain.Product t ok

pub product_list : (t : Text) → is_phrase row.PRODUCT t ≡ true → is_list (more_start chain.Product) row.MULTIPLIER (after_phrase row.FACTOR t) ≡ true
product_list t ok = chain_list chain.Product t ok

pub product_tree : (t : Text) → is_phrase row.PRODUCT t ≡ true → tree_at row.PRODUCT t ≡ In 2 (tree_at row.FACTOR t) (list_at (more_start chain.Product) row.MULTIPLIER (after_phrase row.FACTOR t))
product_tree t ok = chain_tree chain.Product t ok

pub product_rest : (t : Text) → is_phrase row.PRODUCT t ≡ true → after_phrase row.PRODUCT t ≡ after_list (more_start chain.Product) row.MULTIPLIER (after_phrase row.FACTOR t)
product_rest t ok = chain_rest chain.Product t ok

pub power_item : (t : Text) → is_phrase row.POWER t ≡ true → is_phrase row.OPERAND t ≡ true
power_item t ok = chain_item chain.Power t ok

pub power_list : (t : Text) → is_phrase row.POWER t ≡ true → is_list (more_start chain.Power) row.EXPONENT (after_phrase row.OPERAND t) ≡ true
power_list t ok = chain_list chain.Power t ok

pub power_tree : (t : Text) → is_phrase row.POWER t ≡ true → tree_at row.POWER t ≡ In 2 (tree_at row.OPERAND t) (list_at (more_start chain.Power) row.EXPONENT (after_phrase row.OPERAND t))
power_tree t ok = chain_tree chain.Power t ok

pub power_rest : (t : Text) → is_phrase row.POWER t ≡ true → after_phrase row.POWER t ≡ after_list (more_start chain.Power) row.EXPONENT (after_phrase row.OPERAND t)
power_rest t ok = chain_rest chain.Power t ok

pub alpha_item : (t : Text) → is_phrase row.ALPHA t ≡ true → is_phrase row.ALPHA_OPERAND t ≡ true
alpha_item t ok = chain_item chain.Alpha t ok

pub alpha_list : (t : Text) → is_phrase row.ALPHA t ≡ true → is_list (more_start chain.Alpha) row.JOINED (after_phrase row.ALPHA_OPERAND t) ≡ true
alpha_list t ok = chain_list chain.Alpha t ok

pub alpha_tree : (t : Text) → is_phrase row.ALPHA t ≡ true → tree_at row.ALPHA t ≡ In 2 (tree_at row.ALPHA_OPERAND t) (list_at (more_start chain.Alpha) row.JOINED (after_phrase row.ALPHA_OPERAND t))
alpha_tree t ok = chain_tree chain.Alpha t ok

pub alpha_rest : (t : Text) → is_phrase row.ALPHA t ≡ true → after_phrase row.ALPHA t ≡ after_list (more_start chain.Alpha) row.JOINED (after_phrase row.ALPHA_OPERAND t)
alpha_rest t ok = chain_rest chain.Alpha t ok

pub condition_item : (t : Text) → is_phrase row.CONDITION t ≡ true → is_phrase row.COMPARISON t ≡ true
condition_item t ok = chain_item chain.Condition t ok

pub condition_list : (t : Text) → is_phrase row.CONDITION t ≡ true → is_list (more_start chain.Condition) row.FURTHER_COMPARISON (after_phrase row.COMPARISON t) ≡ true
condition_list t ok = chain_list chain.Condition t ok

pub condition_tree : (t : Text) → is_phrase row.CONDITION t ≡ true → tree_at row.CONDITION t ≡ In 2 (tree_at row.COMPARISON t) (list_at (more_start chain.Condition) row.FURTHER_COMPARISON (after_phrase row.COMPARISON t))
condition_tree t ok = chain_tree chain.Condition t ok

pub condition_rest : (t : Text) → is_phrase row.CONDITION t ≡ true → after_phrase row.CONDITION t ≡ after_list (more_start chain.Condition) row.FURTHER_COMPARISON (after_phrase row.COMPARISON t)
condition_rest t ok = chain_rest chain.Condition t ok

pub length_item : (t : Text) → is_phrase row.LENGTH t ≡ true → is_phrase row.LENGTH_PRODUCT t ≡ true
length_item t ok = chain_item chain.Length t ok

pub length_list : (t : Text) → is_phrase row.LENGTH t ≡ true → is_list (more_start chain.Length) row.ADDEND (after_phrase row.LENGTH_PRODUCT t) ≡ true
length_list t ok = chain_list chain.Length t ok

pub length_tree : (t : Text) → is_phrase row.LENGTH t ≡ true → tree_at row.LENGTH t ≡ In 2 (tree_at row.LENGTH_PRODUCT t) (list_at (more_start chain.Length) row.ADDEND (after_phrase row.LENGTH_PRODUCT t))
length_tree t ok = chain_tree chain.Length t ok

pub length_rest : (t : Text) → is_phrase row.LENGTH t ≡ true → after_phrase row.LENGTH t ≡ after_list (more_start chain.Length) row.ADDEND (after_phrase row.LENGTH_PRODUCT t)
length_rest t ok = chain_rest chain.Length t ok

pub length_product_item : (t : Text) → is_phrase row.LENGTH_PRODUCT t ≡ true → is_phrase row.LENGTH_FACTOR t ≡ true
length_product_item t ok = chain_item chain.LengthProduct t ok

pub length_product_list : (t : Text) → is_phrase row.LENGTH_PRODUCT t ≡ true → is_list (more_start chain.LengthProduct) row.MULTIPLIER (after_phrase row.LENGTH_FACTOR t) ≡ true
length_product_list t ok = chain_list chain.LengthProduct t ok

pub length_product_tree : (t : Text) → is_phrase row.LENGTH_PRODUCT t ≡ true → tree_at row.LENGTH_PRODUCT t ≡ In 2 (tree_at row.LENGTH_FACTOR t) (list_at (more_start chain.LengthProduct) row.MULTIPLIER (after_phrase row.LENGTH_FACTOR t))
length_product_tree t ok = chain_tree chain.LengthProduct t ok

pub length_product_rest : (t : Text) → is_phrase row.LENGTH_PRODUCT t ≡ true → after_phrase row.LENGTH_PRODUCT t ≡ after_list (more_start chain.LengthProduct) row.MULTIPLIER (after_phrase row.LENGTH_FACTOR t)
length_product_rest t ok = chain_rest chain.LengthProduct t ok

pub length_power_item : (t : Text) → is_phrase row.LENGTH_POWER t ≡ true → is_phrase row.LENGTH_OPERAND t ≡ true
length_power_item t ok = chain_item chain.LengthPower t ok

pub length_power_list : (t : Text) → is_phrase row.LENGTH_POWER t ≡ true → is_list (more_start chain.LengthPower) row.EXPONENT (after_phrase row.LENGTH_OPERAND t) ≡ true
length_power_list t ok = chain_list chain.LengthPower t ok

pub length_power_tree : (t : Text) → is_phrase row.LENGTH_POWER t ≡ true → tree_at row.LENGTH_POWER t ≡ In 2 (tree_at row.LENGTH_OPERAND t) (list_at (more_start chain.LengthPower) row.EXPONENT (after_phrase row.LENGTH_OPERAND t))
length_power_tree t ok = chain_tree chain.LengthPower t ok

pub length_power_rest : (t : Text) → is_phrase row.LENGTH_POWER t ≡ true → after_phrase row.LENGTH_POWER t ≡ after_list (more_start chain.LengthPower) row.EXPONENT (after_phrase row.LENGTH_OPERAND t)
length_power_rest t ok = chain_rest chain.LengthPower t ok
