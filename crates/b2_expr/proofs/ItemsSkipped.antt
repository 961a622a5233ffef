-- Further items of sums, products and powers, one fact at a time.
use Rattle.std.proofs.Common.{◌≡◌, ◌<◌, true, false, length, drop}
use Rattle.b2_base.specs.Lexical.{first}
use Rattle.b2_atom.specs.Words.{Text}
use Rattle.b2_atom.specs.declared.rows.TheConstants as row
use Rattle.b2_rows.specs.Rows.{is_phrase, after_phrase, is_list, after_list}
use Rattle.b2_rows.specs.Chains.{is_operator_of, more_start}
use Rattle.b2_rows.specs.declared.chains.Chain.TheVariants as chain
use Rattle.b2_rows.proofs.EachChain as each

-- sums
pub sum_on_item : (t : Text) → is_list (more_start chain.Sum) row.ADDEND t ≡ true → is_operator_of chain.Sum (first t) ≡ true → is_phrase row.PRODUCT (drop 1 t) ≡ true
sum_on_item t ok b = each.more_item chain.Sum t ok b

pub sum_on_list : (t : Text) → is_list (more_start chain.Sum) row.ADDEND t ≡ true → is_operator_of chain.Sum (first t) ≡ true
    → is_list (more_start chain.Sum) row.ADDEND (after_phrase row.PRODUCT (drop 1 t)) ≡ true
sum_on_list t ok b = each.more_list chain.Sum t ok b

pub sum_on_rest : (t : Text) → is_list (more_start chain.Sum) row.ADDEND t ≡ true → is_operator_of chain.Sum (first t) ≡ true
    → after_list (more_start chain.Sum) row.ADDEND t ≡ after_list (more_start chain.Sum) row.ADDEND (after_phrase row.PRODUCT (drop 1 t))
sum_on_rest t ok b = each.more_rest chain.Sum t ok b

pub sum_on_shorter : (t : Text) → is_operator_of chain.Sum (first t) ≡ true → length (drop 1 t) < length t
sum_on_shorter t b = each.operator_shorter chain.Sum t b

pub sum_off_rest : (t : Text) → is_operator_of chain.Sum (first t) ≡ false → after_list (more_start chain.Sum) row.ADDEND t ≡ t
sum_off_rest t b = each.no_rest chain.Sum t b

-- products
pub product_on_item : (t : Text) → is_list (more_start chain.Product) row.MULTIPLIER t ≡ true → is_operator_of chain.Product (first t) ≡ true → is_phrase row.FACTOR (drop 1 t) ≡ true
product_on_item t ok b = each.more_item chain.Product t ok b

pub product_on_list : (t : Text) → is_list (more_start chain.Product) row.MULTIPLIER t ≡ true → is_operator_of chain.Product (first t) ≡ true
    → is_list (more_start chain.Product) row.MULTIPLIER (after_phrase row.FACTOR (drop 1 t)) ≡ true
product_on_list t ok b = each.more_list chain.Product t ok b

pub product_on_rest : (t : Text) → is_list (more_start chain.Product) row.MULTIPLIER t ≡ true → is_operator_of chain.Product (first t) ≡ true
    → after_list (more_start chain.Product) row.MULTIPLIER t ≡ after_list (more_start chain.Product) row.MULTIPLIER (after_phrase row.FACTOR (drop 1 t))
product_on_rest t ok b = each.more_rest chain.Product t ok b

pub product_on_shorter : (t : Text) → is_operator_of chain.Product (first t) ≡ true → length (drop 1 t) < length t
product_on_shorter t b = each.operator_shorter chain.Product t b

pub product_off_rest : (t : Text) → is_operator_of chain.Product (first t) ≡ false → after_list (more_start chain.Product) row.MULTIPLIER t ≡ t
product_off_rest t b = each.no_rest chain.Product t b

-- powers
pub power_on_item : (t : Text) → is_list (more_start chain.Power) row.EXPONENT t ≡ true → is_operator_of chain.Power (first t) ≡ true → is_phrase row.OPERAND (drop 1 t) ≡ true
power_on_item t ok b = each.more_item chain.Power t ok b

pub power_on_list : (t : Text) → is_list (more_start chain.Power) row.EXPONENT t ≡ true → is_operator_of chain.Power (first t) ≡ true
    → is_list (more_start chain.Power) row.EXPONENT (after_phrase row.OPERAND (drop 1 t)) ≡ true
power_on_list t ok b = each.more_list chain.Power t ok b

pub power_on_rest : (t : Text) → is_list (more_start chain.Power) row.EXPONENT t ≡ true → is_operator_of chain.Power (first t) ≡ true
    → after_list (more_start chain.Power) row.EXPONENT t ≡ after_list (more_start chain.Power) row.EXPONENT (after_phrase row.OPERAND (drop 1 t))
power_on_rest t ok b = each.more_rest chain.Power t ok b

pub power_on_shorter : (t : Text) → is_operator_of chain.Power (first t) ≡ true → length (drop 1 t) < length t
power_on_shorter t b = each.operator_shorter chain.Power t b

pub power_off_rest : (t : Text) → is_operator_of chain.Power (first t) ≡ false → after_list (more_start chain.Power) row.EXPONENT t ≡ t
power_off_rest t b = each.no_rest chain.Power t b
