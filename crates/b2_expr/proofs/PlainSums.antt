-- Plain expressions: an operand that stands alone, or two that an operator joins.
use Rattle.std.proofs.Common.{◌≡◌, ℕ, ◌-◌, ◌==◌, get_or, length, length-drop, Bool, true, false, true≢false, is_err, drop, refl, sym, ap, ◌∙◌, subst, Ok, Err, None, arith}
use Rattle.std.proofs.lemmas.Bool.Decides.{nat_tests}
use Rattle.std.specs.FinMap as map
use Rattle.b2_base.specs.Byte as byte
use Rattle.b2_base.specs.Lexical.{first, is_digit, is_letter}
use Rattle.b2_dec.specs.Number.{Number}
use Rattle.b2_dec.specs.declared.number.Mode.{Mode}
use Rattle.b2_vars.specs.declared.name.Var.{Var}
use Rattle.b2_vars.specs.Names.{scalar_named}
use Rattle.b2_vars.specs.Shapes.{cell_at}
use Rattle.b2_vars.specs.Variables.{number_at}
use Rattle.b2_vars.specs.Tables.{VarsState, shape_at}
use Rattle.b2_vars.specs.Calls.{get_code}
use Rattle.b2_atom.specs.Words.{Text}
use Rattle.b2_atom.specs.declared.rows.TheConstants as row
use Rattle.b2_rows.specs.Rows.{is_phrase, tree_at, after_phrase, is_list}
use Rattle.b2_rows.specs.Chains.{is_sign, more_row, more_start}
use Rattle.b2_rows.specs.declared.chains.Chain.TheVariants as chain
use Rattle.b2_rows.proofs.EachChain as each
use Rattle.b2_rows.proofs.EachOperand.{number_here, number_left, variable_here, variable_left}
use Rattle.b2_expr.specs.Answers.{Answer}
use Rattle.b2_expr.specs.Levels.{row_of_level, is_chain, tail_of}
use Rattle.b2_expr.specs.Levels as levels
use Rattle.b2_expr.specs.Operators.{joined}
use Rattle.b2_expr.specs.Plain.{is_operator, IsPlain, IsPlainSum}
use Rattle.b2_expr.specs.Reads.{Finds, last}
use Rattle.b2_expr.specs.Scope.{Context}
use Rattle.b2_expr.specs.Named.{counted_digit, plain_width}
use Rattle.b2_expr.specs.Value.{literal_number}
use Rattle.b2_expr.specs.declared.evaluated.Evaluated.{Evaluated}
use Rattle.b2_expr.specs.declared.operators.Level.{Level}
use Rattle.b2_expr.specs.declared.operators.Level.TheVariants as level
use Rattle.b2_expr.proofs.Chained.{Evaluates, GoesOn, alone, finds_same, off, on_part, on_step, started}
use Rattle.b2_expr.proofs.Chains.{chain_item, chain_list, chain_rest, more_item, no_rest}
use Rattle.b2_expr.proofs.Factors.{plain_value}
use Rattle.b2_expr.proofs.OperandKinds.{number_gives, variable_gives}
use Rattle.b2_expr.proofs.PlainNames.{digit_operand, letter_operand, scalar_found, scalar_rest}
use Rattle.b2_expr.proofs.Tails.{tail_by}
use Rattle.b2_expr.proofs.WrittenNumbers.{at_place}

-- neither a letter nor a digit is a sign
pub letter_unsigned : (b : ℕ) → is_letter b ≡ true → is_sign b ≡ false
letter_unsigned b h = grind (arith, nat_tests)

pub digit_unsigned : (b : ℕ) → is_digit b ≡ true → is_sign b ≡ false
digit_unsigned b h = grind (arith, nat_tests)

-- what joins nothing at any level
no_power : (b : ℕ) → is_operator b ≡ false → levels.is_operator level.Power b ≡ false
no_power b h = grind (arith, nat_tests)

no_product : (b : ℕ) → is_operator b ≡ false → levels.is_operator level.Product b ≡ false
no_product b h = grind (arith, nat_tests)

no_sum : (b : ℕ) → is_operator b ≡ false → levels.is_operator level.Sum b ≡ false
no_sum b h = grind (arith, nat_tests)

-- what joins is a sign, or else joins factors
not_caret : (b : ℕ) → (b == byte.caret) ≡ false → levels.is_operator level.Power b ≡ false
not_caret b h = h

sign_or_factor : (b : ℕ) → is_operator b ≡ true → (b == byte.caret) ≡ false → is_sign b ≡ false → levels.is_operator level.Product b ≡ true
sign_or_factor b h caret sign = grind (arith, nat_tests)

sign_no_factor : (b : ℕ) → is_sign b ≡ true → levels.is_operator level.Product b ≡ false
sign_no_factor b h = grind (arith, nat_tests)

-- rows of a plain operand
pub factor_of : (t : Text) → is_phrase row.SUM t ≡ true → is_phrase row.FACTOR t ≡ true
factor_of t ok = chain_item level.Product t refl (chain_item level.Sum t refl ok)

power_of : (t : Text) → is_phrase row.FACTOR t ≡ true → is_sign (first t) ≡ false → is_phrase row.POWER t ≡ true
power_of t ok sign = each.plain_part t ok sign

pub operand_of_factor : (t : Text) → is_phrase row.FACTOR t ≡ true → is_sign (first t) ≡ false → is_phrase row.OPERAND t ≡ true
operand_of_factor t ok sign = chain_item level.Power t refl (power_of t ok sign)

-- what is left after an item that is all of its chain
after_chain : (l : Level) (t u : Text) → is_chain l ≡ true → is_phrase (row_of_level l) t ≡ true → u ≡ tail_of l t → levels.is_operator l (first u) ≡ false → u ≡ after_phrase (row_of_level l) t
after_chain l t u c ok is none =
    is ∙ sym (no_rest l (tail_of l t) c (subst (λ (v : Text). levels.is_operator l (first v) ≡ false) is none)) ∙ sym (chain_rest l t c ok)

after_factor : (t u : Text) → is_phrase row.FACTOR t ≡ true → is_sign (first t) ≡ false → u ≡ after_phrase row.OPERAND t → levels.is_operator level.Power (first u) ≡ false → u ≡ after_phrase row.FACTOR t
after_factor t u ok sign is none = after_chain level.Power t u refl (power_of t ok sign) is none ∙ sym (each.plain_rest t ok sign)

-- the item after an operator is a factor
after_sign : (t u : Text) → is_phrase row.SUM t ≡ true → u ≡ after_phrase row.PRODUCT t → levels.is_operator level.Sum (first u) ≡ true → is_phrase row.FACTOR (drop 1 u) ≡ true
after_sign t u ok is op =
    chain_item level.Product (drop 1 u) refl
    (more_item level.Sum u refl (subst (λ (v : Text). is_list (more_start chain.Sum) (more_row chain.Sum) v ≡ true) (sym is) (chain_list level.Sum t refl ok)) op)

after_multiplier : (t u : Text) → is_phrase row.PRODUCT t ≡ true → u ≡ after_phrase row.FACTOR t → levels.is_operator level.Product (first u) ≡ true → is_phrase row.FACTOR (drop 1 u) ≡ true
after_multiplier t u ok is op =
    more_item level.Product u refl (subst (λ (v : Text). is_list (more_start chain.Product) (more_row chain.Product) v ≡ true) (sym is) (chain_list level.Product t refl ok)) op

item_by : (t u : Text) (sign : Bool) → is_sign (first u) ≡ sign → is_phrase row.SUM t ≡ true → u ≡ after_phrase row.FACTOR t → is_operator (first u) ≡ true → (first u == byte.caret) ≡ false
    → is_phrase row.FACTOR (drop 1 u) ≡ true
item_by t u false sign ok is op caret = after_multiplier t u (chain_item level.Sum t refl ok) is (sign_or_factor (first u) op caret sign)
item_by t u true sign ok is op caret =
    after_sign t u ok (after_chain level.Product t u refl (chain_item level.Sum t refl ok) is (sign_no_factor (first u) sign)) sign

-- what a plain operand is in surroundings
evaluates : (own : VarsState) (l : Level) (t : Text) (f : Evaluated) → IsPlain own l t f → is_err f.number ≡ false → (e : Context) → e.parameter ≡ None → e.around.own ≡ own → Evaluates e l t f
evaluates own l t f p some e none same = record { number = IsPlain.number p some e none same; left = IsPlain.left p }

as_factor : (e : Context) (t : Text) (f : Evaluated) (u : Text) → is_phrase row.FACTOR t ≡ true → is_sign (first t) ≡ false → Evaluates e level.Operand t f → is_err f.number ≡ false
    → u ≡ last f.left t → levels.is_operator level.Power (first u) ≡ false → Evaluates e level.Factor t f
as_factor e t f u ok sign is some is_u none =
    finds_same _ _ _ _ f (plain_value e t ok sign) (each.plain_rest t ok sign) (alone e level.Power t f u refl (power_of t ok sign) is some is_u none)

as_product : (e : Context) (t : Text) (f : Evaluated) (u : Text) → is_phrase row.PRODUCT t ≡ true → is_sign (first t) ≡ false → Evaluates e level.Operand t f → is_err f.number ≡ false
    → u ≡ last f.left t → is_operator (first u) ≡ false → Evaluates e level.Product t f
as_product e t f u ok sign is some is_u none =
    alone e level.Product t f u refl ok (as_factor e t f u (chain_item level.Product t refl ok) sign is some is_u (no_power (first u) none)) some is_u (no_product (first u) none)

-- one that stands alone
pub sum_alone : (own : VarsState) (mode : Mode) (t : Text) (f : Evaluated) (u : Text) → is_phrase row.SUM t ≡ true → IsPlain own level.Operand t f → is_sign (first t) ≡ false
    → u ≡ last f.left t → is_operator (first u) ≡ false → IsPlainSum own mode t f
sum_alone own mode t f u ok p sign is_u none some e outside same by =
    alone e level.Sum t f u refl ok
    (as_product e t f u (chain_item level.Sum t refl ok) sign (evaluates own level.Operand t f p some e outside same) some is_u none) some is_u (no_sum (first u) none)

-- two that an operator joins
module _ (t : Text) (f : Evaluated) (u w : Text) (ok : is_phrase row.SUM t ≡ true) (sign : is_sign (first t) ≡ false) (left : f.left ≡ length (after_phrase row.OPERAND t))
    (is_u : u ≡ last f.left t) (is_w : w ≡ drop 1 u) (op : is_operator (first u) ≡ true) (caret : (first u == byte.caret) ≡ false) where
  pub item_part : is_phrase row.FACTOR w ≡ true
  item_part =
      subst (λ (v : Text). is_phrase row.FACTOR v ≡ true) (sym is_w)
      (item_by t u (is_sign (first u)) refl ok
      (after_factor t u (factor_of t ok) sign (is_u ∙ tail_by row.OPERAND f.left t left) caret) op caret)

module _ (e : Context) (t : Text) (f : Evaluated) (x : Number) (u w : Text) (g : Evaluated) (y z : Number) (v : Text) (ok : is_phrase row.SUM t ≡ true) (sign : is_sign (first t) ≡ false)
    (is : Evaluates e level.Operand t f) (some : is_err f.number ≡ false) (got : f.number ≡ Ok x) (is_u : u ≡ last f.left t) (is_w : w ≡ drop 1 u) (plain : is_sign (first w) ≡ false)
    (other : Evaluates e level.Operand w g) (more : is_err g.number ≡ false) (found : g.number ≡ Ok y) (is_v : v ≡ last g.left w) (none : is_operator (first v) ≡ false)
    (makes : joined e.around.mode (first u) x y ≡ Ok z) (caret : (first u == byte.caret) ≡ false) where
  abbrev pub result : Evaluated
  result = record { number = Ok z; left = length v }

  by_factors : levels.is_operator level.Product (first u) ≡ true → Evaluates e level.Sum t result
  by_factors op =
      let whole : is_phrase row.PRODUCT t ≡ true = chain_item level.Sum t refl ok in
      let start = started e level.Product t f x u refl whole (as_factor e t f u (chain_item level.Product t refl whole) sign is some is_u caret) some got is_u in
      let part : is_phrase row.FACTOR w ≡ true = on_part e level.Product t x u start refl op w is_w in
      let item = as_factor e w g v part plain other more is_v (no_power (first v) none) in
      let step = on_step e level.Product t x u start refl op w is_w g item more y found (joined e.around.mode (first u) x y) refl z makes v is_v in
      let all = off e level.Product t z v step refl (no_product (first v) none) (length v) refl result refl in
      let at : v ≡ after_phrase row.PRODUCT t = sym (no_rest level.Product v refl (no_product (first v) none)) ∙ GoesOn.rest step in
      alone e level.Sum t result v refl ok all refl (at ∙ sym (tail_by row.PRODUCT (length v) t (ap length at))) (no_sum (first v) none)

  by_signs : is_sign (first u) ≡ true → Evaluates e level.Sum t result
  by_signs op =
      let whole : is_phrase row.PRODUCT t ≡ true = chain_item level.Sum t refl ok in
      let first_product = alone e level.Product t f u refl whole (as_factor e t f u (chain_item level.Product t refl whole) sign is some is_u caret) some is_u (sign_no_factor (first u) op) in
      let start = started e level.Sum t f x u refl ok first_product some got is_u in
      let part : is_phrase row.PRODUCT w ≡ true = on_part e level.Sum t x u start refl op w is_w in
      let item = as_product e w g v part plain other more is_v none in
      let step = on_step e level.Sum t x u start refl op w is_w g item more y found (joined e.around.mode (first u) x y) refl z makes v is_v in
      off e level.Sum t z v step refl (no_sum (first v) none) (length v) refl result refl

  by_either : (b : Bool) → is_sign (first u) ≡ b → is_operator (first u) ≡ true → Evaluates e level.Sum t result
  by_either true b op = by_signs b
  by_either false b op = by_factors (sign_or_factor (first u) op caret b)

  pub both : is_operator (first u) ≡ true → Evaluates e level.Sum t result
  both op = by_either (is_sign (first u)) refl op

-- what is found of them, where it is a number
number_of : (own : VarsState) (mode : Mode) (t : Text) (f : Evaluated) (x : Number) (u w : Text) (g : Evaluated) (y : Number) (v : Text) (r : Answer)
    → is_phrase row.SUM t ≡ true → IsPlain own level.Operand t f → is_sign (first t) ≡ false → is_err f.number ≡ false → f.number ≡ Ok x → u ≡ last f.left t
    → is_operator (first u) ≡ true → (first u == byte.caret) ≡ false → w ≡ drop 1 u → IsPlain own level.Operand w g → is_sign (first w) ≡ false → is_err g.number ≡ false
    → g.number ≡ Ok y → v ≡ last g.left w → is_operator (first v) ≡ false → r ≡ joined mode (first u) x y → IsPlainSum own mode t (record { number = r; left = length v })
number_of own mode t f x u w g y v (Ok z) ok p sign some got is_u op caret is_w q plain more found is_v none is_r number e outside same by =
    both e t f x u w g y z v ok sign (evaluates own level.Operand t f p some e outside same) some got is_u is_w plain
    (evaluates own level.Operand w g q more e outside same) more found is_v none
    (ap (λ (m : Mode). joined m (first u) x y) by ∙ sym is_r) caret op
number_of own mode t f x u w g y v (Err code) ok p sign some got is_u op caret is_w q plain more found is_v none is_r number e outside same by = absurd (true≢false number)

pub sum_joined : (own : VarsState) (mode : Mode) (t : Text) (f : Evaluated) (x : Number) (u w : Text) (g : Evaluated) (y : Number) (v : Text) (r : Answer)
    → is_phrase row.SUM t ≡ true → IsPlain own level.Operand t f → is_sign (first t) ≡ false → is_err f.number ≡ false → f.number ≡ Ok x → u ≡ last f.left t
    → is_operator (first u) ≡ true → (first u == byte.caret) ≡ false → w ≡ drop 1 u → IsPlain own level.Operand w g → is_sign (first w) ≡ false → is_err g.number ≡ false
    → g.number ≡ Ok y → v ≡ last g.left w → is_operator (first v) ≡ false → r ≡ joined mode (first u) x y → IsPlainSum own mode t (record { number = r; left = g.left })
sum_joined own mode t f x u w g y v r ok p sign some got is_u op caret is_w q plain more found is_v none is_r =
    let left : g.left ≡ length v = IsPlain.left q more ∙ ap length (sym (is_v ∙ tail_by row.OPERAND g.left w (IsPlain.left q more))) in
    subst (λ (n : ℕ). IsPlainSum own mode t (record { number = r; left = n })) (sym left)
    (number_of own mode t f x u w g y v r ok p sign some got is_u op caret is_w q plain more found is_v none is_r)

-- what isn't plain
pub none_plain : (own : VarsState) (l : Level) (t : Text) (f : Evaluated) → is_err f.number ≡ true → IsPlain own l t f
none_plain own l t f coded = record { left = λ some. absurd (true≢false (sym coded ∙ some)); number = λ some. absurd (true≢false (sym coded ∙ some)) }

pub none_summed : (own : VarsState) (mode : Mode) (t : Text) (f : Evaluated) → is_err f.number ≡ true → IsPlainSum own mode t f
none_summed own mode t f coded some = absurd (true≢false (sym coded ∙ some))

-- a number that is written out
pub digit_part : (t : Text) → is_phrase row.FACTOR t ≡ true → is_digit (first t) ≡ true → is_phrase row.NUMBER t ≡ true
digit_part t ok h = number_here t (operand_of_factor t ok (digit_unsigned (first t) h)) (digit_operand t h)

pub digit_plain : (own : VarsState) (t : Text) (f : Evaluated) → is_phrase row.FACTOR t ≡ true → is_digit (first t) ≡ true
    → Finds (literal_number (tree_at row.NUMBER t)) (after_phrase row.NUMBER t) f → IsPlain own level.Operand t f
digit_plain own t f ok h found =
    let here : is_phrase row.OPERAND t ≡ true = operand_of_factor t ok (digit_unsigned (first t) h) in
    record {
      left = λ some. Finds.left found some ∙ ap length (sym (number_left t here (digit_operand t h)));
      number = λ some e outside same. Finds.number found ∙ sym (number_gives e t here (digit_operand t h));
    }

-- a scalar
pub letter_part : (t : Text) → is_phrase row.FACTOR t ≡ true → is_letter (first t) ≡ true → is_phrase row.OPERAND t ≡ true
letter_part t ok h = operand_of_factor t ok (letter_unsigned (first t) h)

abbrev pub HasScalar : VarsState → Var → Number → Type 0
HasScalar s v x = (x ≡ number_at (cell_at (shape_at v s.table) 0 0) (map.get s.table v)) × (get_code v 0 0 s.table ≡ None)

pub scalar_plain : (own : VarsState) (t : Text) (x : Number) (f : Evaluated) → is_phrase row.OPERAND t ≡ true → is_letter (first t) ≡ true → (get_or t (plain_width t) 0 == byte.opening) ≡ false
    → HasScalar own (scalar_named (first t) (counted_digit (get_or t 1 0))) x → f ≡ record { number = Ok x; left = length t - plain_width t } → IsPlain own level.Operand t f
scalar_plain own t x f ok h none has is_f =
    let v : Var = scalar_named (first t) (counted_digit (get_or t 1 0)) in
    let u : Text = drop (plain_width t) t in
    let here : is_phrase row.VARIABLE t ≡ true = variable_here t ok (letter_operand t h) in
    let plain : (first u == byte.opening) ≡ false = ap (λ (b : ℕ). b == byte.opening) (sym (at_place (plain_width t) t)) ∙ none in
    let same : f ≡ record { number = Ok x; left = length u } = is_f ∙ ap (λ (n : ℕ). record { number = Ok x; left = n }) (sym (length-drop (plain_width t) t)) in
    record {
      left = λ some. ap (λ (g : Evaluated). g.left) same ∙ ap length (scalar_rest t u here h refl plain ∙ sym (variable_left t ok (letter_operand t h)));
      number = λ some e outside own_is.
          let there : HasScalar e.around.own v x = subst (λ (s : VarsState). HasScalar s v x) (sym own_is) has in
          Finds.number (scalar_found e t v x u f here h outside refl plain refl there.0 there.1 same) ∙ sym (variable_gives e t ok (letter_operand t h));
    }
