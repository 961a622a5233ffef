use Rattle.std.proofs.Common.{◌≡◌, ℕ, ◌+◌, ◌-◌, ◌%◌, ◌<◌, Bool, true, false, List, length, get_or, set, map, cond, refl, sym, ap, ◌∙◌, arith}
use Rattle.std.specs.List.{list_all}
use Rattle.std.proofs.lemmas.List.{length-map, map-set, get_or-map}
use Rattle.b2_base.specs.Lexical.{is_decimal, decimal_of, decimal_byte}
use Rattle.b2_alpha.specs.Sums.{aligned}
use Rattle.b2_alpha.proofs.Aligning.{aligned_at, length-aligned}
use Rattle.b2_alpha.proofs.Carrying.{Carried-none, Carried-more, Carried-all, addends, addends_at, length-addends, sum_or_difference, is_start, start_small, addend_below}
use Rattle.b2_alpha.proofs.Decimals.{AllDecimal, first_true, second_true, all_decimal, decimal_set, decimals_below, nibbles_back, decimal_of-decimal_byte, is_decimal-decimal_byte}
use Rattle.b2_alpha.proofs.sums.sum_decimals.Goals as goal

map-cond : (f : ℕ → ℕ) (b : Bool) (xs ys : List ℕ) → map f (cond b xs ys) ≡ cond b (map f xs) (map f ys)
map-cond f true xs ys = refl
map-cond f false xs ys = refl

same_length : (subtract : _) (xs ys : List ℕ) → length (addends subtract 100 (map decimal_of (aligned (length xs) ys))) ≡ length (map decimal_of xs)
same_length subtract xs ys =
    length-addends subtract 100 (map decimal_of (aligned (length xs) ys)) ∙ length-map (aligned (length xs) ys) decimal_of ∙ length-aligned (length xs) ys ∙ sym (length-map xs decimal_of)

-- the digits in the operand's place
digit_over : (xs ys : List ℕ) (p : ℕ) → p < length xs → get_or (map decimal_of (aligned (length xs) ys)) p 0 ≡ decimal_of (get_or (aligned (length xs) ys) p 0)
digit_over xs ys p inside = get_or-map decimal_of (aligned (length xs) ys) p 0 0 (omega (arith, length-aligned (length xs) ys))

pub loop-i-init : goal.loop-i-init
loop-i-init c = (
  Carried-none 100 (map decimal_of c.args.to.now) (addends c.args.subtract 100 (map decimal_of (aligned (length c.args.to.now) c.args.from.now))) c.from-carry.result
      (start_small c.args.subtract c.from-carry.result (is_start c.args.subtract c.from-carry.result c.from-carry.ensures))
      (same_length c.args.subtract c.args.to.now c.args.from.now),
  all_decimal c.args.to.now (first_true (list_all is_decimal c.args.to.now) (list_all is_decimal (aligned (length c.args.to.now) c.args.from.now)) c.requires),
)

pub decimal-requires : goal.decimal-requires
decimal-requires c =
    let all : AllDecimal (aligned (length c.args.to.now) c.args.from.now) =
    all_decimal (aligned (length c.args.to.now) c.args.from.now) (second_true (list_all is_decimal c.args.to.now) (list_all is_decimal (aligned (length c.args.to.now) c.args.from.now)) c.requires) in
    let at : get_or (aligned (length c.args.to.now) c.args.from.now) (length c.args.to.now - 1 - c.loop-i.i) 0 ≡ c.from_end.result =
    aligned_at (length c.args.to.now) c.args.from.now (length c.args.to.now - 1 - c.loop-i.i) c.loop-i.i (omega arith) ∙ sym c.from_end.ensures in
    ap is_decimal (sym at) ∙ all (length c.args.to.now - 1 - c.loop-i.i)

pub decimal-requires-in-loop-i : goal.decimal-requires-in-loop-i
decimal-requires-in-loop-i c = c.loop-i.invariant.1 (length c.loop-i.to - 1 - c.loop-i.i)

pub overflow_add-sum-in-loop-i : goal.overflow_add-sum-in-loop-i
overflow_add-sum-in-loop-i c =
    let small = c.loop-i.invariant.0.small in
    let other = addend_below 100 c.args.subtract c.decimal.result c.addend-operand.result c.addend-operand.ensures c.decimal.ensures.below in
    omega arith

pub loop-i-preserved : goal.loop-i-preserved
loop-i-preserved c =
    let place : length c.args.to.now ≡ length c.loop-i.to - 1 - c.loop-i.i + 1 + c.loop-i.i = omega arith in
    let inside : length c.loop-i.to - 1 - c.loop-i.i < length c.args.to.now = omega arith in
    let operand : c.decimal.result ≡ get_or (map decimal_of (aligned (length c.args.to.now) c.args.from.now)) (length c.loop-i.to - 1 - c.loop-i.i) 0 =
    c.decimal.ensures.value ∙ ap decimal_of (c.from_end.ensures ∙ sym (aligned_at (length c.args.to.now) c.args.from.now (length c.loop-i.to - 1 - c.loop-i.i) c.loop-i.i place))
    ∙ sym (digit_over c.args.to.now c.args.from.now (length c.loop-i.to - 1 - c.loop-i.i) inside) in
    let addend : c.addend-operand.result ≡ get_or (addends c.args.subtract 100 (map decimal_of (aligned (length c.args.to.now) c.args.from.now))) (length c.loop-i.to - 1 - c.loop-i.i) 0 =
    c.addend-operand.ensures ∙ ap (λ y. cond c.args.subtract (99 - y) y) operand
    ∙ sym (addends_at c.args.subtract 100 (map decimal_of (aligned (length c.args.to.now) c.args.from.now)) (length c.loop-i.to - 1 - c.loop-i.i) (omega (arith, length-map (aligned (length c.args.to.now) c.args.from.now) decimal_of, length-aligned (length c.args.to.now) c.args.from.now))) in
    let there = addend_below 100 c.args.subtract c.decimal.result c.addend-operand.result c.addend-operand.ensures c.decimal.ensures.below in
    let kept = c.loop-i.invariant.0.kept (length c.loop-i.to - 1 - c.loop-i.i) (omega (arith, length-map c.args.to.now decimal_of)) in
    let here : c.decimal-in-loop-i.result ≡ get_or (map decimal_of c.args.to.now) (length c.loop-i.to - 1 - c.loop-i.i) 0 =
    c.decimal-in-loop-i.ensures.value ∙ sym (get_or-map decimal_of c.loop-i.to (length c.loop-i.to - 1 - c.loop-i.i) 0 0 (omega arith)) ∙ kept in
    let made = Carried-more 100 (map decimal_of c.args.to.now) (addends c.args.subtract 100 (map decimal_of (aligned (length c.args.to.now) c.args.from.now))) (map decimal_of c.loop-i.to) c.from-carry.result c.loop-i.i (length c.loop-i.to - 1 - c.loop-i.i) c.loop-i.carry c.decimal-in-loop-i.result c.addend-operand.result
    (omega (arith, length-map c.args.to.now decimal_of)) (omega (arith, length-map c.args.to.now decimal_of, length-map c.loop-i.to decimal_of))
    (same_length c.args.subtract c.args.to.now c.args.from.now) here addend c.decimal-in-loop-i.ensures.below there c.loop-i.invariant.0 in
    let below : (c.decimal-in-loop-i.result + c.addend-operand.result + c.loop-i.carry) % 100 < 100 = omega arith in
    let written : map decimal_of (set c.loop-i.to (length c.loop-i.to - 1 - c.loop-i.i) c.nibbles.result) ≡ set (map decimal_of c.loop-i.to) (length c.loop-i.to - 1 - c.loop-i.i) ((c.decimal-in-loop-i.result + c.addend-operand.result + c.loop-i.carry) % 100) =
    map-set decimal_of c.loop-i.to (length c.loop-i.to - 1 - c.loop-i.i) c.nibbles.result
    ∙ ap (set (map decimal_of c.loop-i.to) (length c.loop-i.to - 1 - c.loop-i.i)) (ap decimal_of c.nibbles.ensures ∙ decimal_of-decimal_byte ((c.decimal-in-loop-i.result + c.addend-operand.result + c.loop-i.carry) % 100) below) in (
      rw written made,
      decimal_set c.loop-i.to (length c.loop-i.to - 1 - c.loop-i.i) c.nibbles.result (omega arith) (ap is_decimal c.nibbles.ensures ∙ is_decimal-decimal_byte ((c.decimal-in-loop-i.result + c.addend-operand.result + c.loop-i.carry) % 100) below) c.loop-i.invariant.1,
    )

pub returns : goal.returns
returns c =
    let same : length (map decimal_of c.loop-i.to) ≡ length (map decimal_of c.args.to.now) = omega (arith, length-map c.loop-i.to decimal_of, length-map c.args.to.now decimal_of) in
    let at_end : c.loop-i.i ≡ length (map decimal_of c.args.to.now) = omega (arith, length-map c.args.to.now decimal_of) in
    let all : AllDecimal (aligned (length c.args.to.now) c.args.from.now) =
    all_decimal (aligned (length c.args.to.now) c.args.from.now) (second_true (list_all is_decimal c.args.to.now) (list_all is_decimal (aligned (length c.args.to.now) c.args.from.now)) c.requires) in
    let digits_made = Carried-all 100 (map decimal_of c.args.to.now) (addends c.args.subtract 100 (map decimal_of (aligned (length c.args.to.now) c.args.from.now))) (map decimal_of c.loop-i.to) c.from-carry.result c.loop-i.carry same (decimals_below c.loop-i.to c.loop-i.invariant.1) (rw at_end at c.loop-i.invariant.0)
    ∙ sum_or_difference 100 (map decimal_of c.args.to.now) (map decimal_of (aligned (length c.args.to.now) c.args.from.now)) c.args.subtract c.from-carry.result
    (decimals_below (aligned (length c.args.to.now) c.args.from.now) all)
    (length-map (aligned (length c.args.to.now) c.args.from.now) decimal_of ∙ length-aligned (length c.args.to.now) c.args.from.now ∙ sym (length-map c.args.to.now decimal_of))
    (is_start c.args.subtract c.from-carry.result c.from-carry.ensures) in
    sym (nibbles_back c.loop-i.to c.loop-i.invariant.1) ∙ ap (map decimal_byte) digits_made ∙ map-cond decimal_byte c.args.subtract _ _
