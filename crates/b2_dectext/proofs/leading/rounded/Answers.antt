use Rattle.std.proofs.Common.{◌≡◌, ◌+◌, ◌-◌, ◌*◌, ◌^◌, sym, ap, ◌∙◌, Ok, Err, arith}
use Rattle.b2_dec.proofs.TenLemmas.{ten_pos}
use Rattle.b2_dectext.proofs.Scales.{written-none, written-some, written-part, written-exact, too_low, too_high, rnd-small, rnd-large}
use Rattle.b2_dectext.proofs.leading.rounded.Goals as goal

pub returns-then-digits-eq0 : goal.returns-then-digits-eq0
returns-then-digits-eq0 c n more tens h e =
    let h' = rw c.if-digits-eq0.true at h in
    ap Ok c.zero.ensures ∙ sym (written-none c.args.neg n more tens c.args.low h')

pub returns-then-high-low : goal.returns-then-high-low
returns-then-high-low c n more tens h e =
    ap Err c.known.ensures ∙ sym (rnd-small c.args.neg _ _ (written-some n c.args.digits more tens c.if-digits-eq0.false h)
    (too_low n c.args.digits more tens c.args.low c.args.high h e c.if-high-low.true))

pub returns-then-high-low-2 : goal.returns-then-high-low-2
returns-then-high-low-2 c n more tens h e =
    ap Err c.known-then-high-low-2.ensures ∙ sym (rnd-large c.args.neg _ _ (written-some n c.args.digits more tens c.if-digits-eq0.false h)
    (too_high n c.args.digits more tens c.args.low c.args.high h c.if-digits-eq0.false e c.if-high-low-2.true))

pub returns-then-digits-lt-COEFFICIENT_LIMIT : goal.returns-then-digits-lt-COEFFICIENT_LIMIT
returns-then-digits-lt-COEFFICIENT_LIMIT c n more tens h e =
    let place : c.args.high - c.args.low + c.args.low ≡ 222 + (more + tens) = omega arith in
    c.round_exact.ensures (n * 10 ^ tens) (10 ^ c.args.low) (ten_pos c.args.low)
    (written-exact n c.args.digits more tens (c.args.high - c.args.low) c.args.low h c.if-digits-lt-COEFFICIENT_LIMIT.true place)

pub returns-else-digits-lt-COEFFICIENT_LIMIT : goal.returns-else-digits-lt-COEFFICIENT_LIMIT
returns-else-digits-lt-COEFFICIENT_LIMIT c n more tens h e =
    let place : c.args.high - c.args.low + c.args.low ≡ 222 + (more + tens) = omega arith in
    c.round_whole_part.ensures (n * 10 ^ tens) (10 ^ c.args.low) (ten_pos c.args.low)
    (written-part n c.args.digits more tens (c.args.high - c.args.low) c.args.low h place)
