use Rattle.std.proofs.Common.{◌≡◌, ◌∙◌, length, arith, ⊎_elim}
use Rattle.std.proofs.lemmas.Bool.{cases_lt}
use Rattle.std.proofs.lemmas.Bool.Decides.{nat_tests}
use Rattle.b2_alpha.proofs.Measuring.{length-value_of, length-value_of-one, length-value_of-none}
use Rattle.b2_alpha.proofs.value.value_len.Goals as goal

pub returns-else-a-len-eq32-clause-value : goal.returns-else-a-len-eq32-clause-value
returns-else-a-len-eq32-clause-value c =
    length-value_of c.args.a.now c.loop-len.len (omega arith) c.loop-len.invariant.0 c.loop-len.invariant.2 (let other = c.if-a-len-eq32.false in grind (arith, nat_tests))

pub returns-after-loop-len-clause-value : goal.returns-after-loop-len-clause-value
returns-after-loop-len-clause-value c =
    let inv = c.loop-len.invariant in
    ⊎_elim
    (λ some.
    let one : c.loop-len.len ≡ 1 = omega (arith, c.loop-len.invariant.1 some) in
    one ∙ length-value_of-one c.args.a.now some (λ k low inside. c.loop-len.invariant.2 k (omega arith) inside))
    (λ none. let zero : c.loop-len.len ≡ 0 = omega (arith, c.loop-len.invariant.0) in zero ∙ length-value_of-none c.args.a.now (omega arith))
    (cases_lt 0 (length c.args.a.now))
