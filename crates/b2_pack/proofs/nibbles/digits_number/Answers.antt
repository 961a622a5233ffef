use Rattle.std.proofs.Common.{◌≡◌, ℕ, ◌*◌, ◌^◌, ap, ◌∙◌, arith}
use Rattle.b2_dec.specs.declared.number.Mode.TheVariants.{Round}
use Rattle.b2_dec.specs.Rounding.{rnd}
use Rattle.b2_pack.proofs.nibbles.digits_number.Goals as goal

once : (n : ℕ) → n * 10 ^ 0 ≡ n
once n = omega arith

pub returns : goal.returns
returns c = c.rounded.ensures _ c.leading_digits-leading.result.more 0 c.leading_digits-leading.ensures.value (omega arith) ∙ ap (λ t. rnd Round c.args.neg t (10 ^ c.args.decimals)) (once _)
