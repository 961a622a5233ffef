use Rattle.std.proofs.Common.{◌≡◌, ℕ, ◌<◌, length, drop, Option, Some, None, sym, ◌∙◌, length-drop, arith}
use Rattle.b2_pack.specs.Specification.{specified_pairs}
use Rattle.b2_pack.specs.Packing.{placed_from}
use Rattle.b2_pack.proofs.PackingLemmas.{code-lacks_any}
use Rattle.b2_pack.proofs.packing.put_values.Goals as goal

never : (n : ℕ) → (let nothing : Option ℕ = None in nothing) ≡ Some n → ⊥
never n e = cc

pub returns-in_default : goal.returns-in_default
returns-in_default c =
    let some : 0 < length (drop c.loop-i.i c.args.values.now) = omega (arith, length-drop c.loop-i.i c.args.values.now) in
    absurd (never 70 (sym c.loop-i.invariant.code ∙ code-lacks_any (placed_from c.loop-i.at (specified_pairs c.loop-i.rest.now)) (drop c.loop-i.i c.args.values.now) (length c.loop-i.to) c.in_default.ensures some))
