use Rattle.std.proofs.Common.{◌≡◌, ◌-◌, ◌*◌, ◌^◌, ◌%◌, ◌==◌, ℕ, subst, if◌then◌else◌}
use Rattle.std.specs.Int.{bit_at}
use Rattle.b2_base.proofs.PartBits.{mark_bit}
use Rattle.b2_base.proofs.places.Part.bit.Goals as goal

pub returns-clause-own : goal.returns-clause-own
returns-clause-own c = λ p low.
    let n = c.self.inside.number in
    subst (λ (m : ℕ). bit_at (1 * 2 ^ (n - 1) % 65536) (p - 1) ≡ (if m == p then 1 else 0)) c.self.view_is (mark_bit n p c.self.invariant.0 c.self.invariant.1 low)
