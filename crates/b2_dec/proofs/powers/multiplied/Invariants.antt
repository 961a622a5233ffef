use Rattle.std.proofs.Common.{◌≡◌, ◌-◌}
use Rattle.b2_dec.specs.Arithmetic.{one_number, times}
use Rattle.b2_dec.proofs.powers.multiplied.Given as goal

-- The multiplications that are left lead to the whole.
abbrev pub invariant-loop : goal.invariant-loop
invariant-loop l = times l.mode (l.n - l.counter) l.a l.product ≡ times l.mode l.n l.a one_number
