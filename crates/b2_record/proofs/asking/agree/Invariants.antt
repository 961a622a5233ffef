use Rattle.std.proofs.Common.{◌≡◌, drop}
use Rattle.b2_record.specs.Asking.{agree}
use Rattle.b2_record.proofs.asking.agree.Given as goal

-- all agree exactly where the rest does
abbrev pub invariant-loop-kind : goal.invariant-loop-kind
invariant-loop-kind l = agree (drop l.kind-index l.kinds) l.rest ≡ agree l.kinds l.values
