use Rattle.std.proofs.Common.{◌≡◌, drop}
use Rattle.b2_receiver.specs.RightSide.{made_by}
use Rattle.b2_receiver.proofs.operations.operate_all.Given as goal

-- what is left makes of the bytes what all of them do
abbrev pub invariant-loop-operation : goal.invariant-loop-operation
invariant-loop-operation l = made_by (drop l.operation-index l.operations) l.to ≡ made_by l.operations l.fn.to
