use Rattle.std.proofs.Common.{◌≡◌, drop}
use Rattle.b2_access.specs.Reach.{objects_held}
use Rattle.b2_audit.specs.Marks.{write_all}
use Rattle.b2_audit.proofs.marking.write_holders.Given as goal

-- with those that are left it is all that is to be marked
abbrev pub invariant-loop-addr : goal.invariant-loop-addr
invariant-loop-addr l = write_all l.who (objects_held (drop l.addr-index l.addresses)) l.seen ≡ write_all l.who (objects_held l.addresses) l.fn.seen
