use Rattle.std.proofs.Common.{refl}
use Rattle.std.specs.Fn.{FnOnceReturnsAtMut}
use Rattle.b2_expr.specs.Workspace.{workspace}
use Rattle.b2_receiver.proofs.Ended.{lent_does, own_does}
use Rattle.b2_receiver.proofs.receiving.change_among.Goals as goal

pub returns-then-not-global-clause-worked : goal.returns-then-not-global-clause-worked
returns-then-not-global-clause-worked g c does is =
    own_does does (λ old r new. FnOnceReturnsAtMut g.F.FnOnce c.args.assign old r new) (workspace c.args.work.now) c.assign.new.arg2 c.args.global c.assign.result c.code_of.result
    c.if-not-global.true is (record { shown = _; shows = refl; left = _; met = c.assign.ensures; leaves = refl }) c.code_of.ensures.code

pub returns-clause-worked : goal.returns-clause-worked
returns-clause-worked g c does is =
    let work = c.args.work.now in
    lent_does does (λ old r new. FnOnceReturnsAtMut g.F.FnOnce c.args.assign old r new) (workspace work) work.globals.now c.assign-2.new.arg2 c.args.global work.found c.reached_after-work.result
    c.assign-2.result c.in_ok-code.code c.if-not-global.false c.if-not-work.false is (record { shown = _; shows = refl; left = _; met = c.assign-2.ensures; leaves = refl }) c.in_ok-code.ensures.code
    c.reached_after-work.ensures
