use Rattle.std.proofs.Common.{rules, ◌≡◌, Bool, IfOk, subst}
use Rattle.b2_expr.specs.Workspace.{among, workspace}
use Rattle.b2_stmt_pack.specs.Numbers.{numbers_packed}
use Rattle.b2_stmt_pack.proofs.buffers.put_numbers.Goals as goal

pub returns-clause-worked : goal.returns-clause-worked
returns-clause-worked c =
    let packs = numbers_packed c.args.image.now c.args.xs.now c.args.to.now in
    subst (λ (b : Bool). IfOk c.change_among.result (λ code. record { work = workspace c.change_among.new.work; code = code } ≡ among b packs (workspace c.args.work.now))) c.is_global.ensures
    (c.change_among.ensures.worked packs (λ old r new met. search rules))
