use Rattle.std.proofs.Common.{◌≡◌, ℤ, [], ◌∷◌, IfOk, rules, subst, to_z, of_z, w64}
use Rattle.b2_expr.specs.Workspace.{WorkLeft, workspace}
use Rattle.b2_stmt_disk.specs.Limits.{gives_each, numbers_told}
use Rattle.b2_stmt_disk.specs.Receivers.{receivers_at}
use Rattle.b2_stmt_disk.proofs.LimitsRows.{disk_given, disk_three}
use Rattle.b2_stmt_disk.proofs.limits.give_disk.Goals as goal

pub give_each-requires : goal.give_each-requires
give_each-requires c = record { stand = disk_three c.args.text.now c.requires.phrase }

-- a signed number is as it was put into the list
pub returns-clause-worked : goal.returns-clause-worked
returns-clause-worked c =
    let n = c.args.told in
    let first : to_z w64 (of_z w64 n.first) ≡ n.first = search rules in
    let second : to_z w64 (of_z w64 n.second) ≡ n.second = search rules in
    let third : to_z w64 (of_z w64 n.third) ≡ n.third = search rules in
    let Left : ℤ → ℤ → ℤ → Type 0 = λ x y z.
    IfOk c.give_each.result (λ code. ◌≡◌ {A = WorkLeft} (record { work = workspace c.give_each.new.work; code = code }) (gives_each (x ∷ y ∷ z ∷ []) (receivers_at 3 c.args.text.now) (workspace c.args.work.now))) in
    let left : Left (to_z w64 (of_z w64 n.first)) (to_z w64 (of_z w64 n.second)) (to_z w64 (of_z w64 n.third)) = c.give_each.ensures.worked in
    rw (disk_given (numbers_told n) c.args.text.now (workspace c.args.work.now) c.requires.phrase)
    (subst (λ (x : ℤ). Left x n.second n.third) first
    (subst (λ (y : ℤ). Left (to_z w64 (of_z w64 n.first)) y n.third) second (subst (λ (z : ℤ). Left (to_z w64 (of_z w64 n.first)) (to_z w64 (of_z w64 n.second)) z) third left)))
