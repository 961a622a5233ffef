use Rattle.std.proofs.Common.{rules, ◌≡◌, subst, true, Some}
use Rattle.std.specs.List.{slice_get}
use Rattle.b2_flow.specs.Frames.{is_same_variable}
use Rattle.b2_flow.specs.declared.frame.Frame.TheVariants.{For}
use Rattle.b2_flow.specs.declared.frame.Var2.{Var2}
use Rattle.b2_access.specs.JumpTargets.{lead_seen}
use Rattle.b2_stmt.specs.Loops.{nexts}
use Rattle.b2_stmt.specs.Fast.{Steers}
use Rattle.b2_stmt.proofs.FastRows.{next_fast}
use Rattle.b2_stmt.proofs.Tops.{round_fast}
use Rattle.b2_stmt.proofs.fast.fast_next.Goals as goal

pub returns-then-eq-clause-fast : goal.returns-then-eq-clause-fast
returns-then-eq-clause-fast c =
    let v = c.counter_at-v.result in
    let me = c.args.me.now in
    let f = c.args.found.now in
    let l = lead_seen c.fast_round.result in
    let top : slice_get me.stack 0 ≡ Some (For c.in-For.var c.in-For.limit c.in-For.step c.in-For.body) = search rules in
    let same : is_same_variable c.in-For.var v ≡ true = search rules in
    next_fast f me c.fast_round.new.me l c.requires.program c.requires.next
    (subst (λ (w : Var2). Steers l f me c.fast_round.new.me (nexts w me)) c.counter_at-v.ensures.variable
    (round_fast f me c.fast_round.new.me l v c.in-For.var c.in-For.limit c.in-For.step c.in-For.body top same c.fast_round.ensures.fast))
