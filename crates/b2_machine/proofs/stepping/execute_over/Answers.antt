use Rattle.std.specs.Prelude.{ℕ}
use Rattle.std.proofs.Common.{ap, ◌∙◌}
use Rattle.b2_machine.specs.Statements.{Begun, leaves}
use Rattle.b2_machine.specs.Step.{carries_out, goes_through, seen_by}
use Rattle.b2_machine.proofs.Results.{ok_map}
use Rattle.b2_machine.proofs.stepping.execute_over.Goals as goal

pub returns-clause-ended : goal.returns-clause-ended
returns-clause-ended g c =
    let shared = g.S.Shared in
    let ways = g.L.Language.ways c.args.d.now in
    let me = c.args.me.now in
    let p = c.args.place in
    let whose = c.args.whose.now in
    let m = shared.meaning c.args.s.now in
    let left = leaves ways p me (seen_by me.part p.home whose (shared.store m)) in
    ok_map c.carry_out.result _ _ (λ e is. is
    ∙ ap (λ (n : ℕ). carries_out ways shared.store shared.serving shared.lending n c.in_ok-progress.progress p whose c.begin.new.me (shared.meaning c.begin.new.s)) c.in_ok-progress.ensures.kept.part
    ∙ ap (λ (n : shared.Meaning). goes_through ways shared.store shared.serving shared.lending me.part (record { me = c.begin.new.me; progress = c.in_ok-progress.progress }) p whose n) c.in_ok-progress.ensures.lent
    ∙ ap (λ (b : Begun). goes_through ways shared.store shared.serving shared.lending me.part b p whose (shared.lending me.part p.home whose m left)) c.in_ok-progress.ensures.begun) (c.carry_out.ensures.ended c.args.d.now)
