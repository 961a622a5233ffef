use Rattle.std.specs.Prelude.{Option}
use Rattle.std.proofs.Common.{◌≡◌, ◌∙◌, ◌+◌, ◌-◌, ap, sym, arith, ℕ}
use Rattle.b2_machine.specs.Turn.{TurnEnd, ended_turn, turn_from, unless_ended}
use Rattle.b2_machine.specs.declared.ends.Why.{Why}
use Rattle.b2_machine.proofs.Kept.{both_kept}
use Rattle.b2_machine.proofs.Turns.{at_end}
use Rattle.b2_machine.proofs.turning.take_steps.Goals as goal

pub advance-requires : goal.advance-requires
advance-requires g c = record { present = c.loop-taken.invariant.present; some = omega (arith, c.loop-taken-test.true) }

pub returns-in-Some-clause-turned : goal.returns-in-Some-clause-turned
returns-in-Some-clause-turned g c =
    let shared = g.S.Shared in
    let went = c.in_ok-went.went in
    let rest = turn_from (g.L.Language.ways c.args.d.now) shared.store shared.serving shared.lending (c.args.quota - c.loop-taken.taken - went.taken) c.advance.new.me (shared.meaning c.advance.new.s) (c.loop-taken.steps + went.counted) in
    ap (λ (w : Option Why). unless_ended {A = TurnEnd shared.Meaning} w (λ y. ended_turn (c.loop-taken.steps + went.counted) y c.advance.new.me (shared.meaning c.advance.new.s)) rest) (sym c.in-Some.is)
    ∙ c.in_ok-went.ensures.advances.told c.loop-taken.steps
    ∙ c.loop-taken.invariant.told

pub loop-taken-preserved : goal.loop-taken-preserved
loop-taken-preserved g c =
    let shared = g.S.Shared in
    let went = c.in_ok-went.went in
    let advances = c.in_ok-went.ensures.advances in
    let ways = g.L.Language.ways c.args.d.now in
    let counted = c.loop-taken.steps + went.counted in
    let left : c.args.quota - (c.loop-taken.taken + went.taken) ≡ c.args.quota - c.loop-taken.taken - went.taken = omega arith in
    record {
      told = ap (λ (n : ℕ). turn_from ways shared.store shared.serving shared.lending n c.advance.new.me (shared.meaning c.advance.new.s) counted) left
          ∙ ap (λ (w : Option Why). unless_ended {A = TurnEnd shared.Meaning} w (λ y. ended_turn counted y c.advance.new.me (shared.meaning c.advance.new.s)) (turn_from ways shared.store shared.serving shared.lending (c.args.quota - c.loop-taken.taken - went.taken) c.advance.new.me (shared.meaning c.advance.new.s) counted)) (sym c.in-None.is)
          ∙ advances.told c.loop-taken.steps
          ∙ c.loop-taken.invariant.told;
      few = omega (arith, advances.counted, c.loop-taken.invariant.few);
      within = omega (arith, advances.few, c.loop-taken.invariant.within, c.loop-taken-test.true);
      same = c.in_ok-went.ensures.kept.same ∙ c.loop-taken.invariant.same;
      part = c.in_ok-went.ensures.kept.part ∙ c.loop-taken.invariant.part;
      present = advances.present;
      listed = both_kept _ _ _ c.loop-taken.invariant.listed c.in_ok-went.ensures.kept.listed;
    }

pub returns-clause-turned : goal.returns-clause-turned
returns-clause-turned g c =
    let shared = g.S.Shared in
    at_end (g.L.Language.ways c.args.d.now) shared.store shared.serving shared.lending c.args.quota c.loop-taken.taken c.loop-taken.me (shared.meaning c.loop-taken.s) c.loop-taken.steps (omega (arith, c.loop-taken-test.false)) ∙ c.loop-taken.invariant.told
