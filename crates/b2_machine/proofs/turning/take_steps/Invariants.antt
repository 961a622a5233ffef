use Rattle.std.proofs.Common.{◌≡◌, ◌-◌, ◌≤◌}
use Rattle.b2_machine.specs.Advancing.{ArePresent}
use Rattle.b2_machine.specs.Stays.{KeepsAll}
use Rattle.b2_machine.specs.Turn.{turn_from}
use Rattle.b2_machine.proofs.turning.take_steps.Given as goal

abbrev pub invariant-loop-taken : goal.invariant-loop-taken
invariant-loop-taken g l =
    let shared = g.S.Shared in
    record {
      told : turn_from (g.L.Language.ways l.fn.d) shared.store shared.serving shared.lending (l.quota - l.taken) l.me (shared.meaning l.s) l.steps ≡ turn_from (g.L.Language.ways l.fn.d) shared.store shared.serving shared.lending l.quota l.fn.me (shared.meaning l.fn.s) 0;
      few : l.steps ≤ l.taken;
      within : l.taken ≤ l.quota;
      same : shared.holds l.s ≡ shared.holds l.fn.s;
      part : l.me.part ≡ l.fn.me.part;
      present : ArePresent (shared.store (shared.meaning l.s)) l.me;
      listed : KeepsAll (shared.store (shared.meaning l.fn.s)) (shared.store (shared.meaning l.s));
    }

abbrev pub decreases-loop-taken : goal.decreases-loop-taken
decreases-loop-taken g l = l.quota - l.taken
