use Rattle.std.proofs.Common.{◌≡◌, ◌≤◌, ◌-◌, None}
use Rattle.b2_machine.specs.StraightLine.{AllLead, led}
use Rattle.b2_machine.specs.Statements.{texts_seen}
use Rattle.b2_machine.proofs.straight_line.run_on.Given as goal

abbrev pub invariant-loop-gone_fast : goal.invariant-loop-gone_fast
invariant-loop-gone_fast g l =
    let ways = g.L.Language.ways l.devices in
    let s = texts_seen l.own l.text in
    record {
      lead : AllLead ways l.home s l.steps l.fn.me;
      led : led ways l.home s l.steps l.fn.me ≡ l.me;
      few : l.steps ≤ l.left;
      none : l.access ≡ None;
      part : l.me.part ≡ l.fn.me.part;
    }

abbrev pub decreases-loop-gone_fast : goal.decreases-loop-gone_fast
decreases-loop-gone_fast g l = l.left - l.steps
