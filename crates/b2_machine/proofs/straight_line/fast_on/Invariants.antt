use Rattle.std.proofs.Common.{◌≡◌, ◌≤◌, List, Some}
use Rattle.b2_access.specs.declared.devices.Device.{Device}
use Rattle.b2_machine.specs.StraightLine.{AllLead, led, place_in}
use Rattle.b2_machine.specs.Statements.{texts_seen}
use Rattle.b2_machine.proofs.straight_line.fast_on.Given as goal

abbrev pub invariant-loop : goal.invariant-loop
invariant-loop g l =
    let s = texts_seen l.own l.text in
    record {
      lead : (devices : List Device) → AllLead (g.L.Language.ways devices) l.home s l.steps l.fn.me;
      led : (devices : List Device) → led (g.L.Language.ways devices) l.home s l.steps l.fn.me ≡ l.me;
      there : place_in l.home l.me ≡ Some l.place;
      counted : l.steps ≡ l.counter;
      few : l.steps ≤ l.left;
      part : l.me.part ≡ l.fn.me.part;
    }
