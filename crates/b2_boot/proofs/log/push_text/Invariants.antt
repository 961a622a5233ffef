use Rattle.std.proofs.Common.{◌≡◌, ◌++◌, drop}
use Rattle.b2_boot.specs.Logs.{key_events}
use Rattle.b2_boot.proofs.log.push_text.Given as goal

abbrev pub invariant-loop-key : goal.invariant-loop-key
invariant-loop-key l = l.events.items ++ key_events l.terminal (drop l.key-index l.text) ≡ l.initial.events.items ++ key_events l.terminal l.text
