use Rattle.std.proofs.Common.{◌≡◌, ◌↔◌, false, IfOk, subst}
use Rattle.std.specs.List.{list_any}
use Rattle.b2_term.specs.Terminal.{TerminalState, ends_line}
use Rattle.b2_term.specs.declared.Read.TheVariants as read
use Rattle.b2_term.proofs.Endings.{no_keys_told}
use Rattle.b2_term.proofs.Terminal.read_line.Goals as goal

pub returns-clause-no_keys : goal.returns-clause-no_keys
returns-clause-no_keys c =
    subst (λ (s : TerminalState). IfOk c.read_keys.result (λ r. (r ≡ read.NoKeys) ↔ (list_any ends_line s.queue ≡ false))) c.self.view_is
    (no_keys_told c.read_keys.result _ c.self.inside.queue.items _ _ (record { line = c.self.inside.line.items; transcript = c.self.inside.transcript.items }) c.read_keys.ensures.reads)
