use Rattle.b2_machine.proofs.text_only.open_found.Goals as goal

pub returns-then-is_at_once-clause-opened : goal.returns-then-is_at_once-clause-opened
returns-then-is_at_once-clause-opened g c = c.open_at_once.ensures.opened c.args.devices.now
