use Rattle.b2_machine.proofs.turning.turn.Goals as goal

pub take_steps-requires-clause-present : goal.take_steps-requires-clause-present
take_steps-requires-clause-present g c = let w = c.requires.present in record { part = w.part; place = w.place; kept = w.kept; frames = w.frames }
