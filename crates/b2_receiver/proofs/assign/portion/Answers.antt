use Rattle.std.proofs.Common.{ℕ, length, take, drop, ap, ◌∙◌}
use Rattle.b2_receiver.proofs.Portions.{portion_found, portion_length}
use Rattle.b2_receiver.proofs.assign.portion.Goals as goal

pub returns-clause-bytes : goal.returns-clause-bytes
returns-clause-bytes c =
    c.first_bytes.ensures
    ∙ ap (λ (n : ℕ). take n c.rest_after.result.now) c.from-in-Ok.ensures
    ∙ ap (take c.args.to.now.portion.count) (c.rest_after.ensures ∙ ap (λ (n : ℕ). drop n c.in-Ok.bytes.now) c.from.ensures ∙ ap (drop c.args.to.now.portion.from) c.in-Ok.ensures.value)
    ∙ portion_found c.args.to.now c.args.vars.now c.requires.there

pub returns-clause-count : goal.returns-clause-count
returns-clause-count c =
    ap length (returns-clause-bytes c) ∙ portion_length c.args.to.now c.args.vars.now c.requires.there c.shape-shape.ensures.sound
