use Rattle.std.proofs.Common.{◌/◌, ◌%◌, ℕ, set, ap, ◌∙◌, arith, add-one}
use Rattle.b2_matalpha.proofs.Receiving.{written_at, not_written}
use Rattle.b2_matalpha.proofs.locators.put_locator.Goals as goal

pub returns-then-into-at-lt2-clause-after : goal.returns-then-into-at-lt2-clause-after
returns-then-into-at-lt2-clause-after c = not_written c.args.place c.args.into.now c.args.at (omega arith)

pub returns-clause-after : goal.returns-clause-after
returns-clause-after c =
    ap (λ (j : ℕ). set (set c.args.into.now c.args.at (c.args.place / 256)) j (c.args.place % 256)) (add-one c.args.at) ∙ written_at c.args.place c.args.into.now c.args.at (omega arith)
