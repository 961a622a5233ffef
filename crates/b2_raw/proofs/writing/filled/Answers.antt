use Rattle.std.proofs.Common.{ℕ, List, length, ◌++◌, ◌∙◌, ap}
use Rattle.b2_raw.proofs.Written.{zeros-left}
use Rattle.b2_raw.proofs.writing.filled.Goals as goal

pub returns : goal.returns
returns c = c.put_front.ensures ∙ ap (λ (rest : List ℕ). c.args.bytes.now ++ rest) (zeros-left (length c.args.bytes.now) 256 c.requires)
