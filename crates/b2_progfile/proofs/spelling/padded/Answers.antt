use Rattle.std.proofs.Common.{◌++◌, List, ℕ, length, ap₂}
use Rattle.std.proofs.lemmas.List.{drop-replicate}
use Rattle.b2_progfile.proofs.spelling.padded.Goals as goal

pub returns : goal.returns
returns c = ap₂ (λ (a b : List ℕ). a ++ b) c.copy_from_slice.ensures.after (drop-replicate (length c.args.bytes.now) 255 0)
