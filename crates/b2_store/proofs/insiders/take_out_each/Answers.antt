use Rattle.std.proofs.Common.{◌==◌, ℕ, not, rules}
use Rattle.std.proofs.lemmas.Fn.{filter_same}
use Rattle.b2_store.proofs.insiders.take_out_each.Goals as goal

pub returns : goal.returns
returns c = filter_same _ (λ (x : ℕ). not (x == c.args.p)) _ (λ x b f' k. search rules) _ _ c.retain.ensures.filtered
