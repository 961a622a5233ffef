use Rattle.b2_vars.proofs.EntriesAsMap.{get_put, get_other}
use Rattle.b2_vars.proofs.laws.one_name_changes.Goals as goal

pub returns : goal.returns
returns c = record { found = get_put; others = λ t v other x apart. get_other t v other x apart }
