use Rattle.std.proofs.lemmas.List.{get_or-set_same, get_or-set_other}
use Rattle.b2_dec.specs.Number.{zero_number}
use Rattle.b2_vars.proofs.laws.numbers_are_read_back.Goals as goal

pub returns : goal.returns
returns c = record {
  read = λ x cell n within. get_or-set_same x.numbers cell n zero_number within;
  others = λ x cell other n apart. get_or-set_other x.numbers cell other n zero_number apart;
}
