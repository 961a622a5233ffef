use Rattle.b2_dectext.proofs.ReadBack.{printed-spaces}
use Rattle.b2_dectext.proofs.ShownBack.{shown-len, shown-read, plain-shown, shown-again}
use Rattle.b2_dectext.proofs.laws.printed_is_read.Goals as goal

pub returns : goal.returns
returns c = record {
  spaces = printed-spaces c.args.a;
  len = shown-len c.args.a c.is_zero-zero.ensures.spelling;
  value = shown-read c.args.a c.is_zero-zero.ensures.spelling;
  plain = plain-shown c.args.a;
  again = shown-again c.args.a c.is_zero-zero.ensures.spelling;
}
