use Rattle.b2_dec.proofs.Exact.{exact_is_whole}
use Rattle.b2_dec.proofs.rounding.round_exact.Goals as goal

pub returns-else-m-lt-SHORT_LIMIT : goal.returns-else-m-lt-SHORT_LIMIT
returns-else-m-lt-SHORT_LIMIT c n d some e = c.round_whole_part.ensures n d some (exact_is_whole c.args.m c.args.at n d some e)
