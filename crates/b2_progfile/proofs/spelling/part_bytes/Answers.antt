use Rattle.std.proofs.Common.{◌*◌, drop, arith}
use Rattle.std.proofs.lemmas.List.{length-take}
use Rattle.b2_progfile.proofs.spelling.part_bytes.Goals as goal

pub returns-clause-short : goal.returns-clause-short
returns-clause-short c = let n = length-take 255 (drop (255 * c.args.k) c.args.bytes.now) in rw (c.first_bytes.ensures, c.rest_after.ensures) (omega (arith, n))
