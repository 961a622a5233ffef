use Rattle.b2_platter.specs.Image.{sector}
use Rattle.b2_platter.proofs.Chunks.{first_chunk_is}
use Rattle.b2_platter.proofs.image.sector.Goals as goal

pub returns : goal.returns
unfolding sector
returns c = first_chunk_is c.args.image.now _ _ _ _ _ c.first_chunk.ensures.cases c.unwrap.ensures
