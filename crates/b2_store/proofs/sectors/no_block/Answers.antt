use Rattle.std.proofs.Common.{refl}
use Rattle.b2_access.specs.AccessRows.{no_block}
use Rattle.b2_store.proofs.sectors.no_block.Goals as goal

pub returns : goal.returns
unfolding no_block
returns c = refl
