use Rattle.b2_pack.proofs.WrittenImages.{image-read, image-only}
use Rattle.b2_pack.proofs.laws.law_images_are_read.Goals as goal

pub returns : goal.returns
returns c = record { read = image-read; only = image-only }
