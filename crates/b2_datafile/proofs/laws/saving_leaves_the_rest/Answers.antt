use Rattle.b2_datafile.proofs.Saved.{saved, saved-good, saved-files}
use Rattle.b2_datafile.proofs.laws.saving_leaves_the_rest.Goals as goal

pub returns : goal.returns
returns c = record {
  good = saved-good;
  files = saved-files;
  before = λ image e pos values k s h. (saved image e pos values s).before k h;
  after = λ image e pos values k s h. (saved image e pos values s).after k h;
}
