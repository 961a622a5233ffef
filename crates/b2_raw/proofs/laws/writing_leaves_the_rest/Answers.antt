use Rattle.b2_raw.proofs.Rest.{below, files-kept, new-good, others, placed}
use Rattle.b2_raw.proofs.laws.writing_leaves_the_rest.Goals as goal

pub returns : goal.returns
returns c = record {
  good = λ image new at sectors w. new-good image at sectors new w;
  files = λ image new at sectors w. files-kept image at sectors new w;
  slots = λ image new at k sectors w h. (placed image at sectors new w).rows k h;
  below = λ image new at k sectors w h. below image at sectors new w k h;
  others = λ image new at k sectors w h. others image at sectors new w k h;
  there = λ image new at sectors w. (placed image at sectors new w).there;
}
