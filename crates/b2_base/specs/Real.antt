-- The counts of the real shelf and the real sink, by each answer.
use Rattle.std.specs.Prelude.{ℕ}
use Rattle.b2_base.specs.Counts.{counted}
use Rattle.b2_base.specs.declared.outside.Fetch.{Fetch}
use Rattle.b2_base.specs.declared.outside.Fetch.TheVariants as fetch
use Rattle.b2_base.specs.declared.outside.Keep.{Keep}
use Rattle.b2_base.specs.declared.outside.Keep.TheVariants as keep

-- how often a real shelf failed, missed a file, and met one above its limit
pub record FileCounts : Type 0 where
  pub faults : ℕ
  pub misses : ℕ
  pub longs : ℕ

-- each answer of a fetch but Done and NoMemory raises the one count that is for it
abbrev pub fetch_counts : Fetch → FileCounts → FileCounts
fetch_counts fetch.Done c = c
fetch_counts fetch.Missing c = record c { misses = counted c.misses }
fetch_counts fetch.Failed c = record c { faults = counted c.faults }
fetch_counts fetch.TooLong c = record c { longs = counted c.longs }
fetch_counts fetch.NoMemory c = c

abbrev pub keep_counts : Keep → FileCounts → FileCounts
keep_counts keep.Done c = c
keep_counts keep.Failed c = record c { faults = counted c.faults }
keep_counts keep.NoMemory c = c

abbrev pub put_counts : Keep → ℕ → ℕ
put_counts keep.Done faults = faults
put_counts keep.Failed faults = counted faults
put_counts keep.NoMemory faults = faults
