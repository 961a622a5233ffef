use Rattle.std.proofs.Common.{◌≡◌, ◌-◌, ◌≤◌, ◌++◌, length, replicate}
use Rattle.b2_record.proofs.sectors.fill_up.Given as goal

-- what is written and the 00 that are left are all
abbrev pub invariant-loop-draft : goal.invariant-loop-draft
invariant-loop-draft l = record {
  written : l.draft.items ++ replicate (256 - length l.draft.items) 0 ≡ l.fn.draft.items ++ replicate (256 - length l.fn.draft.items) 0;
  within : length l.draft.items ≤ 256;
}

abbrev pub decreases-loop-draft : goal.decreases-loop-draft
decreases-loop-draft l = 256 - length l.draft.items
