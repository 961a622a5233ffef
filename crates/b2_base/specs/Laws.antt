-- Laws of counts.
use Rattle.std.specs.Prelude.{ℕ, ◌-◌, ◌^◌, ◌<◌, ◌≤◌, ◌⊎◌}
use Rattle.b2_base.specs.Counts.{Rose}

-- a count that rose is greater than before, or stood at the end of its type
abbrev pub WhatRoseIsGreater : Type 0
WhatRoseIsGreater = (before now : ℕ) → Rose before now → (before < now) ⊎ (2 ^ 64 - 1 ≤ before)
