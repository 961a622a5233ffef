-- What a round gives each partition: its own quota, or the boot's where it has none.
use Rattle.std.specs.Prelude.{ℕ, ◌+◌, ◌==◌, List, [], ◌∷◌, map, unwrap_or}
use Rattle.std.specs.Map.{lookup}
use Rattle.b2_boot.specs.Boots.{BootState}
use Rattle.b2_boot.specs.declared.boot.BootPartition.{BootPartition}

-- a partition and its quota
abbrev pub quota_row : ℕ → BootPartition → ℕ × ℕ
quota_row quota p = (p.number, unwrap_or p.quota quota)

-- the partitions of a boot, each with its quota
abbrev pub quotas_of : BootState → List (ℕ × ℕ)
quotas_of b = map (quota_row b.quota) b.partitions

-- the quota of a number, and 1 where no partition has it
abbrev pub quota_at : ℕ → List (ℕ × ℕ) → ℕ
quota_at p quotas = unwrap_or (lookup (λ k. k == p) quotas) 1

-- the steps that a round grants
abbrev pub steps_of_round : List (ℕ × ℕ) → ℕ
steps_of_round [] = 0
steps_of_round (x ∷ xs) = x.1 + steps_of_round xs
