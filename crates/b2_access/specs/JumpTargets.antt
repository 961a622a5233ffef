-- Where a statement leads that was done fast, as it stands in words.
use Rattle.std.specs.Prelude.{ℕ, ◌==◌, nat_lt, Bool, Option, Some, None, if◌then◌else◌}
use Rattle.b2_access.specs.declared.fast.Lead.{Lead}

-- whether it was done
abbrev pub is_done : Lead → Bool
is_done l = nat_lt l.line 65536

-- the number of a line and the place of a unit in it, none where it wasn't done
abbrev pub lead_seen : Lead → Option (ℕ × ℕ)
lead_seen l = if is_done l then Some (l.line, l.unit) else None

-- whether it wasn't done since memory failed
abbrev pub memory_failed : Lead → Bool
memory_failed l = l.line == 65537
