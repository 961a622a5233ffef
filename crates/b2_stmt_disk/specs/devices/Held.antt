-- The devices that a partition has taken, in the order of taking, each once; there is room for twelve, as many as there can be.
use Rattle.std.specs.Prelude.{ℕ, nat_le, ◌||◌, ◌&&◌, Bool, true, false, List, [], ◌∷◌, ◌++◌, length, if◌then◌else◌}
use Rattle.std.specs.Str.{bytes_eq}
use Rattle.b2_access.specs.OwnDevices.{is_device_for}
use Rattle.b2_access.specs.declared.accesses.Access.{Access}
use Rattle.b2_access.specs.declared.accesses.Access.TheVariants as access
use Rattle.b2_access.specs.declared.accesses.Answer.{Answer}
use Rattle.b2_access.specs.declared.accesses.Answer.TheVariants as answer
use Rattle.b2_access.specs.declared.devices.Device.{Device}

abbrev pub is_among : List ℕ → List (List ℕ) → Bool
is_among a [] = false
is_among a (x ∷ addrs) = bytes_eq x a || is_among a addrs

-- with one more, which may be there already
abbrev pub with_device : List (List ℕ) → List ℕ → List (List ℕ)
with_device held a = if is_among a held || nat_le 12 (length held) then held else held ++ a ∷ []

abbrev pub with_devices : List (List ℕ) → List (List ℕ) → List (List ℕ)
with_devices held [] = held
with_devices held (a ∷ addrs) = with_devices (with_device held a) addrs

-- without some
abbrev pub without_devices : List (List ℕ) → List (List ℕ) → List (List ℕ)
without_devices addrs [] = []
without_devices addrs (a ∷ held) = if is_among a addrs then without_devices addrs held else a ∷ without_devices addrs held

-- WHAT IS HELD AFTER AN ACCESS, by it and its answer alone: devices that were taken are added, those that were freed are taken out, and
-- else all stays
abbrev pub held_after : Access → Answer → List (List ℕ) → List (List ℕ)
held_after (access.OpenDevices addrs) answer.Done held = with_devices held addrs
held_after (access.CloseDevices addrs) answer.Done held = without_devices addrs held
held_after x a held = held

-- those that the table lists for a partition
abbrev pub those_listed : List Device → ℕ → List (List ℕ) → List (List ℕ)
those_listed devices who [] = []
those_listed devices who (a ∷ held) = if is_device_for who a devices then a ∷ those_listed devices who held else those_listed devices who held

-- whether it lists all of them
abbrev pub are_listed : List Device → ℕ → List (List ℕ) → Bool
are_listed devices who [] = true
are_listed devices who (a ∷ addrs) = is_device_for who a devices && are_listed devices who addrs
