-- Which devices there are, and who may use one.
use Rattle.std.specs.Prelude.{ℕ, Bool, true, false, not, ◌&&◌, ◌==◌, List, [], ◌∷◌, Option}
use Rattle.std.specs.List.{list_any}
use Rattle.std.specs.Str.{bytes_eq}
use Rattle.std.specs.Option.{option_map_or}
use Rattle.b2_access.specs.declared.devices.Device.{Device}

abbrev pub same_kind : Bool → Bool → Bool
same_kind true b = b
same_kind false b = not b

-- for all, or for one partition alone
abbrev pub may_use : ℕ → Option ℕ → Bool
may_use who only = option_map_or (λ (part : ℕ). part == who) only true

-- a device is of a kind and an address, and the partition may use it
abbrev pub meets : Bool → ℕ → List ℕ → Device → Bool
meets printer who a d = bytes_eq d.addr a && (same_kind d.printer printer && may_use who d.only)

abbrev pub has_device : Bool → ℕ → List ℕ → List Device → Bool
has_device printer who a devices = list_any (meets printer who a) devices

abbrev pub is_platter_for : ℕ → List ℕ → List Device → Bool
is_platter_for who a devices = has_device false who a devices

abbrev pub is_printer_for : ℕ → List ℕ → List Device → Bool
is_printer_for who a devices = has_device true who a devices

-- no address stands twice
abbrev pub are_distinct : List (List ℕ) → Bool
are_distinct [] = true
are_distinct (a ∷ rest) = not (list_any (bytes_eq a) rest) && are_distinct rest
