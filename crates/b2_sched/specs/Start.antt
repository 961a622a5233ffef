-- The world of a boot.
use Rattle.std.specs.Prelude.{◌≡◌, ℕ, ◌*◌, ◌≤◌, Bool, true, false, List, [], ◌∷◌, ◌++◌, length, map, Option, Some, None}
use Rattle.std.specs.List.{list_all}
use Rattle.b2_base.specs.Byte as byte
use Rattle.b2_alpha.specs.Values.{value_of}
use Rattle.b2_atom.specs.declared.words.TheConstants as word
use Rattle.b2_access.specs.declared.devices.Device.{Device}
use Rattle.b2_access.specs.declared.private.Private.{Private}
use Rattle.b2_access.specs.Devices.{are_distinct}
use Rattle.b2_access.specs.Partition.{at_start}
use Rattle.b2_access.specs.Store.{StoreState}
use Rattle.b2_audit.specs.Marks.{unmarked}
use Rattle.b2_audit.specs.Steps.{IsPartition, IsTerminal}
use Rattle.b2_store.specs.Start.{Areas, Round, text_row, borrow_row, globals_row, has_order, idle_row, blank_row, with_keys, free_row}
use Rattle.b2_boot.specs.Boots.{BootState, is_program_name}
use Rattle.b2_boot.specs.Quotas.{quotas_of}
use Rattle.b2_boot.specs.declared.boot.BootPartition.{BootPartition}
use Rattle.b2_boot.specs.declared.boot.BootPlatter.{BootPlatter}
use Rattle.b2_boot.specs.declared.boot.BootPrinter.{BootPrinter}
use Rattle.b2_boot.specs.declared.boot.BootTerminal.{BootTerminal}
use Rattle.b2_sched.specs.World.{WorldState}

-- sizes of a boot are in KiB
abbrev pub in_bytes : ℕ → ℕ
in_bytes size = size * 1024

-- LOAD RUN T,"NAME" as atoms, the name without the blanks at its end
abbrev pub load_line : List ℕ → List ℕ
load_line name = word.LOAD ∷ word.RUN ∷ byte.upper_t ∷ byte.comma ∷ byte.quote ∷ (value_of name ++ byte.quote ∷ [])

-- the immediate line of a program, where there is one
abbrev pub starting_line : Option (List ℕ) → Option (List ℕ)
starting_line None = None
starting_line (Some name) = Some (load_line name)

-- a partition as it starts: ready, or at the line that loads its program
abbrev pub private_row : BootPartition → ℕ × Private
private_row p = (p.number, at_start p.number p.terminal (in_bytes p.vars) (starting_line p.program) p.disk)

-- a partition, the area of its text, and that of its `@` variables
abbrev pub areas_of : BootPartition → Areas
areas_of p = (p.number, in_bytes p.text, in_bytes p.globals)

-- a terminal, the partition in front of it, and the order in which it goes round
abbrev pub front_of_boot : BootTerminal → Round
front_of_boot t = (t.number, t.front, t.order)

-- the images of the platters of a boot, in its order
abbrev pub Images : Type 0
Images = List (List ℕ)

-- the addresses of printers, and those of platters
abbrev pub printer_addresses : List BootPrinter → List (List ℕ)
printer_addresses printers = map (λ p. p.address) printers

abbrev pub platter_addresses : List BootPlatter → List (List ℕ)
platter_addresses platters = map (λ p. p.address) platters

-- the devices of a boot: its printers and then its platters, each for all partitions or for one alone
abbrev pub printer_device : BootPrinter → Device
printer_device p = record { addr = p.address; printer = true; only = p.only }

abbrev pub platter_device : BootPlatter → Device
platter_device p = record { addr = p.address; printer = false; only = p.only }

abbrev pub devices_of : List BootPrinter → List BootPlatter → List Device
devices_of printers platters = map printer_device printers ++ map platter_device platters

abbrev pub addresses : BootState → List (List ℕ)
addresses b = map (λ d. d.addr) (devices_of b.printers b.platters)

-- a program's name, where there is one, can stand in a line
abbrev pub may_start : Option (List ℕ) → Bool
may_start None = true
may_start (Some name) = is_program_name name

-- at most twelve devices, each address once, programs whose names can stand in a line, and orders of terminals with a partition each, and
-- none twice
pub record CanStart (b : BootState) : Type 0 where
  pub few : length (devices_of b.printers b.platters) ≤ 12
  pub distinct : are_distinct (addresses b) ≡ true
  pub programs : list_all (λ p. may_start p.program) b.partitions ≡ true
  pub orders : list_all has_order (map front_of_boot b.terminals) ≡ true

-- empty texts, nobody inside, no `@` variables, idle terminals, printers that printed nothing, the platters with their images, and
-- nobody who holds a device or a name
abbrev pub store_booted : BootState → Images → StoreState
store_booted b images = record {
  texts = map text_row (map areas_of b.partitions);
  borrows = map borrow_row (map areas_of b.partitions);
  globals = map globals_row (map areas_of b.partitions);
  terminals = map idle_row (map front_of_boot b.terminals);
  printers = map blank_row (printer_addresses b.printers);
  platters = with_keys (platter_addresses b.platters) images;
  hogs = map free_row (printer_addresses b.printers) ++ map free_row (platter_addresses b.platters);
  names = [];
}

-- THE WORLD OF A BOOT: each partition as it starts, and nothing marked or tallied
abbrev pub booted : BootState → Images → WorldState
booted b images = record {
  quotas = quotas_of b;
  devices = devices_of b.printers b.platters;
  privates = map private_row b.partitions;
  store = store_booted b images;
  marks = unmarked;
  turns = 0;
  steps = 0;
  dropped = 0;
}

-- each partition of a boot has a number from 1 to 16, and a terminal from 1 to 12
abbrev pub AreNumbered : List BootPartition → Type 0
AreNumbered [] = Unit {0}
AreNumbered (p ∷ ps) = IsPartition p.number × IsTerminal p.terminal × AreNumbered ps
