-- The boot: what a file says, its checks and the first that fails, and the boot of a file that passes them all.
use Rattle.std.specs.Prelude.{◌≡◌, ℕ, zero, suc, ◌+◌, ◌*◌, ◌<◌, ◌≤◌, List, [], ◌∷◌, ◌++◌, length, map, codes, Bool, true, false, ◌&&◌, ◌==◌, not, nat_le, nat_lt, Option, Some, None, is_some, Result, Ok, Err, if◌then◌else◌}
use Rattle.std.specs.List.{list_all, list_any}
use Rattle.std.specs.List.Sorted.{IsPermutation}
use Rattle.b2_boot.specs.declared.rows.TerminalRow.{TerminalRow}
use Rattle.b2_base.specs.Lexical.{first, hex_value}
use Rattle.b2_base.specs.Byte as byte
use Rattle.b2_base.specs.Names.{is_address, is_file_name, is_name8, padded8}
use Rattle.b2_term.specs.Orders.{is_order}
use Rattle.b2_boot.specs.declared.rows.PartitionRow.{PartitionRow}
use Rattle.b2_boot.specs.declared.rows.PlatterRow.{PlatterRow}
use Rattle.b2_boot.specs.declared.rows.PrinterRow.{PrinterRow}
use Rattle.b2_boot.specs.declared.boot.BootTerminal.{BootTerminal}
use Rattle.b2_boot.specs.declared.boot.BootPartition.{BootPartition}
use Rattle.b2_boot.specs.declared.boot.BootPlatter.{BootPlatter}
use Rattle.b2_boot.specs.declared.boot.BootPrinter.{BootPrinter}
use Rattle.b2_boot.specs.declared.boot_file.BootErr.{BootErr}
use Rattle.b2_boot.specs.declared.boot_file.BootErr.TheVariants as refused
use Rattle.toml.specs.Data.{Members}
use Rattle.b2_boot.specs.Rows.{RowsState, document_of, document_rows, is_between, is_blank, is_quota, spells}

-- a boot: the quota of a turn, its terminals and partitions by number, and its platters and its printers by address
pub record BootState : Type 0 where
  pub quota : ℕ
  pub terminals : List BootTerminal
  pub partitions : List BootPartition
  pub platters : List BootPlatter
  pub printers : List BootPrinter

-- the numbers of rows
abbrev pub number_of_terminal : TerminalRow → ℕ
number_of_terminal r = r.number

abbrev pub number_of_partition : PartitionRow → ℕ
number_of_partition r = r.number

-- 4 and 5: each number is from 1 to the most, and none stands twice
abbrev pub stand_once : {A : Type 0} → (A → ℕ) → ℕ → List A → Bool
stand_once number most [] = true
stand_once number most (r ∷ rs) = (is_between 1 most (number r) && not (list_any (λ q. number q == number r) rs)) && stand_once number most rs

-- 3: there are 1 to 12 terminals, 1 to 16 partitions, at most 8 platters, and at most 4 printers
abbrev pub are_counted : RowsState → Bool
are_counted b =
    is_between 1 12 (length b.terminals) && (is_between 1 16 (length b.partitions)
    && (nat_le (length b.platters) 8 && nat_le (length b.printers) 4))

-- 6: text and data are 2 to 24 KiB, and globals at most 8
abbrev pub sizes_fit : PartitionRow → Bool
sizes_fit p = is_between 2 24 p.text && (is_between 2 24 p.vars && nat_le p.globals 8)

-- 7: each partition's terminal is listed
abbrev pub lists_terminal : ℕ → List TerminalRow → Bool
lists_terminal t rows = list_any (λ r. r.number == t) rows

abbrev pub terminals_listed : List TerminalRow → List PartitionRow → Bool
terminals_listed terminals partitions = list_all (λ p. lists_terminal p.terminal terminals) partitions

-- 8: each front is a partition of its terminal
abbrev pub is_partition_at : ℕ → ℕ → List PartitionRow → Bool
is_partition_at t n rows = list_any (λ p. (p.number == n) && (p.terminal == t)) rows

abbrev pub all_fronts_fit : List TerminalRow → List PartitionRow → Bool
all_fronts_fit terminals partitions = list_all (λ t. is_partition_at t.number t.front partitions) terminals

-- 15: a terminal's order is one, without a partition twice, and each is of the terminal
abbrev pub order_fits : ℕ → Option (List ℕ) → List PartitionRow → Bool
order_fits t None rows = true
order_fits t (Some order) rows = is_order order && list_all (λ n. is_partition_at t n rows) order

abbrev pub all_orders_fit : List TerminalRow → List PartitionRow → Bool
all_orders_fit terminals partitions = list_all (λ t. order_fits t.number t.order partitions) terminals

-- no two are the same
abbrev pub no_two_same : {A : Type 0} → (A → A → Bool) → List A → Bool
no_two_same same [] = true
no_two_same same (x ∷ xs) = not (list_any (same x) xs) && no_two_same same xs

-- 9: no two platters have one image name
abbrev pub same_image : Option (List ℕ) → Option (List ℕ) → Bool
same_image (Some name) (Some other) = spells name other
same_image image other = false

-- 10: an address is that of a platter or of a printer by its first digit, and none stands twice among them all
abbrev pub is_platter_digit : ℕ → Bool
is_platter_digit b = list_any (λ d. b == d) (codes "3BD")

abbrev pub is_platter_address : List ℕ → Bool
is_platter_address address = is_address address && is_platter_digit (first address)

abbrev pub is_printer_digit : ℕ → Bool
is_printer_digit b = b == byte.digit_0 + 2

abbrev pub is_printer_address : List ℕ → Bool
is_printer_address address = is_address address && is_printer_digit (first address)

abbrev pub row_addresses : List PrinterRow → List PlatterRow → List (List ℕ)
row_addresses printers platters = map (λ p. p.address) printers ++ map (λ p. p.address) platters

abbrev pub addresses_fit : List PlatterRow → List PrinterRow → Bool
addresses_fit platters printers =
    list_all (λ p. is_platter_address p.address) platters && (list_all (λ p. is_printer_address p.address) printers
    && no_two_same spells (row_addresses printers platters))

-- 11: a device is for all partitions, or for one that is listed
abbrev pub is_for_one : {A : Type 0} → (A → ℕ) → List A → Option ℕ → Bool
is_for_one number partitions None = true
is_for_one number partitions (Some n) = list_any (λ p. number p == n) partitions

abbrev pub may_be_for : List PartitionRow → Option ℕ → Bool
may_be_for partitions only = is_for_one (λ p. p.number) partitions only

abbrev pub devices_have_partitions : List PartitionRow → List PlatterRow → List PrinterRow → Bool
devices_have_partitions partitions platters printers =
    list_all (λ p. may_be_for partitions p.only) platters && list_all (λ p. may_be_for partitions p.only) printers

-- 12: a disk is a platter that the partition may use: one for all, or for it alone
abbrev pub is_for : ℕ → Option ℕ → Bool
is_for who None = true
is_for who (Some n) = n == who

abbrev pub is_disk_for : {A : Type 0} → (A → List ℕ) → (A → Option ℕ) → List A → ℕ → Option (List ℕ) → Bool
is_disk_for address only platters who None = true
is_disk_for address only platters who (Some disk) = list_any (λ p. spells disk (address p) && is_for who (only p)) platters

abbrev pub disks_fit : List PartitionRow → List PlatterRow → Bool
disks_fit partitions platters = list_all (λ p. is_disk_for (λ q. q.address) (λ q. q.only) platters p.number p.disk) partitions

-- 13: a program has the name of a file on a disk, without a quote, and a disk from which it is loaded
abbrev pub has_quote : List ℕ → Bool
has_quote name = list_any (λ b. b == byte.quote) name

abbrev pub is_program_name : List ℕ → Bool
is_program_name name = is_name8 name && not (has_quote name)

abbrev pub may_load : Option (List ℕ) → Option (List ℕ) → Bool
may_load disk None = true
may_load disk (Some name) = is_some disk && is_program_name name

abbrev pub programs_fit : List PartitionRow → Bool
programs_fit partitions = list_all (λ p. may_load p.disk p.program) partitions

-- 14: an image has the name of a file
abbrev pub may_be_named : Option (List ℕ) → Bool
may_be_named None = true
may_be_named (Some name) = is_file_name name

-- the first of some checks that fails
abbrev pub first_failed : List (ℕ × Bool) → Option ℕ
first_failed [] = None
first_failed (c ∷ cs) = if c.1 then first_failed cs else Some c.0

-- the rows of a number, as a list of at most one
abbrev pub rows_numbered : {A : Type 0} → (A → ℕ) → ℕ → List A → List A
rows_numbered number n [] = []
rows_numbered number n (r ∷ rs) = if number r == n then r ∷ [] else rows_numbered number n rs

abbrev pub one_or_none : {A : Type 0} → Option A → List A
one_or_none None = []
one_or_none (Some x) = x ∷ []

-- the rows of the numbers from 1 to a last one, in that order
abbrev pub rows_up_to : {A : Type 0} → (A → ℕ) → ℕ → List A → List A
rows_up_to number zero rows = []
rows_up_to number (suc n) rows = rows_up_to number n rows ++ rows_numbered number (suc n) rows

-- the terminals and the partitions in ascending order
abbrev pub terminals_by_number : List TerminalRow → List TerminalRow
terminals_by_number rows = rows_up_to number_of_terminal 12 rows

abbrev pub partitions_by_number : List PartitionRow → List PartitionRow
partitions_by_number rows = rows_up_to number_of_partition 16 rows

-- the checks of programs, of the names of images, and of orders
abbrev pub last_checks : List TerminalRow → List PartitionRow → List PlatterRow → List (ℕ × Bool)
last_checks terminals partitions platters =
    (13, programs_fit partitions) ∷ (14, list_all (λ p. may_be_named p.image) platters) ∷ (15, all_orders_fit terminals partitions) ∷ []

-- the checks of platters and printers, of the disks and programs of partitions, and of orders
abbrev pub checks_of_devices : List TerminalRow → List PartitionRow → List PlatterRow → List PrinterRow → List (ℕ × Bool)
checks_of_devices terminals partitions platters printers =
    (9, no_two_same (λ p q. same_image p.image q.image) platters) ∷ (10, addresses_fit platters printers)
    ∷ (11, devices_have_partitions partitions platters printers) ∷ (12, disks_fit partitions platters)
    ∷ last_checks terminals partitions platters

-- the checks of terminals and partitions in ascending order, and of platters and printers
abbrev pub checks_of_sorted : List TerminalRow → List PartitionRow → List PlatterRow → List PrinterRow → List (ℕ × Bool)
checks_of_sorted terminals partitions platters printers =
    (6, list_all sizes_fit partitions) ∷ (7, terminals_listed terminals partitions) ∷ (8, all_fronts_fit terminals partitions)
    ∷ checks_of_devices terminals partitions platters printers

-- the checks of what a document says; those of sizes and between rows look at terminals and partitions in ascending order
abbrev pub checks : RowsState → List TerminalRow → List PartitionRow → List (ℕ × Bool)
checks b terminals partitions =
    (3, are_counted b) ∷ (4, stand_once number_of_terminal 12 b.terminals) ∷ (5, stand_once number_of_partition 16 b.partitions)
    ∷ checks_of_sorted terminals partitions b.platters b.printers

abbrev pub check_of_rows : RowsState → Option ℕ
check_of_rows b = first_failed (checks b (terminals_by_number b.terminals) (partitions_by_number b.partitions))

-- the numbers of a row are those of a terminal and of a partition, an order has at most sixteen, its disk is an address, its program
-- has the name of a file on a disk, an image has that of a file, and a device is for the number of a partition
abbrev pub may_be_order : Option (List ℕ) → Bool
may_be_order None = true
may_be_order (Some order) = nat_le (length order) 16 && list_all (is_between 1 16) order

abbrev pub has_places : TerminalRow → Bool
has_places t = is_between 1 12 t.number && (is_between 1 16 t.front && may_be_order t.order)

abbrev pub is_numbered : PartitionRow → Bool
is_numbered p = is_between 1 16 p.number

abbrev pub may_be_address : Option (List ℕ) → Bool
may_be_address None = true
may_be_address (Some address) = is_address address

abbrev pub may_be_program : Option (List ℕ) → Bool
may_be_program None = true
may_be_program (Some name) = is_name8 name

abbrev pub has_its_places : PartitionRow → Bool
has_its_places p = is_between 1 16 p.number && (is_between 1 12 p.terminal && (may_be_address p.disk && may_be_program p.program))

abbrev pub may_be_number : Option ℕ → Bool
may_be_number None = true
may_be_number (Some n) = is_between 1 16 n

abbrev pub is_platter_spelled : PlatterRow → Bool
is_platter_spelled p = is_address p.address && (may_be_named p.image && may_be_number p.only)

abbrev pub is_printer_spelled : PrinterRow → Bool
is_printer_spelled p = is_address p.address && may_be_number p.only

-- the partitions of a terminal
abbrev pub partitions_at : ℕ → List PartitionRow → List ℕ
partitions_at t [] = []
partitions_at t (p ∷ ps) = if p.terminal == t then p.number ∷ partitions_at t ps else partitions_at t ps

-- the order in which a terminal goes round: its partitions where none is said
abbrev pub order_of : ℕ → Option (List ℕ) → List PartitionRow → List ℕ
order_of t None partitions = partitions_at t partitions
order_of t (Some order) partitions = order

abbrev pub boot_terminal : List PartitionRow → TerminalRow → BootTerminal
boot_terminal partitions r = record { number = r.number; front = r.front; order = order_of r.number r.order partitions }

-- the name of a program, with blanks up to eight bytes
abbrev pub program_of : Option (List ℕ) → Option (List ℕ)
program_of None = None
program_of (Some name) = Some (padded8 name)

abbrev pub partition_of : PartitionRow → BootPartition
partition_of r = record { number = r.number; terminal = r.terminal; text = r.text; vars = r.vars; globals = r.globals; disk = r.disk; program = program_of r.program; quota = r.quota }

abbrev pub boot_platter : PlatterRow → BootPlatter
boot_platter r = record { address = r.address; image = r.image; blank = r.blank; only = r.only; version = r.version }

abbrev pub boot_printer : PrinterRow → BootPrinter
boot_printer r = record { address = r.address; only = r.only }

-- the number below 4,096 that the three digits of an address spell
abbrev pub address_number : List ℕ → ℕ
address_number (a ∷ b ∷ c ∷ []) = 256 * hex_value a + (16 * hex_value b + hex_value c)
address_number address = 0

abbrev pub number_of_platter : BootPlatter → ℕ
number_of_platter p = address_number p.address

abbrev pub number_of_printer : BootPrinter → ℕ
number_of_printer p = address_number p.address

-- one more before the first of a greater number
abbrev pub inserted_by : {A : Type 0} → (A → ℕ) → A → List A → List A
inserted_by number x [] = x ∷ []
inserted_by number x (y ∷ ys) = if nat_lt (number x) (number y) then x ∷ y ∷ ys else y ∷ inserted_by number x ys

-- the same in the order of their numbers
abbrev pub sorted_by : {A : Type 0} → (A → ℕ) → List A → List A
sorted_by number [] = []
sorted_by number (x ∷ xs) = inserted_by number x (sorted_by number xs)

abbrev pub platters_by_address : List PlatterRow → List BootPlatter
platters_by_address rows = sorted_by number_of_platter (map boot_platter rows)

abbrev pub printers_by_address : List PrinterRow → List BootPrinter
printers_by_address rows = sorted_by number_of_printer (map boot_printer rows)

-- the boot of rows, with terminals and partitions in ascending order
abbrev pub boot_with : RowsState → List TerminalRow → List PartitionRow → BootState
boot_with b terminals partitions = record {
  quota = b.quota;
  terminals = map (boot_terminal partitions) terminals;
  partitions = map partition_of partitions;
  platters = platters_by_address b.platters;
  printers = printers_by_address b.printers;
}

abbrev pub boot_from : RowsState → BootState
boot_from b = boot_with b (terminals_by_number b.terminals) (partitions_by_number b.partitions)

-- the boot of rows, or the check that they fail
abbrev pub unless_failed : Option ℕ → BootState → Result BootState ℕ
unless_failed None b = Ok b
unless_failed (Some check) b = Err check

abbrev pub boot_by_rows : Option RowsState → Result BootState ℕ
boot_by_rows None = Err 2
boot_by_rows (Some b) = unless_failed (check_of_rows b) (boot_from b)

abbrev pub boot_by_document : Option Members → Result BootState ℕ
boot_by_document None = Err 1
boot_by_document (Some document) = boot_by_rows (document_rows document)

-- the boot that a file says, or the first check that it fails
abbrev pub boot_of : List ℕ → Result BootState ℕ
boot_of bytes = boot_by_document (document_of bytes)

-- an answer to a file: its boot, or its first failing check; memory may fail at any time
abbrev pub Answers : Result BootState ℕ → Result BootState BootErr → Type 0
Answers meant (Ok b) = meant ≡ Ok b
Answers meant (Err (refused.Check n)) = meant ≡ Err n
Answers meant (Err refused.NoMemory) = Unit {0}

-- a partition of a number stands on a terminal
abbrev pub has_partition : ℕ → ℕ → List BootPartition → Bool
has_partition t n partitions = list_any (λ p. (p.number == n) && (p.terminal == t)) partitions

-- a terminal stands in a boot
abbrev pub has_terminal : ℕ → List BootTerminal → Bool
has_terminal t terminals = list_any (λ r. r.number == t) terminals

-- an order has a partition, none twice, and each is of a terminal
abbrev pub is_order_at : ℕ → List ℕ → List BootPartition → Bool
is_order_at t order partitions = is_order order && list_all (λ n. has_partition t n partitions) order

-- numbers ascend from above a first one, and none stands twice
abbrev pub Ascends : ℕ → List ℕ → Type 0
Ascends above [] = Unit {0}
Ascends above (n ∷ ns) = (above < n) × Ascends n ns

-- An image, or blank sectors as many as a platter of the version may have, and not both. An image says its version itself.
abbrev pub is_either : Option (List ℕ) → Option ℕ → Option ℕ → Bool
is_either (Some name) None None = true
is_either None (Some sectors) version = is_blank version sectors
is_either image blank version = false

abbrev pub is_platter : BootPlatter → Bool
is_platter p = is_platter_address p.address && (is_either p.image p.blank p.version && may_be_named p.image)

abbrev pub is_printer : BootPrinter → Bool
is_printer p = is_printer_address p.address

-- a device is for all partitions, or for one of the boot
abbrev pub is_for_some : List BootPartition → Option ℕ → Bool
is_for_some partitions only = is_for_one (λ p. p.number) partitions only

-- the addresses of printers and then of platters
abbrev pub device_addresses : List BootPrinter → List BootPlatter → List (List ℕ)
device_addresses printers platters = map (λ p. p.address) printers ++ map (λ p. p.address) platters

-- what every boot of a file is
pub record IsGood (b : BootState) : Type 0 where
  pub quota : is_between 1 1000 b.quota ≡ true
  pub quotas : list_all (λ p. is_quota p.quota) b.partitions ≡ true
  pub terminals_ascend : Ascends 0 (map (λ t. t.number) b.terminals)
  pub partitions_ascend : Ascends 0 (map (λ p. p.number) b.partitions)
  pub sizes : list_all (λ p. is_between 2 24 p.text && (is_between 2 24 p.vars && nat_le p.globals 8)) b.partitions ≡ true
  pub listed : list_all (λ p. has_terminal p.terminal b.terminals) b.partitions ≡ true
  pub fronts : list_all (λ t. has_partition t.number t.front b.partitions) b.terminals ≡ true
  pub orders : list_all (λ t. is_order_at t.number t.order b.partitions) b.terminals ≡ true
  pub few_platters : length b.platters ≤ 8
  pub few_printers : length b.printers ≤ 4
  pub devices_ascend : Ascends 0 (map address_number (device_addresses b.printers b.platters))
  pub platters : list_all is_platter b.platters ≡ true
  pub printers : list_all is_printer b.printers ≡ true
  pub images : no_two_same (λ p q. same_image p.image q.image) b.platters ≡ true
  pub platters_for : list_all (λ p. is_for_some b.partitions p.only) b.platters ≡ true
  pub printers_for : list_all (λ p. is_for_some b.partitions p.only) b.printers ≡ true
  pub disks : list_all (λ p. is_disk_for (λ q. q.address) (λ q. q.only) b.platters p.number p.disk) b.partitions ≡ true
  pub programs : list_all (λ p. may_load p.disk p.program) b.partitions ≡ true

-- a boot has the quota and the rows of a file, in another order; a terminal without an order has that of its partitions by number
pub record Keeps (rows : RowsState) (b : BootState) : Type 0 where
  pub quota : b.quota ≡ rows.quota
  pub terminals : IsPermutation (map (boot_terminal (partitions_by_number rows.partitions)) rows.terminals) b.terminals
  pub partitions : IsPermutation (map partition_of rows.partitions) b.partitions
  pub platters : IsPermutation (map boot_platter rows.platters) b.platters
  pub printers : IsPermutation (map boot_printer rows.printers) b.printers

-- there are rows, and a boot keeps them
abbrev pub KeepsRows : Option RowsState → BootState → Type 0
KeepsRows None b = ⊥
KeepsRows (Some rows) b = Keeps rows b
