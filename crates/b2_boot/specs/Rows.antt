-- What a boot file says before its checks: the rows of its tables, in the file's order.
use Rattle.std.specs.Prelude.{ℕ, ℤ, pos, negsuc, List, [], ◌∷◌, codes, Bool, true, ◌&&◌, ◌||◌, ◌==◌, min, nat_le, Option, Some, None, option_and_then, option_map, if◌then◌else◌}
use Rattle.std.specs.Str.{is_utf8}
use Rattle.toml.specs.Data.{Data, Items, no_items, item, Members, no_members, member, get_member, as_str, as_integer, as_array, as_table}
use Rattle.toml.specs.Parse.{parse_document}
use Rattle.std.specs.Cmp.Lexicographic.{pointwise}
use Rattle.std.specs.Prelude.{nat_eq}
use Rattle.b2_boot.specs.declared.rows.Section.{Section}
use Rattle.b2_boot.specs.declared.rows.Section.TheVariants as section
use Rattle.b2_boot.specs.declared.rows.TerminalRow.{TerminalRow}
use Rattle.b2_boot.specs.declared.rows.PartitionRow.{PartitionRow}
use Rattle.b2_boot.specs.declared.rows.PlatterRow.{PlatterRow}
use Rattle.b2_boot.specs.declared.rows.PrinterRow.{PrinterRow}

-- what a file says: its quota, and a row for each terminal, each partition, each platter and each printer
pub record RowsState : Type 0 where
  pub quota : ℕ
  pub terminals : List TerminalRow
  pub partitions : List PartitionRow
  pub platters : List PlatterRow
  pub printers : List PrinterRow

-- the document that bytes spell
abbrev pub document_of : List ℕ → Option Members
document_of bytes = if is_utf8 bytes then parse_document bytes else None

abbrev pub is_between : ℕ → ℕ → ℕ → Bool
is_between least most n = nat_le least n && nat_le n most

-- a whole number as it is, and 65,535 in place of one that is below 0 or above it: out of each range
abbrev pub small : ℤ → ℕ
small (pos n) = min n 65535
small (negsuc n) = 65535

abbrev pub spells : List ℕ → List ℕ → Bool
spells word key = pointwise nat_eq key word

-- the keys that the file and the rows of its tables may have
abbrev pub is_known : Section → List ℕ → Bool
is_known section.File key =
    spells (codes "quota") key || (spells (codes "terminal") key
    || (spells (codes "partition") key
    || (spells (codes "platter") key || spells (codes "printer") key)))
is_known section.Terminal key = spells (codes "number") key || (spells (codes "front") key || spells (codes "order") key)
is_known section.Partition key =
    spells (codes "number") key || (spells (codes "terminal") key
    || (spells (codes "text") key || (spells (codes "data") key
    || (spells (codes "globals") key || (spells (codes "disk") key
    || (spells (codes "program") key || spells (codes "quota") key))))))
is_known section.Platter key =
    spells (codes "address") key || (spells (codes "image") key || (spells (codes "blank") key || (spells (codes "for") key || spells (codes "version") key)))
is_known section.Printer key = spells (codes "address") key || spells (codes "for") key

abbrev pub all_known : Section → Members → Bool
all_known s no_members = true
all_known s (member key d ms) = is_known s key && all_known s ms

-- the number at a key, which has to be there
abbrev pub number_of_key : List ℕ → Members → Option ℕ
number_of_key key ms = option_map small (option_and_then as_integer (get_member key ms))

-- the text at a key, which has to be there
abbrev pub text_of_key : List ℕ → Members → Option (List ℕ)
text_of_key key ms = option_and_then as_str (get_member key ms)

-- the tables at a key: none where the key isn't there
abbrev pub items_of_key : Option Data → Option Items
items_of_key None = Some no_items
items_of_key (Some d) = as_array d

-- a row before others
abbrev pub before_rows : {A : Type 0} → Option A → Option (List A) → Option (List A)
before_rows (Some x) (Some xs) = Some (x ∷ xs)
before_rows x xs = None

-- a whole number as it is, and 255 in place of one that is below 0 or above it: no partition has that
abbrev pub tiny : ℤ → ℕ
tiny (pos n) = min n 255
tiny (negsuc n) = 255

-- each item as a number
abbrev pub numbers_in : Items → Option (List ℕ)
numbers_in no_items = Some []
numbers_in (item d ds) = before_rows (option_map tiny (as_integer d)) (numbers_in ds)

-- the order in which a terminal goes round, which may be left out
abbrev pub order_of_key : Option Data → Option (Option (List ℕ))
order_of_key None = Some None
order_of_key (Some d) = option_map (λ order. Some order) (option_and_then numbers_in (as_array d))

abbrev pub terminal_from : Option ℕ → Option ℕ → Option (Option (List ℕ)) → Option TerminalRow
terminal_from (Some number) (Some front) (Some order) = Some (record { number = number; front = front; order = order })
terminal_from number front order = None

-- the row of a terminal
abbrev pub terminal_said : Members → Option TerminalRow
terminal_said ms =
    if all_known section.Terminal ms then
    terminal_from (number_of_key (codes "number") ms) (number_of_key (codes "front") ms) (order_of_key (get_member (codes "order") ms))
    else None

-- the sizes of a partition: of its text, its variables and its globals
abbrev pub sizes_from : Option ℕ → Option ℕ → Option ℕ → ℕ → ℕ → Option PartitionRow
sizes_from (Some text) (Some vars) (Some globals) number terminal =
    Some (record { number = number; terminal = terminal; text = text; vars = vars; globals = globals; disk = None; program = None; quota = None })
sizes_from text vars globals number terminal = None

abbrev pub sizes_of : Members → ℕ → ℕ → Option PartitionRow
sizes_of ms number terminal = sizes_from (number_of_key (codes "text") ms) (number_of_key (codes "data") ms) (number_of_key (codes "globals") ms) number terminal

abbrev pub partition_from : Option ℕ → Option ℕ → (ℕ → ℕ → Option PartitionRow) → Option PartitionRow
partition_from (Some number) (Some terminal) sized = sized number terminal
partition_from number terminal sized = None

-- a partition with its disk, which may be left out
abbrev pub with_disk : Option Data → PartitionRow → Option PartitionRow
with_disk None r = Some r
with_disk (Some d) r = option_map (λ text. record r { disk = Some text }) (as_str d)

abbrev pub disk_row : Members → Option PartitionRow
disk_row ms = option_and_then (with_disk (get_member (codes "disk") ms)) (partition_from (number_of_key (codes "number") ms) (number_of_key (codes "terminal") ms) (sizes_of ms))

-- and with its program, which may be left out too
abbrev pub with_program : Option Data → PartitionRow → Option PartitionRow
with_program None r = Some r
with_program (Some d) r = option_map (λ text. record r { program = Some text }) (as_str d)

abbrev pub program_row : Members → Option PartitionRow
program_row ms = option_and_then (with_program (get_member (codes "program") ms)) (disk_row ms)

-- a whole number in a range, as it is written
abbrev pub ranged : ℕ → ℕ → ℤ → Option ℕ
ranged least most (pos n) = if is_between least most n then Some n else None
ranged least most (negsuc n) = None

-- and with its own quota in a round, from 1 to 1000, which may be left out as well
abbrev pub quota_of_key : Option Data → Option (Option ℕ)
quota_of_key None = Some None
quota_of_key (Some d) = option_map (λ q. Some q) (option_and_then (ranged 1 1000) (as_integer d))

abbrev pub is_quota : Option ℕ → Bool
is_quota None = true
is_quota (Some q) = is_between 1 1000 q

abbrev pub with_quota : Option (Option ℕ) → Option PartitionRow → Option PartitionRow
with_quota (Some quota) (Some r) = Some (record r { quota = quota })
with_quota quota r = None

-- the row of a partition
abbrev pub partition_row : Members → Option PartitionRow
partition_row ms = if all_known section.Partition ms then with_quota (quota_of_key (get_member (codes "quota") ms)) (program_row ms) else None

-- the number of the partition that a device is for, which may be left out
abbrev pub only_of_key : Option Data → Option (Option ℕ)
only_of_key None = Some None
only_of_key (Some d) = option_map (λ n. Some (small n)) (as_integer d)

-- the version of a blank platter, 1 or 2, which may be left out
abbrev pub version_of_key : Option Data → Option (Option ℕ)
version_of_key None = Some None
version_of_key (Some d) = option_map (λ v. Some v) (option_and_then (ranged 1 2) (as_integer d))

abbrev pub is_version : Option ℕ → Bool
is_version None = true
is_version (Some v) = is_between 1 2 v

-- the most sectors of a blank platter of a version, which is 1 where it is left out
abbrev pub most_blank : Option ℕ → ℕ
most_blank None = 32512
most_blank (Some v) = if v == 2 then 262144 else 32512

-- whether there is such a version, and a blank platter of it may have so many sectors: 16 up to the most
abbrev pub is_blank : Option ℕ → ℕ → Bool
is_blank version sectors = is_version version && is_between 16 (most_blank version) sectors

abbrev pub blank_version : Option ℕ → ℕ
blank_version None = 1
blank_version (Some v) = v

-- a platter with an image
abbrev pub of_image : List ℕ → Option ℕ → Data → Option PlatterRow
of_image address only d = option_map (λ name. record { address = address; image = Some name; blank = None; only = only; version = None }) (as_str d)

-- how many sectors a blank platter has
abbrev pub sectors_of : Option ℕ → Option ℤ → Option ℕ
sectors_of version n = option_and_then (ranged 16 (most_blank version)) n

-- a blank platter
abbrev pub of_sectors : List ℕ → Option ℕ → Option ℕ → Data → Option PlatterRow
of_sectors address only version d =
    option_map (λ sectors. record { address = address; image = None; blank = Some sectors; only = only; version = version }) (sectors_of version (as_integer d))

-- a platter has an image, whose version is its own, or is blank, and not both
abbrev pub platter_from : Option (List ℕ) → Option (Option ℕ) → Option (Option ℕ) → Option Data → Option Data → Option PlatterRow
platter_from (Some address) (Some only) (Some None) (Some d) None = of_image address only d
platter_from (Some address) (Some only) (Some version) None (Some d) = of_sectors address only version d
platter_from address only version image blank = None

-- the row of a platter
abbrev pub platter_row : Members → Option PlatterRow
platter_row ms =
    if all_known section.Platter ms then
    platter_from (text_of_key (codes "address") ms) (only_of_key (get_member (codes "for") ms)) (version_of_key (get_member (codes "version") ms))
    (get_member (codes "image") ms) (get_member (codes "blank") ms)
    else None

abbrev pub printer_from : Option (List ℕ) → Option (Option ℕ) → Option PrinterRow
printer_from (Some address) (Some only) = Some (record { address = address; only = only })
printer_from address only = None

-- the row of a printer
abbrev pub printer_row : Members → Option PrinterRow
printer_row ms = if all_known section.Printer ms then printer_from (text_of_key (codes "address") ms) (only_of_key (get_member (codes "for") ms)) else None

-- each item as a row of its own
abbrev pub rows_in : {A : Type 0} → (Members → Option A) → Items → Option (List A)
rows_in row no_items = Some []
rows_in row (item d ds) = before_rows (option_and_then row (as_table d)) (rows_in row ds)

-- a quota is from 1 to 1000
abbrev pub quota_of : Option ℕ → Option ℕ
quota_of None = None
quota_of (Some quota) = if is_between 1 1000 quota then Some quota else None

-- the rows of the tables at a key: none where the key isn't there
abbrev pub rows_at : {A : Type 0} → (Members → Option A) → List ℕ → Members → Option (List A)
rows_at row key ms = option_and_then (rows_in row) (items_of_key (get_member key ms))

abbrev pub rows_from : Option ℕ → Option (List TerminalRow) → Option (List PartitionRow) → Option (List PlatterRow) → Option (List PrinterRow) → Option RowsState
rows_from (Some quota) (Some terminals) (Some partitions) (Some platters) (Some printers) =
    Some (record { quota = quota; terminals = terminals; partitions = partitions; platters = platters; printers = printers })
rows_from quota terminals partitions platters printers = None

-- what a document says: each key known and there, of its kind, and the quotas and the sectors of blank platters in range
abbrev pub document_rows : Members → Option RowsState
document_rows ms =
    if all_known section.File ms then
    rows_from (quota_of (number_of_key (codes "quota") ms)) (rows_at terminal_said (codes "terminal") ms) (rows_at partition_row (codes "partition") ms)
    (rows_at platter_row (codes "platter") ms) (rows_at printer_row (codes "printer") ms)
    else None
