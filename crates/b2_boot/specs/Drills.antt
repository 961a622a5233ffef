-- The drill: a boot of eight clerks with a disk each, and a log of what they do at once, both made from a number.
use Rattle.std.specs.Prelude.{◌≡◌, ℕ, zero, suc, ◌+◌, ◌-◌, ◌*◌, ◌%◌, ◌≤◌, max, List, [], ◌∷◌, ◌++◌, map, flat_map, codes, Bool, true, Option, Some, None, if◌then◌else◌}
use Rattle.std.specs.Fmt.{decimal}
use Rattle.std.specs.List.{list_all}
use Rattle.b2_base.specs.Byte as byte
use Rattle.b2_boot.specs.Boots.{BootState, IsGood}
use Rattle.b2_boot.specs.LogLines.{plain_number}
use Rattle.b2_boot.specs.Logs.{granted_by, is_of_boot, key_events}
use Rattle.b2_boot.specs.Rows.{is_between}
use Rattle.b2_boot.specs.declared.boot.BootTerminal.{BootTerminal}
use Rattle.b2_boot.specs.declared.boot.BootPartition.{BootPartition}
use Rattle.b2_boot.specs.declared.boot.BootPlatter.{BootPlatter}
use Rattle.b2_boot.specs.declared.log.Event.{Event}
use Rattle.b2_boot.specs.declared.log.Event.TheVariants as event

-- the clerks: eight partitions, each in front of the terminal of its number, which goes round to it alone
abbrev pub clerks : List ℕ
clerks = 1 ∷ 2 ∷ 3 ∷ 4 ∷ 5 ∷ 6 ∷ 7 ∷ 8 ∷ []

abbrev pub is_clerk : ℕ → Bool
is_clerk i = is_between 1 8 i

abbrev pub terminal_of : ℕ → BootTerminal
terminal_of i = record { number = i; front = i; order = i ∷ [] }

-- a clerk's disk: D10 for the first, D17 for the last
abbrev pub disk_of : ℕ → List ℕ
disk_of i = codes "D1" ++ (byte.digit_0 + (i - 1)) ∷ []

abbrev pub partition_of : ℕ → BootPartition
partition_of i = record { number = i; terminal = i; text = 4; vars = 4; globals = 0; disk = Some (disk_of i); program = None; quota = None }

-- it is blank, the clerk's alone, and has ten sectors more than the number, at least 16
abbrev pub platter_of : ℕ → ℕ → BootPlatter
platter_of n i = record { address = disk_of i; image = None; blank = Some (max 16 (n + 10)); only = Some i; version = None }

unfoldable pub drill_boot : ℕ → BootState
drill_boot n = record { quota = 20; terminals = map terminal_of clerks; partitions = map partition_of clerks; platters = map (platter_of n) clerks; printers = [] }

-- what each clerk types: a file of two sectors more than the number, a record for each number up to it, and the end
unfoldable pub typed_line : ℕ → List ℕ
typed_line n =
    codes "DATASAVE DC OPEN T,#1," ++ decimal (n + 2) ++ codes ",\"F\":FOR I=1 TO " ++ decimal n
    ++ (codes ":DATASAVE DC #1,I:NEXT I:DATASAVE DC #1,END:PRINT I" ++ byte.carriage_return ∷ [])

-- turns by chance: each is that of the clerk, and of so many steps, as the next of a row of numbers says
abbrev pub next_of : ℕ → ℕ
next_of x = (75 * x + 74) % 65537

abbrev pub turn_of : ℕ → Event
turn_of x = event.Turn (1 + x % 8) (1 + x % 50)

abbrev pub turns : ℕ → ℕ → List Event
turns zero x = []
turns (suc count) x = turn_of (next_of x) ∷ turns count (next_of x)

-- the lines are typed, ten turns by chance follow for each of the number, and then rounds in which all come to their end
unfoldable pub drill_log : ℕ → List Event
drill_log n = flat_map (λ i. key_events i (typed_line n)) clerks ++ turns (10 * n) n ++ event.Rounds (2 * n + 10) ∷ []

-- the number of a drill that a word spells: from 1 to 5,000, without zeros before
abbrev pub number_within : Option ℕ → Option ℕ
number_within None = None
number_within (Some n) = if is_between 1 5000 n then Some n else None

abbrev pub drill_number : List ℕ → Option ℕ
drill_number word = number_within (plain_number word)

-- The boot of each drill is good.
abbrev pub DrillsAreGood : Type 0
DrillsAreGood = (n : ℕ) → n ≤ 5000 → IsGood (drill_boot n)

-- Each event is of the boot.
abbrev pub DrillsAreOfTheirBoot : Type 0
DrillsAreOfTheirBoot = (n : ℕ) → n ≤ 5000 → list_all (is_of_boot (drill_boot n)) (drill_log n) ≡ true

-- The log grants few steps, so that it keeps to the bound of logs.
abbrev pub DrillsGrantFew : Type 0
DrillsGrantFew = (n : ℕ) → granted_by (drill_boot n) (drill_log n) ≤ 820 * n + 1600
