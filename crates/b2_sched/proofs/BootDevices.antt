-- A boot of a file can start, and so can one with a group alone: it has few devices, and each address once, since they ascend by
-- their numbers; its orders are orders.
use Rattle.std.specs.Prelude.{◌≡◌, ℕ, ◌<◌, ◌≤◌, Bool, true, false, not, cond, ◌&&◌, ◌||◌, List, [], ◌∷◌, filter, length, map, Option, Some, None, is_some, refl}
use Rattle.std.proofs.Common.{ap, ◌∙◌, arith}
use Rattle.std.proofs.lemmas.Bool.{and_parts}
use Rattle.std.proofs.lemmas.List.{length-append, length-map, map-append}
use Rattle.std.proofs.lemmas.Slice.Eq.{bytes_eq-Decides}
use Rattle.std.specs.List.{list_all, list_any}
use Rattle.std.specs.Str.{bytes_eq}
use Rattle.b2_access.specs.Devices.{are_distinct}
use Rattle.b2_boot.specs.Alone.{alone}
use Rattle.b2_boot.specs.Boots.{Ascends, BootState, IsGood, address_number, device_addresses, has_partition, is_order_at, is_program_name, may_load}
use Rattle.b2_boot.specs.declared.boot.BootPartition.{BootPartition}
use Rattle.b2_boot.specs.declared.boot.BootPlatter.{BootPlatter}
use Rattle.b2_boot.specs.declared.boot.BootPrinter.{BootPrinter}
use Rattle.b2_boot.specs.declared.boot.BootTerminal.{BootTerminal}
use Rattle.b2_store.specs.Start.{has_order}
use Rattle.b2_term.specs.Orders.{is_order}
use Rattle.b2_sched.specs.Start.{CanStart, devices_of, front_of_boot, may_start, platter_device, printer_device}

higher : (n m : ℕ) (xs : List ℕ) → n < m → Ascends m xs → Ascends n xs
higher n m [] below ascend = tt
higher n m (x ∷ xs) below ascend = (omega arith, ascend.1)

-- none of the later ones is the address of a lower number
apart : (a c : List ℕ) → address_number a < address_number c → bytes_eq a c ≡ false
apart a c below = by (bytes_eq a c) refl
  where
    by : (b : Bool) → bytes_eq a c ≡ b → b ≡ false
    by false e = refl
    by true e = let same : address_number a ≡ address_number c = ap address_number ((bytes_eq-Decides a c).0 e) in absurd (omega arith)

none_of : (b c : Bool) → b ≡ false → c ≡ false → (b || c) ≡ false
none_of b c is also = ap (λ (x : Bool). x || c) is ∙ also

none_later : (a : List ℕ) (cs : List (List ℕ)) → Ascends (address_number a) (map address_number cs) → list_any (bytes_eq a) cs ≡ false
none_later a [] ascend = refl
none_later a (c ∷ cs) ascend =
    none_of (bytes_eq a c) (list_any (bytes_eq a) cs) (apart a c ascend.0) (none_later a cs (higher (address_number a) (address_number c) (map address_number cs) ascend.0 ascend.1))

both : (b c : Bool) → b ≡ false → c ≡ true → (not b && c) ≡ true
both b c is also = ap (λ (x : Bool). not x && c) is ∙ also

distinct : (above : ℕ) (cs : List (List ℕ)) → Ascends above (map address_number cs) → are_distinct cs ≡ true
distinct above [] ascend = refl
distinct above (c ∷ cs) ascend = both (list_any (bytes_eq c) cs) (are_distinct cs) (none_later c cs ascend.1) (distinct (address_number c) cs ascend.1)

-- the addresses of devices are those of printers and then of platters
of_printers : (ps : List BootPrinter) → map (λ d. d.addr) (map printer_device ps) ≡ map (λ p. p.address) ps
of_printers [] = refl
of_printers (p ∷ ps) = ap (λ cs. p.address ∷ cs) (of_printers ps)

of_platters : (ps : List BootPlatter) → map (λ d. d.addr) (map platter_device ps) ≡ map (λ p. p.address) ps
of_platters [] = refl
of_platters (p ∷ ps) = ap (λ cs. p.address ∷ cs) (of_platters ps)

of_devices : (printers : List BootPrinter) (platters : List BootPlatter) → map (λ d. d.addr) (devices_of printers platters) ≡ device_addresses printers platters
of_devices printers platters = map-append (λ d. d.addr) (map printer_device printers) (map platter_device platters) ∙ rw (of_printers printers, of_platters platters) refl

-- at most four and at most eight are at most twelve
at_most_twelve : (printers : List BootPrinter) (platters : List BootPlatter) → length printers ≤ 4 → length platters ≤ 8 → length (devices_of printers platters) ≤ 12
at_most_twelve printers platters four eight =
    let all = length-append (map printer_device printers) (map platter_device platters) in
    let first = length-map printers printer_device in
    let last = length-map platters platter_device in
    omega (arith, all, first, last, four, eight)

-- a program that can be loaded has a name that can stand in a line
loaded_starts : (disk program : Option (List ℕ)) → may_load disk program ≡ true → may_start program ≡ true
loaded_starts disk None loads = refl
loaded_starts disk (Some name) loads = (and_parts (is_some disk) (is_program_name name) loads).1

all_start : (ps : List BootPartition) → list_all (λ p. may_load p.disk p.program) ps ≡ true → list_all (λ p. may_start p.program) ps ≡ true
all_start [] load = refl
all_start (p ∷ ps) load =
    let (here, more) = and_parts (may_load p.disk p.program) (list_all (λ p. may_load p.disk p.program) ps) load in
    rw (loaded_starts p.disk p.program here) (all_start ps more)

-- an order of partitions of a terminal is one
all_ordered : (ps : List BootPartition) (ts : List BootTerminal) → list_all (λ t. is_order_at t.number t.order ps) ts ≡ true → list_all has_order (map front_of_boot ts) ≡ true
all_ordered ps [] orders = refl
all_ordered ps (t ∷ ts) orders =
    let (here, more) = and_parts (is_order_at t.number t.order ps) (list_all (λ t. is_order_at t.number t.order ps) ts) orders in
    let (is, placed) = and_parts (is_order t.order) (list_all (λ n. has_partition t.number n ps) t.order) here in
    rw is (all_ordered ps ts more)

pub can_start : (b : BootState) → IsGood b → CanStart b
can_start b good = record {
  few = at_most_twelve b.printers b.platters good.few_printers good.few_platters;
  distinct = rw (of_devices b.printers b.platters) (distinct 0 (device_addresses b.printers b.platters) good.devices_ascend);
  programs = all_start b.partitions good.programs;
  orders = all_ordered b.partitions b.terminals good.orders;
}

-- those that a group keeps start too
kept_by : (member : Bool) (p : BootPartition) (kept : List BootPartition) → may_start p.program ≡ true → list_all (λ q. may_start q.program) kept ≡ true
    → list_all (λ q. may_start q.program) (cond member (p ∷ kept) kept) ≡ true
kept_by true p kept here more = rw here more
kept_by false p kept here more = more

kept_start : (group : ℕ → Bool) (ps : List BootPartition) → list_all (λ p. may_start p.program) ps ≡ true → list_all (λ p. may_start p.program) (filter (λ p. group p.number) ps) ≡ true
kept_start group [] start = refl
kept_start group (p ∷ ps) start =
    let (here, more) = and_parts (may_start p.program) (list_all (λ q. may_start q.program) ps) start in
    kept_by (group p.number) p (filter (λ q. group q.number) ps) here (kept_start group ps more)

pub starts_alone : (b : BootState) (group : ℕ → Bool) → CanStart b → CanStart (alone group b)
starts_alone b group can = record { few = can.few; distinct = can.distinct; programs = kept_start group b.partitions can.programs; orders = can.orders }
