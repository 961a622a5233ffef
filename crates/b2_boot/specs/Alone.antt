-- A boot with a group of partitions alone, and the part of a boot and of a log that is the group's own.
use Rattle.std.specs.Prelude.{ℕ, zero, suc, ◌+◌, ◌==◌, Bool, true, false, List, [], ◌∷◌, ◌++◌, filter, Option}
use Rattle.std.specs.List.{list_any}
use Rattle.b2_boot.specs.Boots.{BootState, is_for}
use Rattle.b2_boot.specs.Quotas.{quota_at, quotas_of}
use Rattle.b2_boot.specs.declared.boot.BootPartition.{BootPartition}
use Rattle.b2_boot.specs.declared.log.Event.{Event}
use Rattle.b2_boot.specs.declared.log.Event.TheVariants as event

-- a group that is listed
abbrev pub is_in_group : List ℕ → ℕ → Bool
is_in_group parts p = list_any (λ q. q == p) parts

-- the partitions outside it go; the others' numbers and quotas, the boot's, the terminals, the fronts, the orders and the devices stay
abbrev pub alone : (ℕ → Bool) → BootState → BootState
alone group b = record b { partitions = filter (λ p. group p.number) b.partitions }

-- ---- the part of a boot and of a log that its partitions can come to

-- a partition is there, one stands at a terminal, and one may use a device that is for all, or for one alone
abbrev pub has_number : List BootPartition → ℕ → Bool
has_number partitions p = list_any (λ q. q.number == p) partitions

abbrev pub stands_at : List BootPartition → ℕ → Bool
stands_at partitions t = list_any (λ q. q.terminal == t) partitions

abbrev pub may_be_used : List BootPartition → Option ℕ → Bool
may_be_used partitions only = list_any (λ q. is_for q.number only) partitions

-- terminals at which no partition stands go, and devices that none may use; the quota, the partitions, the fronts and the orders stay
abbrev pub own_boot : BootState → BootState
own_boot b = record b {
  terminals = filter (λ t. stands_at b.partitions t.number) b.terminals;
  platters = filter (λ d. may_be_used b.partitions d.only) b.platters;
  printers = filter (λ d. may_be_used b.partitions d.only) b.printers;
}

abbrev pub kept_if : Bool → Event → List Event
kept_if true e = e ∷ []
kept_if false e = []

-- a turn of each partition that is there among some numbers, in ascending order, with its quota, and so in each round
abbrev pub own_turns : BootState → ℕ → ℕ → List Event
own_turns b p zero = []
own_turns b p (suc n) = kept_if (has_number b.partitions p) (event.Turn p (quota_at p (quotas_of b))) ++ own_turns b (p + 1) n

abbrev pub own_rounds : BootState → ℕ → List Event
own_rounds b zero = []
own_rounds b (suc n) = own_turns b 1 16 ++ own_rounds b n

-- of events those stay that are at a terminal where a partition stands, or of a partition that is there; a round is the turns that it gives
abbrev pub own_events : BootState → Event → List Event
own_events b (event.Key t k) = kept_if (stands_at b.partitions t) (event.Key t k)
own_events b (event.Front t p) = kept_if (stands_at b.partitions t) (event.Front t p)
own_events b (event.Halt p) = kept_if (has_number b.partitions p) (event.Halt p)
own_events b (event.Reset p) = kept_if (has_number b.partitions p) (event.Reset p)
own_events b (event.Turn p n) = kept_if (has_number b.partitions p) (event.Turn p n)
own_events b (event.Rounds n) = own_rounds b n

abbrev pub own_log : BootState → List Event → List Event
own_log b [] = []
own_log b (e ∷ es) = own_events b e ++ own_log b es

-- THE OWN PART OF A GROUP, of a boot and of a log
abbrev pub part : (ℕ → Bool) → BootState → List Event → BootState × List Event
part group b log = (own_boot (alone group b), own_log (alone group b) log)
