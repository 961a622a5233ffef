-- What holds of every boot file and every log that pass their checks, and of a boot with a group alone, in words of its own.
use Rattle.std.specs.Prelude.{◌≡◌, ℕ, ◌+◌, ◌≤◌, ◌==◌, ◌&&◌, Bool, true, false, List, [], ◌∷◌, Ok}
use Rattle.std.specs.List.{list_all}
use Rattle.b2_boot.specs.Alone.{alone, has_number, may_be_used, own_boot, own_events, own_log, part, stands_at}
use Rattle.b2_boot.specs.Boots.{BootState, IsGood, boot_of}
use Rattle.b2_boot.specs.Logs.{Events, granted_by, is_of_boot, log_of}
use Rattle.b2_boot.specs.Quotas.{quota_at, quotas_of}
use Rattle.b2_boot.specs.declared.log.Event.{Event}
use Rattle.b2_boot.specs.declared.log.Event.TheVariants as event

-- The boot of a file that passes its checks is good.
abbrev pub BootsOfFilesAreGood : Type 0
BootsOfFilesAreGood = (bytes : List ℕ) (b : BootState) → boot_of bytes ≡ Ok b → IsGood b

-- A log that passes its checks grants at most five million steps in all.
abbrev pub LogsKeepToTheBound : Type 0
LogsKeepToTheBound = (b : BootState) (bytes : List ℕ) (events : List Event) → log_of b bytes ≡ Events events → granted_by b events ≤ 5000000

-- Each of its events is of the boot.
abbrev pub LogsAreOfTheirBoot : Type 0
LogsAreOfTheirBoot = (b : BootState) (bytes : List ℕ) (events : List Event) → log_of b bytes ≡ Events events → list_all (is_of_boot b) events ≡ true

-- To a group alone the same events grant no more.
abbrev pub AloneGrantsNoMore : Type 0
AloneGrantsNoMore = (group : ℕ → Bool) (b : BootState) (events : List Event) → granted_by (alone group b) events ≤ granted_by b events

-- an event is at a terminal at which a partition of a boot stands, or of one that is there; rounds are of all that there are
abbrev pub is_own : BootState → Event → Bool
is_own b (event.Key t k) = stands_at b.partitions t
is_own b (event.Front t p) = stands_at b.partitions t
is_own b (event.Halt p) = has_number b.partitions p
is_own b (event.Reset p) = has_number b.partitions p
is_own b (event.Turn p n) = has_number b.partitions p
is_own b (event.Rounds n) = false

-- all of a boot and of a log is of members of a group that are there
pub record HasNoMore (group : ℕ → Bool) (b : BootState) (log : List Event) : Type 0 where
  pub members : list_all (λ p. group p.number) b.partitions ≡ true
  pub terminals : list_all (λ t. stands_at b.partitions t.number) b.terminals ≡ true
  pub platters : list_all (λ d. may_be_used b.partitions d.only) b.platters ≡ true
  pub printers : list_all (λ d. may_be_used b.partitions d.only) b.printers ≡ true
  pub events : list_all (is_own b) log ≡ true

-- A group's own part has nothing of others.
abbrev pub PartsHaveNoMore : Type 0
PartsHaveNoMore = (group : ℕ → Bool) (b : BootState) (log : List Event) → HasNoMore group (part group b log).0 (part group b log).1

-- And where a boot and a log have nothing of others they are their own part.
abbrev pub PartsHaveNoLess : Type 0
PartsHaveNoLess = (group : ℕ → Bool) (b : BootState) (log : List Event) → HasNoMore group b log → (own_boot b ≡ b) × (own_log b log ≡ log)

-- how many of some events are a turn of a partition with so many steps
abbrev pub is_turn : ℕ → ℕ → Event → Bool
is_turn p steps (event.Turn q n) = (q == p) && (n == steps)
is_turn p steps e = false

abbrev pub one_where : Bool → ℕ
one_where true = 1
one_where false = 0

abbrev pub turns_among : ℕ → ℕ → List Event → ℕ
turns_among p steps [] = 0
turns_among p steps (e ∷ es) = one_where (is_turn p steps e) + turns_among p steps es

-- In place of rounds each partition that is there has as many turns, with the quota that a round gives it.
abbrev pub PartsHaveEachRound : Type 0
PartsHaveEachRound = (b : BootState) (p n : ℕ) → 1 ≤ p → p ≤ 16 → has_number b.partitions p ≡ true → turns_among p (quota_at p (quotas_of b)) (own_events b (event.Rounds n)) ≡ n
