-- The log: the checks of what a line asks, and the events of the lines, or the first line that fails a check and its first check.
use Rattle.std.specs.Prelude.{◌≡◌, ℕ, ◌+◌, ◌-◌, ◌*◌, ◌≤◌, ◌&&◌, nat_le, List, [], ◌∷◌, ◌++◌, length, take, map, Bool, true, Option, Some, None, Result, Ok, Err}
use Rattle.std.specs.Global.{Vec}
use Rattle.b2_term.specs.declared.KeyItem.TheVariants as key
use Rattle.b2_boot.specs.Rows.{is_between}
use Rattle.b2_boot.specs.Boots.{BootState, first_failed, has_terminal, has_partition}
use Rattle.b2_boot.specs.LogLines.{asked_by_line, text_lines}
use Rattle.b2_boot.specs.Quotas.{quotas_of, steps_of_round}
use Rattle.b2_boot.specs.declared.log.Event.{Event}
use Rattle.b2_boot.specs.declared.log.Event.TheVariants as event
use Rattle.b2_boot.specs.declared.log.LogErr.{LogErr}
use Rattle.b2_boot.specs.declared.log.LogErr.TheVariants as refused
use Rattle.b2_boot.specs.declared.log_lines.Asked.{Asked}
use Rattle.b2_boot.specs.declared.log_lines.Asked.TheVariants as asked
use Rattle.b2_boot.specs.declared.log_lines.LineRead.{LineRead}
use Rattle.b2_boot.specs.declared.log_lines.LineRead.TheVariants.{Nothing, Asks, Fails}

-- 4: each number is in range
abbrev pub is_in_range : Asked → Bool
is_in_range (asked.Keys t keys) = is_between 1 12 t
is_in_range (asked.Special t n) = is_between 1 12 t && nat_le n 31
is_in_range (asked.Front t p) = is_between 1 12 t && is_between 1 16 p
is_in_range (asked.Halt p) = is_between 1 16 p
is_in_range (asked.Reset p) = is_between 1 16 p
is_in_range (asked.Turn p n) = is_between 1 16 p && is_between 1 1000 n
is_in_range (asked.Rounds n) = is_between 1 100000 n

-- 5: the terminal stands in the boot, and the front is a partition of it
abbrev pub is_in_boot : BootState → Asked → Bool
is_in_boot b (asked.Keys t keys) = has_terminal t b.terminals
is_in_boot b (asked.Special t n) = has_terminal t b.terminals
is_in_boot b (asked.Front t p) = has_terminal t b.terminals && has_partition t p b.partitions
is_in_boot b a = true

-- the steps that are asked for: a round gives each partition of the boot its quota
abbrev pub steps_asked : BootState → Asked → ℕ
steps_asked b (asked.Turn p n) = n
steps_asked b (asked.Rounds n) = n * steps_of_round (quotas_of b)
steps_asked b a = 0

-- 4 to 6: the checks of what is asked, where some steps were granted before
abbrev pub checks_of_asked : BootState → ℕ → Asked → List (ℕ × Bool)
checks_of_asked b granted a = (4, is_in_range a) ∷ (5, is_in_boot b a) ∷ (6, nat_le (granted + steps_asked b a) 5000000) ∷ []

abbrev pub unless_failing : Option ℕ → Asked → LineRead
unless_failing None a = Asks a
unless_failing (Some check) a = Fails check

abbrev pub checked_line : BootState → ℕ → LineRead → LineRead
checked_line b granted (Asks a) = unless_failing (first_failed (checks_of_asked b granted a)) a
checked_line b granted read = read

-- what a line says, where some steps were granted before it
abbrev pub log_line : BootState → ℕ → List ℕ → LineRead
log_line b granted line = checked_line b granted (asked_by_line line)

-- the events of what is asked: one for each key, and one for each other line
abbrev pub key_events : ℕ → List ℕ → List Event
key_events t keys = map (λ k. event.Key t (key.Byte k)) keys

abbrev pub events_of : Asked → List Event
events_of (asked.Keys t keys) = key_events t keys
events_of (asked.Special t n) = event.Key t (key.Special n) ∷ []
events_of (asked.Front t p) = event.Front t p ∷ []
events_of (asked.Halt p) = event.Halt p ∷ []
events_of (asked.Reset p) = event.Reset p ∷ []
events_of (asked.Turn p n) = event.Turn p n ∷ []
events_of (asked.Rounds n) = event.Rounds n ∷ []

-- a log: its events, or the first line that fails a check, from 1, and its first check
pub data LogRead : Type 0 where
  Events : List Event → LogRead
  Refused : ℕ → ℕ → LogRead

-- events before those of a log
abbrev pub onto_log : List Event → LogRead → LogRead
onto_log front (Events es) = Events (front ++ es)
onto_log front (Refused line check) = Refused line check

abbrev pub by_line : {A : Type 0} → LineRead → A → (Asked → A) → (ℕ → A) → A
by_line Nothing nothing asks fails = nothing
by_line (Asks a) nothing asks fails = asks a
by_line (Fails check) nothing asks fails = fails check

-- the lines from a number on, where some steps were granted before them
abbrev pub log_from : BootState → ℕ → ℕ → List (List ℕ) → LogRead
log_from b line granted [] = Events []
log_from b line granted (l ∷ ls) = by_line (log_line b granted l)
    (log_from b (line + 1) granted ls)
    (λ a. onto_log (events_of a) (log_from b (line + 1) (granted + steps_asked b a) ls))
    (λ check. Refused line check)

-- what a log says
abbrev pub log_of : BootState → List ℕ → LogRead
log_of b bytes = log_from b 1 0 (text_lines bytes)

-- an answer to a log: its events, or its first line that fails and the first check of that; memory may fail at any time
abbrev pub Answers : LogRead → Result (Vec Event) LogErr → Type 0
Answers meant (Ok events) = meant ≡ Events events.items
Answers meant (Err (refused.Line line check)) = meant ≡ Refused line check
Answers meant (Err refused.NoMemory) = Unit {0}

-- a log that fails no check
abbrev pub AreEvents : LogRead → Type 0
AreEvents (Events es) = Unit {0}
AreEvents (Refused line check) = ⊥

-- a line that is told is one of the log's, and those before it pass
abbrev pub IsFirst : BootState → List ℕ → LogErr → Type 0
IsFirst b bytes (refused.Line line check) = (1 ≤ line) × (line ≤ length (text_lines bytes)) × AreEvents (log_from b 1 0 (take (line - 1) (text_lines bytes)))
IsFirst b bytes refused.NoMemory = Unit {0}

-- the steps that an event grants, and those of events
abbrev pub grants : BootState → Event → ℕ
grants b (event.Turn p n) = n
grants b (event.Rounds n) = n * steps_of_round (quotas_of b)
grants b e = 0

abbrev pub granted_by : BootState → List Event → ℕ
granted_by b [] = 0
granted_by b (e ∷ es) = grants b e + granted_by b es

-- what an event of a log is: its terminal is the boot's, its front a partition of its terminal, and its counts are in range
abbrev pub is_of_boot : BootState → Event → Bool
is_of_boot b (event.Key t (key.Byte k)) = has_terminal t b.terminals
is_of_boot b (event.Key t (key.Special n)) = has_terminal t b.terminals && nat_le n 31
is_of_boot b (event.Front t p) = has_terminal t b.terminals && has_partition t p b.partitions
is_of_boot b (event.Turn p n) = is_between 1 1000 n
is_of_boot b (event.Rounds n) = is_between 1 100000 n
is_of_boot b e = true

-- a line that passes its checks keeps to the numbers, to the boot and to the bound on granted steps
abbrev pub LineHolds : BootState → ℕ → LineRead → Type 0
LineHolds b granted (Asks a) = (is_in_range a ≡ true) × (is_in_boot b a ≡ true) × (granted + steps_asked b a ≤ 5000000)
LineHolds b granted read = Unit {0}
