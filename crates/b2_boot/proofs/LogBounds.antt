-- What a log that passes its checks grants, and what its events are.
use Rattle.std.proofs.Common.{◌≡◌, ℕ, ◌+◌, ◌≤◌, Bool, true, false, List, [], ◌∷◌, ◌++◌, filter, map, Option, Some, None, refl, sym, subst, ◌∙◌, if◌then◌else◌, arith}
use Rattle.std.specs.List.{list_all}
use Rattle.std.proofs.Math.Nat.{mul-le-mul_left}
use Rattle.std.proofs.lemmas.List.Folds.{list_all-append}
use Rattle.b2_boot.specs.Alone.{alone}
use Rattle.b2_boot.specs.Boots.{BootState, first_failed}
use Rattle.b2_boot.specs.Quotas.{quota_row, steps_of_round}
use Rattle.b2_boot.specs.declared.boot.BootPartition.{BootPartition}
use Rattle.b2_boot.specs.Laws.{LogsKeepToTheBound, LogsAreOfTheirBoot, AloneGrantsNoMore}
use Rattle.b2_boot.specs.LogLines.{asked_by_line, text_lines}
use Rattle.b2_boot.specs.Logs.{LogRead, Events, Refused, log_from, log_line, onto_log, events_of, steps_asked, checks_of_asked, unless_failing, checked_line, LineHolds, grants, granted_by, is_of_boot}
use Rattle.b2_boot.proofs.Events.{events_fit}
use Rattle.b2_boot.proofs.Granted.{granted_by-append, events_grant}
use Rattle.b2_boot.proofs.LogSteps.{by_first, passes}
use Rattle.b2_boot.specs.declared.log.Event.{Event}
use Rattle.b2_boot.specs.declared.log.Event.TheVariants as event
use Rattle.b2_boot.specs.declared.log_lines.Asked.{Asked}
use Rattle.b2_boot.specs.declared.log_lines.LineRead.{LineRead}
use Rattle.b2_boot.specs.declared.log_lines.LineRead.TheVariants.{Nothing, Asks, Fails}

-- a line that asks passes its checks
unless_passes : (b : BootState) (granted : ℕ) (a asked : Asked) (o : Option ℕ) → first_failed (checks_of_asked b granted a) ≡ o → unless_failing o a ≡ Asks asked → LineHolds b granted (Asks asked)
unless_passes b granted a asked None is h = let same : a ≡ asked = cc in subst (λ x. LineHolds b granted (Asks x)) same (passes b granted a (sym is))
unless_passes b granted a asked (Some check) is h = cc

asked_passes : (b : BootState) (granted : ℕ) (read : LineRead) (asked : Asked) → checked_line b granted read ≡ Asks asked → LineHolds b granted (Asks asked)
asked_passes b granted Nothing asked h = cc
asked_passes b granted (Fails check) asked h = cc
asked_passes b granted (Asks a) asked h = unless_passes b granted a asked (first_failed (checks_of_asked b granted a)) refl h

-- events of a boot that keep to the bound, where some steps were granted before them
abbrev KeepsTo : BootState → ℕ → List Event → Type 0
KeepsTo b granted events = (granted + granted_by b events ≤ 5000000) × (list_all (is_of_boot b) events ≡ true)

-- with the events of a line before them
asked_keeps : (b : BootState) (granted : ℕ) (a : Asked) (later : List Event) → LineHolds b granted (Asks a) → KeepsTo b (granted + steps_asked b a) later → KeepsTo b granted (events_of a ++ later)
asked_keeps b granted a later (range, there, within) (few, fit) =
    let both = granted_by-append b (events_of a) later in
    let one = events_grant b a in
    (omega arith, list_all-append (is_of_boot b) (events_of a) later ∙ rw (events_fit b a range there, fit) refl)

onto_keeps : (b : BootState) (granted : ℕ) (a : Asked) (rest : LogRead) (events : List Event) → LineHolds b granted (Asks a)
    → ((later : List Event) → rest ≡ Events later → KeepsTo b (granted + steps_asked b a) later) → onto_log (events_of a) rest ≡ Events events → KeepsTo b granted events
onto_keeps b granted a (Events later) events pass each h =
    let same : events_of a ++ later ≡ events = cc in
    subst (KeepsTo b granted) same (asked_keeps b granted a later pass (each later refl))
onto_keeps b granted a (Refused line check) events pass each h = cc

by_line_keeps : (b : BootState) (line granted : ℕ) (l : List ℕ) (ls : List (List ℕ)) (events : List Event) (read : LineRead) → log_line b granted l ≡ read → granted ≤ 5000000
    → ((more : ℕ) (later : List Event) → more ≤ 5000000 → log_from b (line + 1) more ls ≡ Events later → KeepsTo b more later)
    → by_first b line granted ls read ≡ Events events → KeepsTo b granted events
by_line_keeps b line granted l ls events Nothing is few each h = each granted events few h
by_line_keeps b line granted l ls events (Fails check) is few each h = cc
by_line_keeps b line granted l ls events (Asks a) is few each h =
    let pass = asked_passes b granted (asked_by_line l) a is in
    onto_keeps b granted a (log_from b (line + 1) (granted + steps_asked b a) ls) events pass (λ later rest. each (granted + steps_asked b a) later pass.2 rest) h

from_keeps : (b : BootState) (ls : List (List ℕ)) (line granted : ℕ) (events : List Event) → granted ≤ 5000000 → log_from b line granted ls ≡ Events events → KeepsTo b granted events
from_keeps b [] line granted events few h =
    let none : [] ≡ events = cc in
    subst (KeepsTo b granted) none (omega arith, refl)
from_keeps b (l ∷ ls) line granted events few h =
    by_line_keeps b line granted l ls events (log_line b granted l) refl few (λ more later few_more rest. from_keeps b ls (line + 1) more later few_more rest) h

pub logs_keep_to_the_bound : LogsKeepToTheBound
logs_keep_to_the_bound b bytes events h = let few = (from_keeps b (text_lines bytes) 1 0 events (omega arith) h).0 in omega arith

pub logs_are_of_their_boot : LogsAreOfTheirBoot
logs_are_of_their_boot b bytes events h = (from_keeps b (text_lines bytes) 1 0 events (omega arith) h).1

-- a round grants a group no more than all of the boot
one_less : (b : Bool) (quota : ℕ) (x : BootPartition) (kept xs : List BootPartition) → steps_of_round (map (quota_row quota) kept) ≤ steps_of_round (map (quota_row quota) xs)
    → steps_of_round (map (quota_row quota) (if b then x ∷ kept else kept)) ≤ steps_of_round (map (quota_row quota) (x ∷ xs))
one_less true quota x kept xs h = omega arith
one_less false quota x kept xs h = omega arith

round_less : (keeps : BootPartition → Bool) (quota : ℕ) (xs : List BootPartition) → steps_of_round (map (quota_row quota) (filter keeps xs)) ≤ steps_of_round (map (quota_row quota) xs)
round_less keeps quota [] = omega arith
round_less keeps quota (x ∷ xs) = one_less (keeps x) quota x (filter keeps xs) xs (round_less keeps quota xs)

event_grants_less : (group : ℕ → Bool) (b : BootState) (e : Event) → grants (alone group b) e ≤ grants b e
event_grants_less group b (event.Key t k) = omega arith
event_grants_less group b (event.Front t p) = omega arith
event_grants_less group b (event.Halt p) = omega arith
event_grants_less group b (event.Reset p) = omega arith
event_grants_less group b (event.Turn p n) = omega arith
event_grants_less group b (event.Rounds n) = mul-le-mul_left n (round_less (λ p. group p.number) b.quota b.partitions)

pub alone_grants_no_more : AloneGrantsNoMore
alone_grants_no_more group b [] = omega arith
alone_grants_no_more group b (e ∷ es) = let one = event_grants_less group b e in let rest = alone_grants_no_more group b es in omega arith
