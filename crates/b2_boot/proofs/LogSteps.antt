-- A log, line by line.
use Rattle.std.proofs.Common.{◌≡◌, ℕ, ◌+◌, ◌-◌, ◌^◌, ◌≤◌, min, nat_le, true, None, List, [], ◌∷◌, ◌++◌, refl, sym, ap, ◌∙◌, append_assoc, arith}
use Rattle.std.specs.List.{list_all}
use Rattle.std.proofs.lemmas.Bool.{leb-true}
use Rattle.b2_boot.specs.Boots.{BootState, first_failed}
use Rattle.b2_boot.specs.Logs.{LogRead, Events, Refused, log_from, onto_log, log_line, events_of, steps_asked, by_line, is_in_range, is_in_boot, checks_of_asked, LineHolds, granted_by, is_of_boot}
use Rattle.b2_boot.proofs.ChecksHeld.{none_ahead}
use Rattle.b2_boot.proofs.Granted.{granted_more}
use Rattle.b2_boot.proofs.Events.{fits_more}
use Rattle.b2_boot.specs.declared.log.Event.{Event}
use Rattle.b2_boot.specs.declared.log_lines.Asked.{Asked}
use Rattle.b2_boot.specs.declared.log_lines.LineRead.{LineRead}
use Rattle.b2_boot.specs.declared.log_lines.LineRead.TheVariants.{Nothing, Asks, Fails}

onto-onto : (xs ys : List Event) (r : LogRead) → onto_log (xs ++ ys) r ≡ onto_log xs (onto_log ys r)
onto-onto xs ys (Events es) = ap Events (append_assoc xs ys es)
onto-onto xs ys (Refused line check) = refl

-- a log by what its first line says
abbrev pub by_first : BootState → ℕ → ℕ → List (List ℕ) → LineRead → LogRead
by_first b line granted after r =
    by_line r (log_from b (line + 1) granted after) (λ a. onto_log (events_of a) (log_from b (line + 1) (granted + steps_asked b a) after)) (λ check. Refused line check)

first_says : (b : BootState) (line granted : ℕ) (l : List ℕ) (before after : List (List ℕ)) (r : LineRead)
    → before ≡ l ∷ after → r ≡ log_line b granted l → log_from b line granted before ≡ by_first b line granted after r
first_says b line granted l before after r cut_is is = ap (log_from b line granted) cut_is ∙ ap (by_first b line granted after) (sym is)

pub after_nothing : (b : BootState) (line granted : ℕ) (events : List Event) (l : List ℕ) (before after : List (List ℕ)) (all : LogRead)
    → before ≡ l ∷ after → Nothing ≡ log_line b granted l → onto_log events (log_from b line granted before) ≡ all
    → onto_log events (log_from b (line + 1) granted after) ≡ all
after_nothing b line granted events l before after all cut_is is so_far =
    ap (onto_log events) (sym (first_says b line granted l before after Nothing cut_is is)) ∙ so_far

after_asked : (b : BootState) (line granted : ℕ) (events : List Event) (a : Asked) (l : List ℕ) (before after : List (List ℕ)) (all : LogRead)
    → before ≡ l ∷ after → Asks a ≡ log_line b granted l → onto_log events (log_from b line granted before) ≡ all
    → onto_log (events ++ events_of a) (log_from b (line + 1) (granted + steps_asked b a) after) ≡ all
after_asked b line granted events a l before after all cut_is is so_far =
    onto-onto events (events_of a) _
    ∙ ap (onto_log events) (sym (first_says b line granted l before after (Asks a) cut_is is)) ∙ so_far

pub after_failure : (b : BootState) (line granted : ℕ) (events : List Event) (check : ℕ) (l : List ℕ) (before after : List (List ℕ)) (all : LogRead)
    → before ≡ l ∷ after → Fails check ≡ log_line b granted l → onto_log events (log_from b line granted before) ≡ all
    → all ≡ Refused line check
after_failure b line granted events check l before after all cut_is is so_far =
    sym so_far ∙ ap (onto_log events) (first_says b line granted l before after (Fails check) cut_is is)

-- what fails none of its checks
pub passes : (b : BootState) (granted : ℕ) (a : Asked) → None ≡ first_failed (checks_of_asked b granted a) → LineHolds b granted (Asks a)
passes b granted a h =
    let few = nat_le (granted + steps_asked b a) 5000000 in
    let (range, h5) = none_ahead 4 (is_in_range a) ((5, is_in_boot b a) ∷ (6, few) ∷ []) h in
    let (there, h6) = none_ahead 5 (is_in_boot b a) ((6, few) ∷ []) h5 in
    let (within, rest) = none_ahead 6 few [] h6 in
    (range, there, leb-true (granted + steps_asked b a) 5000000 within)

-- a log after one more line that passes
pub kept : (b : BootState) (line granted steps : ℕ) (events grown : List Event) (a : Asked) (l : List ℕ) (before after : List (List ℕ)) (all : LogRead)
    → before ≡ l ∷ after → Asks a ≡ log_line b granted l → LineHolds b granted (Asks a) → steps ≡ min (steps_asked b a) (2 ^ 64 - 1) → grown ≡ events ++ events_of a
    → onto_log events (log_from b line granted before) ≡ all → granted_by b events ≡ granted → list_all (is_of_boot b) events ≡ true
    → (onto_log grown (log_from b (line + 1) (granted + steps) after) ≡ all) × (granted + steps ≤ 5000000) × (granted_by b grown ≡ granted + steps) × (list_all (is_of_boot b) grown ≡ true)
kept b line granted steps events grown a l before after all cut_is is (range, there, within) counted grown_is so_far in_all fit =
    let few : steps ≡ steps_asked b a = omega arith in
    let more = granted_more b events a in (
      (λ i. onto_log (grown_is i) (log_from b (line + 1) (granted + few i) after)) ∙ after_asked b line granted events a l before after all cut_is is so_far,
      omega arith,
      ap (granted_by b) grown_is ∙ more ∙ omega arith,
      ap (list_all (is_of_boot b)) grown_is ∙ fits_more b events a fit range there,
    )
