-- The line that a log is refused for: it is one of the log's, and the lines before it pass.
use Rattle.std.proofs.Common.{◌≡◌, ℕ, suc, ◌+◌, ◌-◌, ◌<◌, ◌≤◌, List, [], ◌∷◌, length, take, refl, subst, arith}
use Rattle.b2_boot.specs.Boots.{BootState}
use Rattle.b2_boot.specs.Logs.{LogRead, Events, Refused, AreEvents, log_from, onto_log, log_line, events_of, steps_asked}
use Rattle.b2_boot.specs.declared.log.Event.{Event}
use Rattle.b2_boot.specs.declared.log_lines.Asked.{Asked}
use Rattle.b2_boot.specs.declared.log_lines.LineRead.{LineRead}
use Rattle.b2_boot.specs.declared.log_lines.LineRead.TheVariants.{Nothing, Asks, Fails}
use Rattle.b2_boot.proofs.LogSteps.{by_first}

-- what the lines from a number on say: a line that is told is one of them, and those before it pass
abbrev First : BootState → ℕ → ℕ → List (List ℕ) → LogRead → Type 0
First b line granted ls (Events es) = Unit {0}
First b line granted ls (Refused n check) = (line ≤ n) × (n < line + length ls) × AreEvents (log_from b line granted (take (n - line) ls))

still_events : (es : List Event) (r : LogRead) → AreEvents r → AreEvents (onto_log es r)
still_events es (Events fs) h = tt
still_events es (Refused n check) h = absurd h

-- one more line before others that are told of
after_line : (b : BootState) (line granted n : ℕ) (l : List ℕ) (ls : List (List ℕ)) (r : LineRead) → r ≡ log_line b granted l → line + 1 ≤ n → n < line + 1 + length ls
    → AreEvents (by_first b line granted (take (n - (line + 1)) ls) r)
    → (line ≤ n) × (n < line + length (l ∷ ls)) × AreEvents (log_from b line granted (take (n - line) (l ∷ ls)))
after_line b line granted n l ls r is low high pass =
    let k : n - line ≡ suc (n - (line + 1)) = omega arith in
    (omega arith, omega arith, rw k (subst (λ q. AreEvents (by_first b line granted (take (n - (line + 1)) ls) q)) is pass))

skipped : (b : BootState) (line granted : ℕ) (l : List ℕ) (ls : List (List ℕ)) (r : LogRead) → Nothing ≡ log_line b granted l
    → First b (line + 1) granted ls r → First b line granted (l ∷ ls) r
skipped b line granted l ls (Events es) is h = tt
skipped b line granted l ls (Refused n check) is (low, high, pass) = after_line b line granted n l ls Nothing is low high pass

asked_first : (b : BootState) (line granted : ℕ) (l : List ℕ) (ls : List (List ℕ)) (a : Asked) (r : LogRead) → Asks a ≡ log_line b granted l
    → First b (line + 1) (granted + steps_asked b a) ls r → First b line granted (l ∷ ls) (onto_log (events_of a) r)
asked_first b line granted l ls a (Events es) is h = tt
asked_first b line granted l ls a (Refused n check) is (low, high, pass) =
    after_line b line granted n l ls (Asks a) is low high (still_events (events_of a) (log_from b (line + 1) (granted + steps_asked b a) (take (n - (line + 1)) ls)) pass)

failing : (b : BootState) (line granted check : ℕ) (l : List ℕ) (ls : List (List ℕ)) → First b line granted (l ∷ ls) (Refused line check)
failing b line granted check l ls =
    let none : line - line ≡ 0 = omega arith in
    (omega arith, omega arith, rw none tt)

by_cases : (b : BootState) (line granted : ℕ) (l : List ℕ) (ls : List (List ℕ)) (r : LineRead) → r ≡ log_line b granted l
    → ((more : ℕ) → First b (line + 1) more ls (log_from b (line + 1) more ls)) → First b line granted (l ∷ ls) (by_first b line granted ls r)
by_cases b line granted l ls Nothing is h = skipped b line granted l ls (log_from b (line + 1) granted ls) is (h granted)
by_cases b line granted l ls (Asks a) is h = asked_first b line granted l ls a (log_from b (line + 1) (granted + steps_asked b a) ls) is (h (granted + steps_asked b a))
by_cases b line granted l ls (Fails check) is h = failing b line granted check l ls

-- the first line that fails is told
first_from : (b : BootState) (line granted : ℕ) (ls : List (List ℕ)) → First b line granted ls (log_from b line granted ls)
first_from b line granted [] = tt
first_from b line granted (l ∷ ls) = by_cases b line granted l ls (log_line b granted l) refl (λ more. first_from b (line + 1) more ls)

pub first_told : (b : BootState) (ls : List (List ℕ)) (n check : ℕ) → log_from b 1 0 ls ≡ Refused n check
    → (1 ≤ n) × (n ≤ length ls) × AreEvents (log_from b 1 0 (take (n - 1) ls))
first_told b ls n check is =
    let (low, high, pass) = subst (First b 1 0 ls) is (first_from b 1 0 ls) in
    (low, omega arith, pass)
