-- A move, one element further, and how it ends.
use Rattle.std.proofs.Common.{◌≡◌, ◌≢◌, ◌<◌, ◌≤◌, ◌+◌, ◌-◌, ◌*◌, ◌/◌, ◌==◌, ◌∙◌, ℕ, zero, suc, min, Bool, false, cond, nat_le, if◌then◌else◌, List, [], ◌∷◌, ◌++◌, length, get_or, take, drop, replicate, Result, Ok, Err, refl, sym, ap, arith, append_assoc, zero-mul, mul-le-mul_left, eq-eqb, ne_eqb, ⊎_elim}
use Rattle.std.specs.List.{flat_map}
use Rattle.std.proofs.lemmas.Bool.{le-leb, cases_eq, cases_lt}
use Rattle.std.proofs.lemmas.Bool.Decides.{nat_tests}
use Rattle.std.proofs.lemmas.List.{take_at, drop_at, take-append-drop, drop-drop, drop_more, length-append, length-take, length-take-le, length-drop, length-replicate}
use Rattle.std.proofs.lemmas.List.Sums.{take_while-cons}
use Rattle.b2_base.specs.Byte as byte
use Rattle.b2_base.specs.declared.codes.TheConstants.{X76_LOCATOR_OR_FIELD}
use Rattle.b2_alpha.specs.Values.{padded}
use Rattle.b2_matalpha.specs.Elements.{element_at, element_count}
use Rattle.b2_matalpha.specs.Locators.{places_read}
use Rattle.b2_matalpha.specs.Moves.{moved_places, after_move, move_answer}

-- the places that are wanted after the first k
abbrev pub left_from : List ℕ → ℕ → ℕ → List ℕ
left_from locators room k = take (room - k) (places_read (drop (2 * k) locators))

pub all_left : (locators : List ℕ) (room : ℕ) → left_from locators room 0 ≡ take room (places_read locators)
all_left locators room = let whole : room - 0 ≡ room = omega arith in ap (λ (n : ℕ). take n (places_read locators)) whole

read_one : (place : ℕ) (high low : ℕ) (rest : List ℕ) → place ≡ high * 256 + low → place ≢ 0 → places_read (high ∷ low ∷ rest) ≡ place ∷ places_read rest
read_one place high low rest is some =
    ap (λ (t : Bool). if t then [] else (high * 256 + low) ∷ places_read rest) (ne_eqb (high * 256 + low) 0 (λ e. some (is ∙ e))) ∙ ap (λ (p : ℕ). p ∷ places_read rest) (sym is)

read_none : (place : ℕ) (high low : ℕ) (rest : List ℕ) → place ≡ high * 256 + low → place ≡ 0 → places_read (high ∷ low ∷ rest) ≡ []
read_none place high low rest is none = ap (λ (t : Bool). if t then [] else (high * 256 + low) ∷ places_read rest) (eq-eqb (high * 256 + low) 0 (sym is ∙ none))

two_more : (locators : List ℕ) (k : ℕ) → 2 * k + 1 < length locators → drop (2 * k) locators ≡ get_or locators (2 * k) 0 ∷ get_or locators (2 * k + 1) 0 ∷ drop (2 * (k + 1)) locators
two_more locators k inside =
    drop_more locators (2 * k) 0 (omega arith)
    ∙ ap (λ (l : List ℕ). get_or locators (2 * k) 0 ∷ l) (drop_more locators (2 * k + 1) 0 inside ∙ ap (λ (n : ℕ). get_or locators (2 * k + 1) 0 ∷ drop n locators) (omega arith))

pub left_next : (locators : List ℕ) (room k place : ℕ) → 2 * k + 1 < length locators → k < room → place ≡ get_or locators (2 * k) 0 * 256 + get_or locators (2 * k + 1) 0 → place ≢ 0
    → left_from locators room k ≡ place ∷ left_from locators room (k + 1)
left_next locators room k place inside low is some =
    let longer : room - k ≡ suc (room - (k + 1)) = omega arith in
    (λ i. take (longer i) (places_read (two_more locators k inside i)))
    ∙ ap (take (suc (room - (k + 1)))) (read_one place (get_or locators (2 * k) 0) (get_or locators (2 * k + 1) 0) (drop (2 * (k + 1)) locators) is some)

take_none : (n : ℕ) → take {A = ℕ} n [] ≡ []
take_none zero = refl
take_none (suc n) = refl

pub left_zero : (locators : List ℕ) (room k place : ℕ) → 2 * k + 1 < length locators → place ≡ get_or locators (2 * k) 0 * 256 + get_or locators (2 * k + 1) 0 → place ≡ 0
    → left_from locators room k ≡ []
left_zero locators room k place inside is none =
    ap (λ (l : List ℕ). take (room - k) (places_read l)) (two_more locators k inside)
    ∙ ap (take (room - k)) (read_none place (get_or locators (2 * k) 0) (get_or locators (2 * k + 1) 0) (drop (2 * (k + 1)) locators) is none) ∙ take_none (room - k)

read_short : (xs : List ℕ) → length xs < 2 → places_read xs ≡ []
read_short [] short = refl
read_short (x ∷ []) short = refl
read_short (x ∷ y ∷ xs) short = absurd (omega arith)

pub left_end : (locators : List ℕ) (room k : ℕ) → min (length locators / 2) room ≤ k → left_from locators room k ≡ []
left_end locators room k past =
    ⊎_elim
    (λ (some : k < room).
    let len = length-drop (2 * k) locators in
    ap (take (room - k)) (read_short (drop (2 * k) locators) (omega arith)) ∙ take_none (room - k))
    (λ (none : room ≤ k). let nothing : room - k ≡ 0 = omega arith in ap (λ (n : ℕ). take n (places_read (drop (2 * k) locators))) nothing)
    (cases_lt k room)

-- what a place within the array adds
within_next : (of : List ℕ) (len place : ℕ) (places : List ℕ) → place ≤ element_count len of → moved_places of len (place ∷ places) ≡ place ∷ moved_places of len places
within_next of len place places within =
    take_while-cons (λ p. nat_le p (element_count len of)) place places
    ∙ ap (λ (t : Bool). cond t (place ∷ moved_places of len places) []) (le-leb place (element_count len of) within)

past_next : (of : List ℕ) (len place : ℕ) (places : List ℕ) → element_count len of < place → moved_places of len (place ∷ places) ≡ []
past_next of len place places past =
    let no : nat_le place (element_count len of) ≡ false = grind (arith, nat_tests) in
    take_while-cons (λ p. nat_le p (element_count len of)) place places ∙ ap (λ (t : Bool). cond t (place ∷ moved_places of len places) []) no

abbrev after_places : List ℕ → ℕ → List ℕ → ℕ → List ℕ → List ℕ
after_places of len moved to_len to = flat_map (λ place. padded to_len (element_at len of place)) moved ++ drop (length moved * to_len) to

after_next : (of : List ℕ) (len place : ℕ) (places : List ℕ) (to_len : ℕ) (to : List ℕ) → place ≤ element_count len of
    → after_move of len (place ∷ places) to_len to ≡ padded to_len (element_at len of place) ++ after_move of len places to_len (drop to_len to)
after_next of len place places to_len to within =
    let moved : List ℕ = moved_places of len places in
    let first : List ℕ = padded to_len (element_at len of place) in
    let others : List ℕ = flat_map (λ p. padded to_len (element_at len of p)) moved in
    ap (λ (l : List ℕ). after_places of len l to_len to) (within_next of len place places within)
    ∙ append_assoc first others (drop (suc (length moved) * to_len) to)
    ∙ ap (λ (l : List ℕ). first ++ (others ++ l)) (ap (λ (n : ℕ). drop n to) (omega arith) ∙ sym (drop-drop (length moved * to_len) to_len to))

nothing_moved : (of : List ℕ) (len to_len : ℕ) (to : List ℕ) → after_places of len [] to_len to ≡ to
nothing_moved of len to_len to = ap (λ (n : ℕ). drop n to) (zero-mul to_len)

pub after_past : (of : List ℕ) (len place : ℕ) (places : List ℕ) (to_len : ℕ) (to : List ℕ) → element_count len of < place → after_move of len (place ∷ places) to_len to ≡ to
after_past of len place places to_len to past = ap (λ (l : List ℕ). after_places of len l to_len to) (past_next of len place places past) ∙ nothing_moved of len to_len to

pub after_none : (of : List ℕ) (len to_len : ℕ) (to : List ℕ) → after_move of len [] to_len to ≡ to
after_none of len to_len to = nothing_moved of len to_len to

-- answers after the first k
abbrev pub with_more : ℕ → Result ℕ ℕ → Result ℕ ℕ
with_more k (Ok n) = Ok (k + n)
with_more k (Err code) = Err code

abbrev answer_of : ℕ → ℕ → Result ℕ ℕ
answer_of moved wanted = if moved == wanted then Ok wanted else Err X76_LOCATOR_OR_FIELD

answer_one_more : (k moved wanted : ℕ) → with_more k (answer_of (suc moved) (suc wanted)) ≡ with_more (k + 1) (answer_of moved wanted)
answer_one_more k moved wanted =
    ⊎_elim
    (λ (same : moved ≡ wanted).
    ap (λ (t : Bool). with_more k (if t then Ok (suc wanted) else Err X76_LOCATOR_OR_FIELD)) (eq-eqb (suc moved) (suc wanted) (ap suc same))
    ∙ ap (λ (n : ℕ). Ok n) (omega arith)
    ∙ sym (ap (λ (t : Bool). with_more (k + 1) (if t then Ok wanted else Err X76_LOCATOR_OR_FIELD)) (eq-eqb moved wanted same)))
    (λ (other : moved ≢ wanted).
    ap (λ (t : Bool). with_more k (if t then Ok (suc wanted) else Err X76_LOCATOR_OR_FIELD)) (ne_eqb (suc moved) (suc wanted) (λ e. other (omega arith)))
    ∙ sym (ap (λ (t : Bool). with_more (k + 1) (if t then Ok wanted else Err X76_LOCATOR_OR_FIELD)) (ne_eqb moved wanted other)))
    (cases_eq moved wanted)

pub answer_next : (of : List ℕ) (len place k : ℕ) (places : List ℕ) → place ≤ element_count len of
    → with_more k (move_answer of len (place ∷ places)) ≡ with_more (k + 1) (move_answer of len places)
answer_next of len place k places within =
    ap (λ (l : List ℕ). with_more k (answer_of (length l) (suc (length places)))) (within_next of len place places within)
    ∙ answer_one_more k (length (moved_places of len places)) (length places)

pub answer_past : (of : List ℕ) (len place k : ℕ) (places : List ℕ) → element_count len of < place → with_more k (move_answer of len (place ∷ places)) ≡ Err X76_LOCATOR_OR_FIELD
answer_past of len place k places past =
    ap (λ (l : List ℕ). with_more k (answer_of (length l) (suc (length places)))) (past_next of len place places past)
    ∙ ap (λ (t : Bool). with_more k (if t then Ok (suc (length places)) else Err X76_LOCATOR_OR_FIELD)) (ne_eqb 0 (suc (length places)) (λ e. omega arith))

pub answer_none : (of : List ℕ) (len k : ℕ) → with_more k (move_answer of len []) ≡ Ok k
answer_none of len k = ap (λ (n : ℕ). Ok n) (omega arith)

pub from_first : (answer : Result ℕ ℕ) → with_more 0 answer ≡ answer
from_first (Ok n) = ap (λ (m : ℕ). Ok m) (omega arith)
from_first (Err code) = refl

-- an element has room where it is one of the whole ones
pub room_for : (k n w : ℕ) → 0 < w → k < n / w → k * w + w ≤ n
room_for k n w some low = let most : w * suc k ≤ w * (n / w) = mul-le-mul_left w low in omega arith

length-padded : (n : ℕ) (xs : List ℕ) → length (padded n xs) ≡ n
length-padded n xs =
    let sum = length-append {A = ℕ} (take n xs) (replicate {A = ℕ} (n - length xs) byte.blank) in
    let front = length-take n xs in
    let blank = length-replicate {A = ℕ} (n - length xs) byte.blank in
    omega arith

-- an element assigned leads on to the others
pub assigned : (of : List ℕ) (len place : ℕ) (places : List ℕ) (to_len k : ℕ) (to after : List ℕ) → place ≤ element_count len of → k * to_len + to_len ≤ length to
    → after ≡ take (k * to_len) to ++ (padded to_len (element_at len of place) ++ drop (k * to_len + to_len) to)
    → take ((k + 1) * to_len) after ++ after_move of len places to_len (drop ((k + 1) * to_len) after)
    ≡ take (k * to_len) to ++ after_move of len (place ∷ places) to_len (drop (k * to_len) to)
assigned of len place places to_len k to after within room is =
    let front : List ℕ = take (k * to_len) to in
    let element : List ℕ = padded to_len (element_at len of place) in
    let rest : List ℕ = drop (k * to_len + to_len) to in
    let at : length front ≡ k * to_len = length-take-le (k * to_len) to (omega arith) in
    let wide : length element ≡ to_len = length-padded to_len (element_at len of place) in
    let both : length (front ++ element) ≡ (k + 1) * to_len = length-append front element ∙ omega arith in
    let split : after ≡ (front ++ element) ++ rest = is ∙ sym (append_assoc front element rest) in
    ap (λ (l : List ℕ). take ((k + 1) * to_len) l ++ after_move of len places to_len (drop ((k + 1) * to_len) l)) split
    ∙ (λ i. take_at (front ++ element) rest ((k + 1) * to_len) both i ++ after_move of len places to_len (drop_at (front ++ element) rest ((k + 1) * to_len) both i))
    ∙ append_assoc front element (after_move of len places to_len rest)
    ∙ ap (λ (l : List ℕ). front ++ (element ++ after_move of len places to_len l)) (sym (drop-drop to_len (k * to_len) to))
    ∙ ap (λ (l : List ℕ). front ++ l) (sym (after_next of len place places to_len (drop (k * to_len) to) within))

-- what stays where nothing more is moved
pub ends_here : (of : List ℕ) (len to_len m : ℕ) (to left target : List ℕ) → after_move of len left to_len (drop m to) ≡ drop m to
    → take m to ++ after_move of len left to_len (drop m to) ≡ target → to ≡ target
ends_here of len to_len m to left target stays whole = sym (take-append-drop m to) ∙ ap (λ (l : List ℕ). take m to ++ l) (sym stays) ∙ whole
