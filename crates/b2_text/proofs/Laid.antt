-- A line at its place in the index, with its units.
use Rattle.std.proofs.Common.{◌≡◌, ℕ, zero, suc, ◌+◌, ◌<◌, ◌≤◌, List, [], ◌∷◌, length, take, drop, get_or, refl, sym, ap, subst, ◌∙◌, arith}
use Rattle.std.proofs.lemmas.List.{get_or-map}
use Rattle.b2_atom.specs.Lines.{KeepsUnits, units_of}
use Rattle.b2_atom.specs.declared.spans.Span.{Span}
use Rattle.b2_text.specs.Program.{Lines, cost, size_of}
use Rattle.b2_text.specs.Blocks.{AreSpansOf, IsLaid, line_placed, lines_laid, no_place, places_of, units_in}
use Rattle.b2_text.specs.declared.block.LinePlace.{LinePlace}
use Rattle.b2_text.proofs.Blocks.{begins_at, count_laid, length_laid}
use Rattle.b2_text.proofs.Spans.{count_spans, spans_at}

-- how many units a place has
units_placed : (i p u : ℕ) (ls : Lines) (s : LinePlace) (l : ℕ × List ℕ) → i < length ls → (get_or (places_of p u ls) i s).units ≡ length (units_of (get_or ls i l).1)
units_placed i p u [] s l h = absurd (omega arith)
units_placed zero p u (k ∷ ks) s l h = refl
units_placed (suc i) p u (k ∷ ks) s l h = units_placed i (p + cost k.1) (u + length (units_of k.1)) ks s l (omega arith)

-- the line of a place
pub line_is : (block : List ℕ) (places : List LinePlace) (i : ℕ) (l : ℕ × List ℕ) → i < length places
    → get_or (lines_laid block places) i l ≡ line_placed block (get_or places i no_place)
line_is block places i l h = get_or-map (line_placed block) places i no_place l h

units_are : (block : List ℕ) (places : List LinePlace) (i : ℕ) → IsLaid block places → i < length places
    → (get_or places i no_place).units ≡ length (units_of (line_placed block (get_or places i no_place)).1)
units_are block places i laid h =
    let ls = lines_laid block places in
    let none : ℕ × List ℕ = (0, []) in
    let count = count_laid block places in
    ap (λ (ps : List LinePlace). (get_or ps i no_place).units) laid.places_are
    ∙ units_placed i 0 0 ls no_place none (omega (arith, count, h))
    ∙ ap (λ (l : ℕ × List ℕ). length (units_of l.1)) (line_is block places i none h)

-- the spans of its units
pub kept_at : (block : List ℕ) (places : List LinePlace) (units : List Span) (i : ℕ) → IsLaid block places → AreSpansOf (lines_laid block places) units → i < length places
    → KeepsUnits (line_placed block (get_or places i no_place)).1 (take (get_or places i no_place).units (drop (get_or places i no_place).first units))
kept_at block places units i laid all h =
    let ls = lines_laid block places in
    let s = get_or places i no_place in
    let none : ℕ × List ℕ = (0, []) in
    let count = count_laid block places in
    let begins = begins_at block places i laid h in
    let first : units_in (take i ls) ≡ s.first = omega (arith, begins.first) in
    let a = (line_placed block s).1 in
    let line = line_is block places i none h in
    let P : ℕ × List ℕ → Type 0 = λ l. KeepsUnits l.1 (take (length (units_of l.1)) (drop (units_in (take i ls)) units)) in
    let here : KeepsUnits a (take (length (units_of a)) (drop (units_in (take i ls)) units)) =
    subst P line (spans_at i ls units none all (omega (arith, count, h))) in
    let Q : ℕ → Type 0 = λ k. KeepsUnits a (take k (drop (units_in (take i ls)) units)) in
    let R : ℕ → Type 0 = λ k. KeepsUnits a (take s.units (drop k units)) in
    subst R first (subst Q (sym (units_are block places i laid h)) here)

-- which are all there
pub units_within : (block : List ℕ) (places : List LinePlace) (units : List Span) (i : ℕ) → IsLaid block places → AreSpansOf (lines_laid block places) units → i < length places
    → (get_or places i no_place).first + (get_or places i no_place).units ≤ length units
units_within block places units i laid all h =
    let ls = lines_laid block places in
    let s = get_or places i no_place in
    let none : ℕ × List ℕ = (0, []) in
    let count = count_laid block places in
    let begins = begins_at block places i laid h in
    let whole = count_spans ls units all in
    let k = units_are block places i laid h in
    let line = ap (λ (l : ℕ × List ℕ). length (units_of l.1)) (line_is block places i none h) in
    let sum = units_up_to i ls none (omega (arith, count, h)) in
    omega (arith, begins.first, whole, k, line, sum) where
      units_up_to : (i : ℕ) (ls : Lines) (d : ℕ × List ℕ) → i < length ls → units_in (take i ls) + length (units_of (get_or ls i d).1) ≤ units_in ls
      units_up_to i [] d h = absurd (omega arith)
      units_up_to zero (l ∷ ls) d h = omega arith
      units_up_to (suc i) (l ∷ ls) d h = let rest = units_up_to i ls d (omega arith) in omega (arith, rest)

-- and so are its bytes
pub bytes_within : (block : List ℕ) (places : List LinePlace) (i : ℕ) → IsLaid block places → i < length places
    → (get_or places i no_place).start + 5 + (get_or places i no_place).width ≤ length block
bytes_within block places i laid h =
    let ls = lines_laid block places in
    let none : ℕ × List ℕ = (0, []) in
    let count = count_laid block places in
    let begins = begins_at block places i laid h in
    let whole = length_laid block places laid in
    let width =
    ap (λ (ps : List LinePlace). (get_or ps i no_place).width) laid.places_are ∙ width_placed i 0 0 ls no_place none (omega (arith, count, h)) in
    let sum = bytes_up_to i ls none (omega (arith, count, h)) in
    omega (arith, begins.start, whole, width, sum) where
      width_placed : (i p u : ℕ) (ls : Lines) (s : LinePlace) (l : ℕ × List ℕ) → i < length ls → (get_or (places_of p u ls) i s).width ≡ length (get_or ls i l).1
      width_placed i p u [] s l h = absurd (omega arith)
      width_placed zero p u (k ∷ ks) s l h = refl
      width_placed (suc i) p u (k ∷ ks) s l h = width_placed i (p + cost k.1) (u + length (units_of k.1)) ks s l (omega arith)

      bytes_up_to : (i : ℕ) (ls : Lines) (d : ℕ × List ℕ) → i < length ls → size_of (take i ls) + cost (get_or ls i d).1 ≤ size_of ls
      bytes_up_to i [] d h = absurd (omega arith)
      bytes_up_to zero (l ∷ ls) d h = omega arith
      bytes_up_to (suc i) (l ∷ ls) d h = let rest = bytes_up_to i ls d (omega arith) in omega (arith, rest)
