-- Lines in a block of bytes: what is spelled is read back, and the block is spelled again after lines are put in or taken out.
use Rattle.std.proofs.Common.{◌≡◌, ℕ, zero, suc, ◌+◌, ◌-◌, ◌<◌, ◌≤◌, List, [], ◌∷◌, ◌++◌, length, map, min, take, drop, get_or, refl, sym, ap, subst, ◌∙◌, arith, append_assoc, append-nil, length-append, length-drop}
use Rattle.std.specs.List.{remove_range, splice}
use Rattle.std.proofs.lemmas.List.{drop_at, take_at, take-append-drop, take_all, length-map, length-take-le}
use Rattle.b2_atom.specs.Lines.{after_unit, next_position, next_text, units_after, units_from, units_of}
use Rattle.b2_atom.specs.declared.forms.Position.{Position}
use Rattle.b2_atom.specs.declared.forms.Position.TheVariants.{First}
use Rattle.b2_text.specs.Program.{Lines, cost, size_of}
use Rattle.b2_text.specs.Blocks.{IsLaid, heading, spelled, place_of, places_of, line_placed, lines_laid, units_in, raised, lowered, no_place}
use Rattle.b2_text.specs.declared.block.LinePlace.{LinePlace}

abbrev Bytes : Type 0
Bytes = List ℕ

length_heading : (n : ℕ) (a : Bytes) → length (heading n a) ≡ 5
length_heading n a = refl

pub length_spelled : (ls : Lines) → length (spelled ls) ≡ size_of ls
length_spelled [] = refl
length_spelled (l ∷ ls) =
    let whole = length-append (heading l.0 l.1) (l.1 ++ spelled ls) in
    let rest = length-append l.1 (spelled ls) in
    let front = length_heading l.0 l.1 in
    omega (arith, whole, rest, front, length_spelled ls)

pub spelled_append : (ls ms : Lines) → spelled (ls ++ ms) ≡ spelled ls ++ spelled ms
spelled_append [] ms = refl
spelled_append (l ∷ ls) ms =
    ap (λ (t : Bytes). heading l.0 l.1 ++ (l.1 ++ t)) (spelled_append ls ms)
    ∙ ap (λ (t : Bytes). heading l.0 l.1 ++ t) (sym (append_assoc l.1 (spelled ls) (spelled ms)))
    ∙ sym (append_assoc (heading l.0 l.1) (l.1 ++ spelled ls) (spelled ms))

pub places_append : (p u : ℕ) (ls ms : Lines) → places_of p u (ls ++ ms) ≡ places_of p u ls ++ places_of (p + size_of ls) (u + units_in ls) ms
places_append p u [] ms =
    let same : p ≡ p + 0 = omega arith in
    let units : u ≡ u + 0 = omega arith in
    (λ i. places_of (same i) (units i) ms)
places_append p u (l ∷ ls) ms =
    let k = length (units_of l.1) in
    let same : p + cost l.1 + size_of ls ≡ p + (cost l.1 + size_of ls) = omega arith in
    let units : u + k + units_in ls ≡ u + (k + units_in ls) = omega arith in
    ap (λ (ps : List LinePlace). place_of p u l.0 l.1 ∷ ps)
    (places_append (p + cost l.1) (u + k) ls ms ∙ (λ i. places_of (p + cost l.1) (u + k) ls ++ places_of (same i) (units i) ms))

pub length_places : (p u : ℕ) (ls : Lines) → length (places_of p u ls) ≡ length ls
length_places p u [] = refl
length_places p u (l ∷ ls) = let rest = length_places (p + cost l.1) (u + length (units_of l.1)) ls in omega (arith, rest)

-- the atoms at a place, where the line is spelled there
piece_at : (pre h x t : Bytes) (p : ℕ) → length pre ≡ p → length h ≡ 5 → take (length x) (drop (p + 5) (pre ++ (h ++ (x ++ t)))) ≡ x
piece_at pre h x t p long five =
    let both = length-append pre h in
    let front : length (pre ++ h) ≡ p + 5 = omega (arith, both) in
    ap (λ (b : Bytes). take (length x) (drop (p + 5) b)) (sym (append_assoc pre h (x ++ t)))
    ∙ ap (take (length x)) (drop_at (pre ++ h) (x ++ t) (p + 5) front)
    ∙ take_at x t (length x) refl

-- what is spelled is read back
pub read_back : (pre post : Bytes) (p u : ℕ) (ls : Lines) → length pre ≡ p → lines_laid (pre ++ (spelled ls ++ post)) (places_of p u ls) ≡ ls
read_back pre post p u [] long = refl
read_back pre post p u (l ∷ ls) long =
    let k = length (units_of l.1) in
    let h = heading l.0 l.1 in
    let regrouped : (h ++ (l.1 ++ spelled ls)) ++ post ≡ h ++ (l.1 ++ (spelled ls ++ post)) =
    append_assoc h (l.1 ++ spelled ls) post ∙ ap (λ (t : Bytes). h ++ t) (append_assoc l.1 (spelled ls) post) in
    let whole : pre ++ ((h ++ (l.1 ++ spelled ls)) ++ post) ≡ (pre ++ (h ++ l.1)) ++ (spelled ls ++ post) =
    ap (λ (t : Bytes). pre ++ t) (regrouped ∙ sym (append_assoc h l.1 (spelled ls ++ post))) ∙ sym (append_assoc pre (h ++ l.1) (spelled ls ++ post)) in
    let here : take (length l.1) (drop (p + 5) (pre ++ ((h ++ (l.1 ++ spelled ls)) ++ post))) ≡ l.1 =
    ap (λ (t : Bytes). take (length l.1) (drop (p + 5) (pre ++ t))) regrouped ∙ piece_at pre h l.1 (spelled ls ++ post) p long (length_heading l.0 l.1) in
    let one = length-append pre (h ++ l.1) in
    let two = length-append h l.1 in
    let three = length_heading l.0 l.1 in
    let next : length (pre ++ (h ++ l.1)) ≡ p + cost l.1 = omega (arith, one, two, three, long) in
    let rest : lines_laid (pre ++ ((h ++ (l.1 ++ spelled ls)) ++ post)) (places_of (p + cost l.1) (u + k) ls) ≡ ls =
    ap (λ (b : Bytes). lines_laid b (places_of (p + cost l.1) (u + k) ls)) whole ∙ read_back (pre ++ (h ++ l.1)) post (p + cost l.1) (u + k) ls next in
    (λ i. (l.0, here i) ∷ rest i)

pub lines_back : (ls : Lines) → lines_laid (spelled ls) (places_of 0 0 ls) ≡ ls
lines_back ls = ap (λ (b : Bytes). lines_laid b (places_of 0 0 ls)) (sym (append-nil (spelled ls))) ∙ read_back [] [] 0 0 ls refl

-- a block that spells lines, with their index
pub lines_are : (block : Bytes) (places : List LinePlace) (ls : Lines) → block ≡ spelled ls → places ≡ places_of 0 0 ls → lines_laid block places ≡ ls
lines_are block places ls is are = (λ i. lines_laid (is i) (are i)) ∙ lines_back ls

pub laid_are : (block : Bytes) (places : List LinePlace) (ls : Lines) → block ≡ spelled ls → places ≡ places_of 0 0 ls → IsLaid block places
laid_are block places ls is are =
    let same = sym (lines_are block places ls is are) in
    record { spelled_is = is ∙ ap spelled same; places_are = are ∙ ap (places_of 0 0) same }

-- the first lines, and those after them
pub take_places : (i p u : ℕ) (ls : Lines) → take i (places_of p u ls) ≡ places_of p u (take i ls)
take_places zero p u ls = refl
take_places (suc i) p u [] = refl
take_places (suc i) p u (l ∷ ls) =
    ap (λ (ps : List LinePlace). place_of p u l.0 l.1 ∷ ps) (take_places i (p + cost l.1) (u + length (units_of l.1)) ls)

pub drop_places : (i p u : ℕ) (ls : Lines) → drop i (places_of p u ls) ≡ places_of (p + size_of (take i ls)) (u + units_in (take i ls)) (drop i ls)
drop_places zero p u ls =
    let same : p ≡ p + 0 = omega arith in
    let units : u ≡ u + 0 = omega arith in
    (λ i. places_of (same i) (units i) ls)
drop_places (suc i) p u [] = refl
drop_places (suc i) p u (l ∷ ls) =
    let k = length (units_of l.1) in
    let same : p + cost l.1 + size_of (take i ls) ≡ p + (cost l.1 + size_of (take i ls)) = omega arith in
    let units : u + k + units_in (take i ls) ≡ u + (k + units_in (take i ls)) = omega arith in
    drop_places i (p + cost l.1) (u + k) ls ∙ (λ x. places_of (same x) (units x) (drop i ls))

-- where a line begins, and its units
pub record Begins (i p u : ℕ) (ls : Lines) (s : LinePlace) : Type 0 where
  pub start : s.start ≡ p + size_of (take i ls)
  pub first : s.first ≡ u + units_in (take i ls)

pub start_at : (i p u : ℕ) (ls : Lines) (d : LinePlace) → i < length ls → Begins i p u ls (get_or (places_of p u ls) i d)
start_at i p u [] d h = absurd (omega arith)
start_at zero p u (l ∷ ls) d h = record { start = omega arith; first = omega arith }
start_at (suc i) p u (l ∷ ls) d h =
    let rest = start_at i (p + cost l.1) (u + length (units_of l.1)) ls d (omega arith) in
    record { start = omega (arith, rest.start); first = omega (arith, rest.first) }

pub size_append : (ls ms : Lines) → size_of (ls ++ ms) ≡ size_of ls + size_of ms
size_append [] ms = omega arith
size_append (l ∷ ls) ms = let rest = size_append ls ms in omega (arith, rest)

pub size_parts : (i : ℕ) (ls : Lines) → size_of (take i ls) + size_of (drop i ls) ≡ size_of ls
size_parts i ls = sym (size_append (take i ls) (drop i ls)) ∙ ap size_of (take-append-drop i ls)

pub take_spelled : (i : ℕ) (ls : Lines) → take (size_of (take i ls)) (spelled ls) ≡ spelled (take i ls)
take_spelled i ls =
    ap (λ (ms : Lines). take (size_of (take i ls)) (spelled ms)) (sym (take-append-drop i ls))
    ∙ ap (take (size_of (take i ls))) (spelled_append (take i ls) (drop i ls))
    ∙ take_at (spelled (take i ls)) (spelled (drop i ls)) (size_of (take i ls)) (length_spelled (take i ls))

pub drop_spelled : (i : ℕ) (ls : Lines) → drop (size_of (take i ls)) (spelled ls) ≡ spelled (drop i ls)
drop_spelled i ls =
    ap (λ (ms : Lines). drop (size_of (take i ls)) (spelled ms)) (sym (take-append-drop i ls))
    ∙ ap (drop (size_of (take i ls))) (spelled_append (take i ls) (drop i ls))
    ∙ drop_at (spelled (take i ls)) (spelled (drop i ls)) (size_of (take i ls)) (length_spelled (take i ls))

pub units_append : (ls ms : Lines) → units_in (ls ++ ms) ≡ units_in ls + units_in ms
units_append [] ms = omega arith
units_append (l ∷ ls) ms = let rest = units_append ls ms in omega (arith, rest)

pub units_parts : (i : ℕ) (ls : Lines) → units_in (take i ls) + units_in (drop i ls) ≡ units_in ls
units_parts i ls = sym (units_append (take i ls) (drop i ls)) ∙ ap units_in (take-append-drop i ls)

-- places that move
pub raised_places : (by more p u : ℕ) (ls : Lines) → p + by + size_of ls ≤ 65535 → u + more + units_in ls ≤ 65535 → map (raised by more) (places_of p u ls) ≡ places_of (p + by) (u + more) ls
raised_places by more p u [] h g = refl
raised_places by more p u (l ∷ ls) h g =
    let k = length (units_of l.1) in
    let here : min (p + by) 65535 ≡ p + by = omega arith in
    let there : min (u + more) 65535 ≡ u + more = omega arith in
    let same : p + cost l.1 + by ≡ p + by + cost l.1 = omega arith in
    let units : u + k + more ≡ u + more + k = omega arith in
    let rest : map (raised by more) (places_of (p + cost l.1) (u + k) ls) ≡ places_of (p + by + cost l.1) (u + more + k) ls =
    raised_places by more (p + cost l.1) (u + k) ls (omega arith) (omega arith) ∙ (λ x. places_of (same x) (units x) ls) in
    (λ i. place_of (here i) (there i) l.0 l.1 ∷ rest i)

pub lowered_places : (by less p u : ℕ) (ls : Lines) → map (lowered by less) (places_of (p + by) (u + less) ls) ≡ places_of p u ls
lowered_places by less p u [] = refl
lowered_places by less p u (l ∷ ls) =
    let k = length (units_of l.1) in
    let here : p + by - by ≡ p = omega arith in
    let there : u + less - less ≡ u = omega arith in
    let same : p + by + cost l.1 ≡ p + cost l.1 + by = omega arith in
    let units : u + less + k ≡ u + k + less = omega arith in
    let rest : map (lowered by less) (places_of (p + by + cost l.1) (u + less + k) ls) ≡ places_of (p + cost l.1) (u + k) ls =
    (λ x. map (lowered by less) (places_of (same x) (units x) ls)) ∙ lowered_places by less (p + cost l.1) (u + k) ls in
    (λ i. place_of (here i) (there i) l.0 l.1 ∷ rest i)

-- where a line of a block begins, and its units
pub begins_at : (block : Bytes) (places : List LinePlace) (i : ℕ) → IsLaid block places → i < length places → Begins i 0 0 (lines_laid block places) (get_or places i no_place)
begins_at block places i laid h =
    let ls = lines_laid block places in
    let count = ap (λ (ps : List LinePlace). length ps) laid.places_are in
    let same = length_places 0 0 ls in
    subst (λ (ps : List LinePlace). Begins i 0 0 ls (get_or ps i no_place)) (sym laid.places_are) (start_at i 0 0 ls no_place (omega (arith, count, same)))

pub length_laid : (block : Bytes) (places : List LinePlace) → IsLaid block places → length block ≡ size_of (lines_laid block places)
length_laid block places laid = ap (λ (b : Bytes). length b) laid.spelled_is ∙ length_spelled (lines_laid block places)

pub count_laid : (block : Bytes) (places : List LinePlace) → length (lines_laid block places) ≡ length places
count_laid block places = length-map places (line_placed block)

pub end_of : (block : Bytes) (places : List LinePlace) (i : ℕ) → IsLaid block places → length places ≤ i → length block ≡ size_of (take i (lines_laid block places))
end_of block places i laid h =
    let count = count_laid block places in
    length_laid block places laid ∙ ap size_of (sym (take_all i (lines_laid block places) (omega (arith, count))))

-- a line is put in
put_spelled : (i n : ℕ) (a : Bytes) (ls : Lines)
    → splice (splice (spelled ls) (size_of (take i ls)) (size_of (take i ls)) a) (size_of (take i ls)) (size_of (take i ls)) (heading n a) ≡ spelled (take i ls ++ ((n, a) ∷ drop i ls))
put_spelled i n a ls =
    let p = size_of (take i ls) in
    let front : take p (spelled ls) ≡ spelled (take i ls) = take_spelled i ls in
    let back : drop p (spelled ls) ≡ spelled (drop i ls) = drop_spelled i ls in
    let first : take p (spelled ls) ++ (a ++ drop p (spelled ls)) ≡ spelled (take i ls) ++ (a ++ spelled (drop i ls)) = (λ x. front x ++ (a ++ back x)) in
    let long = length_spelled (take i ls) in
    (λ x. take p (first x) ++ (heading n a ++ drop p (first x)))
    ∙ (λ x. take_at (spelled (take i ls)) (a ++ spelled (drop i ls)) p long x ++ (heading n a ++ drop_at (spelled (take i ls)) (a ++ spelled (drop i ls)) p long x))
    ∙ sym (spelled_append (take i ls) ((n, a) ∷ drop i ls))

put_places : (i n : ℕ) (a : Bytes) (ls : Lines) → size_of ls + cost a ≤ 65535 → units_in ls + length (units_of a) ≤ 65535
    → take i (places_of 0 0 ls) ++ (place_of (size_of (take i ls)) (units_in (take i ls)) n a ∷ map (raised (cost a) (length (units_of a))) (drop i (places_of 0 0 ls)))
    ≡ places_of 0 0 (take i ls ++ ((n, a) ∷ drop i ls))
put_places i n a ls room few =
    let p = size_of (take i ls) in
    let u = units_in (take i ls) in
    let k = length (units_of a) in
    let parts = size_parts i ls in
    let units = units_parts i ls in
    let same : 0 + p ≡ p = omega arith in
    let from : 0 + u ≡ u = omega arith in
    let back : map (raised (cost a) k) (drop i (places_of 0 0 ls)) ≡ places_of (p + cost a) (u + k) (drop i ls) =
    ap (map (raised (cost a) k)) (drop_places i 0 0 ls ∙ (λ x. places_of (same x) (from x) (drop i ls)))
    ∙ raised_places (cost a) k p u (drop i ls) (omega (arith, parts)) (omega (arith, units)) in
    (λ x. take_places i 0 0 ls x ++ (place_of p u n a ∷ back x))
    ∙ (λ x. places_of 0 0 (take i ls) ++ (place_of (sym same x) (sym from x) n a ∷ places_of (sym same x + cost a) (sym from x + k) (drop i ls)))
    ∙ sym (places_append 0 0 (take i ls) ((n, a) ∷ drop i ls))

-- what a block and its index are after a line was put in, in the words of the code
pub record Put (i n : ℕ) (a : Bytes) (block new : Bytes) (places index : List LinePlace) : Type 0 where
  pub laid : IsLaid new index
  pub lines : lines_laid new index ≡ take i (lines_laid block places) ++ ((n, a) ∷ drop i (lines_laid block places))

pub put_one : (i n p u : ℕ) (a : Bytes) (block new : Bytes) (places index : List LinePlace) → IsLaid block places
    → p ≡ size_of (take i (lines_laid block places)) → u ≡ units_in (take i (lines_laid block places))
    → length block + cost a ≤ 65535 → units_in (lines_laid block places) + length (units_of a) ≤ 65535 → new ≡ splice (splice block p p a) p p (heading n a)
    → index ≡ take i places ++ (place_of p u n a ∷ map (raised (cost a) (length (units_of a))) (drop i places))
    → Put i n a block new places index
put_one i n p u a block new places index laid at units room few is are =
    let ls = lines_laid block places in
    let whole = length_laid block places laid in
    let bytes : new ≡ spelled (take i ls ++ ((n, a) ∷ drop i ls)) =
    is ∙ (λ x. splice (splice (laid.spelled_is x) (at x) (at x) a) (at x) (at x) (heading n a)) ∙ put_spelled i n a ls in
    let indexed : index ≡ places_of 0 0 (take i ls ++ ((n, a) ∷ drop i ls)) =
    are
    ∙ (λ x. take i (laid.places_are x) ++ (place_of (at x) (units x) n a ∷ map (raised (cost a) (length (units_of a))) (drop i (laid.places_are x))))
    ∙ put_places i n a ls (omega (arith, whole)) few in
    record { laid = laid_are new index _ bytes indexed; lines = lines_are new index _ bytes indexed }

-- the same by what the code has at hand
pub with_heading : (n p : ℕ) (a h block new : Bytes) → h ≡ heading n a → new ≡ splice (splice block p p a) p p h → new ≡ splice (splice block p p a) p p (heading n a)
with_heading n p a h block new same is = is ∙ ap (λ (t : Bytes). splice (splice block p p a) p p t) same

pub with_units : (i n p u k : ℕ) (a : Bytes) (places index : List LinePlace) → k ≡ length (units_of a)
    → index ≡ take i places ++ (record { number = n; start = p; first = u; width = length a; units = k } ∷ map (raised (cost a) k) (drop i places))
    → index ≡ take i places ++ (place_of p u n a ∷ map (raised (cost a) (length (units_of a))) (drop i places))
with_units i n p u k a places index same is =
    is
    ∙ ap (λ (m : ℕ). take i places ++ (record { number = n; start = p; first = u; width = length a; units = m } ∷ map (raised (cost a) m) (drop i places))) same

-- and lines taken out
cut_spelled : (i j : ℕ) (ls : Lines) → remove_range (spelled ls) (size_of (take i ls)) (size_of (take j ls)) ≡ spelled (remove_range ls i j)
cut_spelled i j ls =
    (λ x. take_spelled i ls x ++ drop_spelled j ls x) ∙ sym (spelled_append (take i ls) (drop j ls))

take_less : (i j : ℕ) (ls : Lines) → i ≤ j → (size_of (take i ls) ≤ size_of (take j ls)) × (units_in (take i ls) ≤ units_in (take j ls))
take_less zero j ls h = (omega arith, omega arith)
take_less (suc i) zero ls h = absurd (omega arith)
take_less (suc i) (suc j) [] h = (omega arith, omega arith)
take_less (suc i) (suc j) (l ∷ ls) h = let rest = take_less i j ls (omega arith) in (omega (arith, rest.0), omega (arith, rest.1))

cut_places : (i j : ℕ) (ls : Lines) → i ≤ j
    → take i (places_of 0 0 ls) ++ map (lowered (size_of (take j ls) - size_of (take i ls)) (units_in (take j ls) - units_in (take i ls))) (drop j (places_of 0 0 ls))
    ≡ places_of 0 0 (remove_range ls i j)
cut_places i j ls order =
    let p = size_of (take i ls) in
    let q = size_of (take j ls) in
    let u = units_in (take i ls) in
    let v = units_in (take j ls) in
    let rise = take_less i j ls order in
    let same : 0 + q ≡ 0 + p + (q - p) = omega (arith, rise.0) in
    let from : 0 + v ≡ 0 + u + (v - u) = omega (arith, rise.1) in
    let back : map (lowered (q - p) (v - u)) (drop j (places_of 0 0 ls)) ≡ places_of (0 + p) (0 + u) (drop j ls) =
    ap (map (lowered (q - p) (v - u))) (drop_places j 0 0 ls ∙ (λ x. places_of (same x) (from x) (drop j ls)))
    ∙ lowered_places (q - p) (v - u) (0 + p) (0 + u) (drop j ls) in
    (λ x. take_places i 0 0 ls x ++ back x)
    ∙ sym (places_append 0 0 (take i ls) (drop j ls))

pub sizes_rise : (i j p q : ℕ) (ls : Lines) → i ≤ j → p ≡ size_of (take i ls) → q ≡ size_of (take j ls) → p ≤ q
sizes_rise i j p q ls h at to = let less = take_less i j ls h in omega (arith, less.0, at, to)

pub units_rise : (i j u v : ℕ) (ls : Lines) → i ≤ j → u ≡ units_in (take i ls) → v ≡ units_in (take j ls) → u ≤ v
units_rise i j u v ls h at to = let less = take_less i j ls h in omega (arith, less.1, at, to)

pub record Cut (i j : ℕ) (block new : Bytes) (places index : List LinePlace) : Type 0 where
  pub laid : IsLaid new index
  pub lines : lines_laid new index ≡ remove_range (lines_laid block places) i j

pub cut_out : (i j p q u v : ℕ) (block new : Bytes) (places index : List LinePlace) → IsLaid block places → i ≤ j
    → p ≡ size_of (take i (lines_laid block places)) → q ≡ size_of (take j (lines_laid block places))
    → u ≡ units_in (take i (lines_laid block places)) → v ≡ units_in (take j (lines_laid block places))
    → new ≡ remove_range block p q → index ≡ take i places ++ map (lowered (q - p) (v - u)) (drop j places) → Cut i j block new places index
cut_out i j p q u v block new places index laid order at to units until is are =
    let ls = lines_laid block places in
    let bytes : new ≡ spelled (remove_range ls i j) =
    is ∙ (λ x. remove_range (laid.spelled_is x) (at x) (to x)) ∙ cut_spelled i j ls in
    let indexed : index ≡ places_of 0 0 (remove_range ls i j) =
    are
    ∙ (λ x. take i (laid.places_are x) ++ map (lowered (to x - at x) (until x - units x)) (drop j (laid.places_are x)))
    ∙ cut_places i j ls order in
    record { laid = laid_are new index _ bytes indexed; lines = lines_are new index _ bytes indexed }

pub within_block : (i p : ℕ) (block : Bytes) (places : List LinePlace) → IsLaid block places → p ≡ size_of (take i (lines_laid block places)) → p ≤ length block
within_block i p block places laid at =
    let whole = length_laid block places laid in
    let parts = size_parts i (lines_laid block places) in
    omega (arith, whole, parts, at)

pub within_units : (i u : ℕ) (ls : Lines) → u ≡ units_in (take i ls) → u ≤ units_in ls
within_units i u ls at = let parts = units_parts i ls in omega (arith, parts, at)

pub still_within : (p : ℕ) (a block new : Bytes) → p ≤ length block → new ≡ splice block p p a → p ≤ length new
still_within p a block new inside is =
    let front = length-take-le p block inside in
    let whole = length-append (take p block) (a ++ drop p block) in
    let same = ap (λ (b : Bytes). length b) is in
    omega (arith, front, whole, same)

-- the units of a line are no more than its bytes, nor are those of all
few_after : (n : ℕ) (rest : Bytes) → ((p : Position) (t : Bytes) → length (units_from n p t) ≤ n) → length (units_after (units_from n) rest) ≤ n
few_after n [] few = omega arith
few_after n (b ∷ bs) few = few (next_position (b ∷ bs)) (next_text (b ∷ bs))

few_from : (n : ℕ) (p : Position) (t : Bytes) → length (units_from n p t) ≤ n
few_from zero p t = omega arith
few_from (suc n) p t = let few = few_after n (after_unit p t) (few_from n) in omega (arith, few)

pub few_units : (t : Bytes) → length (units_of t) ≤ length t
unfolding units_of
few_units t = few_from (length t) First t

pub units_few : (ls : Lines) → units_in ls ≤ size_of ls
units_few [] = omega arith
units_few (l ∷ ls) = let rest = units_few ls in let here = few_units l.1 in omega (arith, rest, here)

pub units_end : (block : Bytes) (places : List LinePlace) (i : ℕ) → length places ≤ i → units_in (lines_laid block places) ≡ units_in (take i (lines_laid block places))
units_end block places i h =
    let count = count_laid block places in
    ap units_in (sym (take_all i (lines_laid block places) (omega (arith, count))))

-- as many units are kept as the lines have
pub units_put : {U : Type 0} (i n u : ℕ) (a : Bytes) (us spans new : List U) (ls ms : Lines) → length us ≡ units_in ls → u ≡ units_in (take i ls) → length spans ≡ length (units_of a)
    → new ≡ splice us u u spans → ms ≡ take i ls ++ ((n, a) ∷ drop i ls) → length new ≡ units_in ms
units_put {U = U} i n u a us spans new ls ms all at same is are =
    let inside = within_units i u ls at in
    let front = length-take-le u us (omega (arith, inside, all)) in
    let back = length-drop u us in
    let one = length-append (take u us) (spans ++ drop u us) in
    let two = length-append spans (drop u us) in
    let parts = units_parts i ls in
    let whole = ap units_in are in
    let sum = units_append (take i ls) ((n, a) ∷ drop i ls) in
    let long = ap (λ (vs : List U). length vs) is in
    omega (arith, front, back, one, two, parts, whole, sum, long, all, at, same)

pub units_cut : {U : Type 0} (i j u v : ℕ) (us new : List U) (ls ms : Lines) → length us ≡ units_in ls → u ≡ units_in (take i ls) → v ≡ units_in (take j ls) → i ≤ j
    → new ≡ remove_range us u v → ms ≡ remove_range ls i j → length new ≡ units_in ms
units_cut {U = U} i j u v us new ls ms all at to order is are =
    let rise = units_rise i j u v ls order at to in
    let inside = within_units i u ls at in
    let front = length-take-le u us (omega (arith, inside, all)) in
    let back = length-drop v us in
    let one = length-append (take u us) (drop v us) in
    let parts = units_parts j ls in
    let whole = ap units_in are in
    let sum = units_append (take i ls) (drop j ls) in
    let long = ap (λ (vs : List U). length vs) is in
    omega (arith, front, back, one, parts, whole, sum, long, all, at, to, rise)
