-- A line in place of another: the lines that are left when the old one is taken out, and what they take.
use Rattle.std.proofs.Common.{◌≡◌, ℕ, suc, ◌+◌, ◌<◌, ◌≤◌, List, ◌∷◌, ◌++◌, length, take, drop, sym, ap, ◌∙◌, arith, add-one, length-append, length-drop}
use Rattle.std.specs.List.{remove_range}
use Rattle.std.proofs.lemmas.List.{drop_at, take_at, length-take-le}
use Rattle.b2_text.specs.Program.{Lines, cost, size_of}
use Rattle.b2_text.specs.Blocks.{units_in}
use Rattle.b2_atom.specs.Lines.{units_of}
use Rattle.b2_text.proofs.Blocks.{size_append, size_parts, units_append, units_parts}

-- the lines without one, and the lines with another in its place
pub record Replaced (i n : ℕ) (a : List ℕ) (ls ms : Lines) : Type 0 where
  pub lines : take i ms ++ ((n, a) ∷ drop i ms) ≡ take i ls ++ ((n, a) ∷ drop (suc i) ls)
  pub size : size_of ms + cost a ≡ size_of (take i ls ++ ((n, a) ∷ drop (suc i) ls))
  pub units : units_in ms + length (units_of a) ≡ units_in (take i ls ++ ((n, a) ∷ drop (suc i) ls))
  pub count : length ms + 1 ≤ length ls
  pub within : i ≤ length ms

pub replaced : (i n : ℕ) (a : List ℕ) (ls ms : Lines) → i < length ls → ms ≡ remove_range ls i (i + 1) → Replaced i n a ls ms
replaced i n a ls ms inside is =
    let left : ms ≡ take i ls ++ drop (suc i) ls = is ∙ ap (λ (k : ℕ). take i ls ++ drop k ls) (add-one i) in
    let long : length (take i ls) ≡ i = length-take-le i ls (omega arith) in
    let front : take i ms ≡ take i ls = ap (take i) left ∙ take_at (take i ls) (drop (suc i) ls) i long in
    let back : drop i ms ≡ drop (suc i) ls = ap (drop i) left ∙ drop_at (take i ls) (drop (suc i) ls) i long in
    let size = ap size_of left ∙ size_append (take i ls) (drop (suc i) ls) in
    let whole = size_append (take i ls) ((n, a) ∷ drop (suc i) ls) in
    let units = ap units_in left ∙ units_append (take i ls) (drop (suc i) ls) in
    let all = units_append (take i ls) ((n, a) ∷ drop (suc i) ls) in
    let count = ap (λ (ns : Lines). length ns) left in
    let sum = length-append (take i ls) (drop (suc i) ls) in
    let rest = length-drop (suc i) ls in
    record {
      lines = (λ x. front x ++ ((n, a) ∷ back x));
      size = omega (arith, size, whole);
      units = omega (arith, units, all);
      count = omega (arith, count, sum, rest, long, inside);
      within = omega (arith, count, sum, long);
    }

-- a line beside the others
pub record Added (a : List ℕ) (ls ws : Lines) : Type 0 where
  pub size : size_of ls + cost a ≡ size_of ws
  pub units : units_in ls + length (units_of a) ≡ units_in ws
  pub count : length ls + 1 ≡ length ws

pub added : (i n : ℕ) (a : List ℕ) (ls ws : Lines) → i ≤ length ls → take i ls ++ ((n, a) ∷ drop i ls) ≡ ws → Added a ls ws
added i n a ls ws inside is =
    let size = sym (ap size_of is) ∙ size_append (take i ls) ((n, a) ∷ drop i ls) in
    let units = sym (ap units_in is) ∙ units_append (take i ls) ((n, a) ∷ drop i ls) in
    let parts = size_parts i ls in
    let all = units_parts i ls in
    let count = sym (ap (λ (ns : Lines). length ns) is) ∙ length-append (take i ls) ((n, a) ∷ drop i ls) in
    let front = length-take-le i ls inside in
    let back = length-drop i ls in
    record { size = omega (arith, size, parts); units = omega (arith, units, all); count = omega (arith, count, front, back, inside) }

pub same_count : (i n : ℕ) (a : List ℕ) (ls ws : Lines) → i < length ls → take i ls ++ ((n, a) ∷ drop (suc i) ls) ≡ ws → length ws ≡ length ls
same_count i n a ls ws inside is =
    let count = sym (ap (λ (ns : Lines). length ns) is) ∙ length-append (take i ls) ((n, a) ∷ drop (suc i) ls) in
    let front = length-take-le i ls (omega arith) in
    let back = length-drop (suc i) ls in
    omega (arith, count, front, back, inside)
