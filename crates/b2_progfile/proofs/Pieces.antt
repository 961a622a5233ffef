-- Bytes in sectors.
use Rattle.std.proofs.Common.{◌≡◌, ℕ, zero, suc, ◌+◌, ◌-◌, ◌*◌, ◌<◌, ◌≤◌, List, [], ◌∷◌, ◌++◌, length, take, drop, map, replicate, refl, sym, ap, ap₂, ◌∙◌, arith, append_assoc, append-nil, length-append, length-drop}
use Rattle.std.specs.List.{range_with_len}
use Rattle.std.proofs.lemmas.List.{length-take, length-take-le, length-replicate, take_all, take-append-drop}
use Rattle.std.proofs.lemmas.List.FromFn.{length-map-range_with_len}
use Rattle.b2_text.specs.Program.{Lines}
use Rattle.b2_progfile.specs.Programs.{Ascending, AllPieces, SpellsProgram, all_line_bytes, held_bytes, program_bytes}
use Rattle.b2_progfile.specs.Saving.{piece_at, pieces_count, text_sectors, program_sectors}
use Rattle.b2_platter.proofs.SectorRuns.{AllLong}

pub pieces-next : (bytes : List ℕ) (k count : ℕ) → k < count
    → map (piece_at bytes) (range_with_len k (count - k)) ≡ piece_at bytes k ∷ map (piece_at bytes) (range_with_len (k + 1) (count - (k + 1)))
pieces-next bytes k count h =
    let n : count - k ≡ suc (count - (k + 1)) = omega (arith, h) in
    ap (λ (m : ℕ). map (piece_at bytes) (range_with_len k m)) n

pub pieces-length : (bytes : List ℕ) → length (text_sectors bytes) ≡ pieces_count bytes
pieces-length bytes = length-map-range_with_len (piece_at bytes) 0 (pieces_count bytes)

pub piece-long : (bytes : List ℕ) (k : ℕ) → length (piece_at bytes k) ≡ 256
piece-long bytes k =
    let part = take 255 (drop (255 * k) bytes) in
    let n = length-take 255 (drop (255 * k) bytes) in
    let all = length-append part (replicate (255 - length part) 0) in
    let zeros = length-replicate {A = ℕ} (255 - length part) 0 in
    omega (arith, n, all, zeros)

long-from : (bytes : List ℕ) (k n : ℕ) → AllLong (map (piece_at bytes) (range_with_len k n))
long-from bytes k zero = tt
long-from bytes k (suc n) = (piece-long bytes k, long-from bytes (k + 1) n)

pub pieces-long : (bytes : List ℕ) → AllLong (text_sectors bytes)
pieces-long bytes = long-from bytes 0 (pieces_count bytes)

marked-from : (bytes : List ℕ) (k n : ℕ) → AllPieces (map (piece_at bytes) (range_with_len k n))
marked-from bytes k zero = tt
marked-from bytes k (suc n) = (refl, marked-from bytes (k + 1) n)

drop-none : (xs : List ℕ) → drop 0 xs ≡ xs
drop-none [] = refl
drop-none (x ∷ xs) = refl

drop-nil : (n : ℕ) → drop {A = ℕ} n [] ≡ []
drop-nil zero = refl
drop-nil (suc n) = refl

drop-more : (n m : ℕ) (xs : List ℕ) → drop m (drop n xs) ≡ drop (n + m) xs
drop-more zero m xs = let same : m ≡ 0 + m = omega arith in ap (drop m) (drop-none xs) ∙ ap (λ (k : ℕ). drop k xs) same
drop-more (suc n) m [] = ap (drop m) (drop-nil (suc n)) ∙ (drop-nil m ∙ sym (drop-nil (suc n + m)))
drop-more (suc n) m (x ∷ xs) = let next : suc (n + m) ≡ suc n + m = omega arith in drop-more n m xs ∙ ap (λ (k : ℕ). drop k (x ∷ xs)) next

-- what the sectors from the k-th on hold
held : (bytes : List ℕ) (k n : ℕ) → length bytes ≤ 255 * (k + suc n) → 255 * (k + suc n) < length bytes + 255
    → held_bytes (map (piece_at bytes) (range_with_len k (suc n))) ≡ drop (255 * k) bytes ++ replicate (255 * (k + suc n) - length bytes) 0
held bytes k zero low high =
    let d = length-drop (255 * k) bytes in
    let all : take 255 (drop (255 * k) bytes) ≡ drop (255 * k) bytes = take_all 255 (drop (255 * k) bytes) (omega (arith, d, low)) in
    let free : 255 - length (drop (255 * k) bytes) ≡ 255 * (k + 1) - length bytes = omega (arith, d, low, high) in
    append-nil _ ∙ (ap (λ (t : List ℕ). t ++ replicate (255 - length t) 0) all ∙ ap (λ (z : ℕ). drop (255 * k) bytes ++ replicate z 0) free)
held bytes k (suc n) low high =
    let d = length-drop (255 * k) bytes in
    let full : length (take 255 (drop (255 * k) bytes)) ≡ 255 = length-take-le 255 (drop (255 * k) bytes) (omega (arith, d, high)) in
    let none : 255 - length (take 255 (drop (255 * k) bytes)) ≡ 0 = omega (arith, full) in
    let place : k + 1 + suc n ≡ k + suc (suc n) = omega arith in
    let rest = held bytes (k + 1) n (omega (arith, low)) (omega (arith, high)) in
    let part = take 255 (drop (255 * k) bytes) in
    let zeros = replicate (255 * (k + suc (suc n)) - length bytes) 0 in
    let step : 255 * (k + 1) ≡ 255 * k + 255 = omega arith in
    let next : drop (255 * (k + 1)) bytes ≡ drop 255 (drop (255 * k) bytes) = ap (λ (m : ℕ). drop m bytes) step ∙ sym (drop-more (255 * k) 255 bytes) in
    ap₂ (λ (t u : List ℕ). t ++ u) (ap (λ (z : ℕ). part ++ replicate z 0) none ∙ append-nil part) (rest ∙ ap₂ (λ (t : List ℕ) (z : ℕ). t ++ replicate (255 * z - length bytes) 0) next place)
    ∙ (sym (append_assoc part (drop 255 (drop (255 * k) bytes)) zeros) ∙ ap (λ (t : List ℕ). t ++ zeros) (take-append-drop 255 (drop (255 * k) bytes)))

count-some : (bytes : List ℕ) → 1 ≤ length bytes → pieces_count bytes ≡ suc (pieces_count bytes - 1)
count-some bytes h = omega (arith, h)

pub pieces-hold : (bytes : List ℕ) → 1 ≤ length bytes → held_bytes (text_sectors bytes) ≡ bytes ++ replicate (255 * pieces_count bytes - length bytes) 0
pieces-hold bytes h =
    let n = count-some bytes h in
    let all : 0 + suc (pieces_count bytes - 1) ≡ pieces_count bytes = omega (arith, h) in
    ap (λ (m : ℕ). held_bytes (map (piece_at bytes) (range_with_len 0 m))) n
    ∙ (held bytes 0 (pieces_count bytes - 1) (omega (arith, h)) (omega (arith, h))
    ∙ ap₂ (λ (t : List ℕ) (m : ℕ). t ++ replicate (255 * m - length bytes) 0) (drop-none bytes) all)

pub program-some : (lines : Lines) → 2 ≤ length (program_bytes lines)
program-some lines = let all = length-append (all_line_bytes lines) (255 ∷ 255 ∷ []) in omega (arith, all)

-- the sectors of a program spell it
pub program-spelled : (lines : Lines) → Ascending 0 lines → SpellsProgram lines (program_sectors lines)
program-spelled lines h =
    let some = program-some lines in record {
      pieces = marked-from (program_bytes lines) 0 (pieces_count (program_bytes lines));
      text = record {
        ascending = h;
        zeros = 255 * pieces_count (program_bytes lines) - length (program_bytes lines);
        few = omega (arith, some);
        same = pieces-hold (program_bytes lines) (omega (arith, some));
      };
    }
