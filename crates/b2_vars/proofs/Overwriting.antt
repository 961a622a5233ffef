-- Bytes that are overwritten from a place on: as many as before, and the rest stays.
use Rattle.std.proofs.Common.{◌≡◌, ◌⊎◌, inl, inr, ℕ, ◌+◌, ◌-◌, ◌<◌, ◌≤◌, List, replicate, ◌++◌, take, drop, length, arith, length-append, length-drop, append_assoc, ap, ap₂, refl, sym, ◌∙◌}
use Rattle.std.proofs.lemmas.List.{length-replicate, length-take, length-take-le, take_all, take_at, drop_at, take-append-drop, take-append-le, drop-append-le, take-take, drop-drop}
use Rattle.std.proofs.lemmas.Bool.{cases_lt}
use Rattle.std.proofs.Math.Seq.{take-append_seam, drop-append_seam, drop-append-add, take-append-add}
use Rattle.b2_base.specs.Byte as byte
use Rattle.b2_alpha.specs.Values.{padded}
use Rattle.b2_vars.specs.Variables.{overwritten, bytes_from}

pub length-overwritten : (from : ℕ) (bytes old : List ℕ) → length (overwritten from bytes old) ≡ length old
length-overwritten from bytes old =
    let rest = bytes ++ drop (length bytes) (drop from old) in
    omega (arith, length-take (length old) (take from old ++ rest), length-append (take from old) rest, length-append bytes (drop (length bytes) (drop from old)), length-drop (length bytes) (drop from old), length-drop from old, length-take from old)

-- bytes that fit take the place of as many
pub overwritten-within : (from : ℕ) (bytes old : List ℕ) → from + length bytes ≤ length old
    → take from old ++ (bytes ++ drop (length bytes) (drop from old)) ≡ overwritten from bytes old
overwritten-within from bytes old fits =
    let rest = bytes ++ drop (length bytes) (drop from old) in
    sym (take_all (length old) (take from old ++ rest) (omega (arith, length-append (take from old) rest, length-append bytes (drop (length bytes) (drop from old)), length-drop (length bytes) (drop from old), length-drop from old, length-take from old)))

module _ (from : ℕ) (bytes old : List ℕ) (fits : from + length bytes ≤ length old) where
  front_length : length (take from old) ≡ from
  front_length = length-take-le from old (omega (arith, fits))

  pub part-overwritten : bytes_from from (length bytes) (overwritten from bytes old) ≡ bytes
  part-overwritten =
      ap (λ (n : ℕ). take n (drop from (overwritten from bytes old))) (omega arith)
      ∙ ap (λ (ys : List ℕ). take (length bytes) (drop from ys)) (sym (overwritten-within from bytes old fits))
      ∙ ap (λ (n : ℕ). take (length bytes) (drop n (take from old ++ (bytes ++ drop (length bytes) (drop from old))))) (sym front_length)
      ∙ ap (take (length bytes)) (drop-append_seam (take from old) (bytes ++ drop (length bytes) (drop from old)))
      ∙ take-append_seam bytes (drop (length bytes) (drop from old))

  pub take-overwritten : take from (overwritten from bytes old) ≡ take from old
  take-overwritten =
      ap (take from) (sym (overwritten-within from bytes old fits))
      ∙ ap (λ (n : ℕ). take n (take from old ++ (bytes ++ drop (length bytes) (drop from old)))) (sym front_length)
      ∙ take-append_seam (take from old) (bytes ++ drop (length bytes) (drop from old))

  pub drop-overwritten : drop (from + length bytes) (overwritten from bytes old) ≡ drop (from + length bytes) old
  drop-overwritten =
      ap (drop (from + length bytes)) (sym (overwritten-within from bytes old fits))
      ∙ ap (λ (n : ℕ). drop (n + length bytes) (take from old ++ (bytes ++ drop (length bytes) (drop from old)))) (sym front_length)
      ∙ drop-append-add (take from old) (bytes ++ drop (length bytes) (drop from old)) (length bytes)
      ∙ drop-append_seam bytes (drop (length bytes) (drop from old))
      ∙ drop-drop (length bytes) from old

-- bytes that take the place of as many between others
pub over-at : (at : ℕ) (a b w c : List ℕ) → length a ≡ at → length b ≡ length w → overwritten at w (a ++ (b ++ c)) ≡ a ++ (w ++ c)
over-at at a b w c long same =
    sym (overwritten-within at w (a ++ (b ++ c)) (omega (arith, length-append a (b ++ c), length-append b c, long, same)))
    ∙ ap₂ (λ (xs ys : List ℕ). xs ++ (w ++ ys)) (take_at a (b ++ c) at long) (ap (drop (length w)) (drop_at a (b ++ c) at long) ∙ drop_at b c (length w) same)

-- the bytes before a part, in it and after it
pub cut-at : (at n : ℕ) (old : List ℕ) → take at old ++ (take n (drop at old) ++ drop n (drop at old)) ≡ old
cut-at at n old = ap (λ (ys : List ℕ). take at old ++ ys) (take-append-drop n (drop at old)) ∙ take-append-drop at old

-- bytes and others after them
pub over-two : (at : ℕ) (a b old : List ℕ) → at + (length a + length b) ≤ length old → overwritten (at + length a) b (overwritten at a old) ≡ overwritten at (a ++ b) old
over-two at a b old fits =
    let x = take at old in
    let y = take (length a) (drop at old) in
    let z = take (length b) (drop (length a) (drop at old)) in
    let t = drop (length b) (drop (length a) (drop at old)) in
    let long_x : length x ≡ at = length-take-le at old (omega (arith, fits)) in
    let long_y : length y ≡ length a = length-take-le (length a) (drop at old) (omega (arith, fits, length-drop at old)) in
    let long_z : length z ≡ length b = length-take-le (length b) (drop (length a) (drop at old)) (omega (arith, fits, length-drop (length a) (drop at old), length-drop at old)) in
    let whole : x ++ (y ++ (z ++ t)) ≡ old = ap (λ (ys : List ℕ). x ++ (y ++ ys)) (take-append-drop (length b) (drop (length a) (drop at old))) ∙ cut-at at (length a) old in
    let first : overwritten at a old ≡ x ++ (a ++ (z ++ t)) = ap (overwritten at a) (sym whole) ∙ over-at at x y a (z ++ t) long_x long_y in
    let second : overwritten (at + length a) b (x ++ (a ++ (z ++ t))) ≡ (x ++ a) ++ (b ++ t) =
    ap (overwritten (at + length a) b) (sym (append_assoc x a (z ++ t))) ∙ over-at (at + length a) (x ++ a) z b t (length-append x a ∙ ap (λ (n : ℕ). n + length a) long_x) long_z in
    let third : overwritten at (a ++ b) old ≡ x ++ ((a ++ b) ++ t) =
    ap (overwritten at (a ++ b)) (sym whole ∙ ap (λ (ys : List ℕ). x ++ ys) (sym (append_assoc y z t)))
    ∙ over-at at x (y ++ z) (a ++ b) t long_x (length-append y z ∙ ap₂ (λ (m n : ℕ). m + n) long_y long_z ∙ sym (length-append a b)) in
    ap (overwritten (at + length a) b) first ∙ second ∙ append_assoc x a (b ++ t) ∙ ap (λ (ys : List ℕ). x ++ ys) (sym (append_assoc a b t)) ∙ sym third

-- bytes after others are overwritten as on their own
pub over-after : (a b w : List ℕ) (k : ℕ) → k + length w ≤ length b → overwritten (length a + k) w (a ++ b) ≡ a ++ overwritten k w b
over-after a b w k fits =
    let x = take k b in
    let y = take (length w) (drop k b) in
    let z = drop (length w) (drop k b) in
    let long_x : length x ≡ k = length-take-le k b (omega (arith, fits)) in
    let long_y : length y ≡ length w = length-take-le (length w) (drop k b) (omega (arith, fits, length-drop k b)) in
    let whole : x ++ (y ++ z) ≡ b = cut-at k (length w) b in
    ap (λ (ys : List ℕ). overwritten (length a + k) w (a ++ ys)) (sym whole)
    ∙ ap (overwritten (length a + k) w) (sym (append_assoc a x (y ++ z)))
    ∙ over-at (length a + k) (a ++ x) y w z (length-append a x ∙ ap (λ (n : ℕ). length a + n) long_x) long_y
    ∙ append_assoc a x (w ++ z)
    ∙ ap (λ (ys : List ℕ). a ++ ys) (sym (over-at k x y w z long_x long_y) ∙ ap (overwritten k w) whole)

-- bytes before others are overwritten as on their own
pub over-before : (b c w : List ℕ) (k : ℕ) → k + length w ≤ length b → overwritten k w (b ++ c) ≡ overwritten k w b ++ c
over-before b c w k fits =
    let x = take k b in
    let y = take (length w) (drop k b) in
    let z = drop (length w) (drop k b) in
    let long_x : length x ≡ k = length-take-le k b (omega (arith, fits)) in
    let long_y : length y ≡ length w = length-take-le (length w) (drop k b) (omega (arith, fits, length-drop k b)) in
    let whole : x ++ (y ++ z) ≡ b = cut-at k (length w) b in
    ap (λ (ys : List ℕ). overwritten k w (ys ++ c)) (sym whole)
    ∙ ap (overwritten k w) (append_assoc x (y ++ z) c ∙ ap (λ (ys : List ℕ). x ++ ys) (append_assoc y z c))
    ∙ over-at k x y w (z ++ c) long_x long_y
    ∙ ap (λ (ys : List ℕ). x ++ ys) (sym (append_assoc w z c)) ∙ sym (append_assoc x (w ++ z) c)
    ∙ ap (λ (ys : List ℕ). ys ++ c) (sym (over-at k x y w z long_x long_y) ∙ ap (overwritten k w) whole)

-- HOWEVER MANY BYTES ARE WRITTEN: those before the place stay
pub over-after-any : (a b w : List ℕ) (k : ℕ) → overwritten (length a + k) w (a ++ b) ≡ a ++ overwritten k w b
over-after-any a b w k =
    ap₂ (λ (p q : List ℕ). take (length (a ++ b)) (p ++ (w ++ drop (length w) q))) (take-append-add a b k) (drop-append-add a b k)
    ∙ ap₂ (λ (n : ℕ) (p : List ℕ). take n p) (length-append a b) (append_assoc a (take k b) (w ++ drop (length w) (drop k b)))
    ∙ take-append-add a (take k b ++ (w ++ drop (length w) (drop k b))) (length b)

-- and bytes before others are overwritten as on their own
over-front : (b c w : List ℕ) (k : ℕ) → k ≤ length b → take (length b) (overwritten k w (b ++ c)) ≡ overwritten k w b
over-front b c w k low = front ∙ by (cases_lt (length (drop k b)) (length w))
  where
    here : List ℕ
    here = take k b ++ (w ++ drop (length w) (drop k b))

    wide : List ℕ
    wide = take k b ++ (w ++ drop (length w) (drop k b ++ c))

    front : take (length b) (overwritten k w (b ++ c)) ≡ take (length b) (take k b ++ (w ++ drop (length w) (drop k b ++ c)))
    front =
        take-take (length b) (length (b ++ c)) (take k (b ++ c) ++ (w ++ drop (length w) (drop k (b ++ c)))) (omega (arith, length-append b c))
        ∙ ap₂ (λ (p q : List ℕ). take (length b) (p ++ (w ++ drop (length w) q))) (take-append-le k b c low) (drop-append-le k b c low)

    by : (length (drop k b) < length w) ⊎ (length w ≤ length (drop k b)) → take (length b) (take k b ++ (w ++ drop (length w) (drop k b ++ c))) ≡ overwritten k w b
    by (inl past) =
        let p = take k b ++ w in
        let long : length b ≤ length p = omega (arith, past, length-append (take k b) w, length-take-le k b low, length-drop k b) in
        ap (take (length b)) (sym (append_assoc (take k b) w (drop (length w) (drop k b ++ c)))) ∙ take-append-le (length b) p (drop (length w) (drop k b ++ c)) long
        ∙ sym (ap (take (length b)) (sym (append_assoc (take k b) w (drop (length w) (drop k b)))) ∙ take-append-le (length b) p (drop (length w) (drop k b)) long)
    by (inr inside) =
        let d = drop (length w) (drop k b) in
        let all = take k b ++ (w ++ d) in
        let long : length b ≤ length all = omega (arith, inside, length-append (take k b) (w ++ d), length-append w d, length-take-le k b low, length-drop (length w) (drop k b), length-drop k b) in
        ap (λ (q : List ℕ). take (length b) (take k b ++ (w ++ q))) (drop-append-le (length w) (drop k b) c inside)
        ∙ ap (λ (q : List ℕ). take (length b) (take k b ++ q)) (sym (append_assoc w d c))
        ∙ ap (take (length b)) (sym (append_assoc (take k b) (w ++ d) c))
        ∙ take-append-le (length b) all c long

pub over-past : (b c w : List ℕ) (k : ℕ) → k ≤ length b → overwritten k w (b ++ c) ≡ overwritten k w b ++ drop (length b) (overwritten k w (b ++ c))
over-past b c w k low =
    sym (take-append-drop (length b) (overwritten k w (b ++ c))) ∙ ap (λ (p : List ℕ). p ++ drop (length b) (overwritten k w (b ++ c))) (over-front b c w k low)

-- what a Vec keeps of too many bytes
pub vec-overwritten : (at : ℕ) (w old : List ℕ) (len : ℕ) → len ≡ length old → at ≤ length old
    → take len ((take at old ++ (w ++ drop (length w) (drop at old))) ++ drop (length (take at old ++ (w ++ drop (length w) (drop at old)))) old) ≡ overwritten at w old
vec-overwritten at w old len same low =
    let ws = take at old ++ (w ++ drop (length w) (drop at old)) in
    take-append-le len ws (drop (length ws) old) (omega (arith, same, length-append (take at old) (w ++ drop (length w) (drop at old)), length-append w (drop (length w) (drop at old)), length-take-le at old low, length-drop (length w) (drop at old), length-drop at old))
    ∙ ap (λ (k : ℕ). take k ws) same

-- a Vec whose items were all written
pub vec_whole : (new old : List ℕ) (len : ℕ) → len ≡ length old → length new ≡ length old → take len (new ++ drop (length new) old) ≡ new
vec_whole new old len same long = ap (λ (n : ℕ). take n (new ++ drop (length new) old)) (same ∙ sym long) ∙ take_at new (drop (length new) old) (length new) refl

pub length_overwritten : (from : ℕ) (bytes old : List ℕ) → length (overwritten from bytes old) ≡ length old
length_overwritten = length-overwritten

-- bytes that are cut or padded
pub length_padded : (n : ℕ) (xs : List ℕ) → length (padded n xs) ≡ n
length_padded n xs = omega (arith, length-append (take n xs) (replicate (n - length xs) byte.blank), length-take n xs, length-replicate (n - length xs) byte.blank)
