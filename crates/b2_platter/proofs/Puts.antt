-- What is read from an image after a sector was put in place.
use Rattle.std.proofs.Common.{◌≡◌, ℕ, ◌+◌, ◌-◌, ◌*◌, ◌<◌, ◌≤◌, List, ◌++◌, length, take, drop, refl, sym, ap, ◌∙◌, arith, length-append, length-drop}
use Rattle.std.proofs.lemmas.List.{take_at, drop_at, drop-drop, drop-append-le, take-append-le, drop-take, take-take, length-take-le}
use Rattle.b2_platter.specs.Image.{row, sector}
use Rattle.b2_platter.specs.Edits.{put_sector}

-- a piece that ends before the write
pub piece-before : (x y : List ℕ) (a p n : ℕ) → p + n ≤ a → a ≤ length x → take n (drop p (take a x ++ y)) ≡ take n (drop p x)
piece-before x y a p n inside long =
    let front : length (take a x) ≡ a = length-take-le a x long in
    let cut : drop p (take a x) ≡ take (a - p) (drop p x) = ap (λ (m : ℕ). drop p (take m x)) (omega arith) ∙ drop-take p (a - p) x in
    ap (take n) (drop-append-le p (take a x) y (omega arith))
    ∙ take-append-le n (drop p (take a x)) y (omega (arith, length-drop p (take a x)))
    ∙ ap (take n) cut
    ∙ take-take n (a - p) (drop p x) (omega arith)

-- a piece that begins after the write
pub piece-after : (x y : List ℕ) (a m p n : ℕ) → a + m ≤ p → a ≤ length x → length y ≡ m → take n (drop p (take a x ++ (y ++ drop (a + m) x))) ≡ take n (drop p x)
piece-after x y a m p n rest_of long middle =
    let front : length (take a x) ≡ a = length-take-le a x long in
    let rest = y ++ drop (a + m) x in
    let first : drop p (take a x ++ rest) ≡ drop (p - a) rest =
    ap (λ (q : ℕ). drop q (take a x ++ rest)) (omega arith) ∙ sym (drop-drop (p - a) a (take a x ++ rest)) ∙ ap (drop (p - a)) (drop_at (take a x) rest a front) in
    let second : drop (p - a) rest ≡ drop (p - a - m) (drop (a + m) x) =
    ap (λ (q : ℕ). drop q rest) (omega arith) ∙ sym (drop-drop (p - a - m) m rest) ∙ ap (drop (p - a - m)) (drop_at y (drop (a + m) x) m middle) in
    let third : drop (p - a - m) (drop (a + m) x) ≡ drop p x = drop-drop (p - a - m) (a + m) x ∙ ap (λ (q : ℕ). drop q x) (omega arith) in
    ap (take n) (first ∙ second ∙ third)

-- a piece of what was written
pub piece-inside : (x y z : List ℕ) (a m p n : ℕ) → p + n ≤ m → a ≤ length x → length y ≡ m → take n (drop (a + p) (take a x ++ (y ++ z))) ≡ take n (drop p y)
piece-inside x y z a m p n inside long middle =
    let front : length (take a x) ≡ a = length-take-le a x long in
    let first : drop (a + p) (take a x ++ (y ++ z)) ≡ drop p (y ++ z) = sym (drop-drop p a (take a x ++ (y ++ z))) ∙ ap (drop p) (drop_at (take a x) (y ++ z) a front) in
    let second : drop p (y ++ z) ≡ drop p y ++ z = drop-append-le p y z (omega arith) in
    ap (take n) (first ∙ second) ∙ take-append-le n (drop p y) z (omega (arith, length-drop p y))

module _ (image : List ℕ) (n : ℕ) (bytes : List ℕ) (long : length bytes ≡ 256) (room : 256 * n + 256 ≤ length image) where
  pub length-put_sector : length (put_sector image n bytes) ≡ length image
  unfolding put_sector
  length-put_sector =
      omega (arith, length-append (take (256 * n) image) (bytes ++ drop (256 * n + 256) image), length-take-le (256 * n) image (omega arith), length-append bytes (drop (256 * n + 256) image), length-drop (256 * n + 256) image)

  pub row_before : (k : ℕ) → 16 * k + 16 ≤ 256 * n → row (put_sector image n bytes) k ≡ row image k
  unfolding put_sector row
  row_before k h = piece-before image (bytes ++ drop (256 * n + 256) image) (256 * n) (16 * k) 16 h (omega arith)

  pub row_after : (k : ℕ) → 256 * n + 256 ≤ 16 * k → row (put_sector image n bytes) k ≡ row image k
  unfolding put_sector row
  row_after k h = piece-after image bytes (256 * n) 256 (16 * k) 16 h (omega arith) long

  pub row_inside : (p : ℕ) → p < 16 → row (put_sector image n bytes) (16 * n + p) ≡ take 16 (drop (16 * p) bytes)
  unfolding put_sector row
  row_inside p h =
      ap (λ (q : ℕ). take 16 (drop q (take (256 * n) image ++ (bytes ++ drop (256 * n + 256) image)))) (omega arith)
      ∙ piece-inside image bytes (drop (256 * n + 256) image) (256 * n) 256 (16 * p) 16 (omega arith) (omega arith) long

  pub sector_before : (m : ℕ) → m < n → sector (put_sector image n bytes) m ≡ sector image m
  unfolding put_sector sector
  sector_before m h = piece-before image (bytes ++ drop (256 * n + 256) image) (256 * n) (256 * m) 256 (omega arith) (omega arith)

  pub sector_after : (m : ℕ) → n < m → sector (put_sector image n bytes) m ≡ sector image m
  unfolding put_sector sector
  sector_after m h = piece-after image bytes (256 * n) 256 (256 * m) 256 (omega arith) (omega arith) long

  pub sector_same : sector (put_sector image n bytes) n ≡ bytes
  unfolding put_sector sector
  sector_same =
      ap (take 256) (drop_at (take (256 * n) image) (bytes ++ drop (256 * n + 256) image) (256 * n) (length-take-le (256 * n) image (omega arith)))
      ∙ take_at bytes (drop (256 * n + 256) image) 256 long

-- a Vec whose items were all written
pub overwritten : (new old : List ℕ) (len : ℕ) → length old ≡ len → length new ≡ length old → take len (new ++ drop (length new) old) ≡ new
overwritten new old len long same = ap (λ (n : ℕ). take n (new ++ drop (length new) old)) (sym long ∙ sym same) ∙ take_at new (drop (length new) old) (length new) refl
