-- What is read from an image after a row was put in place.
use Rattle.std.proofs.Common.{◌≡◌, ℕ, ◌+◌, ◌-◌, ◌*◌, ◌<◌, ◌≤◌, List, ◌++◌, length, take, drop, sym, ap, ◌∙◌, arith, append_assoc, length-append, length-take, length-drop}
use Rattle.std.proofs.lemmas.List.{take_at, drop_at, drop-drop, take-take, drop-take, take-append-drop, length-take-le}
use Rattle.std.proofs.Math.Seq.{take-add}
use Rattle.b2_platter.specs.Image.{row, sector}
use Rattle.b2_platter.specs.Edits.{put_sector}
use Rattle.b2_platter.proofs.Puts.{piece-before, piece-after, sector_same}
use Rattle.b2_catalog.specs.Changes.{put_row}

module _ (image : List ℕ) (k : ℕ) (bytes : List ℕ) (long : length bytes ≡ 16) (room : 16 * k + 16 ≤ length image) where
  pub length-put_row : length (put_row image k bytes) ≡ length image
  unfolding put_row
  length-put_row =
      omega (arith, length-append (take (16 * k) image) (bytes ++ drop (16 * k + 16) image), length-take-le (16 * k) image (omega arith), length-append bytes (drop (16 * k + 16) image), length-drop (16 * k + 16) image)

  pub row_same : row (put_row image k bytes) k ≡ bytes
  unfolding put_row row
  row_same =
      ap (take 16) (drop_at (take (16 * k) image) (bytes ++ drop (16 * k + 16) image) (16 * k) (length-take-le (16 * k) image (omega arith)))
      ∙ take_at bytes (drop (16 * k + 16) image) 16 long

  pub row_below : (j : ℕ) → j < k → row (put_row image k bytes) j ≡ row image j
  unfolding put_row row
  row_below j h = piece-before image (bytes ++ drop (16 * k + 16) image) (16 * k) (16 * j) 16 (omega arith) (omega arith)

  pub row_above : (j : ℕ) → k < j → row (put_row image k bytes) j ≡ row image j
  unfolding put_row row
  row_above j h = piece-after image bytes (16 * k) 16 (16 * j) 16 (omega arith) (omega arith) long

  pub sector_above : (n : ℕ) → 16 * k + 16 ≤ 256 * n → sector (put_row image k bytes) n ≡ sector image n
  unfolding put_row sector
  sector_above n h = piece-after image bytes (16 * k) 16 (256 * n) 256 h (omega arith) long

  pub sector_below : (n : ℕ) → 256 * n + 256 ≤ 16 * k → sector (put_row image k bytes) n ≡ sector image n
  unfolding put_row sector
  sector_below n h = piece-before image (bytes ++ drop (16 * k + 16) image) (16 * k) (256 * n) 256 h (omega arith)

pub length-sector : (image : List ℕ) (n : ℕ) → 256 * n + 256 ≤ length image → length (sector image n) ≡ 256
unfolding sector
length-sector image n room = omega (arith, length-take 256 (drop (256 * n) image), length-drop (256 * n) image)

-- a row put into its sector, and the sector into the image
module _ (image : List ℕ) (s p : ℕ) (bytes : List ℕ) (small : p < 16) (room : 256 * s + 256 ≤ length image) where
  rest : List ℕ
  rest = drop (256 * s) image

  front : take (256 * s) image ++ take (16 * p) (take 256 (drop (256 * s) image)) ≡ take (16 * (16 * s + p)) image
  front =
      ap (λ (xs : List ℕ). take (256 * s) image ++ xs) (take-take (16 * p) 256 (drop (256 * s) image) (omega arith))
      ∙ sym (take-add (256 * s) (16 * p) image) ∙ ap (λ (n : ℕ). take n image) (omega arith)

  back : drop (16 * p + 16) (take 256 (drop (256 * s) image)) ++ drop (256 * s + 256) image ≡ drop (16 * (16 * s + p) + 16) image
  back =
      let parts : 256 ≡ 16 * p + 16 + (256 - (16 * p + 16)) = omega arith in
      let cut : drop (16 * p + 16) (take 256 (drop (256 * s) image)) ≡ take (256 - (16 * p + 16)) (drop (16 * p + 16) (drop (256 * s) image)) =
      ap (λ (n : ℕ). drop (16 * p + 16) (take n (drop (256 * s) image))) parts ∙ drop-take (16 * p + 16) (256 - (16 * p + 16)) (drop (256 * s) image) in
      let after : drop (256 * s + 256) image ≡ drop (256 - (16 * p + 16)) (drop (16 * p + 16) (drop (256 * s) image)) =
      sym (drop-drop (256 - (16 * p + 16)) (16 * p + 16) (drop (256 * s) image) ∙ drop-drop (16 * p + 16 + (256 - (16 * p + 16))) (256 * s) image ∙ ap (λ (n : ℕ). drop n image) (omega arith)) in
      ap (λ (xs : List ℕ). xs ++ drop (256 * s + 256) image) cut
      ∙ ap (λ (xs : List ℕ). take (256 - (16 * p + 16)) (drop (16 * p + 16) (drop (256 * s) image)) ++ xs) after
      ∙ take-append-drop (256 - (16 * p + 16)) (drop (16 * p + 16) (drop (256 * s) image))
      ∙ drop-drop (16 * p + 16) (256 * s) image ∙ ap (λ (n : ℕ). drop n image) (omega arith)

  pub put_sector-put_row : put_sector image s (put_row (sector image s) p bytes) ≡ put_row image (16 * s + p) bytes
  unfolding put_sector put_row sector
  put_sector-put_row =
      let head = take (256 * s) image in
      let one = take (16 * p) (take 256 (drop (256 * s) image)) in
      let two = drop (16 * p + 16) (take 256 (drop (256 * s) image)) in
      let tail = drop (256 * s + 256) image in
      ap (λ (xs : List ℕ). take (256 * s) image ++ xs) (append_assoc one (bytes ++ two) tail ∙ ap (λ (xs : List ℕ). take (16 * p) (take 256 (drop (256 * s) image)) ++ xs) (append_assoc bytes two tail ∙ ap (λ (xs : List ℕ). bytes ++ xs) back))
      ∙ sym (append_assoc head one (bytes ++ drop (16 * (16 * s + p) + 16) image))
      ∙ ap (λ (xs : List ℕ). xs ++ (bytes ++ drop (16 * (16 * s + p) + 16) image)) front

-- the first sector with its first row put in place
pub first_sector : (image bytes : List ℕ) → length bytes ≡ 16 → 256 ≤ length image → sector (put_row image 0 bytes) 0 ≡ put_row (sector image 0) 0 bytes
first_sector image bytes long room =
    let own = put_row (sector image 0) 0 bytes in
    let whole : length (sector image 0) ≡ 256 = length-sector image 0 (omega arith) in
    let own_long : length (put_row (sector image 0) 0 bytes) ≡ 256 = length-put_row (sector image 0) 0 bytes long (omega arith) ∙ whole in
    ap (λ (xs : List ℕ). sector xs 0) (sym (put_sector-put_row image 0 0 bytes (omega arith) (omega arith))) ∙ sector_same image 0 own own_long (omega arith)

pub whole_first : (image bytes : List ℕ) → length bytes ≡ 16 → 256 ≤ length image → put_sector image 0 (sector (put_row image 0 bytes) 0) ≡ put_row image 0 bytes
whole_first image bytes long room = ap (put_sector image 0) (first_sector image bytes long room) ∙ put_sector-put_row image 0 0 bytes (omega arith) (omega arith)
