-- Sectors of an image, as they are copied to another.
use Rattle.std.proofs.Common.{◌≡◌, ℕ, zero, suc, ◌+◌, ◌-◌, ◌*◌, ◌<◌, ◌≤◌, List, ◌∷◌, length, drop, ap, arith, length-drop}
use Rattle.std.proofs.lemmas.List.{length-take}
use Rattle.std.proofs.lemmas.List.FromFn.{length-map-range_with_len}
use Rattle.b2_platter.specs.Layout.{layout_of}
use Rattle.b2_platter.specs.Own.{sectors_of}
use Rattle.b2_platter.specs.Image.{sector, sectors_at}
use Rattle.b2_platter.specs.Checks.{IsGood}
use Rattle.b2_platter.proofs.Goodness.{sectors_of_good}
use Rattle.b2_platter.proofs.SectorRuns.{AllLong}

pub sectors-next : (image : List ℕ) (at k count : ℕ) → k < count → sectors_at image at (count - k) ≡ sector image at ∷ sectors_at image (at + 1) (count - (k + 1))
sectors-next image at k count h = let n : count - k ≡ suc (count - (k + 1)) = omega (arith, h) in ap (sectors_at image at) n

pub sector-long : (image : List ℕ) (n : ℕ) → IsGood image → n < sectors_of image → length (sector image n) ≡ 256
unfolding sector
sector-long image n good h =
    let whole = sectors_of_good (layout_of image) image good in
    let rest = length-drop (256 * n) image in
    let part = length-take 256 (drop (256 * n) image) in
    omega (arith, whole, rest, part, h)

pub sectors-long : (image : List ℕ) (at n : ℕ) → IsGood image → at + n ≤ sectors_of image → AllLong (sectors_at image at n)
sectors-long image at zero good h = tt
sectors-long image at (suc n) good h = (sector-long image at good (omega (arith, h)), sectors-long image (at + 1) n good (omega (arith, h)))

pub sectors-length : (image : List ℕ) (at n : ℕ) → length (sectors_at image at n) ≡ n
sectors-length image at n = length-map-range_with_len (sector image) at n
