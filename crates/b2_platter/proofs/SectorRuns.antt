-- Sectors one after the other: which they are, and what stays where they are put in place.
use Rattle.std.proofs.Common.{◌≡◌, ℕ, zero, suc, ◌+◌, ◌*◌, ◌<◌, ◌≤◌, true, List, [], ◌∷◌, length, refl, ap₂, ◌∙◌, arith}
use Rattle.b2_platter.specs.declared.layout.Layout.{Layout}
use Rattle.b2_platter.specs.Image.{row, sector, sectors_at, index_of}
use Rattle.b2_platter.specs.Checks.{Good}
use Rattle.b2_platter.specs.Edits.{put_sector, put_from, is_data_sector}
use Rattle.b2_platter.proofs.DataSectors.{rows-kept, index-kept, data-kept, sector-kept, sector-put, good-kept}

pub same-sectors : (image other : List ℕ) (at n : ℕ) → ((k : ℕ) → at ≤ k → k < at + n → sector other k ≡ sector image k) → sectors_at other at n ≡ sectors_at image at n
same-sectors image other at zero h = refl
same-sectors image other at (suc n) h =
    ap₂ (λ s ss. s ∷ ss) (h at (omega arith) (omega arith)) (same-sectors image other (at + 1) n (λ k low high. h k (omega (arith, low)) (omega (arith, high))))

-- each is a whole sector
abbrev pub AllLong : List (List ℕ) → Type 0
AllLong [] = Unit {0}
AllLong (s ∷ sectors) = (length s ≡ 256) × AllLong sectors

pub record PutFrom (layout : Layout) (image new : List ℕ) (at : ℕ) (sectors : List (List ℕ)) : Type 0 where
  pub good : Good layout new
  pub before : (k : ℕ) → k < at → sector new k ≡ sector image k
  pub after : (k : ℕ) → at + length sectors ≤ k → sector new k ≡ sector image k
  pub rows : (k : ℕ) → k < 16 * index_of image → row new k ≡ row image k
  pub there : sectors_at new at (length sectors) ≡ sectors

pub put-from : (layout : Layout) (image : List ℕ) (at : ℕ) (sectors : List (List ℕ)) → Good layout image → AllLong sectors → ((n : ℕ) → at ≤ n → n < at + length sectors → is_data_sector layout image n ≡ true)
    → PutFrom layout image (put_from image at sectors) at sectors
put-from layout image at [] good long own = record { good = good; before = λ k h. refl; after = λ k h. refl; rows = λ k h. refl; there = refl }
put-from layout image at (s ∷ sectors) good long own =
    let first = own at (omega arith) (omega arith) in
    let rest = put-from layout (put_sector image at s) (at + 1) sectors (good-kept layout image good at first s long.0) long.1 (λ n low high. data-kept layout image good at first s long.0 n ∙ own n (omega (arith, low)) (omega (arith, high))) in
    record {
      good = rest.good;
      before = λ k h. rest.before k (omega (arith, h)) ∙ sector-kept layout image good at first s long.0 k (λ e. omega (arith, h, e));
      after = λ k h. rest.after k (omega (arith, h)) ∙ sector-kept layout image good at first s long.0 k (λ e. omega (arith, h, e));
      rows = λ k h. (let same = index-kept layout image good at first s long.0 in rest.rows k (omega (arith, h, same)) ∙ rows-kept layout image good at first s long.0 k h);
      there = ap₂ (λ t ts. t ∷ ts) (rest.before at (omega arith) ∙ sector-put layout image good at first s long.0) rest.there;
    }
