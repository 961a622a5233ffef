-- What a write gives, by whether its sectors lie after the catalogue and are sectors of the platter.
use Rattle.std.proofs.Common.{◌≡◌, ℕ, zero, suc, ◌+◌, ◌-◌, drop, replicate, ◌<◌, ◌≤◌, ◌^◌, ◌&&◌, Bool, true, false, List, length, nat_le, if◌then◌else◌, Option, Some, None, Result, Ok, Err, refl, sym, ap, ◌∙◌, arith}
use Rattle.std.proofs.lemmas.Bool.{and_parts, leb-true, le-leb}
use Rattle.b2_base.specs.declared.codes.TheConstants.{D81_FILE_FULL, I98_SECTOR}
use Rattle.b2_dec.specs.declared.values.Value.{Value}
use Rattle.b2_platter.specs.Checks.{IsGood}
use Rattle.b2_platter.specs.Own.{end_of, sectors_of}
use Rattle.b2_platter.specs.Edits.{put_from}
use Rattle.b2_platter.proofs.Layouts.{few_sectors}
use Rattle.b2_record.specs.Writing.{record_of}
use Rattle.b2_raw.specs.Raw.{are_spare, raw, saved, written, written_at}

module _ (image : List ℕ) (at n : ℕ) (may : are_spare image at n ≡ true) where
  pub spare-low : end_of image ≤ at
  spare-low = leb-true (end_of image) at (and_parts (nat_le (end_of image) at) (nat_le (at + n) (sectors_of image)) may).0

  pub spare-high : at + n ≤ sectors_of image
  spare-high = leb-true (at + n) (sectors_of image) (and_parts (nat_le (end_of image) at) (nat_le (at + n) (sectors_of image)) may).1

  pub spare-ends : IsGood image → at + n < 4294967296
  spare-ends good = let few = few_sectors image good in let high = spare-high in omega (arith, few, high)

module _ (image : List ℕ) (at : ℕ) (sectors : List (List ℕ)) where
  pub may-write : are_spare image at (length sectors) ≡ true → written_at image at sectors ≡ Ok (put_from image at sectors, at + length sectors)
  may-write may = ap (λ (b : Bool). written (at + length sectors) (if b then Some (put_from image at sectors) else None)) may

  pub may-not : are_spare image at (length sectors) ≡ false → written_at image at sectors ≡ Err I98_SECTOR
  may-not not = ap (λ (b : Bool). written (at + length sectors) (if b then Some (put_from image at sectors) else None)) not

  -- and the other way round
  pub written-by : (new : List ℕ) (next : ℕ) → written_at image at sectors ≡ Ok (new, next) → (raw image at sectors ≡ Some new) × (next ≡ at + length sectors)
  written-by new next same = by_made (raw image at sectors) refl same
    where
      by_made : (o : Option (List ℕ)) → raw image at sectors ≡ o → written (at + length sectors) o ≡ Ok (new, next) → (raw image at sectors ≡ Some new) × (next ≡ at + length sectors)
      by_made None is told = cc
      by_made (Some other) is told =
          let pair : (other, at + length sectors) ≡ (new, next) = cc in
          (is ∙ ap (λ (r : List ℕ × ℕ). Some r.0) pair, ap (λ (r : List ℕ × ℕ). r.1) (sym pair))

  pub made-by : (new : List ℕ) → raw image at sectors ≡ Some new → (are_spare image at (length sectors) ≡ true) × (put_from image at sectors ≡ new)
  made-by new same = by_test (are_spare image at (length sectors)) refl same
    where
      by_test : (b : Bool) → are_spare image at (length sectors) ≡ b → (if b then Some (put_from image at sectors) else None) ≡ Some new → (are_spare image at (length sectors) ≡ true) × (put_from image at sectors ≡ new)
      by_test true is told = (is, cc)
      by_test false is told = cc

-- a record of at most 255 sectors
pub saved-few : (image : List ℕ) (at : ℕ) (values : List Value) → length (record_of values) ≤ 255 → saved image at values ≡ written_at image at (record_of values)
saved-few image at values few = ap (λ (b : Bool). if b then written_at image at (record_of values) else Err D81_FILE_FULL) (le-leb (length (record_of values)) 255 few)

pub saved-many : (image : List ℕ) (at : ℕ) (values : List Value) → nat_le (length (record_of values)) 255 ≡ false → saved image at values ≡ Err D81_FILE_FULL
saved-many image at values many = ap (λ (b : Bool). if b then written_at image at (record_of values) else Err D81_FILE_FULL) many

pub saved-by : (image : List ℕ) (at : ℕ) (values : List Value) (new : List ℕ) (next : ℕ) → saved image at values ≡ Ok (new, next) → written_at image at (record_of values) ≡ Ok (new, next)
saved-by image at values new next same = by_test (nat_le (length (record_of values)) 255) same
  where
    by_test : (b : Bool) → (if b then written_at image at (record_of values) else Err D81_FILE_FULL) ≡ Ok (new, next) → written_at image at (record_of values) ≡ Ok (new, next)
    by_test true told = told
    by_test false told = cc

-- 00 to the end of a sector
pub zeros-left : (n m : ℕ) → n ≤ m → drop {A = ℕ} n (replicate m 0) ≡ replicate (m - n) 0
zeros-left zero m h = let same : m ≡ m - 0 = omega arith in ap (λ (k : ℕ). replicate {A = ℕ} k 0) same
zeros-left (suc n) zero h = absurd (omega (arith, h))
zeros-left (suc n) (suc m) h = let same : m - n ≡ suc m - suc n = omega arith in zeros-left n m (omega (arith, h)) ∙ ap (λ (k : ℕ). replicate {A = ℕ} k 0) same
