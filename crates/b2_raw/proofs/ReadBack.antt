-- What was written is read back.
use Rattle.std.proofs.Common.{◌≡◌, ℕ, ◌+◌, ◌-◌, ◌<◌, ◌≤◌, Bool, true, false, List, [], ◌∷◌, length, take, nat_lt, if◌then◌else◌, Option, Some, None, Result, Ok, Err, refl, sym, ap, ap₂, subst, ◌∙◌, lt-ltb, arith}
use Rattle.std.specs.Str.{bytes_eq}
use Rattle.std.proofs.lemmas.Bool.{false_from_ne_true, ltb-true}
use Rattle.std.proofs.Math.Seq.{take-length}
use Rattle.std.proofs.lemmas.Slice.Eq.{bytes_eq-Decides}
use Rattle.b2_base.specs.declared.codes.TheConstants.{I98_SECTOR}
use Rattle.b2_dec.specs.declared.values.Kind.{Kind}
use Rattle.b2_dec.specs.declared.values.Value.{Value}
use Rattle.b2_platter.specs.Checks.{IsGood}
use Rattle.b2_platter.specs.Image.{sector, sectors_at}
use Rattle.b2_platter.specs.Layout.{layout_of}
use Rattle.b2_platter.specs.Own.{sectors_of}
use Rattle.b2_platter.proofs.Goodness.{sectors_of_good}
use Rattle.b2_catalog.proofs.Rows.{length-sector}
use Rattle.b2_record.specs.Asking.{agree, first_asked}
use Rattle.b2_record.specs.EndSector.{end_mark}
use Rattle.b2_record.specs.Records.{Spells, sectors_from}
use Rattle.b2_record.specs.Reading.{record_at}
use Rattle.b2_record.proofs.Fitting.{FirstOf, all-fit, given-some}
use Rattle.b2_record.proofs.EndSector.{no-mark}
use Rattle.b2_record.proofs.ReadBack.{read-at}
use Rattle.b2_raw.specs.Raw.{block_at, loaded, loaded_there}

module _ (image : List ℕ) (at : ℕ) (kinds : List Kind) where
  pub in-range : at < sectors_of image → loaded image at kinds ≡ loaded_there image at kinds
  in-range below = ap (λ (b : Bool). if b then loaded_there image at kinds else Err I98_SECTOR) (lt-ltb at (sectors_of image) below)

  pub out-of-range : nat_lt at (sectors_of image) ≡ false → loaded image at kinds ≡ Err I98_SECTOR
  out-of-range past = ap (λ (b : Bool). if b then loaded_there image at kinds else Err I98_SECTOR) past

  pub at-mark : sector image at ≡ end_mark → loaded_there image at kinds ≡ Ok None
  at-mark mark = ap (λ (b : Bool). if b then Ok None else first_asked kinds at (record_at image at (sectors_of image - 1))) ((bytes_eq-Decides (sector image at) end_mark).1 mark)

  pub at-no-mark : (sector image at ≡ end_mark → ⊥) → loaded_there image at kinds ≡ first_asked kinds at (record_at image at (sectors_of image - 1))
  at-no-mark other =
      ap (λ (b : Bool). if b then Ok None else first_asked kinds at (record_at image at (sectors_of image - 1)))
      (false_from_ne_true (bytes_eq (sector image at) end_mark) (λ t. other ((bytes_eq-Decides (sector image at) end_mark).0 t)))

pub block-there : (image : List ℕ) (at : ℕ) → at < sectors_of image → block_at image at ≡ Ok (sector image at)
block-there image at below = ap (λ (b : Bool). if b then Ok (sector image at) else Err I98_SECTOR) (lt-ltb at (sectors_of image) below)

-- a record is loaded from where it stands
pub record-back : (image : List ℕ) (at n : ℕ) (values : List Value) (kinds : List Kind) → 1 ≤ n → at + n ≤ sectors_of image → Spells values (sectors_at image at n) → agree kinds values ≡ true → length kinds ≡ length values
    → loaded image at kinds ≡ Ok (Some (values, at + n))
record-back image at n values kinds some within p fit count =
    in-range image at kinds (omega (arith, some, within))
    ∙ (at-no-mark image at kinds (no-mark image at n p.groups p.split p.same)
    ∙ (ap (first_asked kinds at) (read-at image at (sectors_of image - 1) n values (omega (arith, some, within)) p)
    ∙ (all-fit kinds at n values fit (omega (arith, count))
    ∙ ap (λ (vs : List Value). Ok (Some (vs, at + n))) (ap (λ (m : ℕ). take m values) count ∙ take-length values))))

-- and values that are loaded are the first of the record that was read
pub loaded-some : (image : List ℕ) (at : ℕ) (kinds : List Kind) (found : List Value × ℕ) → loaded image at kinds ≡ Ok (Some found) → FirstOf kinds at (record_at image at (sectors_of image - 1)) found
loaded-some image at kinds found h = by_range (nat_lt at (sectors_of image)) h
  where
    by_mark : (b : Bool) → (if b then Ok None else first_asked kinds at (record_at image at (sectors_of image - 1))) ≡ Ok (Some found) → FirstOf kinds at (record_at image at (sectors_of image - 1)) found
    by_mark true told = cc
    by_mark false told = given-some kinds at (record_at image at (sectors_of image - 1)) found told

    by_range : (b : Bool) → (if b then loaded_there image at kinds else Err I98_SECTOR) ≡ Ok (Some found) → FirstOf kinds at (record_at image at (sectors_of image - 1)) found
    by_range true told = by_mark (bytes_eq (sector image at) end_mark) told
    by_range false told = cc

-- a sector of a good platter has 256 bytes
pub block-long : (image : List ℕ) (at : ℕ) (bytes : List ℕ) → IsGood image → block_at image at ≡ Ok bytes → length bytes ≡ 256
block-long image at bytes good h = by_range (nat_lt at (sectors_of image)) refl h
  where
    by_range : (b : Bool) → nat_lt at (sectors_of image) ≡ b → (if b then Ok (sector image at) else Err I98_SECTOR) ≡ Ok bytes → length bytes ≡ 256
    by_range true is told =
        let same : sector image at ≡ bytes = cc in
        ap length (sym same) ∙ (let whole = sectors_of_good (layout_of image) image good in let below : at < sectors_of image = ltb-true at (sectors_of image) is in length-sector image at (omega (arith, whole, below)))
    by_range false is told = cc
