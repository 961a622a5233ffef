-- A sector is the end mark where its first byte and the others are those of the end mark.
use Rattle.std.proofs.Common.{◌≡◌, ℕ, zero, suc, true, List, [], ◌∷◌, length, drop, get_or, replicate, ap, ap₂, ◌∙◌, arith}
use Rattle.std.specs.List.{list_all}
use Rattle.b2_platter.specs.Layout.{is_zero}
use Rattle.b2_platter.proofs.Zeros.{zeros-all, zeros-none}
use Rattle.b2_record.specs.declared.end_sector.TheConstants.{END_MARK}
use Rattle.b2_dec.specs.declared.values.Value.{Value}
use Rattle.b2_platter.specs.Image.{sector, sectors_at}
use Rattle.b2_record.specs.EndSector.{end_mark}
use Rattle.b2_record.specs.Records.{is_none, is_record, sector_kind, sector_of, sectors_from}

pub mark-told : (sector : List ℕ) → length sector ≡ 256 → get_or sector 0 0 ≡ END_MARK → list_all is_zero (drop 1 sector) ≡ true → sector ≡ end_mark
mark-told [] len first zeros = absurd (omega (arith, len))
mark-told (b ∷ rest) len first zeros =
    let count : length rest ≡ 255 = omega (arith, len) in
    ap₂ (λ (u : ℕ) (us : List ℕ). u ∷ us) first (zeros-all rest zeros ∙ ap (λ (n : ℕ). replicate n 0) count)

pub mark-zeros : (sector : List ℕ) → sector ≡ end_mark → list_all is_zero (drop 1 sector) ≡ true
mark-zeros sector same = ap (λ (s : List ℕ). list_all is_zero (drop 1 s)) same ∙ zeros-none 255

-- where a record stands, its sectors have no end mark
first-byte : (g : List Value) (groups : List (List Value)) → sector_of (sector_kind true (is_none groups)) 1 g ≡ end_mark → ⊥
first-byte g [] h = let same = ap (λ (xs : List ℕ). get_or xs 0 0) h in absurd (omega (arith, same))
first-byte g (h ∷ groups) e = let same = ap (λ (xs : List ℕ). get_or xs 0 0) e in absurd (omega (arith, same))

pub no-mark : (image : List ℕ) (pos n : ℕ) (groups : List (List Value)) → is_record groups ≡ true → sectors_from 1 groups ≡ sectors_at image pos n → sector image pos ≡ end_mark → ⊥
no-mark image pos n [] split same mark = cc
no-mark image pos zero (g ∷ groups) split same mark = cc
no-mark image pos (suc n) (g ∷ groups) split same mark =
    let first : sector_of (sector_kind true (is_none groups)) 1 g ≡ sector image pos = ap (λ (xs : List (List ℕ)). get_or xs 0 []) same in
    first-byte g groups (first ∙ mark)
