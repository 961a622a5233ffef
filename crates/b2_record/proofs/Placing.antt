-- Sectors that are put in place one after the other.
use Rattle.std.proofs.Common.{◌≡◌, ℕ, zero, suc, ◌+◌, ◌≤◌, List, [], ◌∷◌, length, drop, refl, sym, ap, ap₂, ◌∙◌, arith, add-one}
use Rattle.b2_platter.specs.Edits.{put_sector, put_from}
use Rattle.b2_record.proofs.Groups.{drop-tail}

pub drop-next : (k : ℕ) (sectors more : List (List ℕ)) (s : List ℕ) → drop k sectors ≡ s ∷ more → drop (k + 1) sectors ≡ more
drop-next k sectors more s e = ap (λ (n : ℕ). drop n sectors) (add-one k) ∙ drop-tail k sectors s more e

pub put-next : (image : List ℕ) (at k : ℕ) (sectors more : List (List ℕ)) (s : List ℕ) → drop k sectors ≡ s ∷ more
    → put_from (put_sector image (at + k) s) (at + (k + 1)) (drop (k + 1) sectors) ≡ put_from image (at + k) (drop k sectors)
put-next image at k sectors more s e =
    let rest : drop (k + 1) sectors ≡ more = drop-next k sectors more s e in
    let place : at + (k + 1) ≡ at + k + 1 = omega arith in
    ap₂ (λ a n. put_from (put_sector image (at + k) s) a n) place rest ∙ sym (ap (put_from image (at + k)) e)

pub drop-all : (sectors : List (List ℕ)) (k : ℕ) → length sectors ≤ k → drop k sectors ≡ []
drop-all [] zero h = refl
drop-all [] (suc k) h = refl
drop-all (x ∷ sectors) zero h = absurd (omega (arith, h))
drop-all (x ∷ sectors) (suc k) h = drop-all sectors k (omega (arith, h))
