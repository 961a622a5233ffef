-- Records that fill sectors, when sectors after them are put in place.
use Rattle.std.proofs.Common.{◌≡◌, ℕ, ◌+◌, ◌<◌, ◌≤◌, List, [], ◌∷◌, ◌++◌, sym, ap, subst, arith}
use Rattle.b2_dec.specs.declared.values.Value.{Value}
use Rattle.b2_platter.specs.Image.{sector, sectors_at}
use Rattle.b2_record.specs.Records.{Spells}
use Rattle.b2_datafile.specs.Files.{Fills}
use Rattle.b2_platter.proofs.SectorRuns.{same-sectors}

-- ---- the same sectors have the same records

pub fills-le : (image : List ℕ) (at pos : ℕ) (records : List (List Value)) → Fills image at pos records → at ≤ pos
fills-le image at pos [] e = omega (arith, e)
fills-le image at pos (v ∷ records) f = let rest = fills-le image (at + f.0) pos records f.2 in omega (arith, rest)

pub fills-same : (image other : List ℕ) (at pos : ℕ) (records : List (List Value)) → ((k : ℕ) → at ≤ k → k < pos → sector other k ≡ sector image k) → Fills image at pos records → Fills other at pos records
fills-same image other at pos [] h e = e
fills-same image other at pos (v ∷ records) h f =
    let within = fills-le image (at + f.0) pos records f.2 in (
      f.0,
      subst (Spells v) (sym (same-sectors image other at f.0 (λ k low high. h k low (omega (arith, within, high))))) f.1,
      fills-same image other (at + f.0) pos records (λ k low high. h k (omega (arith, low)) high) f.2,
    )

pub fills-more : (image : List ℕ) (at pos n : ℕ) (records : List (List Value)) (v : List Value) → Fills image at pos records → Spells v (sectors_at image pos n) → Fills image at (pos + n) (records ++ v ∷ [])
fills-more image at pos n [] v e s = (n, subst (λ (p : ℕ). Spells v (sectors_at image p n)) (sym e) s, ap (λ p. p + n) e)
fills-more image at pos n (w ∷ records) v f s = (f.0, f.1, fills-more image (at + f.0) pos n records v f.2 s)
