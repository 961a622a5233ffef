-- What the laws of writing speak of.
use Rattle.std.specs.Prelude.{◌≡◌, ℕ, List, [], ◌∷◌, length, Some}
use Rattle.b2_platter.specs.Checks.{IsGood}
use Rattle.b2_raw.specs.Raw.{raw}

-- each is a whole sector
abbrev pub AllWhole : List (List ℕ) → Type 0
AllWhole [] = Unit {0}
AllWhole (s ∷ sectors) = (length s ≡ 256) × AllWhole sectors

-- whole sectors are written to a good platter
pub record Writes (image : List ℕ) (at : ℕ) (sectors : List (List ℕ)) (new : List ℕ) : Type 0 where
  pub good : IsGood image
  pub whole : AllWhole sectors
  pub made : raw image at sectors ≡ Some new
