-- Lines along the index.
use Rattle.std.proofs.Common.{◌≡◌, ℕ, suc, ◌+◌, ◌-◌, ◌<◌, ◌≤◌, List, [], ◌∷◌, length, take, drop, get_or, ap, ◌∙◌, arith}
use Rattle.std.proofs.lemmas.List.{drop_more}
use Rattle.b2_text.specs.Blocks.{line_placed, lines_laid, no_place}
use Rattle.b2_text.specs.declared.block.LinePlace.{LinePlace}
use Rattle.b2_text.proofs.Blocks.{count_laid}
use Rattle.b2_text.proofs.Laid.{line_is}

abbrev pub placed : List ℕ → List LinePlace → ℕ → ℕ × List ℕ
placed block places i = line_placed block (get_or places i no_place)

-- the lines from a place on
from_here : (block : List ℕ) (places : List LinePlace) (i : ℕ) → i < length places
    → drop i (lines_laid block places) ≡ placed block places i ∷ drop (i + 1) (lines_laid block places)
from_here block places i h =
    let ls = lines_laid block places in
    let none : ℕ × List ℕ = (0, []) in
    let count = count_laid block places in
    drop_more ls i none (omega (arith, count, h)) ∙ ap (λ (l : ℕ × List ℕ). l ∷ drop (i + 1) ls) (line_is block places i none h)

-- the first of the lines from a place up to another
pub within_more : (block : List ℕ) (places : List LinePlace) (i j : ℕ) → i < j → j ≤ length places
    → take (j - i) (drop i (lines_laid block places)) ≡ placed block places i ∷ take (j - (i + 1)) (drop (i + 1) (lines_laid block places))
within_more block places i j less inside =
    let ls = lines_laid block places in
    let more : j - i ≡ suc (j - (i + 1)) = omega (arith, less) in
    ap (λ (k : ℕ). take k (drop i ls)) more ∙ ap (take (suc (j - (i + 1)))) (from_here block places i (omega (arith, less, inside)))
