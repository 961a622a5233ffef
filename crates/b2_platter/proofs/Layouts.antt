-- An image that is good in a layout is good in its own: its first byte tells the layout. And its numbers are small enough.
use Rattle.std.proofs.Common.{◌≡◌, ℕ, ◌^◌, ◌<◌, ◌≤◌, List, [], ◌∷◌, length, slice_index, refl, sym, ap, ◌∙◌, subst, arith}
use Rattle.std.proofs.lemmas.Bool.{and_parts, eqb-true}
use Rattle.b2_platter.specs.declared.layout.Layout.{Layout}
use Rattle.b2_platter.specs.declared.layout.Layout.TheVariants.{Narrow, Wide}
use Rattle.b2_platter.specs.Layout.{version_of, width_of, by_version, layout_of}
use Rattle.b2_platter.specs.Image.{row, image_head}
use Rattle.b2_platter.specs.Checks.{has_head, Good, IsGood}
use Rattle.b2_platter.specs.Own.{sectors_of}
use Rattle.b2_platter.proofs.Goodness.{Checked-from_Good, least_of_good, most_of_good}
use Rattle.b2_platter.proofs.Fresh.{most_fits, most_at_all}

version_told : (layout : Layout) (b : ℕ) → b ≡ version_of layout → by_version b ≡ layout
version_told Narrow b e = rw e refl
version_told Wide b e = rw e refl

first_byte : (layout : Layout) (image : List ℕ) → Good layout image → slice_index (image_head image) 0 ≡ version_of layout
unfolding has_head
first_byte layout image good =
    let c = Checked-from_Good layout image good in
    let h = and_parts _ _ c.head in
    let h' = and_parts _ _ h.0 in
    let h'' = and_parts _ _ h'.0 in
    let front = and_parts _ _ h''.0 in
    eqb-true _ _ front.0

pub layout_told : (layout : Layout) (image : List ℕ) → Good layout image → layout_of image ≡ layout
unfolding layout_of row
layout_told layout [] good = absurd (let least = least_of_good layout [] good in omega (arith, least))
layout_told layout (b ∷ rest) good = version_told layout b (first_byte layout (b ∷ rest) good)

pub own_good : (layout : Layout) (image : List ℕ) → Good layout image → IsGood image
own_good layout image good = subst (λ (l : Layout). Good l image) (sym (layout_told layout image good)) good

-- two images that are good in one layout have one layout
pub same_layout : (a b : List ℕ) → Good (layout_of a) b → layout_of b ≡ layout_of a
same_layout a b good = layout_told (layout_of a) b good

-- numbers of sectors that an image has are spelled by its layout
pub own_fits : (image : List ℕ) → IsGood image → (n : ℕ) → n ≤ sectors_of image → n < 256 ^ width_of (layout_of image)
own_fits image good n within = let most = most_of_good (layout_of image) image good in most_fits (layout_of image) n (omega (arith, within, most))

-- and they are few
pub few_sectors : (image : List ℕ) → IsGood image → sectors_of image ≤ 262144
few_sectors image good =
    let most = most_of_good (layout_of image) image good in
    let all = most_at_all (layout_of image) in
    omega (arith, most, all)

-- the head tells the layout
by_first : (image : List ℕ) → 16 ≤ length image → layout_of image ≡ layout_of (row image 0)
unfolding layout_of row
by_first [] long = absurd (omega arith)
by_first (b ∷ rest) long = refl

pub layout_by_row : (a b : List ℕ) → 16 ≤ length a → 16 ≤ length b → row b 0 ≡ row a 0 → layout_of b ≡ layout_of a
layout_by_row a b long long' same = by_first b long' ∙ (ap layout_of same ∙ sym (by_first a long))
