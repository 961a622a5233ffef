-- The images of a boot that passed its checks are sound.
use Rattle.std.proofs.Common.{◌≡◌, ℕ, ◌==◌, ◌-◌, ◌*◌, ◌<◌, ◌≤◌, ◌&&◌, nat_le, true, List, [], ◌∷◌, take, drop, get_or, replicate, Option, Some, None, refl, sym, subst, inl, inr, arith}
use Rattle.std.specs.List.{All, list_all}
use Rattle.std.proofs.lemmas.Bool.{cases_Bool, and_parts, leb-true}
use Rattle.std.proofs.lemmas.List.{get_or-take, get_or-drop}
use Rattle.std.proofs.lemmas.List.Elements.{All-nil, All-cons}
use Rattle.b2_base.specs.Files.{Files}
use Rattle.b2_boot.specs.Boots.{is_either, is_platter, is_platter_address, may_be_named}
use Rattle.b2_boot.specs.declared.boot.BootPlatter.{BootPlatter}
use Rattle.b2_boot.specs.Rows.{blank_version, is_between, is_blank, is_version, most_blank}
use Rattle.b2_platter.specs.Layout.{by_version, most_sectors}
use Rattle.b2_platter.specs.declared.layout.Layout.{Layout}
use Rattle.b2_platter.specs.Edits.{blank_image}
use Rattle.b2_platter.specs.Image.{index_of, row}
use Rattle.b2_platter.proofs.Fresh.{blank_good, head_says, most_fits}
use Rattle.b2_platter.proofs.Layouts.{own_good}
use Rattle.b2_store.specs.Files.{IsSound}
use Rattle.b2_sched.specs.Start.{Images}
use Rattle.b2_mvp.specs.Inputs.{HasSource, HaveImages}

-- the count of an image's index is one of its bytes
pub few_in_index : (image : List ℕ) → ((i : ℕ) → get_or image i 0 < 256) → index_of image ≤ 255
unfolding index_of row
few_in_index image small =
    let here : get_or (take 16 (drop 0 image)) 1 0 < 256 = subst (λ (x : ℕ). x < 256) (sym (get_or-take 16 (drop 0 image) 1 0 (omega arith))) (subst (λ (x : ℕ). x < 256) (sym (get_or-drop 0 image 1 0)) (small 1)) in
    omega arith

-- a blank image
blank_sound : (layout : Layout) (sectors : ℕ) → 16 ≤ sectors → sectors ≤ most_sectors layout → IsSound (blank_image layout sectors)
blank_sound layout sectors least most =
    let fits = most_fits layout sectors most in
    let says = (head_says layout 2 sectors sectors 2 (replicate (256 * sectors - 16) 0) fits fits (most_fits layout 2 (omega (arith, least, most)))).index in
    (own_good layout _ (blank_good layout sectors least most), omega arith)

-- the versions of the boot file are those of images, and so are their most sectors
pub version_known : (version : Option ℕ) → is_version version ≡ true → (1 ≤ blank_version version) × (blank_version version ≤ 2)
version_known None known = (omega arith, omega arith)
version_known (Some v) known =
    let (low, high) = and_parts (nat_le 1 v) (nat_le v 2) known in
    (leb-true 1 v low, leb-true v 2 high)

most_is : (version : Option ℕ) → most_blank version ≡ most_sectors (by_version (blank_version version))
most_is None = refl
most_is (Some v) =
    elim (cases_Bool (v == 2)) [
      | inl is ↦ rw is refl
      | inr other ↦ rw other refl
    ]

pub blank_fits : (version : Option ℕ) (sectors : ℕ) → is_blank version sectors ≡ true → (16 ≤ sectors) × (sectors ≤ most_sectors (by_version (blank_version version)))
blank_fits version sectors blank =
    let (known, size) = and_parts (is_version version) (is_between 16 (most_blank version) sectors) blank in
    let (low, high) = and_parts (nat_le 16 sectors) (nat_le sectors (most_blank version)) size in
    (leb-true 16 sectors low, subst (λ (n : ℕ). sectors ≤ n) (most_is version) (leb-true sectors (most_blank version) high))

pub blank_known : (version : Option ℕ) (sectors : ℕ) → is_blank version sectors ≡ true → is_version version ≡ true
blank_known version sectors blank = (and_parts (is_version version) (is_between 16 (most_blank version) sectors) blank).0

-- one of either kind
source_sound : (image : Option (List ℕ)) (blank version : Option ℕ) (files : Option Files) (bytes : List ℕ) → is_either image blank version ≡ true → HasSource image blank version files bytes → IsSound bytes
source_sound (Some name) blank version files bytes either has = has.sound
source_sound None (Some sectors) version files bytes either has =
    let (least, most) = blank_fits version sectors either in
    subst IsSound (sym has) (blank_sound (by_version (blank_version version)) sectors least most)
source_sound None None version files bytes either has = absurd has

-- and all of them
pub images_sound : (files : Option Files) (platters : List BootPlatter) (images : Images) → list_all is_platter platters ≡ true → HaveImages files platters images → All IsSound images
images_sound files [] [] good have = All-nil IsSound
images_sound files [] (image ∷ images) good have = absurd have
images_sound files (p ∷ ps) [] good have = absurd have
images_sound files (p ∷ ps) (image ∷ images) good have =
    let (here, more) = and_parts (is_platter p) (list_all is_platter ps) good in
    let (address, rest) = and_parts (is_platter_address p.address) (is_either p.image p.blank p.version && may_be_named p.image) here in
    let (either, named) = and_parts (is_either p.image p.blank p.version) (may_be_named p.image) rest in
    All-cons IsSound image images (source_sound p.image p.blank p.version files image either have.0) (images_sound files ps images more have.1)
