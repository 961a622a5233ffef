-- The head of an image as it is written, and what is read from it.
use Rattle.std.proofs.Common.{◌≡◌, ℕ, ◌+◌, ◌-◌, ◌*◌, ◌≤◌, List, ◌∷◌, ◌++◌, length, take, drop, replicate, refl, sym, arith, append_assoc, length-append, length-drop, length-take}
use Rattle.std.proofs.lemmas.List.{take_at, drop_at, drop-drop}
use Rattle.b2_platter.specs.declared.layout.Layout.{Layout}
use Rattle.b2_platter.specs.declared.layout.Layout.TheVariants.{Narrow, Wide}
use Rattle.b2_platter.specs.Layout.{version_of, width_of}
use Rattle.b2_platter.specs.Edits.{sector_number_bytes, head_bytes}

-- three numbers written one after the other
pub head_made : (layout : Layout) (v i total end next w w' : ℕ) (x y z : List ℕ) → v ≡ version_of layout → w ≡ width_of layout → w' ≡ width_of layout → x ≡ take 2 (v ∷ i ∷ replicate 14 0) ++ (sector_number_bytes layout total ++ drop (2 + width_of layout) (v ∷ i ∷ replicate 14 0)) → y ≡ take (2 + w) x ++ (sector_number_bytes layout end ++ drop (2 + w + width_of layout) x) → z ≡ take (2 + 2 * w') y ++ (sector_number_bytes layout next ++ drop (2 + 2 * w' + width_of layout) y) → z ≡ head_bytes layout i total end next
unfolding head_bytes
head_made Narrow v i total end next w w' x y z ev ew ew' ex ey ez = rw (ez, ey, ex, ew, ew', ev) refl
head_made Wide v i total end next w w' x y z ev ew ew' ex ey ez = rw (ez, ey, ex, ew, ew', ev) refl

-- a head put in front, and 00 after it
pub cleared : (image_head bytes front middle : List ℕ) (n : ℕ) → length image_head ≡ 16 → 16 ≤ n → n ≤ length bytes → front ≡ image_head → middle ≡ replicate (n - 16) 0 → take 16 (front ++ drop 16 bytes) ++ (middle ++ drop (n - 16) (drop 16 (front ++ drop 16 bytes))) ≡ image_head ++ replicate (n - 16) 0 ++ drop n bytes
cleared image_head bytes front middle n long low high f m =
    let front_is = take_at image_head (drop 16 bytes) 16 long in
    let rest_is = drop_at image_head (drop 16 bytes) 16 long in
    let n_is : 16 + (n - 16) ≡ n = omega arith in
    rw (f, m, front_is, rest_is, drop-drop (n - 16) 16 bytes, n_is) (sym (append_assoc image_head (replicate (n - 16) 0) (drop n bytes)))

pub cleared_room : (front bytes : List ℕ) (n : ℕ) → length front ≡ 16 → n ≤ length bytes → length (take (n - 16) (drop 16 (front ++ drop 16 bytes))) ≡ n - 16
cleared_room front bytes n long high =
    omega (arith, length-take (n - 16) (drop 16 (front ++ drop 16 bytes)), length-drop 16 (front ++ drop 16 bytes), length-append front (drop 16 bytes), length-drop 16 bytes)
