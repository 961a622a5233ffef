-- A boot with sound images has sound platters, and they stay so.
use Rattle.std.specs.Prelude.{◌≡◌, ℕ, Bool, true, false, cond, List, [], ◌∷◌, All, Option, Some}
use Rattle.std.proofs.Common.{subst}
use Rattle.std.specs.Str.{bytes_eq}
use Rattle.std.proofs.lemmas.List.Elements.{All-head, All-tail}
use Rattle.b2_access.specs.Rows.{device_row}
use Rattle.b2_store.specs.Files.{IsSound}
use Rattle.b2_store.specs.Start.{with_keys}
use Rattle.b2_sched.proofs.OpenFiles.{booted_stay_sound}
use Rattle.b2_sched.specs.Sound.{RunsStaySound}
use Rattle.b2_sched.specs.Start.{Images, platter_addresses}

-- what stands at an address is one of the images
first_by : (image : List ℕ) (rest : Option (List ℕ)) (found : List ℕ) (here : Bool) → IsSound image → (rest ≡ Some found → IsSound found) → cond here (Some image) rest ≡ Some found → IsSound found
first_by image rest found true sound later is = let same : image ≡ found = cc in subst IsSound same sound
first_by image rest found false sound later is = later is

rows_sound : (addresses : List (List ℕ)) (images : Images) (a found : List ℕ) → All IsSound images → device_row a (with_keys addresses images) ≡ Some found → IsSound found
rows_sound [] images a found sound is = cc
rows_sound (k ∷ ks) [] a found sound is = cc
rows_sound (k ∷ ks) (image ∷ images) a found sound is =
    first_by image (device_row a (with_keys ks images)) found (bytes_eq k a) (All-head IsSound image images sound) (rows_sound ks images a found (All-tail IsSound image images sound)) is

pub runs_stay_sound : RunsStaySound
runs_stay_sound b images log sound = booted_stay_sound b images log (λ a found is. rows_sound (platter_addresses b.platters) images a found sound is)
