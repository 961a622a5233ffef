-- The report on a disk image.
use Rattle.std.specs.Prelude.{ℕ, List, [], ◌∷◌, ◌++◌, codes, decimal, Option, Some, None}
use Rattle.b2_base.specs.Byte as byte
use Rattle.b2_catalog.specs.Listing.{listing_of}
use Rattle.b2_platter.specs.Checks.{own_check}

-- `good`, and the lines of the listing
abbrev pub good_report : List ℕ → List ℕ
good_report image = codes "good\n" ++ listing_of image

-- `bad N`
abbrev pub bad_report : ℕ → List ℕ
bad_report check = codes "bad " ++ decimal check ++ byte.newline ∷ []

abbrev pub report_by : List ℕ → Option ℕ → List ℕ
report_by image None = good_report image
report_by image (Some check) = bad_report check

-- an image is good where it fails none of the nine checks; else the first that it fails is named
abbrev pub report_of : List ℕ → List ℕ
report_of image = report_by image (own_check image)
