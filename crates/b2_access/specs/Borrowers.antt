-- Who stands inside a text: a list of partitions in order of entering, each as often as it has entered and not left.
use Rattle.std.specs.Prelude.{ℕ, ◌+◌, ◌*◌, ◌-◌, ◌==◌, Bool, not, List, [], ◌∷◌, ◌++◌, filter, if◌then◌else◌}
use Rattle.std.specs.Int.{bit_at}
use Rattle.std.specs.List.{list_any}
use Rattle.b2_flow.specs.Frames.{enters}
use Rattle.b2_flow.specs.declared.frame.Frame.{Frame}

-- how often a partition is in it
abbrev pub times : ℕ → List ℕ → ℕ
times p [] = 0
times p (x ∷ parts) = if x == p then times p parts + 1 else times p parts

abbrev pub is_inside : ℕ → List ℕ → Bool
is_inside p parts = list_any (λ x. x == p) parts

-- without all its entries, and without the last
abbrev pub without : ℕ → List ℕ → List ℕ
without p parts = filter (λ x. not (x == p)) parts

abbrev pub without_last : ℕ → List ℕ → List ℕ
without_last p [] = []
without_last p (x ∷ parts) = if is_inside p parts then x ∷ without_last p parts else (if x == p then parts else x ∷ parts)

-- whether a mask marks a partition: the bit is that of its number less 1
abbrev pub is_marked : ℕ → ℕ → Bool
is_marked h homes = bit_at homes (h - 1) == 1

abbrev pub all_partitions : List ℕ
all_partitions = 1 ∷ 2 ∷ 3 ∷ 4 ∷ 5 ∷ 6 ∷ 7 ∷ 8 ∷ 9 ∷ 10 ∷ 11 ∷ 12 ∷ 13 ∷ 14 ∷ 15 ∷ 16 ∷ []

-- the partitions that it marks
abbrev pub if_marked : ℕ → ℕ → List ℕ
if_marked homes h = if is_marked h homes then h ∷ [] else []

abbrev pub marked_among : ℕ → List ℕ → List ℕ
marked_among homes [] = []
marked_among homes (h ∷ parts) = if_marked homes h ++ marked_among homes parts

abbrev pub homes_marked : ℕ → List ℕ
homes_marked homes = marked_among homes all_partitions

-- the mask that marks those of some partitions that pass, the first by its lowest bit
abbrev pub mask_among : (ℕ → Bool) → List ℕ → ℕ
mask_among passes [] = 0
mask_among passes (h ∷ parts) = (if passes h then 1 else 0) + 2 * mask_among passes parts

-- and that of the partitions whose texts some calls entered
abbrev pub homes_entered : List Frame → ℕ
homes_entered frames = mask_among (λ h. list_any (enters h) frames) all_partitions
