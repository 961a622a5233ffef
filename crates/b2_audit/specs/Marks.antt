-- The marks that partitions leave where they touch and write: who wrote each object, and which partitions are clean. A
-- partition stays clean until it touches an object that another one wrote before.
use Rattle.std.specs.Prelude.{ℕ, ◌+◌, ◌-◌, Bool, false, List, [], ◌∷◌, get_or, set, replicate, Option, Some, None, if◌then◌else◌}
use Rattle.std.specs.Str.{bytes_eq}
use Rattle.b2_access.specs.declared.objects.Object.{Object}
use Rattle.b2_access.specs.declared.objects.Object.TheVariants as object
use Rattle.b2_audit.specs.PartSets.{has, with_part, without_part, has_other}

-- Who wrote each object: the sets of those who wrote the objects that have indices, and beside them the other objects that were
-- written, each with its set.
pub record Writers : Type 0 where
  pub indexed : List ℕ
  pub others : List (Object × ℕ)

-- with the set of the clean partitions
pub record Marks : Type 0 where
  pub writers : Writers
  pub clean : ℕ

-- The index of an object: texts, who stands inside each and `@` variables by partition, then terminals. Names and devices have
-- none: each stands among the others once it was written.
abbrev pub object_index : Object → Option ℕ
object_index (object.Text p) = Some (p - 1)
object_index (object.Borrow p) = Some (16 + (p - 1))
object_index (object.Globals p) = Some (32 + (p - 1))
object_index (object.Terminal t) = Some (48 + (t - 1))
object_index o = None

-- nobody wrote anything, and all sixteen partitions are clean
abbrev pub unmarked : Marks
unmarked = record { writers = record { indexed = replicate 60 0; others = [] }; clean = 65535 }

abbrev pub is_clean : ℕ → Marks → Bool
is_clean p m = has m.clean p

-- whether two objects without indices are the same
abbrev pub is_same : Object → Object → Bool
is_same (object.Name n) (object.Name m) = bytes_eq n m
is_same (object.Printer a) (object.Printer b) = bytes_eq a b
is_same (object.Platter a) (object.Platter b) = bytes_eq a b
is_same (object.Hog a) (object.Hog b) = bytes_eq a b
is_same x o = false

-- the set of one among the others, and these with one more partition there
abbrev pub set_among : Object → List (Object × ℕ) → ℕ
set_among o [] = 0
set_among o (e ∷ es) = if is_same e.0 o then e.1 else set_among o es

abbrev pub with_one_among : ℕ → Object → List (Object × ℕ) → List (Object × ℕ)
with_one_among who o [] = (o, with_part 0 who) ∷ []
with_one_among who o (e ∷ es) = if is_same e.0 o then (e.0, with_part e.1 who) ∷ es else e ∷ with_one_among who o es

-- the set of an object, by its index, and the sets with one more partition there
abbrev pub set_at : Option ℕ → Object → Writers → ℕ
set_at None o w = set_among o w.others
set_at (Some index) o w = get_or w.indexed index 0

abbrev pub with_one_at : Option ℕ → ℕ → Object → Writers → Writers
with_one_at None who o w = record w { others = with_one_among who o w.others }
with_one_at (Some index) who o w = record w { indexed = set w.indexed index (with_part (get_or w.indexed index 0) who) }

-- who wrote an object
abbrev pub writers_of : Object → Marks → ℕ
writers_of o m = set_at (object_index o) o m.writers

-- a partition touches an object
abbrev pub touch : ℕ → Object → Marks → Marks
touch who o m = if has_other (writers_of o m) who then record m { clean = without_part m.clean who } else m

-- a partition writes an object
abbrev pub write : ℕ → Object → Marks → Marks
write who o m = record m { writers = with_one_at (object_index o) who o m.writers }

abbrev pub touch_all : ℕ → List Object → Marks → Marks
touch_all who [] m = m
touch_all who (o ∷ os) m = touch_all who os (touch who o m)

abbrev pub write_all : ℕ → List Object → Marks → Marks
write_all who [] m = m
write_all who (o ∷ os) m = write_all who os (write who o m)

-- what a partition touched is judged by what was written before
abbrev pub marked : ℕ → List Object → List Object → Marks → Marks
marked who touched written m = write_all who written (touch_all who touched m)
