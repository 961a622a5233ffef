-- Who holds devices, each of some gets a holder, and those among some that a partition holds.
use Rattle.std.specs.Prelude.{ℕ, List, [], ◌∷◌, Option, if◌then◌else◌}
use Rattle.b2_access.specs.declared.objects.Object.TheVariants as object
use Rattle.b2_access.specs.AccessRows.{is_held_by}
use Rattle.b2_access.specs.Store.{StoreState, content, put}

abbrev pub all_held : Option ℕ → List (List ℕ) → StoreState → StoreState
all_held holder [] s = s
all_held holder (a ∷ addrs) s = all_held holder addrs (put (object.Hog a) holder s)

abbrev pub own_among : ℕ → List (List ℕ) → StoreState → List (List ℕ)
own_among who [] s = []
own_among who (a ∷ addrs) s = if is_held_by who (content s (object.Hog a)) then a ∷ own_among who addrs s else own_among who addrs s
