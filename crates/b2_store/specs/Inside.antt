-- Who stands inside texts: one enters a text, leaves it once, or gives texts back.
use Rattle.std.specs.Prelude.{ℕ, List, [], ◌∷◌, ◌++◌, Option, Some, None}
use Rattle.b2_access.specs.declared.objects.Object.TheVariants as object
use Rattle.b2_access.specs.Borrowers.{without, without_last}
use Rattle.b2_access.specs.Store.{StoreState, content, put}

-- the list of a text changes, where it has one
abbrev pub changed_at : Option (List ℕ) → (List ℕ → List ℕ) → ℕ → StoreState → StoreState
changed_at None change home s = s
changed_at (Some parts) change home s = put (object.Borrow home) (change parts) s

abbrev pub changed : (List ℕ → List ℕ) → ℕ → StoreState → StoreState
changed change home s = changed_at (content s (object.Borrow home)) change home s

abbrev pub entered : ℕ → ℕ → StoreState → StoreState
entered who home s = changed (λ parts. parts ++ who ∷ []) home s

abbrev pub left : ℕ → ℕ → StoreState → StoreState
left who home s = changed (without_last who) home s

abbrev pub given_one_back : ℕ → ℕ → StoreState → StoreState
given_one_back who home s = changed (without who) home s

abbrev pub given_back : ℕ → List ℕ → StoreState → StoreState
given_back who [] s = s
given_back who (home ∷ homes) s = given_back who homes (given_one_back who home s)
