-- The first other among those who come first at what is reached.
use Rattle.std.specs.Prelude.{◌≡◌, ℕ, ◌==◌, Bool, true, false, List, [], ◌∷◌, ◌++◌, Option, Some, None, refl, if◌then◌else◌}
use Rattle.std.proofs.Common.{ap, ◌∙◌}
use Rattle.b2_access.specs.Reach.{to_free}
use Rattle.b2_access.specs.Stopping.{first_other, holders}
use Rattle.b2_access.specs.Store.{StoreState}

-- the one of the first list comes before that of the second
abbrev pub or_later : Option ℕ → Option ℕ → Option ℕ
or_later None later = later
or_later (Some q) later = Some q

pub first_of_both : (who : ℕ) (ps qs : List ℕ) → first_other who (ps ++ qs) ≡ or_later (first_other who ps) (first_other who qs)
first_of_both who [] qs = refl
first_of_both who (p ∷ ps) qs = by (p == who) (first_of_both who ps qs)
  where
    by : (b : Bool) → first_other who (ps ++ qs) ≡ or_later (first_other who ps) (first_other who qs)
        → (if b then first_other who (ps ++ qs) else Some p) ≡ or_later (if b then first_other who ps else Some p) (first_other who qs)
    by true rest = rest
    by false rest = refl

-- the holders of one device, of two, and of devices that are freed
alone : (o : Option ℕ) → or_later o None ≡ o
alone None = refl
alone (Some q) = refl

pub first_of_one : (who : ℕ) (ps : List ℕ) → first_other who (ps ++ []) ≡ first_other who ps
first_of_one who ps = first_of_both who ps [] ∙ alone (first_other who ps)

pub first_of_two : (who : ℕ) (ps qs : List ℕ) → first_other who (ps ++ (qs ++ [])) ≡ or_later (first_other who ps) (first_other who qs)
first_of_two who ps qs = first_of_both who ps (qs ++ []) ∙ ap (or_later (first_other who ps)) (first_of_one who qs)

pub first_of_freed : (addrs : List (List ℕ)) (s : StoreState) → holders (to_free addrs).devices s ≡ []
first_of_freed [] s = refl
first_of_freed (a ∷ addrs) s = first_of_freed addrs s
