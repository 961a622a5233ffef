-- The elements that a move takes, and what it leaves.
use Rattle.std.specs.Prelude.{ℕ, ◌*◌, ◌/◌, ◌==◌, nat_le, List, ◌++◌, length, take, drop, if◌then◌else◌, Result, Ok, Err}
use Rattle.std.specs.List.{flat_map, take_while}
use Rattle.b2_base.specs.declared.codes.TheConstants.{X76_LOCATOR_OR_FIELD}
use Rattle.b2_alpha.specs.Values.{padded}
use Rattle.b2_matalpha.specs.Elements.{element_at, element_count}
use Rattle.b2_matalpha.specs.Locators.{places_read}

-- the places that a move looks at: no more than there are elements to assign
abbrev pub wanted_places : List ℕ → ℕ → List ℕ → List ℕ
wanted_places locators to_len to = take (length to / to_len) (places_read locators)

-- those of them before the first that is past the array
abbrev pub moved_places : List ℕ → ℕ → List ℕ → List ℕ
moved_places of len places = take_while (λ place. nat_le place (element_count len of)) places

-- their elements, each as long as one that is assigned, and what stands after them
abbrev pub after_move : List ℕ → ℕ → List ℕ → ℕ → List ℕ → List ℕ
after_move of len places to_len to =
    flat_map (λ place. padded to_len (element_at len of place)) (moved_places of len places) ++ drop (length (moved_places of len places) * to_len) to

-- how many were moved, where none of the places is past the array
abbrev pub move_answer : List ℕ → ℕ → List ℕ → Result ℕ ℕ
move_answer of len places =
    if length (moved_places of len places) == length places then Ok (length places) else Err X76_LOCATOR_OR_FIELD
