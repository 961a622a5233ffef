-- What is written beside devices, where none of these are.
use Rattle.std.specs.Prelude.{◌≡◌, List, [], ◌++◌}
use Rattle.std.proofs.Common.{◌∙◌}
use Rattle.std.proofs.lemmas.List.{append-nil}

pub nothing_after : {A : Type 0} (xs : List A) → xs ++ [] ≡ xs
nothing_after xs = append-nil xs

pub nothing_after_both : {A : Type 0} (xs : List A) → (xs ++ []) ++ [] ≡ xs
nothing_after_both xs = append-nil (xs ++ []) ∙ append-nil xs
