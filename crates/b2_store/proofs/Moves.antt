-- Files that are moved, by the rows of the platters.
use Rattle.std.specs.Prelude.{◌≡◌, ◌≢◌, ℕ, false, List, Option, Some, None, Result, Ok, Err, IfOk, refl}
use Rattle.std.specs.Map.{lookup}
use Rattle.std.specs.Str.{bytes_eq}
use Rattle.std.proofs.Common.{sym, ap, ◌∙◌}
use Rattle.std.proofs.lemmas.Bool.{false_from_ne_true}
use Rattle.std.proofs.lemmas.Slice.Eq.{bytes_eq-Decides}
use Rattle.b2_base.specs.declared.codes.Fault.{Fault}
use Rattle.b2_base.specs.declared.codes.Fault.TheVariants as fault
use Rattle.b2_access.specs.declared.accesses.Answer.{Answer}
use Rattle.b2_access.specs.declared.accesses.Answer.TheVariants as answer
use Rattle.b2_access.specs.declared.objects.Object.TheVariants as object
use Rattle.b2_access.specs.AccessRows.{holder_at, moves, moves_from, moves_to, row}
use Rattle.b2_access.specs.Serving.{performs}
use Rattle.b2_access.specs.Sharing.{Gives}
use Rattle.b2_access.specs.Store.{StoreState, content}
use Rattle.b2_store.specs.Asked.{moving}
use Rattle.b2_store.specs.DiskWork.{disks}
use Rattle.b2_store.specs.FileWork.{moved}
use Rattle.b2_store.specs.Refusals.{IsRefusal}
use Rattle.b2_store.specs.TwoRows.{MoveFails, Platters, moved_from_row, moved_to_row, rows_moved, with_moved}

pub apart_bytes : (a b : List ℕ) → a ≢ b → bytes_eq a b ≡ false
apart_bytes a b apart = false_from_ne_true (bytes_eq a b) (λ is. apart ((bytes_eq-Decides a b).0 is))

-- the rows that there are then, or a code
abbrev pub given : StoreState → Result Platters ℕ → Gives StoreState
given s (Ok rows) = record { after = record s { platters = rows }; answer = answer.Done }
given s (Err code) = record { after = s; answer = answer.Refused code }

module _ (name : Option (List ℕ)) (made : List ℕ → List ℕ → Result (List ℕ) ℕ) (is : (a b : List ℕ) → made a b ≡ moved name a b) (from to : List ℕ) (s : StoreState) where
  by_result : (r : Result (List ℕ) ℕ) → performs (moves from to r) s ≡ given s (with_moved to s.platters r)
  by_result (Ok image) = refl
  by_result (Err code) = refl

  by_to : (image : List ℕ) (o : Option (List ℕ)) → performs (moves_to from to made image o) s ≡ given s (moved_to_row name to s.platters image o)
  by_to image None = refl
  by_to image (Some other) = by_result (made image other) ∙ ap (λ (r : Result (List ℕ) ℕ). given s (with_moved to s.platters r)) (is image other)

  by_from : (o : Option (List ℕ)) → performs (moves_from from to made o) s ≡ given s (moved_from_row name to s.platters o)
  by_from None = refl
  by_from (Some image) = by_to image (content s (object.Platter to))

pub moves_as : (who : ℕ) (from to : List ℕ) (name : Option (List ℕ)) (s : StoreState) → performs ((row (moving from name to)).does disks who (holder_at (moving from name to) s)) s ≡ given s (rows_moved name from to s.platters)
moves_as who from to None s = by_from None disks.move_platter (λ a b. refl) from to s (content s (object.Platter from))
moves_as who from to (Some name) s = by_from (Some name) (disks.move_file name) (λ a b. refl) from to s (content s (object.Platter from))

-- and where nothing is moved, the answer has the code
pub refused_as : {E : Type 0} (who : ℕ) (from to : List ℕ) (name : Option (List ℕ)) (s t : StoreState) (f : Fault) (r : Result Answer E) → IfOk r (IsRefusal f) → MoveFails name (rows_moved name from to s.platters) f → t ≡ s
    → IfOk r (λ a. ◌≡◌ {A = Gives StoreState} (record { after = t; answer = a }) (performs ((row (moving from name to)).does disks who (holder_at (moving from name to) s)) s))
refused_as who from to name s t (fault.Code code) (Ok a) is fails same =
    let answered : ◌≡◌ {A = Gives StoreState} (record { after = t; answer = a }) (record { after = s; answer = answer.Refused code }) = cc in
    answered ∙ sym (moves_as who from to name s ∙ ap (given s) fails)
refused_as who from to name s t fault.NoMemory (Ok a) is fails same = absurd is
refused_as who from to name s t f (Err e) is fails same = is

-- where one of the two isn't listed all rows stay
pub first_unlisted : (name : Option (List ℕ)) (from to : List ℕ) (rows : Platters) → lookup (λ k. bytes_eq k from) rows ≡ None → rows_moved name from to rows ≡ Ok rows
first_unlisted name from to rows is = ap (moved_from_row name to rows) is

pub second_unlisted : (name : Option (List ℕ)) (from to : List ℕ) (rows : Platters) → lookup (λ k. bytes_eq k to) rows ≡ None → rows_moved name from to rows ≡ Ok rows
second_unlisted name from to rows is = by (lookup (λ k. bytes_eq k from) rows)
  where
    by : (o : Option (List ℕ)) → moved_from_row name to rows o ≡ Ok rows
    by None = refl
    by (Some image) = ap (moved_to_row name to rows image) is
