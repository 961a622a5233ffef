-- What works between two items of a list come to, by the rows of accesses.
use Rattle.std.specs.Prelude.{◌≡◌, ℕ, Bool, List, Option, Some, None, Result, Ok, Err, IfOk, refl}
use Rattle.std.proofs.Common.{ap, sym, ◌∙◌}
use Rattle.b2_base.specs.declared.codes.Fault.{Fault}
use Rattle.b2_base.specs.declared.codes.Fault.TheVariants as fault
use Rattle.b2_text.specs.Program.{TextState}
use Rattle.b2_catalog.specs.Results.{FailsBy}
use Rattle.b2_access.specs.declared.accesses.Access.TheVariants as access
use Rattle.b2_access.specs.declared.accesses.Answer.{Answer}
use Rattle.b2_access.specs.declared.accesses.Answer.TheVariants as answer
use Rattle.b2_access.specs.declared.objects.Object.{Object}
use Rattle.b2_access.specs.declared.objects.Object.TheVariants as object
use Rattle.b2_access.specs.AccessRows.{holder_at, loads, loads_from, loads_text, moves, moves_from, moves_to, row, saves, saves_in, saves_text}
use Rattle.b2_access.specs.Serving.{performs}
use Rattle.b2_access.specs.Sharing.{Gives}
use Rattle.b2_access.specs.Store.{StoreState, content, put}
use Rattle.b2_store.specs.Asked.{moving}
use Rattle.b2_store.specs.DiskWork.{disks}
use Rattle.b2_store.specs.FileWork.{moved}
use Rattle.b2_store.specs.Kept.{content_if, first_kept, is_kept, platter_in, store_in, text_in, with_platter, with_text}
use Rattle.b2_store.specs.KeptLaws.{changed, found}
use Rattle.b2_store.specs.Refusals.{IsRefusal}
use Rattle.b2_store.specs.Spares.{GlobalsRows}
use Rattle.b2_store.specs.TwoRows.{MoveFails}
use Rattle.b2_store.specs.Work.{image_made, image_put, items_worked, lines_made, lines_put, put_first, worked_on}
use Rattle.b2_store.specs.declared.kept_item.Kept.{Kept}
use Rattle.b2_store.specs.declared.work.Work.TheVariants as work
use Rattle.b2_store.proofs.KeptItems.{changed_here, put_again}

module _ (rows : GlobalsRows) (xs : List Kept) where
  abbrev s : StoreState
  s = store_in rows xs

  abbrev stays : Gives StoreState
  stays = record { after = s; answer = answer.Done }

  -- the list that there is then, or a code
  abbrev pub given : Result (List Kept) ℕ → Gives StoreState
  given (Ok ys) = record { after = store_in rows ys; answer = answer.Done }
  given (Err code) = record { after = s; answer = answer.Refused code }

  -- an item that is put again changes nothing
  again : (o : Object) (k : Kept) → first_kept (is_kept o) xs ≡ Some k → given (put_first o xs (Ok k)) ≡ stays
  again o k is = ap (λ (ys : List Kept). given (Ok ys)) (put_again (is_kept o) xs k is)

  image_there : (a image : List ℕ) (k : Kept) → first_kept (is_kept (object.Platter a)) xs ≡ Some k → given (put_first (object.Platter a) xs (image_put k (Ok image))) ≡ record { after = put (object.Platter a) image s; answer = answer.Done }
  image_there a image k is =
      ap (λ (ys : List Kept). given (Ok ys)) (changed_here (is_kept (object.Platter a)) (λ (x : Kept). with_platter x image) xs k is)
      ∙ ap (λ (t : StoreState). record { after = record t { globals = rows }; answer = answer.Done }) (changed (object.Platter a) xs image)

  text_there : (p : ℕ) (t : TextState) (k : Kept) → first_kept (is_kept (object.Text p)) xs ≡ Some k → given (put_first (object.Text p) xs (lines_put k (Ok t))) ≡ record { after = put (object.Text p) t s; answer = answer.Done }
  text_there p t k is =
      ap (λ (ys : List Kept). given (Ok ys)) (changed_here (is_kept (object.Text p)) (λ (x : Kept). with_text x t) xs k is)
      ∙ ap (λ (v : StoreState). record { after = record v { globals = rows }; answer = answer.Done }) (changed (object.Text p) xs t)

  -- SAVING
  module _ (who : ℕ) (addr : List ℕ) (made : TextState → List ℕ → Result (List ℕ) ℕ) where
    saves_made : (k : Kept) → first_kept (is_kept (object.Platter addr)) xs ≡ Some k → (r : Result (List ℕ) ℕ) → given (put_first (object.Platter addr) xs (image_put k r)) ≡ performs (saves who addr r) s
    saves_made k is (Ok image) = image_there addr image k is
    saves_made k is (Err code) = refl

    saves_both : (k : Kept) → first_kept (is_kept (object.Platter addr)) xs ≡ Some k → (t : Option TextState) → content s (object.Text who) ≡ t → (image : Option (List ℕ))
        → given (put_first (object.Platter addr) xs (image_made made t image k)) ≡ performs (saves_in who addr made image) s
    saves_both k is None there None = again (object.Platter addr) k is
    saves_both k is (Some t) there None = again (object.Platter addr) k is
    saves_both k is None there (Some image) = again (object.Platter addr) k is ∙ sym (ap (λ (o : Option TextState). performs (saves_text who addr made image o) s) there)
    saves_both k is (Some t) there (Some image) = saves_made k is (made t image) ∙ sym (ap (λ (o : Option TextState). performs (saves_text who addr made image o) s) there)

    saves_nothing : content s (object.Text who) ≡ None → (image : Option (List ℕ)) → stays ≡ performs (saves_in who addr made image) s
    saves_nothing none None = refl
    saves_nothing none (Some image) = sym (ap (λ (o : Option TextState). performs (saves_text who addr made image o) s) none)

  module _ (who : ℕ) (addr : List ℕ) (old : Option (List ℕ)) (name : List ℕ) (from to : ℕ) where
    saved_by : (t k : Option Kept) → first_kept (is_kept (object.Text who)) xs ≡ t → first_kept (is_kept (object.Platter addr)) xs ≡ k
        → given (worked_on (work.Save old name from to) (object.Platter addr) xs t k) ≡ performs (saves_in who addr (disks.save_program old name from to) (content_if (object.Platter addr) k)) s
    saved_by None k is_t is_k =
        saves_nothing who addr (disks.save_program old name from to) (sym (found (object.Text who) xs) ∙ ap (content_if (object.Text who)) is_t) (content_if (object.Platter addr) k)
    saved_by (Some t) None is_t is_k = refl
    saved_by (Some t) (Some k) is_t is_k =
        saves_both who addr (disks.save_program old name from to) k is_k (text_in t) (sym (found (object.Text who) xs) ∙ ap (content_if (object.Text who)) is_t) (platter_in k)

    pub saved_as : given (items_worked (work.Save old name from to) (object.Text who) (object.Platter addr) xs) ≡ performs ((row (access.SaveProgram addr old name from to)).does disks who None) s
    saved_as =
        saved_by (first_kept (is_kept (object.Text who)) xs) (first_kept (is_kept (object.Platter addr)) xs) refl refl
        ∙ ap (λ (o : Option (List ℕ)). performs (saves_in who addr (disks.save_program old name from to) o) s) (found (object.Platter addr) xs)

  -- LOADING
  module _ (who : ℕ) (addr : List ℕ) (made : List ℕ → TextState → Result TextState ℕ) where
    loads_made : (k : Kept) → first_kept (is_kept (object.Text who)) xs ≡ Some k → (r : Result TextState ℕ) → given (put_first (object.Text who) xs (lines_put k r)) ≡ performs (loads who 0 addr None r) s
    loads_made k is (Ok t) = text_there who t k is
    loads_made k is (Err code) = refl

    loads_both : (k : Kept) → first_kept (is_kept (object.Text who)) xs ≡ Some k → (image : Option (List ℕ)) (t : Option TextState) → content s (object.Text who) ≡ t
        → given (put_first (object.Text who) xs (lines_made made image t k)) ≡ performs (loads_from who 0 addr None made image) s
    loads_both k is None t there = again (object.Text who) k is
    loads_both k is (Some image) None there = again (object.Text who) k is ∙ sym (ap (λ (o : Option TextState). performs (loads_text who 0 addr None made image o) s) there)
    loads_both k is (Some image) (Some t) there = loads_made k is (made image t) ∙ sym (ap (λ (o : Option TextState). performs (loads_text who 0 addr None made image o) s) there)

    loads_nowhere : content s (object.Text who) ≡ None → (image : Option (List ℕ)) → stays ≡ performs (loads_from who 0 addr None made image) s
    loads_nowhere none None = refl
    loads_nowhere none (Some image) = sym (ap (λ (o : Option TextState). performs (loads_text who 0 addr None made image o) s) none)

  module _ (who : ℕ) (addr name : List ℕ) (replace : Bool) where
    loaded_by : (r k : Option Kept) → first_kept (is_kept (object.Platter addr)) xs ≡ r → first_kept (is_kept (object.Text who)) xs ≡ k
        → given (worked_on (work.Load name replace) (object.Text who) xs r k) ≡ performs (loads_from who 0 addr None (disks.load_program name replace) (content_if (object.Platter addr) r)) s
    loaded_by None k is_r is_k = refl
    loaded_by (Some r) None is_r is_k =
        loads_nowhere who addr (disks.load_program name replace) (sym (found (object.Text who) xs) ∙ ap (content_if (object.Text who)) is_k) (platter_in r)
    loaded_by (Some r) (Some k) is_r is_k =
        loads_both who addr (disks.load_program name replace) k is_k (platter_in r) (text_in k) (sym (found (object.Text who) xs) ∙ ap (content_if (object.Text who)) is_k)

    pub loaded_as : given (items_worked (work.Load name replace) (object.Platter addr) (object.Text who) xs) ≡ performs ((row (access.LoadProgram addr name replace None 0)).does disks who None) s
    loaded_as =
        loaded_by (first_kept (is_kept (object.Platter addr)) xs) (first_kept (is_kept (object.Text who)) xs) refl refl
        ∙ ap (λ (o : Option (List ℕ)). performs (loads_from who 0 addr None (disks.load_program name replace) o) s) (found (object.Platter addr) xs)

  -- MOVING
  module _ (from to : List ℕ) (made : List ℕ → List ℕ → Result (List ℕ) ℕ) where
    moves_made : (k : Kept) → first_kept (is_kept (object.Platter to)) xs ≡ Some k → (r : Result (List ℕ) ℕ) → given (put_first (object.Platter to) xs (image_put k r)) ≡ performs (moves from to r) s
    moves_made k is (Ok image) = image_there to image k is
    moves_made k is (Err code) = refl

    moves_both : (k : Kept) → first_kept (is_kept (object.Platter to)) xs ≡ Some k → (image other : Option (List ℕ)) → content s (object.Platter to) ≡ other
        → given (put_first (object.Platter to) xs (image_made made image other k)) ≡ performs (moves_from from to made image) s
    moves_both k is None other there = again (object.Platter to) k is
    moves_both k is (Some image) None there = again (object.Platter to) k is ∙ sym (ap (λ (o : Option (List ℕ)). performs (moves_to from to made image o) s) there)
    moves_both k is (Some image) (Some other) there = moves_made k is (made image other) ∙ sym (ap (λ (o : Option (List ℕ)). performs (moves_to from to made image o) s) there)

    moves_nowhere : content s (object.Platter to) ≡ None → (image : Option (List ℕ)) → stays ≡ performs (moves_from from to made image) s
    moves_nowhere none None = refl
    moves_nowhere none (Some image) = sym (ap (λ (o : Option (List ℕ)). performs (moves_to from to made image o) s) none)

    abbrev done_on : Option Kept → Option Kept → Result (List Kept) ℕ
    done_on None k = Ok xs
    done_on (Some r) None = Ok xs
    done_on (Some r) (Some k) = put_first (object.Platter to) xs (image_made made (platter_in r) (platter_in k) k)

    moved_by : (r k : Option Kept) → first_kept (is_kept (object.Platter to)) xs ≡ k → given (done_on r k) ≡ performs (moves_from from to made (content_if (object.Platter from) r)) s
    moved_by None k is_k = refl
    moved_by (Some r) None is_k = moves_nowhere (sym (found (object.Platter to) xs) ∙ ap (content_if (object.Platter to)) is_k) (platter_in r)
    moved_by (Some r) (Some k) is_k = moves_both k is_k (platter_in r) (platter_in k) (sym (found (object.Platter to) xs) ∙ ap (content_if (object.Platter to)) is_k)

    all_moved : given (done_on (first_kept (is_kept (object.Platter from)) xs) (first_kept (is_kept (object.Platter to)) xs)) ≡ performs (moves_from from to made (content s (object.Platter from))) s
    all_moved =
        moved_by (first_kept (is_kept (object.Platter from)) xs) (first_kept (is_kept (object.Platter to)) xs) refl
        ∙ ap (λ (o : Option (List ℕ)). performs (moves_from from to made o) s) (found (object.Platter from) xs)

  module _ (who : ℕ) (from to : List ℕ) where
    same_work : (name : Option (List ℕ)) (r k : Option Kept) → worked_on (work.Move name) (object.Platter to) xs r k ≡ done_on from to (moved name) r k
    same_work name None k = refl
    same_work name (Some r) None = refl
    same_work name (Some r) (Some k) = refl

    pub moved_as : (name : Option (List ℕ)) → given (items_worked (work.Move name) (object.Platter from) (object.Platter to) xs) ≡ performs ((row (moving from name to)).does disks who (holder_at (moving from name to) s)) s
    moved_as None = ap given (same_work None (first_kept (is_kept (object.Platter from)) xs) (first_kept (is_kept (object.Platter to)) xs)) ∙ all_moved from to disks.move_platter
    moved_as (Some name) = ap given (same_work (Some name) (first_kept (is_kept (object.Platter from)) xs) (first_kept (is_kept (object.Platter to)) xs)) ∙ all_moved from to (disks.move_file name)

  -- and where nothing is done, the answer has the code
  pub refused : {E : Type 0} (f : Fault) (ys : List Kept) (said : Result (List Kept) ℕ) (end : Gives StoreState) (r : Result Answer E) → IfOk r (IsRefusal f) → FailsBy said f → ys ≡ xs → given said ≡ end
      → IfOk r (λ a. ◌≡◌ {A = Gives StoreState} (record { after = store_in rows ys; answer = a }) end)
  refused (fault.Code code) ys said end (Ok a) is fails same to =
      let answered : ◌≡◌ {A = Gives StoreState} (record { after = store_in rows ys; answer = a }) (record { after = s; answer = answer.Refused code }) = cc in
      answered ∙ sym (ap given fails) ∙ to
  refused fault.NoMemory ys said end (Ok a) is fails same to = absurd is
  refused f ys said end (Err e) is fails same to = is

  by_code : (name : Option (List ℕ)) (f : Fault) (said : Result (List Kept) ℕ) → MoveFails name said f → FailsBy said f
  by_code name (fault.Code code) said is = is
  by_code name fault.NoMemory said is = tt

  pub not_moved : {E : Type 0} (name : Option (List ℕ)) (f : Fault) (ys : List Kept) (said : Result (List Kept) ℕ) (end : Gives StoreState) (r : Result Answer E) → IfOk r (IsRefusal f) → MoveFails name said f → ys ≡ xs → given said ≡ end
      → IfOk r (λ a. ◌≡◌ {A = Gives StoreState} (record { after = store_in rows ys; answer = a }) end)
  not_moved name f ys said end r is fails same to = refused f ys said end r is (by_code name f said fails) same to
