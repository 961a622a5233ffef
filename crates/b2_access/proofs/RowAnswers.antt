-- The rows of the accesses: each tells the answers that it says, and writes nothing that it doesn't reach.
use Rattle.std.specs.Prelude.{◌≡◌, ℕ, nat_lt, Bool, true, false, List, [], ◌∷◌, ◌++◌, slice_get, Option, Some, None, Result, Ok, Err, refl}
use Rattle.std.proofs.Common.{inl, inr}
use Rattle.b2_base.specs.declared.files.Slot.{Slot}
use Rattle.b2_text.specs.Program.{TextState, size_of, with_line, without as without_lines}
use Rattle.b2_text.specs.declared.spots.Spot.{Spot}
use Rattle.b2_vars.specs.Tables.{VarsState}
use Rattle.b2_term.specs.Terminal.{line_read}
use Rattle.b2_term.specs.declared.KeyItem.{KeyItem}
use Rattle.b2_term.specs.declared.KeyItem.TheVariants as key
use Rattle.b2_term.specs.declared.Read.{Read}
use Rattle.b2_term.specs.declared.Read.TheVariants as read
use Rattle.b2_access.specs.declared.objects.Object.{Object}
use Rattle.b2_access.specs.declared.objects.Object.TheVariants as object
use Rattle.b2_access.specs.declared.accesses.Access.{Access}
use Rattle.b2_access.specs.declared.accesses.Access.TheVariants as access
use Rattle.b2_access.specs.declared.accesses.Answer.{Answer}
use Rattle.b2_access.specs.declared.accesses.Answer.TheVariants as answer
use Rattle.b2_access.specs.AccessRows.{becomes, changes_image, clears, clears_both, clears_text, declares, finds, finds_in_image, frees, frees_if, gives_up, gives_up_if, is_held_by, is_held_by_other, key_answer, line_answer, loaded_answer, loads, loads_from, moves, moves_from, no_block, no_file, puts_atoms, puts_line, reach, row, saves, saves_in, says_or_refuses, takes, takes_name, EditTask, LoadTask, edits, enters, enters_at, erases, gives_back, gives_back_from, leaves, mark_in, stands_inside, becomes_text, clears_and_gives_back, clears_own, disk_and_name, drops_no_more, holds_name, loads_and_gives_back, loads_and_gives_up, loads_lines, loads_nothing, stays_text}
use Rattle.b2_access.specs.AnswerKinds.{is_done, is_done_or_code, is_of_block, is_of_key, is_of_line, is_of_loading, is_of_opening, is_of_place, is_of_search, stops, is_of_entering}
use Rattle.b2_access.specs.Answering.{RowsTellTheirAnswers, TellsOnly}
use Rattle.b2_access.specs.Borrowers.{homes_marked, without}
use Rattle.b2_access.specs.Disks.{Loaded, Made, DiskWork}
use Rattle.b2_access.specs.Reach.{device_objects, objects_held, objects_named, objects_reached, to_free, to_take, borrow_entered, borrows, entered_text}
use Rattle.b2_access.specs.Serving.{performs}
use Rattle.b2_access.specs.Store.{ContentOf, IsIn, StoreState, content}
use Rattle.b2_access.specs.Task.{AreIn, Task, Look, Tell, Refuse, Missing, also_puts, puts, wider, answers, in_left, in_right}
use Rattle.b2_access.specs.Touching.{entered_in}
use Rattle.b2_access.proofs.Choice.{either}

of_line : (r : Read) → (is_of_line (line_answer r) ≡ true) × (stops (line_answer r) ≡ false)
of_line (read.Line bytes) = (refl, refl)
of_line (read.Special n) = (refl, refl)
of_line read.NoKeys = (refl, refl)

of_key : (k : Option KeyItem) → (is_of_key (key_answer k) ≡ true) × (stops (key_answer k) ≡ false)
of_key None = (refl, refl)
of_key (Some (key.Byte b)) = (refl, refl)
of_key (Some (key.Special n)) = (refl, refl)

-- a task that is wider, or puts one more content, tells the same
pub tells_wider : {reached written : List Object} (tells : Answer → Bool) (o : Object) (t : Task reached written) → TellsOnly tells t → TellsOnly tells (wider o t)
tells_wider tells o (Look x there next) h = λ c. tells_wider tells o (next c) (h c)
tells_wider tells o (Tell puts x) h = h
tells_wider tells o (Refuse c) h = h
tells_wider tells o Missing h = h

tells_also : {reached written : List Object} (tells : Answer → Bool) (o : Object) (there : IsIn o written) (c : ContentOf o) (t : Task reached written) → TellsOnly tells t → TellsOnly tells (also_puts o there c t)
tells_also tells o there c (Look x at next) h = λ seen. tells_also tells o there c (next seen) (h seen)
tells_also tells o there c (Tell puts x) h = h
tells_also tells o there c (Refuse code) h = h
tells_also tells o there c Missing h = h

-- and so does one that gives up a name
of_giving_up : {reached written : List Object} (tells : Answer → Bool) (who : ℕ) (name : Option (List ℕ)) (looked : AreIn (objects_named name) reached) (told : AreIn (objects_named name) written) (t : Task reached written)
    → TellsOnly tells t → TellsOnly tells (gives_up who name looked told t)
of_giving_up tells who None looked told t h = h
of_giving_up {reached} {written} tells who (Some name) looked told t h = λ c. by (is_held_by who c)
  where
    by : (own : Bool) → TellsOnly tells (gives_up_if {reached = reached} {written = written} own name (told (object.Name name) (inl refl)) t)
    by true = tells_also tells (object.Name name) (told (object.Name name) (inl refl)) None t h
    by false = h

-- and one that gives texts back
pub of_giving_back : {reached written : List Object} (tells : Answer → Bool) (who : ℕ) (homes : List ℕ) (looked : AreIn (borrows homes) reached) (told : AreIn (borrows homes) written) (t : Task reached written)
    → TellsOnly tells t → TellsOnly tells (gives_back who homes looked told t)
of_giving_back tells who [] looked told t h = h
of_giving_back {reached} {written} tells who (g ∷ homes) looked told t h =
    λ c. by c (gives_back who homes (λ o i. looked o (inr i)) (λ o i. told o (inr i)) t) (of_giving_back tells who homes (λ o i. looked o (inr i)) (λ o i. told o (inr i)) t h)
  where
    by : (c : Option (List ℕ)) (x : Task reached written) → TellsOnly tells x → TellsOnly tells (gives_back_from who g (told (object.Borrow g) (inl refl)) x c)
    by None x rest = rest
    by (Some parts) x rest = tells_also tells (object.Borrow g) (told (object.Borrow g) (inl refl)) (without who parts) x rest

of_editing : (tells : Answer → Bool) (who homes : ℕ) (t : EditTask who homes) → TellsOnly tells t → TellsOnly tells (edits who homes t)
of_editing tells who homes t h = of_giving_back tells who (homes_marked homes) (λ o i. inr (inr (in_left o (borrows (homes_marked homes)) [] i))) (λ o i. inr i) t h

of_atoms : (who homes n : ℕ) (atoms : List ℕ) (t : Option TextState) → TellsOnly is_done_or_code (puts_atoms who homes n atoms t)
of_atoms who homes n atoms None = of_editing is_done_or_code who homes (stays_text who homes) (refl, refl)
of_atoms who homes n atoms (Some t) =
    either (TellsOnly is_done_or_code) (nat_lt t.area (size_of (with_line n atoms t.lines))) _ _ refl
    (of_editing is_done_or_code who homes (becomes_text who homes (record t { lines = with_line n atoms t.lines })) (refl, refl))

pub of_erasing : (tells : Answer → Bool) → tells answer.Done ≡ true → (who homes from to : ℕ) (t : Option TextState) → TellsOnly tells (erases who homes from to t)
of_erasing tells done who homes from to None = of_editing tells who homes (stays_text who homes) (done, refl)
of_erasing tells done who homes from to (Some t) = of_editing tells who homes (becomes_text who homes (record t { lines = without_lines from to t.lines })) (done, refl)

of_put : (who homes n : ℕ) (atoms : Option (List ℕ)) (t : Option TextState) → TellsOnly is_done_or_code (puts_line who homes n atoms t)
of_put who homes n None t = of_erasing is_done_or_code refl who homes n n t
of_put who homes n (Some atoms) t = of_atoms who homes n atoms t

of_both : (who homes : ℕ) (name : Option (List ℕ)) (t : TextState) (v : Option VarsState) → TellsOnly is_done (clears_both who homes name t v)
of_both who homes name t None = (refl, refl)
of_both who homes name t (Some v) = (refl, refl)

pub of_text : (who homes : ℕ) (name : Option (List ℕ)) (t : Option TextState) → TellsOnly is_done (clears_text who homes name t)
of_text who homes name None = (refl, refl)
of_text who homes name (Some t) = of_both who homes name t

of_clearing : (who homes : ℕ) (name : Option (List ℕ)) → TellsOnly is_done (clears who homes name)
of_clearing who homes name =
    let told = borrows (homes_marked homes) in
    of_giving_up is_done who name (λ o i. inr (inr (inr (in_right o told (objects_named name) i)))) (λ o i. inr (inr (in_right o told (objects_named name) i))) (clears_and_gives_back who homes name)
    (of_giving_back is_done who (homes_marked homes) (λ o i. inr (inr (inr (in_left o told (objects_named name) i)))) (λ o i. inr (inr (in_left o told (objects_named name) i))) (clears_own who homes name) (of_text who homes name))

-- entering, leaving and giving back
of_entering : (who : ℕ) (name : List ℕ) (mark : ℕ) (holder : Option ℕ) → TellsOnly is_of_entering (enters who name mark holder)
of_entering who name mark None = refl
of_entering who name mark (Some g) = λ t. by (mark_in mark t)
  where
    inside : (spot : Spot) (c : Option (List ℕ)) → TellsOnly is_of_entering (stands_inside who name g spot c)
    inside spot None = (refl, refl)
    inside spot (Some parts) = (refl, refl)

    by : (o : Option Spot) → TellsOnly is_of_entering (enters_at who name g o)
    by None = refl
    by (Some spot) = inside spot

of_leaving : (who home : ℕ) (c : Option (List ℕ)) → TellsOnly is_done (leaves who home c)
of_leaving who home None = (refl, refl)
of_leaving who home (Some parts) = (refl, refl)

-- an answer that a row tells, and that stops nothing
abbrev IsTelling : (Answer → Bool) → Answer → Type 0
IsTelling tells x = (tells x ≡ true) × (stops x ≡ false)

-- what is told where a disk is changed, or looked at, and every code
module _ (tells : Answer → Bool) (addr : List ℕ) (unlisted : Answer) (there : IsTelling tells unlisted) (refuses : (c : ℕ) → tells (answer.Refused c) ≡ true) where
  of_change : {New : Type 0} (image_of : New → List ℕ) (says : New → Answer) → ((n : New) → IsTelling tells (says n)) → (made : List ℕ → Result New ℕ) (c : Option (List ℕ)) → TellsOnly tells (changes_image addr unlisted image_of says made c)
  of_change image_of says told made None = there
  of_change {New} image_of says told made (Some image) = by (made image)
    where
      by : (r : Result New ℕ) → TellsOnly tells (becomes addr image_of says r)
      by (Ok new) = told new
      by (Err code) = refuses code

  of_finding : {Found : Type 0} (says : Found → Answer) → ((f : Found) → IsTelling tells (says f)) → (finds : List ℕ → Result Found ℕ) (c : Option (List ℕ)) → TellsOnly tells (finds_in_image addr unlisted says finds c)
  of_finding says told finds None = there
  of_finding {Found} says told finds (Some image) = by (finds image)
    where
      by : (r : Result Found ℕ) → TellsOnly tells (says_or_refuses addr says r)
      by (Ok found) = told found
      by (Err code) = refuses code

of_done : (addr : List ℕ) (made : List ℕ → Result (List ℕ) ℕ) (c : Option (List ℕ)) → TellsOnly is_done_or_code (changes_image addr answer.Done (λ image. image) (λ image. answer.Done) made c)
of_done addr made c = of_change is_done_or_code addr answer.Done (refl, refl) (λ c. refl) (λ image. image) (λ image. answer.Done) (λ n. (refl, refl)) made c

of_placing : (addr : List ℕ) (at : ℕ) (made : List ℕ → Result (Made ℕ) ℕ) (c : Option (List ℕ)) → TellsOnly is_of_place (changes_image addr (answer.Moved at) (λ m. m.image) (λ m. answer.Moved m.told) made c)
of_placing addr at made c = of_change is_of_place addr (answer.Moved at) (refl, refl) (λ c. refl) (λ m. m.image) (λ m. answer.Moved m.told) (λ m. (refl, refl)) made c

of_saving : (who : ℕ) (addr : List ℕ) (made : TextState → List ℕ → Result (List ℕ) ℕ) (c : Option (List ℕ)) → TellsOnly is_done_or_code (saves_in who addr made c)
of_saving who addr made None = (refl, refl)
of_saving who addr made (Some image) = elim [ None ↦ (refl, refl) | Some t ↦ by (made t image) ]
  where
    by : (r : Result (List ℕ) ℕ) → TellsOnly is_done_or_code (saves who addr r)
    by (Ok new) = (refl, refl)
    by (Err code) = refl

of_loading : (who homes : ℕ) (addr : List ℕ) (declared : Option (List ℕ)) (t : LoadTask who homes addr declared) → TellsOnly is_done_or_code t → TellsOnly is_done_or_code (loads_and_gives_up who homes addr declared t)
of_loading who homes addr declared t h =
    let told = borrows (homes_marked homes) in
    of_giving_up is_done_or_code who declared (λ o i. inr (inr (in_right o told (disk_and_name addr declared) (inr (inr i))))) (λ o i. inr (in_right o told (objects_named declared) i)) (loads_and_gives_back who homes addr declared t)
    (of_giving_back is_done_or_code who (homes_marked homes) (λ o i. inr (inr (in_left o told (disk_and_name addr declared) i))) (λ o i. inr (in_left o told (objects_named declared) i)) t h)

of_program : (who homes : ℕ) (addr : List ℕ) (declared : Option (List ℕ)) (made : List ℕ → TextState → Result TextState ℕ) (c : Option (List ℕ)) → TellsOnly is_done_or_code (loads_from who homes addr declared made c)
of_program who homes addr declared made None = of_loading who homes addr declared (loads_nothing who homes addr declared) (refl, refl)
of_program who homes addr declared made (Some image) = elim [ None ↦ of_loading who homes addr declared (loads_nothing who homes addr declared) (refl, refl) | Some t ↦ by (made image t) ]
  where
    by : (r : Result TextState ℕ) → TellsOnly is_done_or_code (loads who homes addr declared r)
    by (Ok new) = of_loading who homes addr declared (loads_lines who homes addr declared new) (refl, refl)
    by (Err code) = refl

of_moving : (from to : List ℕ) (made : List ℕ → List ℕ → Result (List ℕ) ℕ) (c : Option (List ℕ)) → TellsOnly is_done_or_code (moves_from from to made c)
of_moving from to made None = (refl, refl)
of_moving from to made (Some image) = elim [ None ↦ (refl, refl) | Some other ↦ by (made image other) ]
  where
    by : (r : Result (List ℕ) ℕ) → TellsOnly is_done_or_code (moves from to r)
    by (Ok new) = (refl, refl)
    by (Err code) = refl

pub of_taking : (who : ℕ) (addrs : List (List ℕ)) → TellsOnly is_done (takes who addrs)
of_taking who [] = (refl, refl)
of_taking who (a ∷ addrs) = tells_also is_done (object.Hog a) (inl refl) (Some who) (wider (object.Hog a) (takes who addrs)) (tells_wider is_done (object.Hog a) (takes who addrs) (of_taking who addrs))

pub of_freeing : (who : ℕ) (addrs : List (List ℕ)) → TellsOnly is_done (frees who addrs)
of_freeing who [] = (refl, refl)
of_freeing who (a ∷ addrs) = λ h. by (is_held_by who h) (tells_wider is_done (object.Hog a) (frees who addrs) (of_freeing who addrs))
  where
    by : (own : Bool) → TellsOnly is_done (wider (object.Hog a) (frees who addrs)) → TellsOnly is_done (frees_if who own a addrs (wider (object.Hog a) (frees who addrs)))
    by true rest = tells_also is_done (object.Hog a) (inl refl) None (wider (object.Hog a) (frees who addrs)) rest
    by false rest = rest

of_declaring : (who : ℕ) (name : List ℕ) (old : Option (List ℕ)) → TellsOnly is_done_or_code (takes_name who name old)
of_declaring who name old = of_giving_up is_done_or_code who old (λ o i. inr i) (λ o i. inr i) (holds_name who name old) (refl, refl)

of_search : (name : List ℕ) (h : Option (Option ℕ)) → TellsOnly is_of_search (finds name h)
of_search name None = refl
of_search name (Some None) = refl
of_search name (Some (Some p)) = (refl, refl)

of_loaded : (l : Option Loaded) → IsTelling is_of_loading (loaded_answer l)
of_loaded None = (refl, refl)
of_loaded (Some l) = (refl, refl)

pub rows_tell_their_answers : RowsTellTheirAnswers
rows_tell_their_answers disks (access.Show term bytes column) who holder = elim [ None ↦ (refl, refl) | Some t ↦ (refl, refl) ]
rows_tell_their_answers disks (access.PrintTo addr bytes column) who holder = elim [ None ↦ (refl, refl) | Some printed ↦ (refl, refl) ]
rows_tell_their_answers disks (access.OpenDevices addrs) who holder = of_taking who addrs
rows_tell_their_answers disks (access.CloseDevices addrs) who holder = of_freeing who addrs
rows_tell_their_answers disks (access.ReadLine term) who holder = elim [ None ↦ (refl, refl) | Some t ↦ of_line (line_read t) ]
rows_tell_their_answers disks (access.Insert term bytes) who holder = elim [ None ↦ (refl, refl) | Some t ↦ (refl, refl) ]
rows_tell_their_answers disks (access.Key term) who holder = elim [ None ↦ (refl, refl) | Some t ↦ of_key (slice_get t.queue 0) ]
rows_tell_their_answers disks (access.Release term) who holder = elim [ None ↦ (refl, refl) | Some t ↦ (refl, refl) ]
rows_tell_their_answers disks (access.PutLine line atoms homes) who holder = of_put who homes line atoms
rows_tell_their_answers disks (access.Erase from to homes) who holder = of_erasing is_done refl who homes from to
rows_tell_their_answers disks (access.ClearAll name homes) who holder = of_clearing who homes name
rows_tell_their_answers disks (access.Enter name mark) who holder = of_entering who name mark holder
rows_tell_their_answers disks (access.Leave home) who holder = of_leaving who home
rows_tell_their_answers disks (access.Drop homes) who holder = of_giving_back is_done who (homes_marked homes) (λ o i. in_left o (borrows (homes_marked homes)) [] i) (λ o i. i) (drops_no_more (homes_marked homes)) (refl, refl)
rows_tell_their_answers disks (access.Declare name old) who holder = λ h. either (TellsOnly is_done_or_code) (is_held_by_other who h) _ _ refl (of_declaring who name old)
rows_tell_their_answers disks (access.FindPart name) who holder = of_search name
rows_tell_their_answers disks (access.Limits addr name) who holder = elim [ None ↦ (refl, refl) | Some image ↦ (refl, refl) ]
rows_tell_their_answers disks (access.ListDisk addr) who holder = elim [ None ↦ (refl, refl) | Some image ↦ (refl, refl) ]
rows_tell_their_answers disks (access.Scratch addr name) who holder = of_done addr (disks.scratch name)
rows_tell_their_answers disks (access.Format addr index end) who holder = of_done addr (disks.format index end)
rows_tell_their_answers disks (access.DataNew addr old sectors name) who holder =
    of_change is_of_opening addr (answer.Opened (no_file addr name)) (refl, refl) (λ c. refl) (λ m. m.image) (λ m. answer.Opened m.told) (λ m. (refl, refl)) (disks.data_new addr old sectors name)
rows_tell_their_answers disks (access.DataOpen addr name) who holder = of_finding is_of_opening addr (answer.Opened (no_file addr name)) (refl, refl) (λ c. refl) answer.Opened (λ s. (refl, refl)) (disks.data_open addr name)
rows_tell_their_answers disks (access.DataSave slot values) who holder = of_placing slot.addr slot.pos (disks.data_save slot values)
rows_tell_their_answers disks (access.DataEnd slot) who holder = of_placing slot.addr slot.pos (disks.data_end slot)
rows_tell_their_answers disks (access.DataLoad slot kinds) who holder = of_finding is_of_loading slot.addr answer.AtEnd (refl, refl) (λ c. refl) loaded_answer of_loaded (disks.data_load slot kinds)
rows_tell_their_answers disks (access.Skip slot way) who holder = of_finding is_of_place slot.addr (answer.Moved slot.pos) (refl, refl) (λ c. refl) answer.Moved (λ n. (refl, refl)) (disks.skip slot way)
rows_tell_their_answers disks (access.SaveProgram addr old name from to) who holder = of_saving who addr (disks.save_program old name from to)
rows_tell_their_answers disks (access.LoadProgram addr name replace declared homes) who holder = of_program who homes addr declared (disks.load_program name replace)
rows_tell_their_answers disks (access.RawSave addr at values) who holder = of_placing addr at (disks.raw_save at values)
rows_tell_their_answers disks (access.RawEnd addr at) who holder = of_placing addr at (disks.raw_end at)
rows_tell_their_answers disks (access.RawLoad addr at kinds) who holder = of_finding is_of_loading addr answer.AtEnd (refl, refl) (λ c. refl) loaded_answer of_loaded (disks.raw_load at kinds)
rows_tell_their_answers disks (access.BlockSave addr at bytes) who holder = of_placing addr at (disks.block_save at bytes)
rows_tell_their_answers disks (access.BlockLoad addr at) who holder = of_finding is_of_block addr (answer.Block no_block) (refl, refl) (λ c. refl) answer.Block (λ b. (refl, refl)) (disks.block_load at)
rows_tell_their_answers disks (access.MovePlatter from to) who holder = of_moving from to disks.move_platter
rows_tell_their_answers disks (access.MoveFile from name to) who holder = of_moving from to (disks.move_file name)

-- what a row writes is written of the text that its answer says, where nothing stops it
pub rows_write_as_told : (disks : DiskWork) (a : Access) (who : ℕ) (holder : Option ℕ) (s : StoreState) → stops (performs ((row a).does disks who holder) s).answer ≡ false
    → (row a).writes who (entered_in (performs ((row a).does disks who holder) s).answer) ≡ (row a).writes who holder
rows_write_as_told disks (access.Enter name mark) who None s goes = cc
rows_write_as_told disks (access.Enter name mark) who (Some g) s goes = by (mark_in mark (content s (object.Text g))) goes
  where
    inside : (spot : Spot) (c : Option (List ℕ)) → borrow_entered (entered_in (performs (stands_inside who name g spot c) s).answer) ≡ object.Borrow g ∷ []
    inside spot None = refl
    inside spot (Some parts) = refl

    by : (o : Option Spot) → stops (performs (enters_at who name g o) s).answer ≡ false → borrow_entered (entered_in (performs (enters_at who name g o) s).answer) ≡ object.Borrow g ∷ []
    by None goes = cc
    by (Some spot) goes = inside spot (content s (object.Borrow g))
rows_write_as_told disks (access.PutLine line atoms homes) who holder s goes = refl
rows_write_as_told disks a who holder s goes = refl

-- who holds devices is reached where they are taken and where they are freed
taken_reached : (who : ℕ) (addrs : List (List ℕ)) (o : Object) → IsIn o (objects_held addrs) → IsIn o (device_objects (to_take addrs).devices ++ [])
taken_reached who [] o i = absurd i
taken_reached who (a ∷ addrs) o i = elim i [ inl e ↦ inl e | inr j ↦ inr (taken_reached who addrs o j) ]

freed_reached : (who : ℕ) (addrs : List (List ℕ)) (o : Object) → IsIn o (objects_held addrs) → IsIn o (device_objects (to_free addrs).devices ++ [])
freed_reached who [] o i = absurd i
freed_reached who (a ∷ addrs) o i = elim i [ inl e ↦ inl e | inr j ↦ inr (freed_reached who addrs o j) ]

-- those who stand inside texts are reached where these are given back
back_reached : (homes : List ℕ) (o : Object) (rest : List Object) → IsIn o (borrows homes) → IsIn o (borrows homes ++ rest)
back_reached homes o rest i = in_left o (borrows homes) rest i

-- with what is beside them
beside_reached : (homes : List ℕ) (o : Object) (more names : List Object) → IsIn o (borrows homes ++ names) → IsIn o (borrows homes ++ (more ++ names))
beside_reached [] o more names i = in_right o more names i
beside_reached (h ∷ homes) o more names i = elim i [ inl e ↦ inl e | inr j ↦ inr (beside_reached homes o more names j) ]

entered_reached : (name : List ℕ) (holder : Option ℕ) (o : Object) → IsIn o (borrow_entered holder) → IsIn o (object.Name name ∷ (entered_text holder ++ []))
entered_reached name None o i = absurd i
entered_reached name (Some g) o i = inr (inr i)

-- what is written is reached
pub written_is_reached : (a : Access) (who : ℕ) (holder : Option ℕ) (o : Object) → IsIn o ((row a).writes who holder) → IsIn o (objects_reached who holder (reach a))
written_is_reached (access.Show term bytes column) who holder o i = i
written_is_reached (access.PrintTo addr bytes column) who holder o i = inr i
written_is_reached (access.OpenDevices addrs) who holder o i = taken_reached who addrs o i
written_is_reached (access.CloseDevices addrs) who holder o i = freed_reached who addrs o i
written_is_reached (access.ReadLine term) who holder o i = i
written_is_reached (access.Insert term bytes) who holder o i = i
written_is_reached (access.Key term) who holder o i = i
written_is_reached (access.Release term) who holder o i = i
written_is_reached (access.PutLine line atoms homes) who holder o i = inr (elim i [ inl e ↦ inl e | inr j ↦ inr (back_reached (homes_marked homes) o [] j) ])
written_is_reached (access.Erase from to homes) who holder o i = inr (elim i [ inl e ↦ inl e | inr j ↦ inr (back_reached (homes_marked homes) o [] j) ])
written_is_reached (access.ClearAll name homes) who holder o i = inr i
written_is_reached (access.Enter name mark) who holder o i = entered_reached name holder o i
written_is_reached (access.Leave home) who holder o i = i
written_is_reached (access.Drop homes) who holder o i = back_reached (homes_marked homes) o [] i
written_is_reached (access.Declare name old) who holder o i = i
written_is_reached (access.FindPart name) who holder o i = absurd i
written_is_reached (access.Limits addr name) who holder o i = absurd i
written_is_reached (access.ListDisk addr) who holder o i = absurd i
written_is_reached (access.Scratch addr name) who holder o i = inr i
written_is_reached (access.Format addr index end) who holder o i = inr i
written_is_reached (access.DataNew addr old sectors name) who holder o i = inr i
written_is_reached (access.DataOpen addr name) who holder o i = absurd i
written_is_reached (access.DataSave slot values) who holder o i = inr i
written_is_reached (access.DataEnd slot) who holder o i = inr i
written_is_reached (access.DataLoad slot kinds) who holder o i = absurd i
written_is_reached (access.Skip slot way) who holder o i = absurd i
written_is_reached (access.SaveProgram addr old name from to) who holder o i = inr (inr i)
written_is_reached (access.LoadProgram addr name replace declared homes) who holder o i =
    inr (elim i [ inl e ↦ inl e | inr j ↦ inr (beside_reached (homes_marked homes) o (object.Hog addr ∷ object.Platter addr ∷ []) (objects_named declared) j) ])
written_is_reached (access.RawSave addr at values) who holder o i = inr i
written_is_reached (access.RawEnd addr at) who holder o i = inr i
written_is_reached (access.RawLoad addr at kinds) who holder o i = absurd i
written_is_reached (access.BlockSave addr at bytes) who holder o i = inr i
written_is_reached (access.BlockLoad addr at) who holder o i = absurd i
written_is_reached (access.MovePlatter from to) who holder o i = inr (inr (inr i))
written_is_reached (access.MoveFile from name to) who holder o i = inr (inr (inr i))
