-- Which answers stop an access, and by whom.
use Rattle.std.specs.Prelude.{◌≡◌, ◌↔◌, ◌<◌, ℕ, nat_lt, Bool, true, false, List, [], ◌∷◌, Option, Some, None, Result, Ok, Err, refl, if◌then◌else◌}
use Rattle.std.proofs.Common.{sym, ap, ◌∙◌, inl, inr, arith}
use Rattle.std.proofs.lemmas.Bool.{false≢true}
use Rattle.std.proofs.lemmas.Bool.Decides.{nat_tests}
use Rattle.b2_base.specs.declared.codes.TheConstants.{A01_TEXT_AREA, P38_NO_DEFFN, X78_NAME_HELD}
use Rattle.b2_text.specs.Program.{TextState, size_of, with_line, without as without_lines}
use Rattle.b2_text.specs.declared.spots.Spot.{Spot}
use Rattle.b2_access.specs.declared.objects.Object.{Object}
use Rattle.b2_access.specs.declared.objects.Object.TheVariants as object
use Rattle.b2_access.specs.declared.accesses.Access.{Access}
use Rattle.b2_access.specs.declared.accesses.Access.TheVariants as access
use Rattle.b2_access.specs.declared.accesses.Answer.{Answer}
use Rattle.b2_access.specs.declared.accesses.Answer.TheVariants as answer
use Rattle.b2_access.specs.AccessRows.{DeclareTask, EditTask, becomes, changes_image, declares, erases, finds, finds_in_image, gives_up, gives_up_if, is_held_by, is_held_by_other, loaded_answer, loads, loads_from, loads_text, moves, moves_from, moves_to, no_block, no_file, puts_atoms, row, saves, saves_in, saves_text, says_or_refuses, takes_name, LoadTask, edits, enters, enters_at, gives_back, gives_back_from, holder_at, mark_in, stands_inside, becomes_text, disk_and_name, holds_name, loads_and_gives_back, loads_and_gives_up, loads_lines, loads_nothing, stays_text}
use Rattle.b2_access.specs.Causes.{GivesCode, GivesCodeOf, IsFullFor, LocksForTheFirst, MeetsCode, MeetsNobody, MissesNobodyElse, RefusesWithTheCode, WaitsForTheFirst, LacksMark}
use Rattle.b2_access.specs.AnswerKinds.{stops}
use Rattle.b2_access.specs.Borrowers.{homes_marked, without}
use Rattle.b2_access.specs.Disks.{DiskWork, Loaded}
use Rattle.b2_access.specs.Reach.{objects_named, borrows}
use Rattle.b2_access.specs.Serving.{performs}
use Rattle.b2_access.specs.Store.{ContentOf, IsIn, StoreState, content, holder_of}
use Rattle.b2_access.specs.Task.{AreIn, Task, Look, Tell, Refuse, Missing, also_puts, puts, answers, in_left, in_right}
use Rattle.b2_access.proofs.RowLaws.{locks, misses, refuses, waits}
use Rattle.b2_access.proofs.TaskLaws.{is_told}
use Rattle.b2_access.proofs.RowAnswers.{rows_tell_their_answers}

pub waits_for_the_first : WaitsForTheFirst
waits_for_the_first disks who q a s = waits (row a) disks who (rows_tell_their_answers disks a who) s q

pub locks_for_the_first : LocksForTheFirst
locks_for_the_first disks who q a s = locks (row a) disks who (rows_tell_their_answers disks a who) s q

-- an access whose row tells no code meets none
never : (disks : DiskWork) (who c : ℕ) (a : Access) (s : StoreState) → (row a).tells (answer.Refused c) ≡ false → (performs ((row a).does disks who (holder_at a s)) s).answer ≡ answer.Refused c → ⊥
never disks who c a s untold e = false≢true (sym untold ∙ ap (row a).tells (sym e) ∙ (is_told (row a).tells ((row a).does disks who (holder_at a s)) s (rows_tell_their_answers disks a who (holder_at a s))).says)

-- what gives up a name answers what it does without that
same_answer : {reached written : List Object} (o : Object) (there : IsIn o written) (c : ContentOf o) (t : Task reached written) (s : StoreState) → (performs (also_puts o there c t) s).answer ≡ (performs t s).answer
same_answer o there c (Look x at next) s = same_answer o there c (next (content s x)) s
same_answer o there c (Tell puts x) s = refl
same_answer o there c (Refuse code) s = refl
same_answer o there c Missing s = refl

same_giving_up : {reached written : List Object} (who : ℕ) (name : Option (List ℕ)) (looked : AreIn (objects_named name) reached) (told : AreIn (objects_named name) written) (t : Task reached written) (s : StoreState)
    → (performs (gives_up who name looked told t) s).answer ≡ (performs t s).answer
same_giving_up who None looked told t s = refl
same_giving_up {reached} {written} who (Some name) looked told t s = by (is_held_by who (content s (object.Name name)))
  where
    by : (own : Bool) → (performs (gives_up_if {reached = reached} {written = written} own name (told (object.Name name) (inl refl)) t) s).answer ≡ (performs t s).answer
    by true = same_answer (object.Name name) (told (object.Name name) (inl refl)) None t s
    by false = refl

-- nor does giving texts back change the answer
same_giving_back : {reached written : List Object} (who : ℕ) (homes : List ℕ) (looked : AreIn (borrows homes) reached) (told : AreIn (borrows homes) written) (t : Task reached written) (s : StoreState)
    → (performs (gives_back who homes looked told t) s).answer ≡ (performs t s).answer
same_giving_back who [] looked told t s = refl
same_giving_back {reached} {written} who (h ∷ homes) looked told t s =
    by (content s (object.Borrow h)) (gives_back who homes (λ o i. looked o (inr i)) (λ o i. told o (inr i)) t) ∙ same_giving_back who homes (λ o i. looked o (inr i)) (λ o i. told o (inr i)) t s
  where
    by : (c : Option (List ℕ)) (x : Task reached written) → (performs (gives_back_from who h (told (object.Borrow h) (inl refl)) x c) s).answer ≡ (performs x s).answer
    by None x = refl
    by (Some parts) x = same_answer (object.Borrow h) (told (object.Borrow h) (inl refl)) (without who parts) x s

same_editing : (who homes : ℕ) (t : EditTask who homes) (s : StoreState) → (performs (edits who homes t) s).answer ≡ (performs t s).answer
same_editing who homes t s = same_giving_back who (homes_marked homes) (λ o i. inr (inr (in_left o (borrows (homes_marked homes)) [] i))) (λ o i. inr i) t s

same_loading : (who homes : ℕ) (addr : List ℕ) (declared : Option (List ℕ)) (t : LoadTask who homes addr declared) (s : StoreState) → (performs (loads_and_gives_up who homes addr declared t) s).answer ≡ (performs t s).answer
same_loading who homes addr declared t s =
    let told = borrows (homes_marked homes) in
    same_giving_up who declared (λ o i. inr (inr (in_right o told (disk_and_name addr declared) (inr (inr i))))) (λ o i. inr (in_right o told (objects_named declared) i)) (loads_and_gives_back who homes addr declared t) s
    ∙ same_giving_back who (homes_marked homes) (λ o i. inr (inr (in_left o told (disk_and_name addr declared) i))) (λ o i. inr (in_left o told (objects_named declared) i)) t s

-- an answer that stops nothing is no code
no_code : (c : ℕ) (x : Answer) → stops x ≡ false → x ≡ answer.Refused c → ⊥
no_code c x never e = false≢true (sym never ∙ ap stops e)

done_no_code : (c : ℕ) (x : Answer) → x ≡ answer.Done → x ≡ answer.Refused c → ⊥
done_no_code c x done e = no_code c answer.Done refl (sym done ∙ e)

-- a line that is put
full_refuses : (who homes c n : ℕ) (atoms : List ℕ) (s : StoreState) (t : Option TextState)
    → ((performs (puts_atoms who homes n atoms t) s).answer ≡ answer.Refused c) ↔ ((c ≡ A01_TEXT_AREA) × IsFullFor n atoms t)
full_refuses who homes c n atoms s None = (λ e. absurd (done_no_code c (performs (edits who homes (stays_text who homes)) s).answer (same_editing who homes (stays_text who homes) s) e), λ h. absurd h.1)
full_refuses who homes c n atoms s (Some t) = by (nat_lt t.area (size_of (with_line n atoms t.lines))) refl
  where
    put : EditTask who homes
    put = becomes_text who homes (record t { lines = with_line n atoms t.lines })

    by_room : Bool → EditTask who homes
    by_room full = if full then Refuse A01_TEXT_AREA else edits who homes put

    by : (b : Bool) → nat_lt t.area (size_of (with_line n atoms t.lines)) ≡ b
        → ((performs (by_room b) s).answer ≡ answer.Refused c)
        ↔ ((c ≡ A01_TEXT_AREA) × (t.area < size_of (with_line n atoms t.lines)))
    by true is =
        let full : t.area < size_of (with_line n atoms t.lines) = grind (arith, nat_tests) in
        (λ e. let code : A01_TEXT_AREA ≡ c = cc in (sym code, full), λ h. ap answer.Refused (sym h.0))
    by false is = (λ e. absurd (done_no_code c (performs (edits who homes put) s).answer (same_editing who homes put s) e), λ h. let full = h.1 in absurd (grind (arith, nat_tests)))

-- a line that is taken out
out_never : (who homes c n : ℕ) (s : StoreState) (t : Option TextState) → (performs (erases who homes n n t) s).answer ≡ answer.Refused c → ⊥
out_never who homes c n s None e = done_no_code c (performs (edits who homes (stays_text who homes)) s).answer (same_editing who homes (stays_text who homes) s) e
out_never who homes c n s (Some t) e =
    let put = becomes_text who homes (record t { lines = without_lines n n t.lines }) in
    done_no_code c (performs (edits who homes put) s).answer (same_editing who homes put s) e

same_code : (c code : ℕ) → answer.Refused code ≡ answer.Refused c → code ≡ c
same_code c code e = cc

err_code : {A : Type 0} (c code : ℕ) → ◌≡◌ {A = Result A ℕ} (Err code) (Err c) → code ≡ c
err_code c code e = cc

-- what is made of an image, or looked for in it, whose other answers stop nothing
module _ (c : ℕ) (addr : List ℕ) (unlisted : Answer) (there : stops unlisted ≡ false) (s : StoreState) where
  change_refuses : {New : Type 0} (image_of : New → List ℕ) (says : New → Answer) → ((n : New) → stops (says n) ≡ false) → (made : List ℕ → Result New ℕ) (image : Option (List ℕ))
      → ((performs (changes_image addr unlisted image_of says made image) s).answer ≡ answer.Refused c) ↔ GivesCode c made image
  change_refuses image_of says goes made None = (λ e. no_code c unlisted there e, λ h. absurd h)
  change_refuses {New} image_of says goes made (Some image) = by (made image)
    where
      by : (r : Result New ℕ) → ((performs (becomes addr image_of says r) s).answer ≡ answer.Refused c) ↔ (r ≡ Err c)
      by (Ok new) = (λ e. absurd (no_code c (says new) (goes new) e), λ e. cc)
      by (Err code) = (λ e. ap Err (same_code c code e), λ e. ap answer.Refused (err_code c code e))

  finding_refuses : {Found : Type 0} (says : Found → Answer) → ((f : Found) → stops (says f) ≡ false) → (finds : List ℕ → Result Found ℕ) (image : Option (List ℕ))
      → ((performs (finds_in_image addr unlisted says finds image) s).answer ≡ answer.Refused c) ↔ GivesCode c finds image
  finding_refuses says goes finds None = (λ e. no_code c unlisted there e, λ h. absurd h)
  finding_refuses {Found} says goes finds (Some image) = by (finds image)
    where
      by : (r : Result Found ℕ) → ((performs (says_or_refuses addr says r) s).answer ≡ answer.Refused c) ↔ (r ≡ Err c)
      by (Ok found) = (λ e. absurd (no_code c (says found) (goes found) e), λ e. cc)
      by (Err code) = (λ e. ap Err (same_code c code e), λ e. ap answer.Refused (err_code c code e))

-- what is made of a text and an image, and of two images
save_refuses : (who c : ℕ) (addr : List ℕ) (made : TextState → List ℕ → Result (List ℕ) ℕ) (s : StoreState) (image : Option (List ℕ))
    → ((performs (saves_in who addr made image) s).answer ≡ answer.Refused c) ↔ GivesCodeOf c made (content s (object.Text who)) image
save_refuses who c addr made s None = by (content s (object.Text who))
  where
    by : (t : Option TextState) → (answer.Done ≡ answer.Refused c) ↔ GivesCodeOf c made t None
    by None = (λ e. absurd (no_code c answer.Done refl e), λ h. absurd h)
    by (Some t) = (λ e. absurd (no_code c answer.Done refl e), λ h. absurd h)
save_refuses who c addr made s (Some image) = by (content s (object.Text who))
  where
    made_by : (r : Result (List ℕ) ℕ) → ((performs (saves who addr r) s).answer ≡ answer.Refused c) ↔ (r ≡ Err c)
    made_by (Ok new) = (λ e. absurd (no_code c answer.Done refl e), λ e. cc)
    made_by (Err code) = (λ e. ap Err (same_code c code e), λ e. ap answer.Refused (err_code c code e))

    by : (t : Option TextState) → ((performs (saves_text who addr made image t) s).answer ≡ answer.Refused c) ↔ GivesCodeOf c made t (Some image)
    by None = (λ e. absurd (no_code c answer.Done refl e), λ h. absurd h)
    by (Some t) = made_by (made t image)

program_refuses : (who homes c : ℕ) (addr : List ℕ) (declared : Option (List ℕ)) (made : List ℕ → TextState → Result TextState ℕ) (s : StoreState) (image : Option (List ℕ))
    → ((performs (loads_from who homes addr declared made image) s).answer ≡ answer.Refused c) ↔ GivesCodeOf c made image (content s (object.Text who))
program_refuses who homes c addr declared made s None = (λ e. absurd (done_no_code c (performs (loads_and_gives_up who homes addr declared (loads_nothing who homes addr declared)) s).answer (same_loading who homes addr declared (loads_nothing who homes addr declared) s) e), λ h. absurd h)
program_refuses who homes c addr declared made s (Some image) = by (content s (object.Text who))
  where
    made_by : (r : Result TextState ℕ) → ((performs (loads who homes addr declared r) s).answer ≡ answer.Refused c) ↔ (r ≡ Err c)
    made_by (Ok new) = (λ e. absurd (done_no_code c (performs (loads_and_gives_up who homes addr declared (loads_lines who homes addr declared new)) s).answer (same_loading who homes addr declared (loads_lines who homes addr declared new) s) e), λ e. cc)
    made_by (Err code) = (λ e. ap Err (same_code c code e), λ e. ap answer.Refused (err_code c code e))

    by : (t : Option TextState) → ((performs (loads_text who homes addr declared made image t) s).answer ≡ answer.Refused c) ↔ GivesCodeOf c made (Some image) t
    by None = (λ e. absurd (done_no_code c (performs (loads_and_gives_up who homes addr declared (loads_nothing who homes addr declared)) s).answer (same_loading who homes addr declared (loads_nothing who homes addr declared) s) e), λ h. absurd h)
    by (Some t) = made_by (made image t)

move_refuses : (c : ℕ) (from to : List ℕ) (made : List ℕ → List ℕ → Result (List ℕ) ℕ) (s : StoreState) (image : Option (List ℕ))
    → ((performs (moves_from from to made image) s).answer ≡ answer.Refused c) ↔ GivesCodeOf c made image (content s (object.Platter to))
move_refuses c from to made s None = (λ e. absurd (no_code c answer.Done refl e), λ h. absurd h)
move_refuses c from to made s (Some image) = by (content s (object.Platter to))
  where
    made_by : (r : Result (List ℕ) ℕ) → ((performs (moves from to r) s).answer ≡ answer.Refused c) ↔ (r ≡ Err c)
    made_by (Ok new) = (λ e. absurd (no_code c answer.Done refl e), λ e. cc)
    made_by (Err code) = (λ e. ap Err (same_code c code e), λ e. ap answer.Refused (err_code c code e))

    by : (other : Option (List ℕ)) → ((performs (moves_to from to made image other) s).answer ≡ answer.Refused c) ↔ GivesCodeOf c made (Some image) other
    by None = (λ e. absurd (no_code c answer.Done refl e), λ h. absurd h)
    by (Some other) = made_by (made image other)

-- a name that is declared
taken_never : (who c : ℕ) (name : List ℕ) (old : Option (List ℕ)) (s : StoreState) → (performs (takes_name who name old) s).answer ≡ answer.Refused c → ⊥
taken_never who c name old s e = no_code c answer.Done refl (sym (same_giving_up who old (λ o i. inr i) (λ o i. inr i) (holds_name who name old) s) ∙ e)

declaring_refuses : (who c : ℕ) (name : List ℕ) (old : Option (List ℕ)) (s : StoreState) (h : Option (Option ℕ))
    → ((performs (declares who name old h) s).answer ≡ answer.Refused c) ↔ ((c ≡ X78_NAME_HELD) × (is_held_by_other who h ≡ true))
declaring_refuses who c name old s h = by (is_held_by_other who h)
  where
    by_holder : Bool → DeclareTask name old
    by_holder other = if other then Refuse X78_NAME_HELD else takes_name who name old

    by : (b : Bool) → ((performs (by_holder b) s).answer ≡ answer.Refused c) ↔ ((c ≡ X78_NAME_HELD) × (b ≡ true))
    by true = (λ e. (sym (same_code c X78_NAME_HELD e), refl), λ x. ap answer.Refused (sym x.0))
    by false = (λ e. absurd (taken_never who c name old s e), λ x. absurd (false≢true x.1))

-- a text that is entered
entering_refuses : (who c : ℕ) (name : List ℕ) (mark : ℕ) (s : StoreState) (holder : Option ℕ) → ((performs (enters who name mark holder) s).answer ≡ answer.Refused c) ↔ ((c ≡ P38_NO_DEFFN) × LacksMark mark holder s)
entering_refuses who c name mark s None = (λ e. cc, λ h. absurd h.1)
entering_refuses who c name mark s (Some g) = by (mark_in mark (content s (object.Text g)))
  where
    entered : (spot : Spot) (b : Option (List ℕ)) → stops (performs (stands_inside who name g spot b) s).answer ≡ false
    entered spot None = refl
    entered spot (Some parts) = refl

    by : (o : Option Spot) → ((performs (enters_at who name g o) s).answer ≡ answer.Refused c) ↔ ((c ≡ P38_NO_DEFFN) × (o ≡ None))
    by None = (λ e. (sym (same_code c P38_NO_DEFFN e), refl), λ h. ap answer.Refused (sym h.0))
    by (Some spot) = (λ e. absurd (no_code c _ (entered spot (content s (object.Borrow g))) e), λ h. let no = h.1 in cc)

goes_on : (l : Option Loaded) → stops (loaded_answer l) ≡ false
goes_on None = refl
goes_on (Some l) = refl

meets_code : (disks : DiskWork) (who c : ℕ) (a : Access) (s : StoreState) → ((performs ((row a).does disks who (holder_at a s)) s).answer ≡ answer.Refused c) ↔ MeetsCode disks s who c a
meets_code disks who c (access.PutLine n (Some atoms) homes) s = full_refuses who homes c n atoms s (content s (object.Text who))
meets_code disks who c (access.PutLine n None homes) s = (λ e. absurd (out_never who homes c n s (content s (object.Text who)) e), λ h. absurd h)
meets_code disks who c (access.Scratch addr name) s = change_refuses c addr answer.Done refl s (λ image. image) (λ image. answer.Done) (λ n. refl) (disks.scratch name) (content s (object.Platter addr))
meets_code disks who c (access.Format addr index end) s = change_refuses c addr answer.Done refl s (λ image. image) (λ image. answer.Done) (λ n. refl) (disks.format index end) (content s (object.Platter addr))
meets_code disks who c (access.DataNew addr old sectors name) s =
    change_refuses c addr (answer.Opened (no_file addr name)) refl s (λ m. m.image) (λ m. answer.Opened m.told) (λ m. refl) (disks.data_new addr old sectors name) (content s (object.Platter addr))
meets_code disks who c (access.DataOpen addr name) s = finding_refuses c addr (answer.Opened (no_file addr name)) refl s answer.Opened (λ slot. refl) (disks.data_open addr name) (content s (object.Platter addr))
meets_code disks who c (access.DataSave slot values) s =
    change_refuses c slot.addr (answer.Moved slot.pos) refl s (λ m. m.image) (λ m. answer.Moved m.told) (λ m. refl) (disks.data_save slot values) (content s (object.Platter slot.addr))
meets_code disks who c (access.DataEnd slot) s = change_refuses c slot.addr (answer.Moved slot.pos) refl s (λ m. m.image) (λ m. answer.Moved m.told) (λ m. refl) (disks.data_end slot) (content s (object.Platter slot.addr))
meets_code disks who c (access.DataLoad slot kinds) s = finding_refuses c slot.addr answer.AtEnd refl s loaded_answer goes_on (disks.data_load slot kinds) (content s (object.Platter slot.addr))
meets_code disks who c (access.Skip slot way) s = finding_refuses c slot.addr (answer.Moved slot.pos) refl s answer.Moved (λ n. refl) (disks.skip slot way) (content s (object.Platter slot.addr))
meets_code disks who c (access.SaveProgram addr old name from to) s = save_refuses who c addr (disks.save_program old name from to) s (content s (object.Platter addr))
meets_code disks who c (access.LoadProgram addr name replace declared homes) s = program_refuses who homes c addr declared (disks.load_program name replace) s (content s (object.Platter addr))
meets_code disks who c (access.RawSave addr at values) s = change_refuses c addr (answer.Moved at) refl s (λ m. m.image) (λ m. answer.Moved m.told) (λ m. refl) (disks.raw_save at values) (content s (object.Platter addr))
meets_code disks who c (access.RawEnd addr at) s = change_refuses c addr (answer.Moved at) refl s (λ m. m.image) (λ m. answer.Moved m.told) (λ m. refl) (disks.raw_end at) (content s (object.Platter addr))
meets_code disks who c (access.RawLoad addr at kinds) s = finding_refuses c addr answer.AtEnd refl s loaded_answer goes_on (disks.raw_load at kinds) (content s (object.Platter addr))
meets_code disks who c (access.BlockSave addr at bytes) s = change_refuses c addr (answer.Moved at) refl s (λ m. m.image) (λ m. answer.Moved m.told) (λ m. refl) (disks.block_save at bytes) (content s (object.Platter addr))
meets_code disks who c (access.BlockLoad addr at) s = finding_refuses c addr (answer.Block no_block) refl s answer.Block (λ b. refl) (disks.block_load at) (content s (object.Platter addr))
meets_code disks who c (access.MovePlatter from to) s = move_refuses c from to disks.move_platter s (content s (object.Platter from))
meets_code disks who c (access.MoveFile from name to) s = move_refuses c from to (disks.move_file name) s (content s (object.Platter from))
meets_code disks who c (access.Enter name mark) s = entering_refuses who c name mark s (holder_of s name)
meets_code disks who c (access.Declare name old) s = declaring_refuses who c name old s (content s (object.Name name))
meets_code disks who c a s = (λ e. absurd (never disks who c a s refl e), λ h. absurd h)

pub refuses_with_the_code : RefusesWithTheCode
refuses_with_the_code disks who c a s =
    let stopped = refuses (row a) disks who (rows_tell_their_answers disks a who) s c in
    let met = meets_code disks who c a s in
    (λ e. let h = stopped.0 e in (h.0, h.1, met.0 h.2), λ h. stopped.1 (h.0, h.1, met.1 h.2))

-- an access whose row doesn't tell that nobody is there doesn't meet nobody
never_missing : (disks : DiskWork) (who : ℕ) (a : Access) (s : StoreState) → (row a).tells answer.NoPart ≡ false → (performs ((row a).does disks who (holder_at a s)) s).answer ≡ answer.NoPart → ⊥
never_missing disks who a s untold e = false≢true (sym untold ∙ ap (row a).tells (sym e) ∙ (is_told (row a).tells ((row a).does disks who (holder_at a s)) s (rows_tell_their_answers disks a who (holder_at a s))).says)

search_misses : (name : List ℕ) (s : StoreState) (h : Option ℕ) → ((performs (finds name (Some h)) s).answer ≡ answer.NoPart) ↔ (h ≡ None)
search_misses name s None = (λ e. refl, λ e. refl)
search_misses name s (Some p) = (λ e. cc, λ e. cc)

entering_misses : (who : ℕ) (name : List ℕ) (mark : ℕ) (s : StoreState) (holder : Option ℕ) → ((performs (enters who name mark holder) s).answer ≡ answer.NoPart) ↔ (holder ≡ None)
entering_misses who name mark s None = (λ e. refl, λ e. refl)
entering_misses who name mark s (Some g) = by (mark_in mark (content s (object.Text g)))
  where
    entered : (spot : Spot) (b : Option (List ℕ)) → stops (performs (stands_inside who name g spot b) s).answer ≡ false
    entered spot None = refl
    entered spot (Some parts) = refl

    by : (o : Option Spot) → ((performs (enters_at who name g o) s).answer ≡ answer.NoPart) ↔ (Some g ≡ None)
    by None = (λ e. cc, λ e. cc)
    by (Some spot) = (λ e. absurd (false≢true (sym (entered spot (content s (object.Borrow g))) ∙ ap stops e)), λ e. cc)

meets_nobody : (disks : DiskWork) (who : ℕ) (a : Access) (s : StoreState) → ((performs ((row a).does disks who (holder_at a s)) s).answer ≡ answer.NoPart) ↔ MeetsNobody s a
meets_nobody disks who (access.FindPart name) s = search_misses name s (holder_of s name)
meets_nobody disks who (access.Enter name mark) s = entering_misses who name mark s (holder_of s name)
meets_nobody disks who a s = (λ e. absurd (never_missing disks who a s refl e), λ h. absurd h)

pub misses_nobody_else : MissesNobodyElse
misses_nobody_else disks who a s =
    let stopped = misses (row a) disks who (rows_tell_their_answers disks a who) s in
    let met = meets_nobody disks who a s in
    (λ e. let h = stopped.0 e in (h.0, h.1, met.0 h.2), λ h. stopped.1 (h.0, h.1, met.1 h.2))
