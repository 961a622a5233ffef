-- THE ROWS OF THE ACCESSES: what each reaches, what it writes of that, which answers it tells where nothing stops it, and what it does.
-- What isn't listed stays as it is: an empty terminal has no keys, and a disk has no limits and no listing; a file there has no sectors,
-- and a place in it stays.
use Rattle.std.specs.Prelude.{ℕ, pos, nat_lt, ◌==◌, Bool, true, false, not, Result, Ok, Err, List, [], ◌∷◌, ◌++◌, map, drop, replicate, slice_get, Option, Some, None, refl, if◌then◌else◌}
use Rattle.std.specs.FinMap as finite
use Rattle.std.proofs.Common.{inl, inr}
use Rattle.b2_base.specs.declared.codes.TheConstants.{A01_TEXT_AREA, P38_NO_DEFFN, X78_NAME_HELD}
use Rattle.b2_base.specs.declared.files.Slot.{Slot}
use Rattle.b2_text.specs.Program.{TextState, size_of, with_line, without as without_lines}
use Rattle.b2_text.specs.Spots.{first_opening, is_mark}
use Rattle.b2_text.specs.declared.spots.Spot.{Spot}
use Rattle.b2_vars.specs.Tables.{VarsState}
use Rattle.b2_term.specs.Terminal.{TerminalState, line_read, after_read, inserted, released}
use Rattle.b2_term.specs.declared.KeyItem.{KeyItem}
use Rattle.b2_term.specs.declared.KeyItem.TheVariants as key
use Rattle.b2_term.specs.declared.Read.{Read}
use Rattle.b2_term.specs.declared.Read.TheVariants as read
use Rattle.b2_access.specs.declared.objects.Object.{Object}
use Rattle.b2_access.specs.declared.objects.Object.TheVariants as object
use Rattle.b2_access.specs.declared.accesses.Access.{Access}
use Rattle.b2_access.specs.declared.accesses.Access.TheVariants as access
use Rattle.b2_access.specs.declared.accesses.Answer.{Answer}
use Rattle.b2_access.specs.declared.accesses.Answer.TheVariants as answer
use Rattle.b2_access.specs.AnswerKinds.{is_done, is_done_or_code, is_of_block, is_of_entering, is_of_key, is_of_limits, is_of_line, is_of_listing, is_of_loading, is_of_opening, is_of_place, is_of_search}
use Rattle.b2_access.specs.Borrowers.{homes_marked, without, without_last}
use Rattle.b2_access.specs.Disks.{DiskWork, FourNumbers, Loaded, Made}
use Rattle.b2_access.specs.Reach.{Reach, at_disk, at_disks, at_names, at_printer, at_terminal, borrow_entered, borrow_where, borrows, by_name, disk, if_any, left_texts, objects_held, objects_named, objects_reached, objects_written, own_text, to_free, to_take}
use Rattle.b2_access.specs.declared.reached.TextUse.TheVariants as text
use Rattle.b2_access.specs.declared.reached.Written.{Written}
use Rattle.b2_access.specs.Store.{IsIn, StoreState, holder_of}
use Rattle.b2_access.specs.Task.{AreIn, Task, in_left, in_right, Look, Tell, Refuse, Missing, also_puts, answers, puts, wider}

-- A row. What is reached is the same for all partitions and in all stores; what is written and done is so for the one that asks, and
-- for the one that holds the name by which a text is entered. What a disk does to an image is for the store to say.
pub record AccessRow : Type 0 where
  pub reach : Reach
  pub writes : ℕ → Option ℕ → List Object
  pub tells : Answer → Bool
  pub does : DiskWork → (who : ℕ) (holder : Option ℕ) → Task (objects_reached who holder reach) (writes who holder)

-- at a terminal
abbrev pub TerminalTask : ℕ → Type 0
TerminalTask term = Task (object.Terminal term ∷ []) (object.Terminal term ∷ [])

abbrev pub shows : (term : ℕ) → List ℕ → Option TerminalState → TerminalTask term
shows term bytes None = answers answer.Done
shows term bytes (Some t) = puts (object.Terminal term) (inl refl) (record t { transcript = t.transcript ++ bytes }) answer.Done

abbrev pub line_answer : Read → Answer
line_answer (read.Line bytes) = answer.Line bytes
line_answer (read.Special n) = answer.Special n
line_answer read.NoKeys = answer.NoKeys

abbrev pub reads_line : (term : ℕ) → Option TerminalState → TerminalTask term
reads_line term None = answers answer.NoKeys
reads_line term (Some t) = puts (object.Terminal term) (inl refl) (after_read t) (line_answer (line_read t))

abbrev pub inserts : (term : ℕ) → List ℕ → Option TerminalState → TerminalTask term
inserts term bytes None = answers answer.Done
inserts term bytes (Some t) = puts (object.Terminal term) (inl refl) (inserted bytes t) answer.Done

abbrev pub releases : (term : ℕ) → Option TerminalState → TerminalTask term
releases term None = answers answer.Done
releases term (Some t) = puts (object.Terminal term) (inl refl) (released t) answer.Done

abbrev pub key_answer : Option KeyItem → Answer
key_answer None = answer.NoKeys
key_answer (Some (key.Byte b)) = answer.Key b
key_answer (Some (key.Special n)) = answer.Special n

abbrev pub takes_key : (term : ℕ) → Option TerminalState → TerminalTask term
takes_key term None = answers answer.NoKeys
takes_key term (Some t) = puts (object.Terminal term) (inl refl) (record t { queue = drop 1 t.queue }) (key_answer (slice_get t.queue 0))

-- The texts that are given back: none of the entries of the partition that asks is left among those who stand inside, where the rest
-- isn't refused.
abbrev pub gives_back_from : {reached written : List Object} (who h : ℕ) → IsIn (object.Borrow h) written → Task reached written → Option (List ℕ) → Task reached written
gives_back_from who h there t None = t
gives_back_from who h there t (Some parts) = also_puts (object.Borrow h) there (without who parts) t

abbrev pub gives_back : {reached written : List Object} (who : ℕ) (homes : List ℕ) → AreIn (borrows homes) reached → AreIn (borrows homes) written → Task reached written → Task reached written
gives_back who [] looked told t = t
gives_back who (h ∷ homes) looked told t =
    Look (object.Borrow h) (looked (object.Borrow h) (inl refl)) (gives_back_from who h (told (object.Borrow h) (inl refl)) (gives_back who homes (λ o i. looked o (inr i)) (λ o i. told o (inr i)) t))

-- an edit of the own text, for which texts are given back
abbrev pub EditTask : ℕ → ℕ → Type 0
EditTask who homes = Task (object.Borrow who ∷ object.Text who ∷ (borrows (homes_marked homes) ++ [])) (object.Text who ∷ borrows (homes_marked homes))

abbrev pub edits : (who homes : ℕ) → EditTask who homes → EditTask who homes
edits who homes t = gives_back who (homes_marked homes) (λ o i. inr (inr (in_left o (borrows (homes_marked homes)) [] i))) (λ o i. inr i) t

abbrev pub stays_text : (who homes : ℕ) → EditTask who homes
stays_text who homes = answers answer.Done

abbrev pub becomes_text : (who homes : ℕ) → TextState → EditTask who homes
becomes_text who homes t = puts (object.Text who) (inl refl) t answer.Done

-- a line goes into its place, where the text has room
abbrev pub puts_atoms : (who homes : ℕ) → ℕ → List ℕ → Option TextState → EditTask who homes
puts_atoms who homes n atoms None = edits who homes (stays_text who homes)
puts_atoms who homes n atoms (Some t) =
    if nat_lt t.area (size_of (with_line n atoms t.lines)) then Refuse A01_TEXT_AREA
    else edits who homes (becomes_text who homes (record t { lines = with_line n atoms t.lines }))

abbrev pub erases : (who homes : ℕ) → ℕ → ℕ → Option TextState → EditTask who homes
erases who homes from to None = edits who homes (stays_text who homes)
erases who homes from to (Some t) = edits who homes (becomes_text who homes (record t { lines = without_lines from to t.lines }))

-- a line without atoms is taken out
abbrev pub puts_line : (who homes : ℕ) → ℕ → Option (List ℕ) → Option TextState → EditTask who homes
puts_line who homes n None text = erases who homes n n text
puts_line who homes n (Some atoms) text = puts_atoms who homes n atoms text

-- whether a partition holds a name or a device, and whether another does
abbrev pub is_held_by : ℕ → Option (Option ℕ) → Bool
is_held_by who (Some (Some p)) = p == who
is_held_by who h = false

abbrev pub is_held_by_other : ℕ → Option (Option ℕ) → Bool
is_held_by_other who (Some (Some p)) = not (p == who)
is_held_by_other who h = false

-- A name is given up, where there is one and the partition that asks holds it: nobody holds it where the rest isn't refused.
abbrev pub gives_up_if : {reached written : List Object} → Bool → (name : List ℕ) → IsIn (object.Name name) written → Task reached written → Task reached written
gives_up_if true name there t = also_puts (object.Name name) there None t
gives_up_if false name there t = t

abbrev pub gives_up : {reached written : List Object} (who : ℕ) (name : Option (List ℕ)) → AreIn (objects_named name) reached → AreIn (objects_named name) written → Task reached written → Task reached written
gives_up who None looked told t = t
gives_up who (Some name) looked told t = Look (object.Name name) (looked (object.Name name) (inl refl)) (λ h. gives_up_if (is_held_by who h) name (told (object.Name name) (inl refl)) t)

-- the lines and the `@` variables go, texts are given back, and a name is given up
abbrev pub ClearTask : ℕ → ℕ → Option (List ℕ) → Type 0
ClearTask who homes name =
    Task (object.Borrow who ∷ object.Text who ∷ object.Globals who ∷ (borrows (homes_marked homes) ++ objects_named name)) (object.Text who ∷ object.Globals who ∷ (borrows (homes_marked homes) ++ objects_named name))

abbrev pub no_lines : TextState → TextState
no_lines t = record t { lines = [] }

abbrev pub no_globals : VarsState → VarsState
no_globals v = record v { table = finite.empty }

abbrev pub clears_both : (who homes : ℕ) (name : Option (List ℕ)) → TextState → Option VarsState → ClearTask who homes name
clears_both who homes name t None = puts (object.Text who) (inl refl) (no_lines t) answer.Done
clears_both who homes name t (Some v) =
    Tell (record { target = object.Text who; there = inl refl; value = no_lines t } ∷ record { target = object.Globals who; there = inr (inl refl); value = no_globals v } ∷ []) answer.Done

abbrev pub clears_text : (who homes : ℕ) (name : Option (List ℕ)) → Option TextState → ClearTask who homes name
clears_text who homes name None = answers answer.Done
clears_text who homes name (Some t) = Look (object.Globals who) (inr (inr (inl refl))) (clears_both who homes name t)

abbrev pub clears_own : (who homes : ℕ) (name : Option (List ℕ)) → ClearTask who homes name
clears_own who homes name = Look (object.Text who) (inr (inl refl)) (clears_text who homes name)

abbrev pub clears_and_gives_back : (who homes : ℕ) (name : Option (List ℕ)) → ClearTask who homes name
clears_and_gives_back who homes name =
    let told = borrows (homes_marked homes) in
    gives_back who (homes_marked homes) (λ o i. inr (inr (inr (in_left o told (objects_named name) i)))) (λ o i. inr (inr (in_left o told (objects_named name) i))) (clears_own who homes name)

abbrev pub clears : (who homes : ℕ) (name : Option (List ℕ)) → ClearTask who homes name
clears who homes name =
    let told = borrows (homes_marked homes) in
    gives_up who name (λ o i. inr (inr (inr (in_right o told (objects_named name) i)))) (λ o i. inr (inr (in_right o told (objects_named name) i))) (clears_and_gives_back who homes name)

-- the row of an access of one terminal, and that of an edit
abbrev pub terminal_row : (term : ℕ) → (Answer → Bool) → (Option TerminalState → TerminalTask term) → AccessRow
terminal_row term tells does = record { reach = at_terminal term; writes = λ who holder. object.Terminal term ∷ []; tells = tells; does = λ disks who holder. Look (object.Terminal term) (inl refl) does }

abbrev pub edit_row : (homes : ℕ) → (Answer → Bool) → ((who : ℕ) → Option TextState → EditTask who homes) → AccessRow
edit_row homes tells does =
    record { reach = own_text homes; writes = λ who holder. object.Text who ∷ borrows (homes_marked homes); tells = tells; does = λ disks who holder. Look (object.Text who) (inr (inl refl)) (does who) }

-- at a disk: its image is read
abbrev pub four_answer : FourNumbers → Answer
four_answer n = answer.Four n.first n.second n.third n.fourth

abbrev pub no_limits : FourNumbers
no_limits = record { first = pos 0; second = pos 0; third = pos 0; fourth = pos 0 }

abbrev pub ReadTask : List ℕ → Type 0
ReadTask addr = Task (object.Hog addr ∷ object.Platter addr ∷ []) []

abbrev pub reads_image : (addr : List ℕ) → Answer → (List ℕ → Answer) → Option (List ℕ) → ReadTask addr
reads_image addr unlisted says None = answers unlisted
reads_image addr unlisted says (Some image) = answers (says image)

-- or a code comes in place of what is read
abbrev pub says_or_refuses : {Found : Type 0} (addr : List ℕ) → (Found → Answer) → Result Found ℕ → ReadTask addr
says_or_refuses addr says (Ok found) = answers (says found)
says_or_refuses addr says (Err code) = Refuse code

abbrev pub finds_in_image : {Found : Type 0} (addr : List ℕ) → Answer → (Found → Answer) → (List ℕ → Result Found ℕ) → Option (List ℕ) → ReadTask addr
finds_in_image addr unlisted says finds None = answers unlisted
finds_in_image addr unlisted says finds (Some image) = says_or_refuses addr says (finds image)

-- or it becomes another one, of which something is told, or a code comes
abbrev pub ChangeTask : List ℕ → Type 0
ChangeTask addr = Task (object.Hog addr ∷ object.Platter addr ∷ []) (object.Platter addr ∷ [])

abbrev pub becomes : {New : Type 0} (addr : List ℕ) → (New → List ℕ) → (New → Answer) → Result New ℕ → ChangeTask addr
becomes addr image_of says (Ok new) = puts (object.Platter addr) (inl refl) (image_of new) (says new)
becomes addr image_of says (Err code) = Refuse code

abbrev pub changes_image : {New : Type 0} (addr : List ℕ) → Answer → (New → List ℕ) → (New → Answer) → (List ℕ → Result New ℕ) → Option (List ℕ) → ChangeTask addr
changes_image addr unlisted image_of says made None = answers unlisted
changes_image addr unlisted image_of says made (Some image) = becomes addr image_of says (made image)

-- a file without sectors, and what is told of a file and of a place in one
abbrev pub no_file : List ℕ → List ℕ → Slot
no_file addr name = record { addr = addr; name = name; start = 0; end = 0; pos = 0 }

abbrev pub loaded_answer : Option Loaded → Answer
loaded_answer None = answer.AtEnd
loaded_answer (Some l) = answer.Values l.values l.place

abbrev pub reading_row : List ℕ → (Answer → Bool) → Answer → (DiskWork → List ℕ → Answer) → AccessRow
reading_row addr tells unlisted says = record { reach = at_disk addr; writes = λ who holder. []; tells = tells; does = λ disks who holder. Look (object.Platter addr) (inr (inl refl)) (reads_image addr unlisted (says disks)) }

abbrev pub finding_row : {Found : Type 0} → List ℕ → (Answer → Bool) → Answer → (Found → Answer) → (DiskWork → List ℕ → Result Found ℕ) → AccessRow
finding_row addr tells unlisted says finds = record { reach = at_disk addr; writes = λ who holder. []; tells = tells; does = λ disks who holder. Look (object.Platter addr) (inr (inl refl)) (finds_in_image addr unlisted says (finds disks)) }

abbrev pub telling_row : {New : Type 0} → List ℕ → (Answer → Bool) → Answer → (New → List ℕ) → (New → Answer) → (DiskWork → List ℕ → Result New ℕ) → AccessRow
telling_row addr tells unlisted image_of says made =
    record { reach = at_disk addr; writes = λ who holder. object.Platter addr ∷ []; tells = tells; does = λ disks who holder. Look (object.Platter addr) (inr (inl refl)) (changes_image addr unlisted image_of says (made disks)) }

abbrev pub changing_row : List ℕ → (DiskWork → List ℕ → Result (List ℕ) ℕ) → AccessRow
changing_row addr made = telling_row addr is_done_or_code answer.Done (λ image. image) (λ image. answer.Done) made

-- at a sector of a disk, which is the place in an open file or is named
abbrev pub placing_row : List ℕ → ℕ → (DiskWork → List ℕ → Result (Made ℕ) ℕ) → AccessRow
placing_row addr at made = telling_row addr is_of_place (answer.Moved at) (λ m. m.image) (λ m. answer.Moved m.told) made

-- the bytes of a sector of a disk that isn't there
unfoldable pub no_block : List ℕ
no_block = replicate 256 0

-- of a disk and the own text: the disk is looked at first
abbrev pub SaveTask : ℕ → List ℕ → Type 0
SaveTask who addr = Task (object.Text who ∷ object.Hog addr ∷ object.Platter addr ∷ []) (object.Platter addr ∷ [])

abbrev pub saves : (who : ℕ) (addr : List ℕ) → Result (List ℕ) ℕ → SaveTask who addr
saves who addr (Ok image) = puts (object.Platter addr) (inl refl) image answer.Done
saves who addr (Err code) = Refuse code

abbrev pub saves_text : (who : ℕ) (addr : List ℕ) → (TextState → List ℕ → Result (List ℕ) ℕ) → List ℕ → Option TextState → SaveTask who addr
saves_text who addr made image None = answers answer.Done
saves_text who addr made image (Some t) = saves who addr (made t image)

abbrev pub saves_in : (who : ℕ) (addr : List ℕ) → (TextState → List ℕ → Result (List ℕ) ℕ) → Option (List ℕ) → SaveTask who addr
saves_in who addr made None = answers answer.Done
saves_in who addr made (Some image) = Look (object.Text who) (inl refl) (saves_text who addr made image)

-- a program that is loaded, for which texts are given back and a name is given up
abbrev pub disk_and_name : List ℕ → Option (List ℕ) → List Object
disk_and_name addr declared = object.Hog addr ∷ object.Platter addr ∷ objects_named declared

abbrev pub LoadTask : ℕ → ℕ → List ℕ → Option (List ℕ) → Type 0
LoadTask who homes addr declared =
    Task (object.Borrow who ∷ object.Text who ∷ (borrows (homes_marked homes) ++ disk_and_name addr declared)) (object.Text who ∷ (borrows (homes_marked homes) ++ objects_named declared))

abbrev pub loads_and_gives_back : (who homes : ℕ) (addr : List ℕ) (declared : Option (List ℕ)) → LoadTask who homes addr declared → LoadTask who homes addr declared
loads_and_gives_back who homes addr declared t =
    let told = borrows (homes_marked homes) in
    gives_back who (homes_marked homes) (λ o i. inr (inr (in_left o told (disk_and_name addr declared) i))) (λ o i. inr (in_left o told (objects_named declared) i)) t

abbrev pub loads_and_gives_up : (who homes : ℕ) (addr : List ℕ) (declared : Option (List ℕ)) → LoadTask who homes addr declared → LoadTask who homes addr declared
loads_and_gives_up who homes addr declared t =
    let told = borrows (homes_marked homes) in
    gives_up who declared (λ o i. inr (inr (in_right o told (disk_and_name addr declared) (inr (inr i))))) (λ o i. inr (in_right o told (objects_named declared) i))
    (loads_and_gives_back who homes addr declared t)

abbrev pub loads_nothing : (who homes : ℕ) (addr : List ℕ) (declared : Option (List ℕ)) → LoadTask who homes addr declared
loads_nothing who homes addr declared = answers answer.Done

abbrev pub loads_lines : (who homes : ℕ) (addr : List ℕ) (declared : Option (List ℕ)) → TextState → LoadTask who homes addr declared
loads_lines who homes addr declared t = puts (object.Text who) (inl refl) t answer.Done

abbrev pub loads : (who homes : ℕ) (addr : List ℕ) (declared : Option (List ℕ)) → Result TextState ℕ → LoadTask who homes addr declared
loads who homes addr declared (Ok t) = loads_and_gives_up who homes addr declared (loads_lines who homes addr declared t)
loads who homes addr declared (Err code) = Refuse code

abbrev pub loads_text : (who homes : ℕ) (addr : List ℕ) (declared : Option (List ℕ)) → (List ℕ → TextState → Result TextState ℕ) → List ℕ → Option TextState → LoadTask who homes addr declared
loads_text who homes addr declared made image None = loads_and_gives_up who homes addr declared (loads_nothing who homes addr declared)
loads_text who homes addr declared made image (Some t) = loads who homes addr declared (made image t)

abbrev pub loads_from : (who homes : ℕ) (addr : List ℕ) (declared : Option (List ℕ)) → (List ℕ → TextState → Result TextState ℕ) → Option (List ℕ) → LoadTask who homes addr declared
loads_from who homes addr declared made None = loads_and_gives_up who homes addr declared (loads_nothing who homes addr declared)
loads_from who homes addr declared made (Some image) = Look (object.Text who) (inr (inl refl)) (loads_text who homes addr declared made image)

-- from a disk to another
abbrev pub MoveTask : List ℕ → List ℕ → Type 0
MoveTask from to = Task (object.Hog from ∷ object.Platter from ∷ object.Hog to ∷ object.Platter to ∷ []) (object.Platter to ∷ [])

abbrev pub moves : (from to : List ℕ) → Result (List ℕ) ℕ → MoveTask from to
moves from to (Ok image) = puts (object.Platter to) (inl refl) image answer.Done
moves from to (Err code) = Refuse code

abbrev pub moves_to : (from to : List ℕ) → (List ℕ → List ℕ → Result (List ℕ) ℕ) → List ℕ → Option (List ℕ) → MoveTask from to
moves_to from to made image None = answers answer.Done
moves_to from to made image (Some other) = moves from to (made image other)

abbrev pub moves_from : (from to : List ℕ) → (List ℕ → List ℕ → Result (List ℕ) ℕ) → Option (List ℕ) → MoveTask from to
moves_from from to made None = answers answer.Done
moves_from from to made (Some image) = Look (object.Platter to) (inr (inr (inr (inl refl)))) (moves_to from to made image)

abbrev pub moving_row : (from to : List ℕ) → (DiskWork → List ℕ → List ℕ → Result (List ℕ) ℕ) → AccessRow
moving_row from to made =
    record { reach = at_disks from to; writes = λ who holder. object.Platter to ∷ []; tells = is_done_or_code; does = λ disks who holder. Look (object.Platter from) (inr (inl refl)) (moves_from from to (made disks)) }

-- at a printer: the bytes stand after what it printed
abbrev pub PrintTask : List ℕ → Type 0
PrintTask addr = Task (object.Hog addr ∷ object.Printer addr ∷ []) (object.Printer addr ∷ [])

abbrev pub prints : (addr bytes : List ℕ) → Option (List ℕ) → PrintTask addr
prints addr bytes None = answers answer.Done
prints addr bytes (Some printed) = puts (object.Printer addr) (inl refl) (printed ++ bytes) answer.Done

-- devices are taken: each has this holder
abbrev pub TakeTask : ℕ → List (List ℕ) → Type 0
TakeTask who addrs = Task (objects_reached who None (to_take addrs)) (objects_held addrs)

abbrev pub takes : (who : ℕ) (addrs : List (List ℕ)) → TakeTask who addrs
takes who [] = answers answer.Done
takes who (a ∷ addrs) = also_puts (object.Hog a) (inl refl) (Some who) (wider (object.Hog a) (takes who addrs))

-- devices are freed: those that the partition itself holds have no holder then
abbrev pub FreeTask : ℕ → List (List ℕ) → Type 0
FreeTask who addrs = Task (objects_reached who None (to_free addrs)) (objects_held addrs)

abbrev pub frees_if : (who : ℕ) → Bool → (a : List ℕ) (addrs : List (List ℕ)) → FreeTask who (a ∷ addrs) → FreeTask who (a ∷ addrs)
frees_if who true a addrs t = also_puts (object.Hog a) (inl refl) None t
frees_if who false a addrs t = t

abbrev pub frees : (who : ℕ) (addrs : List (List ℕ)) → FreeTask who addrs
frees who [] = answers answer.Done
frees who (a ∷ addrs) = Look (object.Hog a) (inl refl) (λ h. frees_if who (is_held_by who h) a addrs (wider (object.Hog a) (frees who addrs)))

-- a name, and another where one is given up
abbrev pub names_of : List ℕ → Option (List ℕ) → List (List ℕ)
names_of name old = name ∷ if_any old

abbrev pub DeclareTask : List ℕ → Option (List ℕ) → Type 0
DeclareTask name old = Task (map object.Name (names_of name old)) (map object.Name (names_of name old))

-- it is held by who asks, and the other is given up
abbrev pub holds_name : (who : ℕ) (name : List ℕ) (old : Option (List ℕ)) → DeclareTask name old
holds_name who name old = puts (object.Name name) (inl refl) (Some who) answer.Done

abbrev pub takes_name : (who : ℕ) (name : List ℕ) (old : Option (List ℕ)) → DeclareTask name old
takes_name who name old = gives_up who old (λ o i. inr i) (λ o i. inr i) (holds_name who name old)

abbrev pub declares : (who : ℕ) (name : List ℕ) (old : Option (List ℕ)) → Option (Option ℕ) → DeclareTask name old
declares who name old h = if is_held_by_other who h then Refuse X78_NAME_HELD else takes_name who name old

-- who holds a name
abbrev pub finds : (name : List ℕ) → Option (Option ℕ) → Task (object.Name name ∷ []) []
finds name (Some (Some p)) = answers (answer.Holder p)
finds name h = Missing

-- THE TEXT OF ANOTHER is entered by the name that it holds, at the DEFFN' of a number there: who asks stands inside then, after the others.
-- P38 where the text has no such DEFFN'.
abbrev pub mark_in : ℕ → Option TextState → Option Spot
mark_in mark None = None
mark_in mark (Some t) = first_opening (is_mark mark) t.lines

abbrev pub EnterTask : List ℕ → ℕ → Type 0
EnterTask name g = Task (object.Name name ∷ object.Text g ∷ object.Borrow g ∷ []) (object.Borrow g ∷ [])

abbrev pub stands_inside : (who : ℕ) (name : List ℕ) (g : ℕ) → Spot → Option (List ℕ) → EnterTask name g
stands_inside who name g spot None = answers (answer.Entered g spot)
stands_inside who name g spot (Some parts) = puts (object.Borrow g) (inl refl) (parts ++ who ∷ []) (answer.Entered g spot)

abbrev pub enters_at : (who : ℕ) (name : List ℕ) (g : ℕ) → Option Spot → EnterTask name g
enters_at who name g None = Refuse P38_NO_DEFFN
enters_at who name g (Some spot) = Look (object.Borrow g) (inr (inr (inl refl))) (stands_inside who name g spot)

abbrev pub enters : (who : ℕ) (name : List ℕ) (mark : ℕ) (holder : Option ℕ) → Task (objects_reached who holder (by_name name)) (borrow_entered holder)
enters who name mark None = Missing
enters who name mark (Some g) = Look (object.Text g) (inr (inl refl)) (λ t. enters_at who name g (mark_in mark t))

-- it is left once: the last entry of who asks goes
abbrev pub LeaveTask : ℕ → Type 0
LeaveTask home = Task (object.Borrow home ∷ []) (object.Borrow home ∷ [])

abbrev pub leaves : (who home : ℕ) → Option (List ℕ) → LeaveTask home
leaves who home None = answers answer.Done
leaves who home (Some parts) = puts (object.Borrow home) (inl refl) (without_last who parts) answer.Done

-- and texts are given back
abbrev pub DropTask : List ℕ → Type 0
DropTask homes = Task (borrows homes ++ []) (borrows homes)

abbrev pub drops_no_more : (homes : List ℕ) → DropTask homes
drops_no_more homes = answers answer.Done

abbrev pub drops : (who : ℕ) (homes : List ℕ) → DropTask homes
drops who homes = gives_back who homes (λ o i. in_left o (borrows homes) [] i) (λ o i. i) (drops_no_more homes)

-- THE ROW OF EACH ACCESS
abbrev pub row : Access → AccessRow
row (access.Show term bytes column) = terminal_row term is_done (shows term bytes)
row (access.PrintTo addr bytes column) =
    record { reach = at_printer addr; writes = λ who holder. object.Printer addr ∷ []; tells = is_done; does = λ disks who holder. Look (object.Printer addr) (inr (inl refl)) (prints addr bytes) }
row (access.OpenDevices addrs) = record { reach = to_take addrs; writes = λ who holder. objects_held addrs; tells = is_done; does = λ disks who holder. takes who addrs }
row (access.CloseDevices addrs) = record { reach = to_free addrs; writes = λ who holder. objects_held addrs; tells = is_done; does = λ disks who holder. frees who addrs }
row (access.ReadLine term) = terminal_row term is_of_line (reads_line term)
row (access.Insert term bytes) = terminal_row term is_done (inserts term bytes)
row (access.Key term) = terminal_row term is_of_key (takes_key term)
row (access.Release term) = terminal_row term is_done (releases term)
row (access.PutLine line atoms homes) = edit_row homes is_done_or_code (λ who. puts_line who homes line atoms)
row (access.Erase from to homes) = edit_row homes is_done (λ who. erases who homes from to)
row (access.ClearAll name homes) =
    record {
      reach = record (own_text homes) { variables = true; names = if_any name };
      writes = λ who holder. object.Text who ∷ object.Globals who ∷ (borrows (homes_marked homes) ++ objects_named name);
      tells = is_done;
      does = λ disks who holder. clears who homes name;
    }
row (access.Enter name mark) = record { reach = by_name name; writes = λ who holder. borrow_entered holder; tells = is_of_entering; does = λ disks who holder. enters who name mark holder }
row (access.Leave home) =
    record { reach = left_texts (home ∷ []); writes = λ who holder. object.Borrow home ∷ []; tells = is_done; does = λ disks who holder. Look (object.Borrow home) (inl refl) (leaves who home) }
row (access.Drop homes) =
    record { reach = left_texts (homes_marked homes); writes = λ who holder. borrows (homes_marked homes); tells = is_done; does = λ disks who holder. drops who (homes_marked homes) }
row (access.Declare name old) =
    record { reach = at_names (names_of name old); writes = λ who holder. map object.Name (names_of name old); tells = is_done_or_code; does = λ disks who holder. Look (object.Name name) (inl refl) (declares who name old) }
row (access.FindPart name) = record { reach = at_names (name ∷ []); writes = λ who holder. []; tells = is_of_search; does = λ disks who holder. Look (object.Name name) (inl refl) (finds name) }
row (access.Limits addr name) = reading_row addr is_of_limits (four_answer no_limits) (λ disks image. four_answer (disks.limits name image))
row (access.ListDisk addr) = reading_row addr is_of_listing (answer.Bytes []) (λ disks image. answer.Bytes (disks.listing image))
row (access.Scratch addr name) = changing_row addr (λ disks image. disks.scratch name image)
row (access.Format addr index end) = changing_row addr (λ disks image. disks.format index end image)
row (access.DataNew addr old sectors name) = telling_row addr is_of_opening (answer.Opened (no_file addr name)) (λ m. m.image) (λ m. answer.Opened m.told) (λ disks image. disks.data_new addr old sectors name image)
row (access.DataOpen addr name) = finding_row addr is_of_opening (answer.Opened (no_file addr name)) answer.Opened (λ disks image. disks.data_open addr name image)
row (access.DataSave slot values) = placing_row slot.addr slot.pos (λ disks image. disks.data_save slot values image)
row (access.DataEnd slot) = placing_row slot.addr slot.pos (λ disks image. disks.data_end slot image)
row (access.DataLoad slot kinds) = finding_row slot.addr is_of_loading answer.AtEnd loaded_answer (λ disks image. disks.data_load slot kinds image)
row (access.Skip slot way) = finding_row slot.addr is_of_place (answer.Moved slot.pos) answer.Moved (λ disks image. disks.skip slot way image)
row (access.SaveProgram addr old name from to) =
    record {
      reach = record (at_disk addr) { text = text.Read };
      writes = λ who holder. object.Platter addr ∷ [];
      tells = is_done_or_code;
      does = λ disks who holder. Look (object.Platter addr) (inr (inr (inl refl))) (saves_in who addr (disks.save_program old name from to));
    }
row (access.LoadProgram addr name replace declared homes) =
    record {
      reach = record (own_text homes) { devices = disk addr ∷ []; names = if_any declared };
      writes = λ who holder. object.Text who ∷ (borrows (homes_marked homes) ++ objects_named declared);
      tells = is_done_or_code;
      does = λ disks who holder.
          Look (object.Platter addr) (inr (inr (in_right (object.Platter addr) (borrows (homes_marked homes)) (disk_and_name addr declared) (inr (inl refl))))) (loads_from who homes addr declared (disks.load_program name replace));
    }
row (access.RawSave addr at values) = placing_row addr at (λ disks image. disks.raw_save at values image)
row (access.RawEnd addr at) = placing_row addr at (λ disks image. disks.raw_end at image)
row (access.RawLoad addr at kinds) = finding_row addr is_of_loading answer.AtEnd loaded_answer (λ disks image. disks.raw_load at kinds image)
row (access.BlockSave addr at bytes) = placing_row addr at (λ disks image. disks.block_save at bytes image)
row (access.BlockLoad addr at) = finding_row addr is_of_block (answer.Block no_block) answer.Block (λ disks image. disks.block_load at image)
row (access.MovePlatter from to) = moving_row from to (λ disks. disks.move_platter)
row (access.MoveFile from name to) = moving_row from to (λ disks. disks.move_file name)

-- what is written, beside devices and of them
abbrev pub writes_by : Written → List Object → ℕ → Option ℕ → List Object
writes_by w devices who holder = objects_written w who ++ (borrow_where w.enters holder ++ devices)

abbrev pub reach : Access → Reach
reach a = (row a).reach

-- who holds the name by which a text is entered, where one is
abbrev pub holder_entered : Option (List ℕ) → StoreState → Option ℕ
holder_entered None s = None
holder_entered (Some name) s = holder_of s name

abbrev pub holder_at : Access → StoreState → Option ℕ
holder_at a s = holder_entered (reach a).entered s
