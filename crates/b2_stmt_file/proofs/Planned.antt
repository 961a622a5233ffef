-- What statements on data files plan: they end at once, or ask for an access of one platter that the partition may use; and how they
-- finish.
use Rattle.std.specs.Prelude.{◌≡◌, ◌≤◌, nat_le, ℕ, ◌==◌, ◌||◌, ◌&&◌, ℤ, pos, Bool, true, false, List, Option, Some, None, get_or, Result, Ok, Err, refl, if◌then◌else◌}
use Rattle.b2_base.specs.declared.codes.TheConstants.{D80_NOT_OPEN, P34_RANGE, P48_DEVICE, S17_NUMERIC, S18_ALPHA, S20_VARIABLE, S26_PROGRAM_ONLY, S27_LEFT_OUT}
use Rattle.b2_base.specs.declared.files.By.{By}
use Rattle.b2_base.specs.declared.files.Slot.{Slot}
use Rattle.b2_atom.specs.Tree.{Trees}
use Rattle.b2_atom.specs.Tree.Trees.{Put, In}
use Rattle.b2_atom.specs.declared.rows.TheConstants as row
use Rattle.std.specs.List.{list_all}
use Rattle.b2_dec.specs.declared.values.Value.{Value}
use Rattle.b2_rows.specs.CommaLists.{all_listed}
use Rattle.b2_expr.specs.Answers.{◌>>=◌, Answer as NumberAnswer}
use Rattle.b2_expr.specs.Functions.{fixed}
use Rattle.b2_expr.specs.Scope.{Context}
use Rattle.b2_expr.specs.Value.{context_of, value}
use Rattle.b2_expr.specs.Workspace.{work_in}
use Rattle.b2_expr.specs.declared.operators.Level.TheVariants as level
use Rattle.b2_access.specs.Devices.{is_platter_for}
use Rattle.b2_flow.specs.declared.frame.Place.{Place}
use Rattle.b2_rows.specs.declared.following.Goal.{Goal}
use Rattle.b2_access.specs.Dispatch.{here}
use Rattle.b2_access.specs.Jumps.{to_goal}
use Rattle.b2_access.specs.Lending.{SeenLent}
use Rattle.b2_access.specs.OwnDevices.{IsAtDisk}
use Rattle.b2_access.specs.Partition.{setting_of}
use Rattle.b2_access.specs.Placed.{Statement}
use Rattle.b2_access.specs.Touching.{IsLegal, IsName, is_short}
use Rattle.b2_access.specs.Views.{place_came}
use Rattle.b2_access.specs.Working.{FileWorked, Working, leaves_in, on_files, planned_of, stops}
use Rattle.b2_access.specs.declared.accesses.Access.{Access}
use Rattle.b2_access.specs.declared.accesses.Access.TheVariants as access
use Rattle.b2_access.specs.declared.accesses.Answer.{Answer}
use Rattle.b2_access.specs.declared.devices.Device.{Device}
use Rattle.b2_access.specs.declared.planned.Outcome.TheVariants as outcome
use Rattle.b2_access.specs.declared.planned.Planned.{Planned}
use Rattle.b2_access.specs.declared.planned.Planned.TheVariants as planned
use Rattle.b2_access.specs.declared.private.Private.{Private}
use Rattle.b2_access.proofs.Choice.{either}
use Rattle.b2_access.proofs.Dispatch.{each_dispatch}
use Rattle.b2_drive.specs.Asking.{asks_or_fails}
use Rattle.b2_drive.specs.Drives.{DrivesSeen, drive_used, drives_of, platter_used}
use Rattle.b2_drive.specs.FileNames.{name_given}
use Rattle.b2_drive.proofs.Asked as asked
use Rattle.b2_stmt_file.specs.FileAnswers.{by_place, file_ends}
use Rattle.b2_stmt_file.specs.Counts.{count_from, count_given}
use Rattle.b2_stmt_file.specs.LoadedValues.{all_kinds}
use Rattle.b2_stmt_file.specs.Ending.{end_goal}
use Rattle.b2_stmt_file.specs.Loading.{asks_to_load, loading_ends, loads_in}
use Rattle.b2_stmt_file.specs.Opening.{asks_for_new, asks_for_old, makes, new_file, old_file, reuses}
use Rattle.b2_stmt_file.specs.Plan.{asked_of, dispatch_of, does, ended_of, is_refused, works}
use Rattle.b2_stmt_file.specs.Saving.{asks_to_save, saved, saves_in, saving_ends}
use Rattle.b2_stmt_file.specs.Skipping.{asks_to_skip, back, forward, slot_skipped}
use Rattle.b2_stmt_file.specs.Slots.{file_held, file_listed, file_used, slot_in}
use Rattle.b2_stmt_file.specs.SavedValues.{all_saved}
use Rattle.b2_stmt_file.proofs.ShortValues.{AreShort, all_short}
use Rattle.b2_stmt_file.proofs.Tests.{at_least, both_first}

-- the values that an access saves are those of items
abbrev pub SavesItems : Context → Access → Type 0
SavesItems e (access.DataSave slot values) = (ts : List Trees) × (all_saved e ts ≡ Ok values)
SavesItems e a = Unit {0}

-- what holds of each refusal, and of each access of a platter that may be used
module _ (F : Planned → Type 0) (d : DrivesSeen) (e : Context) (failed : (code : ℕ) → F (planned.Done (outcome.Failed code)))
    (asks : (addr : List ℕ) (a : Access) → d.listed addr ≡ true → IsAtDisk addr a → IsLegal a → SavesItems e a → F (planned.Ask a)) where
  Asked : Result Access ℕ → Type 0
  Asked r = F (asks_or_fails r)

  after_platter : (o : Option (List ℕ)) (next : List ℕ → Result Access ℕ) → ((x : List ℕ) → d.listed x ≡ true → Asked (next x)) → Asked (platter_used d o >>= next)
  unfolding Asked
  after_platter o next h = asked.after_platter F d failed o next h

  after_drive : (t : Trees) (next : List ℕ → Result Access ℕ) → ((x : List ℕ) → d.listed x ≡ true → Asked (next x)) → Asked (drive_used d t >>= next)
  unfolding Asked
  after_drive t next h = asked.after_drive F d failed t next h

  after_value : {A : Type 0} (r : Result A ℕ) (next : A → Result Access ℕ) → ((x : A) → Asked (next x)) → Asked (r >>= next)
  unfolding Asked
  after_value r next h = asked.after_value F d failed r next h

  after_name : (t : Trees) (next : List ℕ → Result Access ℕ) → ((x : List ℕ) → IsName x → Asked (next x)) → Asked (name_given e t >>= next)
  unfolding Asked
  after_name t next h = asked.after_name F d failed e t next h

  -- a count is one from its least on
  count_by : (b : Bool) (least n : ℕ) (next : ℕ → Result Access ℕ) → (nat_le least n && nat_le n 16777215) ≡ b → ((x : ℕ) → least ≤ x → Asked (next x))
      → Asked ((if b then Ok n else Err P34_RANGE) >>= next)
  unfolding Asked
  count_by true least n next is h = h n (at_least least n (both_first _ _ is))
  count_by false least n next is h = failed P34_RANGE

  after_counted : (least : ℕ) (o : Option ℤ) (next : ℕ → Result Access ℕ) → ((x : ℕ) → least ≤ x → Asked (next x)) → Asked (count_from least o >>= next)
  unfolding Asked
  after_counted least (Some (pos n)) next h = count_by (nat_le least n && nat_le n 16777215) least n next refl h
  after_counted least o next h = failed P34_RANGE

  after_number : (least : ℕ) (r : NumberAnswer) (next : ℕ → Result Access ℕ) → ((x : ℕ) → least ≤ x → Asked (next x)) → Asked ((r >>= (λ x. count_from least (fixed x))) >>= next)
  unfolding Asked
  after_number least (Ok x) next h = after_counted least (fixed x) next h
  after_number least (Err code) next h = failed code

  after_count : (least : ℕ) (t : Trees) (next : ℕ → Result Access ℕ) → ((x : ℕ) → least ≤ x → Asked (next x)) → Asked (count_given least e t >>= next)
  after_count least t next h = after_number least (value e level.Sum t) next h

  -- a file in a slot, whose place isn't before its first sector
  Used : Slot → Type 0
  Used s = (d.listed s.addr ≡ true) × (s.start ≤ s.pos)

  listed_by : (b : Bool) (s : Slot) (next : Slot → Result Access ℕ) → d.listed s.addr ≡ b → s.start ≤ s.pos → ((x : Slot) → Used x → Asked (next x))
      → Asked ((if b then Ok s else Err P48_DEVICE) >>= next)
  unfolding Asked Used
  listed_by true s next is placed h = h s (is, placed)
  listed_by false s next is placed h = failed P48_DEVICE

  held_by : (b : Bool) (s : Slot) (next : Slot → Result Access ℕ) → nat_le s.start s.pos ≡ b → ((x : Slot) → Used x → Asked (next x))
      → Asked (((if b then Ok s else Err D80_NOT_OPEN) >>= file_listed d) >>= next)
  unfolding Asked
  held_by true s next is h = listed_by (d.listed s.addr) s next refl (at_least s.start s.pos is) h
  held_by false s next is h = failed D80_NOT_OPEN

  after_held : (o : Option Slot) (next : Slot → Result Access ℕ) → ((x : Slot) → Used x → Asked (next x)) → Asked ((file_held o >>= file_listed d) >>= next)
  unfolding Asked
  after_held None next h = failed D80_NOT_OPEN
  after_held (Some s) next h = held_by (nat_le s.start s.pos) s next refl h

  after_file : (slots : List (Option Slot)) (n : ℕ) (next : Slot → Result Access ℕ) → ((x : Slot) → Used x → Asked (next x)) → Asked (file_used d slots n >>= next)
  after_file slots n next h = after_held (get_or slots n None) next h

  -- values that a record may have
  after_values : (r : Result (List Value) ℕ) (next : List Value → Result Access ℕ) → AreShort r → ((xs : List Value) → list_all is_short xs ≡ true → r ≡ Ok xs → Asked (next xs)) → Asked (r >>= next)
  unfolding Asked
  after_values (Ok xs) next short h = h xs short refl
  after_values (Err code) next short h = failed code

  -- what opens
  reuses_asked : (addr : List ℕ) (t name : Trees) → d.listed addr ≡ true → Asked (reuses e addr t name)
  unfolding Asked
  reuses_asked addr (Put opening (In n old closing)) name listed =
      after_value (name_given e old) (λ o. name_given e name >>= (λ x. Ok (access.DataNew addr (Some o) 0 x)))
      (λ o. after_name name (λ x. Ok (access.DataNew addr (Some o) 0 x)) (λ x named. asks addr (access.DataNew addr (Some o) 0 x) listed refl named tt))
  reuses_asked addr t name listed = failed S18_ALPHA

  makes_asked : (addr : List ℕ) (sectors name : Trees) → d.listed addr ≡ true → Asked (makes e addr sectors name)
  unfolding Asked
  makes_asked addr sectors name listed =
      after_count 2 sectors (λ n. name_given e name >>= (λ x. Ok (access.DataNew addr None n x)))
      (λ n enough. after_name name (λ x. Ok (access.DataNew addr None n x)) (λ x named. asks addr (access.DataNew addr None n x) listed refl (enough, named) tt))

  new_file_asked : (addr : List ℕ) (t : Trees) → d.listed addr ≡ true → Asked (new_file e addr t)
  unfolding Asked
  new_file_asked addr (In k what (Put comma (In n name end))) listed = either Asked (k == 1) _ _ (reuses_asked addr what name listed) (makes_asked addr what name listed)
  new_file_asked addr t listed = failed S17_NUMERIC

  new_asked : (t : Trees) → Asked (asks_for_new d e t)
  unfolding Asked
  new_asked (Put word (In n drive (In m slot file))) = after_drive drive (λ addr. new_file e addr file) (λ addr listed. new_file_asked addr file listed)
  new_asked t = failed S17_NUMERIC

  old_file_asked : (addr : List ℕ) (t : Trees) → d.listed addr ≡ true → Asked (old_file e addr t)
  unfolding Asked
  old_file_asked addr (In n name end) listed = after_value (name_given e name) (λ x. Ok (access.DataOpen addr x)) (λ x. asks addr (access.DataOpen addr x) listed refl tt tt)
  old_file_asked addr t listed = failed S18_ALPHA

  old_asked : (t : Trees) → Asked (asks_for_old d e t)
  unfolding Asked
  old_asked (Put word (In n drive (In m slot file))) = after_drive drive (λ addr. old_file e addr file) (λ addr listed. old_file_asked addr file listed)
  old_asked t = failed S18_ALPHA

  -- what goes by a slot
  saved_asked : (file : Slot) (t : Trees) → Used file → Asked (saved e file t)
  unfolding Asked Used
  saved_asked file (In k what end) used =
      either Asked (k == 1) _ _ (asks file.addr (access.DataEnd file) used.0 refl used.1 tt)
      (after_values (all_saved e (all_listed what)) (λ xs. Ok (access.DataSave file xs)) (all_short e (all_listed what)) (λ xs short is. asks file.addr (access.DataSave file xs) used.0 refl (short, used.1) (all_listed what, is)))
  saved_asked file t used = failed S17_NUMERIC

  saves_asked : (slots : List (Option Slot)) (t : Trees) → Asked (saves_in d slots e t)
  unfolding Asked
  saves_asked slots (In n slot what) = after_file slots (slot_in slot) (λ file. saved e file what) (λ file used. saved_asked file what used)
  saves_asked slots t = failed S17_NUMERIC

  save_asked : (slots : List (Option Slot)) (t : Trees) → Asked (asks_to_save d slots e t)
  unfolding Asked
  save_asked slots (Put word (Put dc (In k operands end))) = either Asked (k == 1) _ _ (new_asked operands) (saves_asked slots operands)
  save_asked slots t = failed S17_NUMERIC

  loads_asked : (slots : List (Option Slot)) (t : Trees) → Asked (loads_in d slots e t)
  unfolding Asked Used
  loads_asked slots (In n slot items) =
      after_file slots (slot_in slot) (λ file. all_kinds e.around (all_listed items) >>= (λ kinds. Ok (access.DataLoad file kinds)))
      (λ file used. after_value (all_kinds e.around (all_listed items)) (λ kinds. Ok (access.DataLoad file kinds)) (λ kinds. asks file.addr (access.DataLoad file kinds) used.0 refl used.1 tt))
  loads_asked slots t = failed S20_VARIABLE

  load_asked : (slots : List (Option Slot)) (t : Trees) → Asked (asks_to_load d slots e t)
  unfolding Asked
  load_asked slots (Put word (Put dc (In k operands end))) = either Asked (k == 1) _ _ (old_asked operands) (loads_asked slots operands)
  load_asked slots t = failed S20_VARIABLE

  skip_asked : (way : Context → Trees → Result By ℕ) (slots : List (Option Slot)) (t : Trees) → Asked (asks_to_skip way d slots e t)
  unfolding Asked Used
  skip_asked way slots (Put word (In n slot operand)) =
      after_file slots (slot_in slot) (λ file. way e operand >>= (λ w. Ok (access.Skip file w)))
      (λ file used. after_value (way e operand) (λ w. Ok (access.Skip file w)) (λ w. asks file.addr (access.Skip file w) used.0 refl used.1 tt))
  skip_asked way slots t = failed S17_NUMERIC

  each_asked : (slots : List (Option Slot)) (r : ℕ) (t : Trees) → F (asks_or_fails (asked_of d slots e r t))
  unfolding Asked
  each_asked slots r t =
      either Asked (r == row.DATASAVE) _ _ (save_asked slots t)
      (either Asked (r == row.DATALOAD) _ _ (load_asked slots t)
      (either Asked (r == row.DSKIP) _ _ (skip_asked forward slots t)
      (either Asked (r == row.DBACKSPACE) _ _ (skip_asked back slots t) (failed S27_LEFT_OUT))))

-- what the expressions of a statement look at
abbrev pub looked_at : Private → SeenLent → Context
looked_at me s = context_of (work_in (setting_of me) s.home me.vars s.globals)

-- so also of what the statement at a place plans
module _ (devices : List Device) (me : Private) (s : SeenLent) (F : Planned → Type 0) (ready : F (planned.Done outcome.Ready))
    (leads : (p : Place) (g : Goal) → me.place ≡ Some p → F (planned.Done (to_goal s.home.lines p g))) (failed : (code : ℕ) → F (planned.Done (outcome.Failed code)))
    (asks : (addr : List ℕ) (a : Access) → is_platter_for me.part addr devices ≡ true → IsAtDisk addr a → IsLegal a → SavesItems (looked_at me s) a → F (planned.Ask a)) where
  Each : Working → Type 0
  Each k = F (planned_of k)

  each_statement : (p : Place) → me.place ≡ Some p → (u : Statement) → Each (dispatch_of devices u (here p me s) me s)
  unfolding Each
  each_statement p is u =
      either Each (u.row == row.IF_END) _ _ (leads p (end_goal me.at_end p.unit (here p me s).units u.tree) is)
      (each_asked F (drives_of devices me) (looked_at me s) failed asks me.slots u.row u.tree)

  pub each_saving_planned : F (planned_of (works devices me s))
  unfolding Each
  each_saving_planned = each_dispatch is_refused stops (does devices me s) me s Each ready (failed S26_PROGRAM_ONLY) (λ p is u. each_statement p is u)

-- whatever is saved
pub each_planned : (devices : List Device) (me : Private) (s : SeenLent) (F : Planned → Type 0) → F (planned.Done outcome.Ready)
    → ((p : Place) (g : Goal) → me.place ≡ Some p → F (planned.Done (to_goal s.home.lines p g))) → ((code : ℕ) → F (planned.Done (outcome.Failed code)))
    → ((addr : List ℕ) (a : Access) → is_platter_for me.part addr devices ≡ true → IsAtDisk addr a → IsLegal a → F (planned.Ask a)) → F (planned_of (works devices me s))
each_planned devices me s F ready leads failed asks = each_saving_planned devices me s F ready leads failed (λ addr a listed is legal of. asks addr a listed is legal)

-- and of how a statement finishes
pub each_ended : (F : FileWorked → Type 0) (x : Access) (a : Answer) (me : Private) (s : SeenLent) → ((t : Trees) → F (saving_ends x a t me)) → ((t : Trees) → F (loading_ends x a t me s))
    → ((t : Trees) → F (file_ends (slot_skipped t) (by_place (place_came x a)) me)) → F (leaves_in on_files me outcome.Repeat) → (u : Statement) → F (ended_of u x a me s)
each_ended F x a me s saves loads skips repeats u =
    either F (u.row == row.DATASAVE) _ _ (saves u.tree)
    (either F (u.row == row.DATALOAD) _ _ (loads u.tree)
    (either F (u.row == row.DSKIP || u.row == row.DBACKSPACE) _ _ (skips u.tree) repeats))
