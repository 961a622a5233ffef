-- Which statements ask for accesses that enter, leave or give back no text: all but those of control, and LOAD, which gives back the texts
-- that calls entered.
use Rattle.std.specs.Prelude.{◌≡◌, ◌≤◌, ℕ, ◌==◌, ◌||◌, Bool, true, false, List, [], ◌∷◌, Option, Some, None, is_some, Result, Ok, Err, refl, if◌then◌else◌}
use Rattle.std.proofs.Common.{sym, ap, ◌∙◌}
use Rattle.std.proofs.lemmas.Bool.{true≢false}
use Rattle.b2_atom.specs.Tree.{Trees}
use Rattle.b2_atom.specs.Tree.Trees.{Put, In, Done}
use Rattle.b2_atom.specs.declared.rows.TheConstants as row
use Rattle.b2_expr.specs.Answers.{◌>>=◌}
use Rattle.b2_expr.specs.Scope.{Context}
use Rattle.b2_expr.specs.Value.{context_of}
use Rattle.b2_expr.specs.Workspace.{work_in}
use Rattle.b2_flow.specs.declared.frame.Place.{Place}
use Rattle.b2_text.specs.declared.spots.Spot.{Spot}
use Rattle.b2_access.specs.AccessRows.{reach}
use Rattle.b2_access.specs.Answering.{can_answer}
use Rattle.b2_access.specs.Borrowers.{homes_entered, homes_marked, is_inside, is_marked}
use Rattle.b2_access.specs.Entering.{entered_after}
use Rattle.b2_access.specs.Homes.{AnswerIn, homes_of}
use Rattle.b2_access.specs.Lending.{SeenLent}
use Rattle.b2_access.specs.Partition.{setting_of}
use Rattle.b2_access.specs.Reach.{Reach}
use Rattle.b2_access.specs.Working.{planned_of, stops}
use Rattle.b2_access.specs.declared.accesses.Access.{Access}
use Rattle.b2_access.specs.declared.accesses.Access.TheVariants as access
use Rattle.b2_access.specs.declared.accesses.Answer.{Answer}
use Rattle.b2_access.specs.declared.accesses.Answer.TheVariants as answer
use Rattle.b2_access.specs.declared.devices.Device.{Device}
use Rattle.b2_access.specs.declared.planned.Planned.{Planned}
use Rattle.b2_access.specs.declared.planned.Planned.TheVariants as planned
use Rattle.b2_access.specs.declared.private.Private.{Private}
use Rattle.b2_access.proofs.Borrowers.{marked_inside}
use Rattle.b2_access.proofs.Choice.{either}
use Rattle.b2_access.proofs.Dispatch.{each_dispatch}
use Rattle.b2_access.proofs.Working.{as_it_comes}
use Rattle.b2_drive.proofs.Asked.{Fits, is_of_drives}
use Rattle.b2_drive.specs.Asking.{asks_or_fails}
use Rattle.b2_drive.specs.Drives.{DrivesSeen, drive_used, drives_of}
use Rattle.b2_drive.specs.FileNames.{name_given}
use Rattle.b2_stmt_disk.proofs.of_devices.Planned as stmt_device_planned
use Rattle.b2_stmt_disk.specs.devices.Plan as stmt_device
use Rattle.b2_stmt_disk.proofs.Planned as stmt_disk_planned
use Rattle.b2_stmt_disk.specs.Plan as stmt_disk
use Rattle.b2_stmt_file.proofs.Planned as stmt_file_planned
use Rattle.b2_stmt_file.specs.Plan as stmt_file
use Rattle.b2_stmt_io.proofs.Planned as stmt_io_planned
use Rattle.b2_stmt_io.specs.Plan as stmt_io
use Rattle.b2_stmt_mat.specs.Plan as stmt_mat
use Rattle.b2_stmt_pack.specs.Plan as stmt_pack
use Rattle.b2_stmt_disk.specs.programs.Loading.{asks_to_load, given_up}
use Rattle.b2_stmt_disk.specs.programs.Plan as stmt_program
use Rattle.b2_stmt_disk.specs.programs.Saving.{asks_to_save, lines_saved, old_named, saves}
use Rattle.b2_stmt_var.specs.Plan as stmt_var

-- ---- accesses

-- an access that looks for who holds a name, or enters the text of who does
abbrev pub seeks : Access → Bool
seeks (access.FindPart name) = true
seeks (access.Enter name mark) = true
seeks x = false

-- and one that does neither, and gives back and leaves no text
pub record EntersNone (x : Access) : Type 0 where
  pub homes : homes_of x ≡ []
  pub seeks_nobody : seeks x ≡ false

not_marked : (g homes : ℕ) → 1 ≤ g → g ≤ 16 → homes_marked homes ≡ [] → is_marked g homes ≡ false
not_marked g homes low high none = sym (marked_inside g homes low high) ∙ ap (is_inside g) none

none_given : (g homes k : ℕ) → 1 ≤ g → g ≤ 16 → homes_marked homes ≡ [] → (if is_marked g homes then 0 else k) ≡ k
none_given g homes k low high none = ap (λ (b : Bool). if b then 0 else k) (not_marked g homes low high none)

pub none_after : (x : Access) (a : Answer) (g k : ℕ) → 1 ≤ g → g ≤ 16 → EntersNone x → entered_after x a g k ≡ k
none_after (access.Enter name mark) a g k low high none = absurd (true≢false none.seeks_nobody)
none_after (access.Leave home) a g k low high none = let clash : home ∷ [] ≡ [] = none.homes in absurd (cc)
none_after (access.Drop homes) answer.Done g k low high none = none_given g homes k low high none.homes
none_after (access.PutLine line atoms homes) answer.Done g k low high none = none_given g homes k low high none.homes
none_after (access.Erase from to homes) answer.Done g k low high none = none_given g homes k low high none.homes
none_after (access.ClearAll name homes) answer.Done g k low high none = none_given g homes k low high none.homes
none_after (access.LoadProgram addr name replace declared homes) answer.Done g k low high none = none_given g homes k low high none.homes
none_after x a g k low high none = refl

-- its answer leads to nobody
never_holder : (x : Access) (p : ℕ) → seeks x ≡ false → can_answer x (answer.Holder p) ≡ false
never_holder (access.FindPart name) p none = absurd (true≢false none)
never_holder (access.Enter name mark) p none = absurd (true≢false none)
never_holder x p none = refl

never_entered : (x : Access) (g : ℕ) (spot : Spot) → seeks x ≡ false → can_answer x (answer.Entered g spot) ≡ false
never_entered (access.FindPart name) g spot none = absurd (true≢false none)
never_entered (access.Enter name mark) g spot none = absurd (true≢false none)
never_entered x g spot none = refl

pub leads_to_nobody : (among : ℕ → Bool) (x : Access) (a : Answer) → seeks x ≡ false → can_answer x a ≡ true → AnswerIn among a
leads_to_nobody among x (answer.Holder p) none may = absurd (true≢false (sym may ∙ never_holder x p none))
leads_to_nobody among x (answer.Entered g spot) none may = absurd (true≢false (sym may ∙ never_entered x g spot none))
leads_to_nobody among x a none may = tt

-- by what it reaches
seeks_by_reach : (x : Access) → (reach x).entered ≡ None → (reach x).names ≡ [] → seeks x ≡ false
seeks_by_reach (access.FindPart name) none names = let clash : name ∷ [] ≡ [] = names in absurd (cc)
seeks_by_reach (access.Enter name mark) none names = let clash : Some name ≡ None = none in absurd (cc)
seeks_by_reach x none names = refl

by_reach : (x : Access) (r : Reach) → reach x ≡ r → r.borrowers ≡ [] → r.entered ≡ None → r.names ≡ [] → EntersNone x
by_reach x r is homes none names =
    record { homes = ap (λ (y : Reach). y.borrowers) is ∙ homes; seeks_nobody = seeks_by_reach x (ap (λ (y : Reach). y.entered) is ∙ none) (ap (λ (y : Reach). y.names) is ∙ names) }

-- ---- what is planned

abbrev pub AsksNone : Planned → Type 0
AsksNone (planned.Done o) = Unit {0}
AsksNone (planned.Ask x) = EntersNone x

pub variables_ask_none : (me : Private) (s : SeenLent) → AsksNone (stmt_var.plan me s).planned
variables_ask_none me s = as_it_comes AsksNone me s (stmt_var.works me s) (each_dispatch stmt_var.is_refused stops (stmt_var.does me s) me s (λ w. AsksNone (planned_of w)) tt tt (λ p is u. tt))

pub arrays_ask_none : (me : Private) (s : SeenLent) → AsksNone (stmt_mat.plan me s).planned
arrays_ask_none me s = as_it_comes AsksNone me s (stmt_mat.works me s) (each_dispatch stmt_mat.is_refused stops (stmt_mat.does me s) me s (λ w. AsksNone (planned_of w)) tt tt (λ p is u. tt))

pub packed_ask_none : (me : Private) (s : SeenLent) → AsksNone (stmt_pack.plan me s).planned
packed_ask_none me s = as_it_comes AsksNone me s (stmt_pack.works me s) (each_dispatch stmt_pack.is_refused stops (stmt_pack.does me s) me s (λ w. AsksNone (planned_of w)) tt tt (λ p is u. tt))

pub terminal_asks_none : (devices : List Device) (me : Private) (s : SeenLent) → AsksNone (stmt_io.plan devices me s).planned
terminal_asks_none devices me s =
    as_it_comes AsksNone me s (stmt_io.works devices me s)
    (stmt_io_planned.each_planned devices me s AsksNone tt tt (λ code. tt) (λ a is. by_reach a _ is refl refl refl) (λ addr bytes after is. record { homes = refl; seeks_nobody = refl }))

pub files_ask_none : (devices : List Device) (me : Private) (s : SeenLent) → AsksNone (stmt_file.plan devices me s).planned
files_ask_none devices me s =
    as_it_comes AsksNone me s (stmt_file.works devices me s)
    (stmt_file_planned.each_planned devices me s AsksNone tt (λ p g is. tt) (λ code. tt) (λ addr a listed is legal. by_reach a _ is refl refl refl))

-- ---- what is asked for after what was evaluated first

module _ (P : Access → Type 0) where
  abbrev pub AsksSo : Result Access ℕ → Type 0
  AsksSo (Ok x) = P x
  AsksSo (Err code) = Unit {0}

  after : {A : Type 0} (r : Result A ℕ) (next : A → Result Access ℕ) → ((x : A) → AsksSo (next x)) → AsksSo (r >>= next)
  after (Ok x) next h = h x
  after (Err code) next h = tt

-- those on disks, and those that take and free devices, by the kinds that they ask for
seeks_none : (a : Access) → is_of_drives a ≡ true → seeks a ≡ false
seeks_none (access.FindPart name) is = absurd (true≢false (sym is))
seeks_none (access.Enter name mark) is = absurd (true≢false (sym is))
seeks_none a is = refl

fits_none : (devices : List Device) (who : ℕ) (a : Access) → Fits devices who a → EntersNone a
fits_none devices who a fits = record { homes = Fits.homes fits; seeks_nobody = seeks_none a (Fits.kind fits) }

pub disks_ask_none : (devices : List Device) (me : Private) (s : SeenLent) → AsksNone (stmt_disk.plan devices me s).planned
disks_ask_none devices me s =
    as_it_comes AsksNone me s (stmt_disk.works devices me s) (stmt_disk_planned.each_planned devices me s AsksNone tt tt (λ code. tt) (λ a fits stays. fits_none devices me.part a fits))

pub devices_ask_none : (devices : List Device) (me : Private) (s : SeenLent) → AsksNone (stmt_device.plan devices me s).planned
devices_ask_none devices me s =
    as_it_comes AsksNone me s (stmt_device.works devices me s) (stmt_device_planned.each_planned devices me s AsksNone tt tt (λ code. tt) (λ a fits. fits_none devices me.part a fits))

-- ---- programs: LOAD gives back what calls entered, and replaces the lines where it stands in a line of the program; SAVE enters none

abbrev pub Loads : Private → Access → Type 0
Loads me (access.LoadProgram addr name replace declared homes) = (homes ≡ homes_entered me.stack) × (p : Place) × (me.place ≡ Some p) × (is_some p.line ≡ true → replace ≡ true)
Loads me (access.SaveProgram addr old name from to) = Unit {0}
Loads me x = ⊥

abbrev pub LoadsIfAsks : Private → Planned → Type 0
LoadsIfAsks me (planned.Done o) = Unit {0}
LoadsIfAsks me (planned.Ask x) = Loads me x

load_or_fails : (me : Private) (r : Result Access ℕ) → AsksSo (Loads me) r → LoadsIfAsks me (asks_or_fails r)
load_or_fails me (Ok x) h = h
load_or_fails me (Err code) h = tt

replaces : (b program : Bool) → program ≡ true → (b || program) ≡ true
replaces true program is = refl
replaces false program is = is

module _ (me : Private) (p : Place) (at : me.place ≡ Some p) where
  save_asks : (d : DrivesSeen) (e : Context) (t : Trees) → AsksSo (Loads me) (asks_to_save d e t)
  save_asks d e (Put word (In n drive (In k old (In m name lines)))) =
      after (Loads me) (drive_used d drive) (λ addr. old_named e (In k old Done) >>= (λ o. name_given e name >>= (λ x. Ok (saves addr o x (lines_saved lines)))))
      (λ addr. after (Loads me) (old_named e (In k old Done)) (λ o. name_given e name >>= (λ x. Ok (saves addr o x (lines_saved lines))))
      (λ o. after (Loads me) (name_given e name) (λ x. Ok (saves addr o x (lines_saved lines))) (λ x. tt)))
  save_asks d e t = tt

  load_asks : (d : DrivesSeen) (e : Context) (declared : Option (List ℕ)) (t : Trees) → AsksSo (Loads me) (asks_to_load d e declared (homes_entered me.stack) (is_some p.line) t)
  load_asks d e declared (Put word (In k run (In n drive (In m name end)))) =
      let replace = k == 1 || is_some p.line in
      let homes = homes_entered me.stack in
      after (Loads me) (drive_used d drive) (λ addr. name_given e name >>= (λ x. Ok (access.LoadProgram addr x replace (given_up replace declared) homes)))
      (λ addr. after (Loads me) (name_given e name) (λ x. Ok (access.LoadProgram addr x replace (given_up replace declared) homes)) (λ x. (refl, p, at, λ line. replaces (k == 1) (is_some p.line) line)))
  load_asks d e declared t = tt

  program_asks : (d : DrivesSeen) (e : Context) (declared : Option (List ℕ)) (r : ℕ) (t : Trees) → AsksSo (Loads me) (stmt_program.asked_of d e declared (homes_entered me.stack) (is_some p.line) r t)
  program_asks d e declared r t = either (AsksSo (Loads me)) (r == row.SAVE) _ _ (save_asks d e t) (either (AsksSo (Loads me)) (r == row.LOAD) _ _ (load_asks d e declared t) tt)

pub programs_load : (devices : List Device) (me : Private) (s : SeenLent) → LoadsIfAsks me (stmt_program.plan devices me s).planned
programs_load devices me s =
    as_it_comes (LoadsIfAsks me) me s (stmt_program.works devices me s)
    (each_dispatch stmt_program.is_refused stops (stmt_program.does devices me s) me s (λ w. LoadsIfAsks me (planned_of w)) tt tt
    (λ p is u.
    let e = context_of (work_in (setting_of me) s.home me.vars s.globals) in
    let d = drives_of devices me in
    load_or_fails me (stmt_program.asked_of d e me.declared (homes_entered me.stack) (is_some p.line) u.row u.tree) (program_asks me p is d e me.declared u.row u.tree)))
