-- What statements on disks plan: they end at once, or ask for an access at platters that the partition may use; and how they finish.
use Rattle.std.specs.Prelude.{◌≡◌, ◌≢◌, ℕ, ◌==◌, ◌||◌, Bool, true, false, if◌then◌else◌, List, [], Option, Some, None, Result, Ok, Err, refl}
use Rattle.std.specs.Str.{bytes_eq}
use Rattle.std.proofs.Common.{true≢false, sym, ◌∙◌}
use Rattle.std.proofs.lemmas.Slice.Eq.{bytes_eq-Decides}
use Rattle.b2_base.specs.declared.codes.TheConstants.{P34_RANGE, S17_NUMERIC, S18_ALPHA, S20_VARIABLE, S23_DEVICE, S26_PROGRAM_ONLY, S27_LEFT_OUT}
use Rattle.b2_atom.specs.Tree.{Trees}
use Rattle.b2_atom.specs.Tree.Trees.{Put, In}
use Rattle.b2_atom.specs.declared.rows.TheConstants as row
use Rattle.b2_expr.specs.Answers.{◌>>=◌}
use Rattle.b2_expr.specs.Scope.{Context}
use Rattle.b2_expr.specs.Value.{context_of}
use Rattle.b2_expr.specs.Workspace.{work_in}
use Rattle.b2_access.specs.Holding.{holders_changed}
use Rattle.b2_access.specs.Lending.{SeenLent}
use Rattle.b2_access.specs.Partition.{setting_of}
use Rattle.b2_access.specs.Placed.{Statement}
use Rattle.b2_access.specs.Views.{change_came, limits_told, listing_told}
use Rattle.b2_access.specs.Working.{Worked, Working, leaves, planned_of, stops}
use Rattle.b2_access.specs.declared.accesses.Access.{Access}
use Rattle.b2_access.specs.declared.accesses.Access.TheVariants as access
use Rattle.b2_access.specs.declared.accesses.Answer.{Answer}
use Rattle.b2_access.specs.declared.devices.Device.{Device}
use Rattle.b2_access.specs.declared.planned.Outcome.TheVariants as outcome
use Rattle.b2_access.specs.declared.planned.Planned.{Planned}
use Rattle.b2_access.specs.declared.planned.Planned.TheVariants as planned
use Rattle.b2_access.specs.declared.private.Private.{Private}
use Rattle.b2_access.proofs.Choice.{either}
use Rattle.b2_access.proofs.Dispatch.{each_dispatch}
use Rattle.b2_drive.specs.Asking.{asks_or_fails, change_ends}
use Rattle.b2_drive.specs.Drives.{DrivesSeen, drive_used, drives_of, platter_meant, platter_used, selects}
use Rattle.b2_drive.specs.FileNames.{name_given}
use Rattle.b2_drive.proofs.Asked.{Fits, after_drive, after_platter, after_value}
use Rattle.b2_stmt_disk.specs.Selecting.{selected}
use Rattle.b2_stmt_disk.specs.Limits.{asks_limits, limits_end, named_file}
use Rattle.b2_stmt_disk.specs.Listing.{asks_to_list, listing_ends}
use Rattle.b2_stmt_disk.specs.Moving.{asks_to_move, device_from, file_moved, moves, moves_apart}
use Rattle.b2_stmt_disk.specs.Plan.{asked_of, dispatch_of, does, ended_of, is_refused, works}
use Rattle.b2_stmt_disk.specs.Scratching.{asks_to_format, asks_to_scratch, sectors_given}

-- platters that differ
differ : (a b : List ℕ) → bytes_eq a b ≡ false → a ≢ b
differ a b is same = absurd (true≢false (sym ((bytes_eq-Decides a b).1 same) ∙ is))

-- what holds of each refusal, and of each access that fits and takes and frees no device
module _ (F : Planned → Type 0) (devices : List Device) (me : Private) (failed : (code : ℕ) → F (planned.Done (outcome.Failed code))) (asks : (a : Access) → Fits devices me.part a → holders_changed a ≡ [] → F (planned.Ask a)) where
  abbrev d : DrivesSeen
  d = drives_of devices me

  Asked : Result Access ℕ → Type 0
  Asked r = F (asks_or_fails r)

  at_drive : (t : Trees) (next : List ℕ → Result Access ℕ) → ((x : List ℕ) → d.listed x ≡ true → Asked (next x)) → Asked (drive_used d t >>= next)
  unfolding Asked
  at_drive t next h = after_drive F d failed t next h

  at_value : {A : Type 0} (r : Result A ℕ) (next : A → Result Access ℕ) → ((x : A) → Asked (next x)) → Asked (r >>= next)
  unfolding Asked
  at_value r next h = after_value F d failed r next h

  at_platter : (o : Option (List ℕ)) (next : List ℕ → Result Access ℕ) → ((x : List ℕ) → d.listed x ≡ true → Asked (next x)) → Asked (platter_used d (platter_meant o d.selected) >>= next)
  unfolding Asked
  at_platter o next h = after_platter F d failed (platter_meant o d.selected) next h

  limits_asked : (e : Context) (t : Trees) → Asked (asks_limits d e t)
  unfolding Asked
  limits_asked e (Put word (In n drive operands)) =
      at_drive drive (λ addr. named_file e operands >>= (λ name. Ok (access.Limits addr name)))
      (λ addr listed. at_value (named_file e operands) (λ name. Ok (access.Limits addr name)) (λ name. asks (access.Limits addr name) (record { listed = (listed, tt); terminal = refl; homes = refl; legal = tt; kind = refl }) refl))
  limits_asked e t = failed S20_VARIABLE

  scratch_asked : (e : Context) (t : Trees) → Asked (asks_to_scratch d e t)
  unfolding Asked
  scratch_asked e (Put word (In n drive (In m name end))) =
      at_drive drive (λ addr. name_given e name >>= (λ x. Ok (access.Scratch addr x)))
      (λ addr listed. at_value (name_given e name) (λ x. Ok (access.Scratch addr x)) (λ x. asks (access.Scratch addr x) (record { listed = (listed, tt); terminal = refl; homes = refl; legal = tt; kind = refl }) refl))
  scratch_asked e t = failed S18_ALPHA

  format_asked : (e : Context) (t : Trees) → Asked (asks_to_format d e t)
  unfolding Asked
  format_asked e (Put scratch (Put disk (In n drive (Put ls (Put is (In m index (Put comma (Put end (Put equals (In k last more)))))))))) =
      at_drive drive (λ addr. sectors_given e index >>= (λ i. sectors_given e last >>= (λ l. Ok (access.Format addr i l))))
      (λ addr listed. at_value (sectors_given e index) (λ i. sectors_given e last >>= (λ l. Ok (access.Format addr i l)))
      (λ i. at_value (sectors_given e last) (λ l. Ok (access.Format addr i l)) (λ l. asks (access.Format addr i l) (record { listed = (listed, tt); terminal = refl; homes = refl; legal = tt; kind = refl }) refl)))
  format_asked e t = failed S17_NUMERIC

  list_asked : (t : Trees) → Asked (asks_to_list d t)
  unfolding Asked
  list_asked (Put list (Put dc (In n drive end))) = at_drive drive (λ addr. Ok (access.ListDisk addr)) (λ addr listed. asks (access.ListDisk addr) (record { listed = (listed, tt); terminal = refl; homes = refl; legal = tt; kind = refl }) refl)
  list_asked t = failed S23_DEVICE

  -- two platters that differ
  apart_asked : (same : Bool) (a : List ℕ) (name : Option (List ℕ)) (b : List ℕ) → bytes_eq a b ≡ same → d.listed a ≡ true → d.listed b ≡ true
      → Asked (if same then Err P34_RANGE else Ok (moves a name b))
  unfolding Asked
  apart_asked true a name b is listed also = failed P34_RANGE
  apart_asked false a None b is listed also = asks (access.MovePlatter a b) (record { listed = (listed, (also, tt)); terminal = refl; homes = refl; legal = differ a b is; kind = refl }) refl
  apart_asked false a (Some name) b is listed also = asks (access.MoveFile a name b) (record { listed = (listed, (also, tt)); terminal = refl; homes = refl; legal = differ a b is; kind = refl }) refl

  move_asked : (e : Context) (t : Trees) → Asked (asks_to_move d e t)
  unfolding Asked
  move_asked e (Put move (In n moved (Put to (In m drive end)))) =
      at_platter (device_from moved) (λ a. file_moved e moved >>= (λ name. drive_used d drive >>= (λ b. moves_apart a name b)))
      (λ a listed. at_value (file_moved e moved) (λ name. drive_used d drive >>= (λ b. moves_apart a name b))
      (λ name. at_drive drive (λ b. moves_apart a name b) (λ b also. apart_asked (bytes_eq a b) a name b refl listed also)))
  move_asked e t = failed S23_DEVICE

  each_asked : (e : Context) (r : ℕ) (t : Trees) → F (asks_or_fails (asked_of d e r t))
  unfolding Asked
  each_asked e r t =
      either Asked (r == row.LIMITS) _ _ (limits_asked e t)
      (either Asked (r == row.SCRATCH) _ _ (scratch_asked e t)
      (either Asked (r == row.SCRATCH_DISK) _ _ (format_asked e t)
      (either Asked (r == row.LIST_DISK) _ _ (list_asked t)
      (either Asked (r == row.MOVE) _ _ (move_asked e t) (failed S27_LEFT_OUT)))))

-- so also of what the statement at a place plans
module _ (devices : List Device) (me : Private) (s : SeenLent) (F : Planned → Type 0) (next : F (planned.Done outcome.Next)) (ready : F (planned.Done outcome.Ready)) (failed : (code : ℕ) → F (planned.Done (outcome.Failed code)))
    (asks : (a : Access) → Fits devices me.part a → holders_changed a ≡ [] → F (planned.Ask a)) where
  Each : Working → Type 0
  Each k = F (planned_of k)

  each_selected : (r : Result (List ℕ) ℕ) → F (planned.Done (selected r me).outcome)
  each_selected (Ok addr) = next
  each_selected (Err code) = failed code

  each_statement : (u : Statement) → Each (dispatch_of devices u me s)
  unfolding Each
  each_statement u =
      either Each (u.row == row.SELECT_DISK) _ _ (each_selected (selects (drives_of devices me) u.tree))
      (each_asked F devices me failed asks (context_of (work_in (setting_of me) s.home me.vars s.globals)) u.row u.tree)

  pub each_planned : F (planned_of (works devices me s))
  unfolding Each
  each_planned = each_dispatch is_refused stops (does devices me s) me s Each ready (failed S26_PROGRAM_ONLY) (λ p is u. each_statement u)

-- and of how a statement finishes
pub each_ended : (F : Worked → Type 0) (x : Access) (a : Answer) (me : Private) (s : SeenLent) → ((t : Trees) → F (limits_end (limits_told x a) t me s)) → F (leaves me (change_ends (change_came x a)))
    → F (listing_ends (listing_told x a) me) → F (leaves me outcome.Repeat) → (u : Statement) → F (ended_of u x a me s)
each_ended F x a me s gives changes lists repeats u =
    either F (u.row == row.LIMITS) _ _ (gives u.tree)
    (either F (u.row == row.SCRATCH || u.row == row.SCRATCH_DISK || u.row == row.MOVE) _ _ changes
    (either F (u.row == row.LIST_DISK) _ _ lists repeats))
