-- What statements on programs on disks plan: they ask for an access at a platter that the partition may use; and how they finish.
use Rattle.std.specs.Prelude.{◌≡◌, ◌⊎◌, ℕ, ◌==◌, ◌||◌, Bool, true, is_some, List, [], Result, Ok, refl, Option, None}
use Rattle.std.proofs.Common.{inl, inr}
use Rattle.b2_base.specs.declared.codes.TheConstants.{S18_ALPHA, S26_PROGRAM_ONLY, S27_LEFT_OUT}
use Rattle.b2_atom.specs.Tree.{Trees}
use Rattle.b2_atom.specs.Tree.Trees.{Done, Put, In}
use Rattle.b2_atom.specs.declared.rows.TheConstants as row
use Rattle.b2_expr.specs.Answers.{◌>>=◌}
use Rattle.b2_expr.specs.Scope.{Context}
use Rattle.b2_expr.specs.Value.{context_of}
use Rattle.b2_expr.specs.Workspace.{work_in}
use Rattle.b2_access.specs.Borrowers.{homes_entered, homes_marked}
use Rattle.b2_access.specs.Holding.{holders_changed}
use Rattle.b2_access.specs.Homes.{homes_of}
use Rattle.b2_access.specs.OwnDevices.{ReachesListed}
use Rattle.b2_access.specs.Causes.{terminal_of}
use Rattle.b2_access.specs.Touching.{IsLegal}
use Rattle.b2_access.specs.Lending.{SeenLent}
use Rattle.b2_access.specs.Partition.{setting_of}
use Rattle.b2_access.specs.Working.{Working, planned_of, stops}
use Rattle.b2_access.specs.declared.accesses.Access.{Access}
use Rattle.b2_access.specs.declared.accesses.Access.TheVariants as access
use Rattle.b2_access.specs.declared.devices.Device.{Device}
use Rattle.b2_access.specs.declared.planned.Outcome.TheVariants as outcome
use Rattle.b2_access.specs.declared.planned.Planned.{Planned}
use Rattle.b2_access.specs.declared.planned.Planned.TheVariants as planned
use Rattle.b2_access.specs.declared.private.Private.{Private}
use Rattle.b2_access.proofs.Choice.{either}
use Rattle.b2_access.proofs.Dispatch.{each_dispatch}
use Rattle.b2_drive.specs.Asking.{asks_or_fails}
use Rattle.b2_drive.specs.Drives.{DrivesSeen, drives_of}
use Rattle.b2_drive.specs.FileNames.{name_given}
use Rattle.b2_drive.proofs.Asked.{after_drive, after_name, after_value, is_of_drives}
use Rattle.b2_stmt_disk.specs.programs.Loading.{asks_to_load, given_up}
use Rattle.b2_stmt_disk.specs.programs.Plan.{asked_of, does, is_refused, works}
use Rattle.b2_stmt_disk.specs.programs.Saving.{asks_to_save, lines_saved, old_named, saves}

-- an access that reaches devices that are listed for a partition, names no terminal, marks no home or those of a mask, and may be asked for
pub record FitsHere (devices : List Device) (who entered : ℕ) (a : Access) : Type 0 where
  pub listed : ReachesListed devices who a
  pub terminal : terminal_of a ≡ None
  pub homes : (homes_of a ≡ []) ⊎ (homes_of a ≡ homes_marked entered)
  pub legal : IsLegal a
  pub kind : is_of_drives a ≡ true

-- what holds of each refusal, and of each access that fits and takes and frees no device
module _ (F : Planned → Type 0) (devices : List Device) (me : Private) (failed : (code : ℕ) → F (planned.Done (outcome.Failed code))) (homes : ℕ) (asks : (a : Access) → FitsHere devices me.part homes a → holders_changed a ≡ [] → F (planned.Ask a)) where
  abbrev d : DrivesSeen
  d = drives_of devices me

  Asked : Result Access ℕ → Type 0
  Asked r = F (asks_or_fails r)

  save_asked : (e : Context) (t : Trees) → Asked (asks_to_save d e t)
  unfolding Asked
  save_asked e (Put word (In n drive (In k old (In m name lines)))) =
      after_drive F d failed drive (λ addr. old_named e (In k old Done) >>= (λ o. name_given e name >>= (λ x. Ok (saves addr o x (lines_saved lines)))))
      (λ addr listed. after_value F d failed (old_named e (In k old Done)) (λ o. name_given e name >>= (λ x. Ok (saves addr o x (lines_saved lines))))
      (λ o. after_name F d failed e name (λ x. Ok (saves addr o x (lines_saved lines)))
      (λ x named. asks (saves addr o x (lines_saved lines)) (record { listed = (listed, tt); terminal = refl; homes = inl refl; legal = named; kind = refl }) refl)))
  save_asked e t = failed S18_ALPHA

  load_asked : (e : Context) (declared : Option (List ℕ)) (program : Bool) (t : Trees) → Asked (asks_to_load d e declared homes program t)
  unfolding Asked
  load_asked e declared program (Put word (In k run (In n drive (In m name end)))) =
      after_drive F d failed drive (λ addr. name_given e name >>= (λ x. Ok (access.LoadProgram addr x (k == 1 || program) (given_up (k == 1 || program) declared) homes)))
      (λ addr listed. after_value F d failed (name_given e name) (λ x. Ok (access.LoadProgram addr x (k == 1 || program) (given_up (k == 1 || program) declared) homes))
      (λ x. asks (access.LoadProgram addr x (k == 1 || program) (given_up (k == 1 || program) declared) homes) (record { listed = (listed, tt); terminal = refl; homes = inr refl; legal = tt; kind = refl }) refl))
  load_asked e declared program t = failed S18_ALPHA

  each_asked : (e : Context) (declared : Option (List ℕ)) (program : Bool) (r : ℕ) (t : Trees) → F (asks_or_fails (asked_of d e declared homes program r t))
  unfolding Asked
  each_asked e declared program r t =
      either Asked (r == row.SAVE) _ _ (save_asked e t)
      (either Asked (r == row.LOAD) _ _ (load_asked e declared program t) (failed S27_LEFT_OUT))

-- so also of what the statement at a place plans
module _ (devices : List Device) (me : Private) (s : SeenLent) (F : Planned → Type 0) (ready : F (planned.Done outcome.Ready)) (failed : (code : ℕ) → F (planned.Done (outcome.Failed code)))
    (asks : (a : Access) → FitsHere devices me.part (homes_entered me.stack) a → holders_changed a ≡ [] → F (planned.Ask a)) where
  Each : Working → Type 0
  Each k = F (planned_of k)

  pub each_planned : F (planned_of (works devices me s))
  unfolding Each
  each_planned =
      each_dispatch is_refused stops (does devices me s) me s Each ready (failed S26_PROGRAM_ONLY)
      (λ p is u. each_asked F devices me failed (homes_entered me.stack) asks (context_of (work_in (setting_of me) s.home me.vars s.globals)) me.declared (is_some p.line) u.row u.tree)
