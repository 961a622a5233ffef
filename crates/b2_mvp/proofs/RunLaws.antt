-- What holds of every run that the promise speaks of: its boot is good, so its images are sound, and its log keeps to its bound.
use Rattle.std.proofs.Common.{◌≡◌, ℕ, ◌+◌, ◌≤◌, List, [], Option, Some, None, ap, sym, subst, ◌∙◌, arith}
use Rattle.std.specs.List.{All}
use Rattle.b2_base.specs.Files.{Files}
use Rattle.b2_boot.specs.Alone.{is_in_group}
use Rattle.b2_boot.specs.Boots.{BootState, IsGood}
use Rattle.b2_boot.specs.Drills.{drill_boot, drill_log}
use Rattle.b2_boot.specs.Logs.{granted_by}
use Rattle.b2_boot.specs.declared.log.Event.{Event}
use Rattle.b2_boot.proofs.DrillLaws.{drills_are_good, drills_grant_few}
use Rattle.b2_boot.proofs.FileBoots.{boots_of_files_are_good}
use Rattle.b2_boot.proofs.Granted.{granted_by-append}
use Rattle.b2_boot.proofs.LogBounds.{alone_grants_no_more, logs_keep_to_the_bound}
use Rattle.b2_store.specs.Files.{AreSound, IsSound}
use Rattle.b2_sched.proofs.FilesLeft.{files_outlast_turns}
use Rattle.b2_sched.proofs.Granted.{runs_keep_to_their_grant}
use Rattle.b2_sched.proofs.OpenFiles.{open_files_are_listed}
use Rattle.b2_sched.proofs.SoundRuns.{runs_stay_sound}
use Rattle.b2_sched.specs.World.{WorldState, private_of}
use Rattle.b2_mvp.specs.Laws.{FilesOutlastRuns, OpenFilesOfRunsAreListed, RunsAreSound, RunsCountFewSteps}
use Rattle.b2_mvp.specs.Inputs.{Gives}
use Rattle.b2_mvp.specs.declared.inputs.Source.{Source}
use Rattle.b2_mvp.specs.declared.inputs.Source.TheVariants as source
use Rattle.b2_mvp.specs.Top.{Runs, boot_for, boot_run, world_after}
use Rattle.b2_mvp.proofs.SoundImages.{images_sound}

-- the boot of a run is good, and its log keeps to the bound, whether they are those of files or of a drill
given_good : (s : Source) (files : Option Files) (b : BootState) (events : List Event) → Gives s files b events → IsGood b
given_good (source.Files texts) files b events given = boots_of_files_are_good given.has_boot.bytes b given.has_boot.passes
given_good (source.Drill n) files b events given = subst IsGood (sym given.boot_is) (drills_are_good n given.few)

given_grants : (s : Source) (files : Option Files) (b : BootState) (events : List Event) → Gives s files b events → granted_by b events ≤ 5000000
given_grants (source.Files texts) files b events given = logs_keep_to_the_bound b given.has_log.bytes events given.has_log.passes
given_grants (source.Drill n) files b events given =
    let same : granted_by b events ≡ granted_by (drill_boot n) (drill_log n) = (λ i. granted_by (given.boot_is i) (given.log_is i)) in
    let few = drills_grant_few n in
    let least = given.few in
    omega arith

module _ (words : List (List ℕ)) (files : Option Files) (r : Runs words files) where
  -- the images of a run are sound
  run_images : All IsSound r.images
  run_images =
      let good = given_good r.job.source files r.inputs.boot r.inputs.events r.inputs.given in
      images_sound files r.inputs.boot.platters r.images good.platters r.have_images

  -- so are the platters of each of its worlds
  world_sound : (events : List Event) → AreSound (world_after (boot_run r) r.images events).store
  world_sound events = runs_stay_sound (boot_run r) r.images events run_images

-- a boot cut down to a group is granted no more
cut_grants_no_more : (group : Option (List ℕ)) (b : BootState) (events : List Event) → granted_by (boot_for group b) events ≤ granted_by b events
cut_grants_no_more None b events = omega arith
cut_grants_no_more (Some parts) b events = alone_grants_no_more (is_in_group parts) b events

pub runs_are_sound : RunsAreSound
runs_are_sound words files r w of_run = subst (λ (x : WorldState). AreSound x.store) (sym of_run.is) (world_sound words files r of_run.before)

pub open_files_of_runs_are_listed : OpenFilesOfRunsAreListed
open_files_of_runs_are_listed words files r w of_run p me is =
    open_files_are_listed (boot_run r) r.images of_run.before (world_sound words files r []) p me (ap (private_of p) (sym of_run.is) ∙ is)

pub files_outlast_runs : FilesOutlastRuns
files_outlast_runs words files r w of_run = files_outlast_turns w (runs_are_sound words files r w of_run)

pub runs_count_few_steps : RunsCountFewSteps
runs_count_few_steps words files r w of_run =
    let boot = r.inputs.boot in
    let before = of_run.before in
    let few = runs_keep_to_their_grant (boot_run r) r.images before in
    let cut = cut_grants_no_more r.job.group boot before in
    let all = given_grants r.job.source files boot r.inputs.events r.inputs.given in
    let parts : granted_by boot r.inputs.events ≡ granted_by boot before + granted_by boot of_run.after = ap (granted_by boot) of_run.in_order ∙ granted_by-append boot before of_run.after in
    let counted : w.steps ≡ (world_after (boot_run r) r.images before).steps = ap (λ (x : WorldState). x.steps) of_run.is in
    omega arith
