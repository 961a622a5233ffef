-- The causes give the whole answer where the files are told and nothing fails.
use Rattle.std.proofs.Common.{◌≡◌, ℕ, ◌≤◌, length, ◌<◌, nat_le, Bool, true, false, if◌then◌else◌, List, [], ◌∷◌, ◌++◌, Option, Some, None, Result, Ok, Err, refl, sym, ap, subst, ◌∙◌, arith, inl, inr}
use Rattle.std.specs.Option.{IfSome, IsSomeAnd}
use Rattle.std.specs.FinMap.{get}
use Rattle.std.proofs.lemmas.Bool.Decides.{nat_tests}
use Rattle.b2_base.specs.Counts.{Rose}
use Rattle.b2_base.specs.Files.{Files, IsAbsent, IsFetched}
use Rattle.b2_base.specs.Seen.{ShelfSeen, SinkSeen}
use Rattle.b2_boot.specs.Boots.{BootState, boot_of}
use Rattle.b2_boot.specs.Drills.{drill_boot, drill_log}
use Rattle.b2_boot.specs.Logs.{LogRead, log_of}
use Rattle.b2_boot.specs.Logs.LogRead.{Events, Refused}
use Rattle.b2_boot.specs.declared.boot.BootPlatter.{BootPlatter}
use Rattle.b2_boot.specs.declared.log.Event.{Event}
use Rattle.b2_platter.specs.Checks.{own_check}
use Rattle.b2_sched.specs.Start.{Images}
use Rattle.b2_mvp.specs.Inputs.{boot_limit, log_limit, image_limit, Gives, HasBoot, HasInputs, HasSource, HaveImages, FailsImage, Input, IsReached, ReachesLog, RefusesBoot, RefusesLog, limit_of, name_of}
use Rattle.b2_mvp.specs.Inputs.Input.{TheBoot, TheLog, TheImage}
use Rattle.b2_mvp.specs.Top.{command_of, Runs, RunComes, ComesBy, Comes}
use Rattle.b2_mvp.specs.declared.inputs.BootAndLog.{BootAndLog}
use Rattle.b2_mvp.specs.declared.inputs.Source.{Source}
use Rattle.b2_mvp.specs.declared.inputs.Source.TheVariants as source
use Rattle.b2_mvp.specs.Complete.{Expected, expected, by_command, by_boot_file, by_boot, by_log_file, by_log, by_run, by_inputs, by_images, by_platters, by_platter, by_source, by_image_file, by_check, by_view, one_more, Answers, IsComplete}
use Rattle.b2_mvp.specs.Complete.Expected.{FailsBootCheck, FailsLogCheck, IsMissing, IsLong, FailsImageCheck, Puts}
use Rattle.b2_look.specs.Shows.{file_limit, shown, Shows}
use Rattle.b2_look.specs.declared.shows.View.{View}
use Rattle.b2_status.specs.Fetches.{IsLonger}
use Rattle.b2_status.specs.declared.status.Status.{Status}
use Rattle.b2_status.specs.declared.status.Status.TheVariants as status
use Rattle.b2_mvp.specs.declared.top.Command.{Command}
use Rattle.b2_mvp.specs.declared.top.Command.TheVariants as command
use Rattle.b2_mvp.specs.declared.top.Job.{Job}

-- a file within its limit, and one above it
within_limit : (A : Type 0) (size limit : ℕ) (x y : A) → size ≤ limit → (if nat_le size limit then x else y) ≡ x
within_limit A size limit x y h = let e : nat_le size limit ≡ true = grind (arith, nat_tests) in ap (λ (b : Bool). if b then x else y) e

above_limit : (A : Type 0) (size limit : ℕ) (x y : A) → limit < size → (if nat_le size limit then x else y) ≡ y
above_limit A size limit x y h = let e : nat_le size limit ≡ false = grind (arith, nat_tests) in ap (λ (b : Bool). if b then x else y) e

-- what is expected of a boot file that is there, and of a log
by_boot_within : (m : Files) (c : Job) (texts : BootAndLog) (bytes : List ℕ) → length bytes ≤ boot_limit → by_boot_file m c texts (Some bytes) ≡ by_boot m c texts (boot_of bytes)
by_boot_within m c texts bytes h = within_limit Expected (length bytes) boot_limit _ _ h

by_log_within : (m : Files) (c : Job) (texts : BootAndLog) (boot : BootState) (bytes : List ℕ) → length bytes ≤ log_limit
    → by_log_file m c texts boot (Some bytes) ≡ by_log m c boot (log_of boot bytes)
by_log_within m c texts boot bytes h = within_limit Expected (length bytes) log_limit _ _ h

-- where the boot file says this
expected_boot : (m : Files) (c : Job) (texts : BootAndLog) (bytes : List ℕ) (r : Result BootState ℕ) → IsFetched (Some m) texts.boot boot_limit bytes → boot_of bytes ≡ r
    → by_run m c (source.Files texts) ≡ by_boot m c texts r
expected_boot m c texts bytes r h says = ap (by_boot_file m c texts) h.told ∙ by_boot_within m c texts bytes h.within ∙ ap (by_boot m c texts) says

-- and the log says this
expected_log : (m : Files) (c : Job) (texts : BootAndLog) (boot : BootState) (bytes : List ℕ) (r : LogRead) → HasBoot texts.boot (Some m) boot → IsFetched (Some m) texts.log log_limit bytes
    → log_of boot bytes ≡ r → by_run m c (source.Files texts) ≡ by_log m c boot r
expected_log m c texts boot bytes r has h says =
    expected_boot m c texts has.bytes (Ok boot) has.fetched has.passes ∙ ap (by_log_file m c texts boot) h.told ∙ by_log_within m c texts boot bytes h.within ∙ ap (by_log m c boot) says

-- and both pass, or are those of a drill
expected_given : (m : Files) (c : Job) (s : Source) (boot : BootState) (events : List Event) → Gives s (Some m) boot events → by_run m c s ≡ by_inputs m c boot events
expected_given m c (source.Files texts) boot events given = expected_log m c texts boot given.has_log.bytes (Events events) given.has_boot given.has_log.fetched given.has_log.passes
expected_given m c (source.Drill n) boot events given = λ i. by_inputs m c (sym given.boot_is i) (sym given.log_is i)

expected_events : (words : List (List ℕ)) (m : Files) (c : Job) (inputs : HasInputs c.source (Some m)) → command_of words ≡ Some (command.Run c)
    → expected words m ≡ by_images c inputs.boot inputs.events (by_platters m inputs.boot.platters)
expected_events words m c inputs is = ap (by_command m) is ∙ expected_given m c c.source inputs.boot inputs.events inputs.given

-- an image that is there
source_there : (m : Files) (address : List ℕ) (image : Option (List ℕ)) (blank version : Option ℕ) (bytes : List ℕ) → HasSource image blank version (Some m) bytes → by_source m address image blank version ≡ Ok bytes
source_there m address (Some name) blank version bytes h =
    ap (by_image_file address name) h.fetched.told ∙ within_limit (Result (List ℕ) Expected) (length bytes) image_limit _ _ h.fetched.within ∙ ap (by_check address bytes) h.sound.0
source_there m address None (Some sectors) version bytes h = ap Ok (sym h)
source_there m address None None version bytes h = absurd h

images_there : (m : Files) (ps : List BootPlatter) (images : Images) → HaveImages (Some m) ps images → by_platters m ps ≡ Ok images
images_there m [] [] h = refl
images_there m [] (image ∷ images) h = absurd h
images_there m (p ∷ ps) [] h = absurd h
images_there m (p ∷ ps) (image ∷ images) h = λ i. one_more (source_there m p.address p.image p.blank p.version image h.0 i) (images_there m ps images h.1 i)

-- some images, and what comes of those that follow
abbrev prepend : Images → Result Images Expected → Result Images Expected
prepend [] r = r
prepend (image ∷ images) r = one_more (Ok image) (prepend images r)

images_then : (m : Files) (before : List BootPlatter) (images : Images) (p : BootPlatter) (after : List BootPlatter) → HaveImages (Some m) before images
    → by_platters m (before ++ p ∷ after) ≡ prepend images (one_more (by_platter m p) (by_platters m after))
images_then m [] [] p after h = refl
images_then m [] (image ∷ images) p after h = absurd h
images_then m (q ∷ before) [] p after h = absurd h
images_then m (q ∷ before) (image ∷ images) p after h = λ i. one_more (source_there m q.address q.image q.blank q.version image h.0 i) (images_then m before images p after h.1 i)

prepend_refused : (images : Images) (e : Expected) → prepend images (Err e) ≡ Err e
prepend_refused [] e = refl
prepend_refused (image ∷ images) e = ap (one_more (Ok image)) (prepend_refused images e)

-- an input that is reached, by the file of its name
abbrev by_boot_input : (m : Files) (c : Job) (s : Source) → Option (List ℕ) → Expected
by_boot_input m c (source.Files texts) file = by_boot_file m c texts file
by_boot_input m c (source.Drill n) file = by_run m c (source.Drill n)

abbrev by_log_input : (m : Files) (c : Job) (s : Source) → ReachesLog s (Some m) → Option (List ℕ) → Expected
by_log_input m c (source.Files texts) r file = by_log_file m c texts r.0 file
by_log_input m c (source.Drill n) r file = absurd r

abbrev by_input : (m : Files) (c : Job) (s : Source) (input : Input) → IsReached s (Some m) input → Option (List ℕ) → Expected
by_input m c s TheBoot r file = by_boot_input m c s file
by_input m c s TheLog r file = by_log_input m c s r file
by_input m c s (TheImage p name) r file = by_images c r.0.boot r.0.events (prepend r.1.images (one_more (by_image_file p.address name file) (by_platters m r.1.after)))

run_input : (m : Files) (c : Job) (s : Source) (input : Input) (r : IsReached s (Some m) input) → by_run m c s ≡ by_input m c s input r (get m (name_of s input))
run_input m c (source.Files texts) TheBoot r = refl
run_input m c (source.Drill n) TheBoot r = refl
run_input m c (source.Files texts) TheLog r = expected_boot m c texts r.1.bytes (Ok r.0) r.1.fetched r.1.passes
run_input m c (source.Drill n) TheLog r = absurd r
run_input m c s (TheImage p name) r =
    expected_given m c s r.0.boot r.0.events r.0.given
    ∙ ap (by_images c r.0.boot r.0.events)
    (ap (by_platters m) r.1.in_order ∙ images_then m r.1.before r.1.images p r.1.after r.1.have_images
    ∙ ap (λ image. prepend r.1.images (one_more (by_source m p.address image p.blank p.version) (by_platters m r.1.after))) r.1.named)

expected_input : (words : List (List ℕ)) (m : Files) (c : Job) (input : Input) (r : IsReached c.source (Some m) input) → command_of words ≡ Some (command.Run c)
    → expected words m ≡ by_input m c c.source input r (get m (name_of c.source input))
expected_input words m c input r is = ap (by_command m) is ∙ run_input m c c.source input r

missing_input : (m : Files) (c : Job) (s : Source) (input : Input) (r : IsReached s (Some m) input) → by_input m c s input r None ≡ IsMissing (name_of s input)
missing_input m c (source.Files texts) TheBoot r = refl
missing_input m c (source.Drill n) TheBoot r = absurd r
missing_input m c (source.Files texts) TheLog r = refl
missing_input m c (source.Drill n) TheLog r = absurd r
missing_input m c s (TheImage p name) r = ap (by_images c r.0.boot r.0.events) (prepend_refused r.1.images (IsMissing name))

long_input : (m : Files) (c : Job) (s : Source) (input : Input) (r : IsReached s (Some m) input) (file : Option (List ℕ)) → IsSomeAnd file (λ f. limit_of input < length f)
    → by_input m c s input r file ≡ IsLong (name_of s input) (limit_of input)
long_input m c s TheBoot r None h = absurd h
long_input m c (source.Files texts) TheBoot r (Some bytes) h = above_limit Expected (length bytes) boot_limit _ _ h
long_input m c (source.Drill n) TheBoot r (Some bytes) h = absurd r
long_input m c s TheLog r None h = absurd h
long_input m c (source.Files texts) TheLog r (Some bytes) h = above_limit Expected (length bytes) log_limit _ _ h
long_input m c (source.Drill n) TheLog r (Some bytes) h = absurd r
long_input m c s (TheImage p name) r None h = absurd h
long_input m c s (TheImage p name) r (Some bytes) h =
    ap (λ (image : Result (List ℕ) Expected). by_images c r.0.boot r.0.events (prepend r.1.images (one_more image (by_platters m r.1.after))))
    (above_limit (Result (List ℕ) Expected) (length bytes) image_limit _ _ h)
    ∙ ap (by_images c r.0.boot r.0.events) (prepend_refused r.1.images (IsLong name image_limit))

-- an image that isn't good
expected_bad : (words : List (List ℕ)) (m : Files) (c : Job) (inputs : HasInputs c.source (Some m)) (address : List ℕ) (check : ℕ) → command_of words ≡ Some (command.Run c)
    → FailsImage inputs.boot.platters (Some m) address check → expected words m ≡ FailsImageCheck address check
expected_bad words m c inputs address check is h =
    let r : IsReached c.source (Some m) (TheImage h.platter h.name) = (inputs, h.next) in
    let bytes = h.fails.bytes in
    expected_input words m c (TheImage h.platter h.name) r is
    ∙ ap (by_input m c c.source (TheImage h.platter h.name) r) h.fails.fetched.told
    ∙ ap (λ (image : Result (List ℕ) Expected). by_images c inputs.boot inputs.events (prepend h.next.images (one_more image (by_platters m h.next.after))))
    (within_limit (Result (List ℕ) Expected) (length bytes) image_limit _ _ h.fails.fetched.within ∙ ap (by_check h.platter.address bytes) h.fails.fails)
    ∙ ap (by_images c inputs.boot inputs.events) (prepend_refused h.next.images (FailsImageCheck h.platter.address check))
    ∙ ap (λ (a : List ℕ). FailsImageCheck a check) h.is_at

-- a run to its end
expected_run : (words : List (List ℕ)) (m : Files) (r : Runs words (Some m)) → expected words m ≡ by_images r.job r.inputs.boot r.inputs.events (Ok r.images)
expected_run words m r =
    expected_events words m r.job r.inputs r.is_command ∙ ap (by_images r.job r.inputs.boot r.inputs.events) (images_there m r.inputs.boot.platters r.images r.have_images)

-- where memory fails, a command is answered
abbrev IsFine : {A : Type 0} → Result A Expected → Type 0
IsFine (Ok x) = Unit {0}
IsFine (Err e) = Answers e status.NoMemory

check_fine : (address bytes : List ℕ) (check : Option ℕ) → IsFine (by_check address bytes check)
check_fine address bytes None = tt
check_fine address bytes (Some check) = inr refl

within_fine : (b : Bool) (name : List ℕ) (r : Result (List ℕ) Expected) → IsFine r → IsFine (if b then r else Err (IsLong name image_limit))
within_fine true name r h = h
within_fine false name r h = inr refl

file_fine : (address name : List ℕ) (file : Option (List ℕ)) → IsFine (by_image_file address name file)
file_fine address name None = inr refl
file_fine address name (Some bytes) = within_fine (nat_le (length bytes) image_limit) name _ (check_fine address bytes (own_check bytes))

source_fine : (m : Files) (address : List ℕ) (image : Option (List ℕ)) (blank version : Option ℕ) → IsFine (by_source m address image blank version)
source_fine m address (Some name) blank version = file_fine address name (get m name)
source_fine m address None (Some sectors) version = tt
source_fine m address None None version = tt

more_fine : (r : Result (List ℕ) Expected) (rs : Result Images Expected) → IsFine r → IsFine rs → IsFine (one_more r rs)
more_fine (Ok image) (Ok images) h k = tt
more_fine (Ok image) (Err e) h k = k
more_fine (Err e) rs h k = h

platters_fine : (m : Files) (ps : List BootPlatter) → IsFine (by_platters m ps)
platters_fine m [] = tt
platters_fine m (p ∷ ps) = more_fine (by_platter m p) (by_platters m ps) (source_fine m p.address p.image p.blank p.version) (platters_fine m ps)

images_answered : (c : Job) (boot : BootState) (events : List Event) (r : Result Images Expected) → IsFine r → Answers (by_images c boot events r) status.NoMemory
images_answered c boot events (Ok images) h = inr (inl refl)
images_answered c boot events (Err e) h = h

log_answered : (m : Files) (c : Job) (texts : BootAndLog) (boot : BootState) (b : Bool) (r : LogRead) → Answers (if b then by_log m c boot r else IsLong texts.log log_limit) status.NoMemory
log_answered m c texts boot true (Events events) = images_answered c boot events (by_platters m boot.platters) (platters_fine m boot.platters)
log_answered m c texts boot true (Refused line check) = inr refl
log_answered m c texts boot false r = inr refl

log_file_answered : (m : Files) (c : Job) (texts : BootAndLog) (boot : BootState) (file : Option (List ℕ)) → Answers (by_log_file m c texts boot file) status.NoMemory
log_file_answered m c texts boot None = inr refl
log_file_answered m c texts boot (Some bytes) = log_answered m c texts boot (nat_le (length bytes) log_limit) (log_of boot bytes)

boot_answered : (m : Files) (c : Job) (texts : BootAndLog) (b : Bool) (r : Result BootState ℕ) → Answers (if b then by_boot m c texts r else IsLong texts.boot boot_limit) status.NoMemory
boot_answered m c texts true (Ok boot) = log_file_answered m c texts boot (get m texts.log)
boot_answered m c texts true (Err check) = inr refl
boot_answered m c texts false r = inr refl

boot_file_answered : (m : Files) (c : Job) (texts : BootAndLog) (file : Option (List ℕ)) → Answers (by_boot_file m c texts file) status.NoMemory
boot_file_answered m c texts None = inr refl
boot_file_answered m c texts (Some bytes) = boot_answered m c texts (nat_le (length bytes) boot_limit) (boot_of bytes)

run_answered : (m : Files) (c : Job) (s : Source) → Answers (by_run m c s) status.NoMemory
run_answered m c (source.Files texts) = boot_file_answered m c texts (get m texts.boot)
run_answered m c (source.Drill n) = images_answered c (drill_boot n) (drill_log n) (by_platters m (drill_boot n).platters) (platters_fine m (drill_boot n).platters)

-- a boot file and a log that fail a check
boot_refused : (m : Files) (c : Job) (s : Source) (check : ℕ) → RefusesBoot s (Some m) check → by_run m c s ≡ FailsBootCheck check
boot_refused m c (source.Files texts) check h = expected_boot m c texts h.bytes (Err check) h.fetched h.fails
boot_refused m c (source.Drill n) check h = absurd h

log_refused : (m : Files) (c : Job) (s : Source) (line check : ℕ) → RefusesLog s (Some m) line check → by_run m c s ≡ FailsLogCheck line check
log_refused m c (source.Files texts) line check h = expected_log m c texts h.0 h.2.bytes (Refused line check) h.1 h.2.fetched h.2.fails
log_refused m c (source.Drill n) line check h = absurd h

-- each status of a run is the expected one
complete : (words : List (List ℕ)) (m : Files) (old new : ShelfSeen) (before after : SinkSeen) (s : Status) → old.files ≡ Some m
    → RunComes words old new before after s → (Rose old.faults new.faults → ⊥) → (Rose before.faults after.faults → ⊥) → Answers (expected words m) s
complete words m old new before after status.Ok told h shelf_well sink_well =
    subst (λ e. Answers e status.Ok) (sym (expected_run words m (subst (Runs words) told h.run))) (inl refl)
complete words m old new before after status.Usage told h shelf_well sink_well = absurd h
complete words m old new before after (status.Missing name) told h shelf_well sink_well =
    let f = h.refuses in
    let r : IsReached h.job.source (Some m) f.input = subst (λ files. IsReached h.job.source files f.input) told f.reached in
    let absent : get m name ≡ None = subst (λ files. IsAbsent files name) told f.fails.2 in
    subst (λ e. Answers e (status.Missing name))
    (sym (expected_input words m h.job f.input r h.is_command ∙ ap (by_input m h.job h.job.source f.input r) (ap (get m) (sym f.fails.0) ∙ absent) ∙ missing_input m h.job h.job.source f.input r))
    (inl (ap status.Missing f.fails.0))
complete words m old new before after (status.ReadFault name) told h shelf_well sink_well = absurd (shelf_well h.refuses.fails.1)
complete words m old new before after (status.TooLong name limit) told h shelf_well sink_well =
    let f = h.refuses in
    let r : IsReached h.job.source (Some m) f.input = subst (λ files. IsReached h.job.source files f.input) told f.reached in
    let long : IsSomeAnd (get m name) (λ file. limit < length file) = subst (λ files. IsLonger files name limit) told f.fails.3 in
    let there : IsSomeAnd (get m (name_of h.job.source f.input)) (λ file. limit_of f.input < length file) =
    subst (λ (n : List ℕ). IsSomeAnd (get m n) (λ file. limit_of f.input < length file)) f.fails.0 (subst (λ (l : ℕ). IsSomeAnd (get m name) (λ file. l < length file)) f.fails.1 long) in
    subst (λ e. Answers e (status.TooLong name limit))
    (sym (expected_input words m h.job f.input r h.is_command ∙ long_input m h.job h.job.source f.input r _ there))
    (inl (λ i. status.TooLong (f.fails.0 i) (f.fails.1 i)))
complete words m old new before after (status.BadBoot check) told h shelf_well sink_well =
    let b = subst (λ files. RefusesBoot h.job.source files check) told h.refuses in
    subst (λ e. Answers e (status.BadBoot check)) (sym (ap (by_command m) h.is_command ∙ boot_refused m h.job h.job.source check b)) (inl refl)
complete words m old new before after (status.BadLog line check) told h shelf_well sink_well =
    let l = subst (λ files. RefusesLog h.job.source files line check) told h.refuses in
    subst (λ e. Answers e (status.BadLog line check)) (sym (ap (by_command m) h.is_command ∙ log_refused m h.job h.job.source line check l)) (inl refl)
complete words m old new before after (status.BadImage address check) told h shelf_well sink_well =
    let r = subst (λ files. (inputs : HasInputs h.job.source files) × FailsImage inputs.boot.platters files address check) told h.refuses in
    subst (λ e. Answers e (status.BadImage address check)) (sym (expected_bad words m h.job r.0 address check h.is_command r.1)) (inl refl)
complete words m old new before after (status.WriteFault name) told h shelf_well sink_well =
    elim (h.left) as (λ _. Answers (expected words m) (status.WriteFault name)) [
      | inl a ↦ absurd (shelf_well a.1)
      | inr b ↦ absurd (sink_well b.1)
    ]
complete words m old new before after status.NoMemory told h shelf_well sink_well =
    subst (λ e. Answers e status.NoMemory) (sym (ap (by_command m) h.is_command)) (run_answered m h.job h.job.source)
complete words m old new before after (status.KeepNoMemory name) told h shelf_well sink_well =
    subst (λ e. Answers e (status.KeepNoMemory name)) (sym (expected_run words m (subst (Runs words) told h.run))) (inr (inr (name, refl)))

-- what is expected of a view of a file that is there, and where memory fails
view_within : (v : View) (name : List ℕ) (m : Files) (bytes : List ℕ) → IsFetched (Some m) name file_limit bytes → by_view v name (get m name) ≡ Puts (shown v bytes)
view_within v name m bytes h = ap (by_view v name) h.told ∙ within_limit Expected (length bytes) file_limit _ _ h.within

limited_answered : (v : View) (name bytes : List ℕ) (b : Bool) → Answers (if b then Puts (shown v bytes) else IsLong name file_limit) status.NoMemory
limited_answered v name bytes true = inr (inl refl)
limited_answered v name bytes false = inr refl

view_answered : (v : View) (name : List ℕ) (file : Option (List ℕ)) → Answers (by_view v name file) status.NoMemory
view_answered v name None = inr refl
view_answered v name (Some bytes) = limited_answered v name bytes (nat_le (length bytes) file_limit)

view_long : (v : View) (name : List ℕ) (file : Option (List ℕ)) → IsSomeAnd file (λ f. file_limit < length f) → by_view v name file ≡ IsLong name file_limit
view_long v name None h = absurd h
view_long v name (Some bytes) h = above_limit Expected (length bytes) file_limit _ _ h

-- each status of a view is the expected one
view_complete : (v : View) (name : List ℕ) (m : Files) (old new : ShelfSeen) (before after : SinkSeen) (s : Status) → old.files ≡ Some m
    → Shows v name old new before after s → (Rose old.faults new.faults → ⊥) → (Rose before.faults after.faults → ⊥) → Answers (by_view v name (get m name)) s
view_complete v name m old new before after status.Ok told h shelf_well sink_well =
    subst (λ e. Answers e status.Ok) (sym (view_within v name m h.bytes (subst (λ f. IsFetched f name file_limit h.bytes) told h.fetched))) (inl refl)
view_complete v name m old new before after status.Usage told h shelf_well sink_well = absurd h
view_complete v name m old new before after (status.Missing at) told h shelf_well sink_well =
    let absent : get m at ≡ None = subst (λ files. IsAbsent files at) told h.fails.2 in
    subst (λ e. Answers e (status.Missing at)) (sym (ap (by_view v name) (ap (get m) (sym h.fails.0) ∙ absent))) (inl (ap status.Missing h.fails.0))
view_complete v name m old new before after (status.ReadFault at) told h shelf_well sink_well = absurd (shelf_well h.fails.1)
view_complete v name m old new before after (status.TooLong at limit) told h shelf_well sink_well =
    let long : IsSomeAnd (get m at) (λ file. limit < length file) = subst (λ files. IsLonger files at limit) told h.fails.3 in
    let there : IsSomeAnd (get m name) (λ file. file_limit < length file) =
    subst (λ (n : List ℕ). IsSomeAnd (get m n) (λ file. file_limit < length file)) h.fails.0 (subst (λ (l : ℕ). IsSomeAnd (get m at) (λ file. l < length file)) h.fails.1 long) in
    subst (λ e. Answers e (status.TooLong at limit)) (sym (view_long v name (get m name) there)) (inl (λ i. status.TooLong (h.fails.0 i) (h.fails.1 i)))
view_complete v name m old new before after (status.BadBoot check) told h shelf_well sink_well = absurd h
view_complete v name m old new before after (status.BadLog line check) told h shelf_well sink_well = absurd h
view_complete v name m old new before after (status.BadImage address check) told h shelf_well sink_well = absurd h
view_complete v name m old new before after (status.WriteFault at) told h shelf_well sink_well = absurd (sink_well h.ends.1)
view_complete v name m old new before after status.NoMemory told h shelf_well sink_well = view_answered v name (get m name)
view_complete v name m old new before after (status.KeepNoMemory at) told h shelf_well sink_well =
    subst (λ e. Answers e (status.KeepNoMemory at)) (sym (view_within v name m h.bytes (subst (λ f. IsFetched f name file_limit h.bytes) told h.fetched))) (inr (inr (at, refl)))

-- so is each of a command
complete_by : (words : List (List ℕ)) (said : Option Command) (m : Files) (old new : ShelfSeen) (before after : SinkSeen) (s : Status) → command_of words ≡ said → old.files ≡ Some m
    → ComesBy said words old new before after s → (Rose old.faults new.faults → ⊥) → (Rose before.faults after.faults → ⊥) → Answers (by_command m said) s
complete_by words None m old new before after s is told h shelf_well sink_well = h.0
complete_by words (Some (command.Run job)) m old new before after s is told h shelf_well sink_well =
    subst (λ said. Answers (by_command m said) s) is (complete words m old new before after s told h shelf_well sink_well)
complete_by words (Some (command.Show v name)) m old new before after s is told h shelf_well sink_well = view_complete v name m old new before after s told h shelf_well sink_well

is_complete : (words : List (List ℕ)) (old new : ShelfSeen) (before after : SinkSeen) (s : Status) (files : Option Files) → old.files ≡ files
    → Comes words old new before after s → IfSome files (λ m. (Rose old.faults new.faults → ⊥) → (Rose before.faults after.faults → ⊥) → Answers (expected words m) s)
is_complete words old new before after s None told h = tt
is_complete words old new before after s (Some m) told h = complete_by words (command_of words) m old new before after s refl told h

pub completeness : (words : List (List ℕ)) (old new : ShelfSeen) (before after : SinkSeen) (s : Status) → Comes words old new before after s → IsComplete words old new before after s
completeness words old new before after s h = is_complete words old new before after s old.files refl h

-- words that are no command
pub only_usage : (words : List (List ℕ)) (old new : ShelfSeen) (before after : SinkSeen) (s : Status) → Comes words old new before after s → command_of words ≡ None → s ≡ status.Usage
only_usage words old new before after s h none = (subst (λ said. ComesBy said words old new before after s) none h).0
