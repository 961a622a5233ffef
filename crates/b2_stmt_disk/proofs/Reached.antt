-- A statement on disks changes the `@` variables only where a receiver of LIMITS among them is reached.
use Rattle.std.proofs.Common.{◌≡◌, ◌==◌, ℕ, ℤ, List, [], ◌∷◌, length, ◌&&◌, Option, Some, None, Result, Ok, Err, refl}
use Rattle.b2_base.specs.declared.codes.TheConstants.{D82_NO_FILE}
use Rattle.b2_atom.specs.Tree.{Trees}
use Rattle.b2_atom.specs.Tree.Trees.{Done, Put, In}
use Rattle.b2_atom.specs.declared.rows.TheConstants as row
use Rattle.b2_vars.specs.Globals.{Globals, MayBecome}
use Rattle.b2_expr.specs.Workspace.{Reaches, WorkLeft, refused, work_in}
use Rattle.b2_expr.proofs.Reached.{stay, then_reaches}
use Rattle.b2_receiver.specs.Receiving.{assign_number_at}
use Rattle.b2_receiver.proofs.Reached.{number_at_reaches}
use Rattle.b2_access.specs.Disks.{FourNumbers}
use Rattle.b2_access.specs.Lending.{SeenLent}
use Rattle.b2_access.specs.Partition.{setting_of}
use Rattle.b2_access.specs.Planning.{done, finished}
use Rattle.b2_access.specs.Views.{limits_told, listing_told}
use Rattle.b2_access.specs.Working.{EachReaches, Ends, PlansEachReach, Worked, Working, as_planned, ended, globals_after, lent_after, plain, stops, told_of_globals}
use Rattle.b2_access.specs.declared.devices.Device.{Device}
use Rattle.b2_access.specs.declared.private.Private.{Private}
use Rattle.b2_access.proofs.Choice.{either}
use Rattle.b2_access.proofs.Dispatch.{each_dispatch}
use Rattle.b2_drive.specs.Drives.{drives_of, selects}
use Rattle.b2_stmt_disk.specs.Limits.{after_name, gives_each, gives_file, gives_limits, gives_operands, is_absent, limits_end, numbers_of, receivers_in, whole_number}
use Rattle.b2_stmt_disk.specs.Listing.{listing_ends}
use Rattle.b2_stmt_disk.specs.Plan.{does, ends, finishes, is_refused, repeats, works}
use Rattle.b2_stmt_disk.specs.Selecting.{selected}
use Rattle.b2_stmt_disk.proofs.Planned.{each_ended}

-- SELECT DISK and LIST DC tell nothing of them
pub selected_plans : (r : Result (List ℕ) ℕ) (me : Private) (s : SeenLent) → as_planned me s (Ends (selected r me)) ≡ done s (ended me (selected r me))
selected_plans (Ok addr) me s = refl
selected_plans (Err code) me s = refl

selected_stays : (r : Result (List ℕ) ℕ) (me : Private) (g : Globals) → MayBecome g (globals_after (selected r me).work.globals g)
selected_stays (Ok addr) me g = stay g
selected_stays (Err code) me g = stay g

pub listing_finishes : (o : Option (List ℕ)) (me : Private) (s : SeenLent) → finished (lent_after (listing_ends o me).work s) (ended me (listing_ends o me)) ≡ finished s (ended me (listing_ends o me))
listing_finishes None me s = refl
listing_finishes (Some bytes) me s = refl

-- what a statement tells of them as it finishes
abbrev Tells : Globals → Worked → Type 0
Tells g w = MayBecome g (globals_after w.work.globals g)

listing_stays : (o : Option (List ℕ)) (me : Private) (g : Globals) → Tells g (listing_ends o me)
listing_stays None me g = stay g
listing_stays (Some bytes) me g = stay g

-- the receivers of LIMITS, from left to right
each_reaches : (zs : List ℤ) (ts : List Trees) → Reaches (gives_each zs ts)
each_reaches [] [] w = stay w.globals
each_reaches [] (t ∷ ts) w = stay w.globals
each_reaches (z ∷ zs) [] w = stay w.globals
each_reaches (z ∷ zs) (t ∷ ts) w = then_reaches w.globals (assign_number_at (whole_number z) t w) (gives_each zs ts) (number_at_reaches (whole_number z) t w) (each_reaches zs ts)

file_reaches : (n : FourNumbers) (receivers : List Trees) → Reaches (gives_file n receivers)
file_reaches n receivers w =
    either (λ (r : WorkLeft). MayBecome w.globals r.work.globals) (length receivers == 3 && is_absent n) (refused D82_NO_FILE w) (gives_each (numbers_of n) receivers w)
    (stay w.globals) (each_reaches (numbers_of n) receivers w)

operands_reach : (n : FourNumbers) (t : Trees) → Reaches (gives_operands n t)
operands_reach n Done w = stay w.globals
operands_reach n (Put v t) w = stay w.globals
operands_reach n (In k operands end) w =
    either (λ (r : WorkLeft). MayBecome w.globals r.work.globals) (k == 1) (gives_file n (receivers_in (after_name operands)) w) (gives_each (numbers_of n) (receivers_in operands) w)
    (file_reaches n (receivers_in (after_name operands)) w) (each_reaches (numbers_of n) (receivers_in operands) w)

limits_reach : (n : FourNumbers) (t : Trees) → Reaches (gives_limits n t)
limits_reach n Done w = stay w.globals
limits_reach n (In k a t) w = stay w.globals
limits_reach n (Put word Done) w = stay w.globals
limits_reach n (Put word (Put v t)) w = stay w.globals
limits_reach n (Put word (In m drive operands)) w = operands_reach n operands w

limits_tell : (o : Option FourNumbers) (t : Trees) (me : Private) (s : SeenLent) → Tells s.globals (limits_end o t me s)
limits_tell None t me s = stay s.globals
limits_tell (Some n) t me s = limits_reach n t (work_in (setting_of me) s.home me.vars s.globals)

pub plans_reach : (devices : List Device) → PlansEachReach (works devices)
plans_reach devices me s =
    let F : Working → Type 0 = λ k. MayBecome s.globals (globals_after (told_of_globals k) s.globals) in
    each_dispatch is_refused stops (does devices me s) me s F (stay s.globals) (stay s.globals) (λ p is u.
    either F (u.row == row.SELECT_DISK) _ _ (selected_stays (selects (drives_of devices me) u.tree) me s.globals) (stay s.globals))

pub finishes_reach : EachReaches plain ends
finishes_reach x a me s =
    each_dispatch is_refused (repeats me) (finishes x a me s) me s (Tells s.globals) (stay s.globals) (stay s.globals) (λ p is u.
    each_ended (Tells s.globals) x a me s (λ t. limits_tell (limits_told x a) t me s) (stay s.globals) (listing_stays (listing_told x a) me s.globals) (stay s.globals) u)
