-- LIMITS: where a file lies, how much of it is used and its kind; or where the catalogue ends and goes on.
use Rattle.std.specs.Prelude.{ℕ, ◌==◌, ◌&&◌, ℤ, pos, Bool, List, [], ◌∷◌, length, Option, Some, None, Result, Ok, Err, if◌then◌else◌}
use Rattle.std.specs.Ordering.{int_eq}
use Rattle.b2_base.specs.declared.codes.TheConstants.{D82_NO_FILE, S20_VARIABLE}
use Rattle.b2_dec.specs.Rounding.{rounded}
use Rattle.b2_dec.specs.declared.number.Mode.TheVariants.{Cut}
use Rattle.b2_atom.specs.Tree.{Trees}
use Rattle.b2_atom.specs.Tree.Trees.{Done, Put, In}
use Rattle.b2_expr.specs.Answers.{Answer, ◌>>=◌}
use Rattle.b2_expr.specs.Scope.{Context}
use Rattle.b2_expr.specs.Workspace.{WorkState, WorkLeft, changed_by, refused, then_works, unchanged, work_in}
use Rattle.b2_receiver.specs.Receiving.{assign_number_at}
use Rattle.b2_access.specs.Disks.{FourNumbers}
use Rattle.b2_access.specs.Lending.{SeenLent}
use Rattle.b2_access.specs.Partition.{setting_of}
use Rattle.b2_access.specs.Working.{Worked, leaves, with_variables, work_of}
use Rattle.b2_access.specs.declared.accesses.Access.{Access}
use Rattle.b2_access.specs.declared.accesses.Access.TheVariants as access
use Rattle.b2_access.specs.declared.planned.Outcome.TheVariants as outcome
use Rattle.b2_access.specs.declared.private.Private.{Private}
use Rattle.b2_drive.specs.Drives.{DrivesSeen, drive_used}
use Rattle.b2_drive.specs.FileNames.{name_given}
use Rattle.b2_stmt_disk.specs.declared.limits.Told.{Told}

-- the name of the file, where one is written
abbrev pub named_file : Context → Trees → Result (Option (List ℕ)) ℕ
named_file e (In k (In n name more) end) = if k == 1 then (name_given e name >>= (λ name. Ok (Some name))) else Ok None
named_file e t = Ok None

-- the drive first, and then the name
abbrev pub asks_limits : DrivesSeen → Context → Trees → Result Access ℕ
asks_limits d e (Put word (In n drive operands)) = drive_used d drive >>= (λ addr. named_file e operands >>= (λ name. Ok (access.Limits addr name)))
asks_limits d e t = Err S20_VARIABLE

-- the receivers: three, and after a name there may be a fourth
abbrev pub fourth_in : Trees → List Trees
fourth_in (In k (Put comma (In n receiver end)) more) = receiver ∷ []
fourth_in t = []

abbrev pub receivers_in : Trees → List Trees
receivers_in (In n a (Put comma (In m b (Put separator (In k c more))))) = a ∷ b ∷ c ∷ fourth_in more
receivers_in t = []

abbrev pub after_name : Trees → Trees
after_name (In n name (Put comma receivers)) = receivers
after_name t = Done

-- a whole number as a number
abbrev pub whole_number : ℤ → Answer
whole_number z = rounded Cut z 1

-- they take the numbers from left to right, each among the variables as they then are, up to one with a code
abbrev pub gives_each : List ℤ → List Trees → WorkState → WorkLeft
gives_each (z ∷ zs) (t ∷ ts) w = then_works (assign_number_at (whole_number z) t w) (gives_each zs ts)
gives_each zs ts w = unchanged w

abbrev pub numbers_told : Told → FourNumbers
numbers_told n = record { first = n.first; second = n.second; third = n.third; fourth = n.fourth }

abbrev pub numbers_of : FourNumbers → List ℤ
numbers_of n = n.first ∷ n.second ∷ n.third ∷ n.fourth ∷ []

-- a file that isn't there has the kind 0
abbrev pub is_absent : FourNumbers → Bool
is_absent n = int_eq n.fourth (pos 0)

-- it is D82, where no receiver takes its kind
abbrev pub gives_file : FourNumbers → List Trees → WorkState → WorkLeft
gives_file n receivers w = if length receivers == 3 && is_absent n then refused D82_NO_FILE w else gives_each (numbers_of n) receivers w

abbrev pub gives_operands : FourNumbers → Trees → WorkState → WorkLeft
gives_operands n (In k operands end) w = if k == 1 then gives_file n (receivers_in (after_name operands)) w else gives_each (numbers_of n) (receivers_in operands) w
gives_operands n t w = refused S20_VARIABLE w

abbrev pub gives_limits : FourNumbers → Trees → WorkState → WorkLeft
gives_limits n (Put word (In m drive operands)) w = gives_operands n operands w
gives_limits n t w = refused S20_VARIABLE w

-- how LIMITS finishes: the numbers that were told are given, or it is asked for again
abbrev pub limits_end : Option FourNumbers → Trees → Private → SeenLent → Worked
limits_end None t me s = leaves me outcome.Repeat
limits_end (Some n) t me s = with_variables (changed_by (gives_limits n t (work_in (setting_of me) s.home me.vars s.globals))) outcome.Next (work_of me)
