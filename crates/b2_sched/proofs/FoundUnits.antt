-- A statement whose unit was found in a line of the program: what is planned there is what the language plans.
use Rattle.std.proofs.Common.{◌≡◌, ℕ, ◌&&◌, ◌||◌, not, Bool, true, false, true≢false, if◌then◌else◌, List, refl, sym, ap, ◌∙◌, Option, Some, is_some}
use Rattle.b2_rows.specs.Following.{tree_units}
use Rattle.b2_flow.specs.declared.frame.Place.{Place}
use Rattle.b2_access.specs.Lending.{SeenLent}
use Rattle.b2_access.specs.declared.devices.Device.{Device}
use Rattle.b2_access.specs.Dispatch.{Here, here, permitted, units_on}
use Rattle.b2_access.specs.Placed.{Statement, line_named, statement_on, statement_placed}
use Rattle.b2_access.specs.Planning.{Planning}
use Rattle.b2_access.specs.Working.{Ends, as_planned, plans_by, stops}
use Rattle.b2_access.specs.declared.private.Private.{Private}
use Rattle.b2_access.proofs.Dispatch.{found_dispatch, may_stand}
use Rattle.b2_stmt.specs.Clearing.{asks_access}
use Rattle.b2_stmt.specs.Plan as stmt
use Rattle.b2_stmt_disk.specs.devices.Plan as stmt_device
use Rattle.b2_stmt_file.specs.Plan as stmt_file
use Rattle.b2_stmt_io.specs.Plan as stmt_io
use Rattle.b2_stmt_mat.specs.Plan as stmt_mat
use Rattle.b2_stmt_pack.specs.Plan as stmt_pack
use Rattle.b2_stmt_disk.specs.programs.Plan as stmt_program
use Rattle.b2_stmt_var.specs.Plan as stmt_var
use Rattle.b2_sched.specs.Choice.{family_of, is_at_once, plan, plan_by}
use Rattle.b2_sched.specs.declared.choice.Family.{Family}
use Rattle.b2_sched.specs.declared.choice.Family.TheVariants as family

-- of the crates whose statements are planned at once
built_of : (a b c : Bool) → a ≡ false → (a || (b && not c)) ≡ true → b ≡ true
built_of true b c other is = absurd (true≢false other)
built_of false true c other is = refl
built_of false false c other is = absurd (true≢false (sym is))

of_first : (a b : Bool) (others : Family) → a ≡ true → (if a then family.Variables else (if b then family.Control else others)) ≡ family.Variables
of_first a b others is = ap (λ (x : Bool). if x then family.Variables else (if b then family.Control else others)) is

of_second : (a b : Bool) (others : Family) → a ≡ false → b ≡ true → (if a then family.Variables else (if b then family.Control else others)) ≡ family.Control
of_second a b others other is = ap (λ (x : Bool). if x then family.Variables else (if b then family.Control else others)) other ∙ ap (λ (x : Bool). if x then family.Control else others) is

abbrev others_of : ℕ → Family
others_of r =
    if stmt_io.is_printing r then family.Printing
    else (if stmt_io.is_built r then family.Terminal
    else (if stmt_mat.is_built r then family.Arrays
    else (if stmt_pack.is_built r then family.Packed
    else (if stmt_file.is_built r then family.Files
    else (if stmt_program.is_built r then family.Programs
    else (if stmt_device.is_built r then family.Devices
    else family.Disks))))))

variables : (r : ℕ) → stmt_var.is_built r ≡ true → family_of r ≡ family.Variables
variables r is = of_first (stmt_var.is_built r) (stmt.is_built r) (others_of r) is

control : (r : ℕ) → stmt_var.is_built r ≡ false → stmt.is_built r ≡ true → family_of r ≡ family.Control
control r other is = of_second (stmt_var.is_built r) (stmt.is_built r) (others_of r) other is

-- one that is planned at once, and is none on variables, is one of control
pub control_built : (r : ℕ) → stmt_var.is_built r ≡ false → is_at_once r ≡ true → stmt.is_built r ≡ true
control_built r other is = built_of (stmt_var.is_built r) (stmt.is_built r) (asks_access r) other is

-- where the line and the unit of a place were found
unit_here : (p : Place) (me : Private) (s : SeenLent) (line : List ℕ) (u : Statement) → line_named me.immediate s.home.lines p.line ≡ Some line → Some u ≡ statement_on (Some line) p.unit
    → Some u ≡ statement_placed p me.immediate s.home.lines
unit_here p me s line u is_line is_unit = is_unit ∙ sym (ap (λ (l : Option (List ℕ)). statement_on l p.unit) is_line)

here_is : (p : Place) (me : Private) (s : SeenLent) (line : List ℕ) → line_named me.immediate s.home.lines p.line ≡ Some line → here p me s ≡ record { place = p; units = tree_units line }
here_is p me s line is_line = ap (λ (l : Option (List ℕ)). record { place = p; units = units_on l }) is_line

module _ (devices : List Device) (p : Place) (me : Private) (s : SeenLent) (line : List ℕ) (u : Statement) (x : Planning) (is : me.place ≡ Some p) (is_line : line_named me.immediate s.home.lines p.line ≡ Some line)
    (is_unit : Some u ≡ statement_on (Some line) p.unit) where
  pub variables_at_once : stmt_var.is_built u.row ≡ true → x ≡ as_planned me s (Ends (stmt_var.ended_of u me s)) → x ≡ plan devices u.row me s
  variables_at_once built is_x =
      is_x
      ∙ ap (as_planned me s) (found_dispatch stmt_var.is_refused stops (stmt_var.does me s) p me s u is (unit_here p me s line u is_line is_unit))
      ∙ sym (ap (λ (f : Family). plan_by devices f me s) (variables u.row built))

  pub control_at_once : stmt_var.is_built u.row ≡ false → stmt.is_built u.row ≡ true → x ≡ permitted stmt.is_refused (stmt.stops me s) (stmt.does me s) u (record { place = p; units = tree_units line }) → x ≡ plan devices u.row me s
  control_at_once other built is_x =
      is_x
      ∙ sym (ap (λ (h : Here). permitted stmt.is_refused (stmt.stops me s) (stmt.does me s) u h) (here_is p me s line is_line))
      ∙ found_dispatch stmt.is_refused (stmt.stops me s) (stmt.does me s) p me s u is (unit_here p me s line u is_line is_unit)
      ∙ sym (ap (λ (f : Family). plan_by devices f me s) (control u.row other built))

-- one on variables, whatever it looks at
pub variables_where_found : (devices : List Device) (p : Place) (me : Private) (s : SeenLent) (line : List ℕ) (u : Statement) (x : Planning)
    → me.place ≡ Some p → line_named me.immediate s.home.lines p.line ≡ Some line → Some u ≡ statement_on (Some line) p.unit → plan devices u.row me s ≡ stmt_var.plan me s
    → x ≡ as_planned me s (Ends (stmt_var.ended_of u me s)) → x ≡ plan devices u.row me s
variables_where_found devices p me s line u x is is_line is_unit planned is_x =
    is_x ∙ ap (as_planned me s) (found_dispatch stmt_var.is_refused stops (stmt_var.does me s) p me s u is (unit_here p me s line u is_line is_unit)) ∙ sym planned

-- one of control, whatever it asks for
control_there : (p : Place) (me : Private) (s : SeenLent) (line : List ℕ) (u : Statement) → me.place ≡ Some p → line_named me.immediate s.home.lines p.line ≡ Some line → Some u ≡ statement_on (Some line) p.unit
    → permitted stmt.is_refused (stmt.stops me s) (stmt.does me s) u (record { place = p; units = tree_units line }) ≡ stmt.plan me s
control_there p me s line u is is_line is_unit =
    sym (ap (λ (h : Here). permitted stmt.is_refused (stmt.stops me s) (stmt.does me s) u h) (here_is p me s line is_line))
    ∙ found_dispatch stmt.is_refused (stmt.stops me s) (stmt.does me s) p me s u is (unit_here p me s line u is_line is_unit)

pub control_where_found : (devices : List Device) (p : Place) (me : Private) (s : SeenLent) (line : List ℕ) (u : Statement) (x : Planning)
    → me.place ≡ Some p → line_named me.immediate s.home.lines p.line ≡ Some line → Some u ≡ statement_on (Some line) p.unit → plan devices u.row me s ≡ stmt.plan me s
    → x ≡ permitted stmt.is_refused (stmt.stops me s) (stmt.does me s) u (record { place = p; units = tree_units line }) → x ≡ plan devices u.row me s
control_where_found devices p me s line u x is is_line is_unit planned is_x = is_x ∙ control_there p me s line u is is_line is_unit ∙ sym planned

-- at the terminal, where it prints or reads: in a program it may stand
unrefused : (b program : Bool) → program ≡ true → (b && not program) ≡ false
unrefused true program is = ap not is
unrefused false program is = refl

pub planned_where_found : (devices : List Device) (p : Place) (me : Private) (s : SeenLent) (line : List ℕ) (u : Statement) (x : Planning)
    → me.place ≡ Some p → is_some p.line ≡ true → line_named me.immediate s.home.lines p.line ≡ Some line → Some u ≡ statement_on (Some line) p.unit → plan devices u.row me s ≡ stmt_io.plan devices me s
    → x ≡ plans_by (stmt_io.dispatch_of devices u) me s → x ≡ plan devices u.row me s
planned_where_found devices p me s line u x is program is_line is_unit planned is_x =
    is_x
    ∙ ap (as_planned me s)
    (sym (may_stand stmt_io.is_refused stops (stmt_io.does devices me s) u (here p me s) (unrefused (stmt_io.is_for_programs u.row) (is_some p.line) program))
    ∙ found_dispatch stmt_io.is_refused stops (stmt_io.does devices me s) p me s u is (unit_here p me s line u is_line is_unit))
    ∙ sym planned
