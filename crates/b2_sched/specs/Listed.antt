-- Statements on variables, on arrays, on packed fields and of control ask for no device, so the table lists all that they ask for. Those at
-- the terminal plan by the printers that it lists for their partition.
use Rattle.std.specs.Str.{bytes_eq}
use Rattle.std.proofs.Common.{◌≡◌, ℕ, ◌==◌, Bool, true, false, List, Result, Ok, Err, refl, ap, if◌then◌else◌}
use Rattle.b2_atom.specs.declared.rows.TheConstants as row
use Rattle.b2_base.specs.declared.codes.TheConstants.{P48_DEVICE}
use Rattle.b2_expr.specs.Value.{context_of}
use Rattle.b2_expr.specs.Workspace.{work_in}
use Rattle.b2_access.specs.Dispatch.{Here, dispatch}
use Rattle.b2_access.specs.Devices.{is_printer_for}
use Rattle.b2_access.specs.Lending.{SeenLent}
use Rattle.b2_access.specs.OwnDevices.{PlannedListed, PlansListed, ReachesListed}
use Rattle.b2_access.specs.Partition.{setting_of, terminal_address}
use Rattle.b2_access.specs.Placed.{Statement}
use Rattle.b2_access.specs.Planning.{Planning}
use Rattle.b2_access.specs.Working.{Plans, Working, as_planned, planned_of, stops}
use Rattle.b2_access.specs.declared.accesses.Access.{Access}
use Rattle.b2_access.specs.declared.accesses.Access.TheVariants as access
use Rattle.b2_access.specs.declared.devices.Device.{Device}
use Rattle.b2_access.specs.declared.private.Private.{Private}
use Rattle.b2_access.proofs.Dispatch.{each_dispatch}
use Rattle.b2_access.proofs.Working.{as_it_comes}
use Rattle.b2_stmt.specs.Plan as stmt
use Rattle.b2_stmt.proofs.EachPlan.{MayAsk, each_plan}
use Rattle.b2_stmt_io.specs.Outlets.{outlet_of}
use Rattle.b2_stmt_io.specs.Plan as stmt_io
use Rattle.b2_stmt_io.specs.declared.outlets.Outlet.{Outlet}
use Rattle.b2_stmt_io.specs.declared.outlets.Outlet.TheVariants as outlet
use Rattle.b2_stmt_mat.specs.Plan as stmt_mat
use Rattle.b2_stmt_pack.specs.Plan as stmt_pack
use Rattle.b2_stmt_var.specs.Plan as stmt_var

abbrev Fine : List Device → ℕ → Planning → Type 0
Fine devices who x = PlannedListed devices who x.planned

-- statements of control
reaches : (devices : List Device) (who : ℕ) (a : Access) → MayAsk a → ReachesListed devices who a
unfolding MayAsk
reaches devices who (access.ClearAll name homes) may = tt
reaches devices who (access.Erase from to homes) may = tt
reaches devices who (access.Declare name old) may = tt
reaches devices who (access.FindPart name) may = tt
reaches devices who (access.Enter name mark) may = tt
reaches devices who (access.Leave home) may = tt
reaches devices who (access.Drop homes) may = tt
reaches devices who a may = absurd may

pub control_listed : PlansListed (λ devices. stmt.plan)
control_listed devices me s = each_plan me s (Fine devices me.part) (reaches devices me.part) (λ l e. tt)

-- statements on variables
pub variables_listed : PlansListed (λ devices. stmt_var.plan)
variables_listed devices me s =
    as_it_comes (PlannedListed devices me.part) me s (stmt_var.works me s)
    (each_dispatch stmt_var.is_refused stops (stmt_var.does me s) me s (λ w. PlannedListed devices me.part (planned_of w)) tt tt (λ p is u. tt))

-- statements on arrays
pub arrays_listed : PlansListed (λ devices. stmt_mat.plan)
arrays_listed devices me s =
    as_it_comes (PlannedListed devices me.part) me s (stmt_mat.works me s)
    (each_dispatch stmt_mat.is_refused stops (stmt_mat.does me s) me s (λ w. PlannedListed devices me.part (planned_of w)) tt tt (λ p is u. tt))

-- statements on packed fields
pub packed_listed : PlansListed (λ devices. stmt_pack.plan)
packed_listed devices me s =
    as_it_comes (PlannedListed devices me.part) me s (stmt_pack.works me s)
    (each_dispatch stmt_pack.is_refused stops (stmt_pack.does me s) me s (λ w. PlannedListed devices me.part (planned_of w)) tt tt (λ p is u. tt))

-- statements at the terminal: PRINT shows at the same outlet, and nothing else goes by the table
same_outlet : (ds es : List Device) (me : Private) → is_printer_for me.part me.print ds ≡ is_printer_for me.part me.print es → outlet_of ds me ≡ outlet_of es me
same_outlet ds es me same =
    ap (λ (b : Bool). if bytes_eq me.print terminal_address then Ok (outlet.Terminal me.term me.term_column) else (if b then Ok (outlet.Printer me.print me.print_column) else Err P48_DEVICE)) same

same_else : {A : Type 0} (b : Bool) (x y z : A) → y ≡ z → (if b then x else y) ≡ (if b then x else z)
same_else true x y z same = refl
same_else false x y z same = same

terminal_dispatch : (ds es : List Device) (me : Private) (s : SeenLent) (u : Statement) → outlet_of ds me ≡ outlet_of es me → stmt_io.dispatch_of ds u me s ≡ stmt_io.dispatch_of es u me s
terminal_dispatch ds es me s u same =
    same_else (u.row == row.CONVERT) _ _ _ (ap (λ (o : Result Outlet ℕ). Plans (stmt_io.asked_of u.row u.tree (context_of (work_in (setting_of me) s.home me.vars s.globals)) o me.term_column me.prompted)) same)

pub terminal_by_listed : (ds es : List Device) (me : Private) (s : SeenLent) → ((a : List ℕ) → is_printer_for me.part a ds ≡ is_printer_for me.part a es) → stmt_io.plan ds me s ≡ stmt_io.plan es me s
terminal_by_listed ds es me s same =
    ap (λ (does : Statement → Here → Working). as_planned me s (dispatch stmt_io.is_refused stops does me.place me s)) (λ i u h. terminal_dispatch ds es me s u (same_outlet ds es me (same me.print)) i)
