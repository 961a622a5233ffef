-- What statements at the terminal plan: they end at once, or ask for an access of their terminal alone, or of a printer that the table lists;
-- and how they finish.
use Rattle.std.specs.Prelude.{◌≡◌, ℕ, ◌==◌, ◌++◌, Bool, true, false, List, Option, Some, None, Result, Ok, Err, codes, refl, if◌then◌else◌}
use Rattle.std.specs.Str.{bytes_eq}
use Rattle.std.proofs.Common.{ap}
use Rattle.b2_base.specs.declared.codes.TheConstants.{P48_DEVICE, S26_PROGRAM_ONLY, S27_LEFT_OUT}
use Rattle.b2_atom.specs.Tree.{Trees}
use Rattle.b2_atom.specs.declared.rows.TheConstants as row
use Rattle.b2_flow.specs.declared.frame.Place.{Place}
use Rattle.b2_expr.specs.Scope.{Context}
use Rattle.b2_expr.specs.Value.{context_of}
use Rattle.b2_expr.specs.Workspace.{work_in}
use Rattle.b2_access.specs.Devices.{is_printer_for}
use Rattle.b2_access.specs.Lending.{SeenLent}
use Rattle.b2_access.specs.OwnTerminal.{IsAtTerminal}
use Rattle.b2_access.specs.Partition.{setting_of, terminal_address}
use Rattle.b2_access.specs.Placed.{Statement}
use Rattle.b2_access.specs.Planning.{goes_or}
use Rattle.b2_access.specs.Reach.{at_terminal}
use Rattle.b2_access.specs.Showing.{shown_or_printed}
use Rattle.b2_access.specs.Views.{handed_on}
use Rattle.b2_access.specs.Working.{Worked, Working, leaves, planned_of, stops}
use Rattle.b2_access.specs.declared.accesses.Access.{Access}
use Rattle.b2_access.specs.declared.accesses.Access.TheVariants as access
use Rattle.b2_access.specs.declared.accesses.Answer.{Answer}
use Rattle.b2_access.specs.declared.devices.Device.{Device}
use Rattle.b2_access.specs.declared.planned.Outcome.{Outcome}
use Rattle.b2_access.specs.declared.planned.Outcome.TheVariants as outcome
use Rattle.b2_access.specs.declared.planned.Planned.{Planned}
use Rattle.b2_access.specs.declared.planned.Planned.TheVariants as planned
use Rattle.b2_access.specs.declared.private.Private.{Private}
use Rattle.b2_access.proofs.Choice.{either}
use Rattle.b2_access.proofs.Dispatch.{each_dispatch}
use Rattle.b2_access.proofs.Tables.{each_row}
use Rattle.b2_print.specs.Columns.{column_after}
use Rattle.b2_stmt_io.specs.Converting.{converts}
use Rattle.b2_stmt_io.specs.Imaging.{prints_using}
use Rattle.b2_stmt_io.specs.Keys.{key_taken}
use Rattle.b2_stmt_io.specs.LineReading.{asks_line, prompt_of}
use Rattle.b2_stmt_io.specs.Outlets.{column_of, outlet_of, shows_to, width_of}
use Rattle.b2_stmt_io.specs.Plan.{Asks, Finishes, asked_of, asking_rows, dispatch_of, does, ended_of, finishing_rows, is_refused, left_out, nothing_asked, takes_line, works}
use Rattle.b2_stmt_io.specs.Printing.{prints}
use Rattle.b2_stmt_io.specs.Showing.{asks_at, asks_to_print, asks_to_print_using, shows_bytes, shows_laid}
use Rattle.b2_stmt_io.specs.declared.outlets.Outlet.{Outlet}
use Rattle.b2_stmt_io.specs.declared.outlets.Outlet.TheVariants as outlet

-- where a partition may show: at its terminal, or at a printer that the table lists for it
module _ (devices : List Device) (who t : ℕ) where
  abbrev pub IsOutlet : Outlet → Type 0
  IsOutlet (outlet.Terminal term column) = term ≡ t
  IsOutlet (outlet.Printer addr column) = is_printer_for who addr devices ≡ true

  abbrev pub IsOutletIfAny : Result Outlet ℕ → Type 0
  IsOutletIfAny (Ok o) = IsOutlet o
  IsOutletIfAny (Err code) = Unit {0}

-- and there it shows
pub shows_where_it_may : (devices : List Device) (me : Private) → IsOutletIfAny devices me.part me.term (outlet_of devices me)
shows_where_it_may devices me = by (bytes_eq me.print terminal_address) (is_printer_for me.part me.print devices) refl
  where
    by : (own listed : Bool) → is_printer_for me.part me.print devices ≡ listed
        → IsOutletIfAny devices me.part me.term (if own then Ok (outlet.Terminal me.term me.term_column) else (if listed then Ok (outlet.Printer me.print me.print_column) else Err P48_DEVICE))
    by true listed is = refl
    by false true is = is
    by false false is = tt

-- what holds of a refusal, of each access of the terminal of an expression, and of each by which a listed printer prints
module _ (devices : List Device) (who : ℕ) (F : Planned → Type 0) (e : Context) (unassigned : (code : ℕ) → F (planned.Done (outcome.Failed code)))
    (asks : (a : Access) → IsAtTerminal e.around.term a → F (planned.Ask a)) (prints_to : (addr bytes : List ℕ) (after : ℕ) → is_printer_for who addr devices ≡ true → F (planned.Ask (access.PrintTo addr bytes after))) where
  each_shown_to : (o : Outlet) (bytes : List ℕ) (after : ℕ) → IsOutlet devices who e.around.term o → F (planned.Ask (shows_to o bytes after))
  each_shown_to (outlet.Terminal term column) bytes after is = asks (access.Show term bytes after) (ap at_terminal is)
  each_shown_to (outlet.Printer addr column) bytes after is = prints_to addr bytes after is

  each_laid : (o : Outlet) (r : Result (List ℕ × ℕ) ℕ) → IsOutlet devices who e.around.term o → F (shows_laid o r)
  each_laid o (Ok laid) is = each_shown_to o laid.0 laid.1 is
  each_laid o (Err code) is = unassigned code

  each_shown : (o : Outlet) (r : Result (List ℕ) ℕ) → IsOutlet devices who e.around.term o → F (shows_bytes o r)
  each_shown o (Ok bytes) is = each_shown_to o bytes (column_after (column_of o) bytes) is
  each_shown o (Err code) is = unassigned code

  each_at : (r : Result Outlet ℕ) (shows : Outlet → Planned) → IsOutletIfAny devices who e.around.term r → ((o : Outlet) → IsOutlet devices who e.around.term o → F (shows o)) → F (asks_at r shows)
  each_at (Ok o) shows is h = h o is
  each_at (Err code) shows is h = unassigned code

  each_line : (shown : Bool) (column : ℕ) (prompt : List ℕ) → F (planned.Ask (asks_line shown column e.around.term prompt))
  each_line shown column prompt = either (λ (a : Access). F (planned.Ask a)) shown _ _ (asks (access.ReadLine e.around.term) refl) (let text = prompt ++ codes "? " in asks (access.Show e.around.term text (column_after column text)) refl)

  each_asked : (r : ℕ) (t : Trees) (o : Result Outlet ℕ) (column : ℕ) (prompted : Bool) → IsOutletIfAny devices who e.around.term o → F (asked_of r t e o column prompted)
  each_asked r t o column prompted is =
      let line = each_line prompted column (prompt_of t) in
      let Holds : Asks → Type 0 = λ asks. F (asks t e o column prompted) in
      each_row Holds asking_rows left_out r (
        each_at o (asks_to_print t e) is (λ at. each_laid at (prints (record { context = e; outlet = at }) (width_of at) (column_of at) t)),
        (
          each_at o (asks_to_print_using t e) is (λ at. each_shown at (prints_using e t)),
          (asks (access.Key e.around.term) refl, (line, (line, (asks (access.Release e.around.term) refl, tt)))),
        ),
      ) (unassigned S27_LEFT_OUT)

-- so also of what the statement at a place plans
module _ (devices : List Device) (me : Private) (s : SeenLent) (F : Planned → Type 0) (next : F (planned.Done outcome.Next)) (ready : F (planned.Done outcome.Ready)) (failed : (code : ℕ) → F (planned.Done (outcome.Failed code)))
    (asks : (a : Access) → IsAtTerminal me.term a → F (planned.Ask a)) (prints_to : (addr bytes : List ℕ) (after : ℕ) → is_printer_for me.part addr devices ≡ true → F (planned.Ask (access.PrintTo addr bytes after))) where
  Each : Working → Type 0
  Each k = F (planned_of k)

  each_code : (o : Option ℕ) → F (planned.Done (goes_or outcome.Next o))
  each_code None = next
  each_code (Some code) = failed code

  each_statement : (u : Statement) → Each (dispatch_of devices u me s)
  unfolding Each
  each_statement u =
      let e = context_of (work_in (setting_of me) s.home me.vars s.globals) in
      either Each (u.row == row.CONVERT) _ _ (each_code (converts u.tree (work_in (setting_of me) s.home me.vars s.globals)).code)
      (each_asked devices me.part F e failed asks prints_to u.row u.tree (outlet_of devices me) me.term_column me.prompted (shows_where_it_may devices me))

  pub each_planned : F (planned_of (works devices me s))
  unfolding Each
  each_planned = each_dispatch is_refused stops (does devices me s) me s Each ready (failed S26_PROGRAM_ONLY) (λ p is u. each_statement u)

-- and of how a statement finishes: something was shown or printed, a key or a line was asked for, or nothing changes and it goes on or is
-- repeated, as where the terminal is handed on
module _ (F : Worked → Type 0) (x : Access) (a : Answer) (me : Private) (s : SeenLent) (shows : F (shown_or_printed x a me)) (goes : F (leaves me outcome.Next)) (repeats : F (leaves me outcome.Repeat)) where
  pub each_ended : (u : Statement) (p : Place) → F (key_taken x a p u.tree me s) → ((r : ℕ) → F (takes_line r u.tree p x a me s)) → F (ended_of u p x a me s)
  each_ended u p keys typed =
      let Holds : Finishes → Type 0 = λ finishes. F (finishes u.tree p x a me s) in
      each_row Holds finishing_rows nothing_asked u.row (shows, (shows, (keys, (typed row.LINPUT, (typed row.INPUT, (either (λ (o : Outcome). F (leaves me o)) (handed_on x a) outcome.Next outcome.Repeat goes repeats, tt)))))) repeats
