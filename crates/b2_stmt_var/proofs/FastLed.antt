-- An assignment that was done fast: it has ended as it plans, and leads to the place after it.
use Rattle.std.proofs.Common.{◌≡◌, ℕ, true, Option, Some, None, if◌then◌else◌, sym, ap, subst, ◌∙◌}
use Rattle.b2_atom.specs.declared.rows.TheConstants as row
use Rattle.b2_rows.specs.Rows.{tree_at}
use Rattle.b2_vars.specs.Globals.{unreached}
use Rattle.b2_vars.specs.Tables.{VarsState}
use Rattle.b2_expr.specs.Workspace.{WorkLeft}
use Rattle.b2_access.specs.Found.{seen_found, statement_found}
use Rattle.b2_access.specs.JumpTargets.{is_done, lead_seen}
use Rattle.b2_access.specs.Lending.{SeenLent}
use Rattle.b2_access.specs.Fast.{DoneFast, lead_of, place_following}
use Rattle.b2_access.specs.Planning.{Planning}
use Rattle.b2_access.specs.Working.{Ends, Worked, as_planned, work_of}
use Rattle.b2_access.specs.declared.fast.Lead.{Lead}
use Rattle.b2_access.specs.declared.placed.Found.{Found}
use Rattle.b2_access.specs.declared.planned.Outcome.TheVariants as outcome
use Rattle.b2_access.specs.declared.private.Private.{Private}
use Rattle.b2_access.proofs.Led.{following_led}
use Rattle.b2_stmt_var.specs.Assignments.{assigns}
use Rattle.b2_stmt_var.specs.Fast.{assigned, own_work}
use Rattle.b2_stmt_var.specs.Left.{variables_left, with_left}
use Rattle.b2_stmt_var.specs.Plan.{ended_of}

-- WHAT IT LEAVES of a partition
abbrev seen : Found → SeenLent
seen f = seen_found f (unreached None)

abbrev planned_there : Found → Private → Planning
planned_there f me = as_planned me (seen f) (Ends (ended_of (statement_found f) me (seen f)))

abbrev ended_with : Private → VarsState → Worked
ended_with me vars = record { work = record (work_of me) { vars = vars; globals = Some (unreached None) }; outcome = outcome.Next }

ended_is : (f : Found) (me : Private) (vars : VarsState) → f.unit.now.row ≡ row.ASSIGNMENT
    → assigns (tree_at row.ASSIGNMENT f.unit.now.bytes.now) (own_work me f.home.now) ≡ assigned (own_work me f.home.now) vars
    → ended_of (statement_found f) me (seen f) ≡ ended_with me vars
ended_is f me vars is_row is =
    ap (λ (r : ℕ). ended_of (record { row = r; tree = tree_at r f.unit.now.bytes.now }) me (seen f)) is_row
    ∙ ap (λ (r : WorkLeft). with_left (variables_left r me.next_data) me) is

-- it was done, and leads on
pub passed : (f : Found) (me after : Private) (lead : Lead) → f.unit.now.row ≡ row.ASSIGNMENT → is_done lead ≡ true → lead_seen lead ≡ lead_of (place_following f)
    → after ≡ record me { vars = after.vars }
    → assigns (tree_at row.ASSIGNMENT f.unit.now.bytes.now) (own_work me f.home.now) ≡ assigned (own_work me f.home.now) after.vars
    → DoneFast (lead_seen lead) f me after (planned_there f me)
passed f me after lead is_row done leads rest is =
    let there : lead_seen lead ≡ Some (lead.line, lead.unit) = ap (λ b. if b then Some (lead.line, lead.unit) else None) done in
    let ends : ended_of (statement_found f) me (seen f) ≡ ended_with me after.vars = ended_is f me after.vars is_row is in
    subst (λ (o : Option (ℕ × ℕ)). DoneFast o f me after (planned_there f me)) (sym there)
    (subst (λ (w : Worked). DoneFast (Some (lead.line, lead.unit)) f me after (as_planned me (seen f) (Ends w))) (sym ends)
    (sym rest, following_led f (lead.line, lead.unit) (sym leads ∙ there)))

-- or it wasn't, and nothing has changed
pub not_done_fast : (f : Found) (me after : Private) (lead : Lead) → lead_seen lead ≡ None → after ≡ me → DoneFast (lead_seen lead) f me after (planned_there f me)
not_done_fast f me after lead none same = subst (λ (o : Option (ℕ × ℕ)). DoneFast o f me after (planned_there f me)) (sym none) same
