use Rattle.std.proofs.Common.{◌≡◌, ℕ, ◌+◌, ◌==◌, true, false, if◌then◌else◌, Ok, Result, None, drop, get_or, sym, ap, ap₂, subst, ◌∙◌}
use Rattle.b2_atom.specs.Words.{Text}
use Rattle.b2_atom.specs.Grammar.{starts}
use Rattle.b2_atom.specs.declared.rows.TheConstants as row
use Rattle.b2_atom.specs.declared.forms.Start.TheVariants as start
use Rattle.b2_atom.specs.declared.words.Origin.TheVariants.{Atoms}
use Rattle.b2_rows.specs.Following.{tree_units}
use Rattle.b2_rows.specs.Rows.{tree_at, after_phrase}
use Rattle.b2_rows.specs.Values.{line_of}
use Rattle.b2_rows.specs.declared.following.Goal.{Goal}
use Rattle.b2_rows.specs.declared.following.Goal.TheVariants as goal_is
use Rattle.b2_vars.specs.Globals.{unreached}
use Rattle.b2_vars.specs.declared.setting.Setting.{Setting}
use Rattle.b2_expr.specs.Condition.{truth}
use Rattle.b2_expr.specs.Reads.{Judges}
use Rattle.b2_expr.specs.Scope.{Surroundings}
use Rattle.b2_expr.specs.Value.{in_statement}
use Rattle.b2_expr.specs.Workspace.{surroundings_of}
use Rattle.b2_expr.proofs.Judging.{is_judged}
use Rattle.b2_access.specs.Jumps.{to_found, to_goal}
use Rattle.b2_access.specs.JumpTargets.{lead_seen}
use Rattle.b2_stmt.specs.Fast.{LeadsBy, around_fast}
use Rattle.b2_stmt.proofs.BranchRows.{if_judged}
use Rattle.b2_stmt.proofs.fast.fast_if.Goals as goal

pub returns-then-not-holds-clause-leads : goal.returns-then-not-holds-clause-leads
returns-then-not-holds-clause-leads c =
    let text : Text = c.args.found.now.unit.now.bytes.now in
    let is : truth (around_fast c.args.found.now c.args.me.now) (tree_at row.CONDITION (drop 1 text)) ≡ Ok false =
    ap₂ (λ (s : Setting) (u : Text). truth (in_statement (surroundings_of (record { own = c.args.me.now.vars; globals = unreached None; setting = s; home = c.args.found.now.home.now }))) (tree_at row.CONDITION u)) (sym c.setting_of.ensures) (sym c.rest_after-text.ensures)
    ∙ ap (λ (s : Surroundings). truth (in_statement s) (tree_at row.CONDITION c.rest_after-text.result.now)) (sym c.surroundings_here-e.ensures)
    ∙ is_judged _ c.condition_at-judged.result.word (Judges.word c.condition_at-judged.ensures) (sym c.is_code.ensures ∙ c.if-is_code.false)
    ∙ ap Ok (sym c.if-not-holds.ensures) in
    subst (λ (g : Result Goal ℕ). LeadsBy (lead_seen c.lead_past.result) c.args.found.now (to_found c.args.found.now.home.now.lines c.args.found.now.place g))
    (sym (if_judged (around_fast c.args.found.now c.args.me.now) c.args.found.now.place.unit (tree_units c.args.found.now.line.now) text false c.requires.phrase is)) c.lead_past.ensures

pub returns-clause-leads : goal.returns-clause-leads
returns-clause-leads c =
    let text : Text = c.args.found.now.unit.now.bytes.now in
    let is : truth (around_fast c.args.found.now c.args.me.now) (tree_at row.CONDITION (drop 1 text)) ≡ Ok true =
    ap₂ (λ (s : Setting) (u : Text). truth (in_statement (surroundings_of (record { own = c.args.me.now.vars; globals = unreached None; setting = s; home = c.args.found.now.home.now }))) (tree_at row.CONDITION u)) (sym c.setting_of.ensures) (sym c.rest_after-text.ensures)
    ∙ ap (λ (s : Surroundings). truth (in_statement s) (tree_at row.CONDITION c.rest_after-text.result.now)) (sym c.surroundings_here-e.ensures)
    ∙ is_judged _ c.condition_at-judged.result.word (Judges.word c.condition_at-judged.ensures) (sym c.is_code.ensures ∙ c.if-is_code.false)
    ∙ ap Ok (sym c.if-not-holds.ensures) in
    let at : c.rest_after.result.now ≡ drop 1 (after_phrase row.CONDITION (drop 1 text)) =
    c.rest_after.ensures ∙ ap (drop 1) (c.after_condition.ensures ∙ ap (after_phrase row.CONDITION) c.rest_after-text.ensures) in
    subst (λ (g : Result Goal ℕ). LeadsBy (lead_seen c.lead_to_named.result) c.args.found.now (to_found c.args.found.now.home.now.lines c.args.found.now.place g))
    (sym (if_judged (around_fast c.args.found.now c.args.me.now) c.args.found.now.place.unit (tree_units c.args.found.now.line.now) text true c.requires.phrase is))
    (subst (λ (u : Text). LeadsBy (lead_seen c.lead_to_named.result) c.args.found.now (to_goal c.args.found.now.home.now.lines c.args.found.now.place
    (if starts Atoms start.Line u then goal_is.Line (line_of (get_or u 1 0) (get_or u 2 0)) else goal_is.Unit (c.args.found.now.place.unit + 1)))) at c.lead_to_named.ensures)
