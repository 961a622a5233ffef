-- A statement that was done fast: its step ends, the turn goes on, and the partition stands where it leads.
use Rattle.std.proofs.Common.{◌≡◌, ℕ, ◌+◌, Bool, true, false, true≢false, not, ◌&&◌, if◌then◌else◌, List, refl, sym, ap, ◌∙◌, Option, Some, None, is_some, unwrap_or}
use Rattle.b2_flow.specs.declared.frame.Place.{Place}
use Rattle.b2_rows.specs.Following.{tree_units, unit_or_next}
use Rattle.b2_text.specs.Program.{Lines}
use Rattle.b2_access.specs.Dispatch.{units_on}
use Rattle.b2_access.specs.Found.{IsFound, statement_found}
use Rattle.b2_access.specs.Lending.{SeenLent}
use Rattle.b2_access.specs.Fast.{DoneFast, led_to, place_led}
use Rattle.b2_access.specs.Placed.{Statement, line_named, statement_on, statement_placed}
use Rattle.b2_access.specs.Places.{goal_place}
use Rattle.b2_access.specs.Planning.{Planning}
use Rattle.b2_access.specs.declared.lending.At.TheVariants as at
use Rattle.b2_access.specs.declared.placed.Found.{Found}
use Rattle.b2_access.specs.declared.planned.Outcome.TheVariants as outcome
use Rattle.b2_access.specs.declared.planned.Planned.{Planned}
use Rattle.b2_access.specs.declared.planned.Planned.TheVariants as planned
use Rattle.b2_access.specs.declared.private.Private.{Private}
use Rattle.b2_language.specs.Following.{moves_to}
use Rattle.b2_language.specs.Languages.{AreLawful, Ways}
use Rattle.b2_language.specs.Wanted.{lent_at, names_globals, wanted_at, wanted_there}
use Rattle.b2_machine.specs.Endings.{carries_on}
use Rattle.b2_machine.specs.Moving.{enters_program, goes_to, is_continue}
use Rattle.b2_machine.specs.Statements.{Begun, WentFast, Opens, begins, begun_by, has_ended}
use Rattle.b2_machine.specs.declared.statements.Builder.{Builder}
use Rattle.b2_machine.specs.declared.statements.Builder.TheVariants as builder
use Rattle.b2_machine.specs.declared.statements.Opening.TheVariants as opening
use Rattle.b2_machine.proofs.AtOnce.{begun_at_once}

no_lead : {q : Place} → ◌≡◌ {A = Option Place} None (Some q) → ⊥
no_lead is = true≢false (sym (ap is_some is))

module _ (p : Place) (n : ℕ) (in_program : p.line ≡ Some n) (lines : Lines) (line : List ℕ) (there : line_named None lines (Some n) ≡ Some line) (mid : Private) (b : Builder) where
  line_there : line_named mid.immediate lines p.line ≡ Some line
  line_there = ap (λ (o : Option ℕ). line_named mid.immediate lines o) in_program ∙ there

  -- it goes on where it leads
  goes_on : (x : Planned) (q : Place) → led_to x (goal_place lines p (unit_or_next (p.unit + 1) (tree_units line))) ≡ Some q → begun_by x b p mid lines ≡ has_ended (carries_on (moves_to q mid))
  goes_on (planned.Done outcome.Next) q is =
      ap (λ (o : Option (List ℕ)). has_ended (goes_to (goal_place lines p (unit_or_next (p.unit + 1) (units_on o))) mid)) line_there
      ∙ ap (λ (o : Option Place). has_ended (goes_to o mid)) is
  goes_on (planned.Done (outcome.Jump r)) q is =
      ap (λ (o : Option ℕ). has_ended (carries_on (if not (is_some o) && is_some r.line then enters_program (is_continue (statement_placed p mid.immediate lines)) r mid else moves_to r mid))) in_program
      ∙ ap (λ (o : Option Place). has_ended (carries_on (moves_to (unwrap_or o r) mid))) is
  goes_on (planned.Done (outcome.Failed code)) q is = absurd (no_lead is)
  goes_on (planned.Done outcome.Repeat) q is = absurd (no_lead is)
  goes_on (planned.Done outcome.Break) q is = absurd (no_lead is)
  goes_on (planned.Done outcome.Ready) q is = absurd (no_lead is)
  goes_on (planned.Ask a) q is = absurd (no_lead is)

module _ (ways : Ways) (lawful : AreLawful ways) (f : Found) (me : Private) (is : IsFound f f.home.now.lines me) (local : names_globals (statement_found f).tree ≡ false) (built : ways.built f.unit.now.row ≡ true) (s : SeenLent) (same : f.home.now ≡ s.home) where
  lines_same : f.home.now.lines ≡ s.home.lines
  lines_same = ap (λ t. t.lines) same

  line_found : line_named me.immediate s.home.lines f.place.line ≡ Some f.line.now
  line_found = ap (λ (ls : Lines). line_named me.immediate ls f.place.line) (sym lines_same) ∙ is.line

  statement_there : Some (statement_found f) ≡ statement_placed f.place me.immediate s.home.lines
  statement_there = is.statement ∙ sym (ap (λ (o : Option (List ℕ)). statement_on o f.place.unit) line_found)

  wants_none : wanted_at f.place me s.home.lines ≡ at.None
  wants_none =
      ap (λ (o : Option Statement). wanted_there f.place.home o me) (sym statement_there)
      ∙ ap (λ (c : Bool). if c then lent_at f.place.home me else at.None) local

  ends_led : (n : ℕ) → f.place.line ≡ Some n → (mid : Private) (q : Place) (x : Planning) → x ≡ ways.plan f.unit.now.row me s → x.me ≡ mid → led_to x.planned (goal_place s.home.lines f.place (unit_or_next (f.place.unit + 1) (tree_units f.line.now))) ≡ Some q
      → ◌≡◌ {A = Begun} (has_ended (carries_on (moves_to q mid))) (begins ways f.place me s)
  ends_led n in_program mid q x is_x is_mid is_q =
      begun_at_once ways lawful f.place me s f.line.now (statement_found f) x (has_ended (carries_on (moves_to q mid))) line_found is.statement built is_x
      (sym (ap (λ (y : Private). begun_by x.planned (builder.Language f.unit.now.row) f.place y s.home.lines) is_mid
      ∙ goes_on f.place n in_program s.home.lines f.line.now (sym (ap (λ (o : Option ℕ). line_named me.immediate s.home.lines o) in_program) ∙ line_found) mid (builder.Language f.unit.now.row) x.planned q is_q))

  in_program : (o : Option ℕ) → f.place.line ≡ o → is_some o ≡ true → (mid : Private) (q : Place) (x : Planning) → x ≡ ways.plan f.unit.now.row me s → x.me ≡ mid → led_to x.planned (goal_place s.home.lines f.place (unit_or_next (f.place.unit + 1) (tree_units f.line.now))) ≡ Some q
      → ◌≡◌ {A = Begun} (has_ended (carries_on (moves_to q mid))) (begins ways f.place me s)
  in_program None is_o h mid q x is_x is_mid is_q = absurd (true≢false (sym h))
  in_program (Some n) is_o h mid q x is_x is_mid is_q = ends_led n is_o mid q x is_x is_mid is_q

  -- so it was opened, and led on
  pub fast_opens : (l : ℕ × ℕ) (mid after : Private) → DoneFast (Some l) f me mid (ways.plan f.unit.now.row me s) → after ≡ moves_to (place_led f.place.home l) mid → Opens ways f.place me after s None opening.Leads
  fast_opens l mid after passes is_after = (
    wants_none,
    ap (λ (y : Private). has_ended (carries_on y)) is_after
        ∙ in_program f.place.line refl is.program mid (place_led f.place.home l) (ways.plan f.unit.now.row me s) refl passes.0
        (ap (λ (ls : Lines). led_to (ways.plan f.unit.now.row me s).planned (goal_place ls f.place (unit_or_next (f.place.unit + 1) (tree_units f.line.now)))) (sym lines_same) ∙ passes.1),
    refl,
  )

  -- and it stands where it leads
  pub has_gone_fast : (l : ℕ × ℕ) (mid after : Private) → DoneFast (Some l) f me mid (ways.plan f.unit.now.row me s) → after ≡ moves_to (place_led f.place.home l) mid → WentFast (Some l) ways f.place me after s
  has_gone_fast l mid after passes is_after = (fast_opens l mid after passes is_after, ap (λ (y : Private). y.place) is_after)
