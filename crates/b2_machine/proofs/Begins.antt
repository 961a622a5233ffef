-- What a step begins with, by who executes the statement at a place, where one is there.
use Rattle.std.proofs.Common.{◌≡◌, ℕ, Bool, true, false, true≢false, if◌then◌else◌, Option, Some, None, is_some, option_map, unwrap_or, refl, sym, subst, ap, ◌∙◌}
use Rattle.std.specs.Prelude.{IsNone}
use Rattle.b2_text.specs.Program.{TextState}
use Rattle.b2_vars.specs.Globals.{Globals, unreached}
use Rattle.b2_vars.specs.Tables.{VarsState}
use Rattle.b2_flow.specs.declared.frame.Place.{Place}
use Rattle.b2_access.specs.Lending.{SeenLent}
use Rattle.b2_access.specs.Loans.{Loan, LoansGlobals, globals_at, left_at}
use Rattle.b2_access.specs.Placed.{Statement}
use Rattle.b2_access.specs.Sharing.{ServingOf}
use Rattle.b2_access.specs.Store.{StoreState, content}
use Rattle.b2_access.specs.declared.accesses.Access.{Access}
use Rattle.b2_access.specs.declared.lending.At.{At}
use Rattle.b2_access.specs.declared.lending.At.TheVariants as at
use Rattle.b2_access.specs.declared.objects.Object.TheVariants as object
use Rattle.b2_access.specs.declared.private.Private.{Private}
use Rattle.b2_language.specs.Languages.{AreLawful, Ways}
use Rattle.b2_machine.specs.Readiness.{rests}
use Rattle.b2_language.specs.Wanted.{wanted_at}
use Rattle.b2_machine.specs.Statements.{Begun, Opens, asked_beside, begins, begins_where, begun, builder_of, has_ended, leaves, left_where, plan_by, wants}
use Rattle.b2_machine.specs.Stays.{IsLegalOpening}
use Rattle.b2_machine.specs.Step.{StepEnd, carries_out, executes, executes_by, executes_over, goes_through, lent_to_begin, no_text, seen_by, text_in, texts_lent}
use Rattle.b2_machine.specs.declared.moving.Onward.{Onward}
use Rattle.b2_machine.specs.declared.statements.Builder.{Builder}
use Rattle.b2_machine.specs.declared.statements.Opening.{Opening}
use Rattle.b2_machine.specs.declared.statements.Opening.TheVariants as opening
use Rattle.b2_machine.specs.declared.statements.Progress.{Progress}
use Rattle.b2_machine.specs.declared.statements.Progress.TheVariants as progress
use Rattle.b2_machine.proofs.LegalPlans.{legal_begun}
use Rattle.b2_machine.proofs.Lent.{texts_same}

module _ (ways : Ways) (p : Place) (me : Private) (s : SeenLent) where
  nowhere : (o : Option Statement) → IsNone (option_map (builder_of ways) o) → has_ended (rests me) ≡ begins_where ways o p me s
  nowhere None h = refl
  nowhere (Some u) h = absurd (true≢false h)

  -- nobody executes it: none is there
  pub begins_nowhere : (o : Option Statement) → None ≡ option_map (builder_of ways) o → has_ended (rests me) ≡ begins_where ways o p me s
  begins_nowhere o is = nowhere o (subst IsNone is refl)

  abbrev IsBuilder : Builder → Option Builder → Type 0
  IsBuilder b None = ⊥
  IsBuilder b (Some k) = b ≡ k

  somewhere : (o : Option Statement) (b : Builder) → IsBuilder b (option_map (builder_of ways) o) → begun (plan_by ways b p me s) b p s.home.lines ≡ begins_where ways o p me s
  somewhere None b h = absurd h
  somewhere (Some u) b is = ap (λ (k : Builder). begun (plan_by ways k p me s) k p s.home.lines) is

  -- it is planned by who executes it
  pub begins_somewhere : (o : Option Statement) (b : Builder) → Some b ≡ option_map (builder_of ways) o → begun (plan_by ways b p me s) b p s.home.lines ≡ begins_where ways o p me s
  begins_somewhere o b is = somewhere o b (subst (IsBuilder b) is refl)

  -- and so for what it leaves of the `@` variables
  left_none : (o : Option Statement) → IsNone (option_map (builder_of ways) o) → s.globals ≡ left_where ways o p me s
  left_none None h = refl
  left_none (Some u) h = absurd (true≢false h)

  pub left_nowhere : (o : Option Statement) → None ≡ option_map (builder_of ways) o → s.globals ≡ left_where ways o p me s
  left_nowhere o is = left_none o (subst IsNone is refl)

  left_some : (o : Option Statement) (b : Builder) → IsBuilder b (option_map (builder_of ways) o) → (plan_by ways b p me s).globals ≡ left_where ways o p me s
  left_some None b h = absurd h
  left_some (Some u) b is = ap (λ (k : Builder). (plan_by ways k p me s).globals) is

  pub left_somewhere : (o : Option Statement) (b : Builder) → Some b ≡ option_map (builder_of ways) o → (plan_by ways b p me s).globals ≡ left_where ways o p me s
  left_somewhere o b is = left_some o b (subst (IsBuilder b) is refl)

-- what is lent is what its statements see
pub lent_is_seen : (who home : ℕ) (whose : At) (s : StoreState) (x : SeenLent) → Some x.own ≡ content s (object.Text who) → Some x.home ≡ content s (object.Text home) → x.globals ≡ unreached (globals_at home whose s)
    → x ≡ seen_by who home whose s
lent_is_seen who home whose s x own at_home globals =
    ap (λ (t : TextState). record { own = t; home = x.home; globals = x.globals }) (ap (λ o. unwrap_or o no_text) own)
    ∙ ap (λ (t : TextState). record { own = text_in s who; home = t; globals = x.globals }) (ap (λ o. unwrap_or o no_text) at_home)
    ∙ ap (λ (g : Globals). record { own = text_in s who; home = text_in s home; globals = g }) globals

-- what is in their place then, by what a statement leaves of them: they are found where they were
pub left_as_found : (found now : Bool) (before after : VarsState) (left : Option VarsState) → (if now then Some after else None) ≡ left → is_some left ≡ is_some (if found then Some before else None)
    → (if found then Some after else None) ≡ left
left_as_found true true before after left is there = is
left_as_found true false before after left is there = absurd (true≢false (sym there ∙ sym (ap is_some is)))
left_as_found false true before after left is there = absurd (true≢false (ap is_some is ∙ there))
left_as_found false false before after left is there = is

-- what a loan leaves, by what is in its place then
pub left_is : (home : ℕ) (whose : At) (s : StoreState) (found : Bool) (before after : VarsState) (left : Option VarsState) → (if found then Some before else None) ≡ globals_at home whose s → (if found then Some after else None) ≡ left
    → left_at home whose s after ≡ left
left_is home whose s found before after left is_before is_after = ap (option_map (λ _. after)) (sym is_before) ∙ by found ∙ is_after
  where
    by : (b : Bool) → option_map (λ _. after) (if b then Some before else None) ≡ (if b then Some after else None)
    by true = refl
    by false = refl

-- what is in their place then, as a statement says it
pub left_found : (found now reached : Bool) (before after : VarsState) (left : Globals) → ◌≡◌ {A = Globals} (record { vars = if now then Some after else None; reached = reached }) left → is_some left.vars ≡ is_some (if found then Some before else None)
    → ◌≡◌ {A = Globals} (record { vars = if found then Some after else None; reached = reached }) left
left_found found now reached before after left is there =
    ap (λ (v : Option VarsState). record { vars = v; reached = reached }) (left_as_found found now before after left.vars (ap (λ (g : Globals). g.vars) is) there) ∙ ap (λ (g : Globals). record { vars = left.vars; reached = g.reached }) is

-- what a loan left, as the store is told, by what a statement leaves
pub loan_left : (home : ℕ) (whose : At) (s : StoreState) (found reached : Bool) (before after : VarsState) (left : Globals) → (if found then Some before else None) ≡ globals_at home whose s
    → ◌≡◌ {A = Globals} (record { vars = if found then Some after else None; reached = reached }) left → ◌≡◌ {A = Globals} (record { vars = left_at home whose s after; reached = reached }) left
loan_left home whose s found reached before after left is_before is =
    ap (λ (v : Option VarsState). record { vars = v; reached = reached }) (left_is home whose s found before after left.vars is_before (ap (λ (g : Globals). g.vars) is)) ∙ ap (λ (g : Globals). record { vars = left.vars; reached = g.reached }) is

-- `@` variables that are wanted are lent by a second loan
pub lent_wanted : {M : Type 0} (store : M → StoreState) (serving : ServingOf M) (lending : Loan M) (who home : ℕ) (whose : At) (m : M) (left : Globals) → wants whose ≡ true
    → lending who home whose (texts_lent store serving lending who home m) left ≡ lent_to_begin store serving lending who home whose m left
lent_wanted store serving lending who home at.None m left h = absurd (true≢false (sym h))
lent_wanted store serving lending who home at.Home m left h = refl
lent_wanted store serving lending who home (at.Named n) m left h = refl

-- over the texts that were lent, and then the `@` variables that are wanted, it is executed as if both were lent at once
module _ (ways : Ways) {M : Type 0} (store : M → StoreState) (serving : ServingOf M) (lending : Loan M) (loans : LoansGlobals store lending) (whose : At) (p : Place) (me : Private) (m : M) where
  abbrev Lent : M
  Lent = texts_lent store serving lending me.part p.home m

  abbrev begun_over : StoreState → M → StepEnd M
  begun_over s u = goes_through ways store serving lending me.part (begins ways p me (seen_by me.part p.home whose s)) p whose u

  abbrev left_over : StoreState → Globals
  left_over s = leaves ways p me (seen_by me.part p.home whose s)

  pub executed_over : wants whose ≡ true → executes_over ways store serving lending whose p me Lent ≡ executes_by ways store serving lending whose p me m
  executed_over is =
      ap (λ (s : StoreState). begun_over s (lending me.part p.home whose Lent (left_over s))) (texts_same store serving lending loans me.part p.home m)
      ∙ ap (λ (u : M). begun_over (store m) u) (lent_wanted store serving lending me.part p.home whose m (left_over (store m)) is)

-- a statement that was opened asks for what may be asked for
pub legal_opened : (ways : Ways) (lawful : AreLawful ways) (p : Place) (me after : Private) (s : SeenLent) (a : Option Access) (o : Opening) → Opens ways p me after s a o → IsLegalOpening o a
legal_opened ways lawful p me after s a opening.Leads is = tt
legal_opened ways lawful p me after s a (opening.Ends e) is = tt
legal_opened ways lawful p me after s None (opening.Asks b w) is = absurd (true≢false (sym (ap is_some is.1)))
legal_opened ways lawful p me after s (Some x) (opening.Asks b w) is = legal_begun ways lawful p me after s (progress.Asks x b w) (ap (λ (o : Option Begun). unwrap_or o (begins ways p me s)) is.1)
legal_opened ways lawful p me after s a (opening.Wants whose) is = tt

-- by what is lent instead
pub opens_seen : (ways : Ways) (p : Place) (me after : Private) (s t : SeenLent) (a : Option Access) (o : Opening) → s ≡ t → Opens ways p me after s a o → Opens ways p me after t a o
opens_seen ways p me after s t a o same is = subst (λ (l : SeenLent). Opens ways p me after l a o) same is

-- and by how it was opened
pub opened_so : (ways : Ways) (p : Place) (me after : Private) (s : SeenLent) (a : Option Access) (o x : Opening) → o ≡ x → Opens ways p me after s a o → Opens ways p me after s a x
opened_so ways p me after s a o x is h = subst (λ (y : Opening). Opens ways p me after s a y) is h

pub asks_so : (ways : Ways) (p : Place) (me after : Private) (s : SeenLent) (a : Option Access) (o : Opening) (x : Access) (b : Builder) (w : Onward) → o ≡ opening.Asks b w → a ≡ Some x → Opens ways p me after s a o
    → (wanted_at p me s.home.lines ≡ at.None) × (◌≡◌ {A = Begun} (asked_beside b w after x) (begins ways p me s))
asks_so ways p me after s a o x b w is is_a h =
    let opens = opened_so ways p me after s a o (opening.Asks b w) is h in
    (opens.0, ap (λ (c : Option Begun). unwrap_or c (begins ways p me s)) (sym (ap (option_map (asked_beside b w after)) is_a) ∙ opens.1))

-- what began over texts that were lent, and wants no `@` variables, goes on as it is executed
module _ (ways : Ways) {M : Type 0} (store : M → StoreState) (serving : ServingOf M) (lending : Loan M) (p : Place) (before me : Private) (m n : M) where
  pub goes_as_begun : (x : Progress) → n ≡ texts_lent store serving lending before.part p.home m → wanted_at p before (text_in (store m) p.home).lines ≡ at.None
      → ◌≡◌ {A = Begun} (record { me = me; progress = x }) (begins ways p before (seen_by before.part p.home at.None (store m)))
      → carries_out ways store serving lending before.part x p at.None me n ≡ executes ways store serving lending p before m
  goes_as_begun x is_lent local is =
      ap (λ (k : M). carries_out ways store serving lending before.part x p at.None me k) is_lent
      ∙ ap (λ (b : Begun). goes_through ways store serving lending before.part b p at.None (texts_lent store serving lending before.part p.home m)) is
      ∙ sym (ap (λ (y : At). executes_by ways store serving lending y p before m) local)
