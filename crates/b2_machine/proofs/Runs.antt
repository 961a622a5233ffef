-- Statements that lead on over one loan of texts are steps of a turn, and so is the statement after them.
use Rattle.std.proofs.Common.{◌≡◌, ℕ, suc, zero, ◌+◌, ◌-◌, ◌≤◌, ◌==◌, ◌&&◌, Bool, true, false, not, true≢false, if◌then◌else◌, Option, Some, None, is_some, refl, sym, ap, subst, ◌∙◌, arith}
use Rattle.std.proofs.lemmas.Bool.Decides.{nat_tests}
use Rattle.b2_flow.specs.declared.frame.Place.{Place}
use Rattle.b2_vars.specs.Globals.{Globals}
use Rattle.b2_access.specs.Leading.{AnswersLead, NamesLead}
use Rattle.b2_access.specs.Lending.{SeenLent}
use Rattle.b2_access.specs.Loans.{LendsTextsAgain, Loan, LoansGlobals}
use Rattle.b2_access.specs.Sharing.{ServingOf}
use Rattle.b2_access.specs.Store.{StoreState}
use Rattle.b2_access.specs.declared.lending.At.{At}
use Rattle.b2_access.specs.declared.lending.At.TheVariants as at
use Rattle.b2_access.specs.declared.private.Private.{Private}
use Rattle.b2_language.specs.Languages.{AreLawful, Ways}
use Rattle.b2_language.specs.Wanted.{wanted_at}
use Rattle.b2_machine.specs.Advancing.{ArePresent}
use Rattle.b2_machine.specs.Endings.{counts}
use Rattle.b2_machine.specs.StraightLine.{AllLead, Leads, begins_next, is_undisturbed, led, place_in, place_or_none, placed_in}
use Rattle.b2_machine.specs.Statements.{Begun, begins, leaves}
use Rattle.b2_machine.specs.Step.{StepEnd, executes, executes_by, goes_through, lent_to_begin, seen_by, step, steps_by, text_in, texts_lent}
use Rattle.b2_machine.specs.Turn.{turn_from}
use Rattle.b2_machine.specs.declared.statements.Progress.TheVariants as progress
use Rattle.b2_machine.proofs.Lent.{texts_same}
use Rattle.b2_machine.proofs.StraightLine.{led_more, led_none}
use Rattle.b2_machine.proofs.Presence.{presence_kept}
use Rattle.b2_machine.proofs.StepPart.{steps_keep_part}
use Rattle.b2_machine.proofs.Turns.{by_first, first_same}
use Rattle.b2_machine.specs.Due.{due_at}
use Rattle.b2_machine.specs.declared.rules.Rule.{Rule}
use Rattle.b2_machine.specs.declared.rules.Rule.TheVariants as rule
use Rattle.b2_machine.specs.Readiness.{without_halt}

-- ---- where nothing comes before the statement at the place of a partition

no_rule_before : (a b c d e : Bool) (o : Option Place) → (not a && (not b && (not c && (not d && not e)))) ≡ true
    → ((if a then rule.Reset else (if b && not (not (is_some o)) then rule.Halt else (if c then rule.Show else (if d then rule.Insert else (if e then rule.Put else due_at o))))) ≡ due_at o) × (b ≡ false)
no_rule_before true b c d e o h = absurd (true≢false (sym h))
no_rule_before false true c d e o h = absurd (true≢false (sym h))
no_rule_before false false true d e o h = absurd (true≢false (sym h))
no_rule_before false false false true e o h = absurd (true≢false (sym h))
no_rule_before false false false false true o h = absurd (true≢false (sym h))
no_rule_before false false false false false o h = (refl, refl)

both : (b c : Bool) → (b && c) ≡ true → (b ≡ true) × (c ≡ true)
both true true h = (refl, refl)
both true false h = absurd (true≢false (sym h))
both false c h = absurd (true≢false (sym h))

-- what it is to stand there
pub record Stands (home : ℕ) (me : Private) (p : Place) : Type 0 where
  pub undisturbed : is_undisturbed me ≡ true
  pub stands : me.place ≡ Some p
  pub within : p.home ≡ home
  pub program : is_some p.line ≡ true

module _ (home : ℕ) (me : Private) (p : Place) where
  abbrev IsThere : Option Place → Type 0
  IsThere o = (o ≡ Some p) × (p.home ≡ home) × (is_some p.line ≡ true)

  same_number : (n k : ℕ) → (n == k) ≡ true → n ≡ k
  same_number n k h = grind (arith, nat_tests)

  there : (o : Option Place) → placed_in home o ≡ Some p → IsThere o
  there None h = absurd (true≢false (sym (ap is_some h)))
  there (Some q) h = by (q.home == home && is_some q.line) refl h
    where
      by : (b : Bool) → (q.home == home && is_some q.line) ≡ b → (if b then Some q else None) ≡ Some p → IsThere (Some q)
      by false e is = absurd (true≢false (sym (ap is_some is)))
      by true e is =
          let two = both (q.home == home) (is_some q.line) e in
          (is, subst (λ (o : Option Place). (place_or_none o).home ≡ home) is (same_number q.home home two.0), subst (λ (o : Option Place). is_some (place_or_none o).line ≡ true) is two.1)

  pub stands_there : place_in home me ≡ Some p → Stands home me p
  stands_there h = by (is_undisturbed me) refl h
    where
      by : (b : Bool) → is_undisturbed me ≡ b → (if b then placed_in home me.place else None) ≡ Some p → Stands home me p
      by false e is = absurd (true≢false (sym (ap is_some is)))
      by true e is = let at_place = there me.place is in record { undisturbed = e; stands = at_place.0; within = at_place.1; program = at_place.2 }

pub some_place : (o : Option Place) → is_some o ≡ true → o ≡ Some (place_or_none o)
some_place None h = absurd (true≢false (sym h))
some_place (Some p) h = refl

module _ (ways : Ways) {M : Type 0} (store : M → StoreState) (serving : ServingOf M) (lending : Loan M) where
  -- its step executes that statement
  pub step_executes : (home : ℕ) (me : Private) (p : Place) (m : M) → Stands home me p → step ways store serving lending me m ≡ executes ways store serving lending p me m
  step_executes home me p m s =
      let none = no_rule_before me.reset me.halt (is_some me.pending) (is_some me.literal) (is_some me.numbered) me.place s.undisturbed in
      ap (λ (r : Rule). steps_by ways store serving lending r (without_halt me) m) (none.0 ∙ ap due_at s.stands)
      ∙ ap (λ (b : Bool). executes ways store serving lending p (record me { halt = b }) m) (sym none.1)

  module _ (loans : LoansGlobals store lending) (again : LendsTextsAgain lending) where
    abbrev lent : ℕ → ℕ → M → M
    lent who home m = texts_lent store serving lending who home m

    lent_again : (who home : ℕ) (whose : At) (m : M) (left : Globals) → lent_to_begin store serving lending who home whose (lent who home m) left ≡ lent_to_begin store serving lending who home whose m left
    lent_again who home at.None m left = again who home m
    lent_again who home at.Home m left = ap (λ (n : M). lending who home at.Home n left) (again who home m)
    lent_again who home (at.Named x) m left = ap (λ (n : M). lending who home (at.Named x) n left) (again who home m)

    abbrev over : Place → Private → At → StoreState → M → StepEnd M
    over p me whose s n =
        goes_through ways store serving lending me.part (begins ways p me (seen_by me.part p.home whose s)) p whose
        (lent_to_begin store serving lending me.part p.home whose n (leaves ways p me (seen_by me.part p.home whose s)))

    -- over texts that are lent already it is executed as it is without
    executes_again : (p : Place) (me : Private) (m : M) → executes ways store serving lending p me (lent me.part p.home m) ≡ executes ways store serving lending p me m
    executes_again p me m =
        let whose : StoreState → At = λ s. wanted_at p me (text_in s p.home).lines in
        ap (λ (s : StoreState). over p me (whose s) s (lent me.part p.home m)) (texts_same store serving lending loans me.part p.home m)
        ∙ ap (λ (n : M). goes_through ways store serving lending me.part (begins ways p me (seen_by me.part p.home (whose (store m)) (store m))) p (whose (store m)) n)
        (lent_again me.part p.home (whose (store m)) m (leaves ways p me (seen_by me.part p.home (whose (store m)) (store m))))

    pub step_again : (home : ℕ) (me : Private) (p : Place) (m : M) → Stands home me p → step ways store serving lending me (lent me.part home m) ≡ step ways store serving lending me m
    step_again home me p m s =
        step_executes home me p (lent me.part home m) s
        ∙ ap (λ (h : ℕ). executes ways store serving lending p me (lent me.part h m)) (sym s.within)
        ∙ executes_again p me m
        ∙ sym (step_executes home me p m s)

    -- ---- a statement that leads on

    abbrev texts_in : ℕ → ℕ → M → SeenLent
    texts_in who home m = seen_by who home at.None (store m)

    -- texts that were lent, so that lending them again changes nothing
    abbrev pub IsLent : ℕ → ℕ → M → Type 0
    IsLent who home m = lent who home m ≡ m

    ended_by : (p : Place) (me you : Private) (m : M) → wanted_at p me (text_in (store m) p.home).lines ≡ at.None
        → ◌≡◌ {A = Begun} (begins ways p me (texts_in me.part p.home m)) (record { me = you; progress = progress.Ended counts }) → IsLent me.part p.home m
        → ◌≡◌ {A = StepEnd M} (executes ways store serving lending p me m) (record { me = you; after = m; end = counts })
    ended_by p me you m local is settled =
        ap (λ (w : At). executes_by ways store serving lending w p me m) local
        ∙ ap (λ (b : Begun). goes_through ways store serving lending me.part b p at.None (lent me.part p.home m)) is
        ∙ ap (λ (n : M). record { me = you; after = n; end = counts }) settled

    begun_is : (b : Begun) → b.progress ≡ progress.Ended counts → ◌≡◌ {A = Begun} b (record { me = b.me; progress = progress.Ended counts })
    begun_is b is = ap (λ (x : _). record { me = b.me; progress = x }) is

    leads_at : (p : Place) (me : Private) (m : M) → place_in p.home me ≡ Some p → Leads ways p.home (texts_in me.part p.home m) me → IsLent me.part p.home m
        → ◌≡◌ {A = StepEnd M} (record { me = (begins ways p me (texts_in me.part p.home m)).me; after = m; end = counts }) (step ways store serving lending me m)
    leads_at p me m is_p leads settled =
        let s = texts_in me.part p.home m in
        let place : place_or_none (place_in p.home me) ≡ p = ap place_or_none is_p in
        let local = subst (λ (q : Place). wanted_at q me s.home.lines ≡ at.None) place leads.local in
        let ended = subst (λ (q : Place). (begins ways q me s).progress ≡ progress.Ended counts) place leads.ended in
        sym (step_executes p.home me p m (stands_there p.home me p is_p) ∙ ended_by p me (begins ways p me s).me m local (begun_is (begins ways p me s) ended) settled)

    -- ---- many of them, one after another

    module _ (lawful : AreLawful ways) (answers : AnswersLead store serving) (names : NamesLead store serving) (home : ℕ) (me : Private) (m : M) (settled : IsLent me.part home m) where
      abbrev seen : SeenLent
      seen = texts_in me.part home m

      abbrev mid : ℕ → Private
      mid n = led ways home seen n me

      abbrev next : Private → Private
      next you = (begins_next ways home seen you).me

      all_more : (n : ℕ) → AllLead ways home seen (suc n) me → AllLead ways home seen n me × Leads ways home seen (mid n)
      unfolding AllLead
      all_more n h = h

      step_led : (you : Private) → you.part ≡ me.part → Leads ways home seen you → ◌≡◌ {A = StepEnd M} (record { me = next you; after = m; end = counts }) (step ways store serving lending you m)
      step_led you part leads =
          let p : Place = place_or_none (place_in home you) in
          let is_p : place_in home you ≡ Some p = some_place (place_in home you) leads.there in
          let s = stands_there home you p is_p in
          let here : Leads ways p.home (texts_in you.part p.home m) you =
          subst (λ (h : ℕ). Leads ways h (texts_in you.part h m) you) (sym s.within) (subst (λ (w : ℕ). Leads ways home (texts_in w home m) you) (sym part) leads) in
          let place : place_in p.home you ≡ Some p = subst (λ (h : ℕ). place_in h you ≡ Some p) (sym s.within) is_p in
          let lent_there : IsLent you.part p.home m = subst (λ (h : ℕ). IsLent you.part h m) (sym s.within) (subst (λ (w : ℕ). IsLent w home m) (sym part) settled) in
          let same : texts_in you.part p.home m ≡ seen = ap (λ (h : ℕ). texts_in you.part h m) s.within ∙ ap (λ (w : ℕ). texts_in w home m) part in
          sym (ap (λ (x : SeenLent). record { me = (begins ways p you x).me; after = m; end = counts }) same) ∙ leads_at p you m place here lent_there

      pub part_led : (n : ℕ) → AllLead ways home seen n me → (mid n).part ≡ me.part
      part_led zero h = ap (λ (x : Private). x.part) (led_none ways home seen me)
      part_led (suc n) h =
          let two = all_more n h in
          ap (λ (x : Private). x.part) (led_more ways home seen n me)
          ∙ ap (λ (x : StepEnd M). x.me.part) (step_led (mid n) (part_led n two.0) two.1)
          ∙ steps_keep_part ways lawful store serving lending (mid n) m
          ∙ part_led n two.0

      -- a turn goes on after them as from the first of them
      turn_led : (n k t : ℕ) → AllLead ways home seen n me → turn_from ways store serving lending k (mid n) m (t + n) ≡ turn_from ways store serving lending (n + k) me m t
      turn_led zero k t h =
          ap (λ (x : Private). turn_from ways store serving lending k x m (t + zero)) (led_none ways home seen me)
          ∙ ap (λ (i : ℕ). turn_from ways store serving lending k me m i) (omega arith)
          ∙ ap (λ (i : ℕ). turn_from ways store serving lending i me m t) (omega arith)
      turn_led (suc n) k t h =
          let two = all_more n h in
          ap (λ (x : Private). turn_from ways store serving lending k x m (t + suc n)) (led_more ways home seen n me)
          ∙ ap (λ (i : ℕ). turn_from ways store serving lending k (next (mid n)) m i) (omega arith)
          ∙ by_first ways store serving lending k (mid n) (next (mid n)) m m counts (t + n) (step_led (mid n) (part_led n two.0) two.1)
          ∙ turn_led n (suc k) t two.0
          ∙ ap (λ (i : ℕ). turn_from ways store serving lending i me m t) (omega arith)

      pub left_led : (left n t : ℕ) → n ≤ left → AllLead ways home seen n me → turn_from ways store serving lending (left - n) (mid n) m (t + n) ≡ turn_from ways store serving lending left me m t
      left_led left n t few h = turn_led n (left - n) t h ∙ ap (λ (i : ℕ). turn_from ways store serving lending i me m t) (omega arith)

      -- and all whom the partition names are present
      pub present_led : (n : ℕ) → AllLead ways home seen n me → ArePresent (store m) me → ArePresent (store m) (mid n)
      present_led zero h p = subst (ArePresent (store m)) (sym (led_none ways home seen me)) p
      present_led (suc n) h p =
          let two = all_more n h in
          let before = present_led n two.0 p in
          let kept = presence_kept ways lawful store serving lending loans answers names (mid n) (next (mid n)) m m counts (step_led (mid n) (part_led n two.0) two.1) (λ o is. is) before.within before.names in
          subst (ArePresent (store m)) (sym (led_more ways home seen n me)) (record { within = kept.0; names = kept.1 })

    -- a turn of at least one step goes on over texts that are lent as it does without
    pub turn_lent : (home : ℕ) (me : Private) (p : Place) (m : M) (left t : ℕ) → Stands home me p → 1 ≤ left
        → turn_from ways store serving lending left me (lent me.part home m) t ≡ turn_from ways store serving lending left me m t
    turn_lent home me p m left t s some =
        let is : left ≡ suc (left - 1) = omega arith in
        ap (λ (i : ℕ). turn_from ways store serving lending i me (lent me.part home m) t) is
        ∙ first_same ways store serving lending (left - 1) me m (lent me.part home m) t (step_again home me p m s)
        ∙ sym (ap (λ (i : ℕ). turn_from ways store serving lending i me m t) is)
