-- Statements one after another: what a run of them has come to so far, and how it ends.
use Rattle.std.proofs.Common.{◌≡◌, ℕ, suc, zero, ◌+◌, ◌<◌, ◌≤◌, false, true≢false, refl, sym, ap, subst, ◌∙◌, arith, Option, Some, None, is_some}
use Rattle.b2_flow.specs.declared.frame.Place.{Place}
use Rattle.b2_access.specs.Lending.{SeenLent}
use Rattle.b2_access.specs.declared.accesses.Access.{Access}
use Rattle.b2_access.specs.declared.private.Private.{Private}
use Rattle.b2_language.specs.Languages.{Ways}
use Rattle.b2_language.specs.Wanted.{wanted_at}
use Rattle.b2_machine.specs.StraightLine.{AllLead, EndsRun, Leads, RunsOn, begins_next, led, place_in, place_or_none}
use Rattle.b2_machine.specs.Statements.{Begun, Opens, begins}
use Rattle.b2_machine.specs.declared.statements.Opening.{Opening}
use Rattle.b2_machine.specs.declared.statements.Opening.TheVariants as opening

pub nothing : {A : Type 0} (o : Option A) → is_some o ≡ false → o ≡ None
nothing None h = refl
nothing (Some x) h = absurd (true≢false h)

module _ (ways : Ways) (home : ℕ) (s : SeenLent) where
  pub led_none : (me : Private) → led ways home s 0 me ≡ me
  unfolding led
  led_none me = refl

  pub none_lead : (me : Private) → AllLead ways home s 0 me
  unfolding AllLead
  none_lead me = tt

  pub led_more : (n : ℕ) (me : Private) → led ways home s (suc n) me ≡ (begins_next ways home s (led ways home s n me)).me
  unfolding led
  led_more n me = refl

  lead_more : (n : ℕ) (me : Private) → AllLead ways home s n me → Leads ways home s (led ways home s n me) → AllLead ways home s (suc n) me
  unfolding AllLead
  lead_more n me h more = (h, more)

  -- some that led on, and then others
  pub led_joined : (n k : ℕ) (first : Private) → led ways home s (n + k) first ≡ led ways home s k (led ways home s n first)
  led_joined n zero first = let same : n + 0 ≡ n = omega arith in ap (λ (j : ℕ). led ways home s j first) same ∙ sym (led_none (led ways home s n first))
  led_joined n (suc k) first =
      let more : n + suc k ≡ suc (n + k) = omega arith in
      ap (λ (j : ℕ). led ways home s j first) more ∙ led_more (n + k) first ∙ ap (λ (x : Private). (begins_next ways home s x).me) (led_joined n k first) ∙ sym (led_more k (led ways home s n first))

  all_but_last : (k : ℕ) (me : Private) → AllLead ways home s (suc k) me → AllLead ways home s k me × Leads ways home s (led ways home s k me)
  unfolding AllLead
  all_but_last k me h = h

  pub lead_joined : (n k : ℕ) (first : Private) → AllLead ways home s n first → AllLead ways home s k (led ways home s n first) → AllLead ways home s (n + k) first
  lead_joined n zero first some others = let same : n ≡ n + 0 = omega arith in subst (λ (j : ℕ). AllLead ways home s j first) same some
  lead_joined n (suc k) first some others =
      let more : suc (n + k) ≡ n + suc k = omega arith in
      let parts = all_but_last k (led ways home s n first) others in
      subst (λ (j : ℕ). AllLead ways home s j first) more (lead_more (n + k) first (lead_joined n k first some parts.0) (subst (Leads ways home s) (sym (led_joined n k first)) parts.1))

  leads_there : (me you : Private) (p : Place) (a : Option Access) → place_in home me ≡ Some p → Opens ways p me you s a opening.Leads → Leads ways home s me
  leads_there me you p a is_p opens = record {
    there = ap is_some is_p;
    local = ap (λ (o : Option Place). wanted_at (place_or_none o) me s.home.lines) is_p ∙ opens.0;
    ended = ap (λ (o : Option Place). (begins ways (place_or_none o) me s).progress) is_p ∙ sym (ap (λ (b : Begun). b.progress) opens.1);
  }

  next_there : (me you : Private) (p : Place) (a : Option Access) → place_in home me ≡ Some p → Opens ways p me you s a opening.Leads → (begins_next ways home s me).me ≡ you
  next_there me you p a is_p opens = ap (λ (o : Option Place). (begins ways (place_or_none o) me s).me) is_p ∙ sym (ap (λ (b : Begun). b.me) opens.1)

  module _ (n : ℕ) (first me you : Private) (lead : AllLead ways home s n first) (is_led : led ways home s n first ≡ me) where
    -- one more led on
    pub more_lead : (p : Place) (a : Option Access) → place_in home me ≡ Some p → Opens ways p me you s a opening.Leads → AllLead ways home s (n + 1) first × (led ways home s (n + 1) first ≡ you)
    more_lead p a is_p opens =
        let more : suc n ≡ n + 1 = omega arith in (
          subst (λ (k : ℕ). AllLead ways home s k first) more (lead_more n first lead (subst (Leads ways home s) (sym is_led) (leads_there me you p a is_p opens))),
          sym (ap (λ (k : ℕ). led ways home s k first) more) ∙ led_more n first ∙ ap (λ (x : Private). (begins_next ways home s x).me) is_led ∙ next_there me you p a is_p opens,
        )

    -- others led on after them
    pub joined : (k : ℕ) (mid : Private) → AllLead ways home s k me → led ways home s k me ≡ mid → AllLead ways home s (n + k) first × (led ways home s (n + k) first ≡ mid)
    joined k mid others is_mid = (
      lead_joined n k first lead (subst (AllLead ways home s k) (sym is_led) others),
      led_joined n k first ∙ ap (led ways home s k) is_led ∙ is_mid,
    )

    -- the run ends after them, and nothing was opened, where no further one may be executed
    pub ends_there : (left : ℕ) (a : Option Access) → n ≤ left → you ≡ me → (n < left → place_in home me ≡ None) → RunsOn ways home s left first you a (record { steps = n; last = None })
    ends_there left a few same whole = record { lead = lead; few = few; last = same ∙ sym is_led; whole = λ none some. ap (place_in home) is_led ∙ whole some }

    -- or a statement was
    pub ends_opened : (left : ℕ) (p : Place) (a : Option Access) (o : Opening) → n < left → place_in home me ≡ Some p → Opens ways p me you s a o
        → RunsOn ways home s left first you a (record { steps = n; last = Some (record { place = p; opening = o }) })
    ends_opened left p a o few is_p opens = record {
      lead = lead;
      few = few;
      last = subst (λ (y : Private). EndsRun ways home s (Some (record { place = p; opening = o })) y you a) (sym is_led) (is_p, opens);
      whole = λ none some. absurd (true≢false (ap is_some none));
    }
