-- What a step reaches: its own text, what its access reaches, the texts of homes, names, and the `@` variables of homes and of those to whom
-- a touched name leads. So whatever holds of these holds of all that it touches.
use Rattle.std.specs.Prelude.{◌≡◌, ◌⊎◌, ℕ, Bool, true, List, [], ◌∷◌, ◌++◌, Option, Some, None, refl, if◌then◌else◌}
use Rattle.std.proofs.Common.{sym, ap, subst, ◌∙◌, inl, inr}
use Rattle.b2_flow.specs.declared.frame.Place.{Place}
use Rattle.b2_access.specs.AccessRows.{holder_at}
use Rattle.b2_access.specs.Homes.{IsWithin, PlaceIn}
use Rattle.b2_access.specs.Leading.{LeadsTo, TouchedNamesIn}
use Rattle.b2_access.specs.Loans.{globals_objects, holder_of, lender_at, lends, loan_touched, name_objects}
use Rattle.b2_access.specs.Serving.{itself}
use Rattle.b2_access.specs.Store.{StoreState, IsIn, content}
use Rattle.b2_access.specs.Task.{in_left, in_right}
use Rattle.b2_access.specs.Touching.{touched}
use Rattle.b2_access.specs.declared.accesses.Access.{Access}
use Rattle.b2_access.specs.declared.accesses.Access.TheVariants as access
use Rattle.b2_access.specs.declared.lending.At.{At}
use Rattle.b2_access.specs.declared.lending.At.TheVariants as at
use Rattle.b2_access.specs.declared.objects.Object.{Object}
use Rattle.b2_access.specs.declared.objects.Object.TheVariants as object
use Rattle.b2_access.specs.declared.private.Private.{Private}
use Rattle.b2_access.proofs.Leading.{names_lead_to_who_asks}
use Rattle.b2_language.specs.Languages.{Ways}
use Rattle.b2_machine.specs.Readiness.{without_halt}
use Rattle.b2_machine.specs.Statements.{begins, leaves}
use Rattle.b2_machine.specs.Step.{lent_to_begin, seen_by, whose_by}
use Rattle.b2_machine.specs.Touched.{Told, access_asked, asking, asks_by, begin_touched, tells, tells_carrying, told, told_by, touched_where}
use Rattle.b2_machine.specs.declared.statements.Progress.{Progress}
use Rattle.b2_machine.specs.declared.statements.Progress.TheVariants as progress
use Rattle.b2_machine.proofs.Lent.{begun_store, names_left}
use Rattle.b2_machine.proofs.LocalSteps.{split}
use Rattle.b2_store.specs.DiskWork.{disks, serves}
use Rattle.b2_machine.specs.Due.{HasDue, due}
use Rattle.b2_machine.specs.declared.rules.Rule.{Rule}
use Rattle.b2_machine.specs.declared.rules.Rule.TheVariants as rule
use Rattle.b2_machine.proofs.DueRules.{has_due}

-- something holds of each of some objects
abbrev pub AreAll : (Object → Type 0) → List Object → Type 0
AreAll Fine os = (o : Object) → IsIn o os → Fine o

-- It holds of texts and `@` variables of some partitions, and of names; and of what each access touches that may be asked for by one of
-- them, where each name that it touches leads to one among them.
pub record Covers (among : ℕ → Bool) (may : ℕ → Access → Type 0) (Fine : Object → Type 0) : Type 0 where
  pub texts : (p : ℕ) → among p ≡ true → Fine (object.Text p)
  pub variables : (p : ℕ) → among p ≡ true → Fine (object.Globals p)
  pub names : (n : List ℕ) → Fine (object.Name n)
  pub accesses : (who : ℕ) (a : Access) (s : StoreState) → among who ≡ true → may who a → TouchedNamesIn among (touched s who a) s → AreAll Fine (touched s who a)

-- what is asked for may be
abbrev pub MayIfAny : (ℕ → Access → Type 0) → ℕ → Option Access → Type 0
MayIfAny may who None = Unit {0}
MayIfAny may who (Some a) = may who a

-- whoever holds the name by which an access enters a text is among them
pub holder_led : (among : ℕ → Bool) (who : ℕ) (a : Access) (s : StoreState) → TouchedNamesIn among (touched s who a) s → (p : ℕ) → holder_at a s ≡ Some p → among p ≡ true
holder_led among who (access.Enter name mark) s led p is = led name p (inl refl) (ap Some is)
holder_led among who a s led p is = cc

module _ (among : ℕ → Bool) (may : ℕ → Access → Type 0) (Fine : Object → Type 0) (covers : Covers among may Fine) where
  none : AreAll Fine []
  none o i = absurd i

  more : (x : Object) (xs : List Object) → Fine x → AreAll Fine xs → AreAll Fine (x ∷ xs)
  more x xs h k o i = elim i [ inl e ↦ subst Fine (sym e) h | inr j ↦ k o j ]

  both : (xs ys : List Object) → AreAll Fine xs → AreAll Fine ys → AreAll Fine (xs ++ ys)
  both xs ys h k o i = elim (split o xs ys i) [ inl j ↦ h o j | inr j ↦ k o j ]

  abbrev Led : List Object → StoreState → Type 0
  Led os s = TouchedNamesIn among os s

  accessed_where : (a : Option Access) (who : ℕ) (s : StoreState) → among who ≡ true → MayIfAny may who a → Led (touched_where a who s) s → AreAll Fine (touched_where a who s)
  accessed_where None who s member h led = none
  accessed_where (Some a) who s member h led = covers.accesses who a s member h led

  -- ---- loans, where each name that is touched leads to one among them

  holder_fine : (n : List ℕ) (x : Option ℕ) (s : StoreState) → holder_of s n ≡ x → ((p : ℕ) → LeadsTo s n p → among p ≡ true) → AreAll Fine (globals_objects x)
  holder_fine n None s is led = none
  holder_fine n (Some p) s is led = more (object.Globals p) [] (covers.variables p (led p (ap Some is))) none

  lender_fine : (who home : ℕ) (whose : At) (s : StoreState) → among home ≡ true → Led (loan_touched who home whose s) s → AreAll Fine (name_objects whose ++ globals_objects (lender_at home whose s))
  lender_fine who home at.None s member led = none
  lender_fine who home at.Home s member led = more (object.Globals home) [] (covers.variables home member) none
  lender_fine who home (at.Named n) s member led =
      more (object.Name n) (globals_objects (holder_of s n)) (covers.names n) (holder_fine n (holder_of s n) s refl (λ p. led n p (inr (inr (inl refl)))))

  loan_fine : (who home : ℕ) (whose : At) (s : StoreState) → among who ≡ true → among home ≡ true → Led (loan_touched who home whose s) s → AreAll Fine (loan_touched who home whose s)
  loan_fine who home whose s member at_home led =
      let rest = name_objects whose ++ globals_objects (lender_at home whose s) in
      more (object.Text who) (object.Text home ∷ rest) (covers.texts who member) (more (object.Text home) rest (covers.texts home at_home) (lender_fine who home whose s at_home led))

  texts_name_none : (who home : ℕ) (s : StoreState) → Led (loan_touched who home at.None s) s
  texts_name_none who home s n p i leads = elim i [ inl e ↦ absurd (cc) | inr j ↦ elim j [ inl e ↦ absurd (cc) | inr k ↦ absurd k ] ]

  two_loans : (who home : ℕ) (whose : At) (s : StoreState) → among who ≡ true → among home ≡ true → Led (loan_touched who home at.None s ++ loan_touched who home whose s) s
      → AreAll Fine (loan_touched who home at.None s ++ loan_touched who home whose s)
  two_loans who home whose s member at_home led =
      let texts = loan_touched who home at.None s in
      let rest = loan_touched who home whose s in
      both texts rest (loan_fine who home at.None s member at_home (texts_name_none who home s)) (loan_fine who home whose s member at_home (λ n p i. led n p (in_right (object.Name n) texts rest i)))

  begin_fine : (who home : ℕ) (whose : At) (s : StoreState) → among who ≡ true → among home ≡ true → Led (begin_touched who home whose s) s → AreAll Fine (begin_touched who home whose s)
  begin_fine who home at.None s member at_home led = loan_fine who home at.None s member at_home led
  begin_fine who home at.Home s member at_home led = two_loans who home at.Home s member at_home led
  begin_fine who home (at.Named k) s member at_home led = two_loans who home (at.Named k) s member at_home led

  -- ---- the rules of a step

  module _ (ways : Ways) where
    carried_fine : (who : ℕ) (c : Progress) (p : Place) (whose : At) (me : Private) (s : StoreState) → among who ≡ true → among p.home ≡ true → MayIfAny may who (access_asked c)
        → Led (tells_carrying ways itself serves lends who c p whose me s).touched s → AreAll Fine (tells_carrying ways itself serves lends who c p whose me s).touched
    carried_fine who (progress.Ended e) p whose me s member at_home h led = none
    carried_fine who (progress.Asks a b w) p whose me s member at_home h led =
        let front = touched s who a in
        let t = (serves s who a).after in
        let back = loan_touched who p.home whose t in
        both front back (covers.accesses who a s member h (λ n q i. led n q (in_left (object.Name n) front back i))) (loan_fine who p.home whose t member at_home (λ n q i leads. by n q i (names_lead_to_who_asks disks who a s n q leads)))
      where
        by : (n : List ℕ) (q : ℕ) → IsIn (object.Name n) (loan_touched who p.home whose (serves s who a).after) → LeadsTo s n q ⊎ (q ≡ who) → among q ≡ true
        by n q i (inl before) = led n q (in_right (object.Name n) (touched s who a) (loan_touched who p.home whose (serves s who a).after) i) before
        by n q i (inr own) = ap among own ∙ member

    abbrev Reached : ℕ → Told → Option Access → StoreState → Type 0
    Reached who t a s = Led t.touched s → MayIfAny may who a → AreAll Fine t.touched

    by_rule : (part : ℕ) (a : Option Access) (s : StoreState) → among part ≡ true → Reached part (tells itself serves lends part a s) a s
    by_rule part a s member led h = more (object.Text part) (touched_where a part s) (covers.texts part member) (accessed_where a part s member h (λ n q i. led n q (inr i)))

    each_rule : (r : Rule) (me : Private) (s : StoreState) → HasDue r me → IsWithin among me → Reached me.part (told_by ways itself serves lends r me s) (asks_by ways r me s) s
    each_rule (rule.Execute p) me s is w led asks =
        let whose = whose_by p me s in
        let seen = seen_by me.part p.home whose s in
        let left = leaves ways p me seen in
        let b = begins ways p me seen in
        let u = lent_to_begin itself serves lends me.part p.home whose s left in
        let front = begin_touched me.part p.home whose s in
        let back = (tells_carrying ways itself serves lends me.part b.progress p whose b.me u).touched in
        let h = subst (PlaceIn among) is w.place in
        let names : (n : List ℕ) → content u (object.Name n) ≡ content s (object.Name n) =
        λ n. ap (λ (t : StoreState). content t (object.Name n)) (begun_store itself serves lends (λ who home at m l. refl) me.part p.home whose s left) ∙ names_left p.home whose left.vars s n in
        both front back (begin_fine me.part p.home whose s w.part h (λ n q i. led n q (in_left (object.Name n) front back i)))
        (carried_fine me.part b.progress p whose b.me u w.part h asks (λ n q i leads. led n q (in_right (object.Name n) front back i) (sym (names n) ∙ leads)))
    each_rule r me s is w led asks = by_rule me.part (asks_by ways r me s) s w.part led asks

    -- ALL THAT A STEP TOUCHES is so, where each name that it touches leads to one among them
    pub stepped : (me : Private) (s : StoreState) → IsWithin among me → Reached me.part (told ways itself serves lends me s) (asking ways me s) s
    stepped me s w = each_rule (due me) (without_halt me) s (has_due me) (record { part = w.part; place = w.place; kept = w.kept; frames = w.frames })
