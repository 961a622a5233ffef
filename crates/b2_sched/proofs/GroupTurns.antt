-- A turn in two stores that have in common what isn't foul and isn't left out, of a member and of another.
use Rattle.std.specs.Prelude.{◌≡◌, ◌⊎◌, ℕ, zero, suc, ◌-◌, ◌==◌, Bool, true, false, List, [], ◌∷◌, ◌++◌, map, Option, Some, None, refl, if◌then◌else◌}
use Rattle.std.proofs.Common.{sym, ap, subst, ◌∙◌, inl, inr}
use Rattle.b2_access.specs.Homes.{HomesIn, IsWithin}
use Rattle.b2_access.specs.Leading.{LeadsTo, TouchedNamesIn}
use Rattle.b2_access.specs.Loans.{lends}
use Rattle.b2_access.proofs.Choice.{either}
use Rattle.b2_access.proofs.Leading.{answers_lead_to_holders, names_lead_to_who_asks}
use Rattle.b2_access.proofs.Locality.{serves_is_local}
use Rattle.b2_access.proofs.RowLaws.{either_left, either_right}
use Rattle.b2_access.specs.AccessRows.{holder_at, reach}
use Rattle.b2_access.specs.Borrowers.{is_inside}
use Rattle.b2_access.specs.Objects.{Decided}
use Rattle.b2_access.specs.Reach.{Reach, borrows, device_objects, entered_objects, objects_reached, terminal_objects, text_objects, variable_objects}
use Rattle.b2_access.specs.Serving.{itself}
use Rattle.b2_store.specs.DiskWork.{disks, serves}
use Rattle.b2_access.specs.Store.{StoreState, IsIn, content}
use Rattle.b2_access.specs.declared.accesses.Access.{Access}
use Rattle.b2_access.specs.declared.devices.Device.{Device}
use Rattle.b2_access.specs.declared.objects.Object.{Object}
use Rattle.b2_access.specs.declared.objects.Object.TheVariants as object
use Rattle.b2_access.specs.declared.private.Private.{Private}
use Rattle.b2_access.specs.declared.reached.TextUse.{TextUse}
use Rattle.b2_access.specs.declared.reached.TextUse.TheVariants as text
use Rattle.b2_audit.specs.Steps.{Step, Group}
use Rattle.b2_machine.proofs.LocalSteps.{is_in, split, steps_are_local}
use Rattle.b2_machine.proofs.NamesKept.{steps_lead_names}
use Rattle.b2_machine.proofs.StepHomes.{steps_stay_within}
use Rattle.b2_machine.specs.Step.{step}
use Rattle.b2_machine.specs.Touched.{GoesAlike, GoesLocally, asking, step_touched, step_written, told}
use Rattle.b2_machine.specs.Turn.{TurnEnd, counted_on, ended_turn, passed_one, passes_none, passes_turn, turn_from, unless_ended}
use Rattle.b2_machine.specs.declared.ends.Stepped.{Stepped}
use Rattle.b2_machine.specs.declared.ends.Why.{Why}
use Rattle.b2_machine.specs.declared.ends.Why.TheVariants as reason
use Rattle.b2_machine.proofs.PassedTurns.{each_turn}
use Rattle.b2_audit.proofs.CleanSteps.{AreApart, CleanFrom}
use Rattle.b2_sched.specs.Choice.{basic}
use Rattle.b2_sched.specs.Groups.{NamesLead, StoresAlike}
use Rattle.b2_sched.specs.Lawful.{basic_is_lawful}
use Rattle.b2_sched.specs.Turns.{step_noted, step_of, steps_from, steps_in_turn, turn_of}
use Rattle.b2_sched.proofs.Foul.{foul_after, fouled, other_fouls, own_fouls_nothing, stays_foul}
use Rattle.b2_sched.proofs.AskedHomes.{HomesIfAny, asks_within}
use Rattle.b2_sched.proofs.Numbers.{same_as_itself}
use Rattle.b2_sched.proofs.Reaching.{Covers, MayIfAny, holder_led, stepped}

-- Which objects may be left out: none that a member can come to. A partition comes to what is its own, to names, and to what belongs to
-- other members; and to the terminals and the devices that it asks for.
pub record IsOut (g : Group) (out : Object → Type 0) : Type 0 where
  pub texts : (p : ℕ) → g p ≡ true → out (object.Text p) → ⊥
  pub borrowers : (p : ℕ) → g p ≡ true → out (object.Borrow p) → ⊥
  pub variables : (p : ℕ) → g p ≡ true → out (object.Globals p) → ⊥
  pub names : (n : List ℕ) → out (object.Name n) → ⊥

-- what an access reaches of terminals and devices isn't left out, where one is asked for
abbrev pub AreInside : (Object → Type 0) → List Object → Type 0
AreInside out os = (o : Object) → IsIn o os → out o → ⊥

abbrev pub AsksInside : (Object → Type 0) → Access → Type 0
AsksInside out a = AreInside out (terminal_objects (reach a).terminal) × AreInside out (device_objects (reach a).devices)

abbrev pub InsideIfAny : (Object → Type 0) → Option Access → Type 0
InsideIfAny out None = Unit {0}
InsideIfAny out (Some a) = AsksInside out a

-- what holds of members, so that they ask for nothing that is left out; and a step leaves it so
pub record StayFit (devices : List Device) (out : Object → Type 0) (Fit : Private → Type 0) : Type 0 where
  pub asks : (me : Private) (s : StoreState) → Fit me → InsideIfAny out (asking (basic devices) me s)
  pub next : (me : Private) (s : StoreState) → Fit me → Fit (step_of devices me s).me
  pub pass : (me : Private) (k : ℕ) → Fit me → Fit (record me { pass = k })

pub none_inside : (out : Object → Type 0) → AreInside out []
none_inside out o i = absurd i

pub one_inside : (out : Object → Type 0) (x : Object) (xs : List Object) → (out x → ⊥) → AreInside out xs → AreInside out (x ∷ xs)
one_inside out x xs h k o i = elim i [ inl e ↦ subst (λ (y : Object). out y → ⊥) (sym e) h | inr j ↦ k o j ]

pub both_inside : (out : Object → Type 0) (xs ys : List Object) → AreInside out xs → AreInside out ys → AreInside out (xs ++ ys)
both_inside out xs ys h k o i = elim (split o xs ys i) [ inl j ↦ h o j | inr j ↦ k o j ]

module _ (g : Group) (out : Object → Type 0) (is_out : IsOut g out) where
  abbrev IsInside : Object → Type 0
  IsInside o = out o → ⊥

  none_in : AreInside out []
  none_in = none_inside out

  one_in : (x : Object) (xs : List Object) → IsInside x → AreInside out xs → AreInside out (x ∷ xs)
  one_in = one_inside out

  both_in : (xs ys : List Object) → AreInside out xs → AreInside out ys → AreInside out (xs ++ ys)
  both_in = both_inside out

  text_in : (who : ℕ) (used : TextUse) → g who ≡ true → AreInside out (text_objects who used)
  text_in who text.Unused member = none_in
  text_in who text.Read member = one_in (object.Text who) [] (is_out.texts who member) none_in
  text_in who text.Edited member = one_in (object.Borrow who) (object.Text who ∷ []) (is_out.borrowers who member) (one_in (object.Text who) [] (is_out.texts who member) none_in)

  variables_in : (who : ℕ) (b : Bool) → g who ≡ true → AreInside out (variable_objects who b)
  variables_in who true member = one_in (object.Globals who) [] (is_out.variables who member) none_in
  variables_in who false member = none_in

  names_in : (ns : List (List ℕ)) → AreInside out (map object.Name ns)
  names_in [] = none_in
  names_in (n ∷ ns) = one_in (object.Name n) (map object.Name ns) (is_out.names n) (names_in ns)

  borrows_in : (homes : List ℕ) → ((h : ℕ) → is_inside h homes ≡ true → g h ≡ true) → AreInside out (borrows homes)
  borrows_in [] each = none_in
  borrows_in (h ∷ homes) each =
      one_in (object.Borrow h) (borrows homes) (is_out.borrowers h (each h (either_left (h == h) (is_inside h homes) (same_as_itself h))))
      (borrows_in homes (λ k there. each k (either_right (h == k) (is_inside k homes) there)))

  entered_in : (name : Option (List ℕ)) (holder : Option ℕ) → ((p : ℕ) → holder ≡ Some p → g p ≡ true) → AreInside out (entered_objects name holder)
  entered_in None holder held = none_in
  entered_in (Some name) None held = one_in (object.Name name) [] (is_out.names name) none_in
  entered_in (Some name) (Some p) held =
      let member = held p refl in
      one_in (object.Name name) (object.Text p ∷ object.Borrow p ∷ []) (is_out.names name)
      (one_in (object.Text p) (object.Borrow p ∷ []) (is_out.texts p member) (one_in (object.Borrow p) [] (is_out.borrowers p member) none_in))

  reached : (who : ℕ) (holder : Option ℕ) (r : Reach) → g who ≡ true → ((h : ℕ) → is_inside h r.borrowers ≡ true → g h ≡ true) → ((p : ℕ) → holder ≡ Some p → g p ≡ true) → AreInside out (terminal_objects r.terminal) → AreInside out (device_objects r.devices) → AreInside out (objects_reached who holder r)
  reached who holder r member homes held terminal devices =
      both_in (terminal_objects r.terminal) _ terminal
      (both_in (text_objects who r.text) _ (text_in who r.text member)
      (both_in (variable_objects who r.variables) _ (variables_in who r.variables member)
      (both_in (borrows r.borrowers) _ (borrows_in r.borrowers homes)
      (both_in (device_objects r.devices) _ devices
      (both_in (entered_objects r.entered holder) _ (entered_in r.entered holder held) (names_in r.names))))))

  -- whatever a member asks for that marks members alone as homes, at terminals and devices that aren't left out
  abbrev OfMembers : ℕ → Access → Type 0
  OfMembers who a = HomesIn g a × AsksInside out a

  asked_of_members : (x : Option Access) (who : ℕ) → HomesIfAny g x → InsideIfAny out x → MayIfAny OfMembers who x
  asked_of_members None who h inside = tt
  asked_of_members (Some a) who h inside = (h, inside)

  members_are_inside : Covers g OfMembers IsInside
  members_are_inside = record {
    texts = is_out.texts;
    variables = is_out.variables;
    names = is_out.names;
    accesses = λ who a s member h led. reached who (holder_at a s) (reach a) member h.0 (holder_led g who a s led) h.1.0 h.1.1;
  }

module _ (devices : List Device) where
  abbrev turn_on : ℕ → Private → StoreState → ℕ → TurnEnd StoreState
  turn_on n me s steps = turn_from (basic devices) itself serves lends n me s steps

  pub local : (me : Private) → GoesLocally itself (told (basic devices) itself serves lends me) (step (basic devices) itself serves lends me)
  local me = steps_are_local (basic devices) (basic_is_lawful devices) itself serves lends (serves_is_local disks) (λ who home whose m left. refl) me

  -- how a step ends is how its turn goes on
  abbrev goes_on : ℕ → Stepped → ℕ → Private → StoreState → TurnEnd StoreState
  goes_on n end steps me s = unless_ended end.why (λ w. ended_turn (counted_on steps end) w me s) (turn_on n me s (counted_on steps end))

  module _ (g : Group) where
    -- what an outsider's turn leaves unfouled is as before
    others_on : (who n : ℕ) (me : Private) (s : StoreState) (steps : ℕ) (os : List Object) → g who ≡ false
        → (o : Object) → (IsIn o (foul_after g (steps_from devices who n me s) os) → ⊥) → content (turn_on n me s steps).after o ≡ content s o
    unfolding turn_from steps_from
    others_on who zero me s steps os out o clear = refl
    others_on who (suc n) me s steps os out o clear =
        by (step_of devices me s).end.why (others_on who n (step_of devices me s).me (step_of devices me s).after (counted_on steps (step_of devices me s).end) (fouled g (step_noted devices who me s) os) out o) clear
      where
        kept : (xs : List Step) → (IsIn o (foul_after g xs (fouled g (step_noted devices who me s) os)) → ⊥) → content (step_of devices me s).after o ≡ content s o
        kept xs c = (local me).others s o (λ i. c (stays_foul g xs (fouled g (step_noted devices who me s) os) o (other_fouls g (step_noted devices who me s) os o out i)))

        by : (why : Option Why)
            → ((IsIn o (foul_after g (steps_from devices who n (step_of devices me s).me (step_of devices me s).after) (fouled g (step_noted devices who me s) os)) → ⊥) → content (turn_on n (step_of devices me s).me (step_of devices me s).after (counted_on steps (step_of devices me s).end)).after o ≡ content (step_of devices me s).after o)
            → (IsIn o (foul_after g (unless_ended why (λ w. []) (steps_from devices who n (step_of devices me s).me (step_of devices me s).after)) (fouled g (step_noted devices who me s) os)) → ⊥)
            → content (unless_ended why (λ w. ended_turn (counted_on steps (step_of devices me s).end) w (step_of devices me s).me (step_of devices me s).after) (turn_on n (step_of devices me s).me (step_of devices me s).after (counted_on steps (step_of devices me s).end))).after o ≡ content s o
        by None later c = later c ∙ kept (steps_from devices who n (step_of devices me s).me (step_of devices me s).after) c
        by (Some why) later c = kept [] c

    pub others_turn : (who n : ℕ) (me : Private) (s : StoreState) (os : List Object) → g who ≡ false
        → (o : Object) → (IsIn o (foul_after g (steps_in_turn devices who n me s) os) → ⊥) → content (turn_of devices n me s).after o ≡ content s o
    others_turn who n me s os out o = by (passes_turn me)
      where
        by : (b : Bool) → (IsIn o (foul_after g (if b then [] else steps_from devices who n (passes_none me) s) os) → ⊥)
            → content (if b then ended_turn 0 reason.Break (passed_one me) s else turn_on n (passes_none me) s 0).after o ≡ content s o
        by true clear = refl
        by false clear = others_on who n (passes_none me) s 0 os out o clear

    -- a member's turn makes nothing foul
    foul_on : (who n : ℕ) (me : Private) (s : StoreState) (os : List Object) → g who ≡ true → foul_after g (steps_from devices who n me s) os ≡ os
    unfolding steps_from
    foul_on who zero me s os member = refl
    foul_on who (suc n) me s os member = ap (λ (xs : List Object). foul_after g (unless_ended (step_of devices me s).end.why (λ w. []) (steps_from devices who n (step_of devices me s).me (step_of devices me s).after)) xs) (own_fouls_nothing g (step_noted devices who me s) os member) ∙ by (step_of devices me s).end.why (foul_on who n (step_of devices me s).me (step_of devices me s).after os member)
      where
        by : (why : Option Why) → foul_after g (steps_from devices who n (step_of devices me s).me (step_of devices me s).after) os ≡ os → foul_after g (unless_ended why (λ w. []) (steps_from devices who n (step_of devices me s).me (step_of devices me s).after)) os ≡ os
        by None later = later
        by (Some why) later = refl

    pub members_foul : (who n : ℕ) (me : Private) (s : StoreState) (os : List Object) → g who ≡ true → foul_after g (steps_in_turn devices who n me s) os ≡ os
    members_foul who n me s os member = either (λ (xs : List Step). foul_after g xs os ≡ os) (passes_turn me) [] (steps_from devices who n (passes_none me) s) refl (foul_on who n (passes_none me) s os member)

    module _ (out : Object → Type 0) (is_out : IsOut g out) (Fit : Private → Type 0) (fit : StayFit devices out Fit) where
      -- A member's turn ends alike in both stores, where it touches nothing foul; it names members alone as homes, and names that aren't foul
      -- lead to members.
      pub record TurnsAlike (os : List Object) (x y : TurnEnd StoreState) : Type 0 where
        pub own : x.me ≡ y.me
        pub objects : StoresAlike out os x.after y.after
        pub homes : IsWithin g x.me
        pub names : NamesLead g os x.after
        pub fits : Fit x.me

      led : (me : Private) (s : StoreState) (os : List Object) → NamesLead g os s → AreApart (step_touched (basic devices) itself serves lends me s) os → TouchedNamesIn g (step_touched (basic devices) itself serves lends me s) s
      led me s os names apart n p i leads = names n p (λ f. apart (object.Name n) i f) leads

      step_alike : (me : Private) (s t : StoreState) (os : List Object) → IsWithin g me → Fit me → NamesLead g os s → StoresAlike out os s t → AreApart (step_touched (basic devices) itself serves lends me s) os
          → GoesAlike itself (told (basic devices) itself serves lends me) (step (basic devices) itself serves lends me) s t
      step_alike me s t os w fits names agree apart =
          let x = asking (basic devices) me s in
          let inside = stepped g (OfMembers g out is_out) (IsInside g out is_out) (members_are_inside g out is_out) (basic devices) me s w (led me s os names apart)
          (asked_of_members g out is_out x me.part (asks_within (basic devices) (basic_is_lawful devices) g me s w) (fit.asks me s fits)) in
          (local me).alike s t (λ o i. agree o (λ f. apart o i f) (inside o i))

      next_agree : (me : Private) (s t : StoreState) (os : List Object) → StoresAlike out os s t → GoesAlike itself (told (basic devices) itself serves lends me) (step (basic devices) itself serves lends me) s t
          → StoresAlike out os (step_of devices me s).after (step_of devices me t).after
      next_agree me s t os agree alike o clear inside = by (is_in o (step_written (basic devices) itself serves lends me s))
        where
          by : Decided (IsIn o (step_written (basic devices) itself serves lends me s)) → content (step_of devices me s).after o ≡ content (step_of devices me t).after o
          by (inl i) = alike.contents o i
          by (inr not) =
              (local me).others s o not ∙ agree o clear inside ∙ sym ((local me).others t o (λ i. not (subst (λ (xs : List Object). IsIn o xs) (sym alike.wrote) i)))

      next_homes : (me : Private) (s : StoreState) (os : List Object) → IsWithin g me → NamesLead g os s → AreApart (step_touched (basic devices) itself serves lends me s) os → IsWithin g (step_of devices me s).me
      next_homes me s os w names apart =
          steps_stay_within (basic devices) (basic_is_lawful devices) itself serves lends (λ who home whose m left. refl) (answers_lead_to_holders disks) g me s (led me s os names apart) w

      next_names : (me : Private) (s : StoreState) (os : List Object) → IsWithin g me → NamesLead g os s → NamesLead g os (step_of devices me s).after
      next_names me s os w names n p clear leads = by (steps_lead_names (basic devices) itself serves lends (λ who home whose m left. refl) (names_lead_to_who_asks disks) me s n p leads)
        where
          by : LeadsTo s n p ⊎ (p ≡ me.part) → g p ≡ true
          by (inl before) = names n p clear before
          by (inr own) = ap g own ∙ w.part

      members_on : (who n : ℕ) (me : Private) (s t : StoreState) (steps : ℕ) (os : List Object) → g who ≡ true → IsWithin g me → Fit me → NamesLead g os s → StoresAlike out os s t
          → CleanFrom g os (steps_from devices who n me s) → TurnsAlike os (turn_on n me s steps) (turn_on n me t steps)
      unfolding turn_from steps_from
      members_on who zero me s t steps os member w fits names agree clean = record { own = refl; objects = agree; homes = w; names = names; fits = fits }
      members_on who (suc n) me s t steps os member w fits names agree clean =
          let later = members_on who n (step_of devices me s).me (step_of devices me s).after (step_of devices me t).after (counted_on steps (step_of devices me s).end) os member next (fit.next me s fits) names_next agree_next in
          let by_me = subst (λ (z : Private). TurnsAlike os (goes_on n (step_of devices me s).end steps (step_of devices me s).me (step_of devices me s).after) (goes_on n (step_of devices me s).end steps z (step_of devices me t).after)) alike.own (by (step_of devices me s).end.why later rest) in
          subst (λ (e : Stepped). TurnsAlike os (goes_on n (step_of devices me s).end steps (step_of devices me s).me (step_of devices me s).after) (goes_on n e steps (step_of devices me t).me (step_of devices me t).after)) alike.end by_me
        where
          alike : GoesAlike itself (told (basic devices) itself serves lends me) (step (basic devices) itself serves lends me) s t
          alike = step_alike me s t os w fits names agree (clean.0 member)

          next : IsWithin g (step_of devices me s).me
          next = next_homes me s os w names (clean.0 member)

          names_next : NamesLead g os (step_of devices me s).after
          names_next = next_names me s os w names

          agree_next : StoresAlike out os (step_of devices me s).after (step_of devices me t).after
          agree_next = next_agree me s t os agree alike

          rest : CleanFrom g os (unless_ended (step_of devices me s).end.why (λ w. []) (steps_from devices who n (step_of devices me s).me (step_of devices me s).after))
          rest = subst (λ (xs : List Object). CleanFrom g xs (unless_ended (step_of devices me s).end.why (λ w. []) (steps_from devices who n (step_of devices me s).me (step_of devices me s).after))) (own_fouls_nothing g (step_noted devices who me s) os member) clean.1

          by : (why : Option Why)
              → (CleanFrom g os (steps_from devices who n (step_of devices me s).me (step_of devices me s).after) → TurnsAlike os (turn_on n (step_of devices me s).me (step_of devices me s).after (counted_on steps (step_of devices me s).end)) (turn_on n (step_of devices me s).me (step_of devices me t).after (counted_on steps (step_of devices me s).end)))
              → CleanFrom g os (unless_ended why (λ w. []) (steps_from devices who n (step_of devices me s).me (step_of devices me s).after))
              → TurnsAlike os (unless_ended why (λ w. ended_turn (counted_on steps (step_of devices me s).end) w (step_of devices me s).me (step_of devices me s).after) (turn_on n (step_of devices me s).me (step_of devices me s).after (counted_on steps (step_of devices me s).end)))
              (unless_ended why (λ w. ended_turn (counted_on steps (step_of devices me s).end) w (step_of devices me s).me (step_of devices me t).after) (turn_on n (step_of devices me s).me (step_of devices me t).after (counted_on steps (step_of devices me s).end)))
          by None later c = later c
          by (Some why) later c = record { own = refl; objects = agree_next; homes = next; names = names_next; fits = fit.next me s fits }

      pass_within : (me : Private) (k : ℕ) → IsWithin g me → IsWithin g (record me { pass = k })
      pass_within me k w = record { part = w.part; place = w.place; kept = w.kept; frames = w.frames }

      pub members_turn : (who n : ℕ) (me : Private) (s t : StoreState) (os : List Object) → g who ≡ true → IsWithin g me → Fit me → NamesLead g os s → StoresAlike out os s t
          → CleanFrom g os (steps_in_turn devices who n me s) → TurnsAlike os (turn_of devices n me s) (turn_of devices n me t)
      members_turn who n me s t os member w fits names agree = by (passes_turn me)
        where
          by : (b : Bool) → CleanFrom g os (if b then [] else steps_from devices who n (passes_none me) s)
              → TurnsAlike os (if b then ended_turn 0 reason.Break (passed_one me) s else turn_on n (passes_none me) s 0) (if b then ended_turn 0 reason.Break (passed_one me) t else turn_on n (passes_none me) t 0)
          by true clean = record { own = refl; objects = agree; homes = pass_within me (me.pass - 1) w; names = names; fits = fit.pass me (me.pass - 1) fits }
          by false clean = members_on who n (passes_none me) s t 0 os member (pass_within me 0 w) (fit.pass me 0 fits) names agree clean
