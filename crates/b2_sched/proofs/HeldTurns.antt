-- A held device, over the turns of others and over all that happens.
use Rattle.std.specs.Prelude.{◌≡◌, ◌≢◌, ◌⊎◌, ℕ, zero, suc, Bool, true, false, List, [], ◌∷◌, Option, Some, None, refl, if◌then◌else◌}
use Rattle.std.proofs.Common.{sym, ap, subst, ◌∙◌, inl, inr}
use Rattle.b2_term.specs.Terminal.{TerminalState, keyed}
use Rattle.b2_access.specs.Contents.{content_other, put_alike}
use Rattle.b2_access.specs.Holding.{AgreeBut, IsContentOf, device_of}
use Rattle.b2_access.specs.Loans.{lends}
use Rattle.b2_access.specs.Rows.{with_row}
use Rattle.b2_access.specs.Serving.{itself}
use Rattle.b2_access.specs.Store.{StoreState, content}
use Rattle.b2_access.specs.declared.devices.Device.{Device}
use Rattle.b2_access.specs.declared.objects.Object.{Object}
use Rattle.b2_access.specs.declared.objects.Object.TheVariants as object
use Rattle.b2_access.specs.declared.private.Private.{Private}
use Rattle.b2_audit.specs.Steps.{Step, marks_after}
use Rattle.b2_machine.specs.Turn.{TurnEnd, counted_on, ended_turn, passed_one, passes_none, passes_turn, turn_from, unless_ended}
use Rattle.b2_machine.specs.declared.ends.Stepped.{Stepped}
use Rattle.b2_machine.specs.declared.ends.Turned.{Turned}
use Rattle.b2_machine.specs.declared.ends.Why.{Why}
use Rattle.b2_machine.specs.declared.ends.Why.TheVariants as reason
use Rattle.b2_machine.proofs.PassedTurns.{each_turn}
use Rattle.b2_store.specs.Changes.{room_at, with_terminal}
use Rattle.b2_store.specs.DiskWork.{serves}
use Rattle.b2_sched.proofs.EachRow.{EachIs, each_action, each_ran}
use Rattle.b2_sched.proofs.HeldSteps.{next_own, step_held, step_keeps_or_frees, step_stays, step_waits, steps_agree}
use Rattle.b2_sched.proofs.OwnObjects.{IsItself, by_end, keeps_itself, starts_itself}
use Rattle.b2_sched.specs.Choice.{basic}
use Rattle.b2_sched.specs.EachStep.{AtEachStep, AtSomeStep, EachInAction, EachInTurn, EachOf, IfTaken, SomeInAction, SomeInTurn, SomeOf, UnlessPassed}
use Rattle.b2_sched.specs.Holding.{AreOfOthers, Frees, HeldUntilFreed, IsHeld, IsOfOthers, IsReached, OthersLeaveHeld, OthersReadNothing, OthersWait, Waits, WorldsAgreeBut, with_store}
use Rattle.b2_sched.specs.Start.{booted}
use Rattle.b2_sched.specs.Turns.{step_noted, step_of, steps_from, steps_in_turn, turn_of}
use Rattle.b2_sched.specs.World.{WorldState, Action, Key, Front, Halt, Reset, Turn, does, does_all, dropped_by, private_of, tallied, with_turn}

-- ---- a turn of another

-- what is so of the steps of a turn is so unless it is passed
pub unless_passed : (b : Bool) (T : Type 0) → T → UnlessPassed b T
unless_passed true T h = tt
unless_passed false T h = h

module _ (devices : List Device) where
  abbrev turn_on : ℕ → Private → StoreState → ℕ → TurnEnd StoreState
  turn_on n me s steps = turn_from (basic devices) itself serves lends n me s steps

  -- how a step ends is how its turn goes on
  abbrev goes_on : ℕ → Stepped → ℕ → Private → StoreState → TurnEnd StoreState
  goes_on n end steps me s = unless_ended end.why (λ w. ended_turn (counted_on steps end) w me s) (turn_on n me s (counted_on steps end))

  -- the steps that follow one
  abbrev follow : ℕ → ℕ → Stepped → Private → StoreState → List Step
  follow who n end me s = unless_ended end.why (λ w. []) (steps_from devices who n me s)

  -- two turns, of an own state and of two stores
  record TurnsAgreeBut (a : List ℕ) (x y : TurnEnd StoreState) : Type 0 where
    pub own : x.me ≡ y.me
    pub turned : x.turned ≡ y.turned
    pub stores : AgreeBut a x.after y.after

  module _ (a : List ℕ) (p q : ℕ) where
    module _ (apart : q ≢ p) where
      stays_on : (n : ℕ) (me : Private) (s : StoreState) (steps : ℕ) → me.part ≡ q → IsHeld a p s → (o : Object) → device_of o ≡ Some a → content (turn_on n me s steps).after o ≡ content s o
      unfolding turn_from
      stays_on zero me s steps home held o is = refl
      stays_on (suc n) me s steps home held o is =
          let x = step_of devices me s in
          let here = step_stays devices a p q me s home held apart o is in
          by_end (λ (t : TurnEnd StoreState). content t.after o ≡ content s o) x.end.why (λ w. ended_turn (counted_on steps x.end) w x.me x.after) (turn_on n x.me x.after (counted_on steps x.end)) (λ w. here)
          (stays_on n x.me x.after (counted_on steps x.end) (next_own devices a p q me s home held) (step_held devices a p q me s home held apart) o is ∙ here)

      waits_on : (n : ℕ) (me : Private) (s : StoreState) → me.part ≡ q → IsHeld a p s → EachInTurn (Waits a) devices n me s
      waits_on zero me s home held = tt
      waits_on (suc n) me s home held =
          (step_waits devices a p q me s home held apart, λ on. waits_on n (step_of devices me s).me (step_of devices me s).after (next_own devices a p q me s home held) (step_held devices a p q me s home held apart))

      agree_on : (n : ℕ) (me : Private) (s t : StoreState) (steps : ℕ) → me.part ≡ q → IsHeld a p s → AgreeBut a s t → TurnsAgreeBut a (turn_on n me s steps) (turn_on n me t steps)
      unfolding turn_from
      agree_on zero me s t steps home held agree = record { own = refl; turned = refl; stores = agree }
      agree_on (suc n) me s t steps home held agree =
          let x = step_of devices me s in
          let y = step_of devices me t in
          let same = steps_agree devices a p q me s t home held apart agree q in
          let later = agree_on n x.me x.after y.after (counted_on steps x.end) (next_own devices a p q me s home held) (step_held devices a p q me s home held apart) same.stores in
          subst (λ (e : Stepped). TurnsAgreeBut a (goes_on n x.end steps x.me x.after) (goes_on n e steps y.me y.after)) same.end
          (subst (λ (z : Private). TurnsAgreeBut a (goes_on n x.end steps x.me x.after) (goes_on n x.end steps z y.after)) same.own (by x.end.why x.me x.after y.after (counted_on steps x.end) same.stores later))
        where
          by : (why : Option Why) (z : Private) (u v : StoreState) (k : ℕ) → AgreeBut a u v → TurnsAgreeBut a (turn_on n z u k) (turn_on n z v k)
              → TurnsAgreeBut a (unless_ended why (λ w. ended_turn k w z u) (turn_on n z u k)) (unless_ended why (λ w. ended_turn k w z v) (turn_on n z v k))
          by None z u v k same later = later
          by (Some w) z u v k same later = record { own = refl; turned = refl; stores = same }

      noted_on : (who n : ℕ) (me : Private) (s t : StoreState) → me.part ≡ q → IsHeld a p s → AgreeBut a s t → steps_from devices who n me s ≡ steps_from devices who n me t
      unfolding steps_from
      noted_on who zero me s t home held agree = refl
      noted_on who (suc n) me s t home held agree =
          let x = step_of devices me s in
          let y = step_of devices me t in
          let same = steps_agree devices a p q me s t home held apart agree who in
          let later = noted_on who n x.me x.after y.after (next_own devices a p q me s home held) (step_held devices a p q me s home held apart) same.stores in
          ap (λ (z : Step). z ∷ follow who n x.end x.me x.after) same.noted
          ∙ ap (λ (zs : List Step). step_noted devices who me t ∷ zs)
          (ap (λ (zs : List Step). unless_ended x.end.why (λ w. []) zs) later
          ∙ ap (λ (z : Private). follow who n x.end z y.after) same.own
          ∙ ap (λ (e : Stepped). follow who n e y.me y.after) same.end)

      -- passed or taken
      turn_stays : (n : ℕ) (me : Private) (s : StoreState) → me.part ≡ q → IsHeld a p s → (o : Object) → device_of o ≡ Some a → content (turn_of devices n me s).after o ≡ content s o
      turn_stays n me s home held o is =
          each_turn (basic devices) itself serves lends (λ (t : TurnEnd StoreState). content t.after o ≡ content s o) n me s refl (stays_on n (passes_none me) s 0 home held o is)

      turn_waits : (n : ℕ) (me : Private) (s : StoreState) → me.part ≡ q → IsHeld a p s → EachOf (Waits a) devices n (Some me) s
      turn_waits n me s home held = unless_passed (passes_turn me) (EachInTurn (Waits a) devices n (passes_none me) s) (waits_on n (passes_none me) s home held)

      turns_agree : (n : ℕ) (me : Private) (s t : StoreState) → me.part ≡ q → IsHeld a p s → AgreeBut a s t → TurnsAgreeBut a (turn_of devices n me s) (turn_of devices n me t)
      turns_agree n me s t home held agree = by (passes_turn me)
        where
          by : (b : Bool) → TurnsAgreeBut a (if b then ended_turn 0 reason.Break (passed_one me) s else turn_on n (passes_none me) s 0) (if b then ended_turn 0 reason.Break (passed_one me) t else turn_on n (passes_none me) t 0)
          by true = record { own = refl; turned = refl; stores = agree }
          by false = agree_on n (passes_none me) s t 0 home held agree

      noted_agree : (who n : ℕ) (me : Private) (s t : StoreState) → me.part ≡ q → IsHeld a p s → AgreeBut a s t → steps_in_turn devices who n me s ≡ steps_in_turn devices who n me t
      noted_agree who n me s t home held agree = ap (λ (xs : List Step). if passes_turn me then [] else xs) (noted_on who n (passes_none me) s t home held agree)

    -- a turn of anyone
    abbrev KeepsOrFrees : ℕ → Private → StoreState → ℕ → Type 0
    KeepsOrFrees n me s steps = IsHeld a p (turn_on n me s steps).after ⊎ SomeInTurn (Frees a p) devices n me s

    keeps_or_frees_on : (n : ℕ) (me : Private) (s : StoreState) (steps : ℕ) → me.part ≡ q → IsHeld a p s → KeepsOrFrees n me s steps
    unfolding turn_from
    keeps_or_frees_on zero me s steps home held = inl held
    keeps_or_frees_on (suc n) me s steps home held =
        by (step_keeps_or_frees devices a p q me s home held)
        (λ still. keeps_or_frees_on n (step_of devices me s).me (step_of devices me s).after (counted_on steps (step_of devices me s).end) (next_own devices a p q me s home held) still)
      where
        goes : (why : Option Why) → (step_of devices me s).end.why ≡ why → IsHeld a p (step_of devices me s).after → KeepsOrFrees n (step_of devices me s).me (step_of devices me s).after (counted_on steps (step_of devices me s).end)
            → IsHeld a p (unless_ended why (λ w. ended_turn (counted_on steps (step_of devices me s).end) w (step_of devices me s).me (step_of devices me s).after) (turn_on n (step_of devices me s).me (step_of devices me s).after (counted_on steps (step_of devices me s).end))).after
            ⊎ SomeInTurn (Frees a p) devices (suc n) me s
        goes None on still (inl later) = inl later
        goes None on still (inr some) = inr (inr (on, some))
        goes (Some w) on still later = inl still

        by : IsHeld a p (step_of devices me s).after ⊎ Frees a p devices me s → (IsHeld a p (step_of devices me s).after → KeepsOrFrees n (step_of devices me s).me (step_of devices me s).after (counted_on steps (step_of devices me s).end))
            → IsHeld a p (goes_on n (step_of devices me s).end steps (step_of devices me s).me (step_of devices me s).after).after ⊎ SomeInTurn (Frees a p) devices (suc n) me s
        by (inl still) rest = goes (step_of devices me s).end.why refl still (rest still)
        by (inr frees) rest = inr (inl frees)

    turn_keeps_or_frees : (n : ℕ) (me : Private) (s : StoreState) → me.part ≡ q → IsHeld a p s → IsHeld a p (turn_of devices n me s).after ⊎ SomeOf (Frees a p) devices n (Some me) s
    turn_keeps_or_frees n me s home held = by (passes_turn me)
      where
        by : (b : Bool) → IsHeld a p (if b then ended_turn 0 reason.Break (passed_one me) s else turn_on n (passes_none me) s 0).after ⊎ IfTaken b (SomeInTurn (Frees a p) devices n (passes_none me) s)
        by true = inl held
        by false = keeps_or_frees_on n (passes_none me) s 0 home held

-- ---- what happens at once

abbrev AreThemselves : WorldState → Type 0
AreThemselves w = EachIs IsItself w.privates

-- a terminal changes, and what belongs to a device stays
pub terminal_leaves : (o : Object) (a : List ℕ) → device_of o ≡ Some a → (c : Option TerminalState) (t : ℕ) (f : TerminalState → TerminalState) (s : StoreState) → content (with_terminal c t f s) o ≡ content s o
terminal_leaves o a is None t f s = refl
terminal_leaves o a is (Some x) t f s = content_other (object.Terminal t) o (f x) s (λ e. let clash : Some a ≡ None = sym is ∙ ap device_of e in cc)

-- and it does so alike
terminal_agrees : (a : List ℕ) (c : Option TerminalState) (t : ℕ) (f : TerminalState → TerminalState) (s u : StoreState) → AgreeBut a s u → AgreeBut a (with_terminal c t f s) (with_terminal c t f u)
terminal_agrees a None t f s u agree = agree
terminal_agrees a (Some x) t f s u agree = λ o c. put_alike (object.Terminal t) o (f x) s u (agree o c)

not_content : (a : List ℕ) (t : ℕ) → IsContentOf a (object.Terminal t) → ⊥
not_content a t c = elim c [ inl e ↦ cc | inr e ↦ cc ]

module _ (a : List ℕ) (p : ℕ) where
  turned_stays : (q n : ℕ) (m : Option Private) (w : WorldState) → private_of q w ≡ m → AreThemselves w → q ≢ p → IsHeld a p w.store → (o : Object) → device_of o ≡ Some a → content (with_turn q m n w).store o ≡ content w.store o
  turned_stays q n None w is home apart held o of = refl
  turned_stays q n (Some me) w is home apart held o of = turn_stays w.devices a p q apart n me w.store (home q me is) held o of

  action_stays : (x : Action) (w : WorldState) → AreThemselves w → IsOfOthers p x → IsHeld a p w.store → (o : Object) → device_of o ≡ Some a → content (does x w).store o ≡ content w.store o
  action_stays (Key t k) w home other held o of = terminal_leaves o a of (content w.store (object.Terminal t)) t (keyed k) w.store
  action_stays (Front t q) w home other held o of = terminal_leaves o a of (content w.store (object.Terminal t)) t (λ x. record x { front = q }) w.store
  action_stays (Halt q) w home other held o of = refl
  action_stays (Reset q) w home other held o of = refl
  action_stays (Turn q n) w home apart held o of = turned_stays q n (private_of q w) w refl home apart held o of

  action_held : (x : Action) (w : WorldState) → AreThemselves w → IsOfOthers p x → IsHeld a p w.store → IsHeld a p (does x w).store
  action_held x w home other held = action_stays x w home other held (object.Hog a) refl ∙ held

  all_stay : (others : List Action) (w : WorldState) → AreThemselves w → AreOfOthers p others → IsHeld a p w.store → (o : Object) → device_of o ≡ Some a → content (does_all others w).store o ≡ content w.store o
  all_stay [] w home other held o of = refl
  all_stay (x ∷ xs) w home other held o of =
      all_stay xs (does x w) (each_action IsItself keeps_itself x w home) other.1 (action_held x w home other.0 held) o of ∙ action_stays x w home other.0 held o of

  -- who asks waits
  turned_waits : (q n : ℕ) (m : Option Private) (w : WorldState) → private_of q w ≡ m → AreThemselves w → q ≢ p → IsHeld a p w.store → EachOf (Waits a) w.devices n m w.store
  turned_waits q n None w is home apart held = tt
  turned_waits q n (Some me) w is home apart held = turn_waits w.devices a p q apart n me w.store (home q me is) held

  action_waits : (x : Action) (w : WorldState) → AreThemselves w → IsOfOthers p x → IsHeld a p w.store → EachInAction (Waits a) x w
  action_waits (Turn q n) w home apart held = turned_waits q n (private_of q w) w refl home apart held
  action_waits x w home other held = tt

  all_wait : (others : List Action) (w : WorldState) → AreThemselves w → AreOfOthers p others → IsHeld a p w.store → AtEachStep (Waits a) others w
  all_wait [] w home other held = tt
  all_wait (x ∷ xs) w home other held =
      (action_waits x w home other.0 held, all_wait xs (does x w) (each_action IsItself keeps_itself x w home) other.1 (action_held x w home other.0 held))

  -- from another store
  turned_agrees : (q n : ℕ) (m : Option Private) (w : WorldState) (t : StoreState) → private_of q w ≡ m → AreThemselves w → q ≢ p → IsHeld a p w.store → AgreeBut a w.store t
      → WorldsAgreeBut a (with_turn q m n w) (with_turn q m n (with_store t w))
  turned_agrees q n None w t is home apart held agree = (refl, agree)
  turned_agrees q n (Some me) w t is home apart held agree =
      let same = turns_agree w.devices a p q apart n me w.store t (home q me is) held agree in
      let noted = noted_agree w.devices a p q apart q n me w.store t (home q me is) held agree in
      let x = turn_of w.devices n me w.store in
      let y = turn_of w.devices n me t in
      let W : Private → Turned → List Step → WorldState = λ z d steps.
      record w { privates = with_row q w.privates z; store = y.after; marks = marks_after steps w.marks; turns = tallied w.turns 1; steps = tallied w.steps d.steps } in (
        ap (λ z. W z x.turned (steps_in_turn w.devices q n me w.store)) same.own
            ∙ ap (λ d. W y.me d (steps_in_turn w.devices q n me w.store)) same.turned
            ∙ ap (λ steps. W y.me y.turned steps) noted,
        same.stores,
      )

  keyed_agrees : (t : ℕ) (f : TerminalState → TerminalState) (w : WorldState) (u : StoreState) → AgreeBut a w.store u
      → AgreeBut a (with_terminal (content w.store (object.Terminal t)) t f w.store) (with_terminal (content u (object.Terminal t)) t f u)
  keyed_agrees t f w u agree =
      subst (λ (c : Option TerminalState). AgreeBut a (with_terminal (content w.store (object.Terminal t)) t f w.store) (with_terminal c t f u)) (agree (object.Terminal t) (not_content a t))
      (terminal_agrees a (content w.store (object.Terminal t)) t f w.store u agree)

  action_agrees : (x : Action) (w : WorldState) (u : StoreState) → AreThemselves w → IsOfOthers p x → IsHeld a p w.store → AgreeBut a w.store u → WorldsAgreeBut a (does x w) (does x (with_store u w))
  action_agrees (Key t k) w u home other held agree = (
    ap (λ (c : Option TerminalState). record w { store = with_terminal (content u (object.Terminal t)) t (keyed k) u; dropped = tallied w.dropped (dropped_by (room_at c)) }) (agree (object.Terminal t) (not_content a t)),
    keyed_agrees t (keyed k) w u agree,
  )
  action_agrees (Front t q) w u home other held agree = (refl, keyed_agrees t (λ x. record x { front = q }) w u agree)
  action_agrees (Halt q) w u home other held agree = (refl, agree)
  action_agrees (Reset q) w u home other held agree = (refl, agree)
  action_agrees (Turn q n) w u home apart held agree = turned_agrees q n (private_of q w) w u refl home apart held agree

  all_agree : (others : List Action) (w v : WorldState) → AreThemselves w → AreOfOthers p others → IsHeld a p w.store → WorldsAgreeBut a w v → WorldsAgreeBut a (does_all others w) (does_all others v)
  all_agree [] w v home other held agree = agree
  all_agree (x ∷ xs) w v home other held agree =
      all_agree xs (does x w) (does x v) (each_action IsItself keeps_itself x w home) other.1 (action_held x w home other.0 held)
      (subst (λ (z : WorldState). WorldsAgreeBut a (does x w) (does x z)) agree.0 (action_agrees x w v.store home other.0 held agree.1))

  -- whoever acts
  turned_keeps_or_frees : (q n : ℕ) (m : Option Private) (w : WorldState) → private_of q w ≡ m → AreThemselves w → IsHeld a p w.store → IsHeld a p (with_turn q m n w).store ⊎ SomeOf (Frees a p) w.devices n m w.store
  turned_keeps_or_frees q n None w is home held = inl held
  turned_keeps_or_frees q n (Some me) w is home held = turn_keeps_or_frees w.devices a p q n me w.store (home q me is) held

  action_keeps_or_frees : (x : Action) (w : WorldState) → AreThemselves w → IsHeld a p w.store → IsHeld a p (does x w).store ⊎ SomeInAction (Frees a p) x w
  action_keeps_or_frees (Turn q n) w home held = turned_keeps_or_frees q n (private_of q w) w refl home held
  action_keeps_or_frees (Key t k) w home held = inl (action_held (Key t k) w home tt held)
  action_keeps_or_frees (Front t q) w home held = inl (action_held (Front t q) w home tt held)
  action_keeps_or_frees (Halt q) w home held = inl held
  action_keeps_or_frees (Reset q) w home held = inl held

  all_keep_or_free : (between : List Action) (w : WorldState) → AreThemselves w → IsHeld a p w.store → IsHeld a p (does_all between w).store ⊎ AtSomeStep (Frees a p) between w
  all_keep_or_free [] w home held = inl held
  all_keep_or_free (x ∷ xs) w home held = by (action_keeps_or_frees x w home held) (λ still. all_keep_or_free xs (does x w) (each_action IsItself keeps_itself x w home) still)
    where
      goes : IsHeld a p (does_all xs (does x w)).store ⊎ AtSomeStep (Frees a p) xs (does x w) → IsHeld a p (does_all xs (does x w)).store ⊎ AtSomeStep (Frees a p) (x ∷ xs) w
      goes (inl held) = inl held
      goes (inr some) = inr (inr some)

      by : IsHeld a p (does x w).store ⊎ SomeInAction (Frees a p) x w → (IsHeld a p (does x w).store → IsHeld a p (does_all xs (does x w)).store ⊎ AtSomeStep (Frees a p) xs (does x w))
          → IsHeld a p (does_all xs (does x w)).store ⊎ AtSomeStep (Frees a p) (x ∷ xs) w
      by (inl still) rest = goes (rest still)
      by (inr frees) rest = inr (inl frees)

-- ---- in a world that a boot leads to

reached_selves : (w : WorldState) → IsReached w → AreThemselves w
reached_selves w reached =
    let b = reached.0 in
    subst AreThemselves (sym reached.3) (each_ran IsItself keeps_itself reached.2 (booted b reached.1) (starts_itself b.partitions))

pub others_leave_held : OthersLeaveHeld
others_leave_held w p a others o reached held other of = all_stay a p others w (reached_selves w reached) other held o of

pub others_read_nothing : OthersReadNothing
others_read_nothing w v p a others reached held other agree = all_agree a p others w v (reached_selves w reached) other held agree

pub others_wait : OthersWait
others_wait w p a others reached held other = all_wait a p others w (reached_selves w reached) other held

pub held_until_freed : HeldUntilFreed
held_until_freed w p a between reached held = all_keep_or_free a p between w (reached_selves w reached) held
