-- In every world that a boot leads to a partition stands inside the text of another as often as its frames entered that, and never inside its
-- own; and a text stays as it is through a turn of its partition while somebody stands inside it.
use Rattle.std.specs.Prelude.{◌≡◌, ◌≢◌, ◌≤◌, ℕ, zero, suc, ◌==◌, ◌+◌, ◌-◌, Bool, true, false, cond, List, [], ◌∷◌, map, Option, Some, None, IsSome, is_some, unwrap_or, refl, if◌then◌else◌}
use Rattle.std.proofs.Common.{sym, ap, subst, ◌∙◌, inl, arith}
use Rattle.std.proofs.lemmas.Bool.Decides.{nat_tests}
use Rattle.std.proofs.lemmas.Bool.{true≢false}
use Rattle.std.specs.Cmp.{unsigned_Decides}
use Rattle.b2_term.specs.Terminal.{TerminalState, keyed}
use Rattle.b2_text.specs.Program.{TextState}
use Rattle.b2_text.specs.Spots.{first_opening, is_mark}
use Rattle.b2_text.specs.declared.spots.Spot.{Spot}
use Rattle.b2_access.specs.AccessRows.{enters, enters_at, mark_in, stands_inside}
use Rattle.b2_access.specs.Borrowers.{is_marked, times}
use Rattle.b2_access.specs.Contents.{content_other}
use Rattle.b2_access.specs.Entering.{entered_after, inside, or_nobody}
use Rattle.b2_access.specs.Loans.{lends}
use Rattle.b2_access.specs.Partition.{KeepsNone, starting_place}
use Rattle.b2_access.specs.Rows.{row_of, with_row}
use Rattle.b2_access.specs.Serving.{itself, performs}
use Rattle.b2_access.specs.Standing.{PlaceStands, Stands, entered_in}
use Rattle.b2_access.specs.Store.{StoreState, content, holder_of}
use Rattle.b2_access.specs.declared.accesses.Access.{Access}
use Rattle.b2_access.specs.declared.accesses.Access.TheVariants as access
use Rattle.b2_access.specs.declared.accesses.Answer.{Answer}
use Rattle.b2_access.specs.declared.accesses.Answer.TheVariants as answer
use Rattle.b2_access.specs.declared.devices.Device.{Device}
use Rattle.b2_access.specs.declared.objects.Object.TheVariants as object
use Rattle.b2_access.specs.declared.private.Private.{Private}
use Rattle.b2_access.proofs.Choice.{either}
use Rattle.b2_access.proofs.Entering.{accesses_enter_as_said}
use Rattle.b2_access.proofs.Locality.{serves_keeps_listed}
use Rattle.b2_audit.specs.Steps.{IsPartition}
use Rattle.b2_boot.specs.Boots.{BootState}
use Rattle.b2_boot.specs.Quotas.{quotas_of}
use Rattle.b2_boot.specs.declared.boot.BootPartition.{BootPartition}
use Rattle.b2_boot.specs.declared.log.Event.{Event}
use Rattle.b2_machine.proofs.KeptPlace.{step_keeps}
use Rattle.b2_machine.specs.Step.{no_text, text_in}
use Rattle.b2_machine.specs.Touched.{asking}
use Rattle.b2_machine.specs.Turn.{TurnEnd, counted_on, ended_turn, passed_one, passes_none, turn_from}
use Rattle.b2_machine.proofs.PassedTurns.{each_turn}
use Rattle.b2_store.specs.Changes.{with_terminal}
use Rattle.b2_store.specs.DiskWork.{disks, serves}
use Rattle.b2_store.specs.Start.{borrow_row}
use Rattle.b2_sched.proofs.EachRow.{EachIs, each_changed}
use Rattle.b2_sched.proofs.EnteredRules.{own_open}
use Rattle.b2_sched.proofs.EnteredSteps.{Goes, step_goes}
use Rattle.b2_sched.proofs.GroupRows.{is_it, row_comes}
use Rattle.b2_sched.proofs.InsideTexts.{somebody_first, text_left}
use Rattle.b2_sched.proofs.Lasting.{by_actions}
use Rattle.b2_sched.proofs.Numbers.{same_number}
use Rattle.b2_sched.proofs.OwnLines.{step_has}
use Rattle.b2_sched.proofs.OwnObjects.{by_end}
use Rattle.b2_sched.proofs.Settled.{starts_settled}
use Rattle.b2_sched.proofs.StepEnds.{left_where}
use Rattle.b2_sched.specs.Choice.{basic}
use Rattle.b2_sched.specs.Inside.{AreInsideAsEntered, EnterAsSaid, EntersNoOwn, HasOwnLine, PlaceOwn, PutsReady, TextsStayWhileInside, entered_where}
use Rattle.b2_sched.specs.Laws.{all_actions}
use Rattle.b2_sched.specs.Lawful.{basic_is_lawful}
use Rattle.b2_sched.specs.Start.{AreNumbered, Images, areas_of, booted, private_row, starting_line}
use Rattle.b2_sched.specs.Turns.{step_of, turn_of}
use Rattle.b2_sched.specs.World.{WorldState, Action, Key, Front, Halt, Reset, Turn, asked_to_halt, asked_to_reset, does, does_all, private_of, ran, with_turn}

-- ---- what an access leaves of those inside a text

left_count : (x : Option Access) (who g : ℕ) (s : StoreState) → 1 ≤ g → g ≤ 16 → IsSome (content s (object.Borrow g)) → times who (inside (left_where x who s) g) ≡ entered_where x who g (times who (inside s g)) s
left_count None who g s low high listed = refl
left_count (Some x) who g s low high listed = (accesses_enter_as_said disks who g x s low high listed).own

left_others : (x : Option Access) (who g q : ℕ) (s : StoreState) → 1 ≤ g → g ≤ 16 → IsSome (content s (object.Borrow g)) → q ≢ who → times q (inside (left_where x who s) g) ≡ times q (inside s g)
left_others None who g q s low high listed apart = refl
left_others (Some x) who g q s low high listed apart = (accesses_enter_as_said disks who g x s low high listed).others q apart

left_listed : (x : Option Access) (who g : ℕ) (s : StoreState) → IsSome (content s (object.Borrow g)) → IsSome (content (left_where x who s) (object.Borrow g))
left_listed None who g s listed = listed
left_listed (Some x) who g s listed = serves_keeps_listed disks who x s (object.Borrow g) listed

-- one that isn't inside the own text isn't so after it
no_mark : (mark : ℕ) (c : Option TextState) → first_opening (is_mark mark) (unwrap_or c no_text).lines ≡ None → mark_in mark c ≡ None
no_mark mark None none = refl
no_mark mark (Some t) none = none

module _ (who : ℕ) (s : StoreState) (name : List ℕ) (mark : ℕ) (none : first_opening (is_mark mark) (text_in s who).lines ≡ None) where
  abbrev enters_to : Option ℕ → ℕ
  enters_to holder = entered_after (access.Enter name mark) (performs (enters who name mark holder) s).answer who 0

  stood_by : (h : ℕ) (spot : Spot) (c : Option (List ℕ)) → (who == h) ≡ false → entered_after (access.Enter name mark) (performs (stands_inside who name h spot c) s).answer who 0 ≡ 0
  stood_by h spot None apart = ap (λ (b : Bool). if b then 0 + 1 else 0) apart
  stood_by h spot (Some parts) apart = ap (λ (b : Bool). if b then 0 + 1 else 0) apart

  spotted : (h : ℕ) (o : Option Spot) → mark_in mark (content s (object.Text h)) ≡ o → entered_after (access.Enter name mark) (performs (enters_at who name h o) s).answer who 0 ≡ 0
  spotted h None is = refl
  spotted h (Some spot) is = stood_by h spot (content s (object.Borrow h)) (by (who == h) refl)
    where
      clash : Some spot ≡ None → ⊥
      clash e = cc

      by : (b : Bool) → (who == h) ≡ b → b ≡ false
      by false e = refl
      by true e =
          absurd (clash (sym is ∙ ap (λ (k : ℕ). mark_in mark (content s (object.Text k))) (sym ((unsigned_Decides who h).0 e)) ∙ no_mark mark (content s (object.Text who)) none))

  enters_zero : (holder : Option ℕ) → enters_to holder ≡ 0
  enters_zero None = refl
  enters_zero (Some h) = spotted h (mark_in mark (content s (object.Text h))) refl

marked_zero : (b : Bool) → ◌≡◌ {A = ℕ} (if b then 0 else 0) 0
marked_zero b = either (λ (k : ℕ). k ≡ 0) b 0 0 refl refl

zero_after : (x : Access) (a : Answer) (who : ℕ) (s : StoreState) → EntersNoOwn (Some x) (text_in s who).lines → a ≡ (serves s who x).answer → entered_after x a who 0 ≡ 0
zero_after (access.Enter name mark) a who s none is = ap (λ (y : Answer). entered_after (access.Enter name mark) y who 0) is ∙ enters_zero who s name mark none (holder_of s name)
zero_after (access.Leave home) answer.Done who s none is = either (λ (k : ℕ). k ≡ 0) (who == home) (0 - 1) 0 refl refl
zero_after (access.Drop homes) answer.Done who s none is = marked_zero (is_marked who homes)
zero_after (access.PutLine line atoms homes) answer.Done who s none is = marked_zero (is_marked who homes)
zero_after (access.Erase from to homes) answer.Done who s none is = marked_zero (is_marked who homes)
zero_after (access.ClearAll name homes) answer.Done who s none is = marked_zero (is_marked who homes)
zero_after (access.LoadProgram addr name replace declared homes) answer.Done who s none is = marked_zero (is_marked who homes)
zero_after x a who s none is = refl

zero_where : (x : Option Access) (who : ℕ) (s : StoreState) → EntersNoOwn x (text_in s who).lines → entered_where x who who 0 s ≡ 0
zero_where None who s none = refl
zero_where (Some x) who s none = zero_after x (serves s who x).answer who s none refl

-- ---- a partition that is as often inside as it entered, of the texts that there are

module _ (there : ℕ → Bool) where
  -- those who stand inside these texts are listed
  abbrev Knows : StoreState → Type 0
  Knows s = (g : ℕ) → there g ≡ true → IsPartition g × IsSome (content s (object.Borrow g))

  record IsGood (s : StoreState) (p : ℕ) (me : Private) : Type 0 where
    pub here : there p ≡ true
    pub none : KeepsNone me
    pub ready : PutsReady me
    pub line : HasOwnLine p me
    pub stands : Stands me
    pub own : times p (inside s p) ≡ 0
    pub entered : (g : ℕ) → there g ≡ true → times p (inside s g) ≡ entered_in g me.stack

  good_on : (s t : StoreState) (p : ℕ) (me : Private) → there p ≡ true → ((g : ℕ) → there g ≡ true → times p (inside t g) ≡ times p (inside s g)) → IsGood s p me → IsGood t p me
  good_on s t p me here same good = record {
    here = good.here;
    none = good.none;
    ready = good.ready;
    line = good.line;
    stands = good.stands;
    own = same p here ∙ good.own;
    entered = λ g is. same g is ∙ good.entered g is;
  }

  -- whichever turns it is to pass
  pass_good : (s : StoreState) (p : ℕ) (me : Private) (k : ℕ) → IsGood s p me → IsGood s p (record me { pass = k })
  pass_good s p me k h = record {
    here = h.here;
    none = h.none;
    ready = h.ready;
    line = record { part = h.line.part; place = h.line.place; kept = h.line.kept; frames = h.line.frames };
    stands = record { place = h.stands.place; kept = h.stands.kept; frames = h.stands.frames };
    own = h.own;
    entered = h.entered;
  }

  -- what a step, or a turn, of a partition leaves
  record Leaves (s t : StoreState) (q : ℕ) (after : Private) : Type 0 where
    pub good : IsGood t q after
    pub knows : Knows t
    pub others : (p : ℕ) → p ≢ q → (g : ℕ) → there g ≡ true → times p (inside t g) ≡ times p (inside s g)
    pub text : (p : ℕ) → p ≢ q → 1 ≤ times p (inside s q) → content t (object.Text q) ≡ content s (object.Text q)

  module _ (devices : List Device) (enter : EnterAsSaid (basic devices)) where
    abbrev turn_on : ℕ → Private → StoreState → ℕ → TurnEnd StoreState
    turn_on n me s steps = turn_from (basic devices) itself serves lends n me s steps

    step_leaves : (me : Private) (s : StoreState) → Knows s → IsGood s me.part me → Leaves s (step_of devices me s).after me.part (step_of devices me s).me
    step_leaves me s knows good = record {
      good = record {
        here = good.here;
        none = step_keeps (basic devices) (basic_is_lawful devices) itself serves lends me s good.none;
        ready = goes.ready;
        line = step_has me.part (basic devices) enter me s good.line;
        stands = goes.stands;
        own = count me.part good.here ∙ ap (λ (k : ℕ). entered_where x me.part me.part k s) good.own ∙ zero_where x me.part s goes.others;
        entered = λ g is. count g is ∙ ap (λ (k : ℕ). entered_where x me.part g k s) (good.entered g is) ∙ sym (goes.frames g (knows g is).0.0 (knows g is).0.1);
      };
      knows = λ g is. ((knows g is).0, subst (λ (c : Option (List ℕ)). IsSome c) (sym (goes.left (object.Borrow g) refl)) (left_listed x me.part g s (knows g is).1));
      others = λ p apart g is. same p g ∙ left_others x me.part g p s (knows g is).0.0 (knows g is).0.1 (knows g is).1 apart;
      text = λ p apart some.
          let first = somebody_first (content s (object.Borrow me.part)) p some in goes.left (object.Text me.part) refl ∙ text_left x me.part first.0 s first.1;
    }
      where
        x : Option Access
        x = asking (basic devices) me s

        goes : Goes me s x (step_of devices me s)
        goes = step_goes (basic devices) (basic_is_lawful devices) enter me s good.ready good.none good.line good.stands

        same : (p g : ℕ) → times p (inside (step_of devices me s).after g) ≡ times p (inside (left_where x me.part s) g)
        same p g = ap (λ (c : Option (List ℕ)). times p (or_nobody c)) (goes.left (object.Borrow g) refl)

        count : (g : ℕ) → there g ≡ true → times me.part (inside (step_of devices me s).after g) ≡ entered_where x me.part g (times me.part (inside s g)) s
        count g is = same me.part g ∙ left_count x me.part g s (knows g is).0.0 (knows g is).0.1 (knows g is).1

    step_leaves_of : (q : ℕ) (me : Private) (s : StoreState) → Knows s → IsGood s q me → Leaves s (step_of devices me s).after q (step_of devices me s).me
    step_leaves_of q me s knows good =
        subst (λ (k : ℕ). Leaves s (step_of devices me s).after k (step_of devices me s).me) good.line.part (step_leaves me s knows (subst (λ (k : ℕ). IsGood s k me) (sym good.line.part) good))

    both_leave : (s t u : StoreState) (q : ℕ) (me after : Private) → Leaves s t q me → Leaves t u q after → Leaves s u q after
    both_leave s t u q me after h k = record {
      good = k.good;
      knows = k.knows;
      others = λ p apart g is. k.others p apart g is ∙ h.others p apart g is;
      text = λ p apart some. k.text p apart (subst (λ (n : ℕ). 1 ≤ n) (sym (h.others p apart q h.good.here)) some) ∙ h.text p apart some;
    }

    leaves_on : (q n : ℕ) (me : Private) (s : StoreState) (steps : ℕ) → Knows s → IsGood s q me → Leaves s (turn_on n me s steps).after q (turn_on n me s steps).me
    unfolding turn_from
    leaves_on q zero me s steps knows good = record { good = good; knows = knows; others = λ p apart g is. refl; text = λ p apart some. refl }
    leaves_on q (suc n) me s steps knows good =
        let x = step_of devices me s in
        let here = step_leaves_of q me s knows good in
        by_end (λ (t : TurnEnd StoreState). Leaves s t.after q t.me) x.end.why (λ w. ended_turn (counted_on steps x.end) w x.me x.after) (turn_on n x.me x.after (counted_on steps x.end)) (λ w. here)
        (both_leave s x.after _ q x.me _ here (leaves_on q n x.me x.after (counted_on steps x.end) here.knows here.good))

    turn_leaves : (q n : ℕ) (me : Private) (s : StoreState) → Knows s → IsGood s q me → Leaves s (turn_of devices n me s).after q (turn_of devices n me s).me
    turn_leaves q n me s knows good =
        each_turn (basic devices) itself serves lends (λ (t : TurnEnd StoreState). Leaves s t.after q t.me) n me s
        (record { good = pass_good s q me (me.pass - 1) good; knows = knows; others = λ p apart g is. refl; text = λ p apart some. refl }) (leaves_on q n (passes_none me) s 0 knows (pass_good s q me 0 good))

  -- ---- what happens at once

  record AreGood (w : WorldState) : Type 0 where
    pub knows : Knows w.store
    pub each : EachIs (IsGood w.store) w.privates

  -- a terminal changes, and those inside stay
  abbrev at_terminal : ℕ → (TerminalState → TerminalState) → StoreState → StoreState
  at_terminal t f s = with_terminal (content s (object.Terminal t)) t f s

  inside_stay : (t : ℕ) (f : TerminalState → TerminalState) (s : StoreState) (g : ℕ) → content (at_terminal t f s) (object.Borrow g) ≡ content s (object.Borrow g)
  inside_stay t f s g = by (content s (object.Terminal t))
    where
      other : object.Borrow g ≡ object.Terminal t → ⊥
      other e = cc

      by : (c : Option TerminalState) → content (with_terminal c t f s) (object.Borrow g) ≡ content s (object.Borrow g)
      by None = refl
      by (Some x) = content_other (object.Terminal t) (object.Borrow g) (f x) s other

  good_there : (t : ℕ) (f : TerminalState → TerminalState) (w : WorldState) (dropped : ℕ) → AreGood w → AreGood (record w { store = at_terminal t f w.store; dropped = dropped })
  good_there t f w dropped good = record {
    knows = λ g is. ((good.knows g is).0, subst (λ (c : Option (List ℕ)). IsSome c) (sym (inside_stay t f w.store g)) (good.knows g is).1);
    each = λ p me is. good_on w.store (at_terminal t f w.store) p me (good.each p me is).here (λ g is. ap (λ (c : Option (List ℕ)). times p (or_nobody c)) (inside_stay t f w.store g)) (good.each p me is);
  }

  halted_good : (s : StoreState) (p : ℕ) (me : Private) → IsGood s p me → IsGood s p (asked_to_halt me)
  halted_good s p me h = record {
    here = h.here;
    none = h.none;
    ready = h.ready;
    line = record { part = h.line.part; place = h.line.place; kept = h.line.kept; frames = h.line.frames };
    stands = record { place = h.stands.place; kept = h.stands.kept; frames = h.stands.frames };
    own = h.own;
    entered = h.entered;
  }

  reset_good : (s : StoreState) (p : ℕ) (me : Private) → IsGood s p me → IsGood s p (asked_to_reset me)
  reset_good s p me h = record {
    here = h.here;
    none = h.none;
    ready = h.ready;
    line = record { part = h.line.part; place = h.line.place; kept = h.line.kept; frames = h.line.frames };
    stands = record { place = h.stands.place; kept = h.stands.kept; frames = h.stands.frames };
    own = h.own;
    entered = h.entered;
  }

  module _ (enter : (devices : List Device) → EnterAsSaid (basic devices)) where
    turned_good : (q n : ℕ) (m : Option Private) (w : WorldState) → private_of q w ≡ m → AreGood w → AreGood (with_turn q m n w)
    turned_good q n None w is good = good
    turned_good q n (Some me) w is good = record { knows = left.knows; each = each }
      where
        left : Leaves w.store (turn_of w.devices n me w.store).after q (turn_of w.devices n me w.store).me
        left = turn_leaves w.devices (enter w.devices) q n me w.store good.knows (good.each q me is)

        each : EachIs (IsGood (turn_of w.devices n me w.store).after) (with_row q w.privates (turn_of w.devices n me w.store).me)
        each p you there_now =
            row_comes (λ (z : Private). IsGood (turn_of w.devices n me w.store).after p z) p q (turn_of w.devices n me w.store).me w.privates
            (λ e. subst (λ (k : ℕ). IsGood (turn_of w.devices n me w.store).after k (turn_of w.devices n me w.store).me) (sym e) left.good)
            (λ apart z stood. good_on w.store (turn_of w.devices n me w.store).after p z (good.each p z stood).here (left.others p apart) (good.each p z stood)) you there_now

    action_good : (x : Action) (w : WorldState) → AreGood w → AreGood (does x w)
    action_good (Key t k) w good = good_there t (keyed k) w _ good
    action_good (Front t q) w good = good_there t (λ x. record x { front = q }) w w.dropped good
    action_good (Halt q) w good = record { knows = good.knows; each = each_changed (IsGood w.store) asked_to_halt (halted_good w.store) q (private_of q w) w.privates refl good.each }
    action_good (Reset q) w good = record { knows = good.knows; each = each_changed (IsGood w.store) asked_to_reset (reset_good w.store) q (private_of q w) w.privates refl good.each }
    action_good (Turn q n) w good = turned_good q n (private_of q w) w refl good

    all_good : (acts : List Action) (w : WorldState) → AreGood w → AreGood (does_all acts w)
    all_good [] w good = good
    all_good (x ∷ xs) w good = all_good xs (does x w) (action_good x w good)

    -- the text, through a turn
    turned_text : (q n : ℕ) (m : Option Private) (w : WorldState) → private_of q w ≡ m → AreGood w → inside w.store q ≢ [] → content (with_turn q m n w).store (object.Text q) ≡ content w.store (object.Text q)
    turned_text q n None w is good some = refl
    turned_text q n (Some me) w is good some = by (inside w.store q) refl (good.each q me is).own some
      where
        left : Leaves w.store (turn_of w.devices n me w.store).after q (turn_of w.devices n me w.store).me
        left = turn_leaves w.devices (enter w.devices) q n me w.store good.knows (good.each q me is)

        same_as_it : (k : ℕ) → (k == k) ≡ true
        same_as_it k = grind (arith, nat_tests)

        one_more : (k : ℕ) → 1 ≤ k + 1
        one_more k = grind (arith)

        never_none : (k : ℕ) → k + 1 ≡ 0 → ⊥
        never_none k e = grind (arith)

        other : (y : ℕ) (ys : List ℕ) → times q (y ∷ ys) ≡ 0 → y ≢ q
        other y ys none e = never_none (times q ys) (sym (ap (λ (b : Bool). if b then times q ys + 1 else times q ys) (ap (λ (k : ℕ). k == q) e ∙ same_as_it q)) ∙ none)

        once : (y : ℕ) (ys : List ℕ) → 1 ≤ times y (y ∷ ys)
        once y ys = subst (λ (b : Bool). 1 ≤ (if b then times y ys + 1 else times y ys)) (sym (same_as_it y)) (one_more (times y ys))

        by : (l : List ℕ) → inside w.store q ≡ l → times q (inside w.store q) ≡ 0 → inside w.store q ≢ [] → content (turn_of w.devices n me w.store).after (object.Text q) ≡ content w.store (object.Text q)
        by [] e none never = absurd (never e)
        by (y ∷ ys) e none never = left.text y (other y ys (sym (ap (times q) e) ∙ none)) (subst (λ (l : List ℕ). 1 ≤ times y l) (sym e) (once y ys))

-- ---- in the world of a boot nobody stands inside any text

there_by : List BootPartition → ℕ → Bool
there_by ps g = is_some (row_of g (map private_row ps))

nobody_by : (b : Bool) (o : Option (List ℕ)) (p : ℕ) → times p (or_nobody o) ≡ 0 → times p (or_nobody (cond b (Some []) o)) ≡ 0
nobody_by true o p h = refl
nobody_by false o p h = h

nobody_inside : (ps : List BootPartition) (p g : ℕ) → times p (or_nobody (row_of g (map borrow_row (map areas_of ps)))) ≡ 0
nobody_inside [] p g = refl
nobody_inside (x ∷ xs) p g = nobody_by (x.number == g) (row_of g (map borrow_row (map areas_of xs))) p (nobody_inside xs p g)

listed_by : (b : Bool) (x : Private) (o : Option Private) (c : Option (List ℕ)) → (is_some o ≡ true → IsSome c) → is_some (cond b (Some x) o) ≡ true → IsSome (cond b (Some []) c)
listed_by true x o c later is = refl
listed_by false x o c later is = later is

all_listed : (ps : List BootPartition) (g : ℕ) → there_by ps g ≡ true → IsSome (row_of g (map borrow_row (map areas_of ps)))
unfolding there_by
all_listed [] g is = let clash : false ≡ true = is in absurd (true≢false (sym clash))
all_listed (x ∷ xs) g is = listed_by (x.number == g) (private_row x).1 (row_of g (map private_row xs)) (row_of g (map borrow_row (map areas_of xs))) (λ h. all_listed xs g h) is

numbered_there : (ps : List BootPartition) → AreNumbered ps → (g : ℕ) → there_by ps g ≡ true → IsPartition g
unfolding there_by
numbered_there ps are g is = by (row_of g (map private_row ps)) refl is
  where
    by : (o : Option Private) → row_of g (map private_row ps) ≡ o → is_some o ≡ true → IsPartition g
    by None e i = absurd (true≢false (sym i))
    by (Some me) e i = (starts_settled ps are g me e).number

-- a partition as it starts
record Starts (p : ℕ) (me : Private) : Type 0 where
  pub none : KeepsNone me
  pub ready : PutsReady me
  pub line : HasOwnLine p me
  pub stands : Stands me
  pub empty : me.stack ≡ []

starts_at : (p : ℕ) (line : Option (List ℕ)) → PlaceOwn p (starting_place p line) × PlaceStands p [] (starting_place p line)
starts_at p None = (tt, tt)
starts_at p (Some line) = (same_as_it p, own_open p [])
  where
    same_as_it : (k : ℕ) → (k == k) ≡ true
    same_as_it k = grind (arith, nat_tests)

one_starts : (x : BootPartition) → Starts x.number (private_row x).1
one_starts x =
    let line = starts_at x.number (starting_line x.program) in
    record {
      none = λ r. refl;
      ready = inl refl;
      line = record { part = refl; place = line.0; kept = tt; frames = tt };
      stands = record { place = line.1; kept = tt; frames = tt };
      empty = refl;
    }

all_start : (ps : List BootPartition) → EachIs Starts (map private_row ps)
all_start [] p me is = let clash : false ≡ true = ap (λ (o : Option Private). is_some o) is in absurd (true≢false (sym clash))
all_start (x ∷ xs) p me is = by (x.number == p) refl (all_start xs p me) is
  where
    by : (b : Bool) → (x.number == p) ≡ b → (row_of p (map private_row xs) ≡ Some me → Starts p me) → cond b (Some (private_row x).1) (row_of p (map private_row xs)) ≡ Some me → Starts p me
    by true e later found = subst (λ (k : ℕ). Starts k me) (same_number x.number p e) (subst (Starts x.number) (is_it (private_row x).1 me found) (one_starts x))
    by false e later found = later found

booted_good : (b : BootState) (images : Images) → AreNumbered b.partitions → AreGood (there_by b.partitions) (booted b images)
unfolding there_by
booted_good b images are = record {
  knows = λ g is. (numbered_there b.partitions are g is, all_listed b.partitions g is);
  each = λ p me is.
      let start = all_start b.partitions p me is in
      record {
        here = ap (λ (o : Option Private). is_some o) is;
        none = start.none;
        ready = start.ready;
        line = start.line;
        stands = start.stands;
        own = nobody_inside b.partitions p p;
        entered = λ g there. nobody_inside b.partitions p g ∙ sym (ap (entered_in g) start.empty);
      };
}

-- ---- so in every world that a boot leads to

module _ (enter : (devices : List Device) → EnterAsSaid (basic devices)) where
  ran_good : (b : BootState) (images : Images) (log : List Event) → AreNumbered b.partitions → AreGood (there_by b.partitions) (ran log (booted b images))
  ran_good b images log are =
      subst (AreGood (there_by b.partitions)) (sym (by_actions log (booted b images))) (all_good (there_by b.partitions) enter (all_actions (quotas_of b) log) (booted b images) (booted_good b images are))

  pub are_inside_as_entered : AreInsideAsEntered
  are_inside_as_entered b images log p me are is =
      let good = ran_good b images log are in
      let it = good.each p me is in
      record { entered = λ g you there. it.entered g (good.each g you there).here; own = it.own; stands = it.stands }

  pub texts_stay_while_inside : TextsStayWhileInside
  texts_stay_while_inside b images log q n are some =
      let w = ran log (booted b images) in
      turned_text (there_by b.partitions) enter q n (private_of q w) w refl (ran_good b images log are) some
