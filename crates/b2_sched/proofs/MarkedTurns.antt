-- A turn over a watched store: that over the plain one, with the marks of its steps. A statement marks what its loans touch, and the `@`
-- variables of each in which a receiver was reached; a step by any other rule touches its own text all the same, which marks nothing, since
-- nobody else writes it.
use Rattle.std.specs.Prelude.{◌≡◌, ℕ, zero, suc, Bool, true, false, List, [], ◌∷◌, ◌++◌, length, Option, Some, None, refl, if◌then◌else◌}
use Rattle.std.proofs.Common.{sym, ap, subst, ◌∙◌}
use Rattle.b2_vars.specs.Globals.{Globals}
use Rattle.b2_access.specs.Loans.{lends, loan_touched, reached_objects}
use Rattle.b2_access.specs.Serving.{itself}
use Rattle.b2_access.specs.Sharing.{writes}
use Rattle.b2_store.specs.DiskWork.{serves}
use Rattle.b2_access.specs.Store.{StoreState}
use Rattle.b2_access.specs.Task.{in_left, in_right}
use Rattle.b2_access.specs.Touching.{touched}
use Rattle.b2_access.specs.declared.devices.Device.{Device}
use Rattle.b2_access.specs.declared.accesses.Access.{Access}
use Rattle.b2_access.specs.declared.accesses.Access.TheVariants as access
use Rattle.b2_access.specs.declared.accesses.Answer.{Answer}
use Rattle.b2_access.specs.declared.accesses.Answer.TheVariants as answer
use Rattle.b2_access.specs.declared.lending.At.{At}
use Rattle.b2_access.specs.declared.lending.At.TheVariants as at
use Rattle.b2_access.specs.declared.objects.Object.{Object}
use Rattle.b2_access.specs.declared.objects.Object.TheVariants as object
use Rattle.b2_access.specs.declared.private.Private.{Private}
use Rattle.b2_audit.proofs.InParts.{touched_in_turn, written_in_turn}
use Rattle.b2_audit.proofs.OwnWrites.{marked_in_parts}
use Rattle.b2_audit.specs.Marks.{Marks, marked, touch, touch_all, write_all}
use Rattle.b2_audit.specs.PartSets.{without_part}
use Rattle.b2_audit.specs.Steps.{AreMarked, AreSteps, IsPartition, marks_after}
use Rattle.b2_audit.specs.Watching.{watched_loan, watching}
use Rattle.b2_flow.specs.declared.frame.Place.{Place}
use Rattle.b2_language.specs.Languages.{Ways}
use Rattle.b2_machine.specs.Endings.{Ending}
use Rattle.b2_machine.specs.Readiness.{gives_back, halted, resets, without_halt}
use Rattle.b2_machine.specs.Statements.{begins, finish_by, finishes, leaves}
use Rattle.b2_machine.specs.Step.{StepEnd, carries_out, executes, goes_through, lent_to_begin, line_read, reads_line, seen_by, step, steps_by, texts_lent, whose_by}
use Rattle.b2_machine.specs.Touched.{Told, begin_touched, step_touched, step_written, tells, tells_carrying, told, told_by, written_where}
use Rattle.b2_machine.specs.Turn.{TurnEnd, counted_on, ended_turn, passed_one, passes_none, passes_turn, turn_from, unless_ended}
use Rattle.b2_machine.specs.Typing.{inserts_literal, put_by, puts_numbered, shown_by, shows_output, typed_by_key}
use Rattle.b2_machine.specs.declared.ends.Why.{Why}
use Rattle.b2_machine.specs.declared.statements.Progress.{Progress}
use Rattle.b2_machine.specs.declared.statements.Progress.TheVariants as progress
use Rattle.b2_machine.specs.declared.ends.Why.TheVariants as reason
use Rattle.b2_sched.specs.Choice.{basic}
use Rattle.b2_sched.proofs.OwnObjects.{step_part}
use Rattle.b2_sched.proofs.OwnTexts.{still_own, whole_on}
use Rattle.b2_sched.specs.Marking.{IsOwnText, TurnsMarkTheirSteps, Watched, store_in}
use Rattle.b2_sched.specs.Turns.{step_of, steps_from}
use Rattle.b2_machine.specs.Due.{due}
use Rattle.b2_machine.specs.declared.rules.Rule.{Rule}
use Rattle.b2_machine.specs.declared.rules.Rule.TheVariants as rule

touch_idle : (p : ℕ) (m : Marks) → IsOwnText p m → touch p (object.Text p) m ≡ m
touch_idle p m own = ap (λ (b : Bool). if b then record m { clean = without_part m.clean p } else m) own

twice_idle : (p : ℕ) (m : Marks) → IsOwnText p m → touch p (object.Text p) (touch p (object.Text p) m) ≡ m
twice_idle p m own = ap (touch p (object.Text p)) (touch_idle p m own) ∙ touch_idle p m own

abbrev with_marks : StepEnd StoreState → Marks → StepEnd Watched
with_marks x m = record { me = x.me; after = (x.after, m); end = x.end }

abbrev ended_with : Ending → Watched → StepEnd Watched
ended_with e m = record { me = e.me; after = m; end = e.end }

-- the marks of a step by what it tells
abbrev step_marks : ℕ → Told → Marks → Marks
step_marks p t m = marked p t.touched t.written m

-- a step over the watched store is that over the plain one, with these marks
abbrev IsMarkedBy : ℕ → (StoreState → Told) → (StoreState → StepEnd StoreState) → (Watched → StepEnd Watched) → Type 0
IsMarkedBy p says f watched =
    (s : StoreState) (m : Marks) → IsPartition p → AreMarked (says s).touched → AreMarked (says s).written → IsOwnText p m → IsOwnText p (step_marks p (says s) m)
    → watched (s, m) ≡ with_marks (f s) (step_marks p (says s) m)

-- the own text may be left out
shorter : (p : ℕ) (ts ws : List Object) (m : Marks) → IsOwnText p m → marked p (object.Text p ∷ ts) ws m ≡ marked p ts ws m
shorter p ts ws m own = ap (λ (k : Marks). write_all p ws (touch_all p ts k)) (touch_idle p m own)

by_itself : (me : Private) (e : Ending) → IsMarkedBy me.part (λ s. tells itself serves lends me.part None s) (λ s. record { me = e.me; after = s; end = e.end }) (λ m. record { me = e.me; after = m; end = e.end })
by_itself me e s m is ts ws own after = ap (λ (k : Marks). with_marks (record { me = e.me; after = s; end = e.end }) k) (sym (touch_idle me.part m own))

by_answer : (me : Private) (a : Access) (ends : Answer → Ending)
    → IsMarkedBy me.part (λ s. tells itself serves lends me.part (Some a) s)
    (λ s. record { me = (ends (serves s me.part a).answer).me; after = (serves s me.part a).after; end = (ends (serves s me.part a).answer).end })
    (λ m. record { me = (ends (watching itself serves m me.part a).answer).me; after = (watching itself serves m me.part a).after; end = (ends (watching itself serves m me.part a).answer).end })
by_answer me a ends s m is ts ws own after =
    let g = serves s me.part a in
    ap (λ (k : Marks). with_marks (record { me = (ends g.answer).me; after = g.after; end = (ends g.answer).end }) k) (sym (shorter me.part (touched s me.part a) (written_where itself serves lends (Some a) me.part s) m own))

read_marked : (x : Answer) (me : Private) (s : StoreState) (m : Marks) → IsOwnText me.part m
    → line_read store_in (watching itself serves) (watched_loan itself lends) x me (s, m) ≡ with_marks (line_read itself serves lends x me s) m
read_marked (answer.Line bytes) me s m own = refl
read_marked (answer.Special n) me s m own = ap (λ (k : Marks). with_marks (line_read itself serves lends (answer.Special n) me s) k) (twice_idle me.part m own)
read_marked x me s m own = refl

by_line : (me : Private) → IsMarkedBy me.part (λ s. tells itself serves lends me.part (Some (access.ReadLine me.term)) s) (λ s. reads_line itself serves lends me s) (λ m. reads_line store_in (watching itself serves) (watched_loan itself lends) me m)
by_line me s m is ts ws own after =
    let a = access.ReadLine me.term in
    let g = serves s me.part a in
    let os = touched s me.part a in
    let wrote = written_where itself serves lends (Some a) me.part s in
    let fewer = shorter me.part os wrote m own in
    read_marked g.answer me g.after (marked me.part os wrote m) (subst (IsOwnText me.part) fewer after)
    ∙ ap (λ (k : Marks). with_marks (line_read itself serves lends g.answer me g.after) k) (sym fewer)

-- ---- a statement

-- the `@` variables that are wanted are lent after the texts
wanted_marked : (who home : ℕ) (whose : At) (left : Globals) (s : StoreState) (m : Marks)
    → ◌≡◌ {A = Watched} (watched_loan itself lends who home whose (texts_lent store_in (watching itself serves) (watched_loan itself lends) who home (s, m)) left)
    (lends who home whose s left, write_all who (reached_objects left.reached home whose s) (touch_all who (loan_touched who home at.None s ++ loan_touched who home whose s) m))
wanted_marked who home whose left s m =
    ap (λ (k : Marks). (lends who home whose s left, write_all who (reached_objects left.reached home whose s) k)) (sym (touched_in_turn who (loan_touched who home at.None s) (loan_touched who home whose s) m))

-- what is lent where it begins
begun_marked : (who home : ℕ) (whose : At) (left : Globals) (s : StoreState) (m : Marks)
    → ◌≡◌ {A = Watched} (lent_to_begin store_in (watching itself serves) (watched_loan itself lends) who home whose (s, m) left)
    (lent_to_begin itself serves lends who home whose s left, marked who (begin_touched who home whose s) (reached_objects left.reached home whose s) m)
begun_marked who home at.None left s m = by left.reached
  where
    by : (b : Bool)
        → ◌≡◌ {A = Watched} (lent_to_begin store_in (watching itself serves) (watched_loan itself lends) who home at.None (s, m) left) (s, marked who (begin_touched who home at.None s) (reached_objects b home at.None s) m)
    by true = refl
    by false = refl
begun_marked who home at.Home left s m = wanted_marked who home at.Home left s m
begun_marked who home (at.Named n) left s m = wanted_marked who home (at.Named n) left s m

-- marks in two parts are those of both
two_parts : (who : ℕ) (ts us ws vs : List Object) (m : Marks) → IsPartition who → AreMarked us → AreMarked ws → marked who us vs (marked who ts ws m) ≡ marked who (ts ++ us) (ws ++ vs) m
two_parts who ts us ws vs m is are_us are_ws =
    ap (write_all who vs) (marked_in_parts who [] ts us ws m is are_us are_ws) ∙ sym (written_in_turn who ws vs (touch_all who (ts ++ us) m))

module _ (ways : Ways) where
  -- one that began
  carried : (who : ℕ) (c : Progress) (p : Place) (whose : At) (me : Private) (s : StoreState) (m : Marks) → IsPartition who → AreMarked (tells_carrying ways itself serves lends who c p whose me s).touched
      → AreMarked (tells_carrying ways itself serves lends who c p whose me s).written
      → carries_out ways store_in (watching itself serves) (watched_loan itself lends) who c p whose me (s, m)
      ≡ with_marks (carries_out ways itself serves lends who c p whose me s) (step_marks who (tells_carrying ways itself serves lends who c p whose me s) m)
  carried who (progress.Ended e) p whose me s m is ts ws = refl
  carried who (progress.Asks a b w) p whose me s m is ts ws =
      let g = serves s who a in
      let os = touched s who a in
      let wrote = writes itself serves s who a in
      let seen = seen_by who p.home whose g.after in
      let left = (finish_by ways b a g.answer me seen).globals in
      let later = loan_touched who p.home whose g.after in
      let reached = reached_objects left.reached p.home whose g.after in
      let end = finishes ways b a g.answer w p me seen in
      ap (λ (k : Marks). ended_with end (lends who p.home whose g.after left, k)) (two_parts who os later wrote reached m is (λ o i. ts o (in_right o os later i)) (λ o i. ws o (in_left o wrote reached i)))

  by_statement : (p : Place) (me : Private) → IsMarkedBy me.part (λ s. told_by ways itself serves lends (rule.Execute p) me s) (λ s. executes ways itself serves lends p me s) (λ m. executes ways store_in (watching itself serves) (watched_loan itself lends) p me m)
  by_statement p me s m is ts ws own after =
      let whose = whose_by p me s in
      let seen = seen_by me.part p.home whose s in
      let left = leaves ways p me seen in
      let b = begins ways p me seen in
      let u = lent_to_begin itself serves lends me.part p.home whose s left in
      let front = begin_touched me.part p.home whose s in
      let rest = tells_carrying ways itself serves lends me.part b.progress p whose b.me u in
      let reached = reached_objects left.reached p.home whose s in
      ap (λ (z : Watched). goes_through ways store_in (watching itself serves) (watched_loan itself lends) me.part b p whose z) (begun_marked me.part p.home whose left s m)
      ∙ carried me.part b.progress p whose b.me u (marked me.part front reached m) is (λ o i. ts o (in_right o front rest.touched i)) (λ o i. ws o (in_right o reached rest.written i))
      ∙ ap (λ (k : Marks). with_marks (carries_out ways itself serves lends me.part b.progress p whose b.me u) k)
      (two_parts me.part front rest.touched reached rest.written m is (λ o i. ts o (in_right o front rest.touched i)) (λ o i. ws o (in_left o reached rest.written i)))

module _ (devices : List Device) where
  by_rule : (r : Rule) (me : Private) → IsMarkedBy me.part (λ s. told_by (basic devices) itself serves lends r me s) (λ s. steps_by (basic devices) itself serves lends r me s)
      (λ m. steps_by (basic devices) store_in (watching itself serves) (watched_loan itself lends) r me m)
  by_rule rule.Reset me = by_answer me (gives_back me) (λ _. resets me)
  by_rule rule.Halt me = by_itself me (halted me)
  by_rule rule.Show me = let a = shows_output me in by_answer me a (λ x. shown_by a x me)
  by_rule rule.Insert me = by_answer me (inserts_literal me) (λ a. typed_by_key a me)
  by_rule rule.Read me = by_line me
  by_rule rule.Put me = by_answer me (puts_numbered me) (λ a. put_by a me)
  by_rule (rule.Execute p) me = by_statement (basic devices) p me

  step_is_marked : (me : Private) → IsMarkedBy me.part (λ s. told (basic devices) itself serves lends me s) (λ s. step (basic devices) itself serves lends me s)
      (λ m. step (basic devices) store_in (watching itself serves) (watched_loan itself lends) me m)
  step_is_marked me = by_rule (due me) (without_halt me)

  -- A turn, with marks
  abbrev turn_with : TurnEnd StoreState → Marks → TurnEnd Watched
  turn_with t m = record { me = t.me; after = (t.after, m); turned = t.turned }

  one_step : (p : ℕ) (me : Private) (s : StoreState) (m : Marks) → IsPartition p → me.part ≡ p → AreMarked (step_touched (basic devices) itself serves lends me s) → AreMarked (step_written (basic devices) itself serves lends me s)
      → length m.writers.indexed ≡ 60 → IsOwnText p m
      → step (basic devices) store_in (watching itself serves) (watched_loan itself lends) me (s, m) ≡ with_marks (step_of devices me s) (marked p (step_touched (basic devices) itself serves lends me s) (step_written (basic devices) itself serves lends me s) m)
  one_step p me s m is_p same ts ws whole own =
      let after = still_own p p (step_touched (basic devices) itself serves lends me s) (step_written (basic devices) itself serves lends me s) m is_p is_p ws whole (λ i apart. apart refl) own in
      subst (λ (q : ℕ). IsPartition q → IsOwnText q m → IsOwnText q (marked q (step_touched (basic devices) itself serves lends me s) (step_written (basic devices) itself serves lends me s) m)
      → step (basic devices) store_in (watching itself serves) (watched_loan itself lends) me (s, m) ≡ with_marks (step_of devices me s) (marked q (step_touched (basic devices) itself serves lends me s) (step_written (basic devices) itself serves lends me s) m))
      same (λ is own_text still. step_is_marked me s m is ts ws own_text still) is_p own after

  pub turn_is_marked : (p n : ℕ) (me : Private) (s : StoreState) (m : Marks) (steps : ℕ) → IsPartition p → me.part ≡ p → AreSteps (steps_from devices p n me s) → length m.writers.indexed ≡ 60 → IsOwnText p m
      → turn_from (basic devices) store_in (watching itself serves) (watched_loan itself lends) n me (s, m) steps ≡ turn_with (turn_from (basic devices) itself serves lends n me s steps) (marks_after (steps_from devices p n me s) m)
  unfolding turn_from steps_from
  turn_is_marked p zero me s m steps is_p w are whole own = refl
  turn_is_marked p (suc n) me s m steps is_p w are whole own =
      ap (λ (y : StepEnd Watched). unless_ended y.end.why (λ why. ended_turn (counted_on steps y.end) why y.me y.after) (turn_from (basic devices) store_in (watching itself serves) (watched_loan itself lends) n y.me y.after (counted_on steps y.end)))
      (one_step p me s m is_p w are.1 are.2 whole own)
      ∙ by (step_of devices me s).end.why (λ rest. turn_is_marked p n (step_of devices me s).me (step_of devices me s).after (marked p (step_touched (basic devices) itself serves lends me s) (step_written (basic devices) itself serves lends me s) m) (counted_on steps (step_of devices me s).end) is_p next rest as_long still) are.3
    where
      next : (step_of devices me s).me.part ≡ p
      next = step_part devices me s ∙ w

      still : IsOwnText p (marked p (step_touched (basic devices) itself serves lends me s) (step_written (basic devices) itself serves lends me s) m)
      still = still_own p p (step_touched (basic devices) itself serves lends me s) (step_written (basic devices) itself serves lends me s) m is_p is_p are.2 whole (λ i apart. apart refl) own

      as_long : length (marked p (step_touched (basic devices) itself serves lends me s) (step_written (basic devices) itself serves lends me s) m).writers.indexed ≡ 60
      as_long = whole_on p (step_touched (basic devices) itself serves lends me s) (step_written (basic devices) itself serves lends me s) m are.2 whole

      by : (why : Option Why)
          → (AreSteps (steps_from devices p n (step_of devices me s).me (step_of devices me s).after)
          → turn_from (basic devices) store_in (watching itself serves) (watched_loan itself lends) n (step_of devices me s).me ((step_of devices me s).after, marked p (step_touched (basic devices) itself serves lends me s) (step_written (basic devices) itself serves lends me s) m) (counted_on steps (step_of devices me s).end)
          ≡ turn_with (turn_from (basic devices) itself serves lends n (step_of devices me s).me (step_of devices me s).after (counted_on steps (step_of devices me s).end)) (marks_after (steps_from devices p n (step_of devices me s).me (step_of devices me s).after) (marked p (step_touched (basic devices) itself serves lends me s) (step_written (basic devices) itself serves lends me s) m)))
          → AreSteps (unless_ended why (λ w. []) (steps_from devices p n (step_of devices me s).me (step_of devices me s).after))
          → unless_ended why (λ w. ended_turn (counted_on steps (step_of devices me s).end) w (step_of devices me s).me ((step_of devices me s).after, marked p (step_touched (basic devices) itself serves lends me s) (step_written (basic devices) itself serves lends me s) m))
          (turn_from (basic devices) store_in (watching itself serves) (watched_loan itself lends) n (step_of devices me s).me ((step_of devices me s).after, marked p (step_touched (basic devices) itself serves lends me s) (step_written (basic devices) itself serves lends me s) m) (counted_on steps (step_of devices me s).end))
          ≡ turn_with (unless_ended why (λ w. ended_turn (counted_on steps (step_of devices me s).end) w (step_of devices me s).me (step_of devices me s).after) (turn_from (basic devices) itself serves lends n (step_of devices me s).me (step_of devices me s).after (counted_on steps (step_of devices me s).end)))
          (marks_after (unless_ended why (λ w. []) (steps_from devices p n (step_of devices me s).me (step_of devices me s).after)) (marked p (step_touched (basic devices) itself serves lends me s) (step_written (basic devices) itself serves lends me s) m))
      by None later rest = later rest
      by (Some why) later rest = refl

pub turns_mark : TurnsMarkTheirSteps
turns_mark devices p n me s m is_p w are whole own = by (passes_turn me) are
  where
    by : (b : Bool) → AreSteps (if b then [] else steps_from devices p n (passes_none me) s)
        → ◌≡◌ {A = TurnEnd Watched} (if b then ended_turn 0 reason.Break (passed_one me) (s, m) else turn_from (basic devices) store_in (watching itself serves) (watched_loan itself lends) n (passes_none me) (s, m) 0)
        (turn_with devices (if b then ended_turn 0 reason.Break (passed_one me) s else turn_from (basic devices) itself serves lends n (passes_none me) s 0) (marks_after (if b then [] else steps_from devices p n (passes_none me) s) m))
    by true none = refl
    by false some = turn_is_marked devices p n (passes_none me) s m 0 is_p w some whole own
