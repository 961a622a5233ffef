-- A step makes as many frames of its partition enter each text as the access that it asks for and its answer say; where the partition stood
-- in the texts of others above calls that entered them, it does so after it; and what it asks for enters no text of its own.
use Rattle.std.proofs.Common.{◌≡◌, ◌∙◌, ◌≤◌, true≢false, refl, sym, ap, subst, inl, inr, ℕ, Bool, true, false, if◌then◌else◌, List, Option, Some, None, is_some}
use Rattle.b2_flow.specs.declared.frame.Place.{Place}
use Rattle.b2_text.specs.Spots.{first_opening, is_mark}
use Rattle.b2_vars.specs.Globals.{Globals}
use Rattle.b2_access.specs.AccessRows.{holder_at, row}
use Rattle.b2_access.specs.Answering.{can_answer}
use Rattle.b2_access.specs.Borrowers.{homes_entered, homes_marked}
use Rattle.b2_access.specs.Entering.{entered_after}
use Rattle.b2_access.specs.Lending.{SeenLent}
use Rattle.b2_access.specs.Loans.{lends}
use Rattle.b2_access.specs.KeyLiterals.{typed_by_mark}
use Rattle.b2_access.specs.Objects.{Decided}
use Rattle.b2_access.specs.Partition.{KeepsNone}
use Rattle.b2_access.specs.Placed.{Statement, statement_placed}
use Rattle.b2_access.specs.Reaching.{ReachedUnlessAsks}
use Rattle.b2_access.specs.Serving.{itself}
use Rattle.b2_access.specs.Sharing.{Gives, ServesAlike}
use Rattle.b2_access.specs.Showing.{shown_where}
use Rattle.b2_access.specs.Views.{column_shown}
use Rattle.b2_access.specs.Standing.{EndsStanding, FramesStand, LeadsStanding, PlaceStands, SeenAgain, Stands, entered_in}
use Rattle.b2_access.specs.Store.{StoreState, IsIn, content}
use Rattle.b2_access.specs.Touching.{written_by}
use Rattle.b2_access.specs.Waiting.{UnchangedIfAsks}
use Rattle.b2_access.specs.declared.accesses.Access.{Access}
use Rattle.b2_access.specs.declared.accesses.Access.TheVariants as access
use Rattle.b2_access.specs.declared.accesses.Answer.{Answer}
use Rattle.b2_access.specs.declared.accesses.Answer.TheVariants as answer
use Rattle.b2_access.specs.declared.lending.At.{At}
use Rattle.b2_access.specs.declared.objects.Object.{Object}
use Rattle.b2_access.specs.declared.planned.Outcome.{Outcome}
use Rattle.b2_access.specs.declared.planned.Planned.{Planned}
use Rattle.b2_access.specs.declared.planned.Planned.TheVariants as planned
use Rattle.b2_access.specs.declared.private.Private.{Private}
use Rattle.b2_access.proofs.Holders.{drops_first}
use Rattle.b2_access.proofs.Locality.{serves_by_row, serves_is_local}
use Rattle.b2_access.proofs.RowLaws.{leaves as row_leaves}
use Rattle.b2_access.proofs.Unwritten.{no_borrow, no_borrow_entered}
use Rattle.b2_language.specs.Languages.{AreLawful, Ways}
use Rattle.b2_machine.proofs.Lent.{begun_store, loan_leaves, seen_same}
use Rattle.b2_machine.proofs.LocalSteps.{is_in}
use Rattle.b2_machine.specs.Endings.{counts, repeats}
use Rattle.b2_machine.specs.Listed.{lists, range_listed}
use Rattle.b2_machine.specs.Messages.{shows_text}
use Rattle.b2_machine.specs.Moving.{ends_by, ends_onward}
use Rattle.b2_machine.specs.Readiness.{gives_back, halted, without_halt}
use Rattle.b2_machine.specs.Statements.{begins, begins_where, begun_by, builder_of, finish_by, leaves, left_where, plan_by}
use Rattle.b2_machine.specs.Step.{StepEnd, by_itself, carries_out, finishes_by, lent_to_begin, line_read, resets_by, seen_by, step, steps_by, text_in, whose_by}
use Rattle.b2_machine.specs.Touched.{access_asked, asking, asks_by}
use Rattle.b2_machine.specs.Typing.{inserts_literal, output_pending, puts_numbered, shows_output}
use Rattle.b2_machine.specs.declared.moving.Onward.{Onward}
use Rattle.b2_machine.specs.declared.statements.Builder.{Builder}
use Rattle.b2_machine.specs.declared.statements.Builder.TheVariants as builder
use Rattle.b2_machine.specs.declared.statements.Progress.{Progress}
use Rattle.b2_machine.specs.declared.statements.Progress.TheVariants as progress
use Rattle.b2_store.specs.DiskWork.{disks, serves}
use Rattle.b2_sched.proofs.EnteredRules.{KeepsStanding, ReadsStanding, SameEntered, all_given_back, ended_keeps, halted_keeps, line_well, onward_keeps, pressed_well, put_counts, put_ready, put_stands, readied, reset_stands, shown_keeps, shown_ready, shows_no_own, shows_none, typed_keeps, typed_ready}
use Rattle.b2_sched.proofs.StepEnds.{begun_stays, is_seen, left_where as left_by, line_left, loan_seen, loan_stays}
use Rattle.b2_sched.specs.Holding.{is_globals}
use Rattle.b2_sched.specs.Inside.{EnterAsSaid, EntersNoOwn, HasOwnLine, PutsReady, entered_where}
use Rattle.b2_machine.specs.Due.{HasDue, due}
use Rattle.b2_machine.specs.declared.rules.Rule.{Rule}
use Rattle.b2_machine.specs.declared.rules.Rule.TheVariants as rule
use Rattle.b2_machine.proofs.DueRules.{PutsFirst, has_due, puts_first}

-- ---- from stores that have the same in each object an access is answered alike, and leaves the same in each

abbrev SameStores : StoreState → StoreState → Type 0
SameStores u s = (o : Object) → content u o ≡ content s o

served_same : (who : ℕ) (x : Access) (u s : StoreState) → SameStores u s → ((serves u who x).answer ≡ (serves s who x).answer) × SameStores (serves u who x).after (serves s who x).after
served_same who x u s same = (both.answers, λ o. by o (is_in o (written_by (serves u who x).answer who x)))
  where
    both : ServesAlike itself serves who x u s
    both = (serves_is_local disks).alike who x u s (λ o i. same o)

    by : (o : Object) → Decided (IsIn o (written_by (serves u who x).answer who x)) → content (serves u who x).after o ≡ content (serves s who x).after o
    by o (inl i) = both.contents o i
    by o (inr out) =
        (serves_is_local disks).others who x u o out ∙ same o
        ∙ sym ((serves_is_local disks).others who x s o (λ i. out (subst (λ (os : List Object). IsIn o os) (sym both.wrote) i)))

-- entering a text and giving texts back leave what a statement sees
seen_again : (x : Access) (who home : ℕ) (whose : At) (u s : StoreState) → SameStores u s → SeenAgain x (seen_by who home whose (serves u who x).after) (seen_by who home whose s)
seen_again (access.Enter name mark) who home whose u s same =
    let x = access.Enter name mark in
    seen_same who home whose (serves u who x).after s
    (λ o i. row_leaves (row x) disks who u o (no_borrow_entered is_seen o (loan_seen who home whose (serves u who x).after o i) (λ h. refl) (holder_at x u)) ∙ same o)
seen_again (access.Drop homes) who home whose u s same =
    let x = access.Drop homes in
    seen_same who home whose (serves u who x).after s
    (λ o i. row_leaves (row x) disks who u o (no_borrow is_seen o (loan_seen who home whose (serves u who x).after o i) (λ h. refl) (homes_marked homes)) ∙ same o)
seen_again x who home whose u s same = tt

-- where a statement leaves the `@` variables that it was lent, the loan to it changes nothing
lent_unchanged : (who home : ℕ) (whose : At) (s : StoreState) (left : Globals) → left ≡ (seen_by who home whose s).globals → SameStores (lent_to_begin itself serves lends who home whose s left) s
lent_unchanged who home whose s left is o =
    ap (λ (t : StoreState). content t o) (begun_store itself serves lends (λ who home whose m l. refl) who home whose s left)
    ∙ loan_leaves false home whose left.vars s o (λ e. ap (λ (g : Globals). g.vars) is) (λ i. i)

-- ---- what a step leaves

pub record Goes (me : Private) (s : StoreState) (x : Option Access) (e : StepEnd StoreState) : Type 0 where
  pub stands : Stands e.me
  pub ready : PutsReady e.me
  pub frames : (g : ℕ) → 1 ≤ g → g ≤ 16 → entered_in g e.me.stack ≡ entered_where x me.part g (entered_in g me.stack) s
  pub left : (o : Object) → is_globals o ≡ false → content e.after o ≡ content (left_by x me.part s) o
  pub others : EntersNoOwn x (text_in s me.part).lines

module _ (ways : Ways) (lawful : AreLawful ways) (enter : EnterAsSaid ways) where
  -- ---- what a statement plans

  -- one that has ended stands, and as many frames entered each text
  EndsSo : Private → Private → Planned → Type 0
  EndsSo me after (planned.Done o) = EndsStanding me after o × SameEntered after.stack me.stack
  EndsSo me after (planned.Ask x) = Unit {0}

  ends_so : (b : Builder) (p : Place) (me : Private) (s : SeenLent) → Stands me → EndsSo me (plan_by ways b p me s).me (plan_by ways b p me s).planned
  unfolding EndsSo
  ends_so (builder.Listing from to) p me s w = by (is_some p.line)
    where
      by : (b : Bool) → EndsSo me (lists b (from, to) me s).me (lists b (from, to) me s).planned
      by true = (record { kept = w.kept; frames = w.frames; leads = w.place }, λ g. refl)
      by false = tt
  ends_so (builder.Language r) p me s w = by (ways.plan r me s).planned refl
    where
      by : (x : Planned) → (ways.plan r me s).planned ≡ x → EndsSo me (ways.plan r me s).me x
      by (planned.Done o) is = enter.plans r me s o is w
      by (planned.Ask x) is = tt
  ends_so builder.Nobody p me s w = (record { kept = w.kept; frames = w.frames; leads = w.place }, λ g. refl)

  -- one that asks has changed nothing
  unchanged : (b : Builder) (p : Place) (me : Private) (s : SeenLent) → UnchangedIfAsks me (plan_by ways b p me s).me (plan_by ways b p me s).planned
  unchanged (builder.Listing from to) p me s = by (is_some p.line)
    where
      by : (b : Bool) → UnchangedIfAsks me (lists b (from, to) me s).me (lists b (from, to) me s).planned
      by true = tt
      by false = refl
  unchanged (builder.Language r) p me s = (lawful.leave_the_rest r).plans_before_changes me s
  unchanged builder.Nobody p me s = tt

  LeftIfAsks : Globals → Globals → Planned → Type 0
  LeftIfAsks before after (planned.Done o) = Unit {0}
  LeftIfAsks before after (planned.Ask x) = after ≡ before

  globals_left : (b : Builder) (p : Place) (me : Private) (s : SeenLent) → LeftIfAsks s.globals (plan_by ways b p me s).globals (plan_by ways b p me s).planned
  unfolding LeftIfAsks
  globals_left (builder.Listing from to) p me s = by (is_some p.line)
    where
      by : (b : Bool) → LeftIfAsks s.globals (lists b (from, to) me s).globals (lists b (from, to) me s).planned
      by true = tt
      by false = refl
  globals_left (builder.Language r) p me s = by (ways.plan r me s).planned ((lawful.leave_the_rest r).plans_reach me s)
    where
      by : (x : Planned) → ReachedUnlessAsks s.globals (ways.plan r me s).globals x → LeftIfAsks s.globals (ways.plan r me s).globals x
      by (planned.Done o) h = tt
      by (planned.Ask x) h = h
  globals_left builder.Nobody p me s = tt

  plan_part : (b : Builder) (p : Place) (me : Private) (s : SeenLent) → (plan_by ways b p me s).me.part ≡ me.part
  plan_part (builder.Listing from to) p me s = by (is_some p.line)
    where
      by : (b : Bool) → (lists b (from, to) me s).me.part ≡ me.part
      by true = refl
      by false = refl
  plan_part (builder.Language r) p me s = lawful.plans_keep_part r me s
  plan_part builder.Nobody p me s = refl

  plan_place : (b : Builder) (p : Place) (me : Private) (s : SeenLent) → (plan_by ways b p me s).me.place ≡ me.place
  plan_place (builder.Listing from to) p me s = by (is_some p.line)
    where
      by : (b : Bool) → (lists b (from, to) me s).me.place ≡ me.place
      by true = refl
      by false = refl
  plan_place (builder.Language r) p me s = (lawful.leave_the_rest r).plans_in_place me s
  plan_place builder.Nobody p me s = refl

  plan_numbered : (b : Builder) (p : Place) (me : Private) (s : SeenLent) → (plan_by ways b p me s).me.numbered ≡ me.numbered
  plan_numbered (builder.Listing from to) p me s = by (is_some p.line)
    where
      by : (b : Bool) → (lists b (from, to) me s).me.numbered ≡ me.numbered
      by true = refl
      by false = refl
  plan_numbered (builder.Language r) p me s = enter.plans_numbered r me s
  plan_numbered builder.Nobody p me s = refl

  -- what is asked for enters no own text
  enters_other : (b : Builder) (p : Place) (me : Private) (s : SeenLent) (name : List ℕ) (mark : ℕ) → (plan_by ways b p me s).planned ≡ planned.Ask (access.Enter name mark) → first_opening (is_mark mark) s.own.lines ≡ None
  enters_other (builder.Listing from to) p me s name mark is = absurd (by (is_some p.line) is)
    where
      by : (b : Bool) → (lists b (from, to) me s).planned ≡ planned.Ask (access.Enter name mark) → ⊥
      by true e = cc
      by false e = cc
  enters_other (builder.Language r) p me s name mark is = enter.others r me s name mark is
  enters_other builder.Nobody p me s name mark is = absurd (cc)

  no_own : (x : Access) (b : Builder) (p : Place) (me : Private) (s : SeenLent) → (plan_by ways b p me s).planned ≡ planned.Ask x → EntersNoOwn (Some x) s.own.lines
  no_own (access.Enter name mark) b p me s is = enters_other b p me s name mark is
  no_own x b p me s is = tt

  -- ---- a statement that began: it has ended, or it asks and nothing has changed

  BegunSo : Place → Private → SeenLent → Private → Globals → Progress → Type 0
  BegunSo p me s after left (progress.Ended e) = KeepsStanding me after
  BegunSo p me s after left (progress.Asks x b way) = (after ≡ me) × (left ≡ s.globals) × ((plan_by ways b p me s).planned ≡ planned.Ask x)

  has_ended : (b : Builder) (p : Place) (me : Private) (s : SeenLent) (o : Outcome) → me.place ≡ Some p → Stands me → (plan_by ways b p me s).planned ≡ planned.Done o
      → KeepsStanding me (ends_by counts o p (plan_by ways b p me s).me s.home.lines).me
  unfolding EndsSo
  has_ended b p me s o at w is =
      let you = (plan_by ways b p me s).me in
      let h : EndsStanding me you o × SameEntered you.stack me.stack = subst (EndsSo me you) is (ends_so b p me s w) in
      let part = sym (plan_part b p me s) in
      let leads : LeadsStanding you.part you.stack (Some p) o =
      subst (λ (k : ℕ). LeadsStanding k you.stack (Some p) o) part (subst (λ (c : Option Place). LeadsStanding me.part you.stack c o) at h.0.leads) in
      let k =
      ended_keeps you (subst (λ (k : ℕ). PlaceStands k you.stack you.kept) part h.0.kept) (subst (λ (k : ℕ). FramesStand k you.stack) part h.0.frames) counts o p s.home.lines (plan_place b p me s ∙ at) leads in
      record { stands = k.stands; same = λ g. k.same g ∙ h.1 g; numbered = k.numbered ∙ plan_numbered b p me s }

  begun_so : (b : Builder) (p : Place) (me : Private) (s : SeenLent) (x : Planned) → me.place ≡ Some p → Stands me → (plan_by ways b p me s).planned ≡ x
      → BegunSo p me s (begun_by x b p (plan_by ways b p me s).me s.home.lines).me (plan_by ways b p me s).globals (begun_by x b p (plan_by ways b p me s).me s.home.lines).progress
  unfolding BegunSo LeftIfAsks
  begun_so b p me s (planned.Done o) at w is = has_ended b p me s o at w is
  begun_so b p me s (planned.Ask x) at w is =
      (subst (UnchangedIfAsks me (plan_by ways b p me s).me) is (unchanged b p me s), subst (LeftIfAsks s.globals (plan_by ways b p me s).globals) is (globals_left b p me s), is)

  begins_so : (u : Option Statement) (p : Place) (me : Private) (s : SeenLent) → me.place ≡ Some p → Stands me
      → BegunSo p me s (begins_where ways u p me s).me (left_where ways u p me s) (begins_where ways u p me s).progress
  unfolding BegunSo
  begins_so None p me s at w = readied _ me w.kept w.frames
  begins_so (Some u) p me s at w = begun_so (builder_of ways u) p me s (plan_by ways (builder_of ways u) p me s).planned at w refl

  -- ---- how it finishes

  abbrev FinishesSo : Builder → Access → Answer → Private → SeenLent → Type 0
  FinishesSo b x a me s =
      EndsStanding me (finish_by ways b x a me s).me (finish_by ways b x a me s).outcome
      × ((g : ℕ) → 1 ≤ g → g ≤ 16 → entered_in g (finish_by ways b x a me s).me.stack ≡ entered_after x a g (entered_in g me.stack))

  finishes_so : (b : Builder) (p : Place) (x : Access) (a : Answer) (me : Private) (s t : SeenLent) → can_answer x a ≡ true → (plan_by ways b p me t).planned ≡ planned.Ask x → SeenAgain x s t → KeepsNone me → HasOwnLine me.part me → Stands me → FinishesSo b x a me s
  finishes_so (builder.Listing from to) p x a me s t may is again none own w =
      (record { kept = w.kept; frames = w.frames; leads = shown_leads_on (column_shown x a) }, λ g low high. by (is_some p.line) is g)
    where
      shown_leads_on : (o : Option ℕ) → LeadsStanding me.part me.stack me.place (shown_where o me).outcome
      shown_leads_on (Some column) = w.place
      shown_leads_on None = w.place

      by : (b : Bool) → (lists b (from, to) me t).planned ≡ planned.Ask x → (g : ℕ) → entered_in g me.stack ≡ entered_after x a g (entered_in g me.stack)
      by true e g = absurd (cc)
      by false e g =
          let shows : shows_text (range_listed (from, to) t.own.lines) me ≡ x = cc in
          subst (λ (y : Access). entered_in g me.stack ≡ entered_after y a g (entered_in g me.stack)) shows refl
  finishes_so (builder.Language r) p x a me s t may is again none own w = enter.finishes r x a me s t may is again none own w
  finishes_so builder.Nobody p x a me s t may is again none own w = absurd (cc)

  finish_part : (b : Builder) (x : Access) (a : Answer) (me : Private) (s : SeenLent) → (finish_by ways b x a me s).me.part ≡ me.part
  finish_part (builder.Listing from to) x a me s = refl
  finish_part (builder.Language r) x a me s = lawful.finishes_keep_part r x a me s
  finish_part builder.Nobody x a me s = refl

  finish_place : (b : Builder) (x : Access) (a : Answer) (me : Private) (s : SeenLent) → (finish_by ways b x a me s).me.place ≡ me.place
  finish_place (builder.Listing from to) x a me s = refl
  finish_place (builder.Language r) x a me s = (lawful.leave_the_rest r).finishes_in_place x a me s
  finish_place builder.Nobody x a me s = refl

  finish_numbered : (b : Builder) (x : Access) (a : Answer) (me : Private) (s : SeenLent) → (finish_by ways b x a me s).me.numbered ≡ me.numbered
  finish_numbered (builder.Listing from to) x a me s = refl
  finish_numbered (builder.Language r) x a me s = enter.finishes_numbered r x a me s
  finish_numbered builder.Nobody x a me s = refl

  -- what becomes of the partition
  record Finished (x : Access) (a : Answer) (me after : Private) : Type 0 where
    pub stands : Stands after
    pub frames : (g : ℕ) → 1 ≤ g → g ≤ 16 → entered_in g after.stack ≡ entered_after x a g (entered_in g me.stack)
    pub numbered : after.numbered ≡ me.numbered

  finished : (b : Builder) (p : Place) (x : Access) (a : Answer) (way : Onward) (me : Private) (s t : SeenLent) → can_answer x a ≡ true → (plan_by ways b p me t).planned ≡ planned.Ask x → SeenAgain x s t → me.place ≡ Some p → KeepsNone me → HasOwnLine me.part me → Stands me
      → Finished x a me (ends_onward (repeats a) (finish_by ways b x a me s).outcome way p (finish_by ways b x a me s).me s.home.lines).me
  finished b p x a way me s t may is again at none own w =
      let y = finish_by ways b x a me s in
      let h = finishes_so b p x a me s t may is again none own w in
      let part = sym (finish_part b x a me s) in
      let leads : LeadsStanding y.me.part y.me.stack (Some p) y.outcome =
      subst (λ (k : ℕ). LeadsStanding k y.me.stack (Some p) y.outcome) part (subst (λ (c : Option Place). LeadsStanding me.part y.me.stack c y.outcome) at h.0.leads) in
      let k =
      onward_keeps y.me (subst (λ (k : ℕ). PlaceStands k y.me.stack y.me.kept) part h.0.kept) (subst (λ (k : ℕ). FramesStand k y.me.stack) part h.0.frames) (repeats a) y.outcome way p s.home.lines
      (finish_place b x a me s ∙ at) leads in
      record { stands = k.stands; frames = λ g low high. k.same g ∙ h.1 g low high; numbered = k.numbered ∙ finish_numbered b x a me s }

  -- ---- the rules of a step

  asked : (b : Builder) (p : Place) (x : Access) (way : Onward) (whose : At) (me : Private) (s u : StoreState) → SameStores u s → (plan_by ways b p me (seen_by me.part p.home whose s)).planned ≡ planned.Ask x
      → me.place ≡ Some p → me.numbered ≡ None → KeepsNone me → HasOwnLine me.part me → Stands me → Goes me s (Some x) (finishes_by ways itself serves lends me.part b x way p whose me (serves u me.part x))
  asked b p x way whose me s u same is at empty none own w =
      let g = serves u me.part x in
      let seen = seen_by me.part p.home whose g.after in
      let t = seen_by me.part p.home whose s in
      let both = served_same me.part x u s same in
      let f = finished b p x g.answer way me seen t (serves_by_row disks u me.part x) is (seen_again x me.part p.home whose u s same) at none own w in
      record {
        stands = f.stands;
        ready = inl (f.numbered ∙ empty);
        frames = λ h low high. f.frames h low high ∙ ap (λ (a : Answer). entered_after x a h (entered_in h me.stack)) both.0;
        left = λ o is. loan_stays p.home whose (finish_by ways b x g.answer me seen).globals.vars g.after o is ∙ both.1 o;
        others = no_own x b p me t is;
      }

  carried : (c : Progress) (p : Place) (whose : At) (me you : Private) (s : StoreState) (left : Globals) → BegunSo p me (seen_by me.part p.home whose s) you left c
      → me.place ≡ Some p → me.numbered ≡ None → KeepsNone me → HasOwnLine me.part me → Stands me
      → Goes me s (access_asked c) (carries_out ways itself serves lends me.part c p whose you (lent_to_begin itself serves lends me.part p.home whose s left))
  unfolding BegunSo
  carried (progress.Ended e) p whose me you s left h at empty none own w = record {
    stands = h.stands;
    ready = inl (h.numbered ∙ empty);
    frames = λ g low high. h.same g;
    left = λ o is. begun_stays me.part p.home whose left s o is;
    others = tt;
  }
  carried (progress.Asks x b way) p whose me you s left h at empty none own w =
      let u = lent_to_begin itself serves lends me.part p.home whose s left in
      subst (λ (z : Private). Goes me s (Some x) (carries_out ways itself serves lends me.part (progress.Asks x b way) p whose z u)) (sym h.0)
      (asked b p x way whose me s u (lent_unchanged me.part p.home whose s left h.1) h.2 at empty none own w)

  read_well : (a : Answer) (me : Private) (s : StoreState) → me.numbered ≡ None → me.place ≡ None → Stands me → ReadsStanding me (line_read itself serves lends a me s).me
  read_well (answer.Line bytes) me s empty is w = line_well bytes me empty is w
  read_well (answer.Special n) me s empty is w = let own = (text_in s me.part).lines in pressed_well (typed_by_mark n own) (first_opening (is_mark n) own) me empty w
  read_well a me s empty is w = record { stands = w; same = λ g. refl; ready = inl empty }

  at_reset : (me : Private) (s : StoreState) → Goes me s (Some (gives_back me)) (resets_by itself serves lends me s)
  at_reset me s = record {
    stands = reset_stands me;
    ready = inl refl;
    frames = λ g low high.
        all_given_back g me.stack low high
        ∙ sym (ap (λ (y : Gives StoreState). entered_after (gives_back me) y.answer g (entered_in g me.stack)) (drops_first me.part (homes_marked (homes_entered me.stack)) s));
    left = λ o is. refl;
    others = tt;
  }

  at_halt : (me : Private) (s : StoreState) → Stands me → Goes me s None (by_itself itself serves lends (halted me) s)
  at_halt me s w = let k = halted_keeps me w in record { stands = k.stands; ready = inr refl; frames = λ g low high. k.same g; left = λ o is. refl; others = tt }

  -- a line that waits to be put is there only at a partition that is ready
  no_place : (me : Private) → is_some me.numbered ≡ true → PutsReady me → me.place ≡ None
  no_place me is (inl none) = absurd (true≢false (sym is ∙ ap is_some none))
  no_place me is (inr at) = at

  by_rule : (r : Rule) (me : Private) (s : StoreState) → HasDue r me → PutsFirst r me → PutsReady me → KeepsNone me → HasOwnLine me.part me → Stands me → Goes me s (asks_by ways r me s) (steps_by ways itself serves lends r me s)
  by_rule rule.Reset me s is empty ready none own w = at_reset me s
  by_rule rule.Halt me s is empty ready none own w = at_halt me s w
  by_rule rule.Show me s is empty ready none own w =
      let device = (output_pending me).0 in
      let text = (output_pending me).1 in
      let x = shows_output me in
      let a = (serves s me.part x).answer in
      let k = shown_keeps x a me w in
      record { stands = k.stands; ready = shown_ready x a me ready; frames = λ g low high. k.same g ∙ sym (shows_none device text me a g (entered_in g me.stack)); left = λ o is. refl; others = shows_no_own device text me (text_in s me.part).lines }
  by_rule rule.Insert me s is empty ready none own w =
      let a = (serves s me.part (inserts_literal me)).answer in
      let k = typed_keeps a me w in
      record { stands = k.stands; ready = typed_ready a me ready; frames = λ g low high. k.same g; left = λ o is. refl; others = tt }
  by_rule rule.Read me s is empty ready none own w =
      let g = serves s me.part (access.ReadLine me.term) in
      let h = read_well g.answer me g.after empty.0 empty.1 w in
      record { stands = h.stands; ready = h.ready; frames = λ k low high. h.same k; left = λ o is. ap (λ (t : StoreState). content t o) (line_left g.answer me g.after); others = tt }
  by_rule rule.Put me s is empty ready none own w =
      let a = (serves s me.part (puts_numbered me)).answer in
      record { stands = put_stands a me (no_place me is ready) w; ready = put_ready a me ready; frames = λ g low high. put_counts a me g low high; left = λ o is. refl; others = tt }
  by_rule (rule.Execute p) me s is empty ready none own w =
      let whose = whose_by p me s in
      let seen = seen_by me.part p.home whose s in
      let b = begins ways p me seen in
      carried b.progress p whose me b.me s (leaves ways p me seen) (begins_so (statement_placed p me.immediate seen.home.lines) p me seen is w) is empty none own w

  pub step_goes : (me : Private) (s : StoreState) → PutsReady me → KeepsNone me → HasOwnLine me.part me → Stands me → Goes me s (asking ways me s) (step ways itself serves lends me s)
  step_goes me s ready none own w =
      let h =
      by_rule (due me) (without_halt me) s (has_due me) (puts_first me) ready none (record { part = own.part; place = own.place; kept = own.kept; frames = own.frames }) (record { place = w.place; kept = w.kept; frames = w.frames }) in
      record { stands = h.stands; ready = h.ready; frames = h.frames; left = h.left; others = h.others }
