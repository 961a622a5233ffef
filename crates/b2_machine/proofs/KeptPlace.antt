-- No place is kept for CONTINUE while program text runs: each step leaves it so.
use Rattle.std.proofs.Common.{◌≡◌, ◌∙◌, refl, sym, ap, inl, inr, ℕ, zero, suc, ◌+◌, ◌&&◌, not, nat_lt, Bool, true, false, if◌then◌else◌, List, length, Option, Some, None, is_some, Result, Ok, Err}
use Rattle.std.specs.Prelude.{◌⊎◌}
use Rattle.std.specs.Option.{option_map, option_map_or, option_and_then}
use Rattle.b2_atom.specs.Units.{TreeUnit}
use Rattle.b2_rows.specs.Following.{taken_fault, unit_or_next}
use Rattle.b2_rows.specs.declared.following.Goal.{Goal}
use Rattle.b2_rows.specs.declared.following.Goal.TheVariants as goal
use Rattle.b2_flow.specs.Stacks.{most_frames}
use Rattle.b2_flow.specs.declared.frame.Place.{Place}
use Rattle.b2_syntax.specs.Reading.{reads}
use Rattle.b2_syntax.specs.declared.Entered.{Entered}
use Rattle.b2_syntax.specs.declared.Entered.TheVariants as entered
use Rattle.b2_syntax.specs.declared.LineErr.{LineErr}
use Rattle.b2_syntax.specs.declared.LineErr.TheVariants as refusal
use Rattle.b2_text.specs.Program.{Lines, number_after}
use Rattle.b2_text.specs.Spots.{first_opening, is_mark}
use Rattle.b2_text.specs.declared.spots.Spot.{Spot}
use Rattle.b2_access.specs.Lending.{SeenLent}
use Rattle.b2_access.specs.Loans.{Loan}
use Rattle.b2_access.specs.Partition.{KeepsNone}
use Rattle.b2_access.specs.Placed.{Statement, statement_placed}
use Rattle.b2_access.specs.Places.{goal_place, line_start}
use Rattle.b2_access.specs.Sharing.{ServingOf}
use Rattle.b2_access.specs.Store.{StoreState}
use Rattle.b2_access.specs.declared.accesses.Access.{Access}
use Rattle.b2_access.specs.declared.accesses.Access.TheVariants as access
use Rattle.b2_access.specs.declared.accesses.Answer.{Answer}
use Rattle.b2_access.specs.declared.accesses.Answer.TheVariants as answer
use Rattle.b2_access.specs.declared.lending.At.{At}
use Rattle.b2_access.specs.declared.planned.Outcome.{Outcome}
use Rattle.b2_access.specs.declared.planned.Outcome.TheVariants as outcome
use Rattle.b2_access.specs.declared.planned.Planned.{Planned}
use Rattle.b2_access.specs.declared.planned.Planned.TheVariants as planned
use Rattle.b2_access.specs.declared.private.Private.{Private}
use Rattle.b2_language.specs.Languages.{AreLawful, Ways}
use Rattle.b2_language.specs.Following.{following_place, moves_to, units_at}
use Rattle.b2_machine.specs.Keys.{calls, calls_where, pressed_by}
use Rattle.b2_machine.specs.Listed.{lists}
use Rattle.b2_machine.specs.Moving.{ends_by, ends_onward, enters_program, error_place, faults, goes_to, is_continue, is_taken, onward_from, place_onward}
use Rattle.b2_machine.specs.Readiness.{without_halt}
use Rattle.b2_machine.specs.Statements.{begins_where, begun_by, builder_of, finish_by, finishes, leaves, plan_by}
use Rattle.b2_access.specs.KeyLiterals.{typed_by_mark}
use Rattle.b2_access.proofs.Choice.{either}
use Rattle.b2_machine.specs.Step.{executes, goes_through, lent_to_begin, line_read, seen_by, step, steps_by, text_in, whose_by}
use Rattle.b2_machine.specs.Typing.{put_by, shown_by, shows_output, takes, takes_or_refuses, typed_by_key}
use Rattle.b2_machine.specs.Turn.{TurnEnd, counted_on, ended_turn as turn_ended, passes_none, turn, turn_from, unless_ended}
use Rattle.b2_machine.proofs.PassedTurns.{each_turn}
use Rattle.b2_machine.specs.declared.ends.Stepped.{Stepped}
use Rattle.b2_machine.specs.declared.ends.Why.{Why}
use Rattle.b2_machine.specs.declared.moving.Onward.{Onward}
use Rattle.b2_machine.specs.declared.statements.Builder.{Builder}
use Rattle.b2_machine.specs.declared.moving.Onward.TheVariants as onward
use Rattle.b2_machine.specs.declared.statements.Builder.TheVariants as builder
use Rattle.b2_machine.specs.Due.{HasDue, due}
use Rattle.b2_machine.specs.declared.rules.Rule.{Rule}
use Rattle.b2_machine.specs.declared.rules.Rule.TheVariants as rule
use Rattle.b2_machine.proofs.DueRules.{has_due}

false_is_true : false ≡ true → ⊥
false_is_true h = cc

-- what a partition keeps by its own: it is ready, or stands at a place
abbrev Runs : Option Place → Bool
Runs o = option_map_or (λ (p : Place). is_some p.line) o false

KeepsAt : Option Place → Option Place → Type 0
KeepsAt place kept = Runs place ≡ true → kept ≡ None

-- a statement that isn't ready afterwards keeps nothing
not_ready : (kept : Option Place) (o : Outcome) → (o ≡ outcome.Ready → ⊥) → (kept ≡ None) ⊎ (o ≡ outcome.Ready) → kept ≡ None
not_ready kept o never (inl h) = h
not_ready kept o never (inr h) = absurd (never h)

module _ (ways : Ways) (lawful : AreLawful ways) (p : Place) where
  -- a place in program text is led to from program text
  FromHere : Option Place → Type 0
  FromHere None = Unit {0}
  FromHere (Some q) = is_some q.line ≡ true → is_some p.line ≡ true

  after_by : (n : Option ℕ) → is_some p.line ≡ true → FromHere (option_map (line_start p) n)
  unfolding FromHere
  after_by None is = tt
  after_by (Some n) is = λ r. is

  line_here : (lines : Lines) (l : Option ℕ) → (is_some l ≡ true → is_some p.line ≡ true) → FromHere (option_and_then (λ (n : ℕ). option_map (line_start p) (number_after (Some n) lines)) l)
  unfolding FromHere
  line_here lines None h = tt
  line_here lines (Some n) h = after_by (number_after (Some n) lines) (h refl)

  next_here : (lines : Lines) (k : ℕ) (us : List TreeUnit) → FromHere (goal_place lines p (unit_or_next k us))
  unfolding FromHere
  next_here lines k us = either (λ (g : Goal). FromHere (goal_place lines p g)) (nat_lt k (length us)) (goal.Unit k) goal.NextLine (λ r. r) (line_here lines p.line (λ r. r))

  fault_by : (o : Option ℕ) → FromHere (option_map (λ k. record p { unit = k }) o)
  unfolding FromHere
  fault_by None = tt
  fault_by (Some k) = λ r. r

  fault_here : (code : ℕ) (me : Private) (home : Lines) → FromHere (error_place code p me home)
  unfolding FromHere
  fault_here code me home = either FromHere (is_taken code) _ _ (fault_by (taken_fault p.unit (units_at p me home))) tt

  moved : (q : Place) (me : Private) → (is_some q.line ≡ true → is_some p.line ≡ true) → (is_some p.line ≡ true → me.kept ≡ None) → KeepsNone (moves_to q me)
  moved q me from k r = k (from r)

  gone : (o : Option Place) (me : Private) → FromHere o → (is_some p.line ≡ true → me.kept ≡ None) → KeepsNone (goes_to o me).me
  unfolding FromHere
  gone None me from k = λ r. absurd (false_is_true r)
  gone (Some q) me from k = λ r. k (from r)

  jumped : (a b : Bool) (q : Place) (me : Private) (home : Lines) → is_some p.line ≡ a → is_some q.line ≡ b → (is_some p.line ≡ true → me.kept ≡ None)
      → KeepsNone (if not a && b then enters_program (is_continue (statement_placed p me.immediate home)) q me else moves_to q me)
  jumped true b q me home is_a is_b k = λ r. k is_a
  jumped false true q me home is_a is_b k = λ r. refl
  jumped false false q me home is_a is_b k = λ r. absurd (false_is_true (sym is_b ∙ r))

  faulted : (code : ℕ) (o : Option Place) (me : Private) → FromHere o → (is_some p.line ≡ true → me.kept ≡ None) → KeepsNone (faults code o p me).me
  unfolding FromHere
  faulted code None me from k = λ r. absurd (false_is_true r)
  faulted code (Some q) me from k = λ r. k (from r)

  -- after the outcome of a statement at this place
  ended : (same : Stepped) (o : Outcome) (me : Private) (home : Lines) → me.place ≡ Some p → (is_some p.line ≡ true → (me.kept ≡ None) ⊎ (o ≡ outcome.Ready)) → KeepsNone (ends_by same o p me home).me
  ended same outcome.Next me home is k = gone (following_place p me home) me (next_here home (p.unit + 1) (units_at p me home)) (λ r. not_ready me.kept outcome.Next (λ e. cc) (k r))
  ended same (outcome.Jump q) me home is k = jumped (is_some p.line) (is_some q.line) q me home refl refl (λ r. not_ready me.kept (outcome.Jump q) (λ e. cc) (k r))
  ended same (outcome.Failed code) me home is k = faulted code (error_place code p me home) me (fault_here code me home) (λ r. not_ready me.kept (outcome.Failed code) (λ e. cc) (k r))
  ended same outcome.Repeat me home is k = λ r. not_ready me.kept outcome.Repeat (λ e. cc) (k (sym (ap Runs is) ∙ r))
  ended same outcome.Break me home is k = gone (following_place p me home) me (next_here home (p.unit + 1) (units_at p me home)) (λ r. not_ready me.kept outcome.Break (λ e. cc) (k r))
  ended same outcome.Ready me home is k = λ r. absurd (false_is_true r)

  onward_here : (lines : Lines) (w : Onward) → FromHere (place_onward lines p w)
  unfolding FromHere
  onward_here lines onward.NextUnit = λ r. r
  onward_here lines onward.NextLine = line_here lines p.line (λ r. r)

  ended_onward : (same : Stepped) (o : Outcome) (w : Onward) (me : Private) (home : Lines) → me.place ≡ Some p → (is_some p.line ≡ true → (me.kept ≡ None) ⊎ (o ≡ outcome.Ready)) → KeepsNone (ends_onward same o w p me home).me
  ended_onward same outcome.Next w me home is k = gone (place_onward home p w) me (onward_here home w) (λ r. not_ready me.kept outcome.Next (λ e. cc) (k r))
  ended_onward same outcome.Break w me home is k = gone (place_onward home p w) me (onward_here home w) (λ r. not_ready me.kept outcome.Break (λ e. cc) (k r))
  ended_onward same o w me home is k = ended same o me home is k

  -- what a statement plans at this place, and how it finishes
  abbrev Here : Private → Type 0
  Here me = (me.place ≡ Some p) × (is_some p.line ≡ true → me.kept ≡ None)

  abbrev PlannedHere : Private → Planned → Type 0
  PlannedHere me x = (me.place ≡ Some p) × (is_some p.line ≡ true → (me.kept ≡ None) ⊎ (x ≡ planned.Done outcome.Ready))

  abbrev EndedHere : Private → Outcome → Type 0
  EndedHere me o = (me.place ≡ Some p) × (is_some p.line ≡ true → (me.kept ≡ None) ⊎ (o ≡ outcome.Ready))

  listed : (b : Bool) (range : ℕ × ℕ) (me : Private) (s : SeenLent) → Here me → PlannedHere (lists b range me s).me (lists b range me s).planned
  listed true range me s h = (h.0, λ r. inl (h.1 r))
  listed false range me s h = (h.0, λ r. inl (h.1 r))

  plans : (b : Builder) (me : Private) (s : SeenLent) → Here me → PlannedHere (plan_by ways b p me s).me (plan_by ways b p me s).planned
  plans (builder.Listing from to) me s h = listed (is_some p.line) (from, to) me s h
  plans (builder.Language n) me s h = ((lawful.leave_the_rest n).plans_in_place me s ∙ h.0, λ r. (lawful.leave_the_rest n).plans_keep_none me s (h.1 r))
  plans builder.Nobody me s h = (h.0, λ r. inl (h.1 r))

  finished : (b : Builder) (x : Access) (a : Answer) (me : Private) (s : SeenLent) → Here me → EndedHere (finish_by ways b x a me s).me (finish_by ways b x a me s).outcome
  finished (builder.Listing from to) x a me s h = (h.0, λ r. inl (h.1 r))
  finished (builder.Language n) x a me s h = ((lawful.leave_the_rest n).finishes_in_place x a me s ∙ h.0, λ r. (lawful.leave_the_rest n).finishes_keep_none x a me s (h.1 r))
  finished builder.Nobody x a me s h = (h.0, λ r. inl (h.1 r))

  finish_keeps : (b : Builder) (x : Access) (a : Answer) (w : Onward) (me : Private) (s : SeenLent) → Here me → KeepsNone (finishes ways b x a w p me s).me
  finish_keeps b x a w me s h = let f = finished b x a me s h in ended_onward _ (finish_by ways b x a me s).outcome w (finish_by ways b x a me s).me s.home.lines f.0 f.1

  outcome_of : Planned → Outcome
  outcome_of (planned.Done o) = o
  outcome_of (planned.Ask a) = outcome.Repeat

  same_outcome : (o : Outcome) → planned.Done o ≡ planned.Done outcome.Ready → o ≡ outcome.Ready
  unfolding outcome_of
  same_outcome o is = ap outcome_of is

  done_kept : (o : Outcome) (kept : Option Place) → (kept ≡ None) ⊎ (planned.Done o ≡ planned.Done outcome.Ready) → (kept ≡ None) ⊎ (o ≡ outcome.Ready)
  done_kept o kept (inl h) = inl h
  done_kept o kept (inr h) = inr (same_outcome o h)

  asked_kept : (a : Access) (kept : Option Place) → (kept ≡ None) ⊎ (planned.Ask a ≡ planned.Done outcome.Ready) → kept ≡ None
  asked_kept a kept (inl h) = h
  asked_kept a kept (inr h) = cc

  module _ {M : Type 0} (store : M → StoreState) (serving : ServingOf M) (lending : Loan M) where
    begun_keeps : (who : ℕ) (x : Planned) (b : Builder) (whose : At) (me : Private) (home : Lines) (m : M) → PlannedHere me x → KeepsNone (goes_through ways store serving lending who (begun_by x b p me home) p whose m).me
    begun_keeps who (planned.Done o) b whose me home m h = ended _ o me home h.0 (λ r. done_kept o me.kept (h.1 r))
    begun_keeps who (planned.Ask a) b whose me home m h =
        let g = serving m who a in
        finish_keeps b a g.answer (onward_from p me home) me (seen_by who p.home whose (store g.after)) (h.0, λ r. asked_kept a me.kept (h.1 r))

    unit_keeps : (who : ℕ) (o : Option Statement) (whose : At) (me : Private) (s : SeenLent) (m : M) → Here me → KeepsNone (goes_through ways store serving lending who (begins_where ways o p me s) p whose m).me
    unit_keeps who None whose me s m h = λ r. absurd (false_is_true r)
    unit_keeps who (Some u) whose me s m h =
        let x = plan_by ways (builder_of ways u) p me s in
        begun_keeps who x.planned (builder_of ways u) whose x.me s.home.lines m (plans (builder_of ways u) me s h)

    pub executed : (me : Private) (m : M) → Here me → KeepsNone (executes ways store serving lending p me m).me
    executed me m h =
        let whose = whose_by p me (store m) in
        let s = seen_by me.part p.home whose (store m) in
        unit_keeps me.part (statement_placed p me.immediate s.home.lines) whose me s (lent_to_begin store serving lending me.part p.home whose m (leaves ways p me s)) h

-- output and literals, as they wait
module _ where
  pending_keeps : (x : Access) (a : Answer) (me : Private) → KeepsNone me → KeepsNone (shown_by x a me).me
  pending_keeps (access.Show term bytes column) answer.Done me h = h
  pending_keeps (access.PrintTo addr bytes column) answer.Done me h = h
  pending_keeps x a me h = h

  literal_keeps : (a : Answer) (me : Private) → KeepsNone me → KeepsNone (typed_by_key a me).me
  literal_keeps answer.Done me h = h
  literal_keeps a me h = h

  -- lines that are typed
  taken : (e : Entered) (me : Private) → KeepsNone me → KeepsNone (takes e me)
  taken entered.Empty me h = h
  taken (entered.Delete n) me h = h
  taken (entered.Numbered n atoms) me h = h
  taken (entered.Immediate atoms) me h = λ r. absurd (false_is_true r)

  taken_or : (x : Result Entered LineErr) (me : Private) → KeepsNone me → KeepsNone (takes_or_refuses x me)
  taken_or (Ok e) me h = taken e me h
  taken_or (Err (refusal.At code column)) me h = h
  taken_or (Err refusal.NoMemory) me h = h

  called : (spot : Spot) (me : Private) → KeepsNone me → KeepsNone (calls spot me)
  called spot me h = either KeepsNone (nat_lt (length me.stack) most_frames) _ _ (λ r. refl) h

  called_where : (o : Option Spot) (me : Private) → KeepsNone me → KeepsNone (calls_where o me)
  called_where None me h = h
  called_where (Some spot) me h = called spot me h

  pressed_keeps : (text : Option (List ℕ)) (spot : Option Spot) (me : Private) → KeepsNone me → KeepsNone (pressed_by text spot me)
  pressed_keeps (Some text) spot me h = h
  pressed_keeps None spot me h = called_where spot me h

  put_keeps : (a : Answer) (me : Private) → KeepsNone me → KeepsNone (put_by a me).me
  put_keeps answer.Done me h = λ r. refl
  put_keeps (answer.Locked q) me h = h
  put_keeps (answer.Refused code) me h = h
  put_keeps a me h = h

module _ (ways : Ways) (lawful : AreLawful ways) {M : Type 0} (store : M → StoreState) (serving : ServingOf M) (lending : Loan M) where
  read_keeps : (a : Answer) (me : Private) (m : M) → KeepsNone me → KeepsNone (line_read store serving lending a me m).me
  read_keeps (answer.Line bytes) me m h = taken_or (reads bytes) (record me { term_column = 0 }) h
  read_keeps (answer.Special n) me m h = pressed_keeps (typed_by_mark n (text_in (store m) me.part).lines) (first_opening (is_mark n) (text_in (store m) me.part).lines) me h
  read_keeps a me m h = h

  by_rule : (r : Rule) (me : Private) (m : M) → HasDue r me → KeepsNone me → KeepsNone (steps_by ways store serving lending r me m).me
  by_rule rule.Reset me m is h = λ r. absurd (false_is_true r)
  by_rule rule.Halt me m is h = λ r. absurd (false_is_true r)
  by_rule rule.Show me m is h = pending_keeps (shows_output me) _ me h
  by_rule rule.Insert me m is h = literal_keeps _ me h
  by_rule rule.Read me m is h = let g = serving m me.part (access.ReadLine me.term) in read_keeps g.answer me g.after h
  by_rule rule.Put me m is h = put_keeps _ me h
  by_rule (rule.Execute p) me m is h = executed ways lawful p store serving lending me m (is, λ r. h (ap Runs is ∙ r))

  pub step_keeps : (me : Private) (m : M) → KeepsNone me → KeepsNone (step ways store serving lending me m).me
  step_keeps me m h = by_rule (due me) (without_halt me) m (has_due me) h

  ended_turn : (o : Option Why) (n : ℕ) (me : Private) (m : M) (steps : ℕ) → KeepsNone me → ((k : ℕ) → KeepsNone (turn_from ways store serving lending n me m k).me)
      → KeepsNone (unless_ended {A = TurnEnd M} o (λ w. turn_ended steps w me m) (turn_from ways store serving lending n me m steps)).me
  ended_turn None n me m steps h k = k steps
  ended_turn (Some w) n me m steps h k = h

  from_keeps : (n : ℕ) (me : Private) (m : M) (steps : ℕ) → KeepsNone me → KeepsNone (turn_from ways store serving lending n me m steps).me
  unfolding turn_from
  from_keeps zero me m steps h = h
  from_keeps (suc n) me m steps h =
      let s = step ways store serving lending me m in
      let kept = step_keeps me m h in
      ended_turn s.end.why n s.me s.after (counted_on steps s.end) kept (λ k. from_keeps n s.me s.after k kept)

  pub turn_keeps : (quota : ℕ) (me : Private) (m : M) → KeepsNone me → KeepsNone (turn ways store serving lending quota me m).me
  turn_keeps quota me m h = each_turn ways store serving lending (λ t. KeepsNone t.me) quota me m h (from_keeps quota (passes_none me) m 0 h)
