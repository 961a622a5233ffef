-- Where a partition is at a place in an immediate line, or is to be led back to one, that is its own: each step leaves it so.
use Rattle.std.proofs.Common.{◌≡◌, ◌∙◌, refl, ap, subst, ℕ, ◌==◌, ◌&&◌, ◌+◌, Bool, true, false, not, nat_lt, List, [], ◌∷◌, length, Option, Some, None, is_some, Result, Ok, Err, arith}
use Rattle.std.proofs.lemmas.Bool.Decides.{nat_tests}
use Rattle.std.specs.Option.{option_and_then, option_map}
use Rattle.b2_base.specs.declared.codes.TheConstants.{A04_TOO_DEEP}
use Rattle.b2_flow.specs.Frames.{is_immediate_loop}
use Rattle.b2_flow.specs.Stacks.{most_frames}
use Rattle.b2_flow.specs.declared.frame.Frame.{Frame}
use Rattle.b2_flow.specs.declared.frame.Place.{Place}
use Rattle.b2_rows.specs.Following.{taken_fault, unit_or_next}
use Rattle.b2_rows.specs.declared.following.Goal.{Goal}
use Rattle.b2_rows.specs.declared.following.Goal.TheVariants as goal
use Rattle.b2_syntax.specs.Reading.{reads}
use Rattle.b2_syntax.specs.declared.Entered.{Entered}
use Rattle.b2_syntax.specs.declared.Entered.TheVariants as entered
use Rattle.b2_syntax.specs.declared.LineErr.{LineErr}
use Rattle.b2_syntax.specs.declared.LineErr.TheVariants as refusal
use Rattle.b2_text.specs.Program.{Lines, number_after}
use Rattle.b2_text.specs.Spots.{first_opening, is_mark}
use Rattle.b2_text.specs.declared.spots.Spot.{Spot}
use Rattle.b2_access.specs.Lending.{SeenLent}
use Rattle.b2_access.specs.Loans.{lends}
use Rattle.b2_access.specs.KeyLiterals.{typed_by_mark}
use Rattle.b2_access.specs.Partition.{runs_program}
use Rattle.b2_access.specs.Placed.{Statement, statement_placed}
use Rattle.b2_access.specs.Places.{goal_place, line_after, line_start}
use Rattle.b2_access.specs.Serving.{itself}
use Rattle.b2_access.specs.Showing.{shown_where}
use Rattle.b2_access.specs.Store.{StoreState}
use Rattle.b2_access.specs.Views.{column_shown}
use Rattle.b2_access.specs.declared.accesses.Access.{Access}
use Rattle.b2_access.specs.declared.accesses.Access.TheVariants as access
use Rattle.b2_access.specs.declared.accesses.Answer.{Answer}
use Rattle.b2_access.specs.declared.accesses.Answer.TheVariants as answer
use Rattle.b2_access.specs.declared.lending.At.{At}
use Rattle.b2_access.specs.declared.planned.Outcome.{Outcome}
use Rattle.b2_access.specs.declared.planned.Outcome.TheVariants as outcome
use Rattle.b2_access.specs.declared.planned.Planned.{Planned}
use Rattle.b2_access.specs.declared.planned.Planned.TheVariants as planned
use Rattle.b2_access.specs.declared.private.Private.{Private}
use Rattle.b2_access.proofs.Choice.{either}
use Rattle.b2_language.specs.Following.{following_place, moves_to, units_at}
use Rattle.b2_language.specs.Languages.{Ways}
use Rattle.b2_machine.specs.Endings.{Ending, counts, repeats}
use Rattle.b2_machine.specs.Keys.{called_at, calls_where, pressed_by}
use Rattle.b2_machine.specs.Listed.{lists}
use Rattle.b2_machine.specs.Moving.{ends_by, ends_onward, enters_program, error_place, faults, goes_to, is_continue, is_taken, jumps, place_onward}
use Rattle.b2_machine.specs.Readiness.{halted, readies, refuses, resets, without_halt, without_immediate_loops}
use Rattle.b2_machine.specs.Statements.{begins, begins_where, begun_by, builder_of, finish_by, finishes, leaves, plan_by}
use Rattle.b2_machine.specs.Step.{StepEnd, carries_out, lent_to_begin, line_read, seen_by, step, steps_by, text_in, whose_by}
use Rattle.b2_machine.specs.Typing.{inserts_literal, line_taken, put_by, puts_numbered, shown_by, shows_output, takes, takes_or_refuses, typed_by_key}
use Rattle.b2_machine.specs.declared.ends.Stepped.{Stepped}
use Rattle.b2_machine.specs.declared.moving.Onward.{Onward}
use Rattle.b2_machine.specs.declared.moving.Onward.TheVariants as onward
use Rattle.b2_machine.specs.declared.statements.Builder.{Builder}
use Rattle.b2_machine.specs.declared.statements.Builder.TheVariants as builder
use Rattle.b2_machine.specs.declared.statements.Progress.{Progress}
use Rattle.b2_machine.specs.declared.statements.Progress.TheVariants as progress
use Rattle.b2_store.specs.DiskWork.{serves}
use Rattle.b2_sched.specs.Inside.{EnterAsSaid, FramesOwn, HasOwnLine, LeadsOwn, PlaceOwn, PlannedOwn, is_own_line}
use Rattle.b2_machine.specs.Due.{HasDue, due}
use Rattle.b2_machine.specs.declared.rules.Rule.{Rule}
use Rattle.b2_machine.specs.declared.rules.Rule.TheVariants as rule
use Rattle.b2_machine.proofs.DueRules.{has_due}

module _ (part : ℕ) where
  abbrev Has : Private → Type 0
  Has me = HasOwnLine part me

  abbrev EndHas : Ending → Type 0
  EndHas e = HasOwnLine part e.me

  at_own : (p : ℕ) → p ≡ part → (p == part) ≡ true
  at_own p is = ap (λ (n : ℕ). n == part) is ∙ same_number part
    where
      same_number : (n : ℕ) → (n == n) ≡ true
      same_number n = grind (arith, nat_tests)

  -- becoming ready
  without_loops : (fs : List Frame) → FramesOwn part fs → FramesOwn part (without_immediate_loops fs)
  without_loops [] h = tt
  without_loops (f ∷ fs) h = either (FramesOwn part) (not (is_immediate_loop f)) (f ∷ without_immediate_loops fs) (without_immediate_loops fs) (h.0, without_loops fs h.1) (without_loops fs h.1)

  readied : (text : List ℕ) (me : Private) → Has me → Has (readies text me)
  readied text me w = record { part = w.part; place = tt; kept = w.kept; frames = without_loops me.stack w.frames }

  reset_has : (me : Private) → Has me → EndHas (resets me)
  reset_has me w = record { part = w.part; place = tt; kept = tt; frames = tt }

  halted_has : (me : Private) → Has me → EndHas (halted me)
  halted_has me w = record { part = w.part; place = tt; kept = either (PlaceOwn part) (runs_program me) me.place me.kept w.place w.kept; frames = without_loops me.stack w.frames }

  -- what is shown, typed and entered
  shown_has : (x : Access) (a : Answer) (me : Private) → Has me → EndHas (shown_by x a me)
  shown_has (access.Show term bytes column) answer.Done me w = record { part = w.part; place = w.place; kept = w.kept; frames = w.frames }
  shown_has (access.PrintTo addr bytes column) answer.Done me w = record { part = w.part; place = w.place; kept = w.kept; frames = w.frames }
  shown_has x a me w = w

  typed_has : (a : Answer) (me : Private) → Has me → EndHas (typed_by_key a me)
  typed_has answer.Done me w = record { part = w.part; place = w.place; kept = w.kept; frames = w.frames }
  typed_has a me w = w

  put_has : (a : Answer) (me : Private) → Has me → EndHas (put_by a me)
  put_has answer.Done me w = record { part = w.part; place = w.place; kept = tt; frames = tt }
  put_has (answer.Locked q) me w = record { part = w.part; place = w.place; kept = w.kept; frames = w.frames }
  put_has (answer.Refused code) me w = record { part = w.part; place = w.place; kept = w.kept; frames = w.frames }
  put_has a me w = w

  takes_has : (e : Entered) (me : Private) → Has me → Has (takes e me)
  takes_has entered.Empty me w = record { part = w.part; place = w.place; kept = w.kept; frames = w.frames }
  takes_has (entered.Delete n) me w = record { part = w.part; place = w.place; kept = w.kept; frames = w.frames }
  takes_has (entered.Numbered n atoms) me w = record { part = w.part; place = w.place; kept = w.kept; frames = w.frames }
  takes_has (entered.Immediate atoms) me w = record { part = w.part; place = at_own me.part w.part; kept = w.kept; frames = w.frames }

  taken_has : (r : Result Entered LineErr) (me : Private) → Has me → Has (takes_or_refuses r me)
  taken_has (Ok e) me w = takes_has e me w
  taken_has (Err (refusal.At code column)) me w = record { part = w.part; place = w.place; kept = w.kept; frames = w.frames }
  taken_has (Err refusal.NoMemory) me w = w

  line_has : (bytes : List ℕ) (me : Private) → Has me → Has (line_taken bytes me)
  line_has bytes me w = taken_has (reads bytes) (record me { term_column = 0 }) (record { part = w.part; place = w.place; kept = w.kept; frames = w.frames })

  -- special function keys
  called_has : (o : Option Spot) (me : Private) → Has me → Has (calls_where o me)
  called_has None me w = w
  called_has (Some spot) me w =
      either Has (nat_lt (length me.stack) most_frames) (called_at spot me) (refuses A04_TOO_DEEP [] me)
      (record { part = w.part; place = refl; kept = tt; frames = (tt, w.frames) })
      (record { part = w.part; place = w.place; kept = w.kept; frames = w.frames })

  pressed_has : (text : Option (List ℕ)) (o : Option Spot) (me : Private) → Has me → Has (pressed_by text o me)
  pressed_has (Some text) o me w = record { part = w.part; place = w.place; kept = w.kept; frames = w.frames }
  pressed_has None o me w = called_has o me w

  -- where it goes on
  abbrev Own : Place → Type 0
  Own p = is_own_line part p ≡ true

  after_by : (n : Option ℕ) (p : Place) → PlaceOwn part (option_map (line_start p) n)
  after_by None p = tt
  after_by (Some n) p = refl

  after_line : (lines : Lines) (p : Place) → PlaceOwn part (line_after lines p)
  after_line lines p = by p.line
    where
      by : (l : Option ℕ) → PlaceOwn part (option_and_then (λ (n : ℕ). option_map (line_start p) (number_after (Some n) lines)) l)
      by None = tt
      by (Some n) = after_by (number_after (Some n) lines) p

  goal_has : (lines : Lines) (p : Place) (g : Goal) → Own p → PlaceOwn part (goal_place lines p g)
  goal_has lines p (goal.Unit k) h = h
  goal_has lines p (goal.Line n) h = refl
  goal_has lines p goal.NextLine h = after_line lines p

  next_has : (p : Place) (me : Private) (home : Lines) → Own p → PlaceOwn part (following_place p me home)
  next_has p me home h = goal_has home p (unit_or_next (p.unit + 1) (units_at p me home)) h

  goes_has : (o : Option Place) (me : Private) → PlaceOwn part o → Has me → EndHas (goes_to o me)
  goes_has None me h w = readied _ me w
  goes_has (Some q) me h w = record { part = w.part; place = h; kept = w.kept; frames = w.frames }

  jumped_has : (p q : Place) (me : Private) (home : Lines) → Own q → Has me → Has (jumps p q me home)
  jumped_has p q me home h w =
      either Has (not (is_some p.line) && is_some q.line) (enters_program (is_continue (statement_placed p me.immediate home)) q me) (moves_to q me)
      (record { part = w.part; place = h; kept = tt; frames = without_loops me.stack w.frames })
      (record { part = w.part; place = h; kept = w.kept; frames = w.frames })

  faulted_has : (code : ℕ) (o : Option Place) (p : Place) (me : Private) → PlaceOwn part o → Has me → EndHas (faults code o p me)
  faulted_has code None p me h w = record { part = w.part; place = tt; kept = w.kept; frames = without_loops me.stack w.frames }
  faulted_has code (Some q) p me h w = record { part = w.part; place = h; kept = w.kept; frames = w.frames }

  unit_has : (o : Option ℕ) (p : Place) → Own p → PlaceOwn part (option_map (λ k. record p { unit = k }) o)
  unit_has None p h = tt
  unit_has (Some k) p h = h

  error_has : (code : ℕ) (p : Place) (me : Private) (home : Lines) → Own p → PlaceOwn part (error_place code p me home)
  error_has code p me home h = either (PlaceOwn part) (is_taken code) _ None (unit_has (taken_fault p.unit (units_at p me home)) p h) tt

  ends_has : (same : Stepped) (o : Outcome) (p : Place) (me : Private) (home : Lines) → Own p → LeadsOwn part o → Has me → EndHas (ends_by same o p me home)
  ends_has same outcome.Next p me home h k w = goes_has (following_place p me home) me (next_has p me home h) w
  ends_has same (outcome.Jump q) p me home h k w = jumped_has p q me home k w
  ends_has same (outcome.Failed code) p me home h k w = faulted_has code (error_place code p me home) p me (error_has code p me home h) w
  ends_has same outcome.Repeat p me home h k w = w
  ends_has same outcome.Break p me home h k w = goes_has (following_place p me home) me (next_has p me home h) w
  ends_has same outcome.Ready p me home h k w = readied _ me w

  onward_has : (lines : Lines) (p : Place) (way : Onward) → Own p → PlaceOwn part (place_onward lines p way)
  onward_has lines p onward.NextUnit h = h
  onward_has lines p onward.NextLine h = after_line lines p

  ends_onward_has : (same : Stepped) (o : Outcome) (way : Onward) (p : Place) (me : Private) (home : Lines) → Own p → LeadsOwn part o → Has me → EndHas (ends_onward same o way p me home)
  ends_onward_has same outcome.Next way p me home h k w = goes_has (place_onward home p way) me (onward_has home p way h) w
  ends_onward_has same outcome.Break way p me home h k w = goes_has (place_onward home p way) me (onward_has home p way h) w
  ends_onward_has same o way p me home h k w = ends_has same o p me home h k w

  -- statements
  module _ (ways : Ways) (enter : EnterAsSaid ways) where
    listed_has : (b : Bool) (range : ℕ × ℕ) (me : Private) (s : SeenLent) → Has me → Has (lists b range me s).me × PlannedOwn part (lists b range me s).planned
    listed_has true range me s w = (w, tt)
    listed_has false range me s w = (w, tt)

    planned_has : (b : Builder) (p : Place) (me : Private) (s : SeenLent) → Has me → Has (plan_by ways b p me s).me × PlannedOwn part (plan_by ways b p me s).planned
    planned_has (builder.Listing from to) p me s w = listed_has (is_some p.line) (from, to) me s w
    planned_has (builder.Language r) p me s w = enter.plans_own r part me s w
    planned_has builder.Nobody p me s w = (w, tt)

    begun_has : (x : Planned) (b : Builder) (p : Place) (me : Private) (home : Lines) → Own p → PlannedOwn part x → Has me → Has (begun_by x b p me home).me
    begun_has (planned.Done o) b p me home h k w = ends_has counts o p me home h k w
    begun_has (planned.Ask a) b p me home h k w = w

    begins_has : (u : Option Statement) (p : Place) (me : Private) (s : SeenLent) → Own p → Has me → Has (begins_where ways u p me s).me
    begins_has None p me s h w = readied _ me w
    begins_has (Some u) p me s h w =
        let x = planned_has (builder_of ways u) p me s w in
        begun_has (plan_by ways (builder_of ways u) p me s).planned (builder_of ways u) p (plan_by ways (builder_of ways u) p me s).me s.home.lines h x.1 x.0

    shown_goes : (o : Option ℕ) (me : Private) → LeadsOwn part (shown_where o me).outcome
    shown_goes (Some column) me = tt
    shown_goes None me = tt

    finish_has : (b : Builder) (x : Access) (a : Answer) (me : Private) (s : SeenLent) → Has me → Has (finish_by ways b x a me s).me × LeadsOwn part (finish_by ways b x a me s).outcome
    finish_has (builder.Listing from to) x a me s w = (record { part = w.part; place = w.place; kept = w.kept; frames = w.frames }, shown_goes (column_shown x a) me)
    finish_has (builder.Language r) x a me s w = enter.finishes_own r part x a me s w
    finish_has builder.Nobody x a me s w = (w, tt)

    finished_has : (b : Builder) (x : Access) (a : Answer) (way : Onward) (p : Place) (me : Private) (s : SeenLent) → Own p → Has me → EndHas (finishes ways b x a way p me s)
    finished_has b x a way p me s h w =
        let y = finish_has b x a me s w in
        ends_onward_has (repeats a) (finish_by ways b x a me s).outcome way p (finish_by ways b x a me s).me s.home.lines h y.1 y.0

    -- the rules of a step
    abbrev StepHas : StepEnd StoreState → Type 0
    StepHas e = HasOwnLine part e.me

    read_has : (x : Answer) (me : Private) (s : StoreState) → Has me → StepHas (line_read itself serves lends x me s)
    read_has (answer.Line bytes) me s w = line_has bytes me w
    read_has (answer.Special n) me s w = pressed_has (typed_by_mark n (text_in s me.part).lines) (first_opening (is_mark n) (text_in s me.part).lines) me w
    read_has x me s w = w

    carried_has : (who : ℕ) (c : Progress) (p : Place) (whose : At) (me : Private) (s : StoreState) → Own p → Has me → StepHas (carries_out ways itself serves lends who c p whose me s)
    carried_has who (progress.Ended e) p whose me s h w = w
    carried_has who (progress.Asks a b way) p whose me s h w =
        let g = serves s who a in finished_has b a g.answer way p me (seen_by who p.home whose g.after) h w

    by_rule : (r : Rule) (me : Private) (s : StoreState) → HasDue r me → Has me → StepHas (steps_by ways itself serves lends r me s)
    by_rule rule.Reset me s is w = reset_has me w
    by_rule rule.Halt me s is w = halted_has me w
    by_rule rule.Show me s is w = let x = shows_output me in shown_has x (serves s me.part x).answer me w
    by_rule rule.Insert me s is w = typed_has (serves s me.part (inserts_literal me)).answer me w
    by_rule rule.Read me s is w = let g = serves s me.part (access.ReadLine me.term) in read_has g.answer me g.after w
    by_rule rule.Put me s is w = put_has (serves s me.part (puts_numbered me)).answer me w
    by_rule (rule.Execute p) me s is w =
        let whose = whose_by p me s in
        let seen = seen_by me.part p.home whose s in
        let b = begins ways p me seen in
        let h = subst (PlaceOwn part) is w.place in
        carried_has me.part b.progress p whose b.me (lent_to_begin itself serves lends me.part p.home whose s (leaves ways p me seen)) h (begins_has (statement_placed p me.immediate seen.home.lines) p me seen h w)

    pub step_has : (me : Private) (s : StoreState) → Has me → StepHas (step ways itself serves lends me s)
    step_has me s w = by_rule (due me) (without_halt me) s (has_due me) (record { part = w.part; place = w.place; kept = w.kept; frames = w.frames })
