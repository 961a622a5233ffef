-- A statement of control leaves how many of its frames entered each text, but for one that enters or leaves a text or gives all back; and
-- where the partition stood in the texts of others above calls that entered them, it does so after it.
use Rattle.std.proofs.Common.{◌≡◌, ◌≤◌, ◌∙◌, ◌==◌, ◌||◌, ◌&&◌, ◌+◌, ◌-◌, ℕ, Bool, true, false, nat_lt, List, [], ◌∷◌, length, Option, Some, None, Ok, Err, is_some, refl, sym, ap, subst, arith, if◌then◌else◌}
use Rattle.std.proofs.lemmas.Bool.Decides.{nat_tests}
use Rattle.b2_access.specs.Homes.{OutcomeIn, PlaceIn, at_homes}
use Rattle.std.specs.List.{filter, list_any}
use Rattle.b2_dec.specs.Number.{Number}
use Rattle.b2_dec.specs.declared.values.Value.{Value}
use Rattle.b2_text.specs.Program.{Lines, line_at, number_after}
use Rattle.b2_text.specs.Spots.{first_opening, is_mark}
use Rattle.b2_text.specs.declared.spots.Spot.{Spot}
use Rattle.b2_flow.specs.Frames.{enters, is_call, is_entered, is_loop_of}
use Rattle.b2_flow.specs.Stacks.{entered_last, entered_on_top, from_call, from_first, from_loop, has_call, has_loop, has_room, most_frames, top_loop, without_top_loop}
use Rattle.b2_flow.specs.declared.frame.Frame.{Frame}
use Rattle.b2_flow.specs.declared.frame.Frame.TheVariants.{For, Call}
use Rattle.b2_flow.specs.declared.frame.Place.{Place}
use Rattle.b2_flow.specs.declared.frame.Var2.{Var2}
use Rattle.b2_flow.proofs.Loops.{no_call_dropped}
use Rattle.b2_access.specs.Standing.{EndsStanding, FinishesStanding, FramesStand, LeadsStanding, PlaceStands, PlansStanding, SeenAgain, Stands, entered_in, is_open}
use Rattle.b2_access.specs.Steering.{Steered, control_of, put_control, steered, unsteered}
use Rattle.b2_access.specs.declared.planned.Outcome.{Outcome}
use Rattle.b2_access.specs.declared.planned.Outcome.TheVariants as outcome
use Rattle.b2_access.specs.declared.private.Private.{Private}
use Rattle.b2_access.proofs.Choice.{either}
use Rattle.b2_base.specs.declared.codes.TheConstants.{A04_TOO_DEEP, A08_TEXT_BORROWED, P36_NO_LINE, P40_NO_FOR, P41_NO_CALL, P46_NOTHING_KEPT, S26_PROGRAM_ONLY, X77_NO_PARTITION}
use Rattle.b2_atom.specs.declared.rows.TheConstants as row
use Rattle.b2_expr.specs.Workspace.{WorkLeft}
use Rattle.b2_access.specs.Borrowers.{homes_entered, is_marked}
use Rattle.b2_access.proofs.EnteredHomes.{marked_is}
use Rattle.b2_access.specs.Dispatch.{here}
use Rattle.b2_access.specs.Lending.{SeenLent}
use Rattle.b2_access.specs.Placed.{Statement}
use Rattle.b2_access.specs.Places.{line_start}
use Rattle.b2_access.specs.Planning.{Planning, done, goes_or}
use Rattle.b2_access.specs.Entering.{entered_after}
use Rattle.b2_access.specs.Partition.{KeepsNone, without_frames}
use Rattle.b2_access.specs.declared.accesses.Access.{Access}
use Rattle.b2_access.specs.declared.accesses.Access.TheVariants as access
use Rattle.b2_access.specs.declared.accesses.Answer.{Answer}
use Rattle.b2_access.specs.declared.accesses.Answer.TheVariants as answer
use Rattle.b2_access.specs.declared.planned.Planned.{Planned as PlannedState}
use Rattle.b2_access.specs.declared.planned.Planned.TheVariants as planned
use Rattle.b2_access.proofs.Dispatch.{each_dispatch}
use Rattle.b2_stmt.specs.Asked.{carried, is_still, still}
use Rattle.b2_stmt.specs.Clearing.{asked_access, edit_finishes}
use Rattle.b2_stmt.specs.Plan.{acts, acts_unless, around, asked_at, asked_by, by_access, does, ends_at, finish, is_refused, plan, plans_asked, stops}
use Rattle.b2_stmt.specs.Parts.{PartCame, declares, part_came, part_ends, selects_part}
use Rattle.b2_stmt.specs.declared.asked.Asked.{Asked}
use Rattle.b2_stmt.specs.declared.asked.Asked.TheVariants as asked
use Rattle.b2_stmt.proofs.AskedSo.{AskedFor, Calls, GivesBack, asked_open, asked_so}
use Rattle.b2_stmt.proofs.PartsCame.{each_part}
use Rattle.b2_stmt.proofs.HomesKept.{AskedIn, asked_in, either_in, spot_at, spot_in, still_in}
use Rattle.b2_expr.specs.Answers.{Answer as NumberAnswer}
use Rattle.b2_expr.specs.Named.{number_there}
use Rattle.b2_receiver.specs.Assigning.{assigned_number}
use Rattle.b2_access.specs.Jumps.{to_place}
use Rattle.b2_access.specs.Working.{work_of}
use Rattle.b2_stmt.specs.Borrowing.{EntersOthers, asks_of_others, asks_to_drop, asks_to_leave, enters as goes_in, finds_line, lent_came, lent_ends}
use Rattle.b2_stmt.specs.Calls.{back_from, called_where, forgets_all, goes_back, leaves_call, may_forget_all}
use Rattle.b2_stmt.specs.RunControl.{continues, runs, runs_from, runs_where, stops_program}
use Rattle.b2_stmt.specs.Frames.{with_frame}
use Rattle.b2_stmt.specs.Loops.{goes_round, is_over, loop_begins, loop_counts, loop_element, made_loop, next_value, nexts, tested, without_loop}
use Rattle.b2_stmt.specs.Marked.{calls_into, calls_mark, code_of_none, ends_taken, ends_with_args, mark_in, mark_place, place_in, takes_args}
use Rattle.b2_stmt.specs.declared.loops.Loop.{Loop}

same_number : (n : ℕ) → (n == n) ≡ true
same_number n = grind (arith, nat_tests)

-- as many frames entered each text
abbrev Same : List Frame → List Frame → Type 0
Same fs gs = (g : ℕ) → entered_in g fs ≡ entered_in g gs

-- only calls enter texts, and those that are left out for a loop are none
calls_only : (g : ℕ) (fs : List Frame) → entered_in g (filter is_call fs) ≡ entered_in g fs
calls_only g [] = refl
calls_only g (For x limit step body ∷ fs) = calls_only g fs
calls_only g (Call back entered ∷ fs) = ap (λ (n : ℕ). if enters g (Call back entered) then n + 1 else n) (calls_only g fs)

same_from_loop : (v : Var2) (fs : List Frame) → has_loop v fs ≡ true → Same (from_loop v fs) fs
same_from_loop v fs has g = sym (calls_only g (from_loop v fs)) ∙ ap (entered_in g) (no_call_dropped v fs has) ∙ calls_only g fs

same_from_call : (fs : List Frame) → Same (from_call fs) fs
same_from_call [] g = refl
same_from_call (Call back entered ∷ fs) g = refl
same_from_call (For x limit step body ∷ fs) g = same_from_call fs g

same_without_top : (fs : List Frame) → Same (without_top_loop fs) fs
same_without_top [] g = refl
same_without_top (Call back entered ∷ fs) g = refl
same_without_top (For x limit step body ∷ fs) g = refl

same_without_loop : (v : Var2) (fs : List Frame) → Same (without_loop v fs) fs
same_without_loop v fs g = by (has_loop v fs) refl
  where
    by : (b : Bool) → has_loop v fs ≡ b → entered_in g (if b then without_top_loop (from_loop v fs) else fs) ≡ entered_in g fs
    by true is = same_without_top (from_loop v fs) g ∙ same_from_loop v fs is g
    by false is = refl

module _ (p : ℕ) where
  -- what stands over some frames stands over others by which as many entered each text
  still_open : (fs gs : List Frame) → Same fs gs → (h : ℕ) → is_open p gs h ≡ true → is_open p fs h ≡ true
  still_open fs gs same h is = ap (λ (n : ℕ). h == p || nat_lt 0 n) (same h) ∙ is

  still_stands : (fs gs : List Frame) → Same fs gs → (o : Option Place) → PlaceStands p gs o → PlaceStands p fs o
  still_stands fs gs same None w = tt
  still_stands fs gs same (Some q) w = still_open fs gs same q.home w

  -- the frames below
  below : (f : Frame) (fs : List Frame) → FramesStand p (f ∷ fs) → FramesStand p fs
  below (For x limit step body) fs w = w.1
  below (Call back entered) fs w = w.1

  from_stands : (passes : Frame → Bool) (fs : List Frame) → FramesStand p fs → FramesStand p (from_first passes fs)
  from_stands passes [] w = tt
  from_stands passes (f ∷ fs) w = either (FramesStand p) (passes f) (f ∷ fs) (from_first passes fs) w (from_stands passes fs (below f fs w))

  top_stands : (fs : List Frame) → FramesStand p fs → FramesStand p (without_top_loop fs)
  top_stands [] w = tt
  top_stands (For x limit step body ∷ fs) w = w.1
  top_stands (Call back entered ∷ fs) w = w

  loop_stands : (v : Var2) (fs : List Frame) → FramesStand p fs → FramesStand p (without_loop v fs)
  loop_stands v fs w = either (FramesStand p) (has_loop v fs) (without_top_loop (from_loop v fs)) fs (top_stands (from_loop v fs) (from_stands (is_loop_of v) fs w)) w

-- WHAT A STATEMENT LEAVES, from some frames, at a place that stands over them
module _ (p : ℕ) (base : List Frame) (place : Option Place) (stands : PlaceStands p base place) where
  Good : Option Place → List Frame → Type 0
  Good kept fs = (PlaceStands p fs kept × FramesStand p fs) × Same fs base

  EndsWell : Steered → Type 0
  EndsWell e = Good e.work.kept e.work.stack × LeadsStanding p e.work.stack place e.outcome

  placed : (fs : List Frame) → Same fs base → PlaceStands p fs place
  placed fs same = still_stands p fs base same place stands

  -- nothing is changed, and it goes on, or fails
  goes : (x : Private) (o : Outcome) → Good x.kept x.stack → LeadsStanding p x.stack place o → EndsWell (unsteered x o)
  unfolding EndsWell Good
  goes x o w leads = (w, leads)

  failed : (x : Private) (code : ℕ) → Good x.kept x.stack → EndsWell (unsteered x (outcome.Failed code))
  unfolding EndsWell Good
  failed x code w = (w, placed x.stack w.1)

  -- one frame more that enters no text
  framed : (f : Frame) (o : Outcome) (x : Private) → Good x.kept x.stack → FramesStand p (f ∷ x.stack) → ((g : ℕ) → entered_in g (f ∷ x.stack) ≡ entered_in g x.stack) → LeadsStanding p (f ∷ x.stack) place o → EndsWell (with_frame f o x)
  unfolding EndsWell Good
  framed f o x w over same leads =
      either EndsWell (nat_lt (length x.stack) most_frames) (record { work = record (control_of x) { stack = f ∷ x.stack }; outcome = o }) _
      (((still_stands p (f ∷ x.stack) x.stack same x.kept w.0.0, over), λ g. same g ∙ w.1 g), leads) (w, placed x.stack w.1)

  -- loops
  made_well : (o : Option ℕ) (l : Loop) (body : Place) (x : Private) → Good x.kept x.stack → is_open p base body.home ≡ true → EndsWell (made_loop o l body x)
  unfolding Good
  made_well (Some code) l body x w h = failed x code w
  made_well None l body x w h =
      let fs = without_loop l.var x.stack in
      let same : Same fs base = λ g. same_without_loop l.var x.stack g ∙ w.1 g in
      framed (For l.var l.limit l.step body) outcome.Next (record x { stack = fs })
      ((still_stands p fs x.stack (same_without_loop l.var x.stack) x.kept w.0.0, loop_stands p l.var x.stack w.0.1), same)
      (still_open p fs base same body.home h, loop_stands p l.var x.stack w.0.1) (λ g. refl) (placed fs same)

  begins_well : (l : Loop) (body : Place) (x : Private) → Good x.kept x.stack → is_open p base body.home ≡ true → EndsWell (loop_begins l body x)
  begins_well l body x w h = made_well (assigned_number (loop_element l.var) l.from x.vars).code l body (record x { vars = (assigned_number (loop_element l.var) l.from x.vars).vars }) w h

  tested_well : (o : Option ℕ) (over : Bool) (body : Place) (x : Private) → Good x.kept x.stack → is_open p base body.home ≡ true → EndsWell (tested o over body x)
  unfolding EndsWell Good
  tested_well (Some code) over body x w h = failed x code w
  tested_well None true body x w h =
      let fs = without_top_loop x.stack in
      let same : Same fs base = λ g. same_without_top x.stack g ∙ w.1 g in
      (((still_stands p fs x.stack (same_without_top x.stack) x.kept w.0.0, top_stands p x.stack w.0.1), same), placed fs same)
  tested_well None false body x w h = (w, still_open p x.stack base w.1 body.home h)

  counts_well : (y : NumberAnswer) (v : Var2) (limit step : Number) (body : Place) (x : Private) → Good x.kept x.stack → is_open p base body.home ≡ true → EndsWell (loop_counts y v limit step body x)
  counts_well (Err code) v limit step body x w h = failed x code w
  counts_well (Ok y) v limit step body x w h =
      tested_well (assigned_number (loop_element v) y x.vars).code (is_over y limit step) body (record x { vars = (assigned_number (loop_element v) y x.vars).vars }) w h

  LoopStands : Option (Number × Number × Place) → Type 0
  LoopStands None = Unit {0}
  LoopStands (Some q) = is_open p base q.2.home ≡ true

  top_loop_stands : (fs : List Frame) → Same fs base → FramesStand p fs → LoopStands (top_loop fs)
  unfolding LoopStands
  top_loop_stands [] same w = tt
  top_loop_stands (For v limit step body ∷ fs) same w = still_open p base fs (λ g. sym (same g)) body.home w.0
  top_loop_stands (Call back entered ∷ fs) same w = tt

  round_well : (o : Option (Number × Number × Place)) (v : Var2) (x : Private) → Good x.kept x.stack → LoopStands o → EndsWell (goes_round o v x)
  unfolding LoopStands
  round_well None v x w h = failed x P40_NO_FOR w
  round_well (Some q) v x w h = counts_well (next_value x.mode (number_there (record { vars = x.vars; element = loop_element v })) q.1) v q.0 q.1 q.2 x w h

  nexts_well : (v : Var2) (x : Private) → Good x.kept x.stack → EndsWell (nexts v x)
  unfolding Good
  nexts_well v x w = by (has_loop v x.stack) refl
    where
      by : (b : Bool) → has_loop v x.stack ≡ b → EndsWell (if b then goes_round (top_loop (from_loop v x.stack)) v (record x { stack = from_loop v x.stack }) else unsteered x (outcome.Failed P40_NO_FOR))
      by true is =
          let fs = from_loop v x.stack in
          let frames = from_stands p (is_loop_of v) x.stack w.0.1 in
          let same : Same fs base = λ g. same_from_loop v x.stack is g ∙ w.1 g in
          round_well (top_loop fs) v (record x { stack = fs }) ((still_stands p fs x.stack (same_from_loop v x.stack is) x.kept w.0.0, frames), same) (top_loop_stands fs same frames)
      by false is = failed x P40_NO_FOR w

  -- calls
  called_well : (line : Option (List ℕ)) (q : Place) (back : Option Place) (x : Private) → Good x.kept x.stack → is_open p base q.home ≡ true → PlaceStands p base back → EndsWell (called_where line q back x)
  unfolding Good
  called_well None q back x w h k = failed x P36_NO_LINE w
  called_well (Some line) q back x w h k = framed (Call back None) (outcome.Jump q) x w (still_stands p x.stack base w.1 back k, w.0.1) (λ g. refl) (still_open p x.stack base w.1 q.home h)

  mark_well : (to : Option Place) (args : List Value) (back : Option Place) (x : Private) → Good x.kept x.stack → PlaceStands p base to → PlaceStands p base back → EndsWell (calls_mark to args back x)
  unfolding EndsWell Good
  mark_well None args back x w h k = failed x (code_of_none x.global) w
  mark_well (Some q) args back x w h k =
      either EndsWell (has_room x.stack) (record { work = record (control_of x) { work = record (work_of x) { args = Some args }; stack = Call back None ∷ x.stack }; outcome = outcome.Jump q }) _
      (((still_stands p (Call back None ∷ x.stack) x.stack (λ g. refl) x.kept w.0.0, (still_stands p x.stack base w.1 back k, w.0.1)), w.1), still_open p x.stack base w.1 q.home h) (failed x A04_TOO_DEEP w)

  -- the nearest call, where it entered no text
  leads_back : (back : Option Place) (fs : List Frame) → PlaceStands p fs back → LeadsStanding p fs place (to_place back)
  leads_back None fs w = tt
  leads_back (Some q) fs w = w

  undone : (how : Option Place → Outcome) (fs : List Frame) (x : Private) → Same fs base → PlaceStands p base x.kept → FramesStand p fs → entered_on_top fs ≡ None → Good x.kept x.stack
      → ((back : Option Place) (gs : List Frame) → Same gs base → PlaceStands p gs back → LeadsStanding p gs place (how back)) → EndsWell (back_from how fs x)
  unfolding EndsWell Good
  undone how [] x same kept w none good leads = failed x P41_NO_CALL good
  undone how (For v limit step body ∷ fs) x same kept w none good leads = failed x P41_NO_CALL good
  undone how (Call back None ∷ fs) x same kept w none good leads = (((still_stands p fs base same x.kept kept, w.1), same), leads back fs same w.0)
  undone how (Call back (Some g) ∷ fs) x same kept w none good leads = cc

  leaves_well : (how : Option Place → Outcome) (x : Private) → Good x.kept x.stack → entered_last x.stack ≡ None → ((back : Option Place) (gs : List Frame) → Same gs base → PlaceStands p gs back → LeadsStanding p gs place (how back))
      → EndsWell (leaves_call how x)
  unfolding Good
  leaves_well how x w none leads =
      either EndsWell (has_call x.stack) _ _
      (undone how (from_call x.stack) x (λ g. same_from_call x.stack g ∙ w.1 g) (still_stands p base x.stack (λ g. sym (w.1 g)) x.kept w.0.0) (from_stands p is_call x.stack w.0.1) none w leads) (failed x P41_NO_CALL w)

-- WHAT IT PLANS, where it has ended: nothing was entered or left
module _ (me : Private) (w : Stands me) where
  Well : Steered → Type 0
  Well e = EndsWell me.part me.stack me.place w.place e

  good : Good me.part me.stack me.place w.place me.kept me.stack
  unfolding Good
  good = ((w.kept, w.frames), λ g. refl)

  fails : (code : ℕ) → Well (unsteered me (outcome.Failed code))
  unfolding Well
  fails code = failed me.part me.stack me.place w.place me code good

  -- all texts that it names are open to it
  opens : ℕ → Bool
  opens g = is_open me.part me.stack g

  own_open : is_open me.part me.stack me.part ≡ true
  own_open = ap (λ (b : Bool). b || nat_lt 0 (entered_in me.part me.stack)) (same_number me.part)

  leads_in : (o : Outcome) → OutcomeIn (is_open me.part me.stack) o → LeadsStanding me.part me.stack me.place o
  leads_in (outcome.Jump q) h = h
  leads_in outcome.Ready h = tt
  leads_in outcome.Next h = w.place
  leads_in outcome.Break h = w.place
  leads_in outcome.Repeat h = w.place
  leads_in (outcome.Failed code) h = w.place

  -- what was asked of the private state, where it asks for no text of another
  returns_well : (o : Option ℕ) → entered_last me.stack ≡ o → asks_to_leave o ≡ None → Well (goes_back me)
  unfolding Well
  returns_well None is none = leaves_well me.part me.stack me.place w.place to_place me good is (λ back gs same k. leads_back me.part me.stack me.place w.place back gs k)
  returns_well (Some g) is none = cc

  forgotten_well : (o : Option ℕ) → entered_last me.stack ≡ o → Well (if is_some o then unsteered me (outcome.Failed P41_NO_CALL) else leaves_call (λ back. outcome.Next) me)
  unfolding Well
  forgotten_well None is = leaves_well me.part me.stack me.place w.place (λ back. outcome.Next) me good is (λ back gs same k. still_stands me.part gs me.stack same me.place w.place)
  forgotten_well (Some g) is = fails P41_NO_CALL

  unless_dropped : (b : Bool) (e : Steered) (code : ℕ) → asks_to_drop b me ≡ None → Well (if b then e else unsteered me (outcome.Failed code))
  unless_dropped true e code none = cc
  unless_dropped false e code none = fails code

  runs_well : (line : Option (List ℕ)) (n : ℕ) → asks_to_drop (is_some line) me ≡ None → Well (runs_where line n me)
  runs_well None n none = fails P36_NO_LINE
  runs_well (Some line) n none = cc

  run_well : (n : Option ℕ) (own : Lines) → asks_to_drop (finds_line n own) me ≡ None → Well (runs n own me)
  run_well None own none = cc
  run_well (Some n) own none = runs_well (line_at n own) n none

  continues_well : (o : Option Place) → me.kept ≡ o → Well (continues o me)
  unfolding Well
  continues_well None is = fails P46_NOTHING_KEPT
  continues_well (Some q) is = goes me.part me.stack me.place w.place me (outcome.Jump q) good (subst (PlaceStands me.part me.stack) is w.kept)

  stopped_well : (shown : List ℕ) (q : Place) (after : Option Place) → PlaceStands me.part me.stack after → Well (stops_program shown q after me)
  unfolding Well EndsWell Good
  stopped_well shown q after h = (((either (PlaceStands me.part me.stack) (is_some q.line) after me.kept h w.kept, w.frames), λ g. refl), tt)

  asked_well : (x : Asked) (q : Place) (own home : Lines) → me.place ≡ Some q → AskedIn (at_homes (is_open me.part me.stack)) x → asks_of_others x q me own home ≡ None → Well (carried x q me own home)
  unfolding Well EndsWell Good AskedIn
  asked_well (asked.Nothing o) q own home is h none = goes me.part me.stack me.place w.place me o good (leads_in o h)
  asked_well (asked.Begin l body) q own home is h none = begins_well me.part me.stack me.place w.place l body me good h
  asked_well (asked.Next v) q own home is h none = nexts_well me.part me.stack me.place w.place v me good
  asked_well (asked.Call n back) q own home is h none = called_well me.part me.stack me.place w.place (line_at n home) (line_start q n) back me good (subst (PlaceStands me.part me.stack) is w.place) h
  asked_well asked.Return q own home is h none = returns_well (entered_last me.stack) refl none
  asked_well (asked.Forget true) q own home is h none = unless_dropped (may_forget_all q me) _ P41_NO_CALL none
  asked_well (asked.Forget false) q own home is h none = forgotten_well (entered_last me.stack) refl
  asked_well (asked.Stop shown after) q own home is h none = stopped_well shown q after h
  asked_well (asked.Select mode) q own home is h none = (good, w.place)
  asked_well (asked.Run n) q own home is h none = run_well n own none
  asked_well asked.Continue q own home is h none = continues_well me.kept refl
  asked_well (asked.Pass turns) q own home is h none = (good, w.place)
  asked_well (asked.CallMark n args back) q own home is h none =
      let at_home = spot_at (at_homes (is_open me.part me.stack)) q (first_opening (is_mark n) home) (subst (PlaceStands me.part me.stack) is w.place) in
      let in_own = spot_in (at_homes (is_open me.part me.stack)) me.part (first_opening (is_mark n) own) own_open in
      mark_well me.part me.stack me.place w.place (mark_place n q me.part own home) args back me good (either_in (at_homes (is_open me.part me.stack)) (mark_in q.home n home) (mark_in me.part n own) at_home in_own) h

  -- WHAT IT PLANS
  Planned : PlannedState → Private → Type 0
  Planned (planned.Done o) after = EndsStanding me after o × ((g : ℕ) → entered_in g after.stack ≡ entered_in g me.stack)
  Planned (planned.Ask a) after = Unit {0}

  PlanStands : Planning → Type 0
  PlanStands x = Planned x.planned x.me

  ends_standing : (s : SeenLent) (e : Steered) → Well e → PlanStands (done s (steered me e))
  unfolding Well EndsWell Good Planned PlanStands
  ends_standing s e h = (record { kept = h.0.0.0; frames = h.0.0.1; leads = h.1 }, h.0.1)

  by_asked : (o : Option Access) (s : SeenLent) (e : Steered) → (o ≡ None → Well e) → PlanStands (by_access o s me e)
  unfolding Planned PlanStands
  by_asked None s e h = ends_standing s e (h refl)
  by_asked (Some a) s e h = tt

  taken_well : (o : Option (List Value)) (r : WorkLeft) → Well (ends_taken o r me)
  unfolding Well EndsWell Good
  taken_well None r = (good, w.place)
  taken_well (Some xs) r = (good, by r.code)
    where
      by : (o : Option ℕ) → LeadsStanding me.part me.stack me.place (goes_or outcome.Next o)
      by None = w.place
      by (Some code) = w.place

  acts_standing : (u : Statement) (q : Place) (s : SeenLent) → me.place ≡ Some q → PlanStands (acts u (here q me s) me s)
  unfolding Well
  acts_standing u q s is =
      let h = here q me s in
      let x = asked_by u h me s in
      let at : is_open me.part me.stack q.home ≡ true = subst (PlaceStands me.part me.stack) is w.place in
      let leads = still u.row u.tree h (around me s) s.home.lines in
      either PlanStands (is_still u.row) _ _ (ends_standing s (unsteered me leads) (goes me.part me.stack me.place w.place me leads good (leads_in leads (still_in (at_homes (is_open me.part me.stack)) u.row u.tree h (around me s) s.home.lines at))))
      (either PlanStands (u.row == row.DEFFN_MARKED) (ends_with_args (takes_args u.tree me s) me s) (plans_asked x q me s)
      (ends_standing (record s { globals = (takes_args u.tree me s).work.globals }) (ends_taken me.args (takes_args u.tree me s) me) (taken_well me.args (takes_args u.tree me s)))
      (by_asked (asks_of_others x q me s.own.lines s.home.lines) s (carried x q me s.own.lines s.home.lines)
      (λ none. asked_well x q s.own.lines s.home.lines is (asked_in (at_homes (is_open me.part me.stack)) u.row u.tree h (around me s) s.home.lines at) none)))

  unless_standing : (o : Option Access) (u : Statement) (q : Place) (s : SeenLent) → me.place ≡ Some q → PlanStands (acts_unless o u (here q me s) me s)
  unfolding Planned PlanStands
  unless_standing None u q s is = acts_standing u q s is
  unless_standing (Some a) u q s is = tt

  plan_standing : (s : SeenLent) → PlanStands (plan me s)
  unfolding Well
  plan_standing s =
      each_dispatch is_refused (stops me s) (does me s) me s PlanStands (ends_standing s (unsteered me outcome.Ready) (goes me.part me.stack me.place w.place me outcome.Ready good tt))
      (ends_standing s (unsteered me (outcome.Failed S26_PROGRAM_ONLY)) (fails S26_PROGRAM_ONLY))
      (λ q is u. unless_standing (asked_access u.row u.tree me.declared (homes_entered me.stack)) u q s is)

by_planned : (me : Private) (w : Stands me) (x : Planning) (o : Outcome) → PlanStands me w x → x.planned ≡ planned.Done o → EndsStanding me x.me o × ((g : ℕ) → entered_in g x.me.stack ≡ entered_in g me.stack)
unfolding Planned PlanStands
by_planned me w x o h is = subst (λ (p : PlannedState). Planned me w p x.me) is h

pub plans_standing : PlansStanding plan
plans_standing me s o is w = by_planned me w (plan me s) o (plan_standing me w s) is

-- HOW IT FINISHES. Once all are given back, no frame is left.
none_entered : (g : ℕ) (fs : List Frame) → list_any (enters g) fs ≡ false → entered_in g fs ≡ 0
none_entered g [] none = refl
none_entered g (For v limit step body ∷ fs) none = none_entered g fs none
none_entered g (Call back entered ∷ fs) none = by (enters g (Call back entered)) (λ rest. none_entered g fs rest) none
  where
    by : (b : Bool) → (list_any (enters g) fs ≡ false → entered_in g fs ≡ 0) → (b || list_any (enters g) fs) ≡ false → (if b then entered_in g fs + 1 else entered_in g fs) ≡ 0
    by true rest none = cc
    by false rest none = rest none

given_back : (g : ℕ) (fs : List Frame) → 1 ≤ g → g ≤ 16 → 0 ≡ (if is_marked g (homes_entered fs) then 0 else entered_in g fs)
given_back g fs low high = by (list_any (enters g) fs) refl
  where
    by : (b : Bool) → list_any (enters g) fs ≡ b → 0 ≡ (if is_marked g (homes_entered fs) then 0 else entered_in g fs)
    by true is = sym (ap (λ (b : Bool). if b then 0 else entered_in g fs) (marked_is fs g low high ∙ is))
    by false is = sym (ap (λ (b : Bool). if b then 0 else entered_in g fs) (marked_is fs g low high ∙ is) ∙ none_entered g fs is)

same_test : (g h : ℕ) → (g == h) ≡ (h == g)
same_test g h = grind (arith, nat_tests)

one_more : (k : ℕ) → nat_lt 0 (k + 1) ≡ true
one_more k = grind (arith, nat_tests)

one_less : (k n : ℕ) → k + 1 ≡ n → k ≡ n - 1
one_less k n is = grind (arith)

-- one frame more, and one less
entered_more : (b c : Bool) (k : ℕ) → b ≡ c → (if b then k + 1 else k) ≡ (if c then k + 1 else k)
entered_more b c k is = ap (λ (b : Bool). if b then k + 1 else k) is

entered_less : (b : Bool) (k n : ℕ) → (if b then k + 1 else k) ≡ n → k ≡ (if b then n - 1 else n)
entered_less true k n is = one_less k n is
entered_less false k n is = is

-- what was open stays so under one frame more
more_open : (b c : Bool) (k : ℕ) → (b || nat_lt 0 k) ≡ true → (b || nat_lt 0 (if c then k + 1 else k)) ≡ true
more_open true c k is = refl
more_open false true k is = one_more k
more_open false false k is = is

still_placed : (p : ℕ) (back : Option Place) (entered : Option ℕ) (fs : List Frame) (o : Option Place) → PlaceStands p fs o → PlaceStands p (Call back entered ∷ fs) o
still_placed p back entered fs None w = tt
still_placed p back entered fs (Some q) w = more_open (q.home == p) (enters q.home (Call back entered)) (entered_in q.home fs) w

-- the text that it entered is open
opened : (p h : ℕ) (back : Option Place) (fs : List Frame) → is_open p (Call back (Some h) ∷ fs) h ≡ true
opened p h back fs = ap (λ (b : Bool). h == p || nat_lt 0 (if b then entered_in h fs + 1 else entered_in h fs)) (same_number h) ∙ by (h == p)
  where
    by : (b : Bool) → (b || nat_lt 0 (entered_in h fs + 1)) ≡ true
    by true = refl
    by false = one_more (entered_in h fs)

-- without a call nothing was entered last
none_last : (fs : List Frame) → has_call fs ≡ false → entered_last fs ≡ None
none_last [] none = refl
none_last (For v limit step body ∷ fs) none = none_last fs none
none_last (Call back entered ∷ fs) none = cc

module _ (me : Private) (w : Stands me) where
  Ends : Access → Answer → Steered → Type 0
  Ends x a e = EndsStanding me (put_control e.work me) e.outcome × ((g : ℕ) → 1 ≤ g → g ≤ 16 → entered_in g e.work.stack ≡ entered_after x a g (entered_in g me.stack))

  own_alone : is_open me.part [] me.part ≡ true
  own_alone = ap (λ (b : Bool). b || nat_lt 0 0) (same_number me.part)

  -- nothing was changed of the frames and of what is kept
  unchanged : (x : Access) (a : Answer) (e : Steered) → e.work.stack ≡ me.stack → e.work.kept ≡ me.kept → LeadsStanding me.part me.stack me.place e.outcome → ((g k : ℕ) → k ≡ entered_after x a g k) → Ends x a e
  unfolding Ends
  unchanged x a e stack kept leads after = (
    record {
      kept = subst (λ (fs : List Frame). PlaceStands me.part fs e.work.kept) (sym stack) (subst (PlaceStands me.part me.stack) (sym kept) w.kept);
      frames = subst (FramesStand me.part) (sym stack) w.frames;
      leads = subst (λ (fs : List Frame). LeadsStanding me.part fs me.place e.outcome) (sym stack) leads;
    },
    λ g low high. ap (entered_in g) stack ∙ after g (entered_in g me.stack),
  )

  -- no frame is left, and nothing is kept
  all_given : (x : Access) (a : Answer) (e : Steered) (homes : ℕ) → homes ≡ homes_entered me.stack → e.work.stack ≡ [] → e.work.kept ≡ None → LeadsStanding me.part [] me.place e.outcome
      → ((g k : ℕ) → (if is_marked g homes then 0 else k) ≡ entered_after x a g k) → Ends x a e
  unfolding Ends
  all_given x a e homes is stack kept leads after = (
    record {
      kept = subst (PlaceStands me.part e.work.stack) (sym kept) tt;
      frames = subst (FramesStand me.part) (sym stack) tt;
      leads = subst (λ (fs : List Frame). LeadsStanding me.part fs me.place e.outcome) (sym stack) leads;
    },
    λ g low high.
        ap (entered_in g) stack ∙ given_back g me.stack low high ∙ sym (ap (λ (n : ℕ). if is_marked g n then 0 else entered_in g me.stack) is) ∙ after g (entered_in g me.stack),
  )

  -- the step is repeated, or a code came
  repeats : (x : Access) (a : Answer) → ((g k : ℕ) → k ≡ entered_after x a g k) → Ends x a (unsteered me outcome.Repeat)
  repeats x a after = unchanged x a (unsteered me outcome.Repeat) refl refl w.place after

  refused : (x : Access) (a : Answer) (code : ℕ) → ((g k : ℕ) → k ≡ entered_after x a g k) → Ends x a (unsteered me (outcome.Failed code))
  refused x a code after = unchanged x a (unsteered me (outcome.Failed code)) refl refl w.place after

  -- lines that are cleared, and names
  all_cleared : (name : Option (List ℕ)) (homes : ℕ) (a : Answer) → homes ≡ homes_entered me.stack → Ends (access.ClearAll name homes) a (edit_finishes (access.ClearAll name homes) a me)
  all_cleared name homes answer.Done is = all_given (access.ClearAll name homes) answer.Done _ homes is refl refl tt (λ g k. refl)
  all_cleared name homes (answer.Locked q) is = refused (access.ClearAll name homes) (answer.Locked q) A08_TEXT_BORROWED (λ g k. refl)
  all_cleared name homes a is = repeats (access.ClearAll name homes) a (λ g k. refl)

  erased : (from to homes : ℕ) (a : Answer) → homes ≡ homes_entered me.stack → Ends (access.Erase from to homes) a (edit_finishes (access.Erase from to homes) a me)
  erased from to homes answer.Done is = all_given (access.Erase from to homes) answer.Done _ homes is refl refl tt (λ g k. refl)
  erased from to homes (answer.Locked q) is = refused (access.Erase from to homes) (answer.Locked q) A08_TEXT_BORROWED (λ g k. refl)
  erased from to homes a is = repeats (access.Erase from to homes) a (λ g k. refl)

  named : (x : Access) (a : Answer) (k : PartCame) → ((g k : ℕ) → k ≡ entered_after x a g k) → Ends x a (part_ends k (unsteered me outcome.Repeat) me)
  named x a k after =
      each_part (Ends x a) me (λ name. unchanged x a (declares name me) refl refl w.place after) (λ name. unchanged x a (selects_part name me) refl refl w.place after) k (unsteered me outcome.Repeat)
      (λ code. refused x a code after) (repeats x a after)

  -- a text is entered: the call stands on top
  called_there : (h : ℕ) (q : Place) (args : List Value) (back : Option Place) (name : List ℕ) (mark : ℕ) (spot : Spot) → q.home ≡ h → has_room me.stack ≡ true → PlaceStands me.part me.stack back
      → Ends (access.Enter name mark) (answer.Entered h spot) (calls_into (Some h) q args back me)
  unfolding Ends
  called_there h q args back name mark spot home room stands =
      let e : Steered = record { work = record (control_of me) { work = record (work_of me) { args = Some args }; stack = Call back (Some h) ∷ me.stack }; outcome = outcome.Jump q } in
      subst (λ (b : Bool). Ends (access.Enter name mark) (answer.Entered h spot) (if b then e else unsteered me (outcome.Failed A04_TOO_DEEP))) (sym room) (
        record {
          kept = still_placed me.part back (Some h) me.stack me.kept w.kept;
          frames = (stands, w.frames);
          leads = subst (λ (n : ℕ). is_open me.part (Call back (Some h) ∷ me.stack) n ≡ true) (sym home) (opened me.part h back me.stack);
        },
        λ g low high. entered_more (h == g) (g == h) (entered_in g me.stack) (same_test h g),
      )

  enters_there : (s : SeenLent) (h : ℕ) (spot : Spot) (name : List ℕ) (mark : ℕ) (x : Asked) → Calls me s mark x → AskedIn (at_homes (is_open me.part me.stack)) x
      → Ends (access.Enter name mark) (answer.Entered h spot) (goes_in h spot x me)
  unfolding Calls AskedIn
  enters_there s h spot name mark (asked.CallMark n args back) why open_there = called_there h (place_in h spot) args back name mark spot refl why.0 (stands_so back open_there)
    where
      stands_so : (back : Option Place) → PlaceIn (is_open me.part me.stack) back → PlaceStands me.part me.stack back
      stands_so None k = tt
      stands_so (Some q) k = k
  enters_there s h spot name mark x why open_there = absurd why

  entered : (s : SeenLent) (q : Place) (name : List ℕ) (mark : ℕ) (a : Answer) → Calls me s mark (asked_at me s)
      → Ends (access.Enter name mark) a (lent_ends (lent_came (access.Enter name mark) a) (asked_at me s) q me s.own.lines s.home.lines (edit_finishes (access.Enter name mark) a me))
  entered s q name mark (answer.Entered h spot) why = enters_there s h spot name mark (asked_at me s) why (asked_open me s w)
  entered s q name mark answer.NoPart why = refused (access.Enter name mark) answer.NoPart X77_NO_PARTITION (λ g k. refl)
  entered s q name mark (answer.Refused code) why = refused (access.Enter name mark) (answer.Refused code) code (λ g k. refl)
  entered s q name mark a why = repeats (access.Enter name mark) a (λ g k. refl)

  -- it is left: the call on top is taken away that entered it
  back_there : (home : ℕ) (fs : List Frame) → Same fs me.stack → FramesStand me.part fs → entered_on_top fs ≡ Some home → me.kept ≡ None → Ends (access.Leave home) answer.Done (back_from to_place fs me)
  unfolding Ends
  back_there home [] same frames is none = cc
  back_there home (For v limit step body ∷ fs) same frames is none = cc
  back_there home (Call back entered ∷ fs) same frames is none = (
    record {
      kept = subst (PlaceStands me.part fs) (sym none) tt;
      frames = frames.1;
      leads = leads_back me.part me.stack me.place w.place back fs frames.0;
    },
    λ g low high.
        entered_less (g == home) (entered_in g fs) (entered_in g me.stack) (entered_more (g == home) (enters g (Call back entered)) (entered_in g fs) (same_test g home ∙ sym (ap (λ (o : Option ℕ). is_entered g o) is)) ∙ same g),
  )

  none_some : {home : ℕ} → None ≡ Some home → ⊥
  none_some wrong = cc

  left_there : (home : ℕ) → entered_last me.stack ≡ Some home → me.kept ≡ None → Ends (access.Leave home) answer.Done (goes_back me)
  left_there home is none = by (has_call me.stack) refl
    where
      by : (b : Bool) → has_call me.stack ≡ b → Ends (access.Leave home) answer.Done (if b then back_from to_place (from_call me.stack) me else unsteered me (outcome.Failed P41_NO_CALL))
      by true has = back_there home (from_call me.stack) (same_from_call me.stack) (from_stands me.part is_call me.stack w.frames) is none
      by false has = absurd (none_some (sym (none_last me.stack has) ∙ is))

  left : (s : SeenLent) (q : Place) (home : ℕ) (a : Answer) → entered_last me.stack ≡ Some home → me.kept ≡ None
      → Ends (access.Leave home) a (lent_ends (lent_came (access.Leave home) a) (asked_at me s) q me s.own.lines s.home.lines (edit_finishes (access.Leave home) a me))
  left s q home answer.Done is none = left_there home is none
  left s q home a is none = repeats (access.Leave home) a (λ g k. refl)

  -- all are given back
  begins_anew : (homes : ℕ) (n : Option ℕ) → homes ≡ homes_entered me.stack → Ends (access.Drop homes) answer.Done (runs_from n me)
  begins_anew homes None is = all_given (access.Drop homes) answer.Done _ homes is refl refl tt (λ g k. refl)
  begins_anew homes (Some n) is = all_given (access.Drop homes) answer.Done _ homes is refl refl own_alone (λ g k. refl)

  runs_there : (homes : ℕ) (n : ℕ) (line : Option (List ℕ)) → is_some line ≡ true → homes ≡ homes_entered me.stack → Ends (access.Drop homes) answer.Done (runs_where line n me)
  runs_there homes n None found is = cc
  runs_there homes n (Some line) found is = begins_anew homes (Some n) is

  run_there : (homes : ℕ) (n : Option ℕ) (own : Lines) → finds_line n own ≡ true → homes ≡ homes_entered me.stack → Ends (access.Drop homes) answer.Done (runs n own me)
  run_there homes None own found is = begins_anew homes (number_after None own) is
  run_there homes (Some n) own found is = runs_there homes n (line_at n own) found is

  -- a place at the own home
  at_own : (q : Place) → may_forget_all q me ≡ true → is_open me.part [] q.home ≡ true
  at_own q may = ap (λ (b : Bool). b || nat_lt 0 0) (by (has_call me.stack) may)
    where
      by : (b : Bool) → (b && (q.home == me.part)) ≡ true → (q.home == me.part) ≡ true
      by true is = is
      by false is = cc

  forgets_there : (homes : ℕ) (q : Place) → me.place ≡ Some q → may_forget_all q me ≡ true → homes ≡ homes_entered me.stack → Ends (access.Drop homes) answer.Done (forgets_all q me)
  forgets_there homes q at may is =
      let e : Steered = record { work = control_of (without_frames me); outcome = outcome.Next } in
      subst (λ (b : Bool). Ends (access.Drop homes) answer.Done (if b then e else unsteered me (outcome.Failed P41_NO_CALL))) (sym may)
      (all_given (access.Drop homes) answer.Done e homes is refl refl (subst (PlaceStands me.part []) (sym at) (at_own q may)) (λ g k. refl))

  carried_there : (homes : ℕ) (q : Place) (s : SeenLent) (x : Asked) → me.place ≡ Some q → homes ≡ homes_entered me.stack → GivesBack me s q x
      → Ends (access.Drop homes) answer.Done (carried x q me s.own.lines s.home.lines)
  unfolding GivesBack
  carried_there homes q s (asked.Forget true) at is why = forgets_there homes q at why is
  carried_there homes q s (asked.Forget false) at is why = cc
  carried_there homes q s (asked.Run n) at is why = run_there homes n s.own.lines why is
  carried_there homes q s x at is why = absurd why

  dropped : (s : SeenLent) (q : Place) (homes : ℕ) (a : Answer) → me.place ≡ Some q → homes ≡ homes_entered me.stack → GivesBack me s q (asked_at me s)
      → Ends (access.Drop homes) a (lent_ends (lent_came (access.Drop homes) a) (asked_at me s) q me s.own.lines s.home.lines (edit_finishes (access.Drop homes) a me))
  dropped s q homes answer.Done at is why = carried_there homes q s (asked_at me s) at is why
  dropped s q homes a at is why = repeats (access.Drop homes) a (λ g k. refl)

  -- by the access
  ends_there : (x : Access) (a : Answer) (s t : SeenLent) (q : Place) → me.place ≡ Some q → SeenAgain x s t → KeepsNone me → AskedFor me t q x (asked_at me t)
      → Ends x a (lent_ends (lent_came x a) (asked_at me s) q me s.own.lines s.home.lines (edit_finishes x a me))
  unfolding AskedFor
  ends_there (access.ClearAll name homes) a s t q at again none why = all_cleared name homes a why
  ends_there (access.Erase from to homes) a s t q at again none why = erased from to homes a why
  ends_there (access.Declare name old) a s t q at again none why = named (access.Declare name old) a (part_came (access.Declare name old) a) (λ g k. refl)
  ends_there (access.FindPart name) a s t q at again none why = named (access.FindPart name) a (part_came (access.FindPart name) a) (λ g k. refl)
  ends_there (access.Enter name mark) a s t q at again none why = entered s q name mark a (subst (λ (t : SeenLent). Calls me t mark (asked_at me t)) (sym again) why)
  ends_there (access.Leave home) a s t q at again none why = left s q home a why.0 (none why.1)
  ends_there (access.Drop homes) a s t q at again none why = dropped s q homes a at why.0 (subst (λ (t : SeenLent). GivesBack me t q (asked_at me t)) (sym again) why.1)
  ends_there x a s t q at again none why = absurd why

pub finishes_standing : FinishesStanding plan finish
unfolding Ends
finishes_standing x a me s t is again none w =
    let why = asked_so me t x is in
    subst (λ (o : Option Place). Ends me w x a (ends_at o x a me s)) (sym why.1) (ends_there me w x a s t why.0 why.1 again none why.2)

-- AND WHOM IT ENTERS: never itself
marked_elsewhere : (me : Private) (s : SeenLent) (mark : ℕ) (x : Asked) → Calls me s mark x → first_opening (is_mark mark) s.own.lines ≡ None
unfolding Calls
marked_elsewhere me s mark (asked.CallMark n args back) why = why.1
marked_elsewhere me s mark x why = absurd why

pub enters_others : EntersOthers plan
unfolding AskedFor
enters_others me s name mark is = marked_elsewhere me s mark (asked_at me s) (asked_so me s (access.Enter name mark) is).2
