-- A statement names no place and no partition but its own, those that were named before and what goes with them, and whom the answer leads to.
use Rattle.std.proofs.Common.{◌≡◌, ◌∙◌, ◌||◌, ℕ, ◌==◌, ◌&&◌, not, refl, sym, ap, subst, nat_lt, Bool, true, false, List, [], ◌∷◌, length, Option, Some, None, is_some, Result, Ok, Err, if◌then◌else◌}
use Rattle.std.specs.Prelude.{unwrap_or, ◌+◌}
use Rattle.std.specs.Option.{option_map}
use Rattle.b2_atom.specs.Tree.{Trees}
use Rattle.b2_atom.specs.Tree.Trees.{Done, Put, In}
use Rattle.b2_atom.specs.declared.rows.TheConstants as row
use Rattle.b2_rows.specs.Following.{past_colon, unit_or_next}
use Rattle.b2_rows.specs.declared.following.Goal.TheVariants as goal
use Rattle.b2_text.specs.Program.{Lines, line_at, number_after}
use Rattle.b2_text.specs.Spots.{first_opening, is_mark, or_else}
use Rattle.b2_text.specs.declared.spots.Spot.{Spot}
use Rattle.b2_dec.specs.Number.{Number}
use Rattle.b2_dec.specs.declared.values.Value.{Value}
use Rattle.b2_flow.specs.Frames.{is_call, is_loop, is_loop_of}
use Rattle.b2_flow.specs.Stacks.{entered_last, entered_on_top, from_call, from_first, from_loop, has_call, has_loop, has_room, most_frames, top_loop, without_top_loop}
use Rattle.std.specs.Cmp.{unsigned_Decides}
use Rattle.b2_access.specs.Borrowers.{homes_entered, is_inside}
use Rattle.b2_access.specs.declared.accesses.Answer.TheVariants as answer
use Rattle.b2_access.proofs.EnteredHomes.{entered_within}
use Rattle.b2_stmt.specs.Borrowing.{asks_of_others, enters, lent_came, lent_ends}
use Rattle.b2_stmt.proofs.EachPlan.{each_of_others}
use Rattle.b2_flow.specs.declared.frame.Frame.{Frame}
use Rattle.b2_flow.specs.declared.frame.Frame.TheVariants.{For, Call}
use Rattle.b2_flow.specs.declared.frame.Place.{Place}
use Rattle.b2_flow.specs.declared.frame.Var2.{Var2}
use Rattle.b2_receiver.specs.Assigning.{assigned_number}
use Rattle.b2_expr.specs.Answers.{Answer as NumberAnswer}
use Rattle.b2_expr.specs.Named.{number_there}
use Rattle.b2_expr.specs.Scope.{Context}
use Rattle.b2_access.specs.Lending.{SeenLent}
use Rattle.b2_access.specs.Places.{line_start}
use Rattle.b2_access.specs.declared.accesses.Access.{Access}
use Rattle.b2_access.specs.declared.accesses.Access.TheVariants as access
use Rattle.b2_access.specs.declared.accesses.Answer.{Answer}
use Rattle.b2_access.specs.declared.planned.Outcome.{Outcome}
use Rattle.b2_access.specs.declared.planned.Outcome.TheVariants as outcome
use Rattle.b2_access.specs.declared.private.Private.{Private}
use Rattle.b2_expr.specs.Workspace.{WorkLeft}
use Rattle.b2_stmt.specs.Asked.{Asks, Leads, asked_of, asking_rows, asks_choice, asks_loop, asks_mark, asks_nothing, asks_on, asks_pass, body_place, carried, is_still, left_out, line_chosen, place_after, still, still_rows}
use Rattle.b2_stmt.specs.Breaks.{turns_to_pass}
use Rattle.b2_stmt.specs.Arguments.{arguments, operands_of}
use Rattle.b2_stmt.specs.Marked.{calls_into, calls_mark, ends_taken, ends_with_args, mark_in, mark_place, number_called, place_in, takes_args}
use Rattle.b2_stmt.specs.Parts.{part_came}
use Rattle.b2_stmt.proofs.PartsCame.{each_asked, each_part}
use Rattle.b2_stmt.specs.Branches.{goto_goal, if_goal, skipped_function}
use Rattle.b2_stmt.specs.Calls.{back_from, called_where, forgets, leaves_call, may_forget_all}
use Rattle.b2_stmt.specs.Choices.{calls_a_line, choice_in}
use Rattle.b2_stmt.specs.Clearing.{asked_access, clearing_ends, edit_finishes}
use Rattle.b2_stmt.specs.RunControl.{continues, runs, runs_from, runs_where}
use Rattle.b2_stmt.specs.Frames.{with_frame}
use Rattle.b2_access.specs.Jumps.{to_place}
use Rattle.b2_access.specs.Homes.{AnswerIn, FinishesWithin, FrameNamed, FramesNamed, HomesIn, Naming, NamesOnly, OutcomeNamed, PartIn, PlaceNamed, PlannedNamed, PlansWithin}
use Rattle.b2_stmt.specs.Loops.{loop_begins, loop_element, loop_counts, goes_round, is_over, loop_in, made_loop, next_value, nexts, tested, without_loop}
use Rattle.b2_access.specs.Dispatch.{Here, here}
use Rattle.b2_access.specs.Placed.{Statement}
use Rattle.b2_stmt.specs.Plan.{acts, acts_unless, around, asked_at, asked_by, by_access, does, ends_at, finish, is_refused, plan, plans_asked, stops}
use Rattle.b2_access.specs.Planning.{Planning, done}
use Rattle.b2_access.specs.Views.{ClearCame, AllCleared, LinesErased, TextLocked, ClearLater, clear_came}
use Rattle.b2_access.proofs.Choice.{either}
use Rattle.b2_access.proofs.Homes.{found_in, goal_in, goes_in, lined, marks_none, next_or_fails, placed}
use Rattle.b2_access.specs.Working.{work_of}
use Rattle.b2_access.specs.Steering.{Steered, control_of, steered}
use Rattle.b2_access.proofs.Dispatch.{each_dispatch}
use Rattle.b2_access.proofs.Tables.{each_row}
use Rattle.b2_access.proofs.Working.{control_in}
use Rattle.b2_stmt.proofs.Erased.{each_erased}
use Rattle.b2_stmt.specs.declared.asked.Asked.{Asked}
use Rattle.b2_stmt.specs.declared.asked.Asked.TheVariants as asked
use Rattle.b2_stmt.specs.declared.loops.Loop.{Loop}

module _ (among : Naming) where
  abbrev Within : Private → Type 0
  Within me = NamesOnly among me

  -- what a statement leaves names only these
  abbrev Left : Option Place → List Frame → Type 0
  Left kept frames = PlaceNamed among kept × FramesNamed among frames

  EndedIn : Steered → Type 0
  EndedIn e = Left e.work.kept e.work.stack × OutcomeNamed among e.outcome

  -- all of it where nothing was changed
  left : (me : Private) → Within me → Left me.kept me.stack
  left me w = (w.kept, w.frames)

  -- the same partition with other frames
  with_frames : (me : Private) (fs : List Frame) → Within me → FramesNamed among fs → Within (record me { stack = fs })
  with_frames me fs w h = record { part = w.part; place = w.place; kept = w.kept; frames = h }

  -- frames from one on
  from : (passes : Frame → Bool) (fs : List Frame) → FramesNamed among fs → FramesNamed among (from_first passes fs)
  from passes [] h = tt
  from passes (f ∷ fs) h = either (FramesNamed among) (passes f) (f ∷ fs) (from_first passes fs) h (from passes fs h.1)

  without_top : (fs : List Frame) → FramesNamed among fs → FramesNamed among (without_top_loop fs)
  without_top [] h = tt
  without_top (f ∷ fs) h = either (FramesNamed among) (is_loop f) fs (f ∷ fs) h.1 h

  no_old_loop : (v : Var2) (fs : List Frame) → FramesNamed among fs → FramesNamed among (without_loop v fs)
  no_old_loop v fs h = either (FramesNamed among) (has_loop v fs) (without_top_loop (from_loop v fs)) fs (without_top (from_loop v fs) (from (is_loop_of v) fs h)) h

  framed : (f : Frame) (o : Outcome) (me : Private) → Within me → FrameNamed among f → OutcomeNamed among o → EndedIn (with_frame f o me)
  unfolding EndedIn
  framed f o me w h k =
      either EndedIn (nat_lt (length me.stack) most_frames) (record { work = record (control_of me) { stack = f ∷ me.stack }; outcome = o }) _ ((w.kept, (h, w.frames)), k) (left me w, tt)

  passed_in : (t : Trees) → OutcomeNamed among (skipped_function t)
  passed_in Done = tt
  passed_in (In n a t) = tt
  passed_in (Put w Done) = tt
  passed_in (Put w (Put v t)) = tt
  passed_in (Put w (In n a t)) = either (OutcomeNamed among) (n == 1) _ _ tt tt

  -- what is asked for
  unfoldable pub AskedIn : Asked → Type 0
  AskedIn (asked.Nothing o) = OutcomeNamed among o
  AskedIn (asked.Begin l body) = among.place body ≡ true
  AskedIn (asked.Call n back) = PlaceNamed among back
  AskedIn (asked.CallMark n args back) = PlaceNamed among back
  AskedIn (asked.Stop shown after) = PlaceNamed among after
  AskedIn a = Unit {0}

  pub still_in : (r : ℕ) (t : Trees) (h : Here) (s : Context) (lines : Lines) → among.place h.place ≡ true → OutcomeNamed among (still r t h s lines)
  still_in r t h s lines k =
      let F : Leads → Type 0 = λ leads. OutcomeNamed among (leads t h s lines) in
      each_row F still_rows left_out r (
        found_in among lines h.place (if_goal s h.place.unit h.units t) k,
        (
          found_in among lines h.place (goto_goal t) k,
          (
            goes_in among lines h.place (past_colon h.place.unit h.units) k,
            (
              goes_in among lines h.place goal.NextLine k,
              (tt, (tt, (tt, (tt, (passed_in t, (tt, tt)))))),
            ),
          ),
        ),
      ) tt

  loop_asked : (l : Result Loop ℕ) (body : Place) → among.place body ≡ true → AskedIn (asks_loop l body)
  unfolding AskedIn
  loop_asked (Ok l) body h = h
  loop_asked (Err code) body h = tt

  chosen_in : (goto : Bool) (n : Option ℕ) (h : Here) (lines : Lines) → among.place h.place ≡ true → PlaceNamed among (place_after h lines) → AskedIn (line_chosen goto n h lines)
  unfolding AskedIn
  chosen_in true None h lines k after = tt
  chosen_in true (Some n) h lines k after = lined among (line_at n lines) (line_start h.place n) (among.lines h.place n k)
  chosen_in false None h lines k after = tt
  chosen_in false (Some n) h lines k after = after

  choice_asked : (r : Result (Bool × Option ℕ) ℕ) (h : Here) (lines : Lines) → among.place h.place ≡ true → PlaceNamed among (place_after h lines) → AskedIn (asks_choice r h lines)
  unfolding AskedIn
  choice_asked (Ok p) h lines k after = chosen_in p.0 p.1 h lines k after
  choice_asked (Err code) h lines k after = tt

  on_asked : (t : Trees) (h : Here) (s : Context) (lines : Lines) → among.place h.place ≡ true → PlaceNamed among (place_after h lines) → AskedIn (asks_on t h s lines)
  unfolding AskedIn
  on_asked t h s lines k after = either AskedIn (calls_a_line t && not (is_some h.place.line)) _ _ tt (choice_asked (choice_in s t) h lines k after)

  mark_asked : (n : ℕ) (args : Result (List Value) ℕ) (back : Option Place) → PlaceNamed among back → AskedIn (asks_mark n args back)
  unfolding AskedIn
  mark_asked n (Ok args) back k = k
  mark_asked n (Err code) back k = tt

  pass_asked : (turns : Result ℕ ℕ) → AskedIn (asks_pass turns)
  unfolding AskedIn
  pass_asked (Ok turns) = tt
  pass_asked (Err code) = tt

  body_by : (o : Option Place) (p : Place) → PlaceNamed among o → among.place p ≡ true → among.place (unwrap_or o p) ≡ true
  body_by None p h k = k
  body_by (Some q) p h k = h

  pub asked_in : (r : ℕ) (t : Trees) (h : Here) (s : Context) (lines : Lines) → among.place h.place ≡ true → AskedIn (asked_of r t h s lines)
  unfolding AskedIn
  asked_in r t h s lines k =
      let after : PlaceNamed among (place_after h lines) = goal_in among lines h.place (unit_or_next (h.place.unit + 1) h.units) k in
      let F : Asks → Type 0 = λ asks. AskedIn (asks t h s lines) in
      each_row F asking_rows asks_nothing r (
        loop_asked (loop_in s t) (body_place h lines) (body_by (place_after h lines) _ after (among.units h.place (h.place.unit + 1) k)),
        (
          tt,
          (
            after,
            (
              mark_asked (number_called t) (arguments s (operands_of t)) (place_after h lines) after,
              (
                tt,
                (
                  tt,
                  (
                    on_asked t h s lines k after,
                    (
                      after,
                      (tt, (tt, (tt, (tt, (pass_asked (turns_to_pass s t), tt))))),
                    ),
                  ),
                ),
              ),
            ),
          ),
        ),
      ) tt

  -- loops
  made_in : (o : Option ℕ) (l : Loop) (body : Place) (me : Private) → Within me → among.place body ≡ true → EndedIn (made_loop o l body me)
  unfolding EndedIn
  made_in (Some code) l body me w h = (left me w, tt)
  made_in None l body me w h = framed (For l.var l.limit l.step body) outcome.Next (record me { stack = without_loop l.var me.stack }) (with_frames me (without_loop l.var me.stack) w (no_old_loop l.var me.stack w.frames)) h tt

  begins_in : (l : Loop) (body : Place) (me : Private) → Within me → among.place body ≡ true → EndedIn (loop_begins l body me)
  begins_in l body me w h =
      made_in (assigned_number (loop_element l.var) l.from me.vars).code l body (record me { vars = (assigned_number (loop_element l.var) l.from me.vars).vars })
      (record { part = w.part; place = w.place; kept = w.kept; frames = w.frames }) h

  tested_in : (o : Option ℕ) (over : Bool) (body : Place) (me : Private) → Within me → among.place body ≡ true → EndedIn (tested o over body me)
  unfolding EndedIn
  tested_in (Some code) over body me w h = (left me w, tt)
  tested_in None true body me w h = ((w.kept, without_top me.stack w.frames), tt)
  tested_in None false body me w h = (left me w, h)

  counts_in : (x : NumberAnswer) (v : Var2) (limit step : Number) (body : Place) (me : Private) → Within me → among.place body ≡ true → EndedIn (loop_counts x v limit step body me)
  unfolding EndedIn
  counts_in (Err code) v limit step body me w h = (left me w, tt)
  counts_in (Ok x) v limit step body me w h =
      tested_in (assigned_number (loop_element v) x me.vars).code (is_over x limit step) body (record me { vars = (assigned_number (loop_element v) x me.vars).vars })
      (record { part = w.part; place = w.place; kept = w.kept; frames = w.frames }) h

  LoopIn : Option (Number × Number × Place) → Type 0
  LoopIn None = Unit {0}
  LoopIn (Some p) = among.place p.2 ≡ true

  top_in : (fs : List Frame) → FramesNamed among fs → LoopIn (top_loop fs)
  unfolding LoopIn
  top_in [] h = tt
  top_in (For v limit step body ∷ fs) h = h.0
  top_in (Call back entered ∷ fs) h = tt

  round_in : (o : Option (Number × Number × Place)) (v : Var2) (me : Private) → Within me → LoopIn o → EndedIn (goes_round o v me)
  unfolding EndedIn LoopIn
  round_in None v me w h = (left me w, tt)
  round_in (Some p) v me w h = counts_in (next_value me.mode (number_there (record { vars = me.vars; element = loop_element v })) p.1) v p.0 p.1 p.2 me w h

  nexts_in : (v : Var2) (me : Private) → Within me → EndedIn (nexts v me)
  unfolding EndedIn
  nexts_in v me w =
      let frames : FramesNamed among (from_loop v me.stack) = from (is_loop_of v) me.stack w.frames in
      either EndedIn (has_loop v me.stack) _ _ (round_in (top_loop (from_loop v me.stack)) v (record me { stack = from_loop v me.stack }) (with_frames me (from_loop v me.stack) w frames) (top_in (from_loop v me.stack) frames)) (left me w, tt)

  -- calls
  called_in : (line : Option (List ℕ)) (q : Place) (back : Option Place) (me : Private) → Within me → among.place q ≡ true → PlaceNamed among back → EndedIn (called_where line q back me)
  unfolding EndedIn
  called_in None q back me w h k = (left me w, tt)
  called_in (Some line) q back me w h k = framed (Call back None) (outcome.Jump q) me w (k, tt) h

  pub spot_in : (part : ℕ) (o : Option Spot) → among.part part ≡ true → PlaceNamed among (option_map (place_in part) o)
  spot_in part None h = tt
  spot_in part (Some spot) h = among.spots part spot.line spot.unit h

  -- and of the text of a place
  pub spot_at : (p : Place) (o : Option Spot) → among.place p ≡ true → PlaceNamed among (option_map (place_in p.home) o)
  spot_at p None h = tt
  spot_at p (Some spot) h = among.units (line_start p spot.line) spot.unit (among.lines p spot.line h)

  pub either_in : (o q : Option Place) → PlaceNamed among o → PlaceNamed among q → PlaceNamed among (or_else o q)
  either_in None q h k = k
  either_in (Some p) q h k = h

  called_into : (entered : Option ℕ) (q : Place) (args : List Value) (back : Option Place) (me : Private) → Within me → PartIn among.part entered → among.place q ≡ true → PlaceNamed among back → EndedIn (calls_into entered q args back me)
  unfolding EndedIn
  called_into entered q args back me w g h k =
      either EndedIn (has_room me.stack) (record { work = record (control_of me) { work = record (work_of me) { args = Some args }; stack = Call back entered ∷ me.stack }; outcome = outcome.Jump q }) _
      ((w.kept, ((k, g), w.frames)), h) (left me w, tt)

  mark_called : (to : Option Place) (args : List Value) (back : Option Place) (me : Private) → Within me → PlaceNamed among to → PlaceNamed among back → EndedIn (calls_mark to args back me)
  unfolding EndedIn
  mark_called None args back me w h k = (left me w, tt)
  mark_called (Some q) args back me w h k = called_into None q args back me w tt h k

  args_in : (o : Option (List Value)) (r : WorkLeft) (me : Private) → Within me → EndedIn (ends_taken o r me)
  unfolding EndedIn
  args_in None r me w = (left me w, tt)
  args_in (Some xs) r me w = ((w.kept, w.frames), next_or_fails among r.code)

  back_in : (how : Option Place → Outcome) (fs : List Frame) (me : Private) → ((b : Option Place) → PlaceNamed among b → OutcomeNamed among (how b)) → Within me → FramesNamed among fs → EndedIn (back_from how fs me)
  unfolding EndedIn
  back_in how [] me leads w h = (left me w, tt)
  back_in how (For v limit step body ∷ fs) me leads w h = (left me w, tt)
  back_in how (Call back entered ∷ fs) me leads w h = ((w.kept, h.1), leads back h.0.0)

  leaves_in : (how : Option Place → Outcome) (me : Private) → ((b : Option Place) → PlaceNamed among b → OutcomeNamed among (how b)) → Within me → EndedIn (leaves_call how me)
  unfolding EndedIn
  leaves_in how me leads w = either EndedIn (has_call me.stack) _ _ (back_in how (from_call me.stack) me leads w (from is_call me.stack w.frames)) (left me w, tt)

  forgets_in : (all : Bool) (p : Place) (me : Private) → Within me → EndedIn (forgets all p me)
  unfolding EndedIn
  forgets_in false p me w = either EndedIn (is_some (entered_last me.stack)) _ _ (left me w, tt) (leaves_in (λ back. outcome.Next) me (λ b h. tt) w)
  forgets_in true p me w = either EndedIn (may_forget_all p me) _ _ ((tt, tt), tt) (left me w, tt)

  -- the course of the program
  kept_in : (b : Bool) (after kept : Option Place) → PlaceNamed among after → PlaceNamed among kept → PlaceNamed among (if b then after else kept)
  kept_in b after kept h k = either (PlaceNamed among) b after kept h k

  runs_in : (n : Option ℕ) (me : Private) → Within me → EndedIn (runs_from n me)
  unfolding EndedIn
  runs_in None me w = ((tt, tt), tt)
  runs_in (Some n) me w = ((tt, tt), among.spots me.part n 0 w.part)

  runs_where_in : (line : Option (List ℕ)) (n : ℕ) (me : Private) → Within me → EndedIn (runs_where line n me)
  unfolding EndedIn
  runs_where_in None n me w = (left me w, tt)
  runs_where_in (Some line) n me w = runs_in (Some n) me w

  run_in : (n : Option ℕ) (own : Lines) (me : Private) → Within me → EndedIn (runs n own me)
  run_in None own me w = runs_in (number_after None own) me w
  run_in (Some n) own me w = runs_where_in (line_at n own) n me w

  continues_in : (o : Option Place) (me : Private) → Within me → PlaceNamed among o → EndedIn (continues o me)
  unfolding EndedIn
  continues_in None me w h = (left me w, tt)
  continues_in (Some p) me w h = (left me w, h)

  carried_in : (a : Asked) (p : Place) (me : Private) (own home : Lines) → among.place p ≡ true → Within me → AskedIn a → EndedIn (carried a p me own home)
  unfolding EndedIn AskedIn
  carried_in (asked.Nothing o) p me own home h w k = (left me w, k)
  carried_in (asked.Begin l body) p me own home h w k = begins_in l body me w k
  carried_in (asked.Next v) p me own home h w k = nexts_in v me w
  carried_in (asked.Call n back) p me own home h w k = called_in (line_at n home) (line_start p n) back me w (among.lines p n h) k
  carried_in asked.Return p me own home h w k = leaves_in to_place me (placed among) w
  carried_in (asked.Forget all) p me own home h w k = forgets_in all p me w
  carried_in (asked.Stop shown after) p me own home h w k =
      ((kept_in (is_some p.line) after me.kept k w.kept, w.frames), tt)
  carried_in (asked.Select mode) p me own home h w k = ((w.kept, w.frames), tt)
  carried_in (asked.Run n) p me own home h w k = run_in n own me w
  carried_in asked.Continue p me own home h w k = continues_in me.kept me w w.kept
  carried_in (asked.Pass turns) p me own home h w k = ((w.kept, w.frames), tt)
  carried_in (asked.CallMark n args back) p me own home h w k =
      mark_called (mark_place n p me.part own home) args back me w
      (either_in (mark_in p.home n home) (mark_in me.part n own) (spot_at p (first_opening (is_mark n) home) h) (spot_in me.part (first_opening (is_mark n) own) w.part)) k

  -- what is asked for marks the partitions whose texts were entered, and no others
  top_entered : (fs : List Frame) → FramesNamed among fs → PartIn among.part (entered_on_top fs)
  top_entered [] w = tt
  top_entered (For v limit step body ∷ fs) w = tt
  top_entered (Call back entered ∷ fs) w = w.0.1

  AccessIn : Option Access → Type 0
  AccessIn None = Unit {0}
  AccessIn (Some a) = HomesIn among.part a

  row_in : (me : Private) (r : ℕ) (t : Trees) → Within me → AccessIn (asked_access r t me.declared (homes_entered me.stack))
  unfolding AccessIn
  row_in me r t w =
      let homes = homes_entered me.stack in
      let given = entered_within among me.stack w.frames in
      each_asked AccessIn tt homes (λ name. given) (λ t. each_erased (HomesIn among.part) homes (λ from to. given) t)
      (λ name old. marks_none among.part (access.Declare name old) refl) (λ name. marks_none among.part (access.FindPart name) refl) r t me.declared

  only_one : (home h : ℕ) → among.part home ≡ true → is_inside h (home ∷ []) ≡ true → among.part h ≡ true
  only_one home h w is = by (home == h) refl is
    where
      by : (b : Bool) → (home == h) ≡ b → (b || false) ≡ true → among.part h ≡ true
      by true same one = ap (λ (n : ℕ). among.part n) (sym ((unsigned_Decides home h).0 same)) ∙ w
      by false same one = cc

  others_in : (x : Asked) (p : Place) (me : Private) (own home : Lines) → Within me → AccessIn (asks_of_others x p me own home)
  unfolding AccessIn
  others_in x p me own home w =
      each_of_others AccessIn tt me
      (λ g is h inside. only_one g h (subst (PartIn among.part) is (top_entered (from_first is_call me.stack) (from is_call me.stack w.frames))) inside)
      (entered_within among me.stack w.frames) (λ name mark. marks_none among.part (access.Enter name mark) refl) x p own home

  -- a statement
  PlanningIn : Planning → Type 0
  PlanningIn p = NamesOnly among p.me × PlannedNamed among p.planned

  done_in : (s : SeenLent) (me : Private) (e : Steered) → Within me → EndedIn e → PlanningIn (done s (steered me e))
  unfolding EndedIn PlanningIn
  done_in s me e w h = (control_in among e.work me w h.0, h.1)

  access_in : (o : Option Access) (s : SeenLent) (me : Private) (e : Steered) → Within me → EndedIn e → AccessIn o → PlanningIn (by_access o s me e)
  unfolding PlanningIn AccessIn
  access_in None s me e w h k = done_in s me e w h
  access_in (Some a) s me e w h k = (w, k)

  acts_in : (u : Statement) (h : Here) (me : Private) (s : SeenLent) → among.place h.place ≡ true → Within me → PlanningIn (acts u h me s)
  unfolding EndedIn PlanningIn
  acts_in u h me s k w =
      let x = asked_by u h me s in
      either PlanningIn (is_still u.row) _ _ (w, still_in u.row u.tree h (around me s) s.home.lines k)
      (either PlanningIn (u.row == row.DEFFN_MARKED) (ends_with_args (takes_args u.tree me s) me s) (plans_asked x h.place me s)
      (done_in (record s { globals = (takes_args u.tree me s).work.globals }) me (ends_taken me.args (takes_args u.tree me s) me) w (args_in me.args (takes_args u.tree me s) me w))
      (access_in (asks_of_others x h.place me s.own.lines s.home.lines) s me (carried x h.place me s.own.lines s.home.lines) w
      (carried_in x h.place me s.own.lines s.home.lines k w (asked_in u.row u.tree h (around me s) s.home.lines k)) (others_in x h.place me s.own.lines s.home.lines w)))

  unless_in : (o : Option Access) (u : Statement) (h : Here) (me : Private) (s : SeenLent) → among.place h.place ≡ true → Within me → AccessIn o → PlanningIn (acts_unless o u h me s)
  unfolding PlanningIn AccessIn
  unless_in None u h me s k w i = acts_in u h me s k w
  unless_in (Some a) u h me s k w i = (w, i)

  stands_in : (p : Place) (me : Private) → me.place ≡ Some p → Within me → among.place p ≡ true
  stands_in p me is w = subst (λ (o : Option Place). PlaceNamed among o) is w.place

  planned_in : (me : Private) (s : SeenLent) → Within me → PlanningIn (plan me s)
  unfolding PlanningIn
  planned_in me s w =
      each_dispatch is_refused (stops me s) (does me s) me s PlanningIn (w, tt) (w, tt)
      (λ p is u. unless_in (asked_access u.row u.tree me.declared (homes_entered me.stack)) u (here p me s) me s (stands_in p me is w) w (row_in me u.row u.tree w))

  -- how it finishes
  asked_there : (me : Private) (s : SeenLent) → Within me → AskedIn (asked_at me s)
  unfolding AskedIn
  asked_there me s w = each_dispatch is_refused asked.Nothing (λ u h. asked_by u h me s) me s AskedIn tt tt (λ p is u. asked_in u.row u.tree (here p me s) (around me s) s.home.lines (stands_in p me is w))

  enters_in : (g : ℕ) (spot : Spot) (x : Asked) (me : Private) → Within me → among.part g ≡ true → AskedIn x → EndedIn (enters g spot x me)
  unfolding EndedIn AskedIn
  enters_in g spot (asked.CallMark n args back) me w h k = called_into (Some g) (place_in g spot) args back me w h (among.spots g spot.line spot.unit h) k
  enters_in g spot (asked.Nothing o) me w h k = (left me w, tt)
  enters_in g spot (asked.Begin l body) me w h k = (left me w, tt)
  enters_in g spot (asked.Next v) me w h k = (left me w, tt)
  enters_in g spot (asked.Call n back) me w h k = (left me w, tt)
  enters_in g spot asked.Return me w h k = (left me w, tt)
  enters_in g spot (asked.Forget all) me w h k = (left me w, tt)
  enters_in g spot (asked.Stop shown after) me w h k = (left me w, tt)
  enters_in g spot (asked.Select mode) me w h k = (left me w, tt)
  enters_in g spot (asked.Run n) me w h k = (left me w, tt)
  enters_in g spot asked.Continue me w h k = (left me w, tt)
  enters_in g spot (asked.Pass turns) me w h k = (left me w, tt)

  clears_in : (k : ClearCame) (me : Private) → Within me → EndedIn (clearing_ends k me)
  unfolding EndedIn
  clears_in AllCleared me w = ((tt, tt), tt)
  clears_in LinesErased me w = ((tt, tt), tt)
  clears_in TextLocked me w = (left me w, tt)
  clears_in ClearLater me w = (left me w, tt)

  edits_in : (x : Access) (a : Answer) (me : Private) → Within me → EndedIn (edit_finishes x a me)
  unfolding EndedIn
  edits_in x a me w = each_part EndedIn me (λ name. (left me w, tt)) (λ name. (left me w, tt)) (part_came x a) (clearing_ends (clear_came x a) me) (λ c. (left me w, tt)) (clears_in (clear_came x a) me w)

  -- by what came of the text of another
  lent_in : (x : Access) (a : Answer) (p : Place) (me : Private) (s : SeenLent) → AnswerIn among.part a → me.place ≡ Some p → Within me
      → EndedIn (lent_ends (lent_came x a) (asked_at me s) p me s.own.lines s.home.lines (edit_finishes x a me))
  unfolding EndedIn
  lent_in (access.Enter name mark) (answer.Entered g spot) p me s leads is w = enters_in g spot (asked_at me s) me w leads (asked_there me s w)
  lent_in (access.Enter name mark) answer.NoPart p me s leads is w = (left me w, tt)
  lent_in (access.Enter name mark) (answer.Refused code) p me s leads is w = (left me w, tt)
  lent_in (access.Leave home) answer.Done p me s leads is w = leaves_in to_place me (placed among) w
  lent_in (access.Drop homes) answer.Done p me s leads is w = carried_in (asked_at me s) p me s.own.lines s.home.lines (stands_in p me is w) w (asked_there me s w)
  lent_in x a p me s leads is w = edits_in x a me w

  ends_in : (o : Option Place) (x : Access) (a : Answer) (me : Private) (s : SeenLent) → me.place ≡ o → AnswerIn among.part a → Within me → EndedIn (ends_at o x a me s)
  ends_in None x a me s is leads w = edits_in x a me w
  ends_in (Some p) x a me s is leads w = lent_in x a p me s leads is w

  finishes_in : (x : Access) (a : Answer) (me : Private) (s : SeenLent) → AnswerIn among.part a → Within me → NamesOnly among (finish x a me s).me × OutcomeNamed among (finish x a me s).outcome
  unfolding EndedIn
  finishes_in x a me s leads w =
      let h = ends_in me.place x a me s refl leads w in
      (control_in among (ends_at me.place x a me s).work me w h.0, h.1)

pub plans_within : PlansWithin plan
unfolding PlanningIn
plans_within among me s w = planned_in among me s w

pub finishes_within : FinishesWithin finish
finishes_within among x a me s leads w = finishes_in among x a me s leads w
