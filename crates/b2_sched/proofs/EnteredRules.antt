-- What the machine's own rules do to the frames of a partition: they leave how many entered each text, or drop all of them; and where the
-- partition stood in the texts of others above calls that entered them, it does so after them.
use Rattle.std.proofs.Common.{◌≡◌, ◌∙◌, ◌≤◌, ◌==◌, ◌||◌, ◌&&◌, ◌+◌, ℕ, Bool, true, false, not, nat_lt, List, [], ◌∷◌, length, Option, Some, None, is_some, Result, Ok, Err, refl, sym, ap, subst, inl, inr, arith, if◌then◌else◌}
use Rattle.std.proofs.lemmas.Bool.Decides.{nat_tests}
use Rattle.std.specs.List.{list_any}
use Rattle.std.specs.Option.{option_and_then, option_map}
use Rattle.std.specs.Str.{bytes_eq}
use Rattle.b2_base.specs.declared.codes.TheConstants.{A04_TOO_DEEP}
use Rattle.b2_flow.specs.Frames.{enters, is_immediate_loop}
use Rattle.b2_flow.specs.Stacks.{most_frames}
use Rattle.b2_flow.specs.declared.frame.Frame.{Frame}
use Rattle.b2_flow.specs.declared.frame.Frame.TheVariants.{For, Call}
use Rattle.b2_flow.specs.declared.frame.Place.{Place}
use Rattle.b2_rows.specs.Following.{taken_fault, unit_or_next}
use Rattle.b2_rows.specs.declared.following.Goal.{Goal}
use Rattle.b2_rows.specs.declared.following.Goal.TheVariants as goal
use Rattle.b2_syntax.specs.Reading.{reads}
use Rattle.b2_syntax.specs.declared.Entered.{Entered}
use Rattle.b2_syntax.specs.declared.Entered.TheVariants as entered
use Rattle.b2_syntax.specs.declared.LineErr.{LineErr}
use Rattle.b2_syntax.specs.declared.LineErr.TheVariants as refusal
use Rattle.b2_text.specs.Program.{Lines, number_after}
use Rattle.b2_text.specs.declared.spots.Spot.{Spot}
use Rattle.b2_access.specs.Borrowers.{homes_entered, is_marked}
use Rattle.b2_access.specs.Entering.{entered_after}
use Rattle.b2_access.specs.Partition.{runs_program, terminal_address}
use Rattle.b2_access.specs.Placed.{statement_placed}
use Rattle.b2_access.specs.Places.{goal_place, line_after, line_start}
use Rattle.b2_access.specs.Standing.{FramesStand, LeadsStanding, PlaceStands, Stands, entered_in, is_open}
use Rattle.b2_access.specs.declared.accesses.Access.{Access}
use Rattle.b2_access.specs.declared.accesses.Access.TheVariants as access
use Rattle.b2_access.specs.declared.accesses.Answer.{Answer}
use Rattle.b2_access.specs.declared.accesses.Answer.TheVariants as answer
use Rattle.b2_access.specs.declared.planned.Outcome.{Outcome}
use Rattle.b2_access.specs.declared.planned.Outcome.TheVariants as outcome
use Rattle.b2_access.specs.declared.private.Private.{Private}
use Rattle.b2_access.proofs.Choice.{either}
use Rattle.b2_access.proofs.EnteredHomes.{marked_is}
use Rattle.b2_language.specs.Following.{following_place, moves_to, units_at}
use Rattle.b2_machine.specs.Keys.{called_at, calls_where, pressed_by}
use Rattle.b2_machine.specs.Messages.{error_text, halt_text, prints_text, shows_text, where_text}
use Rattle.b2_machine.specs.Moving.{ends_by, ends_onward, enters_program, error_place, faults, goes_to, is_continue, is_taken, jumps, place_onward}
use Rattle.b2_machine.specs.Readiness.{halted, readies, refuses, resets, with_error, without_immediate_loops}
use Rattle.b2_machine.specs.Typing.{line_taken, on_own_line, put_by, puts_numbered, shown_by, shows_pending, takes, takes_or_refuses, typed_by_key}
use Rattle.b2_machine.specs.declared.ends.Stepped.{Stepped}
use Rattle.b2_machine.specs.declared.moving.Onward.{Onward}
use Rattle.b2_machine.specs.declared.moving.Onward.TheVariants as onward
use Rattle.b2_sched.specs.Inside.{EntersNoOwn, PutsReady}

-- as many frames entered each text
abbrev pub SameEntered : List Frame → List Frame → Type 0
SameEntered after before = (g : ℕ) → entered_in g after ≡ entered_in g before

-- a partition stands after a rule, as many of its frames entered each text as before it, and the same line waits to be put
pub record KeepsStanding (me after : Private) : Type 0 where
  pub stands : Stands after
  pub same : SameEntered after.stack me.stack
  pub numbered : after.numbered ≡ me.numbered

-- ---- which texts are open

pub own_open : (p : ℕ) (frames : List Frame) → is_open p frames p ≡ true
own_open p frames = ap (λ (b : Bool). b || nat_lt 0 (entered_in p frames)) (same_number p)
  where
    same_number : (n : ℕ) → (n == n) ≡ true
    same_number n = grind (arith, nat_tests)

open_as : (p : ℕ) (after before : List Frame) (h : ℕ) → entered_in h after ≡ entered_in h before → is_open p before h ≡ true → is_open p after h ≡ true
open_as p after before h same is = ap (λ (k : ℕ). h == p || nat_lt 0 k) same ∙ is

place_as : (p : ℕ) (after before : List Frame) → SameEntered after before → (o : Option Place) → PlaceStands p before o → PlaceStands p after o
place_as p after before same None w = tt
place_as p after before same (Some q) w = open_as p after before q.home (same q.home) w

-- the loops of an immediate line entered none
loops_go : (fs : List Frame) → SameEntered (without_immediate_loops fs) fs
loops_go [] g = refl
loops_go (For v limit step body ∷ fs) g =
    let f = For v limit step body in
    either (λ (x : List Frame). entered_in g x ≡ entered_in g fs) (not (is_immediate_loop f)) (f ∷ without_immediate_loops fs) (without_immediate_loops fs) (loops_go fs g) (loops_go fs g)
loops_go (Call back entered ∷ fs) g = ap (λ (k : ℕ). if enters g (Call back entered) then k + 1 else k) (loops_go fs g)

loops_stand : (p : ℕ) (fs : List Frame) → FramesStand p fs → FramesStand p (without_immediate_loops fs)
loops_stand p [] w = tt
loops_stand p (For v limit step body ∷ fs) w =
    let f = For v limit step body in
    let rest = without_immediate_loops fs in
    either (FramesStand p) (not (is_immediate_loop f)) (f ∷ rest) rest (open_as p rest fs body.home (loops_go fs body.home) w.0, loops_stand p fs w.1) (loops_stand p fs w.1)
loops_stand p (Call back entered ∷ fs) w = (place_as p (without_immediate_loops fs) fs (loops_go fs) back w.0, loops_stand p fs w.1)

-- where all is given back no frame is left
none_entered : (g : ℕ) (fs : List Frame) → list_any (enters g) fs ≡ false → entered_in g fs ≡ 0
none_entered g [] none = refl
none_entered g (For v limit step body ∷ fs) none = none_entered g fs none
none_entered g (Call back entered ∷ fs) none = by (enters g (Call back entered)) (λ rest. none_entered g fs rest) none
  where
    by : (b : Bool) → (list_any (enters g) fs ≡ false → entered_in g fs ≡ 0) → (b || list_any (enters g) fs) ≡ false → (if b then entered_in g fs + 1 else entered_in g fs) ≡ 0
    by true rest none = cc
    by false rest none = rest none

pub all_given_back : (g : ℕ) (fs : List Frame) → 1 ≤ g → g ≤ 16 → 0 ≡ (if is_marked g (homes_entered fs) then 0 else entered_in g fs)
all_given_back g fs low high = by (list_any (enters g) fs) refl
  where
    by : (b : Bool) → list_any (enters g) fs ≡ b → 0 ≡ (if is_marked g (homes_entered fs) then 0 else entered_in g fs)
    by true is = sym (ap (λ (m : Bool). if m then 0 else entered_in g fs) (marked_is fs g low high ∙ is))
    by false is = sym (none_entered g fs is) ∙ sym (ap (λ (m : Bool). if m then 0 else entered_in g fs) (marked_is fs g low high ∙ is))

-- ---- becoming ready

pub readied : (text : List ℕ) (me : Private) → PlaceStands me.part me.stack me.kept → FramesStand me.part me.stack → KeepsStanding me (readies text me)
readied text me kept frames = record {
  stands = record { place = tt; kept = place_as me.part (without_immediate_loops me.stack) me.stack (loops_go me.stack) me.kept kept; frames = loops_stand me.part me.stack frames };
  same = loops_go me.stack;
  numbered = refl;
}

pub halted_keeps : (me : Private) → Stands me → KeepsStanding me (halted me).me
halted_keeps me w =
    let kept = either (PlaceStands me.part me.stack) (runs_program me) me.place me.kept w.place w.kept in
    let k = readied halt_text (record me { halt = false; kept = if runs_program me then me.place else me.kept }) kept w.frames in
    record { stands = k.stands; same = k.same; numbered = refl }

pub reset_stands : (me : Private) → Stands (resets me).me
reset_stands me = record { place = tt; kept = tt; frames = tt }

-- ---- what is shown, typed and entered

pub shown_keeps : (x : Access) (a : Answer) (me : Private) → Stands me → KeepsStanding me (shown_by x a me).me
shown_keeps (access.Show term bytes column) answer.Done me w = record { stands = record { place = w.place; kept = w.kept; frames = w.frames }; same = λ g. refl; numbered = refl }
shown_keeps (access.PrintTo addr bytes column) answer.Done me w = record { stands = record { place = w.place; kept = w.kept; frames = w.frames }; same = λ g. refl; numbered = refl }
shown_keeps x a me w = record { stands = w; same = λ g. refl; numbered = refl }

pub shown_ready : (x : Access) (a : Answer) (me : Private) → PutsReady me → PutsReady (shown_by x a me).me
shown_ready (access.Show term bytes column) answer.Done me r = r
shown_ready (access.PrintTo addr bytes column) answer.Done me r = r
shown_ready x a me r = r

-- what waits is shown at the terminal or at a printer, which enters none
pub shows_none : (device text : List ℕ) (me : Private) (a : Answer) (g k : ℕ) → entered_after (shows_pending device text me) a g k ≡ k
shows_none device text me a g k =
    either (λ (x : Access). entered_after x a g k ≡ k) (bytes_eq device terminal_address) (shows_text (on_own_line me.term_column text) me) (prints_text device text me) refl refl

pub shows_no_own : (device text : List ℕ) (me : Private) (lines : Lines) → EntersNoOwn (Some (shows_pending device text me)) lines
shows_no_own device text me lines =
    either (λ (x : Access). EntersNoOwn (Some x) lines) (bytes_eq device terminal_address) (shows_text (on_own_line me.term_column text) me) (prints_text device text me) tt tt

pub typed_keeps : (a : Answer) (me : Private) → Stands me → KeepsStanding me (typed_by_key a me).me
typed_keeps answer.Done me w = record { stands = record { place = w.place; kept = w.kept; frames = w.frames }; same = λ g. refl; numbered = refl }
typed_keeps a me w = record { stands = w; same = λ g. refl; numbered = refl }

pub typed_ready : (a : Answer) (me : Private) → PutsReady me → PutsReady (typed_by_key a me).me
typed_ready answer.Done me r = r
typed_ready a me r = r

-- a numbered line, at a partition that is ready
pub put_stands : (a : Answer) (me : Private) → me.place ≡ None → Stands me → Stands (put_by a me).me
put_stands answer.Done me is w = record { place = subst (PlaceStands me.part []) (sym is) tt; kept = tt; frames = tt }
put_stands (answer.Locked q) me is w = record { place = w.place; kept = w.kept; frames = w.frames }
put_stands (answer.Refused code) me is w = record { place = w.place; kept = w.kept; frames = w.frames }
put_stands a me is w = w

pub put_counts : (a : Answer) (me : Private) (g : ℕ) → 1 ≤ g → g ≤ 16 → entered_in g (put_by a me).me.stack ≡ entered_after (puts_numbered me) a g (entered_in g me.stack)
put_counts answer.Done me g low high = all_given_back g me.stack low high
put_counts (answer.Locked q) me g low high = refl
put_counts (answer.Refused code) me g low high = refl
put_counts a me g low high = refl

pub put_ready : (a : Answer) (me : Private) → PutsReady me → PutsReady (put_by a me).me
put_ready answer.Done me r = inl refl
put_ready (answer.Locked q) me r = inl refl
put_ready (answer.Refused code) me r = inl refl
put_ready a me r = r

-- ---- a line that is read, by a partition that is ready; and special function keys

-- what a rule leaves that was at no place
pub record ReadsStanding (me after : Private) : Type 0 where
  pub stands : Stands after
  pub same : SameEntered after.stack me.stack
  pub ready : PutsReady after

takes_well : (e : Entered) (me : Private) → me.numbered ≡ None → me.place ≡ None → Stands me → ReadsStanding me (takes e me)
takes_well entered.Empty me none is w = record { stands = record { place = w.place; kept = w.kept; frames = w.frames }; same = λ g. refl; ready = inl none }
takes_well (entered.Delete n) me none is w = record { stands = record { place = w.place; kept = w.kept; frames = w.frames }; same = λ g. refl; ready = inr is }
takes_well (entered.Numbered n atoms) me none is w = record { stands = record { place = w.place; kept = w.kept; frames = w.frames }; same = λ g. refl; ready = inr is }
takes_well (entered.Immediate atoms) me none is w = record { stands = record { place = own_open me.part me.stack; kept = w.kept; frames = w.frames }; same = λ g. refl; ready = inl none }

taken_well : (r : Result Entered LineErr) (me : Private) → me.numbered ≡ None → me.place ≡ None → Stands me → ReadsStanding me (takes_or_refuses r me)
taken_well (Ok e) me none is w = takes_well e me none is w
taken_well (Err (refusal.At code column)) me none is w = record { stands = record { place = w.place; kept = w.kept; frames = w.frames }; same = λ g. refl; ready = inl none }
taken_well (Err refusal.NoMemory) me none is w = record { stands = w; same = λ g. refl; ready = inl none }

pub line_well : (bytes : List ℕ) (me : Private) → me.numbered ≡ None → me.place ≡ None → Stands me → ReadsStanding me (line_taken bytes me)
line_well bytes me none is w =
    let k = taken_well (reads bytes) (record me { term_column = 0 }) none is (record { place = w.place; kept = w.kept; frames = w.frames }) in
    record { stands = k.stands; same = k.same; ready = k.ready }

called_well : (o : Option Spot) (me : Private) → me.numbered ≡ None → Stands me → ReadsStanding me (calls_where o me)
called_well None me none w = record { stands = w; same = λ g. refl; ready = inl none }
called_well (Some spot) me none w =
    either (ReadsStanding me) (nat_lt (length me.stack) most_frames) (called_at spot me) (refuses A04_TOO_DEEP [] me)
    (record { stands = record { place = own_open me.part (Call None None ∷ me.stack); kept = tt; frames = (tt, w.frames) }; same = λ g. refl; ready = inl none })
    (record { stands = record { place = w.place; kept = w.kept; frames = w.frames }; same = λ g. refl; ready = inl none })

pub pressed_well : (text : Option (List ℕ)) (o : Option Spot) (me : Private) → me.numbered ≡ None → Stands me → ReadsStanding me (pressed_by text o me)
pressed_well (Some text) o me none w = record { stands = record { place = w.place; kept = w.kept; frames = w.frames }; same = λ g. refl; ready = inl none }
pressed_well None o me none w = called_well o me none w

-- ---- where a partition goes on after a statement, by its outcome

module _ (you : Private) (kept : PlaceStands you.part you.stack you.kept) (frames : FramesStand you.part you.stack) where
  abbrev Open : ℕ → Type 0
  Open h = is_open you.part you.stack h ≡ true

  abbrev At : Option Place → Type 0
  At o = PlaceStands you.part you.stack o

  -- a place of the same home
  after_by : (n : Option ℕ) (p : Place) → Open p.home → At (option_map (line_start p) n)
  after_by None p h = tt
  after_by (Some n) p h = h

  after_line : (lines : Lines) (p : Place) → Open p.home → At (line_after lines p)
  after_line lines p h = by p.line
    where
      by : (l : Option ℕ) → At (option_and_then (λ (n : ℕ). option_map (line_start p) (number_after (Some n) lines)) l)
      by None = tt
      by (Some n) = after_by (number_after (Some n) lines) p h

  goal_at : (lines : Lines) (p : Place) (x : Goal) → Open p.home → At (goal_place lines p x)
  goal_at lines p (goal.Unit k) h = h
  goal_at lines p (goal.Line n) h = h
  goal_at lines p goal.NextLine h = after_line lines p h

  unit_at : (o : Option ℕ) (p : Place) → Open p.home → At (option_map (λ k. record p { unit = k }) o)
  unit_at None p h = tt
  unit_at (Some k) p h = h

  error_at : (code : ℕ) (p : Place) (home : Lines) → Open p.home → At (error_place code p you home)
  error_at code p home h = either At (is_taken code) _ None (unit_at (taken_fault p.unit (units_at p you home)) p h) tt

  onward_at : (lines : Lines) (p : Place) (way : Onward) → Open p.home → At (place_onward lines p way)
  onward_at lines p onward.NextUnit h = h
  onward_at lines p onward.NextLine h = after_line lines p h

  -- it goes there
  moved : (q : Place) → Open q.home → KeepsStanding you (moves_to q you)
  moved q h = record { stands = record { place = h; kept = kept; frames = frames }; same = λ g. refl; numbered = refl }

  gone_on : (o : Option Place) → At o → KeepsStanding you (goes_to o you).me
  gone_on None h = readied _ you kept frames
  gone_on (Some q) h = moved q h

  jumped : (p q : Place) (home : Lines) → Open q.home → KeepsStanding you (jumps p q you home)
  jumped p q home h =
      either (KeepsStanding you) (not (is_some p.line) && is_some q.line) (enters_program (is_continue (statement_placed p you.immediate home)) q you) (moves_to q you)
      (record {
        stands = record { place = open_as you.part (without_immediate_loops you.stack) you.stack q.home (loops_go you.stack q.home) h; kept = tt; frames = loops_stand you.part you.stack frames };
        same = loops_go you.stack;
        numbered = refl;
      })
      (moved q h)

  faulted : (code : ℕ) (o : Option Place) (p : Place) → At o → KeepsStanding you (faults code o p you).me
  faulted code None p h =
      let k = readied (error_text code (where_text you.part p)) (with_error code you) kept frames in
      record { stands = k.stands; same = k.same; numbered = refl }
  faulted code (Some q) p h = record { stands = record { place = h; kept = kept; frames = frames }; same = λ g. refl; numbered = refl }

  pub ended_keeps : (same : Stepped) (o : Outcome) (p : Place) (home : Lines) → you.place ≡ Some p → LeadsStanding you.part you.stack (Some p) o → KeepsStanding you (ends_by same o p you home).me
  ended_keeps same outcome.Next p home is h = gone_on (following_place p you home) (goal_at home p (unit_or_next (p.unit + 1) (units_at p you home)) h)
  ended_keeps same (outcome.Jump q) p home is h = jumped p q home h
  ended_keeps same (outcome.Failed code) p home is h = faulted code (error_place code p you home) p (error_at code p home h)
  ended_keeps same outcome.Repeat p home is h = record { stands = record { place = subst (PlaceStands you.part you.stack) (sym is) h; kept = kept; frames = frames }; same = λ g. refl; numbered = refl }
  ended_keeps same outcome.Break p home is h = gone_on (following_place p you home) (goal_at home p (unit_or_next (p.unit + 1) (units_at p you home)) h)
  ended_keeps same outcome.Ready p home is h = readied _ you kept frames

  pub onward_keeps : (same : Stepped) (o : Outcome) (way : Onward) (p : Place) (home : Lines) → you.place ≡ Some p → LeadsStanding you.part you.stack (Some p) o → KeepsStanding you (ends_onward same o way p you home).me
  onward_keeps same outcome.Next way p home is h = gone_on (place_onward home p way) (onward_at home p way h)
  onward_keeps same outcome.Break way p home is h = gone_on (place_onward home p way) (onward_at home p way h)
  onward_keeps same o way p home is h = ended_keeps same o p home is h
