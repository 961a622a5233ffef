-- Each object of a device that a step of a run touches belongs to one that the boot lists for the partition of that step.
use Rattle.std.specs.Prelude.{◌≡◌, ℕ, zero, suc, ◌||◌, Bool, true, false, List, [], ◌∷◌, map, Option, Some, None, All, refl}
use Rattle.std.proofs.Common.{sym, subst, ◌∙◌, inl, inr}
use Rattle.std.proofs.lemmas.List.Elements.{All-append, All-cons, All-head, All-nil, All-tail}
use Rattle.b2_flow.specs.declared.frame.Frame.{Frame}
use Rattle.b2_flow.specs.declared.frame.Frame.TheVariants.{For, Call}
use Rattle.b2_flow.specs.declared.frame.Place.{Place}
use Rattle.b2_access.proofs.Choice.{either}
use Rattle.b2_access.specs.AccessRows.{holder_at, reach}
use Rattle.b2_access.specs.Devices.{is_platter_for, is_printer_for}
use Rattle.b2_access.specs.Holding.{device_of}
use Rattle.b2_access.specs.Homes.{FrameIn, FramesIn, IsWithin, PartIn, PlaceIn}
use Rattle.b2_access.specs.Loans.{lends}
use Rattle.b2_access.specs.OwnDevices.{AreListed, ReachesListed, is_device_for, is_listed_for}
use Rattle.b2_access.specs.Reach.{DevicePart, DeviceReach, HoldFreed, HoldTaken, WithPlatter, WithPrinter, Reach, device_objects, entered_objects, objects_reached, part_objects, terminal_objects, text_objects, variable_objects}
use Rattle.b2_access.specs.Serving.{itself}
use Rattle.b2_access.specs.Store.{StoreState, IsIn}
use Rattle.b2_access.specs.Touching.{touched}
use Rattle.b2_access.specs.declared.accesses.Access.{Access}
use Rattle.b2_access.specs.declared.devices.Device.{Device}
use Rattle.b2_access.specs.declared.objects.Object.{Object}
use Rattle.b2_access.specs.declared.objects.Object.TheVariants as object
use Rattle.b2_access.specs.declared.private.Private.{Private}
use Rattle.b2_access.specs.declared.reached.TextUse.{TextUse}
use Rattle.b2_access.specs.declared.reached.TextUse.TheVariants as text
use Rattle.b2_audit.specs.Steps.{Step}
use Rattle.b2_boot.specs.Quotas.{quotas_of}
use Rattle.b2_machine.proofs.StepDevices.{steps_ask_for_listed}
use Rattle.b2_machine.proofs.StepOutput.{step_shows, still_for_terminal}
use Rattle.b2_machine.specs.Touched.{AskedListed, asking, step_touched}
use Rattle.b2_machine.specs.Turn.{passes_none, passes_turn, unless_ended}
use Rattle.b2_machine.specs.declared.ends.Why.{Why}
use Rattle.b2_store.specs.DiskWork.{serves}
use Rattle.b2_sched.proofs.EachRow.{EachIs, IsKept, each_action}
use Rattle.b2_sched.proofs.Folds.{keeps_devices}
use Rattle.b2_sched.proofs.OwnObjects.{IsItself, keeps_itself, starts_itself, step_part}
use Rattle.b2_sched.proofs.Reaching.{Covers, MayIfAny, stepped}
use Rattle.b2_sched.proofs.ShownAtTerminals.{ShowsAtTerminal, always_shows, booted_shows, for_listed}
use Rattle.b2_sched.specs.Choice.{basic}
use Rattle.b2_sched.specs.Devices.{IsOfListed, RunsTouchListedDevices, TouchesListed}
use Rattle.b2_sched.specs.Groups.{steps_along, steps_at}
use Rattle.b2_sched.specs.Laws.{all_actions}
use Rattle.b2_sched.specs.Lawful.{basic_asks_for_listed, basic_is_lawful}
use Rattle.b2_sched.specs.Start.{booted, devices_of}
use Rattle.b2_sched.specs.Turns.{noted_by, step_noted, step_of, steps_from, steps_in_turn}
use Rattle.b2_sched.specs.World.{WorldState, Action, Key, Front, Halt, Reset, Turn, does, private_of}

-- a device that is listed as one of a kind is listed
as_platter : (b c : Bool) → b ≡ true → (b || c) ≡ true
as_platter true c is = refl
as_platter false c is = let clash : false ≡ true = is in absurd (cc)

as_printer : (b c : Bool) → c ≡ true → (b || c) ≡ true
as_printer true c is = refl
as_printer false c is = is

-- a partition is the one of its number, and what waits to be shown is for its terminal
abbrev pub IsFit : ℕ → Private → Type 0
IsFit p me = ShowsAtTerminal p me × IsItself p me

pub always_fit : IsKept IsFit
always_fit = record {
  halt = λ p me h. (always_shows.halt p me h.0, keeps_itself.halt p me h.1);
  reset = λ p me h. (always_shows.reset p me h.0, keeps_itself.reset p me h.1);
  turn = λ devices p n me s h. (always_shows.turn devices p n me s h.0, keeps_itself.turn devices p n me s h.1);
}

-- the steps of one partition, over a table of devices
module _ (table : List Device) (p : ℕ) where
  abbrev IsThere : List ℕ → Type 0
  IsThere a = is_device_for p a table ≡ true

  device_listed : (a : List ℕ) (part : DevicePart) → is_listed_for p a part table ≡ true → IsThere a
  device_listed a HoldTaken is = is
  device_listed a HoldFreed is = is
  device_listed a WithPlatter is = as_platter (is_platter_for p a table) (is_printer_for p a table) is
  device_listed a WithPrinter is = as_printer (is_platter_for p a table) (is_printer_for p a table) is

  -- objects of no device, and those of one that is listed
  abbrev Fine : Object → Type 0
  Fine o = IsOfListed table p o

  abbrev AreFine : List Object → Type 0
  AreFine os = All Fine os

  of_none : (o : Object) → device_of o ≡ None → Fine o
  of_none o none a is = let clash : ◌≡◌ {A = Option (List ℕ)} None (Some a) = sym none ∙ is in absurd (cc)

  of_one : (o : Object) (d : List ℕ) → device_of o ≡ Some d → IsThere d → Fine o
  of_one o d of there a is = let both : Some d ≡ Some a = sym of ∙ is in let same : d ≡ a = cc in subst IsThere same there

  none_fine : AreFine []
  none_fine = All-nil Fine

  more : (o : Object) (os : List Object) → Fine o → AreFine os → AreFine (o ∷ os)
  more o os h k = All-cons Fine o os h k

  -- so it is of each that is listed
  each_in : (os : List Object) → AreFine os → (o : Object) → IsIn o os → Fine o
  each_in [] h o i = absurd i
  each_in (x ∷ xs) h o i = elim i [ inl e ↦ subst Fine (sym e) (All-head Fine x xs h) | inr j ↦ each_in xs (All-tail Fine x xs h) o j ]

  all_in : (os : List Object) → ((o : Object) → IsIn o os → Fine o) → AreFine os
  all_in [] h = none_fine
  all_in (x ∷ xs) h = more x xs (h x (inl refl)) (all_in xs (λ o i. h o (inr i)))

  -- what an access reaches
  terminal_fine : (term : Option ℕ) → AreFine (terminal_objects term)
  terminal_fine None = none_fine
  terminal_fine (Some t) = more (object.Terminal t) [] (of_none (object.Terminal t) refl) none_fine

  text_fine : (who : ℕ) (used : TextUse) → AreFine (text_objects who used)
  text_fine who text.Unused = none_fine
  text_fine who text.Read = more (object.Text who) [] (of_none (object.Text who) refl) none_fine
  text_fine who text.Edited = more (object.Borrow who) (object.Text who ∷ []) (of_none (object.Borrow who) refl) (more (object.Text who) [] (of_none (object.Text who) refl) none_fine)

  variables_fine : (who : ℕ) (b : Bool) → AreFine (variable_objects who b)
  variables_fine who true = more (object.Globals who) [] (of_none (object.Globals who) refl) none_fine
  variables_fine who false = none_fine

  borrowers_fine : (ps : List ℕ) → AreFine (map object.Borrow ps)
  borrowers_fine [] = none_fine
  borrowers_fine (p ∷ ps) = more (object.Borrow p) (map object.Borrow ps) (of_none (object.Borrow p) refl) (borrowers_fine ps)

  names_fine : (ns : List (List ℕ)) → AreFine (map object.Name ns)
  names_fine [] = none_fine
  names_fine (n ∷ ns) = more (object.Name n) (map object.Name ns) (of_none (object.Name n) refl) (names_fine ns)

  with_hog : (d : List ℕ) (os : List Object) → IsThere d → AreFine os → AreFine (object.Hog d ∷ os)
  with_hog d os there rest = more (object.Hog d) os (of_one (object.Hog d) d refl there) rest

  part_fine : (d : List ℕ) (part : DevicePart) → IsThere d → AreFine (part_objects d part)
  part_fine d HoldTaken there = with_hog d [] there none_fine
  part_fine d HoldFreed there = with_hog d [] there none_fine
  part_fine d WithPlatter there = with_hog d (object.Platter d ∷ []) there (more (object.Platter d) [] (of_one (object.Platter d) d refl there) none_fine)
  part_fine d WithPrinter there = with_hog d (object.Printer d ∷ []) there (more (object.Printer d) [] (of_one (object.Printer d) d refl there) none_fine)

  devices_fine : (ds : List DeviceReach) → AreListed table p ds → AreFine (device_objects ds)
  devices_fine [] are = none_fine
  devices_fine (d ∷ ds) are =
      All-append Fine (part_objects d.address d.part) (device_objects ds) (part_fine d.address d.part (device_listed d.address d.part are.0)) (devices_fine ds are.1)

  entered_fine : (name : Option (List ℕ)) (holder : Option ℕ) → AreFine (entered_objects name holder)
  entered_fine None holder = none_fine
  entered_fine (Some name) None = more (object.Name name) [] (of_none (object.Name name) refl) none_fine
  entered_fine (Some name) (Some q) =
      more (object.Name name) (object.Text q ∷ object.Borrow q ∷ []) (of_none (object.Name name) refl)
      (more (object.Text q) (object.Borrow q ∷ []) (of_none (object.Text q) refl) (more (object.Borrow q) [] (of_none (object.Borrow q) refl) none_fine))

  reached_fine : (who : ℕ) (holder : Option ℕ) (r : Reach) → AreListed table p r.devices → AreFine (objects_reached who holder r)
  reached_fine who holder r are =
      All-append Fine (terminal_objects r.terminal) _ (terminal_fine r.terminal)
      (All-append Fine (text_objects who r.text) _ (text_fine who r.text)
      (All-append Fine (variable_objects who r.variables) _ (variables_fine who r.variables)
      (All-append Fine (map object.Borrow r.borrowers) _ (borrowers_fine r.borrowers)
      (All-append Fine (device_objects r.devices) _ (devices_fine r.devices are)
      (All-append Fine (entered_objects r.entered holder) (map object.Name r.names) (entered_fine r.entered holder) (names_fine r.names))))))

  -- of all partitions
  anyone : (among : ℕ → Bool) → ((q : ℕ) → among q ≡ true) → (me : Private) → IsWithin among me
  anyone among all me = record { part = all me.part; place = at_place me.place; kept = at_place me.kept; frames = in_frames me.stack }
    where
      at_place : (x : Option Place) → PlaceIn among x
      at_place None = tt
      at_place (Some x) = all x.home

      entered_in : (x : Option ℕ) → PartIn among x
      entered_in None = tt
      entered_in (Some q) = all q

      in_frame : (f : Frame) → FrameIn among f
      in_frame (For v limit step body) = all body.home
      in_frame (Call back entered) = (at_place back, entered_in entered)

      in_frames : (fs : List Frame) → FramesIn among fs
      in_frames [] = tt
      in_frames (f ∷ fs) = (in_frame f, in_frames fs)

  abbrev everyone : ℕ → Bool
  everyone q = true

  abbrev May : ℕ → Access → Type 0
  May who a = ReachesListed table p a

  may_ask : (who : ℕ) (x : Option Access) → AskedListed table p x → MayIfAny May who x
  may_ask who None h = tt
  may_ask who (Some a) h = h

  all_listed : Covers everyone May Fine
  all_listed = record {
    texts = λ q is. of_none (object.Text q) refl;
    variables = λ q is. of_none (object.Globals q) refl;
    names = λ n. of_none (object.Name n) refl;
    accesses = λ who a s member h led. each_in (touched s who a) (reached_fine who (holder_at a s) (reach a) h);
  }

  -- a step, and the steps of a turn
  step_fine : (me : Private) (s : StoreState) → IsFit p me → AreFine (step_touched (basic table) itself serves lends me s)
  step_fine me s fit =
      let listed = steps_ask_for_listed basic basic_asks_for_listed table me s (for_listed table me.part me.pending fit.0) in
      let asked = may_ask me.part (asking (basic table) me s) (subst (λ (q : ℕ). AskedListed table q (asking (basic table) me s)) fit.1 listed) in
      all_in (step_touched (basic table) itself serves lends me s)
      (stepped everyone May Fine all_listed (basic table) me s (anyone everyone (λ q. refl) me) (λ n q i leads. refl) asked)

  abbrev StepsFine : List Step → Type 0
  StepsFine xs = All (TouchesListed table) xs

  no_steps : StepsFine []
  no_steps = All-nil (TouchesListed table)

  pub fit_after : (me : Private) (s : StoreState) → IsFit p me → IsFit p (step_of table me s).me
  fit_after me s fit = (
    still_for_terminal (basic table) (basic_is_lawful table) itself serves lends me (step_of table me s).me (step_shows (basic table) (basic_is_lawful table) itself serves lends me s) fit.0,
    step_part table me s ∙ fit.1,
  )

  fine_on : (n : ℕ) (me : Private) (s : StoreState) → IsFit p me → StepsFine (steps_from table p n me s)
  unfolding steps_from
  fine_on zero me s fit = no_steps
  fine_on (suc n) me s fit =
      let x = step_of table me s in
      let rest = steps_from table p n x.me x.after in
      All-cons (TouchesListed table) (step_noted table p me s) (unless_ended x.end.why (λ w. []) rest) (step_fine me s fit) (by x.end.why rest (fine_on n x.me x.after (fit_after me s fit)))
    where
      by : (why : Option Why) (rest : List Step) → StepsFine rest → StepsFine (unless_ended why (λ w. []) rest)
      by None rest later = later
      by (Some why) rest later = no_steps

  turn_fine : (n : ℕ) (me : Private) (s : StoreState) → IsFit p me → StepsFine (steps_in_turn table p n me s)
  turn_fine n me s fit = either StepsFine (passes_turn me) [] (steps_from table p n (passes_none me) s) no_steps (fine_on n (passes_none me) s fit)

  noted_fine : (n : ℕ) (o : Option Private) (s : StoreState) → ((me : Private) → o ≡ Some me → IsFit p me) → StepsFine (noted_by table p n o s)
  noted_fine n None s fit = no_steps
  noted_fine n (Some me) s fit = turn_fine n me s (fit me refl)

-- along the actions of a run
module _ (table : List Device) where
  abbrev AllFine : List Step → Type 0
  AllFine xs = All (TouchesListed table) xs

  none_noted : AllFine []
  none_noted = All-nil (TouchesListed table)

  action_fine : (a : Action) (w : WorldState) → w.devices ≡ table → EachIs IsFit w.privates → AllFine (steps_at a w)
  action_fine (Key t k) w is fit = none_noted
  action_fine (Front t p) w is fit = none_noted
  action_fine (Halt p) w is fit = none_noted
  action_fine (Reset p) w is fit = none_noted
  action_fine (Turn p n) w is fit = subst (λ (ds : List Device). AllFine (noted_by ds p n (private_of p w) w.store)) (sym is) (noted_fine table p n (private_of p w) w.store (fit p))

  all_fine : (acts : List Action) (w : WorldState) → w.devices ≡ table → EachIs IsFit w.privates → AllFine (steps_along acts w)
  all_fine [] w is fit = none_noted
  all_fine (a ∷ rest) w is fit =
      All-append (TouchesListed table) (steps_at a w) (steps_along rest (does a w)) (action_fine a w is fit)
      (all_fine rest (does a w) (keeps_devices a w ∙ is) (each_action IsFit always_fit a w fit))

pub runs_touch_listed_devices : RunsTouchListedDevices
runs_touch_listed_devices b images log =
    all_fine (devices_of b.printers b.platters) (all_actions (quotas_of b) log) (booted b images) refl
    (λ p me is. (booted_shows b.partitions p me is, starts_itself b.partitions p me is))
