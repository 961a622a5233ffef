-- The statements of each crate make as many frames enter each text as their accesses say. Those of control do so by a law of their crate; LOAD
-- gives back what calls entered, and no frame is left then; and all others leave the frames and ask for no access that enters or gives back.
use Rattle.std.specs.Prelude.{◌≡◌, ◌≤◌, ℕ, ◌==◌, ◌+◌, ◌||◌, nat_lt, Bool, true, false, List, [], ◌∷◌, Option, Some, None, is_some, refl, if◌then◌else◌}
use Rattle.std.proofs.Common.{sym, ap, subst, ◌∙◌, arith}
use Rattle.std.proofs.lemmas.Bool.{true≢false}
use Rattle.std.proofs.lemmas.Bool.Decides.{nat_tests}
use Rattle.b2_flow.specs.Frames.{enters}
use Rattle.b2_flow.specs.declared.frame.Frame.{Frame}
use Rattle.b2_flow.specs.declared.frame.Frame.TheVariants.{For, Call}
use Rattle.b2_flow.specs.declared.frame.Place.{Place}
use Rattle.b2_text.specs.Program.{Lines, number_after}
use Rattle.b2_access.specs.Borrowers.{is_marked}
use Rattle.b2_access.specs.Entering.{entered_after}
use Rattle.b2_access.specs.Homes.{FinishesWithin, FramesIn, IsWithin, OutcomeIn, PartIn, PlaceIn, PlannedIn, PlansWithin, at_homes}
use Rattle.b2_access.specs.Lending.{SeenLent}
use Rattle.b2_access.specs.Planning.{Finishing, Planning}
use Rattle.b2_access.specs.Standing.{EndsStanding, FramesStand, LeadsStanding, PlaceStands, PlansStanding, Stands, entered_in, is_open}
use Rattle.b2_access.specs.Steering.{Steered, steered}
use Rattle.b2_access.specs.Views.{ChangeCame, ChangeLater, ChangeRefused, DiskChanged, change_came}
use Rattle.b2_access.specs.Working.{Worked, Working, finishes_by, plans_by}
use Rattle.b2_access.specs.declared.accesses.Access.{Access}
use Rattle.b2_access.specs.declared.accesses.Access.TheVariants as access
use Rattle.b2_access.specs.declared.accesses.Answer.{Answer}
use Rattle.b2_access.specs.declared.accesses.Answer.TheVariants as answer
use Rattle.b2_access.specs.declared.devices.Device.{Device}
use Rattle.b2_access.specs.declared.planned.Outcome.{Outcome}
use Rattle.b2_access.specs.declared.planned.Outcome.TheVariants as outcome
use Rattle.b2_access.specs.declared.private.Private.{Private}
use Rattle.b2_access.proofs.Working.{after_plan}
use Rattle.b2_drive.specs.Asking.{change_ends}
use Rattle.b2_stmt.specs.Borrowing.{EntersOthers}
use Rattle.b2_stmt.specs.Plan as stmt
use Rattle.b2_stmt.proofs.EachPlan.{each_plan}
use Rattle.b2_stmt.proofs.Standing as stmt_standing
use Rattle.b2_stmt_disk.specs.devices.Plan as stmt_device
use Rattle.b2_stmt_disk.specs.Plan as stmt_disk
use Rattle.b2_stmt_file.specs.Plan as stmt_file
use Rattle.b2_stmt_io.specs.Plan as stmt_io
use Rattle.b2_stmt_mat.specs.Plan as stmt_mat
use Rattle.b2_stmt_pack.specs.Plan as stmt_pack
use Rattle.b2_stmt_disk.specs.programs.Loading.{loaded, started}
use Rattle.b2_stmt_disk.specs.programs.Plan as stmt_program
use Rattle.b2_stmt_var.specs.Plan as stmt_var
use Rattle.b2_sched.proofs.EnteredAsked.{
  AsksNone,
  EntersNone,
  Loads,
  LoadsIfAsks,
  arrays_ask_none,
  devices_ask_none,
  disks_ask_none,
  files_ask_none,
  leads_to_nobody,
  none_after,
  packed_ask_none,
  programs_load,
  terminal_asks_none,
  variables_ask_none,
}
use Rattle.b2_sched.proofs.EnteredRules.{all_given_back, own_open}
use Rattle.b2_sched.proofs.OwnNames.{finishes_own_lines, plans_own_lines}
use Rattle.b2_sched.specs.Choice.{basic, family_of, finish_by, plan_by}
use Rattle.b2_sched.specs.Inside.{EnterAsSaid, FinishesAsAnswered, HasOwnLine, PlaceOwn, is_own_line}
use Rattle.b2_sched.specs.Lawful.{basic_is_lawful, leave_the_rest}
use Rattle.b2_sched.specs.declared.choice.Family.{Family}
use Rattle.b2_sched.specs.declared.choice.Family.TheVariants as family

-- ---- all that a partition names is open to it, where it stands

up_open : (p : ℕ) (f : Frame) (fs : List Frame) (h : ℕ) → is_open p fs h ≡ true → is_open p (f ∷ fs) h ≡ true
up_open p f fs h is = by (h == p) is
  where
    more : (b : Bool) (k : ℕ) → nat_lt 0 k ≡ true → nat_lt 0 (if b then k + 1 else k) ≡ true
    more true k some = grind (arith, nat_tests)
    more false k some = some

    by : (own : Bool) → (own || nat_lt 0 (entered_in h fs)) ≡ true → (own || nat_lt 0 (entered_in h (f ∷ fs))) ≡ true
    by true i = refl
    by false i = more (enters h f) (entered_in h fs) i

just_entered : (p g : ℕ) (back : Option Place) (fs : List Frame) → is_open p (Call back (Some g) ∷ fs) g ≡ true
just_entered p g back fs = by (g == p) (g == g) (same_number g)
  where
    same_number : (n : ℕ) → (n == n) ≡ true
    same_number n = grind (arith, nat_tests)

    some : (k : ℕ) → nat_lt 0 (k + 1) ≡ true
    some k = grind (arith, nat_tests)

    by : (own same : Bool) → same ≡ true → (own || nat_lt 0 (if same then entered_in g fs + 1 else entered_in g fs)) ≡ true
    by true same is = refl
    by false true is = some (entered_in g fs)
    by false false is = absurd (true≢false (sym is))

place_in : (among : ℕ → Bool) (p : ℕ) (fs : List Frame) (o : Option Place) → ((h : ℕ) → is_open p fs h ≡ true → among h ≡ true) → PlaceStands p fs o → PlaceIn among o
place_in among p fs None up w = tt
place_in among p fs (Some q) up w = up q.home w

frames_in : (among : ℕ → Bool) (p : ℕ) (fs : List Frame) → ((h : ℕ) → is_open p fs h ≡ true → among h ≡ true) → FramesStand p fs → FramesIn among fs
frames_in among p [] up w = tt
frames_in among p (For v limit step body ∷ fs) up w =
    let f = For v limit step body in (up body.home (up_open p f fs body.home w.0), frames_in among p fs (λ h is. up h (up_open p f fs h is)) w.1)
frames_in among p (Call back entered ∷ fs) up w =
    let f = Call back entered in ((place_in among p fs back (λ h is. up h (up_open p f fs h is)) w.0, part_in entered up), frames_in among p fs (λ h is. up h (up_open p f fs h is)) w.1)
  where
    part_in : (e : Option ℕ) → ((h : ℕ) → is_open p (Call back e ∷ fs) h ≡ true → among h ≡ true) → PartIn among e
    part_in None opens = tt
    part_in (Some g) opens = opens g (just_entered p g back fs)

names_open : (me : Private) → Stands me → IsWithin (λ h. is_open me.part me.stack h) me
names_open me w =
    let among : ℕ → Bool = λ h. is_open me.part me.stack h in
    record { part = own_open me.part me.stack; place = place_in among me.part me.stack me.place (λ h is. is) w.place; kept = place_in among me.part me.stack me.kept (λ h is. is) w.kept; frames = frames_in among me.part me.stack (λ h is. is) w.frames }

leads_open : (p : ℕ) (fs : List Frame) (place : Option Place) (o : Outcome) → PlaceStands p fs place → OutcomeIn (λ h. is_open p fs h) o → LeadsStanding p fs place o
leads_open p fs place outcome.Next w h = w
leads_open p fs place (outcome.Jump q) w h = h
leads_open p fs place (outcome.Failed code) w h = w
leads_open p fs place outcome.Repeat w h = w
leads_open p fs place outcome.Break w h = w
leads_open p fs place outcome.Ready w h = tt

-- ---- statements that leave the frames

pub record SameFrames (me after : Private) : Type 0 where
  pub part : after.part ≡ me.part
  pub place : after.place ≡ me.place
  pub kept : after.kept ≡ me.kept
  pub stack : after.stack ≡ me.stack
  pub numbered : after.numbered ≡ me.numbered

same_planned : (way : Private → SeenLent → Working) (me : Private) (s : SeenLent) → SameFrames me (plans_by way me s).me
same_planned way me s = after_plan (SameFrames me) me s (way me s) (λ w. record { part = refl; place = refl; kept = refl; stack = refl; numbered = refl })

stays_standing : (me after : Private) (o : Outcome) → SameFrames me after → Stands me → OutcomeIn (λ h. is_open me.part me.stack h) o → EndsStanding me after o
stays_standing me after o f w h = record {
  kept = subst (λ (fs : List Frame). PlaceStands me.part fs after.kept) (sym f.stack) (subst (PlaceStands me.part me.stack) (sym f.kept) w.kept);
  frames = subst (FramesStand me.part) (sym f.stack) w.frames;
  leads = subst (λ (fs : List Frame). LeadsStanding me.part fs me.place o) (sym f.stack) (leads_open me.part me.stack me.place o w.place h);
}

plan_standing : (plan : Private → SeenLent → Planning) → PlansWithin plan → ((me : Private) (s : SeenLent) → SameFrames me (plan me s).me) → PlansStanding plan
plan_standing plan within same me s o is w =
    let among : ℕ → Bool = λ h. is_open me.part me.stack h in
    let f = same me s in
    (stays_standing me (plan me s).me o f w (subst (PlannedIn among) is (within (at_homes among) me s (names_open me w)).1), λ g. ap (entered_in g) f.stack)

finish_standing : (plan : Private → SeenLent → Planning) (finish : Access → Answer → Private → SeenLent → Finishing) → FinishesWithin finish → ((x : Access) (a : Answer) (me : Private) (s : SeenLent) → SameFrames me (finish x a me s).me)
    → ((me : Private) (s : SeenLent) → AsksNone (plan me s).planned) → FinishesAsAnswered plan finish
finish_standing plan finish within same none x a me s t may is again no_place own w =
    let among : ℕ → Bool = λ h. is_open me.part me.stack h in
    let f = same x a me s in
    let enters_none : EntersNone x = subst AsksNone is (none me t) in (
      stays_standing me (finish x a me s).me (finish x a me s).outcome f w (within (at_homes among) x a me s (leads_to_nobody among x a enters_none.seeks_nobody may) (names_open me w)).1,
      λ g low high. ap (entered_in g) f.stack ∙ sym (none_after x a g (entered_in g me.stack) low high enters_none),
    )

-- ---- LOAD

module _ (me : Private) (w : Stands me) where
  abbrev EndedSo : Access → Answer → Steered → Type 0
  EndedSo x a e = EndsStanding me (steered me e).me e.outcome × ((g : ℕ) → 1 ≤ g → g ≤ 16 → entered_in g (steered me e).me.stack ≡ entered_after x a g (entered_in g me.stack))

  -- no frame is left where the lines are in the text
  started_well : (n : Option ℕ) → EndsStanding me (steered me (started n me)).me (started n me).outcome × ((g : ℕ) → entered_in g (steered me (started n me)).me.stack ≡ 0)
  started_well None = (record { kept = tt; frames = tt; leads = tt }, λ g. refl)
  started_well (Some n) = (record { kept = tt; frames = tt; leads = own_open me.part [] }, λ g. refl)

  own_place : (p : Place) → me.place ≡ Some p → is_own_line me.part p ≡ true → is_some p.line ≡ false → PlaceStands me.part [] me.place
  own_place p at is no_line = subst (PlaceStands me.part []) (sym at) (ap (λ (b : Bool). b || nat_lt 0 0) (sym (ap (λ (b : Bool). b || p.home == me.part) no_line) ∙ is))

  no_line : (b : Bool) → (b ≡ true → false ≡ true) → b ≡ false
  no_line true h = absurd (true≢false (sym (h refl)))
  no_line false h = refl

  loaded_well : (replace : Bool) (lines : Lines) (p : Place) → me.place ≡ Some p → (is_some p.line ≡ true → replace ≡ true) → is_own_line me.part p ≡ true
      → EndsStanding me (steered me (loaded replace lines me)).me (loaded replace lines me).outcome × ((g : ℕ) → entered_in g (steered me (loaded replace lines me)).me.stack ≡ 0)
  loaded_well true lines p at replaces is = started_well (number_after None lines)
  loaded_well false lines p at replaces is = (record { kept = tt; frames = tt; leads = own_place p at is (no_line (is_some p.line) replaces) }, λ g. refl)

  change_leads : (c : ChangeCame) → LeadsStanding me.part me.stack me.place (change_ends c)
  change_leads DiskChanged = w.place
  change_leads (ChangeRefused code) = w.place
  change_leads ChangeLater = w.place

  program_well : (x : Access) (a : Answer) (lines : Lines) → HasOwnLine me.part me → Loads me x → EndedSo x a (stmt_program.ends x a lines me)
  program_well (access.LoadProgram addr name replace declared homes) answer.Done lines own l =
      let h = loaded_well replace lines l.1 l.2 l.3 (subst (PlaceOwn me.part) l.2 own.place) in
      (h.0, λ g low high. h.1 g ∙ all_given_back g me.stack low high ∙ ap (λ (m : ℕ). if is_marked g m then 0 else entered_in g me.stack) (sym l.0))
  program_well (access.LoadProgram addr name replace declared homes) (answer.Locked q) lines own l = (record { kept = w.kept; frames = w.frames; leads = w.place }, λ g low high. refl)
  program_well (access.LoadProgram addr name replace declared homes) (answer.Refused code) lines own l = (record { kept = w.kept; frames = w.frames; leads = w.place }, λ g low high. refl)
  program_well (access.LoadProgram addr name replace declared homes) a lines own l = (record { kept = w.kept; frames = w.frames; leads = w.place }, λ g low high. refl)
  program_well (access.SaveProgram addr old name from to) a lines own l =
      (record { kept = w.kept; frames = w.frames; leads = change_leads (change_came (access.SaveProgram addr old name from to) a) }, λ g low high. refl)
  program_well x a lines own l = absurd l

programs_finish : (devices : List Device) → FinishesAsAnswered (stmt_program.plan devices) stmt_program.finish
programs_finish devices x a me s t may is again none own w = program_well me w x a s.own.lines own (subst (LoadsIfAsks me) is (programs_load devices me t))

-- ---- each family

same_finished : (way : Access → Answer → Private → SeenLent → Worked) (x : Access) (a : Answer) (me : Private) (s : SeenLent) → SameFrames me (finishes_by way x a me s).me
same_finished way x a me s = record { part = refl; place = refl; kept = refl; stack = refl; numbered = refl }

files_same : (x : Access) (a : Answer) (me : Private) (s : SeenLent) → SameFrames me (stmt_file.finish x a me s).me
files_same x a me s = record { part = refl; place = refl; kept = refl; stack = refl; numbered = refl }

devices_same : (x : Access) (a : Answer) (me : Private) (s : SeenLent) → SameFrames me (stmt_device.finish x a me s).me
devices_same x a me s = record { part = refl; place = refl; kept = refl; stack = refl; numbered = refl }

plans_so : (devices : List Device) (f : Family) → PlansStanding (plan_by devices f)
plans_so devices family.Variables = plan_standing stmt_var.plan (leave_the_rest devices family.Variables).plans_within (same_planned stmt_var.works)
plans_so devices family.Control = stmt_standing.plans_standing
plans_so devices family.Printing = plan_standing (stmt_io.plan devices) (leave_the_rest devices family.Printing).plans_within (same_planned (stmt_io.works devices))
plans_so devices family.Terminal = plan_standing (stmt_io.plan devices) (leave_the_rest devices family.Terminal).plans_within (same_planned (stmt_io.works devices))
plans_so devices family.Arrays = plan_standing stmt_mat.plan (leave_the_rest devices family.Arrays).plans_within (same_planned stmt_mat.works)
plans_so devices family.Packed = plan_standing stmt_pack.plan (leave_the_rest devices family.Packed).plans_within (same_planned stmt_pack.works)
plans_so devices family.Files = plan_standing (stmt_file.plan devices) (leave_the_rest devices family.Files).plans_within (same_planned (stmt_file.works devices))
plans_so devices family.Programs = plan_standing (stmt_program.plan devices) (leave_the_rest devices family.Programs).plans_within (same_planned (stmt_program.works devices))
plans_so devices family.Devices = plan_standing (stmt_device.plan devices) (leave_the_rest devices family.Devices).plans_within (same_planned (stmt_device.works devices))
plans_so devices family.Disks = plan_standing (stmt_disk.plan devices) (leave_the_rest devices family.Disks).plans_within (same_planned (stmt_disk.works devices))

plans_stay : (devices : List Device) (f : Family) (me : Private) (s : SeenLent) → (plan_by devices f me s).me.numbered ≡ me.numbered
plans_stay devices family.Variables me s = (same_planned stmt_var.works me s).numbered
plans_stay devices family.Control me s = each_plan me s (λ (x : Planning). x.me.numbered ≡ me.numbered) (λ a may. refl) (λ l e. refl)
plans_stay devices family.Printing me s = (same_planned (stmt_io.works devices) me s).numbered
plans_stay devices family.Terminal me s = (same_planned (stmt_io.works devices) me s).numbered
plans_stay devices family.Arrays me s = (same_planned stmt_mat.works me s).numbered
plans_stay devices family.Packed me s = (same_planned stmt_pack.works me s).numbered
plans_stay devices family.Files me s = (same_planned (stmt_file.works devices) me s).numbered
plans_stay devices family.Programs me s = (same_planned (stmt_program.works devices) me s).numbered
plans_stay devices family.Devices me s = (same_planned (stmt_device.works devices) me s).numbered
plans_stay devices family.Disks me s = (same_planned (stmt_disk.works devices) me s).numbered

finishes_stay : (f : Family) (x : Access) (a : Answer) (me : Private) (s : SeenLent) → (finish_by f x a me s).me.numbered ≡ me.numbered
finishes_stay family.Variables x a me s = refl
finishes_stay family.Control x a me s = refl
finishes_stay family.Printing x a me s = refl
finishes_stay family.Terminal x a me s = refl
finishes_stay family.Arrays x a me s = refl
finishes_stay family.Packed x a me s = refl
finishes_stay family.Files x a me s = refl
finishes_stay family.Programs x a me s = refl
finishes_stay family.Devices x a me s = refl
finishes_stay family.Disks x a me s = refl

-- one that asks for nothing that enters a text enters no own one
none_other : (plan : Private → SeenLent → Planning) → ((me : Private) (s : SeenLent) → AsksNone (plan me s).planned) → EntersOthers plan
none_other plan none me s name mark is = absurd (true≢false (subst AsksNone is (none me s)).seeks_nobody)

loads_other : (devices : List Device) → EntersOthers (stmt_program.plan devices)
loads_other devices me s name mark is = absurd (subst (LoadsIfAsks me) is (programs_load devices me s))

control_finishes : FinishesAsAnswered stmt.plan stmt.finish
control_finishes x a me s t may is again none own w = stmt_standing.finishes_standing x a me s t is again none w

finishes_so : (devices : List Device) (f : Family) → FinishesAsAnswered (plan_by devices f) (finish_by f)
finishes_so devices family.Variables = finish_standing stmt_var.plan stmt_var.finish (leave_the_rest devices family.Variables).finishes_within (same_finished stmt_var.ends) variables_ask_none
finishes_so devices family.Control = control_finishes
finishes_so devices family.Printing =
    finish_standing (stmt_io.plan devices) stmt_io.finish_printing (leave_the_rest devices family.Printing).finishes_within (same_finished stmt_io.printing_ends) (terminal_asks_none devices)
finishes_so devices family.Terminal = finish_standing (stmt_io.plan devices) stmt_io.finish (leave_the_rest devices family.Terminal).finishes_within (same_finished stmt_io.ends) (terminal_asks_none devices)
finishes_so devices family.Arrays = finish_standing stmt_mat.plan stmt_mat.finish (leave_the_rest devices family.Arrays).finishes_within (same_finished stmt_mat.ends) arrays_ask_none
finishes_so devices family.Packed = finish_standing stmt_pack.plan stmt_pack.finish (leave_the_rest devices family.Packed).finishes_within (same_finished stmt_pack.ends) packed_ask_none
finishes_so devices family.Files = finish_standing (stmt_file.plan devices) stmt_file.finish (leave_the_rest devices family.Files).finishes_within files_same (files_ask_none devices)
finishes_so devices family.Programs = programs_finish devices
finishes_so devices family.Devices = finish_standing (stmt_device.plan devices) stmt_device.finish (leave_the_rest devices family.Devices).finishes_within devices_same (devices_ask_none devices)
finishes_so devices family.Disks = finish_standing (stmt_disk.plan devices) stmt_disk.finish (leave_the_rest devices family.Disks).finishes_within (same_finished stmt_disk.ends) (disks_ask_none devices)

others_so : (devices : List Device) (f : Family) → EntersOthers (plan_by devices f)
others_so devices family.Variables = none_other stmt_var.plan variables_ask_none
others_so devices family.Control = stmt_standing.enters_others
others_so devices family.Printing = none_other (stmt_io.plan devices) (terminal_asks_none devices)
others_so devices family.Terminal = none_other (stmt_io.plan devices) (terminal_asks_none devices)
others_so devices family.Arrays = none_other stmt_mat.plan arrays_ask_none
others_so devices family.Packed = none_other stmt_pack.plan packed_ask_none
others_so devices family.Files = none_other (stmt_file.plan devices) (files_ask_none devices)
others_so devices family.Programs = loads_other devices
others_so devices family.Devices = none_other (stmt_device.plan devices) (devices_ask_none devices)
others_so devices family.Disks = none_other (stmt_disk.plan devices) (disks_ask_none devices)

pub basic_enters_as_said : (devices : List Device) → EnterAsSaid (basic devices)
basic_enters_as_said devices = record {
  plans = λ r. plans_so devices (family_of r);
  finishes = λ r. finishes_so devices (family_of r);
  others = λ r. others_so devices (family_of r);
  plans_numbered = λ r me s. plans_stay devices (family_of r) me s;
  finishes_numbered = λ r x a me s. finishes_stay (family_of r) x a me s;
  plans_own = plans_own_lines (basic devices) (basic_is_lawful devices);
  finishes_own = finishes_own_lines (basic devices) (basic_is_lawful devices);
}
