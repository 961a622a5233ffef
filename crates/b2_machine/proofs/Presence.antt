-- Partitions that are present stay so: where all that a partition names are, and all to whom names lead, they are after a step.
use Rattle.std.specs.Prelude.{◌≡◌, ◌⊎◌, ℕ, ◌&&◌, Bool, true, List, [], ◌∷◌, Option, Some, None, IsSome}
use Rattle.std.proofs.Common.{sym, ap, subst, ◌∙◌, inl, inr}
use Rattle.b2_flow.specs.declared.frame.Frame.{Frame}
use Rattle.b2_flow.specs.declared.frame.Frame.TheVariants.{For, Call}
use Rattle.b2_flow.specs.declared.frame.Place.{Place}
use Rattle.b2_access.specs.Homes.{FrameIn, FramesIn, IsWithin, PartIn, PlaceIn}
use Rattle.b2_access.specs.Leading.{AnswersLead, LeadsTo, NamesIn, NamesLead, is_present}
use Rattle.b2_access.specs.Loans.{Loan, LoansGlobals}
use Rattle.b2_access.specs.Sharing.{ServingOf}
use Rattle.b2_access.specs.Store.{StoreState, content}
use Rattle.b2_access.specs.declared.objects.Object.TheVariants as object
use Rattle.b2_access.specs.declared.private.Private.{Private}
use Rattle.b2_language.specs.Languages.{AreLawful, Ways}
use Rattle.b2_machine.specs.Stays.{KeepsAll}
use Rattle.b2_machine.specs.Step.{StepEnd, step}
use Rattle.b2_machine.specs.declared.ends.Stepped.{Stepped}
use Rattle.b2_machine.proofs.NamesKept.{steps_lead_names}
use Rattle.b2_machine.proofs.StepHomes.{steps_stay_within}

-- whoever is among some partitions is among more
module _ (among more : ℕ → Bool) (all : (p : ℕ) → among p ≡ true → more p ≡ true) where
  place_among : (p : Option Place) → PlaceIn among p → PlaceIn more p
  place_among None h = tt
  place_among (Some p) h = all p.home h

  part_among : (p : Option ℕ) → PartIn among p → PartIn more p
  part_among None h = tt
  part_among (Some p) h = all p h

  frame_among : (f : Frame) → FrameIn among f → FrameIn more f
  frame_among (For v limit step body) h = all body.home h
  frame_among (Call back entered) h = (place_among back h.0, part_among entered h.1)

  frames_among : (fs : List Frame) → FramesIn among fs → FramesIn more fs
  frames_among [] h = tt
  frames_among (f ∷ fs) h = (frame_among f h.0, frames_among fs h.1)

  pub among_more : (me : Private) → IsWithin among me → IsWithin more me
  among_more me w = record { part = all me.part w.part; place = place_among me.place w.place; kept = place_among me.kept w.kept; frames = frames_among me.stack w.frames }

-- whoever is among two kinds of partitions is among both
module _ (one two : ℕ → Bool) where
  abbrev in_both : ℕ → Bool
  in_both p = one p && two p

  part_both : (p : ℕ) → one p ≡ true → two p ≡ true → in_both p ≡ true
  part_both p h k = ap (λ (b : Bool). b && two p) h ∙ k

  place_both : (p : Option Place) → PlaceIn one p → PlaceIn two p → PlaceIn in_both p
  place_both None h k = tt
  place_both (Some p) h k = part_both p.home h k

  entered_both : (p : Option ℕ) → PartIn one p → PartIn two p → PartIn in_both p
  entered_both None h k = tt
  entered_both (Some p) h k = part_both p h k

  frame_both : (f : Frame) → FrameIn one f → FrameIn two f → FrameIn in_both f
  frame_both (For v limit step body) h k = part_both body.home h k
  frame_both (Call back entered) h k = (place_both back h.0 k.0, entered_both entered h.1 k.1)

  frames_both : (fs : List Frame) → FramesIn one fs → FramesIn two fs → FramesIn in_both fs
  frames_both [] h k = tt
  frames_both (f ∷ fs) h k = (frame_both f h.0 k.0, frames_both fs h.1 k.1)

  pub both_within : (me : Private) → IsWithin one me → IsWithin two me → IsWithin in_both me
  both_within me h k = record { part = part_both me.part h.part k.part; place = place_both me.place h.place k.place; kept = place_both me.kept h.kept k.kept; frames = frames_both me.stack h.frames k.frames }

pub still_present : (s t : StoreState) → KeepsAll s t → (p : ℕ) → is_present s p ≡ true → is_present t p ≡ true
still_present s t listed p h = listed (object.Text p) h

pub home_present : (s : StoreState) (o : Option Place) (p : Place) → o ≡ Some p → PlaceIn (is_present s) o → IsSome (content s (object.Text p.home))
home_present s o p is h = subst (PlaceIn (is_present s)) is h

module _ (ways : Ways) (lawful : AreLawful ways) {M : Type 0} (store : M → StoreState) (serving : ServingOf M) (lending : Loan M) (loans : LoansGlobals store lending) (answers : AnswersLead store serving) (names : NamesLead store serving) where
  abbrev ArePresent : Private → M → Type 0
  ArePresent me m = IsWithin (is_present (store m)) me × NamesIn (is_present (store m)) (store m)

  still_led : (among : ℕ → Bool) (me : Private) (m : M) → IsWithin among me → NamesIn among (store m) → NamesIn among (store (step ways store serving lending me m).after)
  still_led among me m w led n p is = by (steps_lead_names ways store serving lending loans names me m n p is)
    where
      by : LeadsTo (store m) n p ⊎ (p ≡ me.part) → among p ≡ true
      by (inl before) = led n p before
      by (inr own) = ap among own ∙ w.part

  kept_by : (me : Private) (m : M) (x : StepEnd M) → step ways store serving lending me m ≡ x → KeepsAll (store m) (store x.after) → ArePresent me m → ArePresent x.me x.after
  kept_by me m x is listed h =
      let among = is_present (store m) in
      let later = is_present (store x.after) in
      let more = still_present (store m) (store x.after) listed in
      let homes : IsWithin among x.me = subst (λ (y : StepEnd M). IsWithin among y.me) is (steps_stay_within ways lawful store serving lending loans answers among me m (λ n q i leads. h.1 n q leads) h.0) in
      let led : NamesIn among (store x.after) = subst (λ (y : StepEnd M). NamesIn among (store y.after)) is (still_led among me m h.0 h.1) in
      (among_more among later more x.me homes, λ n q leads. more q (led n q leads))

  pub presence_kept : (me you : Private) (m after : M) (e : Stepped) → ◌≡◌ {A = StepEnd M} (record { me = you; after = after; end = e }) (step ways store serving lending me m) → KeepsAll (store m) (store after)
      → IsWithin (is_present (store m)) me → NamesIn (is_present (store m)) (store m) → IsWithin (is_present (store after)) you × NamesIn (is_present (store after)) (store after)
  presence_kept me you m after e is listed homes led = kept_by me m (record { me = you; after = after; end = e }) (sym is) listed (homes, led)
