-- Where the immediate lines that a partition names are its own, each statement leaves it so. Such places go with all units of their lines and
-- with all lines of a text, so the law on what statements name says it, of every language.
use Rattle.std.proofs.Common.{◌≡◌, ◌∙◌, ℕ, true, List, [], ◌∷◌, Option, Some, None, refl}
use Rattle.b2_flow.specs.declared.frame.Frame.{Frame}
use Rattle.b2_flow.specs.declared.frame.Frame.TheVariants.{For, Call}
use Rattle.b2_flow.specs.declared.frame.Place.{Place}
use Rattle.b2_access.specs.Homes.{AnswerIn, FramesNamed, Naming, NamesOnly, OutcomeNamed, PartIn, PlaceNamed, PlannedNamed}
use Rattle.b2_access.specs.Lending.{SeenLent}
use Rattle.b2_access.specs.declared.accesses.Access.{Access}
use Rattle.b2_access.specs.declared.accesses.Answer.{Answer}
use Rattle.b2_access.specs.declared.accesses.Answer.TheVariants as answer
use Rattle.b2_access.specs.declared.planned.Outcome.{Outcome}
use Rattle.b2_access.specs.declared.planned.Outcome.TheVariants as outcome
use Rattle.b2_access.specs.declared.planned.Planned.{Planned}
use Rattle.b2_access.specs.declared.planned.Planned.TheVariants as planned
use Rattle.b2_access.specs.declared.private.Private.{Private}
use Rattle.b2_language.specs.Languages.{AreLawful, Ways}
use Rattle.b2_sched.specs.Inside.{FinishesOwn, FramesOwn, HasOwnLine, LeadsOwn, PlaceOwn, PlannedOwn, PlansOwn, is_own_line}

-- places in lines of any text, and in an immediate line of the own; and any partition
abbrev own_lines : ℕ → Naming
own_lines p = record { place = λ q. is_own_line p q; part = λ g. true; units = λ q k h. h; lines = λ q n h. refl; spots = λ g n k h. refl }

any_part : (e : Option ℕ) → PartIn (λ g. true) e
any_part None = tt
any_part (Some g) = refl

anybody : (a : Answer) → AnswerIn (λ g. true) a
anybody (answer.Holder q) = refl
anybody (answer.Entered g spot) = refl
anybody a = tt

module _ (p : ℕ) where
  place_named : (o : Option Place) → PlaceOwn p o → PlaceNamed (own_lines p) o
  place_named None h = tt
  place_named (Some q) h = h

  frames_named : (fs : List Frame) → FramesOwn p fs → FramesNamed (own_lines p) fs
  frames_named [] h = tt
  frames_named (For v limit step body ∷ fs) h = (h.0, frames_named fs h.1)
  frames_named (Call back entered ∷ fs) h = ((place_named back h.0, any_part entered), frames_named fs h.1)

  named : (me : Private) → HasOwnLine p me → NamesOnly (own_lines p) me
  named me h = record { part = refl; place = place_named me.place h.place; kept = place_named me.kept h.kept; frames = frames_named me.stack h.frames }

  place_own : (o : Option Place) → PlaceNamed (own_lines p) o → PlaceOwn p o
  place_own None h = tt
  place_own (Some q) h = h

  frames_own : (fs : List Frame) → FramesNamed (own_lines p) fs → FramesOwn p fs
  frames_own [] h = tt
  frames_own (For v limit step body ∷ fs) h = (h.0, frames_own fs h.1)
  frames_own (Call back entered ∷ fs) h = (place_own back h.0.0, frames_own fs h.1)

  own : (me after : Private) → after.part ≡ me.part → HasOwnLine p me → NamesOnly (own_lines p) after → HasOwnLine p after
  own me after same h n = record { part = same ∙ h.part; place = place_own after.place n.place; kept = place_own after.kept n.kept; frames = frames_own after.stack n.frames }

  leads_own : (o : Outcome) → OutcomeNamed (own_lines p) o → LeadsOwn p o
  leads_own (outcome.Jump q) h = h
  leads_own o h = tt

  planned_own : (x : Planned) → PlannedNamed (own_lines p) x → PlannedOwn p x
  planned_own (planned.Done o) h = leads_own o h
  planned_own (planned.Ask a) h = tt

pub plans_own_lines : (ways : Ways) → AreLawful ways → (r : ℕ) → PlansOwn (ways.plan r)
plans_own_lines ways lawful r p me s h =
    let x = (lawful.leave_the_rest r).plans_within (own_lines p) me s (named p me h) in
    (own p me (ways.plan r me s).me (lawful.plans_keep_part r me s) h x.0, planned_own p (ways.plan r me s).planned x.1)

pub finishes_own_lines : (ways : Ways) → AreLawful ways → (r : ℕ) → FinishesOwn (ways.finish r)
finishes_own_lines ways lawful r p x a me s h =
    let y = (lawful.leave_the_rest r).finishes_within (own_lines p) x a me s (anybody a) (named p me h) in
    (own p me (ways.finish r x a me s).me (lawful.finishes_keep_part r x a me s) h y.0, leads_own p (ways.finish r x a me s).outcome y.1)
