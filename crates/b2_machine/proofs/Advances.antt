-- How far a turn goes on: after some steps that counted, by one more.
use Rattle.std.proofs.Common.{◌≡◌, ℕ, suc, zero, ◌+◌, ◌-◌, ◌<◌, ◌≤◌, Bool, true, false, if◌then◌else◌, Option, Some, None, is_some, true≢false, refl, sym, ap, subst, ◌∙◌, arith}
use Rattle.b2_access.specs.Leading.{AnswersLead, NamesLead}
use Rattle.b2_access.specs.Lending.{SeenLent}
use Rattle.b2_access.specs.Loans.{LendsTextsAgain, Loan, LoansGlobals}
use Rattle.b2_access.specs.Sharing.{ServingOf}
use Rattle.b2_access.specs.Store.{StoreState}
use Rattle.b2_access.specs.declared.accesses.Access.{Access}
use Rattle.b2_access.specs.declared.lending.At.TheVariants as at
use Rattle.b2_access.specs.declared.private.Private.{Private}
use Rattle.b2_language.specs.Languages.{AreLawful, Ways}
use Rattle.b2_machine.specs.Advancing.{Advances, ArePresent}
use Rattle.b2_machine.specs.StraightLine.{EndsRun, RunsOn, leaves_room, led, place_in, place_or_none}
use Rattle.b2_machine.specs.Statements.{Opens}
use Rattle.b2_machine.specs.Stays.{IsLegalOpening, KeepsAll}
use Rattle.b2_machine.specs.Step.{StepEnd, executes, seen_by, step, texts_lent}
use Rattle.b2_machine.specs.Turn.{TurnEnd, ended_turn, turn_from, unless_ended}
use Rattle.b2_machine.specs.declared.ends.Stepped.{Stepped}
use Rattle.b2_machine.specs.declared.straight_line.Opened.{Opened}
use Rattle.b2_machine.specs.declared.straight_line.Ran.{Ran}
use Rattle.b2_machine.specs.declared.turning.Went.{Went}
use Rattle.b2_machine.proofs.Presence.{presence_kept}
use Rattle.b2_machine.proofs.Begins.{legal_opened}
use Rattle.b2_machine.proofs.Lent.{texts_same}
use Rattle.b2_machine.proofs.StraightLine.{led_none}
use Rattle.b2_machine.proofs.Runs.{Stands, left_led, part_led, present_led, some_place, stands_there, step_executes, turn_lent}
use Rattle.b2_machine.proofs.Turns.{by_first}

-- after so many steps that counted, and one more
abbrev pub one_more : ℕ → Stepped → Went
one_more k e = record { taken = k + 1; counted = if e.counted then k + 1 else k; why = e.why }

few_more : (b : Bool) (k : ℕ) → (if b then k + 1 else k) ≤ k + 1
few_more true k = omega arith
few_more false k = omega arith

count_more : (b : Bool) (k t : ℕ) → t + (if b then k + 1 else k) ≡ (if b then t + k + 1 else t + k)
count_more true k t = omega arith
count_more false k t = refl

module _ (ways : Ways) (lawful : AreLawful ways) {M : Type 0} (store : M → StoreState) (serving : ServingOf M) (lending : Loan M) (loans : LoansGlobals store lending) (answers : AnswersLead store serving) (names : NamesLead store serving) where
  -- where a turn comes to the same after these steps, it does after one more
  pub one_more_advances : (left k : ℕ) (me mid you : Private) (m between after : M) (e : Stepped) → ((t : ℕ) → turn_from ways store serving lending (left - k) mid between (t + k) ≡ turn_from ways store serving lending left me m t) → k < left
      → ◌≡◌ {A = StepEnd M} (record { me = you; after = after; end = e }) (step ways store serving lending mid between) → KeepsAll (store between) (store after) → ArePresent (store between) mid
      → Advances ways store serving lending left me you m after (one_more k e)
  one_more_advances left k me mid you m between after e so few is listed present =
      let kept = presence_kept ways lawful store serving lending loans answers names mid you between after e is listed present.within present.names in
      let some_left : suc (left - (k + 1)) ≡ left - k = omega arith in
      record {
        told = λ t.
            ap (λ (n : ℕ). unless_ended {A = TurnEnd M} e.why (λ w. ended_turn n w you after) (turn_from ways store serving lending (left - (k + 1)) you after n)) (count_more e.counted k t)
            ∙ by_first ways store serving lending (left - (k + 1)) mid you between after e (t + k) is
            ∙ ap (λ (n : ℕ). turn_from ways store serving lending n mid between (t + k)) some_left
            ∙ so t;
        some = omega arith;
        few = omega arith;
        counted = few_more e.counted k;
        present = record { within = kept.0; names = kept.1 };
      }

  -- as it does after them
  pub these_advance : (left k : ℕ) (me mid : Private) (m between : M) → ((t : ℕ) → turn_from ways store serving lending (left - k) mid between (t + k) ≡ turn_from ways store serving lending left me m t) → 1 ≤ k → k ≤ left → ArePresent (store between) mid
      → Advances ways store serving lending left me mid m between (record { taken = k; counted = k; why = None })
  these_advance left k me mid m between so some few present = record { told = so; some = some; few = few; counted = omega arith; present = present }

  -- the first step of a turn
  pub first_advances : (left : ℕ) (me you : Private) (m after : M) (e : Stepped) → 1 ≤ left
      → ◌≡◌ {A = StepEnd M} (record { me = you; after = after; end = e }) (step ways store serving lending me m) → KeepsAll (store m) (store after) → ArePresent (store m) me
      → Advances ways store serving lending left me you m after (one_more 0 e)
  first_advances left me you m after e some is listed present =
      one_more_advances left 0 me me you m m after e
      (λ t. ap (λ (n : ℕ). turn_from ways store serving lending n me m (t + 0)) (omega arith) ∙ ap (λ (n : ℕ). turn_from ways store serving lending left me m n) (omega arith))
      (omega arith) is listed present

  -- ---- statements of a partition at a place in the program of a home, one after another over one loan

  module _ (again : LendsTextsAgain lending) (home left : ℕ) (me you : Private) (m : M) (a : Option Access) (r : Ran) (there : is_some (place_in home me) ≡ true) (some : 1 ≤ left) (present : ArePresent (store m) me)
      (ran : RunsOn ways home (seen_by me.part home at.None (store m)) left me you a r) where
    abbrev over : M
    over = texts_lent store serving lending me.part home m

    same : store over ≡ store m
    same = texts_same store serving lending loans me.part home m

    settled : texts_lent store serving lending me.part home over ≡ over
    settled = again me.part home m

    abbrev seen : SeenLent
    seen = seen_by me.part home at.None (store over)

    runs : RunsOn ways home seen left me you a r
    runs = subst (λ (s : StoreState). RunsOn ways home (seen_by me.part home at.None s) left me you a r) (sym same) ran

    abbrev pub mid : Private
    mid = led ways home seen r.steps me

    stands_first : Stands home me (place_or_none (place_in home me))
    stands_first = stands_there home me (place_or_none (place_in home me)) (some_place (place_in home me) there)

    room : (o : Option Opened) → leaves_room o r.steps left → r.steps ≤ left
    room None h = h
    room (Some o) h = omega arith

    few : r.steps ≤ left
    few = room r.last runs.few

    told : (t : ℕ) → turn_from ways store serving lending (left - r.steps) mid over (t + r.steps) ≡ turn_from ways store serving lending left me m t
    told t =
        left_led ways store serving lending loans again lawful answers names home me over settled left r.steps t few runs.lead
        ∙ turn_lent ways store serving lending loans again home me (place_or_none (place_in home me)) m left t stands_first some

    present_mid : ArePresent (store over) mid
    present_mid = present_led ways store serving lending loans again lawful answers names home me over settled r.steps runs.lead (subst (λ (s : StoreState). ArePresent s me) (sym same) present)

    part_mid : mid.part ≡ me.part
    part_mid = part_led ways store serving lending loans again lawful answers names home me over settled r.steps runs.lead

    -- where no statement was opened after them, some have led on
    module _ (none : r.last ≡ None) where
      you_are : you ≡ mid
      you_are = subst (λ (o : Option Opened). EndsRun ways home seen o mid you a) none runs.last

      not_zero : (n : ℕ) → r.steps ≡ n → 1 ≤ n
      not_zero zero is = absurd (true≢false (sym there ∙ ap is_some (first is)))
        where
          first : r.steps ≡ zero → place_in home me ≡ None
          first none_led = subst (λ (x : Private). place_in home x ≡ None) (mid_first none_led) (runs.whole none (omega arith))
            where
              mid_first : r.steps ≡ zero → mid ≡ me
              mid_first e = ap (λ (n : ℕ). led ways home seen n me) e ∙ led_none ways home seen me
      not_zero (suc n) is = omega arith

      pub run_advances : Advances ways store serving lending left me you m over (record { taken = r.steps; counted = r.steps; why = None })
      run_advances =
          subst (λ (x : Private). Advances ways store serving lending left me x m over (record { taken = r.steps; counted = r.steps; why = None })) (sym you_are)
          (these_advance left r.steps me mid m over told (not_zero r.steps refl) few present_mid)

    -- and where one was, it goes on from there
    module _ (o : Opened) (is_o : r.last ≡ Some o) where
      last : EndsRun ways home seen (Some o) mid you a
      last = subst (λ (x : Option Opened). EndsRun ways home seen x mid you a) is_o runs.last

      stands_mid : Stands home mid o.place
      stands_mid = stands_there home mid o.place last.0

      seen_mid : seen ≡ seen_by mid.part o.place.home at.None (store over)
      seen_mid = ap (λ (n : ℕ). seen_by n home at.None (store over)) (sym part_mid) ∙ ap (λ (h : ℕ). seen_by mid.part h at.None (store over)) (sym stands_mid.within)

      pub home_mid : o.place.home ≡ home
      home_mid = stands_mid.within

      pub opens_mid : Opens ways o.place mid you (seen_by mid.part o.place.home at.None (store over)) a o.opening
      opens_mid = subst (λ (s : SeenLent). Opens ways o.place mid you s a o.opening) seen_mid last.1

      pub lent_mid : over ≡ texts_lent store serving lending mid.part o.place.home over
      lent_mid =
          sym settled
          ∙ ap (λ (n : ℕ). texts_lent store serving lending n home over) (sym part_mid)
          ∙ ap (λ (h : ℕ). texts_lent store serving lending mid.part h over) (sym stands_mid.within)

      pub you_part : you.part ≡ me.part → you.part ≡ mid.part
      you_part is = is ∙ sym part_mid

      some_room : r.steps < left
      some_room = subst (λ (x : Option Opened). leaves_room x r.steps left) is_o runs.few

      pub opened_advances : (them : Private) (after : M) (e : Stepped) → ◌≡◌ {A = StepEnd M} (record { me = them; after = after; end = e }) (executes ways store serving lending o.place mid over) → KeepsAll (store over) (store after)
          → Advances ways store serving lending left me them m after (one_more r.steps e)
      opened_advances them after e is listed =
          one_more_advances left r.steps me mid them m over after e told some_room (is ∙ sym (step_executes ways store serving lending home mid o.place over stands_mid)) listed present_mid

      pub legal_mid : IsLegalOpening o.opening a
      legal_mid = legal_opened ways lawful o.place mid you (seen_by mid.part o.place.home at.None (store over)) a o.opening opens_mid
