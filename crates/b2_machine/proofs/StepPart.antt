-- A step leaves which partition it is.
use Rattle.std.proofs.Common.{◌≡◌, ◌∙◌, refl, ap, ℕ, Option, Some, None, is_some}
use Rattle.b2_flow.specs.declared.frame.Place.{Place}
use Rattle.b2_syntax.specs.Reading.{reads}
use Rattle.b2_text.specs.Program.{Lines}
use Rattle.b2_text.specs.Spots.{first_opening, is_mark}
use Rattle.b2_access.specs.Lending.{SeenLent}
use Rattle.b2_access.specs.Loans.{Loan}
use Rattle.b2_access.specs.KeyLiterals.{typed_by_mark}
use Rattle.b2_access.specs.Placed.{Statement, statement_placed}
use Rattle.b2_access.specs.Sharing.{ServingOf}
use Rattle.b2_access.specs.Store.{StoreState}
use Rattle.b2_access.specs.declared.accesses.Access.{Access}
use Rattle.b2_access.specs.declared.accesses.Access.TheVariants as access
use Rattle.b2_access.specs.declared.accesses.Answer.{Answer}
use Rattle.b2_access.specs.declared.accesses.Answer.TheVariants as answer
use Rattle.b2_access.specs.declared.lending.At.{At}
use Rattle.b2_access.specs.declared.planned.Planned.{Planned}
use Rattle.b2_access.specs.declared.planned.Planned.TheVariants as planned
use Rattle.b2_access.specs.declared.private.Private.{Private}
use Rattle.b2_language.specs.Languages.{AreLawful, Ways}
use Rattle.b2_machine.specs.Endings.{counts, repeats}
use Rattle.b2_machine.specs.Keys.{pressed}
use Rattle.b2_machine.specs.Moving.{ends_by, ends_onward}
use Rattle.b2_machine.specs.Statements.{begins, begins_where, begun_by, builder_of, finish_by, finishes, leaves, plan_by}
use Rattle.b2_machine.specs.Step.{StepEnd, carries_out, lent_to_begin, line_read, seen_by, steps_by, text_in, whose_by}
use Rattle.b2_machine.specs.Touched.{StepsKeepPart}
use Rattle.b2_machine.specs.Typing.{inserts_literal, put_by, puts_numbered, shown_by, shows_output, takes_or_refuses, typed_by_key}
use Rattle.b2_machine.proofs.OwnRules.{Own, StaysOwn, ended_stays, line_stays, listed_stays, onward_stays, pressed_stays, put_stays, shown_stays, typed_stays}
use Rattle.b2_machine.specs.declared.moving.Onward.{Onward}
use Rattle.b2_machine.specs.declared.statements.Builder.{Builder}
use Rattle.b2_machine.specs.declared.statements.Builder.TheVariants as builder
use Rattle.b2_machine.specs.declared.statements.Progress.{Progress}
use Rattle.b2_machine.specs.declared.statements.Progress.TheVariants as progress
use Rattle.b2_machine.specs.Due.{due}
use Rattle.b2_machine.specs.declared.rules.Rule.{Rule}
use Rattle.b2_machine.specs.declared.rules.Rule.TheVariants as rule
use Rattle.b2_machine.specs.Readiness.{without_halt}

abbrev SamePart : Private → Private → Type 0
SamePart me after = after.part ≡ me.part

same_part : (me after : Private) → StaysOwn me after → SamePart me after
same_part me after is = ap (λ (o : Own). o.part) is

module _ (ways : Ways) (lawful : AreLawful ways) where
  plan_same : (b : Builder) (p : Place) (me : Private) (s : SeenLent) → SamePart me (plan_by ways b p me s).me
  plan_same (builder.Listing from to) p me s = same_part me (plan_by ways (builder.Listing from to) p me s).me (listed_stays (is_some p.line) (from, to) me s)
  plan_same (builder.Language r) p me s = lawful.plans_keep_part r me s
  plan_same builder.Nobody p me s = refl

  begun : (x : Planned) (b : Builder) (p : Place) (me : Private) (home : Lines) → SamePart me (begun_by x b p me home).me
  begun (planned.Done o) b p me home = same_part me (ends_by counts o p me home).me (ended_stays counts o p me home)
  begun (planned.Ask a) b p me home = refl

  begins_same : (u : Option Statement) (p : Place) (me : Private) (s : SeenLent) → SamePart me (begins_where ways u p me s).me
  begins_same None p me s = refl
  begins_same (Some u) p me s = let x = plan_by ways (builder_of ways u) p me s in begun x.planned (builder_of ways u) p x.me s.home.lines ∙ plan_same (builder_of ways u) p me s

  finish_same : (b : Builder) (x : Access) (a : Answer) (me : Private) (s : SeenLent) → SamePart me (finish_by ways b x a me s).me
  finish_same (builder.Listing from to) x a me s = refl
  finish_same (builder.Language r) x a me s = lawful.finishes_keep_part r x a me s
  finish_same builder.Nobody x a me s = refl

  finished : (b : Builder) (x : Access) (a : Answer) (w : Onward) (p : Place) (me : Private) (s : SeenLent) → SamePart me (finishes ways b x a w p me s).me
  finished b x a w p me s =
      let y = finish_by ways b x a me s in
      same_part y.me (ends_onward (repeats a) y.outcome w p y.me s.home.lines).me (onward_stays (repeats a) y.outcome w p y.me s.home.lines) ∙ finish_same b x a me s

  module _ {M : Type 0} (store : M → StoreState) (serving : ServingOf M) (lending : Loan M) where
    abbrev Same : Private → StepEnd M → Type 0
    Same me e = e.me.part ≡ me.part

    read : (x : Answer) (me : Private) (m : M) → Same me (line_read store serving lending x me m)
    read (answer.Line bytes) me m = same_part me (takes_or_refuses (reads bytes) (record me { term_column = 0 })) (line_stays (reads bytes) (record me { term_column = 0 }))
    read (answer.Special n) me m =
        let own = (text_in (store m) me.part).lines in
        same_part me (pressed n own me) (pressed_stays (typed_by_mark n own) (first_opening (is_mark n) own) me)
    read x me m = refl

    carried : (who : ℕ) (c : Progress) (p : Place) (whose : At) (me : Private) (m : M) → Same me (carries_out ways store serving lending who c p whose me m)
    carried who (progress.Ended e) p whose me m = refl
    carried who (progress.Asks a b w) p whose me m = let g = serving m who a in finished b a g.answer w p me (seen_by who p.home whose (store g.after))

    by_rule : (r : Rule) (me : Private) (m : M) → Same me (steps_by ways store serving lending r me m)
    by_rule rule.Reset me m = refl
    by_rule rule.Halt me m = refl
    by_rule rule.Show me m =
        let a = shows_output me in
        let x = (serving m me.part a).answer in
        same_part me (shown_by a x me).me (shown_stays a x me)
    by_rule rule.Insert me m = let x = (serving m me.part (inserts_literal me)).answer in same_part me (typed_by_key x me).me (typed_stays x me)
    by_rule rule.Read me m = let g = serving m me.part (access.ReadLine me.term) in read g.answer me g.after
    by_rule rule.Put me m = let x = (serving m me.part (puts_numbered me)).answer in same_part me (put_by x me).me (put_stays x me)
    by_rule (rule.Execute p) me m =
        let whose = whose_by p me (store m) in
        let s = seen_by me.part p.home whose (store m) in
        let b = begins ways p me s in
        carried me.part b.progress p whose b.me (lent_to_begin store serving lending me.part p.home whose m (leaves ways p me s)) ∙ begins_same (statement_placed p me.immediate s.home.lines) p me s

    pub steps_keep_part : StepsKeepPart ways store serving lending
    steps_keep_part me m = by_rule (due me) (without_halt me) m
