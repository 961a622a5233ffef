-- A statement that has to wait leaves the partition as it was.
use Rattle.std.proofs.Common.{◌≡◌, true, ◌∙◌, ap, refl, Option, Some, None}
use Rattle.b2_flow.specs.declared.frame.Place.{Place}
use Rattle.b2_access.specs.AnswerKinds.{delays}
use Rattle.b2_access.specs.Lending.{SeenLent}
use Rattle.b2_access.specs.Planning.{Planning}
use Rattle.b2_access.specs.Steering.{control_of, steering}
use Rattle.b2_access.specs.Waiting.{PlansBeforeChanges, UnchangedIfAsks}
use Rattle.b2_access.specs.Working.{ChangesNothing}
use Rattle.b2_access.specs.declared.accesses.Access.{Access}
use Rattle.b2_access.specs.declared.accesses.Access.TheVariants as access
use Rattle.b2_access.specs.declared.accesses.Answer.{Answer}
use Rattle.b2_access.specs.declared.accesses.Answer.TheVariants as answer
use Rattle.b2_access.specs.declared.private.Private.{Private}
use Rattle.b2_access.specs.Views.{ClearCame, clear_came}
use Rattle.b2_access.proofs.Delays.{clear_delayed}
use Rattle.b2_stmt.specs.Borrowing.{LentCame, NoTextAsked, lent_came, lent_ends}
use Rattle.b2_stmt.specs.Clearing.{clearing_ends, edit_finishes}
use Rattle.b2_stmt.specs.Parts.{PartCame, part_ends}
use Rattle.b2_stmt.specs.Plan.{asked_at, ends_at, plan}
use Rattle.b2_stmt.proofs.EachPlan.{each_plan}
use Rattle.b2_stmt.proofs.PartsCame.{part_delayed}

module _ (me : Private) (s : SeenLent) where
  BeforeChanges : Planning → Type 0
  BeforeChanges p = UnchangedIfAsks me p.me p.planned

  each : BeforeChanges (plan me s)
  unfolding BeforeChanges
  each = each_plan me s BeforeChanges (λ a may. refl) (λ l e. tt)

pub plans_before_changes : PlansBeforeChanges plan
unfolding BeforeChanges
plans_before_changes me s = each me s

-- an answer that delays is none of a text
lent_delayed : (x : Access) (a : Answer) → delays a ≡ true → lent_came x a ≡ NoTextAsked
lent_delayed (access.Enter name mark) (answer.Entered home spot) h = cc
lent_delayed (access.Enter name mark) answer.NoPart h = cc
lent_delayed (access.Enter name mark) (answer.Refused code) h = cc
lent_delayed (access.Leave home) answer.Done h = cc
lent_delayed (access.Drop homes) answer.Done h = cc
lent_delayed x a h = refl

edit_unchanged : (x : Access) (a : Answer) (me : Private) → delays a ≡ true → (edit_finishes x a me).work ≡ control_of me
edit_unchanged x a me h =
    ap (λ (k : PartCame). (part_ends k (clearing_ends (clear_came x a) me) me).work) (part_delayed x a h) ∙ ap (λ (k : ClearCame). (clearing_ends k me).work) (clear_delayed x a h)

unchanged_at : (o : Option Place) (x : Access) (a : Answer) (me : Private) (s : SeenLent) → delays a ≡ true → (ends_at o x a me s).work ≡ control_of me
unchanged_at None x a me s h = edit_unchanged x a me h
unchanged_at (Some p) x a me s h =
    ap (λ (k : LentCame). (lent_ends k (asked_at me s) p me s.own.lines s.home.lines (edit_finishes x a me)).work) (lent_delayed x a h) ∙ edit_unchanged x a me h

pub after_place : ChangesNothing steering (λ x a me s. ends_at me.place x a me s)
after_place x a me s h = unchanged_at me.place x a me s h
