-- A statement at the terminal that has to wait leaves the partition as it was.
use Rattle.std.proofs.Common.{◌≡◌, refl, ap, inl, inr, true, List, ℕ}
use Rattle.b2_atom.specs.Tree.{Trees}
use Rattle.b2_flow.specs.declared.frame.Place.{Place}
use Rattle.b2_text.specs.Program.{Lines}
use Rattle.b2_vars.specs.Assigned.{Changed}
use Rattle.b2_vars.specs.Tables.{VarsState}
use Rattle.b2_access.specs.AnswerKinds.{delays}
use Rattle.b2_access.specs.Lending.{SeenLent}
use Rattle.b2_access.specs.Placed.{Statement}
use Rattle.b2_access.specs.Showing.{shown_or_printed}
use Rattle.b2_access.specs.Working.{Worked, work_of}
use Rattle.b2_access.specs.declared.accesses.Access.{Access}
use Rattle.b2_access.specs.declared.accesses.Answer.{Answer}
use Rattle.b2_access.specs.declared.private.Private.{Private}
use Rattle.b2_access.specs.Views.{KeyCame, LineCame}
use Rattle.b2_access.proofs.Dispatch.{each_dispatch}
use Rattle.b2_access.proofs.Delays.{key_delayed, line_delayed}
use Rattle.b2_access.proofs.Shown.{after_shown_or_printed}
use Rattle.b2_stmt_io.specs.Keys.{key_taken, key_taken_by}
use Rattle.b2_stmt_io.specs.LineReading.{line_answered, line_answered_by}
use Rattle.b2_stmt_io.proofs.Planned.{each_ended}
use Rattle.b2_stmt_io.specs.Plan.{ended_of, ends, finishes, is_refused, repeats}

after_key : (x : Access) (a : Answer) (p : Place) (t : Trees) (me : Private) (s : SeenLent) → delays a ≡ true → (key_taken x a p t me s).work ≡ work_of me
after_key x a p t me s h = elim (key_delayed x a h) [
  | inl none ↦ ap (λ (k : KeyCame). (key_taken_by k p t me s).work) none
  | inr later ↦ ap (λ (k : KeyCame). (key_taken_by k p t me s).work) later
]

after_line : (takes : List ℕ → VarsState → Changed) (x : Access) (a : Answer) (own : Lines) (me : Private) → delays a ≡ true → (line_answered takes x a own me).work ≡ work_of me
after_line takes x a own me h = ap (λ (l : LineCame). (line_answered_by takes l own me).work) (line_delayed x a h)

after_statement : (u : Statement) (p : Place) (x : Access) (a : Answer) (me : Private) (s : SeenLent) → delays a ≡ true → (ended_of u p x a me s).work ≡ work_of me
after_statement u p x a me s h =
    each_ended (λ w. w.work ≡ work_of me) x a me s (after_shown_or_printed x a me h) refl refl u p (after_key x a p u.tree me s h) (λ r. after_line _ x a s.own.lines me h)

pub after_place : (x : Access) (a : Answer) (me : Private) (s : SeenLent) → delays a ≡ true → (ends x a me s).work ≡ work_of me
after_place x a me s h =
    let F : Worked → Type 0 = λ w. w.work ≡ work_of me in
    each_dispatch is_refused (repeats me) (finishes x a me s) me s F refl refl (λ p is u. after_statement u p x a me s h)

pub after_printing : (x : Access) (a : Answer) (me : Private) → delays a ≡ true → (shown_or_printed x a me).work ≡ work_of me
after_printing x a me h = after_shown_or_printed x a me h
