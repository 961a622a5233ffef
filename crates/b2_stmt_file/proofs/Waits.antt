-- A statement on data files that has to wait leaves the partition as it was.
use Rattle.std.proofs.Common.{◌≡◌, ◌==◌, refl, ap, true, List, ℕ}
use Rattle.b2_dec.specs.declared.values.Value.{Value}
use Rattle.b2_atom.specs.Tree.{Trees}
use Rattle.b2_atom.specs.Tree.Trees.{Put, In}
use Rattle.b2_access.specs.AnswerKinds.{delays}
use Rattle.b2_access.specs.Lending.{SeenLent}
use Rattle.b2_access.specs.Placed.{Statement}
use Rattle.b2_access.specs.Views.{loading_came, opening_came, place_came}
use Rattle.b2_access.specs.Working.{FileWorked, on_files}
use Rattle.b2_access.specs.declared.accesses.Access.{Access}
use Rattle.b2_access.specs.declared.accesses.Answer.{Answer}
use Rattle.b2_access.specs.declared.private.Private.{Private}
use Rattle.b2_access.proofs.Choice.{either}
use Rattle.b2_access.proofs.Dispatch.{each_dispatch}
use Rattle.b2_access.proofs.Delays.{loading_delayed, opening_delayed, place_delayed}
use Rattle.b2_stmt_file.specs.FileAnswers.{by_loading, by_opening, by_place, file_ends, values_in}
use Rattle.b2_stmt_file.specs.Loading.{load_ends, loading_ends}
use Rattle.b2_stmt_file.specs.Opening.{slot_opened}
use Rattle.b2_stmt_file.specs.Plan.{ended_of, ends, finishes, is_refused, repeats}
use Rattle.b2_stmt_file.specs.Saving as save
use Rattle.b2_stmt_file.specs.declared.file_answers.Came.{Came}
use Rattle.b2_stmt_file.specs.declared.file_answers.Came.TheVariants as came
use Rattle.b2_stmt_file.proofs.Planned.{each_ended}

-- it is asked for again
IsLater : Came → Type 0
IsLater c = c ≡ came.Later

opening_later : (x : Access) (a : Answer) → delays a ≡ true → by_opening (opening_came x a) ≡ came.Later
opening_later x a h = ap by_opening (opening_delayed x a h)

place_later : (x : Access) (a : Answer) → delays a ≡ true → by_place (place_came x a) ≡ came.Later
place_later x a h = ap by_place (place_delayed x a h)

save_later : (x : Access) (a : Answer) (t : Trees) → delays a ≡ true → save.came_of x a t ≡ came.Later
unfolding IsLater
save_later x a (Put word (Put dc (In k operands end))) h = either IsLater (k == 1) _ _ (opening_later x a h) (place_later x a h)
save_later x a t h = refl

later_leaves : (n : ℕ) (c : Came) (me : Private) → c ≡ came.Later → (file_ends n c me).work ≡ on_files.unchanged me
later_leaves n c me is = ap (λ (x : Came). (file_ends n x me).work) is

loading_later : (x : Access) (a : Answer) → delays a ≡ true → by_loading (loading_came x a) ≡ came.Later
loading_later x a h = ap by_loading (loading_delayed x a h)

later_takes : (c : Came) (values : List Value) (operands : Trees) (me : Private) (s : SeenLent) → c ≡ came.Later → (load_ends c values operands me s).work ≡ on_files.unchanged me
later_takes c values operands me s is = ap (λ (x : Came). (load_ends x values operands me s).work) is

Leaves : Private → FileWorked → Type 0
Leaves me w = w.work ≡ on_files.unchanged me

load_leaves : (x : Access) (a : Answer) (t : Trees) (me : Private) (s : SeenLent) → delays a ≡ true → Leaves me (loading_ends x a t me s)
unfolding Leaves
load_leaves x a (Put word (Put dc (In k operands end))) me s h =
    either (Leaves me) (k == 1) _ _ (later_leaves (slot_opened operands) (by_opening (opening_came x a)) me (opening_later x a h))
    (later_takes (by_loading (loading_came x a)) (values_in (loading_came x a)) operands me s (loading_later x a h))
load_leaves x a t me s h = refl

after_statement : (u : Statement) (x : Access) (a : Answer) (me : Private) (s : SeenLent) → delays a ≡ true → (ended_of u x a me s).work ≡ on_files.unchanged me
unfolding Leaves
after_statement u x a me s h =
    each_ended (λ w. w.work ≡ on_files.unchanged me) x a me s (λ t. later_leaves (save.slot_of t) (save.came_of x a t) me (save_later x a t h)) (λ t. load_leaves x a t me s h)
    (λ t. later_leaves _ (by_place (place_came x a)) me (place_later x a h)) refl u

pub after_place : (x : Access) (a : Answer) (me : Private) (s : SeenLent) → delays a ≡ true → (ends x a me s).work ≡ on_files.unchanged me
after_place x a me s h =
    let F : FileWorked → Type 0 = λ w. w.work ≡ on_files.unchanged me in
    each_dispatch is_refused (repeats me) (finishes x a me s) me s F refl refl (λ p is u. after_statement u x a me s h)
