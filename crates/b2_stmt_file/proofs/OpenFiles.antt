-- The files that a partition has open stay on platters that are listed for it, at their first sectors or after them.
use Rattle.std.proofs.Common.{◌==◌, ℕ, zero, suc, List, [], ◌∷◌, Option, Some, None, slice_set, ap, ◌∙◌}
use Rattle.b2_base.specs.declared.files.Slot.{Slot}
use Rattle.b2_atom.specs.Tree.{Trees}
use Rattle.b2_atom.specs.Tree.Trees.{Put, In}
use Rattle.b2_access.specs.Devices.{is_platter_for}
use Rattle.b2_access.specs.Fitting.{AnswerFits}
use Rattle.b2_access.specs.Lending.{SeenLent}
use Rattle.b2_access.specs.OpenFiles.{AreOpenFor, FinishesKeepOpenFiles, HasOpenFiles, IsOpenFor, PlansKeepOpenFiles}
use Rattle.b2_access.specs.OwnDevices.{ReachesListed}
use Rattle.b2_access.specs.Placed.{Statement}
use Rattle.b2_access.specs.Views.{loading_came, opening_came, place_came}
use Rattle.b2_access.specs.Working.{FileWorked}
use Rattle.b2_access.specs.declared.accesses.Access.{Access}
use Rattle.b2_access.specs.declared.accesses.Access.TheVariants as access
use Rattle.b2_access.specs.declared.accesses.Answer.{Answer}
use Rattle.b2_access.specs.declared.accesses.Answer.TheVariants as answer
use Rattle.b2_access.specs.declared.devices.Device.{Device}
use Rattle.b2_access.specs.declared.private.Private.{Private}
use Rattle.b2_access.proofs.Choice.{either}
use Rattle.b2_access.proofs.Dispatch.{each_dispatch}
use Rattle.b2_access.proofs.OpenFiles.{plans_keep_open}
use Rattle.b2_access.proofs.Working.{plans_keep_files}
use Rattle.b2_stmt_file.specs.FileAnswers.{by_loading, by_opening, by_place, file_ends, slots_after}
use Rattle.b2_stmt_file.specs.Loading.{loading_ends}
use Rattle.b2_stmt_file.specs.Opening.{slot_opened}
use Rattle.b2_stmt_file.specs.Plan.{ended_of, ends, finish, finishes, is_refused, plan, repeats, works}
use Rattle.b2_stmt_file.specs.Saving as save
use Rattle.b2_stmt_file.specs.declared.file_answers.Came.{Came}
use Rattle.b2_stmt_file.specs.declared.file_answers.Came.TheVariants as came
use Rattle.b2_stmt_file.proofs.Planned.{each_ended}

module _ (devices : List Device) (who : ℕ) where
  set_open : (slots : List (Option Slot)) (n : ℕ) (file : Slot) → AreOpenFor devices who slots → IsOpenFor devices who file → AreOpenFor devices who (slice_set slots n (Some file))
  set_open [] zero file h k = tt
  set_open [] (suc n) file h k = tt
  set_open (None ∷ slots) zero file h k = (k, h)
  set_open (None ∷ slots) (suc n) file h k = set_open slots n file h k
  set_open (Some other ∷ slots) zero file h k = (k, h.1)
  set_open (Some other ∷ slots) (suc n) file h k = (h.0, set_open slots n file h.1 k)

  -- what came is a file that is open so, or none
  abbrev IsOpenCame : Came → Type 0
  IsOpenCame (came.File file) = IsOpenFor devices who file
  IsOpenCame c = Unit {0}

  after_came : (n : ℕ) (c : Came) (slots : List (Option Slot)) → AreOpenFor devices who slots → IsOpenCame c → AreOpenFor devices who (slots_after n c slots)
  after_came n (came.File file) slots h k = set_open slots n file h k
  after_came n (came.Refused code) slots h k = h
  after_came n came.Ended slots h k = h
  after_came n came.Later slots h k = h

  -- by the access and its answer
  opening_open : (x : Access) (a : Answer) → ReachesListed devices who x → AnswerFits x a → IsOpenCame (by_opening (opening_came x a))
  opening_open (access.DataNew addr old sectors name) (answer.Opened file) listed fits = (ap (λ (d : List ℕ). is_platter_for who d devices) fits.0 ∙ listed.0, fits.1)
  opening_open (access.DataOpen addr name) (answer.Opened file) listed fits = (ap (λ (d : List ℕ). is_platter_for who d devices) fits.0 ∙ listed.0, fits.1)
  opening_open x a listed fits = tt

  place_open : (x : Access) (a : Answer) → ReachesListed devices who x → AnswerFits x a → IsOpenCame (by_place (place_came x a))
  place_open (access.DataSave file values) (answer.Moved place) listed fits = (listed.0, fits)
  place_open (access.DataEnd file) (answer.Moved place) listed fits = (listed.0, fits)
  place_open (access.Skip file way) (answer.Moved place) listed fits = (listed.0, fits)
  place_open x a listed fits = tt

  loading_open : (x : Access) (a : Answer) → ReachesListed devices who x → AnswerFits x a → IsOpenCame (by_loading (loading_came x a))
  loading_open (access.DataLoad file kinds) (answer.Values values place) listed fits = (listed.0, fits.1)
  loading_open x a listed fits = tt

module _ (devices : List Device) (x : Access) (a : Answer) (me : Private) (s : SeenLent) (listed : ReachesListed devices me.part x) (fits : AnswerFits x a) (open_now : HasOpenFiles devices me) where
  Leaves : FileWorked → Type 0
  Leaves w = AreOpenFor devices me.part w.work.more

  ends_open : (n : ℕ) (c : Came) → IsOpenCame devices me.part c → Leaves (file_ends n c me)
  unfolding Leaves
  ends_open n c k = after_came devices me.part n c me.slots open_now k

  came_open : (t : Trees) → IsOpenCame devices me.part (save.came_of x a t)
  came_open (Put word (Put dc (In k operands end))) = either (IsOpenCame devices me.part) (k == 1) _ _ (opening_open devices me.part x a listed fits) (place_open devices me.part x a listed fits)
  came_open t = tt

  load_open : (t : Trees) → Leaves (loading_ends x a t me s)
  unfolding Leaves
  load_open (Put word (Put dc (In k operands end))) =
      either Leaves (k == 1) _ _ (ends_open (slot_opened operands) (by_opening (opening_came x a)) (opening_open devices me.part x a listed fits))
      (after_came devices me.part _ (by_loading (loading_came x a)) me.slots open_now (loading_open devices me.part x a listed fits))
  load_open t = open_now

  statement_open : (u : Statement) → Leaves (ended_of u x a me s)
  unfolding Leaves
  statement_open u =
      each_ended (λ w. AreOpenFor devices me.part w.work.more) x a me s (λ t. ends_open (save.slot_of t) (save.came_of x a t) (came_open t)) (λ t. load_open t)
      (λ t. ends_open _ (by_place (place_came x a)) (place_open devices me.part x a listed fits)) open_now u

  after_place : AreOpenFor devices me.part (ends x a me s).work.more
  unfolding Leaves
  after_place =
      let F : FileWorked → Type 0 = λ w. AreOpenFor devices me.part w.work.more in
      each_dispatch is_refused (repeats me) (finishes x a me s) me s F open_now open_now (λ p is u. statement_open u)

pub plans_keep_open_files : PlansKeepOpenFiles plan
plans_keep_open_files = plans_keep_open plan (λ devices. plans_keep_files (works devices))

pub finishes_keep_open_files : FinishesKeepOpenFiles finish
finishes_keep_open_files devices x a me s listed fits h = after_place devices x a me s listed fits h
