-- Where a statement on data files leads is at no other place, and what it asks for marks no home.
use Rattle.std.proofs.Common.{ℕ, ◌==◌, Bool, List, Option, subst}
use Rattle.b2_atom.specs.Tree.{Trees}
use Rattle.b2_atom.specs.Tree.Trees.{Put, In}
use Rattle.b2_access.proofs.Choice.{either}
use Rattle.b2_access.specs.Homes.{Naming, OutcomeNamed, PlaceNamed, PlannedNamed}
use Rattle.b2_flow.specs.declared.frame.Place.{Place}
use Rattle.b2_access.specs.Lending.{SeenLent}
use Rattle.b2_access.specs.Views.{loading_came, opening_came, place_came}
use Rattle.b2_access.specs.Working.{LeadsWithin, PlansEachWithin, FileWorked}
use Rattle.b2_access.specs.declared.accesses.Access.{Access}
use Rattle.b2_access.specs.declared.accesses.Answer.{Answer}
use Rattle.b2_access.specs.declared.devices.Device.{Device}
use Rattle.b2_access.specs.declared.private.Private.{Private}
use Rattle.b2_access.proofs.Dispatch.{each_dispatch}
use Rattle.b2_access.proofs.Homes.{goes_in, goes_or_in}
use Rattle.b2_access.proofs.OwnDevices.{at_disk_marks_none}
use Rattle.b2_stmt_file.specs.FileAnswers.{by_loading, by_opening, by_place, outcome_of}
use Rattle.b2_stmt_file.specs.Loading.{loading_ends}
use Rattle.b2_stmt_file.specs.Plan.{ends, finishes, is_refused, repeats, works}
use Rattle.b2_stmt_file.specs.Saving as save
use Rattle.b2_stmt_file.specs.declared.file_answers.Came.{Came}
use Rattle.b2_stmt_file.specs.declared.file_answers.Came.TheVariants as came
use Rattle.b2_stmt_file.proofs.Planned.{each_ended, each_planned}

module _ (among : Naming) where
  Leads : FileWorked → Type 0
  Leads w = OutcomeNamed among w.outcome

  came_in : (c : Came) → OutcomeNamed among (outcome_of c)
  came_in (came.File s) = tt
  came_in (came.Refused code) = tt
  came_in came.Ended = tt
  came_in came.Later = tt

  load_in : (x : Access) (a : Answer) (t : Trees) (me : Private) (s : SeenLent) → Leads (loading_ends x a t me s)
  unfolding Leads
  load_in x a (Put word (Put dc (In k operands end))) me s = either Leads (k == 1) _ _ (came_in (by_opening (opening_came x a))) (goes_or_in among (outcome_of (by_loading (loading_came x a))) _ (came_in (by_loading (loading_came x a))))
  load_in x a t me s = tt

  place_in : (x : Access) (a : Answer) (me : Private) (s : SeenLent) → Leads (ends x a me s)
  unfolding Leads
  place_in x a me s =
      each_dispatch is_refused (repeats me) (finishes x a me s) me s Leads tt tt
      (λ p is u. each_ended Leads x a me s (λ t. came_in (save.came_of x a t)) (λ t. load_in x a t me s) (λ t. came_in (by_place (place_came x a))) tt u)

pub plans_within : (devices : List Device) → PlansEachWithin (works devices)
plans_within devices among me s k =
    each_planned devices me s (PlannedNamed among) tt (λ p g is. goes_in among s.home.lines p g (subst (λ (o : Option Place). PlaceNamed among o) is k.place)) (λ code. tt) (λ addr a listed is legal. at_disk_marks_none among.part addr a is)

pub leads_within : LeadsWithin ends
unfolding Leads
leads_within among x a me s k = place_in among x a me s
