-- Where a statement on programs leads is the own text or no other place, and what it asks for marks no home, or those whose texts were entered.
use Rattle.std.proofs.Common.{◌≡◌, ◌∙◌, ℕ, Bool, true, false, List, [], Option, Some, None, ap, inl, inr, sym}
use Rattle.std.specs.Prelude.{◌⊎◌}
use Rattle.b2_flow.specs.declared.frame.Frame.{Frame}
use Rattle.b2_flow.specs.declared.frame.Place.{Place}
use Rattle.b2_text.specs.Program.{Lines, number_after}
use Rattle.b2_access.specs.Borrowers.{homes_entered, homes_marked, is_inside}
use Rattle.b2_access.specs.Homes.{FinishesWithin, FramesNamed, HomesIn, NamesOnly, Naming, OutcomeNamed, PlaceNamed, PlannedNamed, homes_of}
use Rattle.b2_access.specs.Lending.{SeenLent}
use Rattle.b2_access.specs.Steering.{Steered}
use Rattle.b2_access.specs.Views.{ChangeCame, DiskChanged, ChangeRefused, ChangeLater, ProgramCame, ProgramLoaded, ProgramLocked, ProgramRefused, ProgramLater, change_came, program_came}
use Rattle.b2_access.specs.Working.{PlansEachWithin}
use Rattle.b2_access.specs.declared.accesses.Access.{Access}
use Rattle.b2_access.specs.declared.accesses.Answer.{Answer}
use Rattle.b2_access.specs.declared.devices.Device.{Device}
use Rattle.b2_access.specs.declared.private.Private.{Private}
use Rattle.b2_access.proofs.EnteredHomes.{entered_within}
use Rattle.b2_access.proofs.Homes.{marks_none}
use Rattle.b2_access.proofs.Working.{control_in}
use Rattle.b2_drive.specs.Asking.{change_ends}
use Rattle.b2_stmt_disk.specs.programs.Loading.{loaded, loading_ends, replacing, started}
use Rattle.b2_stmt_disk.specs.programs.Plan.{ended_by, ends, finish, works}
use Rattle.b2_stmt_disk.proofs.of_programs.Planned.{FitsHere, each_planned}

-- no home, or those whose texts were entered
fitting : (devices : List Device) (among : Naming) (me : Private) (a : Access) → NamesOnly among me → FitsHere devices me.part (homes_entered me.stack) a → HomesIn among.part a
fitting devices among me a w fits = by (FitsHere.homes fits)
  where
    by : (homes_of a ≡ []) ⊎ (homes_of a ≡ homes_marked (homes_entered me.stack)) → HomesIn among.part a
    by (inl none) = marks_none among.part a none
    by (inr some) = λ h is. entered_within among me.stack w.frames h (sym (ap (is_inside h) some) ∙ is)

pub plans_within : (devices : List Device) → PlansEachWithin (works devices)
plans_within devices among me s w = each_planned devices me s (PlannedNamed among) tt (λ code. tt) (λ a fits stays. fitting devices among me a w fits)

module _ (among : Naming) where
  -- what a statement leaves names only these
  abbrev Left : Option Place → List Frame → Type 0
  Left kept frames = PlaceNamed among kept × FramesNamed among frames

  EndedIn : Steered → Type 0
  EndedIn e = Left e.work.kept e.work.stack × OutcomeNamed among e.outcome

  started_in : (n : Option ℕ) (me : Private) → NamesOnly among me → EndedIn (started n me)
  unfolding EndedIn
  started_in None me w = ((tt, tt), tt)
  started_in (Some n) me w = ((tt, tt), among.spots me.part n 0 w.part)

  loaded_in : (replace : Bool) (own : Lines) (me : Private) → NamesOnly among me → EndedIn (loaded replace own me)
  unfolding EndedIn
  loaded_in true own me w = started_in (number_after None own) me w
  loaded_in false own me w = ((tt, tt), tt)

  loading_in : (k : ProgramCame) (replace : Bool) (own : Lines) (me : Private) → NamesOnly among me → EndedIn (loading_ends k replace own me)
  unfolding EndedIn
  loading_in ProgramLoaded replace own me w = loaded_in replace own me w
  loading_in ProgramLocked replace own me w = ((w.kept, w.frames), tt)
  loading_in (ProgramRefused code) replace own me w = ((w.kept, w.frames), tt)
  loading_in ProgramLater replace own me w = ((w.kept, w.frames), tt)

  change_in : (k : ChangeCame) → OutcomeNamed among (change_ends k)
  change_in DiskChanged = tt
  change_in (ChangeRefused code) = tt
  change_in ChangeLater = tt

  ended_in : (o : Option Bool) (x : Access) (a : Answer) (own : Lines) (me : Private) → NamesOnly among me → EndedIn (ended_by o x a own me)
  unfolding EndedIn
  ended_in (Some replace) x a own me w = loading_in (program_came x a) replace own me w
  ended_in None x a own me w = ((w.kept, w.frames), change_in (change_came x a))

  finished_in : (x : Access) (a : Answer) (me : Private) (s : SeenLent) → NamesOnly among me → NamesOnly among (finish x a me s).me × OutcomeNamed among (finish x a me s).outcome
  unfolding EndedIn
  finished_in x a me s w = let h = ended_in (replacing x) x a s.own.lines me w in (control_in among (ends x a s.own.lines me).work me w h.0, h.1)

pub finishes_within : FinishesWithin finish
finishes_within among x a me s leads w = finished_in among x a me s w
