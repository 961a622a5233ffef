-- A statement on programs keeps no place where none is kept.
use Rattle.std.proofs.Common.{◌≡◌, ℕ, Bool, true, false, inl, refl, Option, Some, None}
use Rattle.b2_text.specs.Program.{Lines, number_after}
use Rattle.b2_access.specs.Keeping.{FinishesKeepNone}
use Rattle.b2_access.specs.Steering.{Steered}
use Rattle.b2_access.specs.Views.{ProgramCame, ProgramLoaded, ProgramLocked, ProgramRefused, ProgramLater, program_came}
use Rattle.b2_access.specs.declared.accesses.Access.{Access}
use Rattle.b2_access.specs.declared.accesses.Answer.{Answer}
use Rattle.b2_access.specs.declared.private.Private.{Private}
use Rattle.b2_stmt_disk.specs.programs.Loading.{loaded, loading_ends, replacing, started}
use Rattle.b2_stmt_disk.specs.programs.Plan.{ended_by, finish}

KeepsNothing : Steered → Type 0
KeepsNothing e = e.work.kept ≡ None

starts : (n : Option ℕ) (me : Private) → KeepsNothing (started n me)
unfolding KeepsNothing
starts None me = refl
starts (Some n) me = refl

loads : (replace : Bool) (own : Lines) (me : Private) → KeepsNothing (loaded replace own me)
unfolding KeepsNothing
loads true own me = starts (number_after None own) me
loads false own me = refl

came : (k : ProgramCame) (replace : Bool) (own : Lines) (me : Private) → me.kept ≡ None → KeepsNothing (loading_ends k replace own me)
unfolding KeepsNothing
came ProgramLoaded replace own me h = loads replace own me
came ProgramLocked replace own me h = h
came (ProgramRefused code) replace own me h = h
came ProgramLater replace own me h = h

keeps : (o : Option Bool) (x : Access) (a : Answer) (own : Lines) (me : Private) → me.kept ≡ None → KeepsNothing (ended_by o x a own me)
unfolding KeepsNothing
keeps (Some replace) x a own me h = came (program_came x a) replace own me h
keeps None x a own me h = h

pub finishes_keep_none : FinishesKeepNone finish
unfolding KeepsNothing
finishes_keep_none x a me s h = inl (keeps (replacing x) x a s.own.lines me h)
