-- A statement on programs that has to wait leaves the partition as it was.
use Rattle.std.proofs.Common.{◌≡◌, ap, refl, true, Bool, Option, Some, None}
use Rattle.b2_text.specs.Program.{Lines}
use Rattle.b2_access.specs.AnswerKinds.{delays}
use Rattle.b2_access.specs.Steering.{control_of, steering}
use Rattle.b2_access.specs.Views.{ProgramCame}
use Rattle.b2_access.specs.Working.{ChangesNothing}
use Rattle.b2_access.specs.declared.accesses.Access.{Access}
use Rattle.b2_access.specs.declared.accesses.Answer.{Answer}
use Rattle.b2_access.specs.declared.private.Private.{Private}
use Rattle.b2_access.proofs.Delays.{program_delayed}
use Rattle.b2_stmt_disk.specs.programs.Loading.{loading_ends, replacing}
use Rattle.b2_stmt_disk.specs.programs.Plan.{ended_by, ends}

after_access : (o : Option Bool) (x : Access) (a : Answer) (own : Lines) (me : Private) → delays a ≡ true → (ended_by o x a own me).work ≡ control_of me
after_access (Some replace) x a own me h = ap (λ (k : ProgramCame). (loading_ends k replace own me).work) (program_delayed x a h)
after_access None x a own me h = refl

pub after_place : ChangesNothing steering (λ x a me s. ends x a s.own.lines me)
after_place x a me s h = after_access (replacing x) x a s.own.lines me h
