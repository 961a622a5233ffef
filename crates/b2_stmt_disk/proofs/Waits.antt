-- A statement on disks that has to wait leaves the partition as it was.
use Rattle.std.proofs.Common.{◌≡◌, refl, ap, true, List, ℕ, Option}
use Rattle.b2_access.specs.AnswerKinds.{delays}
use Rattle.b2_access.specs.Disks.{FourNumbers}
use Rattle.b2_access.specs.Lending.{SeenLent}
use Rattle.b2_access.specs.Placed.{Statement}
use Rattle.b2_access.specs.Working.{Worked, work_of}
use Rattle.b2_access.specs.declared.accesses.Access.{Access}
use Rattle.b2_access.specs.declared.accesses.Answer.{Answer}
use Rattle.b2_access.specs.declared.private.Private.{Private}
use Rattle.b2_access.proofs.Dispatch.{each_dispatch}
use Rattle.b2_access.proofs.Delays.{limits_delayed, listing_delayed}
use Rattle.b2_stmt_disk.specs.Limits.{limits_end}
use Rattle.b2_stmt_disk.specs.Listing.{listing_ends}
use Rattle.b2_stmt_disk.specs.Plan.{ended_of, ends, finishes, is_refused, repeats}
use Rattle.b2_stmt_disk.proofs.Planned.{each_ended}

after_statement : (u : Statement) (x : Access) (a : Answer) (me : Private) (s : SeenLent) → delays a ≡ true → (ended_of u x a me s).work ≡ work_of me
after_statement u x a me s h =
    each_ended (λ w. w.work ≡ work_of me) x a me s
    (λ t. ap (λ (o : Option FourNumbers). (limits_end o t me s).work) (limits_delayed x a h))
    refl
    (ap (λ (o : Option (List ℕ)). (listing_ends o me).work) (listing_delayed x a h))
    refl u

pub after_place : (x : Access) (a : Answer) (me : Private) (s : SeenLent) → delays a ≡ true → (ends x a me s).work ≡ work_of me
after_place x a me s h =
    let F : Worked → Type 0 = λ w. w.work ≡ work_of me in
    each_dispatch is_refused (repeats me) (finishes x a me s) me s F refl refl (λ p is u. after_statement u x a me s h)
