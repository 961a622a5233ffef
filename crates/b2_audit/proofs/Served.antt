-- What a watched store gives is what the store inside gives, with the marks made before and after it.
use Rattle.std.specs.Prelude.{◌≡◌, ℕ}
use Rattle.std.proofs.Common.{ap, ◌∙◌}
use Rattle.b2_access.specs.declared.accesses.Access.{Access}
use Rattle.b2_access.specs.declared.accesses.Answer.{Answer}
use Rattle.b2_access.specs.Sharing.{Gives, ServingOf}
use Rattle.b2_access.specs.Store.{StoreState}
use Rattle.b2_access.specs.Touching.{touched, written_by}
use Rattle.b2_audit.specs.Marks.{Marks, touch_all, write_all}
use Rattle.b2_audit.specs.Watching.{watching}

pub watched : {M : Type 0} (store : M → StoreState) (serving : ServingOf M) (m n : M) (seen before after : Marks) (who : ℕ) (a : Access) (x : Answer)
    → record { after = n; answer = x } ≡ serving m who a
    → before ≡ touch_all who (touched (store m) who a) seen → after ≡ write_all who (written_by x who a) before
    → record { after = (n, after); answer = x } ≡ watching store serving (m, seen) who a
watched {M} store serving m n seen before after who a x served touches writes =
    ap (λ (s : Marks). record { after = (n, s); answer = x }) (writes ∙ ap (write_all who (written_by x who a)) touches)
    ∙ ap (λ (g : Gives M). record { after = (g.after, write_all who (written_by g.answer who a) (touch_all who (touched (store m) who a) seen)); answer = g.answer }) served
