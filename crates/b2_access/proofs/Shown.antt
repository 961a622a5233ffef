-- What a statement that shows or prints something comes to: it leads nowhere else, and where it has to wait it changes nothing.
use Rattle.std.proofs.Common.{◌≡◌, ◌∙◌, ℕ, Bool, true, ap, Option, Some, None}
use Rattle.b2_access.specs.AnswerKinds.{delays}
use Rattle.b2_access.specs.Homes.{Naming, OutcomeNamed}
use Rattle.b2_access.specs.Showing.{printed_where, shown, shown_or_printed, shown_or_printed_where, shown_where}
use Rattle.b2_access.specs.Views.{column_printed}
use Rattle.b2_access.specs.Working.{work_of}
use Rattle.b2_access.specs.declared.accesses.Access.{Access}
use Rattle.b2_access.specs.declared.accesses.Answer.{Answer}
use Rattle.b2_access.specs.declared.private.Private.{Private}
use Rattle.b2_access.proofs.Delays.{none_printed, none_shown}

pub after_shown : (x : Access) (a : Answer) (me : Private) → delays a ≡ true → (shown x a me).work ≡ work_of me
after_shown x a me h = ap (λ (o : Option ℕ). (shown_where o me).work) (none_shown x a h)

pub after_shown_or_printed : (x : Access) (a : Answer) (me : Private) → delays a ≡ true → (shown_or_printed x a me).work ≡ work_of me
after_shown_or_printed x a me h =
    ap (λ (o : Option ℕ). (shown_or_printed_where o (column_printed x a) me).work) (none_shown x a h)
    ∙ ap (λ (o : Option ℕ). (printed_where o me).work) (none_printed x a h)

pub shown_leads : (among : Naming) (o : Option ℕ) (me : Private) → OutcomeNamed among (shown_where o me).outcome
shown_leads among (Some column) me = tt
shown_leads among None me = tt

pub shown_or_printed_leads : (among : Naming) (o : Option ℕ) (printed : Option ℕ) (me : Private) → OutcomeNamed among (shown_or_printed_where o printed me).outcome
shown_or_printed_leads among (Some column) printed me = tt
shown_or_printed_leads among None (Some column) me = tt
shown_or_printed_leads among None None me = tt
