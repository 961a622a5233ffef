use Rattle.std.proofs.Common.{◌≡◌, Some, None, sym, ap, ◌∙◌, inl, inr}
use Rattle.std.specs.Option.{option_copied_mut}
use Rattle.b2_access.specs.declared.objects.Object.TheVariants as object
use Rattle.b2_store.specs.Kept.{content_if, first_kept, is_kept, inside_in, with_inside}
use Rattle.b2_store.specs.KeptLaws.{found}
use Rattle.b2_store.specs.declared.kept_item.Kept.{Kept}
use Rattle.b2_store.proofs.KeptItems.{changed_here, has_content}
use Rattle.b2_store.proofs.plain_lookups.PlainStoresLookups.inside_mut.Goals as goal

pub returns-in-Some-inside_mut : goal.returns-in-Some-inside_mut
returns-in-Some-inside_mut c =
    let xs = c.args.self.now.kept in
    let o = object.Borrow c.args.p in
    let item = c.in-Some.item.now in
    let at : first_kept (is_kept o) xs ≡ Some item = sym c.item_mut.ensures.there ∙ ap option_copied_mut c.in-Some.is in
    let has : Some c.in-Some-inside_mut.parts.now ≡ inside_in item = sym (ap option_copied_mut c.in-Some-inside_mut.is) ∙ c.inside_mut.ensures.there in (
      (λ i. inl (c.in-Some-inside_mut.parts.ghost_name, λ z. record c.args.self.now { kept = changed_here (is_kept o) (λ (k : Kept). with_inside k z) xs item at i })),
      record { writes_back = tt; found = has ∙ sym (ap (content_if o) at) ∙ found o xs },
    )

pub returns-in-None-inside_mut : goal.returns-in-None-inside_mut
returns-in-None-inside_mut c =
    let xs = c.args.self.now.kept in
    let o = object.Borrow c.args.p in
    let item = c.in-Some.item.now in
    let at : first_kept (is_kept o) xs ≡ Some item = sym c.item_mut.ensures.there ∙ ap option_copied_mut c.in-Some.is in
    let none : None ≡ inside_in item = sym (ap option_copied_mut c.in-None-inside_mut.is) ∙ c.inside_mut.ensures.there in
    absurd (has_content o xs item at none)

pub returns-in-None : goal.returns-in-None
returns-in-None c =
    let xs = c.args.self.now.kept in
    let o = object.Borrow c.args.p in
    let at : first_kept (is_kept o) xs ≡ None = sym c.item_mut.ensures.there ∙ ap option_copied_mut c.in-None.is in (
      (λ i. inr c.args.self.now),
      record { writes_back = tt; found = sym (ap (content_if o) at) ∙ found o xs },
    )
