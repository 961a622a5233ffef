use Rattle.std.proofs.Common.{◌≡◌, Some, None, sym, ap, ◌∙◌, inl, inr}
use Rattle.std.specs.Option.{option_copied_mut}
use Rattle.b2_access.specs.declared.objects.Object.TheVariants as object
use Rattle.b2_store.specs.Kept.{content_if, first_kept, is_kept, printer_in, with_printer}
use Rattle.b2_store.specs.KeptLaws.{found}
use Rattle.b2_store.specs.declared.kept_item.Kept.{Kept}
use Rattle.b2_store.proofs.KeptItems.{changed_here, has_content}
use Rattle.b2_store.proofs.plain_lookups.PlainStoresLookups.printer_mut.Goals as goal

pub returns-in-Some-printer_mut : goal.returns-in-Some-printer_mut
returns-in-Some-printer_mut c =
    let xs = c.args.self.now.kept in
    let o = object.Printer c.args.a in
    let item = c.in-Some.item.now in
    let at : first_kept (is_kept o) xs ≡ Some item = sym c.item_mut.ensures.there ∙ ap option_copied_mut c.in-Some.is in
    let has : Some c.in-Some-printer_mut.printer.now ≡ printer_in item = sym (ap option_copied_mut c.in-Some-printer_mut.is) ∙ c.printer_mut.ensures.there in (
      (λ i. inl (c.in-Some-printer_mut.printer.ghost_name, λ z. record c.args.self.now { kept = changed_here (is_kept o) (λ (k : Kept). with_printer k z) xs item at i })),
      record { writes_back = tt; found = has ∙ sym (ap (content_if o) at) ∙ found o xs },
    )

pub returns-in-None-printer_mut : goal.returns-in-None-printer_mut
returns-in-None-printer_mut c =
    let xs = c.args.self.now.kept in
    let o = object.Printer c.args.a in
    let item = c.in-Some.item.now in
    let at : first_kept (is_kept o) xs ≡ Some item = sym c.item_mut.ensures.there ∙ ap option_copied_mut c.in-Some.is in
    let none : None ≡ printer_in item = sym (ap option_copied_mut c.in-None-printer_mut.is) ∙ c.printer_mut.ensures.there in
    absurd (has_content o xs item at none)

pub returns-in-None : goal.returns-in-None
returns-in-None c =
    let xs = c.args.self.now.kept in
    let o = object.Printer c.args.a in
    let at : first_kept (is_kept o) xs ≡ None = sym c.item_mut.ensures.there ∙ ap option_copied_mut c.in-None.is in (
      (λ i. inr c.args.self.now),
      record { writes_back = tt; found = sym (ap (content_if o) at) ∙ found o xs },
    )
