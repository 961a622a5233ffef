use Rattle.std.proofs.Common.{◌≡◌, ◌∙◌, ◌+◌, ◌-◌, ℕ, List, Option, None, IfSome, refl, sym, ap, ap₂, subst, inl, inr, arith}
use Rattle.b2_platter.specs.Own.{next_of}
use Rattle.b2_platter.specs.Image.{sector}
use Rattle.b2_catalog.specs.declared.entry.Entry.{Entry}
use Rattle.b2_catalog.specs.Calls.{enter_refusal, new_entry}
use Rattle.b2_catalog.specs.Changes.{entered}
use Rattle.b2_progfile.specs.Saving.{file_filled_with}
use Rattle.b2_progfile.specs.Moving.{all_sectors, own_sectors, with_copy}
use Rattle.b2_catalog.proofs.MadeFiles.{enters}
use Rattle.b2_progfile.proofs.Copying.{copied, with-copy-is}
use Rattle.b2_progfile.proofs.moving.copy_file.Goals as goal

pub returns-in-Ok-clause-copied : goal.returns-in-Ok-clause-copied
returns-in-Ok-clause-copied c =
    let e = c.args.e.now in
    let image = c.args.to.now in
    let allowed = subst (λ (n : ℕ). enter_refusal image e.name n ≡ None) c.all_sectors-sectors.ensures.value c.in-Ok.ensures.ok in
    let n = enters image e.name (all_sectors e) allowed in
    let made = c.in-Ok.ensures.made ∙ ap (new_entry image e.name e.program) c.all_sectors-sectors.ensures.value in
    let start : c.in-Ok.new.start ≡ next_of image = ap (λ (f : Entry). f.start) made in
    let end : c.in-Ok.new.end ≡ next_of image + (e.end - e.start) = (let last = ap (λ (f : Entry). f.end) made in omega (arith, last)) in
    let between : c.enter_copy.new.to ≡ entered image n.k e.name e.program (all_sectors e) =
    subst (λ (o : Option ℕ). IfSome o (λ k. c.enter_copy.new.to ≡ entered image k e.name e.program c.all_sectors-sectors.result)) n.place_is c.in-Ok.ensures.image
    ∙ ap (entered image n.k e.name e.program) c.all_sectors-sectors.ensures.value in
    let same : c.copy_sectors.new.to ≡ with_copy c.args.from.now image e =
    c.copy_sectors.ensures.image
    ∙ (ap (λ (q : List ℕ). file_filled_with q c.in-Ok.new.start c.in-Ok.new.end (own_sectors c.args.from.now e) e.used) between
    ∙ (ap₂ (λ (s m : ℕ). file_filled_with (entered image n.k e.name e.program (all_sectors e)) s m (own_sectors c.args.from.now e) e.used) start end
    ∙ sym (with-copy-is c.args.from.now image e c.image-source.ensures.good c.image-target.ensures.good c.requires n))) in
    let all = copied c.args.from.now image e c.image-source.ensures.good c.image-target.ensures.good c.requires n in
    rw same (record {
      image = refl;
      files = all.files;
      kept = all.kept;
      others = λ m low out. elim out as (λ _. sector (with_copy c.args.from.now image e) m ≡ sector image m) [
        | inl before ↦ all.before m low before
        | inr after ↦ all.after m (omega (arith, after))
      ];
    })
