use Rattle.std.proofs.Common.{◌≡◌, ◌+◌, ℕ, Bool, true, false, List, Option, None, sym, ap, ◌∙◌}
use Rattle.std.specs.Prelude.{is_some}
use Rattle.std.specs.FinMap.{get}
use Rattle.b2_platter.specs.Image.{index_of, has_free, hash}
use Rattle.b2_catalog.specs.Catalogue.{catalogue}
use Rattle.b2_catalog.proofs.Sectors.{none_from, reads_one, reads_both}
use Rattle.b2_disk_tests.proofs.catalogs.sectors_read.Goals as goal

pub returns-then-has_free : goal.returns-then-has_free
returns-then-has_free g c =
    let two : index_of c.args.p.now ≡ 2 = cc in
    let free : has_free c.args.p.now (hash 2 c.args.name) ≡ true = cc in
    c.find.ensures.ticks ∙ ap (λ (n : ℕ). c.args.steps.now + n) (reads_one c.args.p.now c.args.name two free)

pub returns : goal.returns
returns g c =
    let two : index_of c.args.p.now ≡ 2 = cc in
    let full : has_free c.args.p.now (hash 2 c.args.name) ≡ false = cc in
    let none : get (catalogue c.args.p.now) c.args.name ≡ None = sym c.find.ensures.entry ∙ none_from c.find.result (sym c.is_some.ensures ∙ c.if-is_some.false) in
    c.find.ensures.ticks ∙ ap (λ (n : ℕ). c.args.steps.now + n) (reads_both c.args.p.now c.args.name two c.image-image.ensures.good none full)
