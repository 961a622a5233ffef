use Rattle.std.proofs.Common.{rules, None, ◌≡◌, ℕ, List, length, Result, Ok, Err, IfOk, Some, sym, ap, ◌∙◌}
use Rattle.std.specs.FinMap.{get, remove}
use Rattle.b2_base.specs.Names.{is_name8}
use Rattle.b2_catalog.specs.declared.entry.Entry.{Entry}
use Rattle.b2_catalog.specs.Catalogue.{Catalogue, catalogue}
use Rattle.b2_catalog.proofs.MadeFiles.{file-there, entered-stays, reused-stays, index-stays, others-stay}
use Rattle.b2_catalog.proofs.FileMade.{new-value, again-value, refused-value}
use Rattle.b2_catalog.proofs.making.make_file.Goals as goal

-- it is there under its own name
own-there : (new : Catalogue) (name : List ℕ) (r : Result Entry ℕ) → IfOk r (λ e. e.name ≡ name) → IfOk r (λ e. get new name ≡ Some e) → IfOk r (λ e. get new e.name ≡ Some e)
own-there new name (Ok e) named there = ap (get new) named ∙ there
own-there new name (Err code) named there = tt

pub returns-in-None-clause-file : goal.returns-in-None-clause-file
returns-in-None-clause-file c =
    own-there (catalogue c.enter.new.p) c.args.name c.enter.result (search rules)
    (file-there (catalogue c.args.p.now) (catalogue c.enter.new.p) c.args.name c.enter.result c.enter.ensures.catalogue)

pub returns-in-None-clause-index : goal.returns-in-None-clause-index
returns-in-None-clause-index c =
    let long : length c.bytes-name.result ≡ 8 = search rules in
    index-stays c.args.p.now c.enter.new.p c.enter.result
    (entered-stays c.args.p.now c.image-image.ensures.good c.args.name (ap is_name8 (sym c.bytes-name.ensures.value) ∙ c.bytes-name.ensures.legal) (ap length (sym c.bytes-name.ensures.value) ∙ long) c.args.program c.enter.new.p c.args.sectors (c.requires c.in-None.is) c.enter.result c.enter.ensures.ok c.enter.ensures.image)

pub returns-in-None-clause-others : goal.returns-in-None-clause-others
returns-in-None-clause-others c =
    let long : length c.bytes-name.result ≡ 8 = search rules in
    others-stay c.args.p.now c.enter.new.p c.enter.result
    (entered-stays c.args.p.now c.image-image.ensures.good c.args.name (ap is_name8 (sym c.bytes-name.ensures.value) ∙ c.bytes-name.ensures.legal) (ap length (sym c.bytes-name.ensures.value) ∙ long) c.args.program c.enter.new.p c.args.sectors (c.requires c.in-None.is) c.enter.result c.enter.ensures.ok c.enter.ensures.image)

pub returns-in-Some-clause-file : goal.returns-in-Some-clause-file
returns-in-Some-clause-file c =
    own-there (catalogue c.reuse.new.p) c.args.name c.reuse.result (search rules)
    (file-there (remove (catalogue c.args.p.now) c.in-Some.old) (catalogue c.reuse.new.p) c.args.name c.reuse.result c.reuse.ensures.catalogue)

pub returns-in-Some-clause-index : goal.returns-in-Some-clause-index
returns-in-Some-clause-index c =
    let long : length c.bytes-name.result ≡ 8 = search rules in
    index-stays c.args.p.now c.reuse.new.p c.reuse.result
    (reused-stays c.args.p.now c.image-image.ensures.good c.in-Some.old c.args.name (ap is_name8 (sym c.bytes-name.ensures.value) ∙ c.bytes-name.ensures.legal) (ap length (sym c.bytes-name.ensures.value) ∙ long) c.args.program c.reuse.new.p c.reuse.result _ c.reuse.ensures.ok c.reuse.ensures.image)

pub returns-in-Some-clause-others : goal.returns-in-Some-clause-others
returns-in-Some-clause-others c =
    let long : length c.bytes-name.result ≡ 8 = search rules in
    others-stay c.args.p.now c.reuse.new.p c.reuse.result
    (reused-stays c.args.p.now c.image-image.ensures.good c.in-Some.old c.args.name (ap is_name8 (sym c.bytes-name.ensures.value) ∙ c.bytes-name.ensures.legal) (ap length (sym c.bytes-name.ensures.value) ∙ long) c.args.program c.reuse.new.p c.reuse.result _ c.reuse.ensures.ok c.reuse.ensures.image)

pub returns-in-None-clause-value : goal.returns-in-None-clause-value
returns-in-None-clause-value c = rw c.in-None.is (new-value c.args.p.now c.args.name c.args.program c.args.sectors c.enter.new.p c.enter.result c.enter.ensures.ok c.enter.ensures.image)

pub returns-in-None-clause-refused : goal.returns-in-None-clause-refused
returns-in-None-clause-refused c = rw c.in-None.is (refused-value c.args.p.now None c.args.name c.args.program c.args.sectors c.enter.new.p c.enter.result c.enter.ensures.err)

pub returns-in-Some-clause-value : goal.returns-in-Some-clause-value
returns-in-Some-clause-value c = rw c.in-Some.is (again-value c.args.p.now c.in-Some.old c.args.name c.args.program c.args.sectors c.reuse.new.p c.reuse.result c.reuse.ensures.ok c.reuse.ensures.image)

pub returns-in-Some-clause-refused : goal.returns-in-Some-clause-refused
returns-in-Some-clause-refused c = rw c.in-Some.is (refused-value c.args.p.now (Some c.in-Some.old) c.args.name c.args.program c.args.sectors c.reuse.new.p c.reuse.result c.reuse.ensures.err)
