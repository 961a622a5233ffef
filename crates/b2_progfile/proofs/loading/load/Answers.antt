use Rattle.std.proofs.Common.{◌≡◌, ◌∙◌, Some, None, sym, ap, arith, inl}
use Rattle.b2_catalog.proofs.DataSectors.{in-image}
use Rattle.b2_progfile.specs.Loading.{load_refusal}
use Rattle.b2_progfile.proofs.Functions.{err-as, load-code, put-fails, put-value, unspelled-load}
use Rattle.b2_progfile.proofs.loading.load.Goals as goal

pub read_program-requires : goal.read_program-requires
read_program-requires c =
    let inside = in-image c.args.p.now c.args.name c.in-Ok.e c.image-image.ensures.good c.in-Ok.ensures.file in
    omega (arith, inside.order, inside.within, inside.few)

pub put_program-requires : goal.put_program-requires
put_program-requires c = c.in-Ok-read_program.ensures.ok.text.ascending

pub returns-in-Err-clause-fails : goal.returns-in-Err-clause-fails
returns-in-Err-clause-fails c = load-code c.args.p.now c.args.name c.args.replace c.args.t.now c.in-Err.code (inl c.in-Err.ensures.err)

pub returns-in-Err-read_program-clause-fails : goal.returns-in-Err-read_program-clause-fails
returns-in-Err-read_program-clause-fails c =
    let allowed : load_refusal (Some c.in-Ok.e) ≡ None = ap load_refusal (sym c.in-Ok.ensures.file) ∙ c.in-Ok.ensures.allowed in
    unspelled-load c.args.p.now c.args.name c.args.replace c.args.t.now c.in-Ok.e c.in-Ok.ensures.file allowed c.in-Err-read_program.fault c.in-Err-read_program.ensures.err

pub returns-clause-value : goal.returns-clause-value
returns-clause-value c =
    let allowed : load_refusal (Some c.in-Ok.e) ≡ None = ap load_refusal (sym c.in-Ok.ensures.file) ∙ c.in-Ok.ensures.allowed in
    put-value c.args.p.now c.args.name c.args.replace c.args.t.now c.in-Ok.e c.in-Ok.ensures.file allowed c.in-Ok-read_program.program.entries c.put_program.new.t c.put_program.result c.in-Ok-read_program.ensures.ok c.put_program.ensures.ok c.put_program.ensures.fits

pub returns-clause-fails : goal.returns-clause-fails
returns-clause-fails c =
    let allowed : load_refusal (Some c.in-Ok.e) ≡ None = ap load_refusal (sym c.in-Ok.ensures.file) ∙ c.in-Ok.ensures.allowed in
    err-as c.put_program.result _ _ (put-fails c.args.p.now c.args.name c.args.replace c.args.t.now c.in-Ok.e c.in-Ok.ensures.file allowed c.in-Ok-read_program.program.entries c.in-Ok-read_program.ensures.ok) c.put_program.ensures.err
