use Rattle.std.proofs.Common.{◌≡◌}
use Rattle.b2_print.specs.Images.{field_at}
use Rattle.b2_print.proofs.ImageLemmas.{field-within}
use Rattle.b2_print.proofs.image.field_at.Goals as goal

pub returns-clause-field : goal.returns-clause-field
unfolding field_at
returns-clause-field c = cc

pub returns-clause-within : goal.returns-clause-within
unfolding field_at
returns-clause-within c =
    let same : c.with_places.result ≡ field_at c.args.text.now = cc in
    rw same (field-within c.args.text.now)
