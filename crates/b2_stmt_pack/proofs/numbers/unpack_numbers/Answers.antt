use Rattle.std.proofs.Common.{◌≡◌, true, drop, is_some, ap, ◌∙◌, rules}
use Rattle.b2_atom.specs.Leaves.{leaf_width}
use Rattle.b2_atom.specs.Words.{Text}
use Rattle.b2_atom.specs.declared.forms.Leaf.TheVariants as leaf
use Rattle.b2_atom.specs.declared.words.Origin.TheVariants.{Atoms}
use Rattle.b2_access.proofs.Dispatch.{ok_map}
use Rattle.b2_rows.specs.Leaves.{leaf_bytes}
use Rattle.b2_rows.specs.Values.{image_of}
use Rattle.b2_pack.specs.Images.{image_row}
use Rattle.b2_stmt_pack.proofs.NumberRows.{unpack_fine}
use Rattle.b2_stmt_pack.proofs.numbers.unpack_numbers.Goals as goal

pub returns-clause-worked : goal.returns-clause-worked
returns-clause-worked c =
    let fine : is_some (image_row c.image_at-image.result.now) ≡ true = search rules in
    ok_map c.unpack_at.result _ _ (λ code h.
    unpack_fine c.args.unit.now c.image_at-image.result.now c.past_image.result.now _ _ c.requires.phrase
    (c.image_at-image.ensures.value ∙ ap (λ (t : Text). image_of (leaf_bytes leaf.Image t)) c.rest_after-text.ensures)
    (c.past_image.ensures ∙ ap (λ (t : Text). drop (leaf_width Atoms leaf.Image t) t) c.rest_after-text.ensures)
    fine h) c.unpack_at.ensures.worked
