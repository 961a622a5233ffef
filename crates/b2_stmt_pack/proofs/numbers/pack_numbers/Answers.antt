use Rattle.std.proofs.Common.{drop, ap, sym, ◌∙◌}
use Rattle.b2_atom.specs.Leaves.{leaf_width}
use Rattle.b2_atom.specs.Words.{Text}
use Rattle.b2_atom.specs.declared.forms.Leaf.TheVariants as leaf
use Rattle.b2_atom.specs.declared.words.Origin.TheVariants.{Atoms}
use Rattle.b2_access.proofs.Dispatch.{ok_map}
use Rattle.b2_rows.specs.Leaves.{leaf_bytes}
use Rattle.b2_rows.specs.Values.{image_of}
use Rattle.b2_stmt_pack.proofs.NumberRows.{pack_fine}
use Rattle.b2_stmt_pack.proofs.numbers.pack_numbers.Goals as goal

pub returns-then-is_image-clause-worked : goal.returns-then-is_image-clause-worked
returns-then-is_image-clause-worked c =
    ok_map c.pack_at.result _ _ (λ code h.
    pack_fine c.args.unit.now c.image_at-image.result.now c.past_image.result.now _ _ c.requires.phrase
    (c.image_at-image.ensures.value ∙ ap (λ (t : Text). image_of (leaf_bytes leaf.Image t)) c.rest_after-text.ensures)
    (c.past_image.ensures ∙ ap (λ (t : Text). drop (leaf_width Atoms leaf.Image t) t) c.rest_after-text.ensures)
    (sym c.is_image.ensures ∙ c.if-is_image.true) h) c.pack_at.ensures.worked
