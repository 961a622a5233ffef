use Rattle.std.proofs.Common.{◌∙◌, ◌++◌, ◌∷◌, [], ap}
use Rattle.b2_record.specs.Items.{group_bytes}
use Rattle.b2_record.proofs.Groups.{draft-sector}
use Rattle.b2_record.specs.declared.items.TheConstants.{END_OF_VALUES}
use Rattle.b2_record.proofs.sectors.write_sector.Goals as goal

pub returns : goal.returns
returns c =
    c.copy_from_slice.ensures.after ∙ (c.as_slice.ensures.value ∙ (c.fill_up.ensures
    ∙ draft-sector c.args.kind c.args.number c.args.values.now c.write-2.new.draft.items (c.write-2.ensures ∙ ap (λ t. t ++ END_OF_VALUES ∷ []) (c.write_values.ensures ∙ ap (λ t. t ++ group_bytes c.args.values.now) (c.write.ensures ∙ ap (λ t. t ++ c.args.kind ∷ c.args.number ∷ []) c.new-draft.ensures)))))
