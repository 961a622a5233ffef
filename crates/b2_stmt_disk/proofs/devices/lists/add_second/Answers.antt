use Rattle.std.proofs.Common.{◌≡◌, ◌∙◌, true, ◌∷◌, drop, List, ℕ, sym, ap, subst}
use Rattle.b2_base.specs.Byte as byte
use Rattle.b2_atom.specs.declared.forms.Leaf.TheVariants as leaf
use Rattle.b2_atom.specs.declared.forms.Start.TheVariants as start
use Rattle.b2_atom.specs.declared.rows.TheConstants as row
use Rattle.b2_rows.specs.Leaves.{leaf_bytes}
use Rattle.b2_rows.specs.Optional.{maybe_phrase, maybe_tree}
use Rattle.b2_stmt_disk.specs.devices.Lists.{more_devices}
use Rattle.b2_stmt_disk.proofs.of_devices.ListRows.{as_it_was, grown, no_second, second_is, second_rest}
use Rattle.b2_stmt_disk.proofs.devices.lists.add_second.Goals as goal

pub add_third-requires-clause-phrase : goal.add_third-requires-clause-phrase
add_third-requires-clause-phrase c =
    let there = c.past_device.ensures ∙ ap (λ (u : List ℕ). drop 3 (drop 1 u)) c.rest_after-device.ensures in
    subst (λ (u : List ℕ). maybe_phrase (start.Code byte.comma) row.COMMA_DEVICE_3 u ≡ true) (sym there) (second_rest c.args.text.now c.requires.phrase (sym c.if-is_at.ensures))

pub returns-then-is_at : goal.returns-then-is_at
returns-then-is_at c =
    let there = c.past_device.ensures ∙ ap (λ (u : List ℕ). drop 3 (drop 1 u)) c.rest_after-device.ensures in
    let here = c.rest_after.ensures ∙ ap (drop 1) c.rest_after-device.ensures in
    grown _ _ _ _ _ _ _ c.add_third.ensures c.push.ensures (c.address_at.ensures.value ∙ ap (leaf_bytes leaf.Address) here)
    (second_is c.args.text.now c.requires.phrase (sym c.if-is_at.ensures) ∙ ap (λ (u : List ℕ). leaf_bytes leaf.Address (drop 1 (drop 1 c.args.text.now)) ∷ more_devices (maybe_tree (start.Code byte.comma) row.COMMA_DEVICE_3 u)) (sym there))

pub returns-else-is_at : goal.returns-else-is_at
returns-else-is_at c = as_it_was _ _ (no_second c.args.text.now (sym c.if-is_at.ensures))
