use Rattle.std.proofs.Common.{◌≡◌, true, List, ℕ, sym, subst}
use Rattle.b2_base.specs.Byte as byte
use Rattle.b2_atom.specs.declared.forms.Start.TheVariants as start
use Rattle.b2_atom.specs.declared.rows.TheConstants as row
use Rattle.b2_rows.specs.Optional.{maybe_phrase}
use Rattle.b2_stmt_disk.proofs.of_devices.ListRows.{first_rest}
use Rattle.b2_stmt_disk.proofs.devices.lists.devices_at.Goals as goal

pub add_second-requires-clause-phrase : goal.add_second-requires-clause-phrase
add_second-requires-clause-phrase c = subst (λ (u : List ℕ). maybe_phrase (start.Code byte.comma) row.COMMA_DEVICE_2 u ≡ true) (sym c.past_device.ensures) (first_rest c.args.text.now c.requires.phrase)
