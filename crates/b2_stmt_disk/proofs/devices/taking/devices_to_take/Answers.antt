use Rattle.std.proofs.Common.{◌≡◌, ◌∙◌, true, drop, List, ℕ, sym, ap, subst}
use Rattle.b2_atom.specs.Grammar.{starts}
use Rattle.b2_atom.specs.declared.forms.Start.TheVariants as start
use Rattle.b2_atom.specs.declared.rows.TheConstants as row
use Rattle.b2_atom.specs.declared.words.Origin.TheVariants.{Atoms}
use Rattle.b2_rows.specs.Rows.{is_phrase}
use Rattle.b2_stmt_disk.proofs.of_devices.OpenRows.{devices_after}
use Rattle.b2_stmt_disk.proofs.devices.taking.devices_to_take.Goals as goal

pub devices_at-requires : goal.devices_at-requires
devices_at-requires c =
    let text = c.rest_after-text.ensures in
    let named = sym (c.if-is_line_at.ensures ∙ ap (λ (u : List ℕ). starts Atoms start.Line u) text) in
    let there = c.rest_after-then-is_line_at.ensures ∙ ap (drop 1) (c.rest_after.ensures ∙ ap (drop 3) text) in
    record { phrase = subst (λ (u : List ℕ). is_phrase row.DEVICES u ≡ true) (sym there) (devices_after c.args.unit.now c.requires.phrase named) }
