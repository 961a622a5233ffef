use Rattle.std.proofs.Common.{◌∙◌, sym, subst}
use Rattle.b2_dec.specs.Packing.{IsPacked}
use Rattle.b2_vars.proofs.entry.read_number.Goals as goal

pub unpacked-requires : goal.unpacked-requires
unpacked-requires c = subst IsPacked (sym c.eight.ensures) c.requires.packed

pub returns : goal.returns
returns c x h is = c.unpacked.ensures x h (c.eight.ensures ∙ is)
