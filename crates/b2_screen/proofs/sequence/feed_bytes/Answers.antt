use Rattle.std.proofs.Common.{◌+◌, ℕ, List, ap, drop, rules, sym, ◌∙◌}
use Rattle.std.proofs.lemmas.List.{drop_all}
use Rattle.b2_screen.specs.Shown.{fed, sequence_bytes}
use Rattle.b2_screen.proofs.Cutting.{fed_byte, fed_nothing}
use Rattle.b2_screen.proofs.sequence.feed_bytes.Goals as goal

pub loop-byte-preserved : goal.loop-byte-preserved
loop-byte-preserved c =
    ap (fed (drop (c.loop-byte.byte-index + 1) c.args.bytes.now)) c.feed_byte.ensures
    ∙ fed_byte c.args.bytes.now c.loop-byte.byte-index 0 _ (search rules)
    ∙ c.loop-byte.invariant

pub returns : goal.returns
returns c =
    sym (fed_nothing c.loop-byte.sheet c.loop-byte.sequence)
    ∙ sym (ap (λ (bytes : List ℕ). fed bytes (record { sheet = c.loop-byte.sheet; rest = sequence_bytes c.loop-byte.sequence })) (drop_all c.loop-byte.byte-index c.args.bytes.now (search rules)))
    ∙ c.loop-byte.invariant
