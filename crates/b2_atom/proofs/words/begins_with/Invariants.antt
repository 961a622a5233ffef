use Rattle.std.proofs.Common.{◌≡◌, length}
use Rattle.b2_atom.specs.Words.{begins_with}
use Rattle.b2_atom.proofs.words.begins_with.Given as goal

abbrev pub invariant-loop-word : goal.invariant-loop-word
invariant-loop-word l = begins_with l.word l.text ≡ begins_with l.fn.word l.fn.text

abbrev pub decreases-loop-word : goal.decreases-loop-word
decreases-loop-word l = length l.word
