use Rattle.std.proofs.Common.{◌∙◌, refl}
use Rattle.b2_vars.proofs.CommonEntries.{kept-start, kept-end}
use Rattle.b2_vars.proofs.keeping.keep_common.Goals as goal

pub loop-from-init : goal.loop-from-init
loop-from-init c = record { kept = λ es laid. kept-start _ _ _ es laid; size = refl }

pub keep_next-next-requires-clause-kept : goal.keep_next-next-requires-clause-kept
keep_next-next-requires-clause-kept c = (c.requires.0, c.loop-from.invariant.kept c.requires.0 c.requires.1)

pub loop-from-preserved : goal.loop-from-preserved
loop-from-preserved c = record { kept = λ es laid. c.keep_next-next.ensures.kept es (c.loop-from.invariant.kept es laid); size = c.keep_next-next.ensures.size ∙ c.loop-from.invariant.size }

pub returns-clause-laid : goal.returns-clause-laid
returns-clause-laid c = λ es laid. kept-end _ _ _ _ _ es (c.loop-from.invariant.kept es laid) c.loop-from-test.false
