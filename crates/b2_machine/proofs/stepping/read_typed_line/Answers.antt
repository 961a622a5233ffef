use Rattle.b2_access.specs.declared.objects.Object.TheVariants as object
use Rattle.b2_machine.proofs.stepping.read_typed_line.Goals as goal

-- the own text is there after the access too
pub press-requires : goal.press-requires
press-requires g c = record { own = c.in_ok-answer.ensures.kept.listed (object.Text c.args.me.now.part) c.requires.own }
