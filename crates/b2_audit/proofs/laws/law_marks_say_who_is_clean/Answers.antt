use Rattle.b2_audit.proofs.Said.{marks_say_clean}
use Rattle.b2_audit.proofs.laws.law_marks_say_who_is_clean.Goals as goal

pub returns : goal.returns
returns c = marks_say_clean
