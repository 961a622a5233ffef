use Rattle.b2_access.specs.Steering.{steering}
use Rattle.b2_access.proofs.Working as form
use Rattle.b2_access.proofs.laws.law_control_is_put_back.Goals as goal

pub returns : goal.returns
returns c = (form.put_back_whole steering form.steering_rest, form.finishes_keep_held steering form.steering_devices)
