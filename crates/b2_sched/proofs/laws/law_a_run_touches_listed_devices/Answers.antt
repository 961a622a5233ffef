use Rattle.b2_sched.proofs.TouchedDevices.{runs_touch_listed_devices}
use Rattle.b2_sched.proofs.laws.law_a_run_touches_listed_devices.Goals as goal

pub returns : goal.returns
returns c = runs_touch_listed_devices
