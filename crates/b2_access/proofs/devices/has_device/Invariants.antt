use Rattle.std.proofs.Common.{◌≡◌, drop}
use Rattle.b2_access.specs.Devices as spec
use Rattle.b2_access.proofs.devices.has_device.Given as goal

-- the devices that are left decide
abbrev pub invariant-loop-device : goal.invariant-loop-device
invariant-loop-device l = spec.has_device l.printer l.who l.a (drop l.device-index l.devices) ≡ spec.has_device l.printer l.who l.a l.devices
