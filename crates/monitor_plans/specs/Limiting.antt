-- What a PATCH of limits tells, by which limits of a device they are.
use Rattle.api_calls.specs.declared.limiter.Limiter.{Limiter}
use Rattle.guest_devices.specs.declared.change.DeviceChange.{DeviceChange}
use Rattle.flat_machine.specs.Limits.{limits_told, receives_told, transmits_told}
use Rattle.monitor_plans.specs.declared.limits.LimitsOf.{LimitsOf}
use Rattle.monitor_plans.specs.declared.limits.LimitsOf.TheVariants.{Receives, Requests, Transmits}

abbrev pub tells_of : LimitsOf → Limiter → DeviceChange
tells_of Requests l = limits_told l
tells_of Receives l = receives_told l
tells_of Transmits l = transmits_told l
