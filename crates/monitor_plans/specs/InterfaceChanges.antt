-- What a PUT of an interface comes to.
use Rattle.std.specs.Prelude.{◌≡◌}
use Rattle.api_calls.specs.declared.interface.Interface.{Interface}
use Rattle.vm_config.specs.declared.config.Config.{Config}
use Rattle.vm_config.specs.Interfaces.{put_interface}
use Rattle.monitor_plans.specs.declared.plan.Plan.{Plan}
use Rattle.monitor_plans.specs.declared.plan.Plan.TheVariants as plan

abbrev pub InterfacesGive : Plan → Config → Interface → Type 0
InterfacesGive (plan.Interfaces interfaces) config interface = interfaces ≡ put_interface config.interfaces interface
InterfacesGive plan.NoMemory config interface = Unit {0}
InterfacesGive it config interface = ⊥
