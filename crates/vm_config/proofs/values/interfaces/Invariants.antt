use Rattle.std.proofs.Common.{◌≡◌, take, map}
use Rattle.serde_json.specs.View.{view}
use Rattle.vm_config.specs.Texts as texts
use Rattle.vm_config.proofs.values.interfaces.Given as goal

abbrev pub invariant-loop-one : goal.invariant-loop-one
invariant-loop-one l = map view l.told.items ≡ map texts.interface (take l.one-index l.interfaces)
