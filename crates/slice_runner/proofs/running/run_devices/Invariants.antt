use Rattle.slice_runner.proofs.Doing.{HaveWorked}
use Rattle.slice_runner.proofs.running.run_devices.Given as goal

abbrev pub invariant-loop-number : goal.invariant-loop-number
invariant-loop-number g l =
    HaveWorked (g.G.Gate.serves l.gate) g.G.Gate.tally g.O.DeviceObjects.Answers l.places l.n (g.O.DeviceObjects.known l.fn.objects) (g.O.DeviceObjects.known l.objects) l.number l.fn.devices.items l.devices.items
