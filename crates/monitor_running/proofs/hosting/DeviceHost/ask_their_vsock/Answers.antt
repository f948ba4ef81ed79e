use Rattle.monitor_running.specs.Asked.{devices_known}
use Rattle.monitor_running.proofs.Answered.{of_vsock}
use Rattle.monitor_running.proofs.hosting.DeviceHost.ask_their_vsock.Goals as goal

pub returns-clause-given : goal.returns-clause-given
returns-clause-given g c =
    of_vsock c.args.device c.args.act.now c.ask_vsock.result
    (devices_known g.D.Disk.known g.L.Link.known g.V.VsockHost.known g.G.GuestWords.known c.args.self.now) _ c.ask_vsock.ensures.given
