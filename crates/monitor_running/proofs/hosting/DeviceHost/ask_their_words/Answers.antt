use Rattle.monitor_running.specs.Asked.{devices_known}
use Rattle.monitor_running.proofs.Answered.{of_words}
use Rattle.monitor_running.proofs.hosting.DeviceHost.ask_their_words.Goals as goal

pub returns-clause-given : goal.returns-clause-given
returns-clause-given g c =
    of_words c.args.device c.args.act.now c.ask_words.result
    (devices_known g.D.Disk.known g.L.Link.known g.V.VsockHost.known g.G.GuestWords.known c.args.self.now) _ c.ask_words.ensures.given
