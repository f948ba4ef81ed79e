use Rattle.std.proofs.Common.{ap}
use Rattle.command_line.specs.Said.{words_said}
use Rattle.monitor_running.specs.Asked.{host_known}
use Rattle.monitor_running.specs.Reached.{known}
use Rattle.monitor_serving.specs.Views.{Hosts, hosts}
use Rattle.firecracker_cli.specs.Serving.{ServeKnown, serve_known_of}
use Rattle.firecracker_cli.proofs.Serves.{serves}
use Rattle.firecracker_cli.proofs.serving.serve_main.Goals as goal

pub returns : goal.returns
returns g c =
    let ran = c.run_serve-exit.ensures in
    let wrote = c.write_last.ensures in
    let with = c.run_serve-exit.new.with in
    let before : ServeKnown = serve_known_of g.T.Trace.known g.K.Sink.known g.C.Clock.known g.D.Disk.known g.L.Link.known g.V.VsockHost.known g.G.GuestWords.known g.F.Files.known g.W.Words.known
    g.M.Listener.known c.args.sink.now c.args.files.now c.args.with.now in
    let mid : Hosts = hosts (known (g.T.Trace.known with.turns.trace) (g.K.Sink.known c.run_serve-exit.new.sink)
    (host_known g.C.Clock.known g.D.Disk.known g.L.Link.known g.V.VsockHost.known g.G.GuestWords.known with.turns.host)) (g.F.Files.known c.run_serve-exit.new.files) in
    serves c.run_serve-exit.result (words_said c.args.words) before mid (g.W.Words.known with.words) (g.M.Listener.known with.listener)
    (g.K.Sink.known c.write_last.new.sink) c.write_last.result ran.so_far ran.told ran.lasts wrote.takes
    (λ is. ap g.K.Sink.known (wrote.quiet is)) wrote.called
