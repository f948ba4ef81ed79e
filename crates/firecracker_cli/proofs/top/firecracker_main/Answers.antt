use Rattle.std.proofs.Common.{◌∙◌, ap, sym, subst, map, string_bytes, List, String, Global}
use Rattle.command_line.specs.Commands.{command_of}
use Rattle.firecracker_cli.specs.Serving.{ServeKnown, Serves, serve_known_of}
use Rattle.firecracker_cli.proofs.Refusals.{refused_serve}
use Rattle.firecracker_cli.proofs.top.firecracker_main.Goals as goal

pub returns-clause-serve : goal.returns-clause-serve
returns-clause-serve g c = rw c.in-Ok.is (λ it is.
    let before : ServeKnown = serve_known_of g.T.Trace.known g.O.Sink.known g.C.Clock.known g.D.Disk.known g.L.Link.known g.V.VsockHost.known g.G.GuestWords.known g.F.Files.known g.W.Words.known
    g.M.Listener.known c.args.out.now.sink c.args.out.now.files c.args.with.now in
    let refused = c.refuse_words in
    subst (λ (f : g.row.F.Denot). Serves refused.result it before (serve_known_of g.T.Trace.known g.O.Sink.known g.C.Clock.known g.D.Disk.known g.L.Link.known g.V.VsockHost.known g.G.GuestWords.known
    g.F.Files.known g.W.Words.known g.M.Listener.known refused.new.out.sink f c.args.with.now)) (sym refused.ensures.unread.1)
    (refused_serve (map string_bytes c.in-Ok.words.items) before (g.O.Sink.known refused.new.out.sink) it is c.in-Err-monitor_command.why
    refused.result refused.ensures.ends
    (λ usage. ap (λ (l : List (String Global)). command_of (map string_bytes l)) (sym c.deref.ensures.value) ∙ c.in-Err-monitor_command.ensures.usage usage)
    refused.ensures.unbegun.writes refused.ensures.lasts.sink))
