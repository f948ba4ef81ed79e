use Rattle.std.proofs.Common.{inr, refl, sym, ◌∙◌, subst, arith}
use Rattle.vm_types.specs.declared.exit.Exit.{Exit}
use Rattle.vm_outside.proofs.Passing.{lasts_more, lasts_same}
use Rattle.command_line.specs.Commands.{ServeWords}
use Rattle.command_line.specs.Said.{words_said}
use Rattle.monitor_running.specs.Asked.{host_known}
use Rattle.monitor_running.specs.Reached.{known}
use Rattle.monitor_serving.specs.Connections.{place}
use Rattle.monitor_serving.specs.Views.{Hosts, hosts}
use Rattle.firecracker_cli.specs.Serving.{ServeKnown, ServersLast, serve_known_of, serve_known, took_before, traced_at}
use Rattle.firecracker_cli.specs.SoFar.{AtPaths, LeftBy}
use Rattle.firecracker_cli.proofs.Beginnings.{begun, cut_by, drawn_from, left_by, none_behind, nothing_served, same_path}
use Rattle.firecracker_cli.proofs.Causes.{at_rest, close_told, draw_told, open_told}
use Rattle.firecracker_cli.proofs.serving.serve_on.Goals as goal

pub returns-in-Err-clause-so_far : goal.returns-in-Err-clause-so_far
returns-in-Err-clause-so_far g c = λ tells new.
    let before : ServeKnown = serve_known_of g.T.Trace.known g.K.Sink.known g.C.Clock.known g.D.Disk.known g.L.Link.known g.V.VsockHost.known g.G.GuestWords.known g.F.Files.known g.W.Words.known
    g.M.Listener.known c.args.sink.now c.args.files.now c.args.with.now in
    let opened : ServeKnown = serve_known (hosts (known (g.T.Trace.known c.open.new.trace) before.hosts.slices.sink before.hosts.slices.host)
    before.hosts.files) before.words (g.M.Listener.known c.open.new.listener) in
    cut_by (words_said c.args.words) before c.in-Err.object opened _ _ _ _ _ _ (c.in-Err.ensures.cause at_rest)
    (nothing_served (words_said c.args.words) before (Exit.Fault c.in-Err.object) opened (c.in-Err.ensures.part tells.listener tells.hosts.trace) refl
    (c.open.ensures.same tells.listener).ended (c.open.ensures.same tells.listener).coming refl
    (none_behind (words_said c.args.words) before c.in-Err.object _ _ _ _ _ _ (c.in-Err.ensures.cause at_rest) _ _))

pub returns-in-Err-clause-told : goal.returns-in-Err-clause-told
returns-in-Err-clause-told g c =
    let before : ServeKnown = serve_known_of g.T.Trace.known g.K.Sink.known g.C.Clock.known g.D.Disk.known g.L.Link.known g.V.VsockHost.known g.G.GuestWords.known g.F.Files.known g.W.Words.known
    g.M.Listener.known c.args.sink.now c.args.files.now c.args.with.now in
    let opened : ServeKnown = serve_known (hosts (known (g.T.Trace.known c.open.new.trace) before.hosts.slices.sink before.hosts.slices.host)
    before.hosts.files) before.words (g.M.Listener.known c.open.new.listener) in
    open_told c.in-Err.object before opened c.in-Err.ensures.cause

pub returns-in-Err-draw_lineage-clause-so_far : goal.returns-in-Err-draw_lineage-clause-so_far
returns-in-Err-draw_lineage-clause-so_far g c = λ tells new.
    let before : ServeKnown = serve_known_of g.T.Trace.known g.K.Sink.known g.C.Clock.known g.D.Disk.known g.L.Link.known g.V.VsockHost.known g.G.GuestWords.known g.F.Files.known g.W.Words.known
    g.M.Listener.known c.args.sink.now c.args.files.now c.args.with.now in
    let drawn : ServeKnown = serve_known (hosts (known (g.T.Trace.known c.draw_lineage.new.trace) before.hosts.slices.sink before.hosts.slices.host)
    before.hosts.files) (g.W.Words.known c.draw_lineage.new.words) (g.M.Listener.known c.open.new.listener) in
    let still = c.open.ensures.trace_lasts.still tells.hosts.trace in
    cut_by (words_said c.args.words) before c.in-Err-draw_lineage.object drawn _ _ _ _ _ _ (c.in-Err-draw_lineage.ensures.cause at_rest)
    (nothing_served (words_said c.args.words) before (Exit.Fault c.in-Err-draw_lineage.object) drawn
    (inr (
      c.in_default.ensures.listens tells.listener,
      inr (record {
        path = c.draw_lineage.ensures.trace_stays still ∙ c.in_default.ensures.opens tells.hosts.trace;
        took = c.in-Err-draw_lineage.ensures.err.0 still ∙ c.in_default.ensures.empties tells.hosts.trace;
      }),
    )) refl
    (c.open.ensures.same tells.listener).ended (c.open.ensures.same tells.listener).coming refl
    (none_behind (words_said c.args.words) before c.in-Err-draw_lineage.object _ _ _ _ _ _ (c.in-Err-draw_lineage.ensures.cause at_rest) _ _))

pub returns-in-Err-draw_lineage-clause-told : goal.returns-in-Err-draw_lineage-clause-told
returns-in-Err-draw_lineage-clause-told g c =
    let before : ServeKnown = serve_known_of g.T.Trace.known g.K.Sink.known g.C.Clock.known g.D.Disk.known g.L.Link.known g.V.VsockHost.known g.G.GuestWords.known g.F.Files.known g.W.Words.known
    g.M.Listener.known c.args.sink.now c.args.files.now c.args.with.now in
    let drawn : ServeKnown = serve_known (hosts (known (g.T.Trace.known c.draw_lineage.new.trace) before.hosts.slices.sink before.hosts.slices.host)
    before.hosts.files) (g.W.Words.known c.draw_lineage.new.words) (g.M.Listener.known c.open.new.listener) in
    draw_told c.in-Err-draw_lineage.object before drawn (g.T.Trace.known c.open.new.trace).health c.open.ensures.trace_lasts
    c.in-Err-draw_lineage.ensures.cause

pub returns-clause-so_far : goal.returns-clause-so_far
returns-clause-so_far g c = λ tells new.
    let before : ServeKnown = serve_known_of g.T.Trace.known g.K.Sink.known g.C.Clock.known g.D.Disk.known g.L.Link.known g.V.VsockHost.known g.G.GuestWords.known g.F.Files.known g.W.Words.known
    g.M.Listener.known c.args.sink.now c.args.files.now c.args.with.now in
    let opened : ServeKnown = serve_known (hosts (known (g.T.Trace.known c.open.new.trace) before.hosts.slices.sink before.hosts.slices.host)
    before.hosts.files) before.words (g.M.Listener.known c.open.new.listener) in
    let drawn : ServeKnown = serve_known (hosts (known (g.T.Trace.known c.draw_lineage.new.trace) before.hosts.slices.sink before.hosts.slices.host)
    before.hosts.files) (g.W.Words.known c.draw_lineage.new.words) (g.M.Listener.known c.open.new.listener) in
    let now : Hosts = hosts (known (g.T.Trace.known c.serve-served.new.with.trace) (g.K.Sink.known c.serve-served.new.sink)
    (host_known g.C.Clock.known g.D.Disk.known g.L.Link.known g.V.VsockHost.known g.G.GuestWords.known c.serve-served.new.with.host)) (g.F.Files.known c.serve-served.new.files) in
    let served : ServeKnown = serve_known now drawn.words (g.M.Listener.known c.serve-served.new.listener) in
    let given : ServeWords = words_said c.args.words in
    let still = c.open.ensures.trace_lasts.still tells.hosts.trace in
    let paths : AtPaths given before served = record {
      listening =
          c.serve-served.ensures.listener_stays (c.open.ensures.listener_lasts.still tells.listener)
          ∙ c.in_default.ensures.listens tells.listener;
      traced = same_path (traced_at given.trace before.hosts.slices.trace.path) opened.hosts.slices.trace.path
          drawn.hosts.slices.trace.path now.slices.trace.path
          (c.serve-served.ensures.lasts.trace_stays (c.draw_lineage.ensures.trace_lasts.still still))
          (c.draw_lineage.ensures.trace_stays still) (c.in_default.ensures.opens tells.hosts.trace);
    } in
    let took = drawn_from before.words drawn.words (took_before given.trace before.hosts.slices.trace.took) _
    drawn.hosts.slices.trace.took c.args.monitor c.draw_lineage.new.monitor (c.in_default.ensures.empties tells.hosts.trace)
    (c.in_default-draw_lineage.ensures.drawn still) in
    let has = begun given before took.lineage drawn.words took.drawn c.args.monitor c.draw_lineage.new.monitor drawn.hosts.slices.trace
    drawn.listener took.told took.is (new before.hosts.files) (c.open.ensures.same tells.listener).ended
    (c.open.ensures.same tells.listener).coming in
    let goes = c.serve-served.ensures.serves (record {
      trace = c.draw_lineage.ensures.trace_lasts.still still;
      sink = tells.hosts.sink;
      files = tells.hosts.files;
    }) (c.open.ensures.listener_lasts.still tells.listener) in
    let left = left_by given before took.lineage drawn.words took.drawn c.serve-served.new.monitor now served.listener paths
    c.serve-served.result (place c.draw_lineage.new.monitor drawn.hosts drawn.listener) drawn.hosts now drawn.listener.health
    served.listener.health has c.serve-served.ensures.cause goes in
    c.close.ensures.so_far
    (c.serve-served.ensures.lasts.trace.still (c.draw_lineage.ensures.trace_lasts.still still))
    (c.serve-served.ensures.lasts.sink.still tells.hosts.sink) given before now.slices.host now.files drawn.words served.listener
    (omega (arith, c.open.ensures.trace_lasts.later, c.draw_lineage.ensures.trace_lasts.later, c.serve-served.ensures.lasts.trace.later))
    (subst (λ (e : Exit). LeftBy e c.serve-served.new.monitor given before served) (sym c.exit_of.ensures) left)

pub returns-clause-told : goal.returns-clause-told
returns-clause-told g c =
    let before : ServeKnown = serve_known_of g.T.Trace.known g.K.Sink.known g.C.Clock.known g.D.Disk.known g.L.Link.known g.V.VsockHost.known g.G.GuestWords.known g.F.Files.known g.W.Words.known
    g.M.Listener.known c.args.sink.now c.args.files.now c.args.with.now in
    let opened : ServeKnown = serve_known (hosts (known (g.T.Trace.known c.open.new.trace) before.hosts.slices.sink before.hosts.slices.host)
    before.hosts.files) before.words (g.M.Listener.known c.open.new.listener) in
    let drawn : ServeKnown = serve_known (hosts (known (g.T.Trace.known c.draw_lineage.new.trace) before.hosts.slices.sink before.hosts.slices.host)
    before.hosts.files) (g.W.Words.known c.draw_lineage.new.words) (g.M.Listener.known c.open.new.listener) in
    let now : Hosts = hosts (known (g.T.Trace.known c.serve-served.new.with.trace) (g.K.Sink.known c.serve-served.new.sink)
    (host_known g.C.Clock.known g.D.Disk.known g.L.Link.known g.V.VsockHost.known g.G.GuestWords.known c.serve-served.new.with.host)) (g.F.Files.known c.serve-served.new.files) in
    let served : ServeKnown = serve_known now drawn.words (g.M.Listener.known c.serve-served.new.listener) in
    let last : ServeKnown = serve_known (hosts (known (g.T.Trace.known c.close.new.trace) (g.K.Sink.known c.close.new.sink) now.slices.host)
    now.files) drawn.words served.listener in
    let first : ServersLast before drawn = record {
      hosts = record {
        trace = lasts_more before.hosts.slices.trace.health opened.hosts.slices.trace.health drawn.hosts.slices.trace.health
            c.open.ensures.trace_lasts c.draw_lineage.ensures.trace_lasts;
        sink = lasts_same before.hosts.slices.sink.health;
        files = lasts_same before.hosts.files.health;
      };
      words = c.draw_lineage.ensures.words_last;
      listener = c.open.ensures.listener_lasts;
    } in
    let kept = c.serve-served.ensures.lasts in
    let mid : ServersLast before served = record {
      hosts = record {
        trace = lasts_more before.hosts.slices.trace.health drawn.hosts.slices.trace.health now.slices.trace.health first.hosts.trace kept.trace;
        sink = kept.sink;
        files = kept.files;
      };
      words = first.words;
      listener = lasts_more before.listener.health drawn.listener.health served.listener.health first.listener
          c.serve-served.ensures.listener_lasts;
    } in
    let end : ServersLast served last = record {
      hosts = record {
        trace = c.close.ensures.trace_lasts;
        sink = c.close.ensures.sink_lasts;
        files = lasts_same now.files.health;
      };
      words = lasts_same drawn.words.health;
      listener = lasts_same served.listener.health;
    } in
    close_told c.serve-served.result c.exit_of.result c.close.result before drawn served last c.exit_of.ensures first
    c.serve-served.ensures.cause mid end c.close.ensures.cause
