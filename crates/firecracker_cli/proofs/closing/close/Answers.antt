use Rattle.std.proofs.Common.{inl, inr, refl, ◌∙◌}
use Rattle.vm_outside.proofs.Passing.{lasts_same}
use Rattle.monitor_running.specs.Reached.{known}
use Rattle.monitor_serving.specs.Views.{Hosts, hosts}
use Rattle.firecracker_cli.specs.Closing.{last_shown}
use Rattle.firecracker_cli.specs.Serving.{serve_known}
use Rattle.firecracker_cli.proofs.Closings.{closed_all, closed_by, fault_still, finished_by, finished_too, later_twice, left_at_end, left_so_far, stops_finished}
use Rattle.firecracker_cli.proofs.closing.close.Goals as goal

pub returns-in-Ok-clause-so_far : goal.returns-in-Ok-clause-so_far
returns-in-Ok-clause-so_far g c = λ t k given before host files words listener later left.
    let mid : Hosts = hosts (known (g.T.Trace.known c.args.trace.now) (g.K.Sink.known c.args.sink.now) host) files in
    let it = left_at_end c.args.exit c.args.monitor.now given before (serve_known mid words listener) c.in-Done.is left in
    closed_all given before c.args.monitor.now mid words listener (g.T.Trace.known c.tell_end.new.trace)
    (g.K.Sink.known c.tell_end.new.sink) it (c.tell_end.ensures.trace_stays t)
    (c.in-Ok.ensures.drains t k files it.last it.stands.is) (c.in-Ok.ensures.keeps t)

pub returns-in-Err-clause-so_far : goal.returns-in-Err-clause-so_far
returns-in-Err-clause-so_far g c = λ t k given before host files words listener later left.
    let mid : Hosts = hosts (known (g.T.Trace.known c.args.trace.now) (g.K.Sink.known c.args.sink.now) host) files in
    let it = left_at_end c.args.exit c.args.monitor.now given before (serve_known mid words listener) c.in-Done.is left in
    let told = c.tell_end.ensures in
    let last = c.finish_trace.ensures in
    let still = told.trace_lasts.still t in
    closed_by given before c.args.monitor.now mid words listener (g.T.Trace.known c.finish_trace.new.trace)
    (g.K.Sink.known c.tell_end.new.sink) it (last.stays still ∙ told.trace_stays t) c.in-Err.object
    (stops_finished c.in-Err.object it.last (last_shown it.last) (g.T.Trace.known c.args.trace.now).took
    (g.K.Sink.known c.args.sink.now).taken (g.T.Trace.known c.tell_end.new.trace).took (g.T.Trace.known c.finish_trace.new.trace).took
    (g.K.Sink.known c.tell_end.new.sink).taken (last.same still) (c.in-Err.ensures.drains t k files it.last it.stands.is))
    (finished_too c.finish_trace.result before.hosts.slices.trace (g.T.Trace.known c.tell_end.new.trace)
    (g.T.Trace.known c.finish_trace.new.trace) still last.keeps last.called.failed
    (later_twice _ (g.T.Trace.known c.args.trace.now).health.faults _ later told.trace_lasts.later))

pub returns-in-Err-clause-cause : goal.returns-in-Err-clause-cause
returns-in-Err-clause-cause g c =
    inr (
      c.in-Err.object,
      refl,
      fault_still c.in-Err.object (g.T.Trace.known c.args.trace.now).health
          (g.T.Trace.known c.tell_end.new.trace).health (g.T.Trace.known c.finish_trace.new.trace).health
          (g.K.Sink.known c.args.sink.now).health (g.K.Sink.known c.tell_end.new.sink).health
          c.finish_trace.ensures.called.lasts.later c.in-Err.ensures.cause,
    )

pub returns-in_default : goal.returns-in_default
returns-in_default g c = record {
  so_far = λ t k given before host files words listener later left.
      let mid : Hosts = hosts (known (g.T.Trace.known c.args.trace.now) (g.K.Sink.known c.args.sink.now) host) files in
      let trace = g.T.Trace.known c.finish.new.self in
      left_so_far given before (serve_known mid words listener) trace
      (record {
        path = c.finish.ensures.stays t;
        took = c.finish.ensures.same t;
        kept = finished_by c.finish.result before.hosts.slices.trace (g.T.Trace.known c.args.trace.now) trace t c.finish.ensures.keeps
            (c.finish.ensures.same t) c.finish.ensures.called.failed later;
      })
      c.args.exit c.args.monitor.now c.in_default.not-Done left;
  cause = inl refl;
  trace_lasts = c.finish.ensures.called.lasts;
  trace_stays = c.finish.ensures.stays;
  sink_lasts = lasts_same (g.K.Sink.known c.args.sink.now).health;
}
