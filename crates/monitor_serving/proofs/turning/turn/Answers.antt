use Rattle.std.proofs.Common.{sym, subst, ◌∙◌, refl, Some, arith}
use Rattle.monitor_machine.specs.declared.machine.LiveMachine.{LiveMachine}
use Rattle.monitor_machine.specs.State.{IsLive}
use Rattle.monitor_running.specs.Ran.{RanOn}
use Rattle.monitor_running.specs.Objects.{known_with}
use Rattle.monitor_running.specs.Reached.{seen}
use Rattle.monitor_serving.specs.Views.{hosts, view}
use Rattle.monitor_serving.proofs.Settling.{breaks_idle, for_some, settled_cause}
use Rattle.monitor_serving.proofs.Slices.{came_unsaid, slices_broke, slices_on, unsaid_by}
use Rattle.monitor_serving.proofs.Turns.{turned_on}
use Rattle.monitor_serving.proofs.turning.turn.Goals as goal

pub returns-in_default-clause-turned : goal.returns-in_default-clause-turned
returns-in_default-clause-turned g c = λ tell tells. breaks_idle _

pub returns-in-Some-clause-turned : goal.returns-in-Some-clause-turned
returns-in-Some-clause-turned g c =
    let ran = c.run_beside-heard in
    let before = known_with (g.W.TurnObjects.known c.args.with.now) (g.K.Sink.known c.args.sink.now) in
    let after = known_with (g.W.TurnObjects.known ran.new.with) (g.K.Sink.known ran.new.sink) in
    let files = g.F.Files.known c.args.files.now in
    let conn = g.N.Conn.known c.args.conn.now in
    let now = g.N.Conn.known ran.new.conn in
    λ tell tells.
    slices_broke c.args.monitor.now (record c.args.monitor.now { machine = ran.new.machine }) ran.new.machine (hosts before files) (hosts after files)
    conn now (unsaid_by ran.result.0 ran.new.buf.items)
    (came_unsaid ran.result.0 conn now ran.new.buf.items (ran.ensures.heard tells) (ran.ensures.took tells)) refl ran.result.1 c.in-Some.end
    (subst (λ (m : LiveMachine). RanOn IsLive (Some ran.result.1) (seen before) m (seen after) ran.new.machine) c.machine.ensures.value
    (ran.ensures.went.ran tell.trace tell.sink))
    (sym c.end_of.ensures ∙ c.in-Some.is)

pub returns-in-None-clause-turned : goal.returns-in-None-clause-turned
returns-in-None-clause-turned g c =
    let ran = c.run_beside-heard in
    let before = known_with (g.W.TurnObjects.known c.args.with.now) (g.K.Sink.known c.args.sink.now) in
    let after = known_with (g.W.TurnObjects.known ran.new.with) (g.K.Sink.known ran.new.sink) in
    let sunk = g.K.Sink.known ran.new.sink in
    let files = g.F.Files.known c.args.files.now in
    let left = g.F.Files.known c.settle.new.files in
    let conn = g.N.Conn.known c.args.conn.now in
    let now = g.N.Conn.known c.settle.new.conn in
    let monitor = record c.args.monitor.now { machine = ran.new.machine } in
    λ tell tells.
    turned_on (view c.args.monitor.now (hosts before files) conn) (view monitor (hosts after files) conn)
    (view c.settle.new.monitor (hosts (known_with (g.W.TurnObjects.known c.settle.new.with) sunk) left) now)
    (slices_on c.args.monitor.now ran.new.machine (hosts before files) (hosts after files) conn refl ran.result.1
    (subst (λ (m : LiveMachine). RanOn IsLive (Some ran.result.1) (seen before) m (seen after) ran.new.machine) c.machine.ensures.value
    (ran.ensures.went.ran tell.trace tell.sink))
    (sym c.end_of.ensures ∙ c.in-None.is))
    (record { still = λ it. it; later = omega arith }) c.settle.result
    (c.settle.ensures.settled sunk conn
    (record {
      trace = ran.ensures.went.trace_lasts.still tell.trace;
      sink = ran.ensures.went.sink_lasts.still tell.sink;
      files = tell.files;
    })
    (ran.ensures.conn_lasts.still tells) (ran.ensures.heard tells) (ran.ensures.took tells) ran.ensures.conn_lasts)

pub returns-in-None-clause-cause : goal.returns-in-None-clause-cause
returns-in-None-clause-cause g c =
    let ran = c.run_beside-heard in
    let conn = g.N.Conn.known c.args.conn.now in
    settled_cause c.settle.result _ _ (g.W.TurnObjects.known ran.new.with).trace.health ran.ensures.went.trace_lasts
    (for_some c.settle.result (λ end cause. cause conn ran.ensures.conn_lasts (λ tells. ran.ensures.heard tells) ran.ensures.conn_cause)
    c.settle.ensures.cause)
