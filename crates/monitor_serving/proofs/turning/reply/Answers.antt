use Rattle.std.proofs.Common.{◌++◌, sym, ap, subst, ◌∙◌, List, ℕ}
use Rattle.vm_outside.specs.Passing.{TakesAll}
use Rattle.monitor_running.specs.Objects.{TurnKnown, known_with}
use Rattle.monitor_running.specs.Reached.{known}
use Rattle.monitor_serving.specs.Turns.{EndsConnection, StaysOpen}
use Rattle.monitor_serving.specs.Views.{hosts, view}
use Rattle.monitor_serving.proofs.Answering.{ignored, over, sent, short}
use Rattle.monitor_serving.proofs.turning.reply.Goals as goal

pub returns-then-is_off-clause-replied : goal.returns-then-is_off-clause-replied
returns-then-is_off-clause-replied g c =
    let F = g.F.Files.known in
    let N = g.N.Conn.known in
    let was = g.W.TurnObjects.known c.args.with.now in
    λ trace sink before is_told files_tell tells gave.
    ignored c.args.monitor.now c.args.monitor.now trace was.trace sink was.host.clock was.host.devices (F c.args.files.now) (F c.args.files.now) before (N c.args.conn.now)
    (N c.args.conn.now) c.args.bytes.now gave.came gave.untaken is_told
    (λ m is. sym (c.is_off.ensures (F c.args.files.now) m is) ∙ c.if-is_off.true)

pub returns-in_default-clause-replied : goal.returns-in_default-clause-replied
returns-in_default-clause-replied g c =
    let F = g.F.Files.known in
    let N = g.N.Conn.known in
    let was = g.W.TurnObjects.known c.args.with.now in
    λ trace sink before is_told files_tell tells gave.
    short c.args.monitor.now c.hear.new.self trace was.trace sink was.host.clock was.host.devices (F c.args.files.now) (F c.hear.new.files) before (N c.args.conn.now)
    (N c.args.conn.now) c.args.bytes.now gave.came gave.untaken is_told
    (λ m is. sym (c.is_off.ensures (F c.args.files.now) m is) ∙ c.if-is_off.false) files_tell c.in_default.ensures.stops

pub returns-in_default-put_all-clause-replied : goal.returns-in_default-put_all-clause-replied
returns-in_default-put_all-clause-replied g c =
    let F = g.F.Files.known in
    let N = g.N.Conn.known in
    let was = g.W.TurnObjects.known c.args.with.now in
    let now = g.W.TurnObjects.known c.attach.new.with in
    λ trace sink before is_told files_tell tells gave.
    subst (λ (k : TurnKnown). EndsConnection (view c.args.monitor.now (hosts (known trace sink was.host) (F c.args.files.now)) before)
    (view c.hear.new.self (hosts (known_with k sink) (F c.hear.new.files)) (N c.put_all.new.conn))) (sym c.attach.ensures.beside)
    (over c.args.monitor.now c.hear.new.self trace was.trace sink was.host.clock was.host.devices (F c.args.files.now) (F c.hear.new.files) before (N c.args.conn.now)
    (N c.put_all.new.conn) c.args.bytes.now gave.came gave.untaken is_told
    (λ m is. sym (c.is_off.ensures (F c.args.files.now) m is) ∙ c.if-is_off.false)
    c.in-Ok.text files_tell c.in-Ok.ensures.goes (c.put_all.ensures.waits tells) now.host.devices c.attach.ensures.uncalled
    (c.attach.ensures.attached (F c.hear.new.files)) c.put_all.result
    (subst (λ (l : List ℕ). TakesAll (N c.args.conn.now).took (N c.put_all.new.conn).took c.put_all.result l) c.as_slice.ensures
    (c.put_all.ensures.takes tells))
    c.put_all.ensures.called gave.lasts)

pub returns-then-is_failed-clause-replied : goal.returns-then-is_failed-clause-replied
returns-then-is_failed-clause-replied g c =
    let F = g.F.Files.known in
    let N = g.N.Conn.known in
    let was = g.W.TurnObjects.known c.args.with.now in
    let now = g.W.TurnObjects.known c.attach.new.with in
    λ trace sink before is_told files_tell tells gave.
    subst (λ (k : TurnKnown). EndsConnection (view c.args.monitor.now (hosts (known trace sink was.host) (F c.args.files.now)) before)
    (view c.hear.new.self (hosts (known_with k sink) (F c.hear.new.files)) (N c.put_all.new.conn))) (sym c.attach.ensures.beside)
    (over c.args.monitor.now c.hear.new.self trace was.trace sink was.host.clock was.host.devices (F c.args.files.now) (F c.hear.new.files) before (N c.args.conn.now)
    (N c.put_all.new.conn) c.args.bytes.now gave.came gave.untaken is_told
    (λ m is. sym (c.is_off.ensures (F c.args.files.now) m is) ∙ c.if-is_off.false)
    c.in-Ok.text files_tell c.in-Ok.ensures.goes (c.put_all.ensures.waits tells) now.host.devices c.attach.ensures.uncalled
    (c.attach.ensures.attached (F c.hear.new.files)) c.put_all.result
    (subst (λ (l : List ℕ). TakesAll (N c.args.conn.now).took (N c.put_all.new.conn).took c.put_all.result l) c.as_slice.ensures
    (c.put_all.ensures.takes tells))
    c.put_all.ensures.called gave.lasts)

pub returns-clause-replied : goal.returns-clause-replied
returns-clause-replied g c =
    let F = g.F.Files.known in
    let N = g.N.Conn.known in
    let was = g.W.TurnObjects.known c.args.with.now in
    let now = g.W.TurnObjects.known c.attach.new.with in
    λ trace sink before is_told files_tell tells gave.
    subst (λ (k : TurnKnown). StaysOpen (view c.args.monitor.now (hosts (known trace sink was.host) (F c.args.files.now)) before)
    (view c.hear.new.self (hosts (known_with k sink) (F c.hear.new.files)) (N c.put_all.new.conn))) (sym c.attach.ensures.beside)
    (sent c.args.monitor.now c.hear.new.self trace was.trace sink was.host.clock was.host.devices (F c.args.files.now) (F c.hear.new.files) before (N c.args.conn.now)
    (N c.put_all.new.conn) c.args.bytes.now gave.came gave.untaken is_told
    (λ m is. sym (c.is_off.ensures (F c.args.files.now) m is) ∙ c.if-is_off.false)
    c.in-Ok.text files_tell c.in-Ok.ensures.goes (c.put_all.ensures.waits tells) now.host.devices c.attach.ensures.uncalled
    (c.attach.ensures.attached (F c.hear.new.files))
    (c.in-Ok-put_all.ensures.takes tells ∙ ap (λ (l : List ℕ). (N c.args.conn.now).took ++ l) c.as_slice.ensures))

pub returns-in_default-put_all-clause-trace : goal.returns-in_default-put_all-clause-trace
returns-in_default-put_all-clause-trace g c = ap (λ (k : TurnKnown). k.trace) c.attach.ensures.beside

pub returns-then-is_failed-clause-trace : goal.returns-then-is_failed-clause-trace
returns-then-is_failed-clause-trace g c = ap (λ (k : TurnKnown). k.trace) c.attach.ensures.beside

pub returns-clause-trace : goal.returns-clause-trace
returns-clause-trace g c = ap (λ (k : TurnKnown). k.trace) c.attach.ensures.beside
