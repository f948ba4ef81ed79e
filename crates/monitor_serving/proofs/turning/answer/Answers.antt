use Rattle.std.proofs.Common.{◌≡◌, ◌∙◌, ◌++◌, ◌∷◌, ℕ, List, [], refl, sym, ap, subst}
use Rattle.vm_types.specs.declared.exit.Object.TheVariants as object
use Rattle.script_text.specs.declared.item.Item.TheVariants as item
use Rattle.monitor_running.specs.Asked.{HostKnown}
use Rattle.monitor_running.specs.Objects.{TurnKnown, known_with}
use Rattle.monitor_running.specs.Reached.{known}
use Rattle.monitor_serving.specs.declared.served.Served.TheVariants as served
use Rattle.monitor_serving.specs.Hearing.{Gave, bytes_in}
use Rattle.monitor_serving.specs.Turns.{BreaksOff, TurnedAs}
use Rattle.monitor_serving.specs.Views.{hosts, view}
use Rattle.monitor_serving.proofs.Answering.{untold}
use Rattle.monitor_serving.proofs.turning.answer.Goals as goal

pub returns-in_default-clause-answered : goal.returns-in_default-clause-answered
returns-in_default-clause-answered g c =
    let F = g.F.Files.known in
    let N = g.N.Conn.known in
    let was = g.W.TurnObjects.known c.args.with.now in
    let told = g.W.TurnObjects.known c.tell_bytes.new.with in
    λ sink before tell tells gave.
    subst (λ (k : TurnKnown). BreaksOff (served.Fault object.Trace) (view c.args.monitor.now (hosts (known_with was sink) (F c.args.files.now)) before)
    (view c.args.monitor.now (hosts (known_with k sink) (F c.args.files.now)) (N c.args.conn.now))) (sym c.tell_bytes.ensures.beside)
    (untold c.args.monitor.now c.args.monitor.now was.trace told.trace sink was.host.clock was.host.devices (F c.args.files.now)
    (F c.args.files.now) before (N c.args.conn.now) (N c.args.conn.now) c.args.piece.items gave.came gave.untaken
    (c.in_default.ensures.untold tell.trace) refl)

-- (the names of the steps here are guessed: this exit went by search before)
pub returns-clause-answered : goal.returns-clause-answered
returns-clause-answered g c =
    let F = g.F.Files.known in
    let N = g.N.Conn.known in
    let was = g.W.TurnObjects.known c.args.with.now in
    let told = g.W.TurnObjects.known c.tell_bytes.new.with in
    let now = g.W.TurnObjects.known c.reply.new.with in
    let same : c.bytes_in.result.now ≡ c.from_vec.result = c.bytes_in.ensures ∙ ap bytes_in c.in-Ok.ensures.item in
    λ sink before tell tells gave.
    subst (λ (h : HostKnown). TurnedAs c.reply.result (view c.args.monitor.now (hosts (known was.trace sink h) (F c.args.files.now)) before)
    (view c.reply.new.monitor (hosts (known_with now sink) (F c.reply.new.files)) (N c.reply.new.conn)))
    (ap (λ (k : TurnKnown). k.host) c.tell_bytes.ensures.beside)
    (c.reply.ensures.replied was.trace sink before
    (subst (λ (l : List ℕ). told.trace.took ≡ was.trace.took ++ item.Bytes l ∷ []) (sym same) (c.in-Ok.ensures.told tell.trace))
    tell.files tells (subst (λ (l : List ℕ). Gave before (N c.args.conn.now) l) (sym (same ∙ c.from_vec.ensures)) gave))
