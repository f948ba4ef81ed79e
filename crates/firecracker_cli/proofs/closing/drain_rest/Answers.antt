use Rattle.std.proofs.Common.{sym, ◌∙◌}
use Rattle.firecracker_cli.proofs.Closings.{none_drained, part_drained, some_drained}
use Rattle.firecracker_cli.proofs.closing.drain_rest.Goals as goal

pub returns-then-is_empty-clause-drains : goal.returns-then-is_empty-clause-drains
returns-then-is_empty-clause-drains g c = λ t k known m is.
    none_drained m _ _ c.console.result.now (c.console.ensures known m is) (sym c.is_empty.ensures ∙ c.if-is_empty.true)

pub returns-in_default-write_all-clause-drains : goal.returns-in_default-write_all-clause-drains
returns-in_default-write_all-clause-drains g c = λ t k known m is.
    part_drained m (g.T.Trace.known c.args.trace.now).took (g.K.Sink.known c.args.sink.now).taken c.console.result.now
    c.console-2.result.now (c.console.ensures known m is) (c.console-2.ensures known m is)
    (sym c.is_empty.ensures ∙ c.if-is_empty.false) _ (c.in-Ok.ensures.adds t) _ (c.in_default-write_all.ensures.takes k)

pub returns-clause-drains : goal.returns-clause-drains
returns-clause-drains g c = λ t k known m is.
    some_drained m (g.T.Trace.known c.args.trace.now).took (g.K.Sink.known c.args.sink.now).taken c.console.result.now
    c.console-2.result.now (c.console.ensures known m is) (c.console-2.ensures known m is)
    (sym c.is_empty.ensures ∙ c.if-is_empty.false) _ (c.in-Ok.ensures.adds t) _ (c.in-Ok-write_all.ensures.takes k)
