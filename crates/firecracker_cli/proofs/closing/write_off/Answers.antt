use Rattle.std.proofs.Common.{◌∙◌, Bool, [], ◌++◌, append-nil, ap, sym, subst, if◌then◌else◌}
use Rattle.vm_outside.specs.Passing.{TakesAll}
use Rattle.responses.specs.Output.{off_line}
use Rattle.firecracker_cli.proofs.closing.write_off.Goals as goal

pub returns-then-is_off-clause-takes : goal.returns-then-is_off-clause-takes
returns-then-is_off-clause-takes g c = λ tells known m is.
    subst (λ (b : Bool). TakesAll (g.K.Sink.known c.args.sink.now).taken (g.K.Sink.known c.write_all.new.sink).taken c.write_all.result
    (if b then off_line else []))
    (sym c.if-is_off.true ∙ c.is_off.ensures known m is) (c.write_all.ensures.takes tells)

pub returns-clause-takes : goal.returns-clause-takes
returns-clause-takes g c = λ tells known m is.
    let taken = (g.K.Sink.known c.args.sink.now).taken in
    sym (append-nil taken)
    ∙ ap (λ (b : Bool). taken ++ (if b then off_line else [])) (sym c.if-is_off.false ∙ c.is_off.ensures known m is)
