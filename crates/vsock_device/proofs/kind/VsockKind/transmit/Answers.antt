use Rattle.std.proofs.Common.{◌≤◌, Option, ℕ, arith, sym, subst}
use Rattle.queue_device.specs.Acting.{Acting, Works}
use Rattle.vsock_device.specs.declared.data.Vsock.{Vsock}
use Rattle.vsock_device.specs.Work.{op_of, serving_of}
use Rattle.vsock_device.proofs.Working.{long_chain, short_chain}
use Rattle.vsock_device.proofs.kind.VsockKind.transmit.Goals as goal

pub returns-then-len-clause-works : goal.returns-then-len-clause-works
returns-then-len-clause-works c =
    let new = c.ignore.new.self in
    subst (λ (t : Acting Vsock (Option ℕ)). Works t c.ignore.result new.own (op_of new.stage) (serving_of new.stage))
    (sym (short_chain c.args.parts c.as_slice.result.now c.args.self.now.own c.total-len.result c.total-len.ensures.sum
    c.as_slice.ensures.parts c.if-len.true))
    c.ignore.ensures.works

pub returns-clause-works : goal.returns-clause-works
returns-clause-works c =
    let new = c.fetch_on.new.self in
    let long : 44 ≤ c.total-len.result = omega (arith, c.if-len.false) in
    subst (λ (t : Acting Vsock (Option ℕ)). Works t c.fetch_on.result new.own (op_of new.stage) (serving_of new.stage))
    (sym (long_chain c.args.parts c.as_slice.result.now c.unread.result c.args.self.now.own c.total-len.result c.unread.ensures
    c.total-len.ensures.sum c.as_slice.ensures.parts long))
    c.fetch_on.ensures.works
