use Rattle.std.proofs.Common.{◌≤◌, ◌∙◌, List, Option, ℕ, ap, arith, length, take, sym, subst}
use Rattle.queue_device.specs.Acting.{Acting, Works}
use Rattle.vsock_packet.specs.Header.{header_of}
use Rattle.vsock_device.specs.declared.data.Vsock.{Vsock}
use Rattle.vsock_device.specs.Work.{op_of, serving_of}
use Rattle.vsock_device.proofs.Working.{judged_now}
use Rattle.vsock_device.proofs.kind.VsockKind.packet_read.Goals as goal

pub returns-then-header-len-clause-works : goal.returns-then-header-len-clause-works
returns-then-header-len-clause-works c =
    let own = c.args.self.now.own in
    let new = c.judge.new.self in
    let long : 44 ≤ length c.args.from.held = omega (arith, c.if-as_slice-lt-SIZE.false, ap length c.as_slice.ensures.bytes) in
    let read = c.header_of-header.ensures ∙ ap (λ (l : List ℕ). header_of (take 44 l)) c.as_slice-2.ensures.bytes in
    subst (λ (t : Acting Vsock (Option ℕ)). Works t c.judge.result new.own (op_of new.stage) (serving_of new.stage))
    (sym (judged_now c.args.len c.header_of-header.result c.args.from own long read c.if-header-len.true))
    c.judge.ensures.works
