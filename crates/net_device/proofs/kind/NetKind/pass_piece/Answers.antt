use Rattle.std.proofs.Common.{length, ap, ◌∙◌, arith}
use Rattle.std.proofs.lemmas.List.{length-drop}
use Rattle.net_device.specs.Work.{Kept}
use Rattle.net_device.proofs.Working.{fill_led, share_is}
use Rattle.net_device.proofs.kind.NetKind.pass_piece.Goals as goal

pub overflow_sub-len : goal.overflow_sub-len
overflow_sub-len c =
    let same = ap (λ (k : Kept). length k.doing.bytes) c.self.view_is in
    omega (arith, c.requires, c.len.ensures.len, same, length-drop c.args.at c.args.self.now.doing.bytes)

pub returns-clause-led : goal.returns-clause-led
returns-clause-led c = λ reply.
    let same = ap (λ (k : Kept). length k.doing.bytes) c.self.view_is in
    let n = c.min-n.ensures ∙ share_is c.args.self.now.doing.bytes c.args.at c.len.result c.room.result c.args.to.now
    (c.len.ensures.len ∙ same) c.room.ensures.room in
    fill_led c.args.self.now.doing.bytes c.args.at c.min-n.result c.args.to.now c.pass.new.self reply c.requires n c.pass.ensures

pub returns-clause-at : goal.returns-clause-at
returns-clause-at c =
    let same = ap (λ (k : Kept). length k.doing.bytes) c.self.view_is in
    omega (arith, c.requires, c.min-n.ensures, c.len.ensures.len, same, length-drop c.args.at c.args.self.now.doing.bytes)
