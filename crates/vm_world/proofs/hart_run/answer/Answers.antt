use Rattle.std.proofs.Common.{sym, subst, ap, ◌∙◌}
use Rattle.guest_pages.proofs.Making.{no_spends, room_ready}
use Rattle.rv_doing.specs.declared.hart_op.HartOp.{HartOp}
use Rattle.rv_doing.specs.HartOps.{op_of, reply_of}
use Rattle.rv_rows.specs.declared.memory.Width.{Width}
use Rattle.vm_world.specs.Answering.{IsAnswered, is_low}
use Rattle.vm_world.proofs.Running.{not_low, read_answered}
use Rattle.vm_world.proofs.hart_run.answer.Goals as goal

pub returns-in-Fetch-clause-answered : goal.returns-in-Fetch-clause-answered
returns-in-Fetch-clause-answered c =
    let high = not_low c.in-Fetch.pc (sym (ap is_low c.in-Fetch.is) ∙ sym c.is_low.ensures ∙ c.if-is_low.false) in
    subst (λ (op : HartOp). IsAnswered c.args.pages.now.pages c.args.board.now c.args.ports.now.items c.args.actor (op_of op) (reply_of c.read.result) c.args.pages.now.pages c.args.board.now c.args.ports.now.items) (sym c.in-Fetch.is)
    (read_answered c.args.pages.now.pages c.args.board.now c.args.ports.now.items c.args.actor c.in-Fetch.pc Width.Word (reply_of c.read.result) high (c.read.ensures c.args.actor))

pub returns-in-Read-clause-answered : goal.returns-in-Read-clause-answered
returns-in-Read-clause-answered c =
    let high = not_low c.in-Read.at (sym (ap is_low c.in-Read.is) ∙ sym c.is_low.ensures ∙ c.if-is_low.false) in
    subst (λ (op : HartOp). IsAnswered c.args.pages.now.pages c.args.board.now c.args.ports.now.items c.args.actor (op_of op) (reply_of c.read-in-Read.result) c.args.pages.now.pages c.args.board.now c.args.ports.now.items) (sym c.in-Read.is)
    (read_answered c.args.pages.now.pages c.args.board.now c.args.ports.now.items c.args.actor c.in-Read.at c.in-Read.width (reply_of c.read-in-Read.result) high (c.read-in-Read.ensures c.args.actor))

pub returns-in-Fetch-clause-spends : goal.returns-in-Fetch-clause-spends
returns-in-Fetch-clause-spends c = no_spends 1 c.args.pages.now

pub returns-in-Read-clause-spends : goal.returns-in-Read-clause-spends
returns-in-Read-clause-spends c = no_spends 1 c.args.pages.now

pub write_word-requires : goal.write_word-requires
write_word-requires c = room_ready c.args.pages.now _ c.requires.room
