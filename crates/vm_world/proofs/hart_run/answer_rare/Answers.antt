use Rattle.vm_world.proofs.Running.{none_unfit}
use Rattle.vm_world.proofs.hart_run.answer_rare.Goals as goal

pub returns-in-None-clause-answered : goal.returns-in-None-clause-answered
returns-in-None-clause-answered c =
    absurd (none_unfit c.args.pages.now.pages c.args.board.now c.args.ports.now.items c.args.actor c.args.op c.op.result c.act-reply.result c.op.ensures c.requires.own c.act-reply.ensures.answered.reply_is (c.in-None.ensures c.args.op))
