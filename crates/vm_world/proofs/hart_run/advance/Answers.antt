use Rattle.std.proofs.Common.{ap, ◌∙◌}
use Rattle.vm_types.specs.declared.ids.ActorId.{ActorId}
use Rattle.hart_trace.specs.Asks.{is_hart_op}
use Rattle.hart_trace.proofs.Asks.{hart_asks}
use Rattle.rv_doing.specs.HartOps.{op_of, reply_of}
use Rattle.vm_world.proofs.Running.{answer_fits_want}
use Rattle.vm_world.proofs.hart_run.advance.Goals as goal

pub answer-reply-requires-clause-own : goal.answer-reply-requires-clause-own
answer-reply-requires-clause-own c = ap is_hart_op c.asks.ensures ∙ hart_asks c.args.hart.now

pub goes_on-requires : goal.goes_on-requires
goes_on-requires c =
    answer_fits_want c.args.pages.now.pages c.args.board.now c.args.ports.now.items (ActorId.Hart c.args.number) c.args.hart.now (op_of c.asks.result) (reply_of c.answer-reply.result) c.asks.ensures c.answer-reply.ensures.answered.reply_is
