-- A hart's small op as an op, and the small reply to it as a reply.
use Rattle.std.specs.Prelude.{Option, Some, None}
use Rattle.vm_types.specs.declared.op.Op.{Op}
use Rattle.vm_types.specs.declared.reply.Reply.{Reply}
use Rattle.le_fields.specs.Fields.{bytes_of}
use Rattle.rv_rows.specs.Loads.{width_bytes}
use Rattle.rv_doing.specs.declared.hart_op.HartOp.{HartOp}
use Rattle.rv_doing.specs.declared.hart_op.HartOp.TheVariants.{Fetch, Read, Write, Amo, Lr, Sc, Board, Idle}
use Rattle.rv_doing.specs.declared.hart_reply.HartReply.{HartReply}
use Rattle.rv_doing.specs.declared.hart_reply.HartReply.TheVariants.{Fault, Done, Full, Bytes, Word, Returned, Shown}

abbrev pub op_of : HartOp → Op
op_of (Fetch pc) = Op.Read pc 4
op_of (Read at width) = Op.Read at (width_bytes width)
op_of (Write at word width) = Op.Write at (bytes_of (width_bytes width) word)
op_of (Amo at value kind wide) = Op.Amo at value kind wide
op_of (Lr at wide) = Op.Lr at wide
op_of (Sc at value wide) = Op.Sc at value wide
op_of (Board act) = Op.Board act
op_of Idle = Op.Idle

abbrev pub op_in : Option HartOp → Option Op
op_in None = None
op_in (Some op) = Some (op_of op)

abbrev pub reply_of : HartReply → Reply
reply_of Fault = Reply.AccessFault
reply_of Done = Reply.Done
reply_of Full = Reply.Full
reply_of (Bytes word width) = Reply.Bytes (bytes_of (width_bytes width) word)
reply_of (Word word) = Reply.Word word
reply_of (Returned error value) = Reply.Returned error value
reply_of (Shown shown) = Reply.Shown shown
