-- What a call leaves: its error in a0 and its value in a1, and the hart goes on behind it (SBI, "Binary Encoding").
use Rattle.std.specs.Prelude.{Option, Some, None}
use Rattle.vm_types.specs.declared.op.BoardOp.{BoardOp}
use Rattle.vm_types.specs.declared.op.BoardOp.TheVariants.{Putchar, SetTimer, StopHart}
use Rattle.vm_types.specs.declared.reply.Reply.{Reply}
use Rattle.vm_types.specs.declared.reply.Reply.TheVariants.{Returned}
use Rattle.rv_supervisor.specs.declared.regs.Regs.{Regs}
use Rattle.rv_supervisor.specs.Registers.{with_reg, a0, a1}
use Rattle.rv_supervisor.specs.Ends.{after_instruction, look_due}
use Rattle.sbi_calls.specs.declared.step.SbiReturn.{SbiReturn}
use Rattle.sbi_calls.specs.Calls.{success, returns}

abbrev pub after_call : SbiReturn → Regs → Regs
after_call given r = after_instruction (with_reg (with_reg r a0 given.error) a1 given.value)

-- the error and the value that a reply of the board's has
abbrev pub returned : Reply → Option SbiReturn
returned (Returned error value) = Some (returns error value)
returned reply = None

-- acts that have them; no other reply fits these
abbrev pub after_answer : Option SbiReturn → Regs → Regs
after_answer (Some given) r = after_call given r
after_answer None r = after_instruction r

-- By the act, and what its last reply has. A putchar leaves 0 in a0, and a1 as it was ("Legacy Extensions"). A stop is
-- finished as every instruction is and leaves a0 and a1; the look that is due shows that the hart is stopped ("Hart
-- State Management Extension").
abbrev pub after_act : BoardOp → Option SbiReturn → Regs → Regs
after_act (Putchar byte) given r = after_instruction (with_reg r a0 0)
after_act (SetTimer deadline) given r = after_call (returns success 0) r
after_act StopHart given r = look_due (after_instruction r)
after_act act given r = after_answer given r
