-- What an ECALL does: a call of the supervisor binary interface, which ends at once or is one act on the board.
use Rattle.vm_types.specs.declared.op.Op.TheVariants.{Board}
use Rattle.rv_supervisor.specs.declared.regs.Regs.{Regs}
use Rattle.sbi_calls.specs.declared.step.SbiStep.{SbiStep}
use Rattle.sbi_calls.specs.declared.step.SbiStep.TheVariants.{Now, Act}
use Rattle.sbi_calls.specs.Calls.{sbi}
use Rattle.sbi_calls.specs.Ends.{after_call, after_act, returned}
use Rattle.rv_doing.specs.Doing.{Doing, Ends, Asks}

abbrev pub call_by : SbiStep → Regs → Doing
call_by (Now given) r = Ends (after_call given r)
call_by (Act act) r = Asks (Board act) (λ reply. after_act act (returned reply) r)

-- it never traps
abbrev pub call : Regs → Doing
call r = call_by (sbi r) r
