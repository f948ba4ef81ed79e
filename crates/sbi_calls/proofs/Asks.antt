-- What calls ask of the board.
use Rattle.std.proofs.Common.{◌≡◌, refl, true, Option, Some, None, subst}
use Rattle.vm_types.specs.declared.op.BoardOp.{BoardOp}
use Rattle.rv_supervisor.specs.declared.regs.Regs.{Regs}
use Rattle.rv_supervisor.specs.Registers.{reg}
use Rattle.sbi_calls.specs.declared.step.SbiStep.{SbiStep}
use Rattle.sbi_calls.specs.declared.step.SbiStep.TheVariants.{Now, Act}
use Rattle.sbi_calls.specs.declared.table.SbiCall.{SbiCall}
use Rattle.sbi_calls.specs.declared.table.SbiCall.TheVariants as call
use Rattle.sbi_calls.specs.Calls.{a6, a7, sbi, step_of, step_by, is_call_act}
use Rattle.sbi_calls.specs.Table.{call_of}

-- where a step is an act, it is one of the calls'
abbrev pub IsCallStep : SbiStep → Type 0
IsCallStep (Now given) = Unit {0}
IsCallStep (Act act) = is_call_act act ≡ true

call_step : (it : SbiCall) (r : Regs) → IsCallStep (step_of it r)
call_step call.ConsolePutchar r = refl
call_step call.SetTimer r = refl
call_step call.SendIpi r = refl
call_step call.HartStart r = refl
call_step call.HartStop r = refl
call_step call.HartGetStatus r = refl
call_step call.SystemReset r = refl
call_step it r = tt

step : (it : Option SbiCall) (r : Regs) → IsCallStep (step_by it r)
step None r = tt
step (Some it) r = call_step it r

pub sbi_step : (r : Regs) → IsCallStep (sbi r)
sbi_step r = step (call_of (reg r a7) (reg r a6)) r

pub asked_act : (r : Regs) (act : BoardOp) → sbi r ≡ Act act → is_call_act act ≡ true
asked_act r act is = subst IsCallStep is (sbi_step r)
