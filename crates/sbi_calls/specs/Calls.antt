-- What each call does: it ends at once with an error and a value, or it is one act on the board.
use Rattle.std.specs.Prelude.{ℕ, ◌-◌, ◌%◌, ◌^◌, if◌then◌else◌, Bool, true, false, Option, Some, None}
use Rattle.vm_types.specs.declared.op.BoardOp.{BoardOp}
use Rattle.vm_types.specs.declared.op.BoardOp.TheVariants as board
use Rattle.rv_rows.specs.declared.register.Register.{Register}
use Rattle.rv_rows.specs.declared.register.Register.TheVariants.{X12, X16, X17}
use Rattle.rv_supervisor.specs.declared.regs.Regs.{Regs}
use Rattle.rv_supervisor.specs.Registers.{reg, a0, a1}
use Rattle.sbi_calls.specs.declared.step.SbiReturn.{SbiReturn}
use Rattle.sbi_calls.specs.declared.step.SbiStep.{SbiStep}
use Rattle.sbi_calls.specs.declared.step.SbiStep.TheVariants.{Now, Act}
use Rattle.sbi_calls.specs.declared.table.SbiCall.{SbiCall}
use Rattle.sbi_calls.specs.declared.table.SbiCall.TheVariants.{ConsolePutchar, GetSpecVersion, GetImplementationId}
use Rattle.sbi_calls.specs.declared.table.SbiCall.TheVariants.{GetImplementationVersion, ProbeExtension, GetVendorId}
use Rattle.sbi_calls.specs.declared.table.SbiCall.TheVariants.{GetArchitectureId, GetMachineId, SetTimer, SendIpi}
use Rattle.sbi_calls.specs.declared.table.SbiCall.TheVariants.{RemoteFenceI, RemoteSfenceVma, RemoteSfenceVmaAsid}
use Rattle.sbi_calls.specs.declared.table.SbiCall.TheVariants.{HartStart, HartStop, HartGetStatus, SystemReset}
use Rattle.sbi_calls.specs.Table.{call_of, is_extension}

-- the register of the third argument, and those that say which call it is: a6 the function, a7 the extension (SBI,
-- "Binary Encoding")
abbrev pub a2 : Register
a2 = X12

abbrev pub a6 : Register
a6 = X16

abbrev pub a7 : Register
a7 = X17

-- SBI_SUCCESS
abbrev pub success : ℕ
success = 0

-- SBI_ERR_NOT_SUPPORTED, which is -2
abbrev pub not_supported : ℕ
not_supported = 2 ^ 64 - 2

-- version 1.0 of the interface: the major number stands at bit 24
abbrev pub spec_version : ℕ
spec_version = 0x01000000

-- "RFC1", which no other implementation has
abbrev pub implementation_id : ℕ
implementation_id = 0x52464331

abbrev pub implementation_version : ℕ
implementation_version = 1

abbrev pub returns : ℕ → ℕ → SbiReturn
returns error value = record { error = error; value = value }

abbrev pub succeeds : ℕ → SbiStep
succeeds value = Now (returns success value)

-- All 64 bits of the arguments count. A remote fence has nothing to do: what one hart has written the others see, and
-- there is no paging.
abbrev pub step_of : SbiCall → Regs → SbiStep
step_of ConsolePutchar r = Act (board.Putchar (reg r a0 % 2 ^ 8))
step_of GetSpecVersion r = succeeds spec_version
step_of GetImplementationId r = succeeds implementation_id
step_of GetImplementationVersion r = succeeds implementation_version
step_of ProbeExtension r = succeeds (if is_extension (reg r a0) then 1 else 0)
step_of GetVendorId r = succeeds 0
step_of GetArchitectureId r = succeeds 0
step_of GetMachineId r = succeeds 0
step_of SetTimer r = Act (board.SetTimer (reg r a0))
step_of SendIpi r = Act (board.SendIpi (reg r a0) (reg r a1))
step_of RemoteFenceI r = succeeds 0
step_of RemoteSfenceVma r = succeeds 0
step_of RemoteSfenceVmaAsid r = succeeds 0
step_of HartStart r = Act (board.StartHart (reg r a0) (reg r a1) (reg r a2))
step_of HartStop r = Act board.StopHart
step_of HartGetStatus r = Act (board.HartStatus (reg r a0))
step_of SystemReset r = Act (board.Reset (reg r a0) (reg r a1))

-- no call of the table is not supported, and is no act
abbrev pub step_by : Option SbiCall → Regs → SbiStep
step_by None r = Now (returns not_supported 0)
step_by (Some call) r = step_of call r

-- what an ECALL does
abbrev pub sbi : Regs → SbiStep
sbi r = step_by (call_of (reg r a7) (reg r a6)) r

-- the acts that calls are; a look, an access of a CSR, a device's and the timer's are none
abbrev pub is_call_act : BoardOp → Bool
is_call_act (board.Putchar byte) = true
is_call_act (board.Reset kind reason) = true
is_call_act (board.SetTimer deadline) = true
is_call_act (board.SendIpi mask base) = true
is_call_act (board.StartHart hart pc word) = true
is_call_act board.StopHart = true
is_call_act (board.HartStatus hart) = true
is_call_act act = false
