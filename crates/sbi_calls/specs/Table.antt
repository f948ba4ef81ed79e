-- The calls of the supervisor binary interface, one row each: extension, function and call (SBI, "Base Extension" to
-- "System Reset Extension"). An extension says its name in ASCII; the legacy ones are numbered, and have no function.
use Rattle.std.specs.Prelude.{ℕ, ◌==◌, ◌&&◌, Bool, true, if◌then◌else◌, List, [], ◌∷◌, Option, Some, None}
use Rattle.std.specs.List.{list_any}
use Rattle.sbi_calls.specs.declared.table.SbiCall.{SbiCall}
use Rattle.sbi_calls.specs.declared.table.SbiCall.TheVariants.{ConsolePutchar, GetSpecVersion, GetImplementationId}
use Rattle.sbi_calls.specs.declared.table.SbiCall.TheVariants.{GetImplementationVersion, ProbeExtension, GetVendorId}
use Rattle.sbi_calls.specs.declared.table.SbiCall.TheVariants.{GetArchitectureId, GetMachineId, SetTimer, SendIpi}
use Rattle.sbi_calls.specs.declared.table.SbiCall.TheVariants.{RemoteFenceI, RemoteSfenceVma, RemoteSfenceVmaAsid}
use Rattle.sbi_calls.specs.declared.table.SbiCall.TheVariants.{HartStart, HartStop, HartGetStatus, SystemReset}

pub record Row : Type 0 where
  pub extension : ℕ
  pub function : Option ℕ
  pub call : SbiCall

abbrev pub row : ℕ → ℕ → SbiCall → Row
row extension function call = record { extension = extension; function = Some function; call = call }

-- whatever the function is
abbrev pub legacy : ℕ → SbiCall → Row
legacy extension call = record { extension = extension; function = None; call = call }

abbrev pub base : ℕ
base = 0x10

-- "TIME", "sPI", "RFNC", "HSM" and "SRST"
abbrev pub time : ℕ
time = 0x54494D45

abbrev pub ipi : ℕ
ipi = 0x735049

abbrev pub rfence : ℕ
rfence = 0x52464E43

abbrev pub hsm : ℕ
hsm = 0x48534D

abbrev pub srst : ℕ
srst = 0x53525354

abbrev pub calls : List Row
calls =
    legacy 1 ConsolePutchar
    ∷ row base 0 GetSpecVersion
    ∷ row base 1 GetImplementationId
    ∷ row base 2 GetImplementationVersion
    ∷ row base 3 ProbeExtension
    ∷ row base 4 GetVendorId
    ∷ row base 5 GetArchitectureId
    ∷ row base 6 GetMachineId
    ∷ row time 0 SetTimer
    ∷ row ipi 0 SendIpi
    ∷ row rfence 0 RemoteFenceI
    ∷ row rfence 1 RemoteSfenceVma
    ∷ row rfence 2 RemoteSfenceVmaAsid
    ∷ row hsm 0 HartStart
    ∷ row hsm 1 HartStop
    ∷ row hsm 2 HartGetStatus
    ∷ row srst 0 SystemReset
    ∷ []

abbrev pub is_function : Option ℕ → ℕ → Bool
is_function None function = true
is_function (Some number) function = number == function

abbrev pub call_in : List Row → ℕ → ℕ → Option SbiCall
call_in [] extension function = None
call_in (row ∷ more) extension function =
    if (extension == row.extension) && is_function row.function function then Some row.call
    else call_in more extension function

-- the call of an extension and a function, if there is one
abbrev pub call_of : ℕ → ℕ → Option SbiCall
call_of extension function = call_in calls extension function

-- whether there is a call of this extension
abbrev pub is_extension : ℕ → Bool
is_extension extension = list_any (λ row. extension == row.extension) calls
