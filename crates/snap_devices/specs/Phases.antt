-- Where a block device is, as bytes.
use Rattle.std.specs.Prelude.{◌≡◌, ℕ, zero, suc, refl}
use Rattle.std.proofs.Common.{sym, ap}
use Rattle.file_format.specs.Format.{Format}
use Rattle.file_format.specs.Kinds.{byte, number16, number32, number64, just, nothing, variant, chosen_by, ◌&◌}
use Rattle.dev_core.specs.declared.breaking.BreakStage.{BreakStage}
use Rattle.dev_core.specs.declared.breaking.BreakStage.TheVariants as breaking
use Rattle.dev_core.specs.declared.returning.ReturnStage.{ReturnStage}
use Rattle.dev_core.specs.declared.returning.ReturnStage.TheVariants as returning
use Rattle.block_device.specs.declared.stage.ServiceStage.{ServiceStage}
use Rattle.block_device.specs.declared.stage.ServiceStage.TheVariants.{Flush}
use Rattle.snap_devices.specs.declared.file.FilePhase.{FilePhase}
use Rattle.snap_devices.specs.declared.file.FilePhase.TheVariants.{Between, Break, Header, Serve, Return}
use Rattle.snap_devices.specs.Serving.{service}

-- ---- telling that the queue is broken: the port, or the line

abbrev pub break_code : BreakStage → ℕ
break_code breaking.Port = 0
break_code breaking.Line = 1

abbrev pub breaks : ℕ → Format BreakStage
breaks zero = just breaking.Port
breaks (suc zero) = just breaking.Line
breaks (suc (suc n)) = nothing

pub break_code-is : (code : ℕ) (s : BreakStage) → (breaks code).Fits s → code ≡ break_code s
break_code-is zero s fits = sym (ap break_code fits)
break_code-is (suc zero) s fits = sym (ap break_code fits)
break_code-is (suc (suc n)) s fits = absurd fits

unfoldable pub break_stage : Format BreakStage
break_stage = chosen_by byte breaks break_code break_code-is

-- ---- giving a chain back: the pair, its second half, the index, the interrupt, the line, and behind the index the driver's event

abbrev pub return_code : ReturnStage → ℕ
return_code returning.Pair = 0
return_code returning.Half = 1
return_code returning.Index = 2
return_code returning.Interrupt = 3
return_code returning.Line = 4
return_code returning.Event = 5

abbrev pub returns : ℕ → Format ReturnStage
returns zero = just returning.Pair
returns (suc zero) = just returning.Half
returns (suc (suc zero)) = just returning.Index
returns (suc (suc (suc zero))) = just returning.Interrupt
returns (suc (suc (suc (suc zero)))) = just returning.Line
returns (suc (suc (suc (suc (suc zero))))) = just returning.Event
returns (suc (suc (suc (suc (suc (suc n)))))) = nothing

pub return_code-is : (code : ℕ) (s : ReturnStage) → (returns code).Fits s → code ≡ return_code s
return_code-is zero s fits = sym (ap return_code fits)
return_code-is (suc zero) s fits = sym (ap return_code fits)
return_code-is (suc (suc zero)) s fits = sym (ap return_code fits)
return_code-is (suc (suc (suc zero))) s fits = sym (ap return_code fits)
return_code-is (suc (suc (suc (suc zero)))) s fits = sym (ap return_code fits)
return_code-is (suc (suc (suc (suc (suc zero))))) s fits = sym (ap return_code fits)
return_code-is (suc (suc (suc (suc (suc (suc n)))))) s fits = absurd fits

unfoldable pub return_stage : Format ReturnStage
return_stage = chosen_by byte returns return_code return_code-is

-- ---- the phase: a byte, and behind it what the phase has

abbrev pub phase_code : FilePhase → ℕ
phase_code Between = 0
phase_code (Break stage) = 1
phase_code (Header len head) = 2
phase_code (Serve at stage head) = 3
phase_code (Return len head stage) = 4

abbrev pub broken_at : FilePhase → BreakStage
broken_at (Break stage) = stage
broken_at _ = breaking.Port

-- how many bytes the chain has for the device to read, and its head
abbrev pub header_of : FilePhase → ℕ × ℕ
header_of (Header len head) = (len, head)
header_of _ = (0, 0)

-- where the status goes, what the request is at, and the head
abbrev pub served_of : FilePhase → ℕ × (ServiceStage × ℕ)
served_of (Serve at stage head) = (at, (stage, head))
served_of _ = (0, (Flush, 0))

-- how many bytes were written, the head, and how far it is given back
abbrev pub returned_of : FilePhase → ℕ × (ℕ × ReturnStage)
returned_of (Return len head stage) = (len, (head, stage))
returned_of _ = (0, (0, returning.Pair))

abbrev pub phases : ℕ → Format FilePhase
phases zero = just Between
phases (suc zero) = variant Break broken_at (λ _. refl) break_stage
phases (suc (suc zero)) = variant (λ h. Header h.0 h.1) header_of (λ _. refl) (number64 & number16)
phases (suc (suc (suc zero))) =
    variant (λ s. Serve s.0 s.1.0 s.1.1) served_of (λ _. refl) (number64 & service & number16)
phases (suc (suc (suc (suc zero)))) =
    variant (λ r. Return r.0 r.1.0 r.1.1) returned_of (λ _. refl) (number32 & number16 & return_stage)
phases (suc (suc (suc (suc (suc n))))) = nothing

pub phase_code-is : (code : ℕ) (p : FilePhase) → (phases code).Fits p → code ≡ phase_code p
phase_code-is zero p fits = sym (ap phase_code fits)
phase_code-is (suc zero) p fits = sym (ap phase_code fits.0)
phase_code-is (suc (suc zero)) p fits = sym (ap phase_code fits.0)
phase_code-is (suc (suc (suc zero))) p fits = sym (ap phase_code fits.0)
phase_code-is (suc (suc (suc (suc zero)))) p fits = sym (ap phase_code fits.0)
phase_code-is (suc (suc (suc (suc (suc n))))) p fits = absurd fits

unfoldable pub phase : Format FilePhase
phase = chosen_by byte phases phase_code phase_code-is
