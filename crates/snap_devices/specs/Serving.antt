-- What a request is at, as bytes.
use Rattle.std.specs.Prelude.{◌≡◌, ℕ, zero, suc, refl}
use Rattle.std.proofs.Common.{sym, ap}
use Rattle.file_format.specs.Format.{Format}
use Rattle.file_format.specs.Kinds.{byte, number32, number64, just, nothing, variant, chosen_by, ◌&◌}
use Rattle.block_device.specs.declared.stage.ServiceStage.{ServiceStage}
use Rattle.block_device.specs.declared.stage.ServiceStage.TheVariants.{Read, Put, PutId, Gather, Disk, Flush, Status}

abbrev pub service_code : ServiceStage → ℕ
service_code (Read sector unit more) = 0
service_code (Put sector unit more) = 1
service_code PutId = 2
service_code (Gather sector part more) = 3
service_code (Disk sector part more) = 4
service_code Flush = 5
service_code (Status status used) = 6

-- a sector, the unit behind it or the part of it that the request is at, and how many units follow
abbrev pub units_of : ServiceStage → ℕ × (ℕ × ℕ)
units_of (Read sector unit more) = (sector, (unit, more))
units_of (Put sector unit more) = (sector, (unit, more))
units_of (Gather sector part more) = (sector, (part, more))
units_of (Disk sector part more) = (sector, (part, more))
units_of _ = (0, (0, 0))

-- the status that is written, and the used length
abbrev pub status_of : ServiceStage → ℕ × ℕ
status_of (Status status used) = (status, used)
status_of _ = (0, 0)

unfoldable pub units : Format (ℕ × (ℕ × ℕ))
units = number64 & number64 & number64

abbrev pub services : ℕ → Format ServiceStage
services zero = variant (λ u. Read u.0 u.1.0 u.1.1) units_of (λ _. refl) units
services (suc zero) = variant (λ u. Put u.0 u.1.0 u.1.1) units_of (λ _. refl) units
services (suc (suc zero)) = just PutId
services (suc (suc (suc zero))) = variant (λ u. Gather u.0 u.1.0 u.1.1) units_of (λ _. refl) units
services (suc (suc (suc (suc zero)))) = variant (λ u. Disk u.0 u.1.0 u.1.1) units_of (λ _. refl) units
services (suc (suc (suc (suc (suc zero))))) = just Flush
services (suc (suc (suc (suc (suc (suc zero)))))) =
    variant (λ s. Status s.0 s.1) status_of (λ _. refl) (byte & number32)
services (suc (suc (suc (suc (suc (suc (suc n))))))) = nothing

pub service_code-is : (code : ℕ) (s : ServiceStage) → (services code).Fits s → code ≡ service_code s
service_code-is zero s fits = sym (ap service_code fits.0)
service_code-is (suc zero) s fits = sym (ap service_code fits.0)
service_code-is (suc (suc zero)) s fits = sym (ap service_code fits)
service_code-is (suc (suc (suc zero))) s fits = sym (ap service_code fits.0)
service_code-is (suc (suc (suc (suc zero)))) s fits = sym (ap service_code fits.0)
service_code-is (suc (suc (suc (suc (suc zero))))) s fits = sym (ap service_code fits)
service_code-is (suc (suc (suc (suc (suc (suc zero)))))) s fits = sym (ap service_code fits.0)
service_code-is (suc (suc (suc (suc (suc (suc (suc n))))))) s fits = absurd fits

unfoldable pub service : Format ServiceStage
service = chosen_by byte services service_code service_code-is
