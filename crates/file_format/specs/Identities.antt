-- What names a snapshot, as files have it.
use Rattle.std.specs.Prelude.{◌==◌, ◌&&◌, nat_lt, Bool, refl}
use Rattle.vm_types.specs.declared.identity.Identity.{Identity}
use Rattle.file_format.specs.Format.{Format}
use Rattle.file_format.specs.Kinds.{number64, ◌&◌, made_of}

-- the lineage, and the number
unfoldable pub identity : Format Identity
identity =
    made_of (λ i. (i.lineage, i.number)) (λ (lineage, number). record { lineage = lineage; number = number })
    (λ _. refl) (λ _. refl)
    (number64 & number64)

-- numbers are from 1 to below 2^63
abbrev pub is_numbered : Identity → Bool
is_numbered i = nat_lt 0 i.number && nat_lt i.number 0x8000_0000_0000_0000

-- they name one snapshot
abbrev pub is_same : Identity → Identity → Bool
is_same a b = (a.lineage == b.lineage) && (a.number == b.number)
