-- A slot of a memory file's header: 32 bytes.
use Rattle.std.specs.Prelude.{◌==◌, ◌&&◌, Bool, refl}
use Rattle.file_format.specs.Format.{Format}
use Rattle.file_format.specs.Kinds.{byte, zeros, ◌&◌, made_of}
use Rattle.file_format.specs.Identities.{identity}
use Rattle.snap_memory.specs.declared.slot.Slot.{Slot}

-- an identity, the slot's gate, and 15 zeros
unfoldable pub slot : Format Slot
slot =
    made_of (λ s. (s.identity, (s.gate, tt)))
    (λ (identity, (gate, _)). record { identity = identity; gate = gate })
    (λ _. refl) (λ _. refl)
    (identity & byte & zeros 15)

-- it counts where its gate is 1
abbrev pub is_open : Slot → Bool
is_open s = s.gate == 1

-- all its bytes are zeros
abbrev pub is_zero : Slot → Bool
is_zero s = (s.identity.lineage == 0) && (s.identity.number == 0) && (s.gate == 0)
