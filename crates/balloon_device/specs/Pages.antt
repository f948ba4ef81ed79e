-- Inflating: the pages whose numbers a chain lists are zeroed (VIRTIO 1.2, 5.5.6).
use Rattle.std.specs.Prelude.{ℕ, zero, suc, ◌+◌, ◌*◌, ◌/◌, if◌then◌else◌, List, [], ◌++◌, length, drop, replicate}
use Rattle.vm_types.specs.declared.op.Op.TheVariants.{Write}
use Rattle.device_trace.specs.Doing.{Doing, Gives, Wants, and_then}
use Rattle.le_fields.specs.Fields.{field_at}
use Rattle.guest_memory.specs.Ram.{page_size}
use Rattle.vq_split.specs.declared.queue.Part.{Part}
use Rattle.vq_split.specs.Chain.{is_inside}
use Rattle.balloon_device.specs.Pieces.{read_all}

-- so many acts, each of which writes 64 zeros, from an address on
abbrev pub zeros : ℕ → ℕ → Doing (Unit {0})
zeros zero at = Gives tt
zeros (suc count) at = Wants (Write at (replicate 64 0)) (λ reply. zeros count (at + 64))

-- the page of this number, which counts from the guest's address 0 on; one that isn't RAM is skipped
abbrev pub page_zeroed : ℕ → ℕ → Doing (Unit {0})
page_zeroed pages number =
    if is_inside pages (page_size * number) page_size then zeros 64 (page_size * number) else Gives tt

-- so many numbers of 4 bytes, one after another, and the bytes behind them
abbrev pub numbers_zeroed : ℕ → ℕ → List ℕ → Doing (List ℕ)
numbers_zeroed pages zero bytes = Gives bytes
numbers_zeroed pages (suc count) bytes =
    and_then (page_zeroed pages (field_at bytes 0 4)) (λ done. numbers_zeroed pages count (drop 4 bytes))

-- all whole numbers; fewer than 4 bytes are left, with which the next number begins
abbrev pub all_zeroed : ℕ → List ℕ → Doing (List ℕ)
all_zeroed pages bytes = numbers_zeroed pages (length bytes / 4) bytes

-- a list of pages: those whose numbers end in a piece are zeroed before the next piece is read
abbrev pub inflated : ℕ → List Part → Doing (List ℕ)
inflated pages parts = read_all (λ begun piece. all_zeroed pages (begun ++ piece)) [] parts
