-- A frame on its way between a link and a chain (VIRTIO 1.2, 5.1.6).
use Rattle.std.specs.Prelude.{ℕ, zero, suc, ◌+◌, ◌-◌, ◌*◌, ◌/◌, ◌==◌, nat_le, nat_lt, ◌&&◌, min, Bool, true, false, if◌then◌else◌, Option, Some, None, List, [], ◌∷◌, ◌++◌, drop, length, take}
use Rattle.std.specs.Str.{bytes_eq}
use Rattle.vm_types.specs.declared.op.Op.TheVariants.{Read, Out}
use Rattle.vm_types.specs.declared.op.OutOp.TheVariants.{LinkPart, LinkSend, LinkEnd}
use Rattle.vm_types.specs.declared.reply.Reply.{Reply}
use Rattle.vm_types.specs.declared.reply.Reply.TheVariants.{Bytes, Done}
use Rattle.device_trace.specs.Doing.{Doing, Gives, Wants}
use Rattle.vq_split.specs.declared.queue.Part.{Part}
use Rattle.vq_split.specs.Chain.{read_bytes}
use Rattle.dev_core.specs.Pieces.{past, place, readable, room, total}

-- The header of a frame for the driver (5.1.6.1): no flags, no GSO, no lengths and no checksum, ten zeros, and num_buffers 1.
abbrev pub header : List ℕ
header = 0 ∷ 0 ∷ 0 ∷ 0 ∷ 0 ∷ 0 ∷ 0 ∷ 0 ∷ 0 ∷ 0 ∷ 1 ∷ 0 ∷ []

-- its length, which that of a frame to be transmitted has too; what stands in that one isn't looked at
abbrev pub header_size : ℕ
header_size = 12

-- an Ethernet frame without its check sequence: at least a header, and at most 1,500 bytes behind it
abbrev pub is_frame : ℕ → Bool
is_frame length = nat_le 14 length && nat_le length 1514

-- a text for the driver, as far as it came: no byte, or the header and what came of a frame
abbrev pub is_headed : List ℕ → Bool
is_headed bytes = if nat_lt (length bytes) header_size then length bytes == 0 else bytes_eq (take header_size bytes) header

-- and what came is no longer than a frame
abbrev pub is_text : List ℕ → Bool
is_text bytes = nat_le (length bytes) 1526 && is_headed bytes

-- ---- from the link

-- how many pieces of 64 bytes a frame has, the last one shorter
abbrev pub pieces : ℕ → ℕ
pieces length = (length + 63) / 64

-- how long the piece of this number is
abbrev pub piece_length : ℕ → ℕ → ℕ
piece_length length index = min 64 (length - 64 * index)

abbrev pub piece_of : Reply → Option (List ℕ)
piece_of (Bytes piece) = Some piece
piece_of reply = None

abbrev pub with_piece : Option (List ℕ) → (List ℕ → Doing (Option (List ℕ))) → Doing (Option (List ℕ))
with_piece None more = Gives None
with_piece (Some piece) more = more piece

-- So many pieces of a frame of this length are still to be taken, from this number on, behind these bytes. Where one fails the
-- frame is gone, and no further one is asked for.
abbrev pub taking : ℕ → ℕ → ℕ → List ℕ → Doing (Option (List ℕ))
taking zero length index bytes = Gives (Some bytes)
taking (suc left) length index bytes =
    Wants (Out (LinkPart index (piece_length length index))) (λ reply.
    with_piece (piece_of reply) (λ piece. taking left length (suc index) (bytes ++ piece)))

-- a frame of this length, behind its header
abbrev pub taken_frame : ℕ → Doing (Option (List ℕ))
taken_frame length = taking (pieces length) length 0 header

-- ---- to the link

-- the frame of a chain to be transmitted is all that can be read of it, less the header; a shorter chain has none
abbrev pub sent_length : List Part → ℕ
sent_length parts = total (readable parts) - header_size

abbrev pub is_done : Reply → Bool
is_done Done = true
is_done reply = false

-- a piece is sent, unless no byte of it is the frame's; where that fails nothing more is read or sent
abbrev pub piece_sent : List ℕ → Doing (Unit {0}) → Doing (Unit {0})
piece_sent [] rest = rest
piece_sent (b ∷ bytes) rest = Wants (Out (LinkSend (b ∷ bytes))) (λ reply. if is_done reply then rest else Gives tt)

-- The parts are read in pieces, of which the first bytes are passed over, and each is sent before the next is read; then the
-- frame is ended. At most so many pieces.
abbrev pub sending : ℕ → ℕ → List Part → Doing (Unit {0})
sending zero skip parts = Gives tt
sending (suc most) skip parts =
    if room parts == 0 then Wants (Out LinkEnd) (λ reply. Gives tt)
    else Wants (Read (place parts) (room parts)) (λ reply.
    piece_sent (drop skip (read_bytes (room parts) reply)) (sending most (skip - room parts) (past (room parts) parts)))

-- all of them
abbrev pub sending_all : ℕ → List Part → Doing (Unit {0})
sending_all skip parts = sending (suc (total parts)) skip parts
