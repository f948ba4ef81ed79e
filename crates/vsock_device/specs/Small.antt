-- The widths of what a vsock device keeps.
use Rattle.std.specs.Prelude.{ℕ, ◌≡◌, ◌^◌, ◌<◌, ◌≤◌, Bool, true, Option, IfSome, List, length}
use Rattle.std.specs.List.{All}
use Rattle.le_fields.specs.Fields.{IsByte}
use Rattle.queue_device.specs.declared.phase.Work.{Work}
use Rattle.queue_device.specs.Left.{Hand}
use Rattle.vsock_packet.specs.Header.{Fits}
use Rattle.vsock_device.specs.declared.connection.Connection.{Connection}
use Rattle.vsock_device.specs.declared.data.InHand.{InHand}
use Rattle.vsock_device.specs.declared.data.InHand.TheVariants as hand
use Rattle.vsock_device.specs.declared.data.Vsock.{Vsock}
use Rattle.vsock_device.specs.declared.kind.Stage.{Stage}
use Rattle.vsock_device.specs.declared.kind.Stage.TheVariants as stage
use Rattle.vsock_device.specs.declared.packet.Head.{Head}
use Rattle.vsock_device.specs.declared.packet.HostBytes.{HostBytes}
use Rattle.vsock_device.specs.declared.packet.Packet.{Packet}
use Rattle.vsock_device.specs.Work.{hand_of, is_work}

-- at most 64 bytes
abbrev pub IsSmallPiece : List ℕ → Type 0
IsSmallPiece bytes = (length bytes ≤ 64) × All IsByte bytes

-- at most 128
abbrev pub IsShortBytes : List ℕ → Type 0
IsShortBytes bytes = (length bytes ≤ 128) × All IsByte bytes

-- ---- its data

pub record IsSmallHead (head : Head) : Type 0 where
  pub host_port : head.host_port < 2 ^ 32
  pub guest_port : head.guest_port < 2 ^ 32
  pub fwd_cnt : head.fwd_cnt < 2 ^ 32

abbrev pub IsSmallAnswer : Option Head → Type 0
IsSmallAnswer answer = IfSome answer IsSmallHead

pub record IsSmallPacket (p : Packet) : Type 0 where
  pub head : IsSmallHead p.head
  pub bytes : IsSmallPiece p.bytes

abbrev pub IsSmallHand : InHand → Type 0
IsSmallHand (hand.Receives p) = IsSmallPacket p
IsSmallHand (hand.Judged refusal) = IsSmallAnswer refusal
IsSmallHand in_hand = Unit {0}

-- of a connection, all that is told of it, and its number
pub record IsSmallConnection (c : Connection) : Type 0 where
  pub host : c.host < 2 ^ 32
  pub host_port : c.host_port < 2 ^ 32
  pub guest_port : c.guest_port < 2 ^ 32
  pub fwd_cnt : c.fwd_cnt < 2 ^ 32

abbrev pub IsSmallHeld : Option HostBytes → Type 0
IsSmallHeld held = IfSome held (λ (b : HostBytes). IsSmallPiece b.bytes)

pub record IsSmallData (e : Vsock) : Type 0 where
  pub guest_cid : e.guest_cid < 2 ^ 64
  pub next_port : e.next_port < 2 ^ 32
  pub connections : All IsSmallConnection e.connections
  pub answer : IsSmallAnswer e.answer
  pub held : IsSmallHeld e.held
  pub in_hand : IsSmallHand e.in_hand

abbrev pub IsSizedData : Bool → Vsock → Type 0
IsSizedData sized e = sized ≡ true → IsSmallData e

-- ---- what it is at

abbrev pub IsSmallStage : Stage → Type 0
IsSmallStage stage.Rest = Unit {0}
IsSmallStage (stage.Close host) = host < 2 ^ 32
IsSmallStage (stage.Deliver spill len) = IsShortBytes spill.held × (len < 2 ^ 32)
IsSmallStage (stage.Event spill) = IsShortBytes spill.held
IsSmallStage (stage.Fetch from len) = All IsByte from.held × (len < 2 ^ 64)
IsSmallStage (stage.Dial header) = Fits header
IsSmallStage (stage.Accept host line) = (host < 2 ^ 32) × IsSmallPiece line
IsSmallStage (stage.Send host piece from) = (host < 2 ^ 32) × IsSmallPiece piece
IsSmallStage (stage.Read host from) = host < 2 ^ 32

-- what it is at, which is small where each reply was, `sized`
pub record SizedStage (sized : Bool) : Type 0 where
  pub stage : Stage
  pub small : sized ≡ true → IsSmallStage stage

abbrev pub sized_hand : (sized : Bool) → SizedStage sized → Hand Vsock
sized_hand sized g = hand_of g.stage

abbrev pub is_sized_work : (sized : Bool) → Work → ℕ → SizedStage sized → Bool
is_sized_work sized w pages g = is_work w pages g.stage
