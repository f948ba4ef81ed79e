-- A port of this kind, each field of which has its width.
use Rattle.std.specs.Prelude.{ℕ, ◌≡◌, ◌<◌, ◌^◌, true, length}
use Rattle.std.specs.List.{All}
use Rattle.vm_types.specs.declared.op.Op.{Op}
use Rattle.vm_types.specs.declared.reply.Reply.{Reply}
use Rattle.le_fields.specs.Fields.{IsByte}
use Rattle.port_table.specs.declared.kind.DeviceKind.{DeviceKind}
use Rattle.port_table.specs.declared.state.PortQueue.{PortQueue}
use Rattle.port_table.specs.declared.state.PortState.{PortState}
use Rattle.port_table.specs.Kept.{is_state}

abbrev pub IsWord : ℕ → Type 0
IsWord n = n < 2 ^ 32

abbrev pub IsDouble : ℕ → Type 0
IsDouble n = n < 2 ^ 64

pub record IsSizedQueue (q : PortQueue) : Type 0 where
  pub descriptors : IsDouble q.descriptors
  pub available : IsDouble q.available
  pub used : IsDouble q.used
  pub size : IsWord q.size
  pub ready : IsWord q.ready

pub record IsSized (p : PortState) : Type 0 where
  pub offered : IsDouble p.offered
  pub accepted : IsDouble p.accepted
  pub offered_select : IsWord p.offered_select
  pub accepted_select : IsWord p.accepted_select
  pub queue_select : IsWord p.queue_select
  pub interrupt_status : IsWord p.interrupt_status
  pub status : IsWord p.status
  pub config_generation : IsWord p.config_generation
  pub many_queues : length p.queues ≡ 3
  pub queues : All IsSizedQueue p.queues
  pub many_bytes : length p.config ≡ 8
  pub bytes : All IsByte p.config

-- the ports of devices of this kind that a state file can have
pub record IsKept (kind : DeviceKind) (p : PortState) : Type 0 where
  pub kind_is : p.kind ≡ kind
  pub state : is_state p ≡ true
  pub sized : IsSized p

-- a guest writes bytes, and is shown bytes
abbrev pub IsSmallOp : Op → Type 0
IsSmallOp (Op.Write at piece) = All IsByte piece
IsSmallOp op = Unit {0}

abbrev pub IsSmallReply : Reply → Type 0
IsSmallReply (Reply.Bytes piece) = All IsByte piece
IsSmallReply (Reply.Word value) = value < 2 ^ 64
IsSmallReply reply = Unit {0}
