-- What a vsock device writes are bytes where each reply was small; and a Reset leaves its data so, and what it leaves out is small.
use Rattle.std.proofs.Common.{◌≡◌, true, subst, Some}
use Rattle.std.proofs.lemmas.List.Elements.{All-take}
use Rattle.vm_types.specs.declared.op.Op.{Op}
use Rattle.vm_types.specs.declared.op.Op.TheVariants.{Out, Read}
use Rattle.vm_types.specs.declared.op.OutOp.{OutOp}
use Rattle.vm_types.specs.declared.op.OutOp.TheVariants.{HostClose, HostDial, HostSend}
use Rattle.vm_types.specs.declared.reply.Reply.{Reply}
use Rattle.vm_types.specs.declared.reply.Reply.TheVariants.{AccessFault, Failed}
use Rattle.le_fields.specs.Fields.{IsByte}
use Rattle.dev_core.specs.Pieces.{share}
use Rattle.queue_device.specs.Sizes.{IsSmallReply, IsSmallWrite}
use Rattle.vsock_device.specs.declared.data.InHand.{InHand}
use Rattle.vsock_device.specs.declared.data.InHand.TheVariants as hand
use Rattle.vsock_device.specs.declared.data.Vsock.{Vsock}
use Rattle.vsock_device.specs.declared.kind.Stage.{Stage}
use Rattle.vsock_device.specs.declared.kind.Stage.TheVariants as stage
use Rattle.vsock_device.specs.Reset.{act_cut, call_cut, cut_by, reset}
use Rattle.vsock_device.specs.Small.{IsSizedData, IsSmallStage}
use Rattle.vsock_device.specs.Work.{op_of}
use Rattle.vsock_device.proofs.Small.{reset_small}

pub acts_small : (s : Stage) → IsSmallStage s → IsSmallWrite (op_of s)
acts_small stage.Rest small = tt
acts_small (stage.Close host) small = tt
acts_small (stage.Deliver spill len) small = All-take IsByte (share spill.held spill.to) spill.held small.0.1
acts_small (stage.Event spill) small = All-take IsByte (share spill.held spill.to) spill.held small.1
acts_small (stage.Fetch from len) small = tt
acts_small (stage.Dial header) small = tt
acts_small (stage.Accept host line) small = tt
acts_small (stage.Send host piece from) small = tt
acts_small (stage.Read host from) small = tt

pub reset_sized : (e : Vsock) → IsSizedData true e → IsSizedData true (reset e)
reset_sized e was = λ yes. reset_small e (was yes)

-- ---- what a reset leaves out

call_small : (call : OutOp) (reply : Reply) → call_cut call ≡ Some reply → IsSmallReply reply
call_small (HostDial port) reply is = let same : Failed ≡ reply = cc in subst IsSmallReply same tt
call_small (HostSend bytes host) reply is = let same : Failed ≡ reply = cc in subst IsSmallReply same tt
call_small (HostClose host) reply is = let same : Failed ≡ reply = cc in subst IsSmallReply same tt
call_small call reply is = absurd (cc)

act_small : (op : Op) (reply : Reply) → act_cut op ≡ Some reply → IsSmallReply reply
act_small (Out call) reply is = call_small call reply is
act_small (Read at len) reply is = let same : AccessFault ≡ reply = cc in subst IsSmallReply same tt
act_small op reply is = absurd (cc)

pub cut_small : (in_hand : InHand) (op : Op) (reply : Reply) → cut_by in_hand op ≡ Some reply → IsSmallReply reply
cut_small (hand.Judged refusal) op reply is = act_small op reply is
cut_small in_hand op reply is = absurd (cc)
