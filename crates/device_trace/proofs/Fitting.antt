-- Each act may be answered.
use Rattle.std.proofs.Common.{◌≡◌, refl, true, false}
use Rattle.vm_types.specs.declared.op.Op.{Op}
use Rattle.vm_types.specs.declared.op.BoardOp.{BoardOp}
use Rattle.vm_types.specs.declared.op.BoardOp.TheVariants as board
use Rattle.vm_types.specs.declared.op.PortOp.{PortOp}
use Rattle.vm_types.specs.declared.op.PortOp.TheVariants as port
use Rattle.vm_types.specs.declared.op.OutOp.{OutOp}
use Rattle.vm_types.specs.declared.op.OutOp.TheVariants as out
use Rattle.vm_types.specs.declared.reply.Reply.{Reply}
use Rattle.vm_types.specs.declared.reply.Shown.TheVariants.{Stopped}
use Rattle.vm_types.specs.declared.port_look.QueueShown.{QueueShown}
use Rattle.vm_types.specs.Fits.{board_fits, port_fits, out_fits, Fits}

fits_board : (act : BoardOp) → (reply : Reply) × (board_fits act reply ≡ true)
fits_board board.Look = (Reply.Shown Stopped, refl)
fits_board (board.Putchar byte) = (Reply.Done, refl)
fits_board (board.Reset kind reason) = (Reply.Returned 0 0, refl)
fits_board board.Time = (Reply.Word 0, refl)
fits_board (board.SoftwarePending clear set) = (Reply.Word 0, refl)
fits_board (board.SetTimer deadline) = (Reply.Done, refl)
fits_board (board.SendIpi mask base) = (Reply.Returned 0 0, refl)
fits_board (board.StartHart hart pc word) = (Reply.Returned 0 0, refl)
fits_board board.StopHart = (Reply.Done, refl)
fits_board (board.HartStatus hart) = (Reply.Returned 0 0, refl)
fits_board board.RaiseLine = (Reply.Done, refl)
fits_board (board.Advance nanoseconds) = (Reply.Done, refl)

abbrev no_queue : QueueShown
no_queue = record { descriptors = 0; available = 0; used = 0; size = 0; is_ready = false; is_kicked = false }

fits_port : (act : PortOp) → (reply : Reply) × (port_fits act reply ≡ true)
fits_port port.Look = (
  Reply.Port (record { first = no_queue; second = no_queue; third = no_queue; accepted = record { indirect = false; event_index = false }; status = 0; was_reset = false }),
  refl,
)
fits_port (port.Interrupt causes) = (Reply.Done, refl)
fits_port port.Break = (Reply.Word 0, refl)

fits_out : (act : OutOp) → (reply : Reply) × (out_fits act reply ≡ true)
fits_out out.Clock = (Reply.Word 0, refl)
fits_out act = (Reply.Failed, refl)

pub some_fit : (op : Op) → (reply : Reply) × Fits op reply
some_fit (Op.Read at len) = (Reply.AccessFault, refl)
some_fit (Op.Write at piece) = (Reply.Done, refl)
some_fit (Op.Amo at value kind wide) = (Reply.Word 0, refl)
some_fit (Op.Lr at wide) = (Reply.Word 0, refl)
some_fit (Op.Sc at value wide) = (Reply.Word 0, refl)
some_fit (Op.Port port act) = fits_port act
some_fit (Op.Board act) = fits_board act
some_fit (Op.Out act) = fits_out act
some_fit Op.Idle = (Reply.Done, refl)
