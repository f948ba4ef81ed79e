-- A port in the fields of a file: each number that a port keeps fits its own.
use Rattle.std.proofs.Common.{refl, arith}
use Rattle.file_format.specs.Kinds.{byte}
use Rattle.file_format.proofs.Fitting.{every, fits8, fits32, fits64, fits_flag, fits_times}
use Rattle.le_fields.specs.Fields.{IsByte}
use Rattle.port_table.specs.declared.kind.DeviceKind.{DeviceKind}
use Rattle.port_table.specs.declared.kind.DeviceKind.TheVariants.{Net, Block, Balloon, Vsock, Entropy}
use Rattle.port_table.specs.declared.state.PortQueue.{PortQueue}
use Rattle.port_table.specs.declared.state.PortState.{PortState}
use Rattle.port_table.specs.Sizes.{IsKept, IsSized, IsSizedQueue}
use Rattle.snap_devices.specs.Ports.{kind, port, port_fields, port_queue}

kind_fits : (k : DeviceKind) → kind.Fits k
unfolding kind
kind_fits Net = (fits8 0 (omega arith), refl)
kind_fits Block = (fits8 1 (omega arith), refl)
kind_fits Balloon = (fits8 2 (omega arith), refl)
kind_fits Vsock = (fits8 3 (omega arith), refl)
kind_fits Entropy = (fits8 4 (omega arith), refl)

queue_fits : (q : PortQueue) → IsSizedQueue q → port_queue.Fits q
unfolding port_queue
queue_fits q is = (
  fits64 q.descriptors is.descriptors,
  (fits64 q.available is.available, (fits64 q.used is.used, (fits32 q.size is.size, (fits32 q.ready is.ready, fits_flag q.is_kicked)))),
)

fields_fit : (p : PortState) → IsSized p → port_fields.Fits p
unfolding port_fields
fields_fit p is = (
  (
    kind_fits p.kind,
    (
      fits64 p.offered is.offered,
      (
        fits64 p.accepted is.accepted,
        (fits32 p.offered_select is.offered_select, (fits32 p.accepted_select is.accepted_select, fits32 p.queue_select is.queue_select)),
      ),
    ),
  ),
  (
    fits32 p.interrupt_status is.interrupt_status,
    (
      fits32 p.status is.status,
      (
        fits32 p.config_generation is.config_generation,
        (
          fits_flag p.is_reset_asked,
          (
            fits_times port_queue 3 p.queues is.many_queues (every IsSizedQueue port_queue.Fits p.queues queue_fits is.queues),
            fits_times byte 8 p.config is.many_bytes (every IsByte byte.Fits p.config fits8 is.bytes),
          ),
        ),
      ),
    ),
  ),
)

-- a port of some kind
pub port_fits : (own : DeviceKind) (p : PortState) → IsKept own p → port.Fits p
unfolding port
port_fits own p is = (fields_fit p is.sized, is.state)
