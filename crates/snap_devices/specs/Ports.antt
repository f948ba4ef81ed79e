-- A port as bytes: 149 of them. Numbers are little-endian.
use Rattle.std.specs.Prelude.{◌≡◌, ℕ, zero, suc, refl}
use Rattle.std.proofs.Common.{sym, ap}
use Rattle.file_format.specs.Format.{Format}
use Rattle.file_format.specs.Kinds.{byte, number32, number64, flag, times, just, nothing, chosen_by, passing}
use Rattle.file_format.specs.Kinds.{◌&◌, made_of}
use Rattle.port_table.specs.declared.kind.DeviceKind.{DeviceKind}
use Rattle.port_table.specs.declared.kind.DeviceKind.TheVariants.{Net, Block, Balloon, Vsock, Entropy}
use Rattle.port_table.specs.declared.state.PortQueue.{PortQueue}
use Rattle.port_table.specs.declared.state.PortState.{PortState}
use Rattle.port_table.specs.Kept.{is_state}

-- ---- the kind of its device: a byte

abbrev pub kind_code : DeviceKind → ℕ
kind_code Net = 0
kind_code Block = 1
kind_code Balloon = 2
kind_code Vsock = 3
kind_code Entropy = 4

abbrev pub kinds : ℕ → Format DeviceKind
kinds zero = just Net
kinds (suc zero) = just Block
kinds (suc (suc zero)) = just Balloon
kinds (suc (suc (suc zero))) = just Vsock
kinds (suc (suc (suc (suc zero)))) = just Entropy
kinds (suc (suc (suc (suc (suc n))))) = nothing

pub kind_code-is : (code : ℕ) (k : DeviceKind) → (kinds code).Fits k → code ≡ kind_code k
kind_code-is zero k fits = sym (ap kind_code fits)
kind_code-is (suc zero) k fits = sym (ap kind_code fits)
kind_code-is (suc (suc zero)) k fits = sym (ap kind_code fits)
kind_code-is (suc (suc (suc zero))) k fits = sym (ap kind_code fits)
kind_code-is (suc (suc (suc (suc zero)))) k fits = sym (ap kind_code fits)
kind_code-is (suc (suc (suc (suc (suc n))))) k fits = absurd fits

unfoldable pub kind : Format DeviceKind
kind = chosen_by byte kinds kind_code kind_code-is

-- ---- a queue: 33 bytes

unfoldable pub port_queue : Format PortQueue
port_queue =
    made_of (λ q. (q.descriptors, (q.available, (q.used, (q.size, (q.ready, q.is_kicked))))))
    (λ (descriptors, (available, (used, (size, (ready, is_kicked))))).
    record {
      descriptors = descriptors;
      available = available;
      used = used;
      size = size;
      ready = ready;
      is_kicked = is_kicked;
    })
    (λ _. refl) (λ _. refl)
    (number64 & number64 & number64 & number32 & number32 & flag)

-- ---- the port

-- The kind; the features that are offered and those that were accepted; the selectors of both and of the queue;
-- InterruptStatus, Status and ConfigGeneration; whether a reset is asked; three queues; the configuration.
unfoldable pub port_fields : Format PortState
port_fields =
    made_of
    (λ p. (
      (p.kind, (p.offered, (p.accepted, (p.offered_select, (p.accepted_select, p.queue_select))))),
      (p.interrupt_status, (p.status, (p.config_generation, (p.is_reset_asked, (p.queues, p.config))))),
    ))
    (λ (
      (kind, (offered, (accepted, (offered_select, (accepted_select, queue_select))))),
      (interrupt_status, (status, (config_generation, (is_reset_asked, (queues, config))))),
    ).
    record {
      offered = offered;
      accepted = accepted;
      queues = queues;
      offered_select = offered_select;
      accepted_select = accepted_select;
      queue_select = queue_select;
      interrupt_status = interrupt_status;
      status = status;
      config_generation = config_generation;
      config = config;
      kind = kind;
      is_reset_asked = is_reset_asked;
    })
    (λ _. refl) (λ _. refl)
    ((kind & number64 & number64 & number32 & number32 & number32)
    & (number32 & number32 & number32 & flag & times 3 port_queue & times 8 byte))

-- of a state that a port may be in
unfoldable pub port : Format PortState
port = passing is_state port_fields
