-- How many bytes a port has.
use Rattle.std.proofs.Common.{◌≡◌, ℕ, suc, ◌+◌, Bool, true, false, List, [], ◌∷◌, ◌++◌, length, refl, ap, ◌∙◌, arith, length-append}
use Rattle.std.specs.List.{flat_map}
use Rattle.file_format.specs.Kinds.{byte, flag, number32, number64, times}
use Rattle.port_table.specs.declared.kind.DeviceKind.{DeviceKind}
use Rattle.port_table.specs.declared.kind.DeviceKind.TheVariants.{Net, Block, Balloon, Vsock, Entropy}
use Rattle.port_table.specs.declared.state.PortQueue.{PortQueue}
use Rattle.port_table.specs.declared.state.PortState.{PortState}
use Rattle.snap_devices.specs.Ports.{kind, port, port_fields, port_queue}

both : (xs ys : List ℕ) (n m : ℕ) → length xs ≡ n → length ys ≡ m → length (xs ++ ys) ≡ n + m
both xs ys n m a b = omega (arith, length-append xs ys, a, b)

kind_long : (k : DeviceKind) → length (kind.bytes k) ≡ 1
unfolding kind byte
kind_long Net = refl
kind_long Block = refl
kind_long Balloon = refl
kind_long Vsock = refl
kind_long Entropy = refl

flag_long : (b : Bool) → length (flag.bytes b) ≡ 1
unfolding flag
flag_long true = refl
flag_long false = refl

long32 : (n : ℕ) → length (number32.bytes n) ≡ 4
unfolding number32
long32 n = refl

long64 : (n : ℕ) → length (number64.bytes n) ≡ 8
unfolding number64
long64 n = refl

queue_long : (q : PortQueue) → length (port_queue.bytes q) ≡ 33
unfolding port_queue
queue_long q =
    both _ _ 8 25 (long64 q.descriptors)
    (both _ _ 8 17 (long64 q.available)
    (both _ _ 8 9 (long64 q.used)
    (both _ _ 4 5 (long32 q.size) (both _ _ 4 1 (long32 q.ready) (flag_long q.is_kicked)))))

queues_long : (qs : List PortQueue) → length qs ≡ 3 → length (flat_map port_queue.bytes qs) ≡ 99
queues_long [] long = cc
queues_long (a ∷ []) long = cc
queues_long (a ∷ b ∷ []) long = cc
queues_long (a ∷ b ∷ c ∷ []) long =
    both _ _ 33 66 (queue_long a) (both _ _ 33 33 (queue_long b) (both _ _ 33 0 (queue_long c) refl))
queues_long (a ∷ b ∷ c ∷ d ∷ qs) long = absurd (omega (arith, long))

bytes_long : (bs : List ℕ) → length (flat_map byte.bytes bs) ≡ length bs
unfolding byte
bytes_long [] = refl
bytes_long (b ∷ bs) = ap suc (bytes_long bs)

fields_long : (p : PortState) → port_fields.Fits p → length (port_fields.bytes p) ≡ 149
unfolding port_fields times
fields_long p fits =
    both _ _ 29 120
    (both _ _ 1 28 (kind_long p.kind)
    (both _ _ 8 20 (long64 p.offered)
    (both _ _ 8 12 (long64 p.accepted)
    (both _ _ 4 8 (long32 p.offered_select) (both _ _ 4 4 (long32 p.accepted_select) (long32 p.queue_select))))))
    (both _ _ 4 116 (long32 p.interrupt_status)
    (both _ _ 4 112 (long32 p.status)
    (both _ _ 4 108 (long32 p.config_generation)
    (both _ _ 1 107 (flag_long p.is_reset_asked)
    (both _ _ 99 8 (queues_long p.queues fits.1.1.1.1.1.0.0)
    (bytes_long p.config ∙ fits.1.1.1.1.1.1.0))))))

pub port_long : (p : PortState) → port.Fits p → length (port.bytes p) ≡ 149
unfolding port
port_long p fits = fields_long p fits.0
