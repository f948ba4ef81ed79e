-- What the work of a vsock device comes to, or wants next.
use Rattle.std.proofs.Common.{◌≡◌, ℕ, ◌<◌, ◌≤◌, ◌==◌, ◌-◌, nat_le, nat_lt, Bool, true, false, if◌then◌else◌, refl, Option, List, [], ◌∷◌, length, take, Some, ap, sym, ◌∙◌, arith}
use Rattle.std.proofs.lemmas.Bool.{eq-eqb, le-leb, le-ltb, lt-ltb}
use Rattle.vm_types.specs.declared.op.Op.TheVariants.{Out, Read, Write}
use Rattle.vm_types.specs.declared.op.OutOp.TheVariants.{HostSend}
use Rattle.device_trace.specs.Doing.{led}
use Rattle.vq_split.specs.declared.queue.Part.{Part}
use Rattle.dev_core.specs.declared.collect.Collect.{Collect}
use Rattle.dev_core.specs.Collecting.{collect_left}
use Rattle.dev_core.specs.Pieces.{collect_all, place, put_all, room, share, total}
use Rattle.queue_device.specs.Acting.{Acting, Acts, Comes, performing}
use Rattle.queue_device.specs.Chains.{got_of}
use Rattle.queue_device.specs.declared.spill.Spill.{Spill}
use Rattle.queue_device.specs.Spilling.{spill_left}
use Rattle.queue_device.proofs.Acting.{performing_acts}
use Rattle.queue_device.proofs.Pieces.{collect_asks, put_asks}
use Rattle.vsock_device.specs.declared.data.Vsock.{Vsock}
use Rattle.vsock_device.specs.Guest.{ignored, judged, packet_read, passed, passing, read_by, transmitted}
use Rattle.vsock_device.specs.Vsock.{event_told, told, transport_reset}
use Rattle.vsock_packet.specs.declared.header.Header.{Header}
use Rattle.vsock_packet.specs.Header.{header_of}

if_else : {A : Type 0} (test : Bool) (x w : A) → test ≡ false → (if test then x else w) ≡ w
if_else test x w is = rw is refl

if_then : {A : Type 0} (test : Bool) (x w : A) → test ≡ true → (if test then x else w) ≡ x
if_then test x w is = rw is refl

-- ---- bytes that are written

pub spills : (spill : Spill) (e : Vsock) (more : Vsock → List Part → Acting Vsock (Option ℕ)) → 0 < share spill.held spill.to
    → performing (spill_left spill) e more
    ≡ Acts e (Write (place spill.to) (take (share spill.held spill.to) spill.held))
    (λ f reply. performing (led (spill_left spill) reply) f more)
spills spill e more some = performing_acts (put_all spill.held spill.to) e more _ (put_asks spill.held spill.to some)

-- ---- a header that is read

pub fetches : (from : Collect) (len : ℕ) (e : Vsock) → length from.held < 44 → 0 < room from.from
    → performing (collect_left 44 from) e (packet_read len)
    ≡ Acts e (Read (place from.from) (room from.from))
    (λ f reply. performing (led (collect_left 44 from) reply) f (packet_read len))
fetches from len e short some = performing_acts (collect_left 44 from) e (packet_read len) _ (collect_asks 44 from short some)

-- ---- bytes for the host

pub passes_none : (host : ℕ) (piece : List ℕ) (e : Vsock) (more : Vsock → Acting Vsock (Option ℕ)) → length piece ≡ 0
    → passing host piece e more ≡ more e
passes_none host [] e more none = refl
passes_none host (b ∷ bytes) e more none = absurd (omega (arith, none))

pub passes : (host : ℕ) (piece : List ℕ) (e : Vsock) (more : Vsock → Acting Vsock (Option ℕ)) → (length piece == 0) ≡ false
    → passing host piece e more ≡ Acts e (Out (HostSend piece host)) (λ f reply. passed reply host (length piece) f more)
passes host [] e more some = absurd (cc)
passes host (b ∷ bytes) e more some = refl

-- ---- chains

-- all is there that the guest is to be told
pub told_in : (held : List ℕ) (to parts : List Part) (e : Vsock) (n : ℕ) → held ≡ transport_reset → n ≡ total parts → parts ≡ to
    → 4 ≤ n → event_told to e ≡ performing (put_all held to) e (λ f left. Comes (told f) (Some 4))
told_in held to parts e n text sum same long =
    if_then (nat_le 4 (total to)) _ _ (le-leb _ _ (omega (arith, long, sum, ap total same)))
    ∙ ap (λ (h : List ℕ). performing (put_all h to) e (λ f left. Comes (told f) (Some 4))) (sym text)

-- a chain that is shorter than a header
pub short_chain : (to parts : List Part) (e : Vsock) (n : ℕ) → n ≡ total parts → parts ≡ to → n < 44
    → transmitted to e ≡ ignored e
short_chain to parts e n sum same short =
    if_then (nat_lt (total to) 44) _ _ (lt-ltb _ _ (omega (arith, short, sum, ap total same)))

-- and one that has one
pub long_chain : (to parts : List Part) (from : Collect) (e : Vsock) (n : ℕ) → from ≡ record { from = to; held = [] }
    → n ≡ total parts → parts ≡ to → 44 ≤ n
    → transmitted to e ≡ performing (collect_left 44 from) e (packet_read (n - 44))
long_chain to parts from e n new sum same long =
    if_else (nat_lt (total to) 44) _ _ (le-ltb _ _ (omega (arith, long, sum, ap total same)))
    ∙ ap (λ (m : ℕ). performing (collect_all 44 [] to) e (packet_read (m - 44))) (ap total (sym same) ∙ sym sum)
    ∙ ap (λ (c : Collect). performing (collect_left 44 c) e (packet_read (n - 44))) (sym new)

-- a packet is judged once its header came
pub judged_now : (len : ℕ) (h : Header) (from : Collect) (e : Vsock) → 44 ≤ length from.held → h ≡ header_of (take 44 from.held)
    → h.len ≡ len → packet_read len e (got_of from) ≡ judged h (got_of from) e
judged_now len h from e long read whole =
    if_else (nat_lt (length from.held) 44) _ _ (le-ltb _ _ long)
    ∙ ap (λ (x : Header). read_by len x (got_of from) e) (sym read)
    ∙ if_then (h.len == len) _ _ (eq-eqb _ _ whole)
