-- All that the filler owes.
use Rattle.std.proofs.Common.{ℕ, ◌^◌, ◌<◌, ◌==◌, refl, inr, true, false, not, Option, List, [], replicate}
use Rattle.vm_types.specs.declared.op.Op.TheVariants.{Read, Write}
use Rattle.device_trace.specs.Acts.{IsAskedBy}
use Rattle.device_trace.specs.Traces.{setting}
use Rattle.device_trace.proofs.Keeping.{keeps_both}
use Rattle.device_trace.proofs.Leading.{no_cut}
use Rattle.vq_split.specs.declared.queue.Part.{Part}
use Rattle.vq_split.specs.Inside.{AreInside, IsInside}
use Rattle.dev_core.specs.Inside.{Any}
use Rattle.dev_core.specs.Pieces.{Got, collect_all, put_all, readable, total, writable}
use Rattle.dev_core.proofs.Asking.{collect_all_asks, put_all_asks}
use Rattle.dev_core.proofs.Inside.{collect_all_keeps, filter_inside, put_all_keeps}
use Rattle.queue_device.specs.declared.lanes.Which.{Which}
use Rattle.queue_device.specs.declared.lanes.Which.TheVariants.{First, Second, Third}
use Rattle.queue_device.specs.Acting.{ActingKeeps}
use Rattle.queue_device.specs.Chains.{Chain, Taken}
use Rattle.queue_device.specs.Confined.{Confines, IsChain, IsDeviceAct, IsTaken}
use Rattle.queue_device.proofs.Acting.{keeps_when, performing_keeps, keeps_either}
use Rattle.filler_device.specs.Filler.{Filler, filled, filler, limited, no_call, served_by, taken_by}

pub reads : (port at len : ℕ) → IsAskedBy false no_call port (Read at len)
reads port at len = inr (tt, tt)

pub writes : (port at : ℕ) (piece : List ℕ) → IsAskedBy false no_call port (Write at piece)
writes port at piece = inr (tt, tt)

-- what is kept of a chain, in a guest of fewer than 2^32 pages
abbrev pub Taking : ℕ → Which → Option Taken → Type 0
Taking pages k t = pages < 2 ^ 32 → IsTaken filler pages k t

byte_read : (port pages : ℕ) (k : Which) (parts : List Part) (e : Filler) → (pages < 2 ^ 32 → AreInside pages parts)
    → ActingKeeps (IsDeviceAct false no_call port pages) (Taking pages k) (taken_by Second parts e)
byte_read port pages k parts e inside =
    let mine = λ (few : pages < 2 ^ 32). filter_inside pages (λ (part : Part). not part.writable) parts (inside few) in
    keeps_either (IsDeviceAct false no_call port pages) (Taking pages k) (total (readable parts) == 0) _ _
    (λ none few. tt)
    (λ some. performing_keeps (IsDeviceAct false no_call port pages)
    (λ (got : Got). (pages < 2 ^ 32 → AreInside pages got.parts) × Any {A = Got} got) (Taking pages k)
    (collect_all 1 [] (readable parts)) e _
    (keeps_both (λ op. pages < 2 ^ 32 → IsInside pages op) (IsAskedBy false no_call port)
    (λ (got : Got). pages < 2 ^ 32 → AreInside pages got.parts) (Any {A = Got}) (collect_all 1 [] (readable parts))
    (keeps_when (pages < 2 ^ 32) (IsInside pages) (λ (got : Got). AreInside pages got.parts)
    (collect_all 1 [] (readable parts)) (λ few. collect_all_keeps pages 1 [] (readable parts) few (mine few)))
    (collect_all_asks (IsAskedBy false no_call port) (reads port) 1 [] (readable parts)))
    (λ f got from few. (tt, from.0 few, refl)))

take : (port pages : ℕ) (k : Which) (parts : List Part) (e : Filler) → (pages < 2 ^ 32 → AreInside pages parts)
    → ActingKeeps (IsDeviceAct false no_call port pages) (Taking pages k) (taken_by k parts e)
take port pages First parts e inside = λ few. (inside few, tt, refl)
take port pages Second parts e inside = byte_read port pages Second parts e inside
take port pages Third parts e inside = byte_read port pages Third parts e inside

serve : (port pages : ℕ) (k : Which) (c : Chain) (e : Filler) → (pages < 2 ^ 32 → IsChain filler pages k c)
    → ActingKeeps (IsDeviceAct false no_call port pages) (λ (len : Option ℕ). Unit {0}) (served_by k c e)
serve port pages First c e chain =
    let bytes = replicate (filled c) e.byte in
    let mine = λ (few : pages < 2 ^ 32). filter_inside pages (λ (part : Part). part.writable) c.parts (chain few).parts in
    performing_keeps (IsDeviceAct false no_call port pages)
    (λ (left : List Part). (pages < 2 ^ 32 → AreInside pages left) × Any {A = List Part} left) (λ (len : Option ℕ). Unit {0})
    (put_all bytes (writable c.parts)) e _
    (keeps_both (λ op. pages < 2 ^ 32 → IsInside pages op) (IsAskedBy false no_call port)
    (λ (left : List Part). pages < 2 ^ 32 → AreInside pages left) (Any {A = List Part}) (put_all bytes (writable c.parts))
    (keeps_when (pages < 2 ^ 32) (IsInside pages) (λ (left : List Part). AreInside pages left)
    (put_all bytes (writable c.parts)) (λ few. put_all_keeps pages bytes (writable c.parts) few (mine few)))
    (put_all_asks (IsAskedBy false no_call port) (writes port) bytes (writable c.parts)))
    (λ f left from. tt)
serve port pages Second c e chain = tt
serve port pages Third c e chain = tt

pub owes : Confines filler (setting limited) true no_call
owes = record {
  question = λ port pages e. (λ few. tt, inr (tt, tt));
  answer = λ port pages before e reply fit. tt;
  take = take;
  serve = serve;
  untimed = λ no. absurd (cc);
  cut = no_cut limited;
}
