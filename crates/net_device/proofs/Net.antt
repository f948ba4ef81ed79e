-- All that a network device owes.
use Rattle.std.proofs.Common.{◌≡◌, ℕ, zero, suc, ◌-◌, ◌==◌, ◌<◌, ◌^◌, Bool, true, false, not, inr, refl, List, [], ◌∷◌, drop, Option, Some, None, arith}
use Rattle.vm_types.specs.declared.op.Op.{Op}
use Rattle.vm_types.specs.declared.op.Op.TheVariants.{Write}
use Rattle.vm_types.specs.declared.reply.Reply.{Reply}
use Rattle.vm_types.specs.declared.reply.Reply.TheVariants.{Frame}
use Rattle.device_trace.specs.Acts.{IsAskedBy}
use Rattle.device_trace.specs.Doing.{Doing}
use Rattle.device_trace.specs.Keeps.{Keeps}
use Rattle.device_trace.specs.Traces.{setting}
use Rattle.device_trace.proofs.Keeping.{keeps_both, keeps_if}
use Rattle.device_trace.proofs.Leading.{no_cut}
use Rattle.vq_split.specs.declared.queue.Part.{Part}
use Rattle.vq_split.specs.Chain.{read_bytes}
use Rattle.vq_split.specs.Inside.{AreInside, IsInside}
use Rattle.dev_core.specs.Inside.{Any}
use Rattle.dev_core.specs.Pieces.{past, put_all, readable, room, total, writable}
use Rattle.dev_core.proofs.Asking.{put_all_asks}
use Rattle.dev_core.proofs.Inside.{filter_inside, past_inside, piece_inside, put_all_keeps}
use Rattle.queue_device.specs.declared.lanes.Which.{Which}
use Rattle.queue_device.specs.declared.lanes.Which.TheVariants.{First, Second, Third}
use Rattle.queue_device.specs.Acting.{ActingKeeps}
use Rattle.queue_device.specs.Chains.{Chain}
use Rattle.queue_device.specs.Confined.{Confines, IsChain, IsDeviceAct}
use Rattle.queue_device.proofs.Acting.{keeps_either, keeps_when, performing_keeps}
use Rattle.net_device.specs.Frames.{header_size, is_done, is_frame, piece_of, piece_sent, sending, sending_all, sent_length, taken_frame, taking, pieces, header, with_piece}
use Rattle.net_device.specs.Net.{Net, answered_by, emptied, has_room, is_link_call, limited, net, received, served_by}

-- at this port, in a guest of so many pages
module _ (port pages : ℕ) where
  abbrev P : Op → Type 0
  P = IsDeviceAct false is_link_call port pages

  -- ---- from the link

  with_keeps : (o : Option (List ℕ)) (more : List ℕ → Doing (Option (List ℕ)))
      → ((piece : List ℕ) → Keeps P (Any {A = Option (List ℕ)}) (more piece)) → Keeps P (Any {A = Option (List ℕ)}) (with_piece o more)
  with_keeps None more each = tt
  with_keeps (Some piece) more each = each piece

  pub taking_keeps : (left size index : ℕ) (bytes : List ℕ) → Keeps P (Any {A = Option (List ℕ)}) (taking left size index bytes)
  taking_keeps zero size index bytes = tt
  taking_keeps (suc left) size index bytes = (
    (λ few. tt, inr (refl, refl)),
    λ reply fit. with_keeps (piece_of reply) _ (λ piece. taking_keeps left size (suc index) _),
  )

  pub came : (e : Net) (text : Option (List ℕ)) → ActingKeeps P (λ (something : Bool). Unit {0}) (received e text)
  came e None = tt
  came e (Some text) = tt

  answers : (e : Net) (reply : Reply) → ActingKeeps P (λ (something : Bool). Unit {0}) (answered_by reply e)
  answers e (Frame size) =
      performing_keeps P (Any {A = Option (List ℕ)}) (λ (something : Bool). Unit {0}) (taken_frame size) (emptied e) received
      (taking_keeps (pieces size) size 0 header) (λ f text any. came f text)
  answers e reply = tt

  -- ---- to the link

  pub piece_keeps : (piece : List ℕ) (rest : Doing (Unit {0})) → Keeps P (Any {A = Unit {0}}) rest
      → Keeps P (Any {A = Unit {0}}) (piece_sent piece rest)
  piece_keeps [] rest keeps = keeps
  piece_keeps (b ∷ bytes) rest keeps = (
    (λ few. tt, inr (refl, refl)),
    λ reply fit. keeps_if P (Any {A = Unit {0}}) (is_done reply) _ _ _ refl (λ done. keeps) (λ failed. tt),
  )

  some : (n : ℕ) → (n == 0) ≡ false → 0 < n
  some n off = grind arith

  pub sending_keeps : (most skip : ℕ) (parts : List Part) → (pages < 2 ^ 32 → AreInside pages parts)
      → Keeps P (Any {A = Unit {0}}) (sending most skip parts)
  sending_keeps zero skip parts inside = tt
  sending_keeps (suc most) skip parts inside =
      keeps_if P (Any {A = Unit {0}}) (room parts == 0) _ _ _ refl
      (λ end. ((λ few. tt, inr (refl, refl)), λ reply fit. tt))
      (λ more. (
        (λ few. piece_inside pages (room parts) parts (inside few) (some (room parts) more) (omega arith), inr (tt, tt)),
        λ reply fit. piece_keeps (drop skip (read_bytes (room parts) reply)) _
            (sending_keeps most (skip - room parts) (past (room parts) parts)
            (λ few. past_inside pages (room parts) parts few (inside few) (omega arith))),
      ))

  -- ---- chains

  pub writes : (at : ℕ) (piece : List ℕ) → IsAskedBy false is_link_call port (Write at piece)
  writes at piece = inr (tt, tt)

  serve : (k : Which) (c : Chain) (e : Net) → (pages < 2 ^ 32 → IsChain net pages k c)
      → ActingKeeps P (λ (len : Option ℕ). Unit {0}) (served_by k c e)
  serve First c e chain =
      let mine = λ (few : pages < 2 ^ 32). filter_inside pages (λ (part : Part). part.writable) c.parts (chain few).parts in
      keeps_either P (λ (len : Option ℕ). Unit {0}) (has_room c e) _ _
      (λ there. performing_keeps P (λ (left : List Part). (pages < 2 ^ 32 → AreInside pages left) × Any {A = List Part} left)
      (λ (len : Option ℕ). Unit {0}) (put_all e.text (writable c.parts)) (emptied e) _
      (keeps_both (λ op. pages < 2 ^ 32 → IsInside pages op) (IsAskedBy false is_link_call port)
      (λ (left : List Part). pages < 2 ^ 32 → AreInside pages left) (Any {A = List Part}) (put_all e.text (writable c.parts))
      (keeps_when (pages < 2 ^ 32) (IsInside pages) (λ (left : List Part). AreInside pages left)
      (put_all e.text (writable c.parts)) (λ few. put_all_keeps pages e.text (writable c.parts) few (mine few)))
      (put_all_asks (IsAskedBy false is_link_call port) writes e.text (writable c.parts)))
      (λ f left from. tt))
      (λ short. tt)
  serve Second c e chain =
      let mine = λ (few : pages < 2 ^ 32). filter_inside pages (λ (part : Part). not part.writable) c.parts (chain few).parts in
      keeps_either P (λ (len : Option ℕ). Unit {0}) (is_frame (sent_length c.parts)) _ _
      (λ fits. performing_keeps P (Any {A = Unit {0}}) (λ (len : Option ℕ). Unit {0}) (sending_all header_size (readable c.parts)) e _
      (sending_keeps (suc (total (readable c.parts))) header_size (readable c.parts) mine) (λ f done any. tt))
      (λ other. tt)
  serve Third c e chain = tt

pub owes : Confines net (setting limited) true is_link_call
owes = record {
  question = λ port pages e. (λ few. tt, inr (refl, refl));
  answer = λ port pages before e reply fit. answers port pages e reply;
  take = λ port pages k parts e inside few. (inside few, tt, refl);
  serve = λ port pages k c e chain. serve port pages k c e chain;
  untimed = λ no. absurd (cc);
  cut = no_cut limited;
}
