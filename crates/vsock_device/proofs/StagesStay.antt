-- What is left of a vsock device at each of its stages keeps to its own.
use Rattle.std.proofs.Common.{◌≡◌, ℕ, ◌-◌, ◌^◌, ◌<◌, refl, sym, subst, inr, true, false, Option, List, length, arith}
use Rattle.vm_types.specs.declared.reply.Reply.{Reply}
use Rattle.vm_types.specs.Fits.{Fits}
use Rattle.device_trace.specs.Doing.{led}
use Rattle.vq_split.specs.declared.queue.Part.{Part}
use Rattle.vq_split.specs.Chain.{read_bytes}
use Rattle.vq_split.specs.Inside.{AreInside}
use Rattle.dev_core.specs.declared.collect.Collect.{Collect}
use Rattle.dev_core.specs.Collecting.{collect_left}
use Rattle.dev_core.specs.Inside.{Any}
use Rattle.dev_core.specs.Pieces.{Got, past, put_all, room, share}
use Rattle.dev_core.proofs.Inside.{past_inside, piece_inside}
use Rattle.queue_device.specs.declared.lanes.Which.{Which}
use Rattle.queue_device.specs.declared.lanes.Which.TheVariants.{First, Second, Third}
use Rattle.queue_device.specs.declared.phase.Work.TheVariants as work
use Rattle.queue_device.specs.declared.spill.Spill.{Spill}
use Rattle.queue_device.specs.Acting.{Acting, ActingKeeps, performing}
use Rattle.queue_device.specs.Confined.{IsDeviceAct}
use Rattle.queue_device.specs.Spilling.{spill_left}
use Rattle.queue_device.proofs.Acting.{led_keeps, performing_keeps}
use Rattle.queue_device.proofs.Pieces.{collect_asks, put_asks}
use Rattle.vsock_device.specs.declared.data.Vsock.{Vsock}
use Rattle.vsock_device.specs.declared.kind.Stage.{Stage}
use Rattle.vsock_device.specs.declared.kind.Stage.TheVariants as stage
use Rattle.vsock_device.specs.Guest.{packet_read}
use Rattle.vsock_device.specs.Vsock.{is_host_call}
use Rattle.vsock_device.specs.Work.{hand_of, is_work}
use Rattle.vsock_device.proofs.Stages.{Fetches, Has, fetches_of, has_of, no_answer, sends_of}
use Rattle.vsock_device.proofs.Owes.{collects, dialled_keeps, forwards, open_keeps, packet_keeps, passed_keeps, piece_keeps, puts}

module _ (port pages : ℕ) where
  abbrev AnswerStays : Stage → Type 0
  AnswerStays g =
      IsDeviceAct false is_host_call port pages (hand_of g).op
      × ((e : Vsock) (reply : Reply) → Fits (hand_of g).op reply
      → ActingKeeps (IsDeviceAct false is_host_call port pages) Any ((hand_of g).answering e reply))

  pub answering_stays : (g : Stage) → is_work work.Answer pages g ≡ true → AnswerStays g
  answering_stays g is =
      let v = no_answer pages g is in
      subst AnswerStays (sym v.1) ((λ few. tt, inr (refl, refl)), λ e reply fit. tt)

  abbrev ServiceStays : Stage → Type 0
  ServiceStays g =
      IsDeviceAct false is_host_call port pages (hand_of g).op
      × ((e : Vsock) (reply : Reply) → Fits (hand_of g).op reply
      → ActingKeeps (IsDeviceAct false is_host_call port pages) Any ((hand_of g).serving e reply))

  abbrev Left : List Part → Type 0
  Left left = (pages < 2 ^ 32 → AreInside pages left) × Any left

  -- bytes are written, and then this is done
  spill_stays : (spill : Spill) (more : Vsock → List Part → Acting Vsock (Option ℕ)) → Has pages (share spill.held spill.to) spill.to
      → ((f : Vsock) (left : List Part) → ActingKeeps (IsDeviceAct false is_host_call port pages) Any (more f left))
      → IsDeviceAct false is_host_call port pages (hand_of (stage.Event spill)).op
      × ((e : Vsock) (reply : Reply) → Fits (hand_of (stage.Event spill)).op reply
      → ActingKeeps (IsDeviceAct false is_host_call port pages) Any (performing (led (spill_left spill) reply) e more))
  spill_stays spill more v after =
      let on = led_keeps (IsDeviceAct false is_host_call port pages) Left (put_all spill.held spill.to) _
      (put_asks spill.held spill.to v.some) (puts port pages spill.held spill.to (λ few. v.inside)) in (
        on.0,
        λ e reply fit. performing_keeps (IsDeviceAct false is_host_call port pages) Left Any
            (led (put_all spill.held spill.to) reply) e more (on.1 reply fit) (λ f left is. after f left),
      )

  abbrev GotLeft : Got → Type 0
  GotLeft got = (pages < 2 ^ 32 → AreInside pages got.parts) × Any got

  fetch_stays : (from : Collect) (len : ℕ) → Fetches pages from → ServiceStays (stage.Fetch from len)
  fetch_stays from len v =
      let on = led_keeps (IsDeviceAct false is_host_call port pages) GotLeft (collect_left 44 from) _
      (collect_asks 44 from v.short v.has.some)
      (collects port pages (44 - length from.held) from.held from.from (λ few. v.has.inside)) in (
        on.0,
        λ e reply fit. performing_keeps (IsDeviceAct false is_host_call port pages) GotLeft Any
            (led (collect_left 44 from) reply) e (packet_read len) (on.1 reply fit)
            (λ f got is. packet_keeps port pages len got f is.0),
      )

  read_stays : (host : ℕ) (from : List Part) → Has pages (room from) from → ServiceStays (stage.Read host from)
  read_stays host from v = (
    (λ few. piece_inside pages (room from) from v.inside v.some (omega arith), inr (tt, tt)),
    λ e reply fit. piece_keeps port pages host (read_bytes (room from) reply) e _ (λ f.
        forwards port pages host (past (room from) from) f (λ few. past_inside pages (room from) from few v.inside (omega arith))),
  )

  pub serving_stays : (k : Which) (g : Stage) → is_work (work.Serve k) pages g ≡ true → ServiceStays g
  serving_stays First (stage.Deliver spill len) is =
      spill_stays spill _ (has_of pages (share spill.held spill.to) spill.to is) (λ f left. tt)
  serving_stays First stage.Rest is = absurd (cc)
  serving_stays First (stage.Close host) is = absurd (cc)
  serving_stays First (stage.Event spill) is = absurd (cc)
  serving_stays First (stage.Fetch from len) is = absurd (cc)
  serving_stays First (stage.Dial header) is = absurd (cc)
  serving_stays First (stage.Accept host line) is = absurd (cc)
  serving_stays First (stage.Send host piece from) is = absurd (cc)
  serving_stays First (stage.Read host from) is = absurd (cc)
  serving_stays Second (stage.Fetch from len) is = fetch_stays from len (fetches_of pages len from is)
  serving_stays Second (stage.Close host) is = ((λ few. tt, inr (refl, refl)), λ e reply fit. tt)
  serving_stays Second (stage.Dial header) is =
      ((λ few. tt, inr (refl, refl)), λ e reply fit. dialled_keeps port pages reply header e)
  serving_stays Second (stage.Accept host line) is =
      ((λ few. tt, inr (refl, refl)), λ e reply fit. open_keeps port pages reply host e)
  serving_stays Second (stage.Send host piece from) is =
      let v = sends_of pages host piece from is in (
        (λ few. tt, inr (refl, refl)),
        λ e reply fit. passed_keeps port pages reply host (length piece) e _
            (λ f. forwards port pages host from f (λ few. v.inside)),
      )
  serving_stays Second (stage.Read host from) is = read_stays host from (has_of pages (room from) from is)
  serving_stays Second stage.Rest is = absurd (cc)
  serving_stays Second (stage.Deliver spill len) is = absurd (cc)
  serving_stays Second (stage.Event spill) is = absurd (cc)
  serving_stays Third (stage.Event spill) is =
      spill_stays spill _ (has_of pages (share spill.held spill.to) spill.to is) (λ f left. tt)
  serving_stays Third stage.Rest is = absurd (cc)
  serving_stays Third (stage.Close host) is = absurd (cc)
  serving_stays Third (stage.Deliver spill len) is = absurd (cc)
  serving_stays Third (stage.Fetch from len) is = absurd (cc)
  serving_stays Third (stage.Dial header) is = absurd (cc)
  serving_stays Third (stage.Accept host line) is = absurd (cc)
  serving_stays Third (stage.Send host piece from) is = absurd (cc)
  serving_stays Third (stage.Read host from) is = absurd (cc)
