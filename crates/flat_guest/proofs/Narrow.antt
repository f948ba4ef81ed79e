-- Where what is kept of each device has its widths, a small reply leaves it so, and the device writes bytes: in a guest of which a
-- state file can have the copy each reply but a host object's is small.
use Rattle.std.proofs.Common.{◌≡◌, ◌≤◌, ◌<◌, ◌-◌, ℕ, ◌^◌, ◌==◌, Bool, true, false, if◌then◌else◌, refl, sym, ap, subst, ◌∙◌, List, length, min, Option, Some, None, slice_get, slice_set, inl, inr, arith}
use Rattle.std.proofs.lemmas.Bool.{eqb-false, eqb-true}
use Rattle.vm_types.specs.declared.ids.ActorId.{ActorId}
use Rattle.vm_types.specs.declared.ids.PlaceId.{PlaceId}
use Rattle.vm_types.specs.declared.op.Op.{Op}
use Rattle.vm_types.specs.declared.op.BoardOp.{BoardOp}
use Rattle.vm_types.specs.declared.op.BoardOp.TheVariants as board_op
use Rattle.vm_types.specs.declared.op.OutOp.{OutOp}
use Rattle.vm_types.specs.declared.op.PortOp.TheVariants as port_op
use Rattle.vm_types.specs.declared.reply.Reply.{Reply}
use Rattle.vm_types.specs.declared.entry.Step.{Step}
use Rattle.vm_types.specs.declared.entry.Entry.{Entry}
use Rattle.vm_types.specs.Fits.{fits}
use Rattle.device_trace.specs.Acts.{IsAskedBy, IsOwnAct, is_line_act}
use Rattle.guest_memory.specs.Kept as memory_kept
use Rattle.guest_memory.specs.Memory as memory
use Rattle.guest_memory.proofs.Keeping.{touch_small}
use Rattle.board_table.specs.Acts as board_acts
use Rattle.board_table.specs.Board.{Board}
use Rattle.board_table.specs.Kept as board_kept
use Rattle.board_table.proofs.Keeping as board
use Rattle.port_table.specs.Acts as port_acts
use Rattle.port_table.specs.Acts.{port_shown, queue_shown, without_kicks}
use Rattle.port_table.specs.Ports.{as_new}
use Rattle.port_table.specs.Registers.{driver_ok, has_bits}
use Rattle.port_table.specs.declared.state.PortQueue.{PortQueue}
use Rattle.port_table.specs.declared.state.PortState.{PortState}
use Rattle.port_table.specs.Sizes as port_kept
use Rattle.port_table.proofs.Sizes as port
use Rattle.queue_device.specs.Sizes.{IsReplyTo, IsSmallReply, IsSmallShown, IsSmallWrite}
use Rattle.guest_devices.specs.Devices.{DeviceWants, FlatDevice, device_calls, device_did, left_times}
use Rattle.guest_devices.specs.Narrow.{IsNarrowDevice}
use Rattle.guest_devices.proofs.Narrow.{did_narrow, write_narrow}
use Rattle.guest_devices.proofs.Soundness.{want_own}
use Rattle.hart_trace.specs.Kept.{IsSmallOp}
use Rattle.flat_guest.specs.Given.{Event, Given}
use Rattle.flat_guest.specs.Given.Given.{Host}
use Rattle.flat_guest.specs.Narrow.{AreNarrowDevices, HasWidths, IsSmallGiven}
use Rattle.flat_guest.specs.Guest.{Guest, Wants, WantsOf, whole_pages}
use Rattle.flat_guest.specs.Savable.{IsSavable, IsSizedPort, IsSmallAct}
use Rattle.flat_guest.specs.Sound.{IsSound}
use Rattle.flat_guest.specs.Steps.{Answers, AnswersOut, FlatStep, device_after, devices_after, port_reply}
use Rattle.flat_guest.proofs.Lists.{get_set_other, get_set_same, some_is}
use Rattle.flat_guest.proofs.Savable.{get_all, savable_next}
use Rattle.flat_guest.proofs.Soundness.{fit}

-- ---- a device's own acts, by what they are answered

fault_small : (reply : Reply) → reply ≡ Reply.AccessFault → IsSmallReply reply
fault_small reply is = subst IsSmallReply (sym is) tt

module _ (times : Bool) (calls : OutOp → Bool) (k : ℕ) where
  -- the atomic accesses are the harts'
  not_asked : (o : Op) → (o ≡ Op.Board board_op.Time → ⊥) → (IsOwnAct k o → ⊥) → IsAskedBy times calls k o → ⊥
  not_asked o timed own (inl t) = timed t.1
  not_asked o timed own (inr a) = own a.0

  module _ (size : ℕ) (m : memory.Memory) (actor : ActorId) where
    page_small : (o : Op) (reply : Reply) → IsAskedBy times calls k o → reply ≡ (memory.touch m actor o).0 → fits o reply ≡ true
        → memory_kept.IsSmallReply size o reply → IsSmallReply reply
    page_small (Op.Read at len) (Reply.Bytes piece) asked is fit small = small
    page_small (Op.Read at len) Reply.AccessFault asked is fit small = tt
    page_small (Op.Read at len) reply asked is fit small = cc
    page_small (Op.Write at piece) Reply.Done asked is fit small = tt
    page_small (Op.Write at piece) Reply.AccessFault asked is fit small = tt
    page_small (Op.Write at piece) reply asked is fit small = cc
    page_small (Op.Amo at value kind wide) reply asked is fit small =
        absurd (not_asked (Op.Amo at value kind wide) (λ t. cc) (λ a. a) asked)
    page_small (Op.Lr at wide) reply asked is fit small = absurd (not_asked (Op.Lr at wide) (λ t. cc) (λ a. a) asked)
    page_small (Op.Sc at value wide) reply asked is fit small = absurd (not_asked (Op.Sc at value wide) (λ t. cc) (λ a. a) asked)
    page_small (Op.Board act) reply asked is fit small = fault_small reply is
    page_small (Op.Port j act) reply asked is fit small = fault_small reply is
    page_small (Op.Out act) reply asked is fit small = fault_small reply is
    page_small Op.Idle reply asked is fit small = fault_small reply is

  -- of the board it raises its line, and asks the time
  act_small : (act : BoardOp) (reply : Reply) → IsAskedBy times calls k (Op.Board act) → fits (Op.Board act) reply ≡ true
      → board_kept.IsSmallReply reply → IsSmallReply reply
  act_small board_op.Time (Reply.Word now) asked fit small = small
  act_small board_op.Time reply asked fit small = cc
  act_small board_op.RaiseLine Reply.Done asked fit small = tt
  act_small board_op.RaiseLine reply asked fit small = cc
  act_small act reply asked fit small =
      absurd (not_asked (Op.Board act) (λ t. cc) (λ a. let told : is_line_act act ≡ true = a in cc) asked)

  module _ (b : Board) (actor : ActorId) where
    board_small : (o : Op) (reply : Reply) → IsAskedBy times calls k o → reply ≡ (board_acts.touch b actor o).0 → fits o reply ≡ true
        → board_kept.IsSmallReply reply → IsSmallReply reply
    board_small (Op.Read at len) (Reply.Bytes piece) asked is fit small = small
    board_small (Op.Read at len) Reply.AccessFault asked is fit small = tt
    board_small (Op.Read at len) reply asked is fit small = cc
    board_small (Op.Write at piece) Reply.Done asked is fit small = tt
    board_small (Op.Write at piece) Reply.AccessFault asked is fit small = tt
    board_small (Op.Write at piece) reply asked is fit small = cc
    board_small (Op.Amo at value kind wide) reply asked is fit small =
        absurd (not_asked (Op.Amo at value kind wide) (λ t. cc) (λ a. a) asked)
    board_small (Op.Lr at wide) reply asked is fit small = absurd (not_asked (Op.Lr at wide) (λ t. cc) (λ a. a) asked)
    board_small (Op.Sc at value wide) reply asked is fit small = absurd (not_asked (Op.Sc at value wide) (λ t. cc) (λ a. a) asked)
    board_small (Op.Board act) reply asked is fit small = act_small act reply asked fit small
    board_small (Op.Port j act) reply asked is fit small = fault_small reply is
    board_small (Op.Out act) reply asked is fit small = fault_small reply is
    board_small Op.Idle reply asked is fit small = fault_small reply is

  -- what a look shows of a port's queues
  shown_small : (q : PortQueue) → port_kept.IsSizedQueue q → IsSmallShown (queue_shown q)
  shown_small q is =
      let size : min q.size (2 ^ 16 - 1) < 2 ^ 16 = omega arith in
      record { descriptors = is.descriptors; available = is.available; used = is.used; size = size }

  module _ (p : PortState) (kept : port_kept.IsKept p.kind p) (actor : ActorId) where
    look_small : (asked : Bool)
        → IsSmallReply (if◌then◌else◌ {A = Reply × PortState} asked (Reply.Port (port_shown true (as_new p)), as_new p)
        (Reply.Port (port_shown false p), without_kicks p)).0
    look_small true = (
      shown_small _ (port.new_queues_sized p.kind p kept 0),
      shown_small _ (port.new_queues_sized p.kind p kept 1),
      shown_small _ (port.new_queues_sized p.kind p kept 2),
    )
    look_small false = (
      shown_small _ (port.queues_sized p.kind p kept 0),
      shown_small _ (port.queues_sized p.kind p kept 1),
      shown_small _ (port.queues_sized p.kind p kept 2),
    )

    break_small : (driven : Bool) (first second : PortState)
        → IsSmallReply (if◌then◌else◌ {A = Reply × PortState} driven (Reply.Word 1, first) (Reply.Word 0, second)).0
    break_small true first second = omega arith
    break_small false first second = omega arith

    port_small : (o : Op) (reply : Reply) → IsAskedBy times calls k o → reply ≡ (port_acts.touch p actor o).0 → fits o reply ≡ true
        → port_kept.IsSmallReply reply → IsSmallReply reply
    port_small (Op.Read at len) (Reply.Bytes piece) asked is fit small = small
    port_small (Op.Read at len) Reply.AccessFault asked is fit small = tt
    port_small (Op.Read at len) reply asked is fit small = cc
    port_small (Op.Write at piece) Reply.Done asked is fit small = tt
    port_small (Op.Write at piece) Reply.AccessFault asked is fit small = tt
    port_small (Op.Write at piece) reply asked is fit small = cc
    port_small (Op.Amo at value kind wide) reply asked is fit small =
        absurd (not_asked (Op.Amo at value kind wide) (λ t. cc) (λ a. a) asked)
    port_small (Op.Lr at wide) reply asked is fit small = absurd (not_asked (Op.Lr at wide) (λ t. cc) (λ a. a) asked)
    port_small (Op.Sc at value wide) reply asked is fit small = absurd (not_asked (Op.Sc at value wide) (λ t. cc) (λ a. a) asked)
    port_small (Op.Board act) reply asked is fit small = fault_small reply is
    port_small (Op.Port j port_op.Look) reply asked is fit small = subst IsSmallReply (sym is) (look_small p.is_reset_asked)
    port_small (Op.Port j (port_op.Interrupt causes)) reply asked is fit small = subst IsSmallReply (sym is) tt
    port_small (Op.Port j port_op.Break) reply asked is fit small =
        subst IsSmallReply (sym is) (break_small (has_bits p.status driver_ok) _ _)
    port_small (Op.Out act) reply asked is fit small = fault_small reply is
    port_small Op.Idle reply asked is fit small = fault_small reply is

  -- with no place: a host object's, or nothing to tell
  given_small : (given : Given) (reply : Reply) → given ≡ Host reply → IsSmallGiven given → IsSmallReply reply
  given_small given reply is small = subst IsSmallGiven is small

  out_small : (o : Op) (given : Given) (reply : Reply) → AnswersOut o given reply → IsSmallGiven given → IsSmallReply reply
  out_small (Op.Out act) given reply answer small = given_small given reply answer.0 small
  out_small Op.Idle given reply answer small = subst IsSmallReply (sym answer.1) tt
  out_small (Op.Port j act) given reply answer small = absurd answer.1
  out_small (Op.Board act) given reply answer small = absurd answer.1
  out_small (Op.Read at len) given reply answer small = subst IsSmallReply (sym answer.1) tt
  out_small (Op.Write at piece) given reply answer small = subst IsSmallReply (sym answer.1) tt
  out_small (Op.Amo at value kind wide) given reply answer small = subst IsSmallReply (sym answer.1) tt
  out_small (Op.Lr at wide) given reply answer small = subst IsSmallReply (sym answer.1) tt
  out_small (Op.Sc at value wide) given reply answer small = subst IsSmallReply (sym answer.1) tt

  -- ---- by its place

  module _ (pages harts : ℕ) (g : Guest) (is : IsSavable pages harts g) (actor : ActorId) (o : Op) (given : Given) (reply : Reply)
      (asked : IsAskedBy times calls k o) (fit : fits o reply ≡ true) (small : IsSmallGiven given) where
    by_port : (found : Option PortState) (j : ℕ) → slice_get g.ports j ≡ found → reply ≡ port_reply found actor o → IsSmallReply reply
    by_port None j there replies = fault_small reply replies
    by_port (Some p) j there replies =
        let kept = get_all IsSizedPort g.ports j p there is.ports in
        port_small p kept actor o reply asked replies fit
        (subst port_kept.IsSmallReply (sym replies) (port.touch_small p.kind p actor o kept))

    pub reply_small : (place : PlaceId) → Answers place g actor o given reply → IsSmallReply reply
    reply_small (PlaceId.Page i) answer =
        page_small (length g.memory.bytes) g.memory actor o reply asked answer.1 fit
        (subst (λ (r : Reply). memory_kept.IsSmallReply (length g.memory.bytes) o r) (sym answer.1)
        (touch_small g.memory actor o is.memory.bytes))
    reply_small PlaceId.Board answer =
        let few = is.few in
        board_small g.board actor o reply asked answer.1 fit
        (subst board_kept.IsSmallReply (sym answer.1) (board.board_replies harts g.board is.board actor o (omega (arith, few))))
    reply_small (PlaceId.Port j) answer = by_port (slice_get g.ports j) j refl answer.1
    reply_small PlaceId.Out answer = out_small o given reply answer small

-- ---- an event

module _ (pages : ℕ) (few : pages ≤ 2 ^ 20) where
  abbrev AreNarrow : List FlatDevice → Type 0
  AreNarrow devices = AreNarrowDevices pages devices

  module _ (devices : List FlatDevice) (each : AreNarrow devices) where
    module _ (k : ℕ) (x y : FlatDevice) (x_is : slice_get devices k ≡ Some x) (narrow : IsNarrowDevice k pages y) where
      put_by : (same : Bool) (j : ℕ) (d : FlatDevice) → (j == k) ≡ same → slice_get (slice_set devices k y) j ≡ Some d
          → IsNarrowDevice j pages d
      put_by true j d same d_is =
          let here : j ≡ k = eqb-true j k same in
          let is : y ≡ d = some_is y d
          (sym (get_set_same devices k x y x_is) ∙ sym (ap (λ (i : ℕ). slice_get (slice_set devices k y) i) here) ∙ d_is) in
          subst (λ (i : ℕ). IsNarrowDevice i pages d) (sym here) (subst (λ (e : FlatDevice). IsNarrowDevice k pages e) is narrow)
      put_by false j d same d_is = each j d (sym (get_set_other devices j k y (eqb-false j k same)) ∙ d_is)

      pub put_narrow : AreNarrow (slice_set devices k y)
      put_narrow j d d_is = put_by (j == k) j d refl d_is

    after_narrow : (s : Step) → IsReplyTo true s.op s.reply → (k : ℕ) (found : Option FlatDevice) → slice_get devices k ≡ found
        → WantsOf found s.op → AreNarrow (device_after found devices k s)
    after_narrow s fitting k None is want = absurd want
    after_narrow s fitting k (Some x) is want =
        put_narrow k x (device_did x s) is (did_narrow k pages few x s (each k x is) want fitting)

  -- what a device asks gives the board no number
  board_tt : (times : Bool) (calls : OutOp → Bool) (k : ℕ) (act : BoardOp) → IsAskedBy times calls k (Op.Board act) → IsSmallOp (Op.Board act)
  board_tt times calls k (board_op.SetTimer deadline) asked =
      absurd (not_asked times calls k _ (λ t. cc) (λ a. let told : is_line_act (board_op.SetTimer deadline) ≡ true = a in cc) asked)
  board_tt times calls k (board_op.StartHart hart pc word) asked =
      absurd (not_asked times calls k _ (λ t. cc) (λ a. let told : is_line_act (board_op.StartHart hart pc word) ≡ true = a in cc) asked)
  board_tt times calls k act asked = tt

  op_small : (times : Bool) (calls : OutOp → Bool) (k : ℕ) (o : Op) → IsAskedBy times calls k o → IsSmallWrite o → IsSmallOp o
  op_small times calls k (Op.Write at piece) asked small = small
  op_small times calls k (Op.Board act) asked small = board_tt times calls k act asked
  op_small times calls k o asked small = tt

  module _ (harts : ℕ) (g : Guest) (event : Event) (e : Entry) (h : Guest) (sound : IsSound g) (widths : HasWidths pages harts g)
      (step : FlatStep g event e h) (small : IsSmallGiven event.given) where
    abbrev each : AreNarrow g.devices
    each = widths.devices

    abbrev is : IsSavable pages harts g
    is = widths.savable

    -- it wants guest time where a chain waits
    timed : (k : ℕ) (d : FlatDevice) → slice_get g.devices k ≡ Some d → Bool
    timed k d there = left_times (sound.devices_on.each k d there).0

    asked_by : (k : ℕ) (d : FlatDevice) (there : slice_get g.devices k ≡ Some d) → DeviceWants d e.op
        → IsAskedBy (timed k d there) (device_calls d) k e.op
    unfolding timed
    asked_by k d there want = want_own k (whole_pages g.memory) d e.op (sound.devices_on.each k d there) want

    act_by : (k : ℕ) (found : Option FlatDevice) → slice_get g.devices k ≡ found → WantsOf found e.op → IsSmallOp e.op
    act_by k None there want = absurd want
    act_by k (Some d) there want =
        op_small (timed k d there) (device_calls d) k e.op (asked_by k d there want) (write_narrow k pages few d e.op (each k d there) want)

    own_act : (actor : ActorId) → Wants g actor e.op → IsSmallAct actor e.op
    own_act ActorId.Timer want = tt
    own_act (ActorId.Hart k) want = tt
    own_act (ActorId.Device k) want = act_by k (slice_get g.devices k) refl want

    fitting : fits e.op e.reply ≡ true
    fitting = fit g event e h sound step

    device_by : (k : ℕ) (found : Option FlatDevice) → slice_get g.devices k ≡ found → WantsOf found e.op
        → AreNarrow (device_after found g.devices k (record { op = e.op; reply = e.reply }))
    device_by k None there want = absurd want
    device_by k (Some d) there want =
        let replies =
        reply_small (timed k d there) (device_calls d) k pages harts g is e.actor e.op event.given e.reply (asked_by k d there want) fitting
        small e.place step.answer in
        after_narrow g.devices each (record { op = e.op; reply = e.reply }) (fitting, λ yes. replies) k (Some d) there want

    devices_on : (actor : ActorId) → Wants g actor e.op
        → AreNarrow (devices_after actor g.devices (record { op = e.op; reply = e.reply }))
    devices_on ActorId.Timer want = each
    devices_on (ActorId.Hart k) want = each
    devices_on (ActorId.Device k) want = device_by k (slice_get g.devices k) refl want

    pub widths_next : HasWidths pages harts h
    widths_next = record {
      savable = savable_next pages harts g event e h sound is step (own_act e.actor step.want);
      devices = subst (λ (q : Guest). AreNarrow q.devices) (sym step.after) (devices_on e.actor step.want);
    }
