-- Guests that are alike take the same events and the same changes, and stay so; and they have the same copies.
use Rattle.std.proofs.Common.{◌≡◌, ℕ, suc, ◌+◌, ◌||◌, nat_lt, Bool, false, refl, sym, ap, subst, ◌∙◌, List, [], ◌∷◌, length, replicate, Option, Some, None, slice_get, arith}
use Rattle.vm_types.specs.declared.ids.ActorId.{ActorId}
use Rattle.vm_types.specs.declared.ids.ActorId.TheVariants.{Hart as HartId, Device as DeviceId, Timer as TimerId}
use Rattle.vm_types.specs.declared.entry.Entry.{Entry}
use Rattle.vm_types.specs.declared.entry.Step.{Step}
use Rattle.vm_types.specs.declared.op.Op.{Op}
use Rattle.vm_config.specs.declared.config.Config.{Config}
use Rattle.vm_config.specs.declared.statistics.Statistics.{Statistics}
use Rattle.guest_memory.specs.Memory as memory
use Rattle.guest_pages.specs.Marks.{writes_page}
use Rattle.board_table.specs.Board.{Board}
use Rattle.port_table.specs.declared.state.PortState.{PortState}
use Rattle.rv_supervisor.specs.declared.regs.Regs.{Regs}
use Rattle.hart_trace.specs.States.{Hart, LeadsTo}
use Rattle.hart_trace.proofs.OneHart.{one_hart}
use Rattle.timer_trace.specs.States as timer
use Rattle.timer_trace.proofs.Traces as timer_traces
use Rattle.guest_devices.specs.declared.change.DeviceChange.{DeviceChange}
use Rattle.guest_devices.specs.declared.device.Device.{Device}
use Rattle.guest_devices.specs.Devices.{DeviceLeads, DeviceLeft, FlatDevice}
use Rattle.guest_devices.specs.Kept.{device_left}
use Rattle.guest_devices.specs.Kinds.{FitsChange}
use Rattle.guest_devices.proofs.Follows.{one_left}
use Rattle.flat_guest.specs.Body.{Body, IsGuest}
use Rattle.flat_guest.specs.Changes.{reset_guest, told}
use Rattle.flat_guest.specs.Given.{Event}
use Rattle.flat_guest.specs.Guest.{Guest, Wants, is_actor, unwritten}
use Rattle.flat_guest.specs.Start.{timer_restarted}
use Rattle.flat_guest.specs.Steps.{FlatStep, Makes, StepsBy, guest_after}
use Rattle.flat_guest.proofs.Acting.{want_in}
use Rattle.flat_guest.proofs.Alike.{same_step, same_steps, want_there}
use Rattle.flat_guest.proofs.Changing.{body_reset, body_told, reset_is, told_is}
use Rattle.flat_guest.proofs.Lists.{there_too}
use Rattle.flat_guest.proofs.Marked.{none_marked}
use Rattle.snap_state.specs.declared.copy.StateCopy.{StateCopy}
use Rattle.flat_snapshot.specs.Copies.{AreHarts, AreKept, IsCopyOf, copy_of}
use Rattle.flat_machine.specs.Balloon.{DeviceTells, TellsBalloon}
use Rattle.flat_machine.specs.Items.{ShowsFrom}
use Rattle.alike_runs.specs.Alike.{AlikeGuests}

-- ---- what is the same of two guests that are alike

module _ (g h : Guest) (alike : AlikeGuests g h) where
  abbrev body : Body
  body = alike.same.body

  pub memory_same : g.memory ≡ h.memory
  memory_same = sym alike.same.first.memory_is ∙ alike.same.second.memory_is

  pub board_same : g.board ≡ h.board
  board_same = sym alike.same.first.board_is ∙ alike.same.second.board_is

  pub ports_same : g.ports ≡ h.ports
  ports_same = sym alike.same.first.ports_are ∙ alike.same.second.ports_are

  pub harts_many : length g.starts ≡ length h.starts
  harts_many = sym alike.same.first.harts_are.count ∙ alike.same.second.harts_are.count

  pub devices_many : length g.devices ≡ length h.devices
  devices_many = sym alike.same.first.devices_are.count ∙ alike.same.second.devices_are.count

  pub actor_same : (actor : ActorId) → is_actor g actor ≡ is_actor h actor
  actor_same TimerId = refl
  actor_same (HartId k) = ap (nat_lt k) harts_many
  actor_same (DeviceId k) = ap (nat_lt k) devices_many

  pub wants_too : (actor : ActorId) (op : Op) → Wants g actor op → Wants h actor op
  wants_too actor op want = want_in body h alike.same.second actor op (want_there body g alike.same.first actor op want)

  -- where a hart's steps lead
  pub hart_too : (k : ℕ) (s t : Regs) (x : Hart) → slice_get g.starts k ≡ Some s → slice_get h.starts k ≡ Some t
      → LeadsTo s (g.steps (HartId k)) x → LeadsTo t (h.steps (HartId k)) x
  hart_too k s t x here there leads =
      let own = there_too g.starts body.harts k s (sym alike.same.first.harts_are.count) here in
      let same : own.0 ≡ x =
      one_hart s (g.steps (HartId k)) own.0 x (alike.same.first.harts_are.each k s own.0 here own.1) leads in
      subst (λ (q : Hart). LeadsTo t (h.steps (HartId k)) q) same (alike.same.second.harts_are.each k t own.0 there own.1)

  -- and what a device has still to do
  pub left_too : (k : ℕ) (d e : FlatDevice) (left : DeviceLeft) → slice_get g.devices k ≡ Some d → slice_get h.devices k ≡ Some e
      → DeviceLeads d left → DeviceLeads e left
  left_too k d e left here there leads =
      let own = there_too g.devices body.devices k d (sym alike.same.first.devices_are.count) here in
      let same : own.0 ≡ left =
      one_left d own.0 left (alike.same.first.devices_are.each k d own.0 here own.1) leads in
      subst (λ (q : DeviceLeft). DeviceLeads e q) same (alike.same.second.devices_are.each k e own.0 there own.1)

  shows_by : (k number : ℕ) (text : List ℕ) (s t : Option Regs) → slice_get g.starts k ≡ s → slice_get h.starts k ≡ t
      → ShowsFrom s (g.steps (HartId k)) number text → ShowsFrom t (h.steps (HartId k)) number text
  shows_by k number text None t here there shown = absurd shown
  shows_by k number text (Some s) None here there shown =
      let other = there_too g.starts h.starts k s harts_many here in
      let both : None ≡ Some other.0 = sym there ∙ other.1 in
      cc
  shows_by k number text (Some s) (Some t) here there (x, leads, is) = (x, hart_too k s t x here there leads, is)

  told_by : (k : ℕ) (d e : Option FlatDevice) (p : Option PortState) (s : Option Statistics) → slice_get g.devices k ≡ d → slice_get h.devices k ≡ e
      → DeviceTells d p s → DeviceTells e p s
  told_by k None None None s here there tells = tells
  told_by k None None (Some p) s here there tells = tells
  told_by k None (Some e) p s here there tells =
      let other = there_too h.devices g.devices k e (sym devices_many) there in
      let both : ◌≡◌ {A = Option FlatDevice} None (Some other.0) = sym here ∙ other.1 in
      absurd cc
  told_by k (Some d) None p s here there tells =
      let other = there_too g.devices h.devices k d devices_many here in
      let both : ◌≡◌ {A = Option FlatDevice} None (Some other.0) = sym there ∙ other.1 in
      absurd cc
  told_by k (Some d) (Some e) None s here there tells = tells
  told_by k (Some d) (Some e) (Some p) s here there (left, leads, is) = (left, left_too k d e left here there leads, is)

  -- what a balloon tells
  pub tells_too : (number : Option ℕ) (s : Option Statistics) → TellsBalloon (Some g) number s → TellsBalloon (Some h) number s
  tells_too None s tells = tells
  tells_too (Some k) s tells =
      subst (λ (ports : List PortState). DeviceTells (slice_get h.devices k) (slice_get ports k) s) ports_same
      (told_by k (slice_get g.devices k) (slice_get h.devices k) (slice_get g.ports k) s refl refl tells)

  pub shows_too : (k number : ℕ) (text : List ℕ) → ShowsFrom (slice_get g.starts k) (g.steps (HartId k)) number text
      → ShowsFrom (slice_get h.starts k) (h.steps (HartId k)) number text
  shows_too k number text shown = shows_by k number text (slice_get g.starts k) (slice_get h.starts k) refl refl shown

-- ---- events

-- what was written behind one entry
written_both : (g h k l : Guest) (e : Entry) → ((i : ℕ) → g.written i ≡ h.written i) → k ≡ guest_after g e → l ≡ guest_after h e
    → (i : ℕ) → k.written i ≡ l.written i
written_both g h k l e same first second i =
    ap (λ (q : Guest). q.written i) first
    ∙ ap (λ (b : Bool). b || writes_page i e) (same i)
    ∙ sym (ap (λ (q : Guest). q.written i) second)

pub event_alike : (g h k : Guest) (event : Event) (e : Entry) → AlikeGuests g h → FlatStep g event e k
    → FlatStep h event e (guest_after h e) × AlikeGuests k (guest_after h e)
event_alike g h k event e alike step =
    let too = same_step g h k event e alike.same step in
    (too.0, record { same = too.1; written = written_both g h k (guest_after h e) e alike.written step.after refl })

written_all : (es : List Entry) (g h k l : Guest) (actor : ActorId) → ((i : ℕ) → g.written i ≡ h.written i) → Makes g actor es k
    → Makes h actor es l → (i : ℕ) → k.written i ≡ l.written i
written_all [] g h k l actor same x y i =
    ap (λ (q : Guest). q.written i) (sym x) ∙ same i ∙ ap (λ (q : Guest). q.written i) y
written_all (e ∷ es) g h k l actor same (u, mid, step, more) (v, other, also, rest) i =
    written_all es mid other k l actor (written_both g h mid other e same step.after also.after) more rest i

pub events_alike : (g h k : Guest) (actor : ActorId) (count : ℕ) (es : List Entry) → AlikeGuests g h → StepsBy g actor count es k
    → (l : Guest) × StepsBy h actor count es l × AlikeGuests k l
events_alike g h k actor count es alike by =
    let too = same_steps g h k actor count es alike.same by in
    (too.0, too.1, record { same = too.2; written = written_all es g h k too.0 actor alike.written by.made too.1.made })

-- ---- changes

pub told_alike : (k : ℕ) (change : DeviceChange) (shown : Option (List ℕ)) (g h : Guest) → FitsChange change → AlikeGuests g h
    → AlikeGuests (told k change shown g) (told k change shown h)
told_alike k change shown g h fits alike = record {
  same = record {
    body = body_told k change shown alike.same.body;
    first = told_is alike.same.body g k change shown fits alike.same.first;
    second = told_is alike.same.body h k change shown fits alike.same.second;
  };
  written = alike.written;
}

pub reset_alike : (g h : Guest) → AlikeGuests g h → AlikeGuests (reset_guest g) (reset_guest h)
reset_alike g h alike = record {
  same = record {
    body = body_reset alike.same.body;
    first = reset_is alike.same.body g alike.same.first;
    second = reset_is alike.same.body h alike.same.second;
  };
  written = alike.written;
}

unwritten_is : (b : Body) (g : Guest) → IsGuest b g → IsGuest (record b { marks = replicate (length b.marks) false }) (unwritten g)
unwritten_is b g is = record {
  memory_is = is.memory_is;
  marks_are = none_marked (length b.marks);
  board_is = is.board_is;
  ports_are = is.ports_are;
  timer_is = is.timer_is;
  harts_are = record { count = is.harts_are.count; each = is.harts_are.each };
  devices_are = record { count = is.devices_are.count; each = is.devices_are.each; sound = is.devices_are.sound };
}

pub unwritten_alike : (g h : Guest) → AlikeGuests g h → AlikeGuests (unwritten g) (unwritten h)
unwritten_alike g h alike = record {
  same = record {
    body = record alike.same.body { marks = replicate (length alike.same.body.marks) false };
    first = unwritten_is alike.same.body g alike.same.first;
    second = unwritten_is alike.same.body h alike.same.second;
  };
  written = λ i. refl;
}

abbrev emptied : Board → Board
emptied b = record b { console = [] }

drained_is : (b : Body) (g : Guest) → IsGuest b g
    → IsGuest (record b { board = emptied b.board }) (record g { board = emptied g.board })
drained_is b g is = record {
  memory_is = is.memory_is;
  marks_are = is.marks_are;
  board_is = ap emptied is.board_is;
  ports_are = is.ports_are;
  timer_is = is.timer_is;
  harts_are = record { count = is.harts_are.count; each = is.harts_are.each };
  devices_are = record { count = is.devices_are.count; each = is.devices_are.each; sound = is.devices_are.sound };
}

pub drained_alike : (g h : Guest) → AlikeGuests g h
    → AlikeGuests (record g { board = record g.board { console = [] } }) (record h { board = record h.board { console = [] } })
drained_alike g h alike = record {
  same = record {
    body = record alike.same.body { board = emptied alike.same.body.board };
    first = drained_is alike.same.body g alike.same.first;
    second = drained_is alike.same.body h alike.same.second;
  };
  written = alike.written;
}

restarted_is : (b : Body) (g : Guest) → IsGuest b g → IsGuest (record b { timer = timer.new_timer }) (timer_restarted g)
restarted_is b g is = record {
  memory_is = is.memory_is;
  marks_are = is.marks_are;
  board_is = is.board_is;
  ports_are = is.ports_are;
  timer_is = timer_traces.leads_start;
  harts_are = record { count = is.harts_are.count; each = is.harts_are.each };
  devices_are = record { count = is.devices_are.count; each = is.devices_are.each; sound = is.devices_are.sound };
}

pub restarted_alike : (g h : Guest) → AlikeGuests g h → AlikeGuests (timer_restarted g) (timer_restarted h)
restarted_alike g h alike = record {
  same = record {
    body = record alike.same.body { timer = timer.new_timer };
    first = restarted_is alike.same.body g alike.same.first;
    second = restarted_is alike.same.body h alike.same.second;
  };
  written = alike.written;
}

pub turned_alike : (g h : Guest) → AlikeGuests g h → AlikeGuests h g
turned_alike g h alike = record {
  same = record { body = alike.same.body; first = alike.same.second; second = alike.same.first };
  written = λ i. sym (alike.written i);
}

-- ---- copies

harts_too : (starts others : List Regs) (k : ℕ) (steps more : ActorId → List Step) (harts : List Hart) → length starts ≡ length others
    → ((i : ℕ) (s t : Regs) (x : Hart) → slice_get starts i ≡ Some s → slice_get others i ≡ Some t
    → LeadsTo s (steps (HartId (k + i))) x → LeadsTo t (more (HartId (k + i))) x)
    → AreHarts k starts steps harts → AreHarts k others more harts
harts_too [] [] k steps more harts many each are = are
harts_too [] (t ∷ others) k steps more harts many each are = absurd (omega (arith, many))
harts_too (s ∷ starts) [] k steps more harts many each are = absurd (omega (arith, many))
harts_too (s ∷ starts) (t ∷ others) k steps more harts many each (x, rest, is, leads, later) =
    let here : k + 0 ≡ k = omega arith in
    let first : LeadsTo t (more (HartId (k + 0))) x =
    each 0 s t x refl refl (subst (λ (n : ℕ). LeadsTo s (steps (HartId n)) x) (sym here) leads) in
    let along : (i : ℕ) → suc k + i ≡ k + suc i = λ i. omega arith in (
      x,
      rest,
      is,
      subst (λ (n : ℕ). LeadsTo t (more (HartId n)) x) here first,
      harts_too starts others (suc k) steps more rest (omega (arith, many)) (λ i a b y one other to.
          subst (λ (n : ℕ). LeadsTo b (more (HartId n)) y) (sym (along i))
          (each (suc i) a b y one other (subst (λ (n : ℕ). LeadsTo a (steps (HartId n)) y) (along i) to))) later,
    )

kept_too : (kept : List Device) (devices others : List FlatDevice) → length devices ≡ length others
    → ((i : ℕ) (d e : FlatDevice) (left : DeviceLeft) → slice_get devices i ≡ Some d → slice_get others i ≡ Some e
    → DeviceLeads d left → DeviceLeads e left)
    → AreKept kept devices → AreKept kept others
kept_too [] [] [] many each are = tt
kept_too [] [] (e ∷ others) many each are = absurd (omega (arith, many))
kept_too [] (d ∷ devices) others many each are = absurd are
kept_too (it ∷ kept) [] others many each are = absurd are
kept_too (it ∷ kept) (d ∷ devices) [] many each are = absurd (omega (arith, many))
kept_too (it ∷ kept) (d ∷ devices) (e ∷ others) many each (leads, is, are) = (
  each 0 d e (device_left it) refl refl leads,
  is,
  kept_too kept devices others (omega (arith, many)) (λ i x y left one other to. each (suc i) x y left one other to) are,
)

-- a copy by what of the guest it has
abbrev copy_by : Config → memory.Memory → Board → List PortState → List Hart → List Device → Guest → StateCopy
copy_by config m board ports harts kept g = copy_of config (record g { memory = m; board = board; ports = ports }) harts kept

pub copy_alike : (config other : Config) (g h : Guest) (copy : StateCopy) → config ≡ other → AlikeGuests g h → IsCopyOf config g copy
    → IsCopyOf other h copy
copy_alike config other g h copy same alike (harts, are, kept, is) = (
  harts,
  harts_too g.starts h.starts 0 g.steps h.steps harts (harts_many g h alike) (λ i s t x here there to.
      let same : 0 + i ≡ i = omega arith in
      subst (λ (n : ℕ). LeadsTo t (h.steps (HartId n)) x) (sym same)
      (hart_too g h alike i s t x here there (subst (λ (n : ℕ). LeadsTo s (g.steps (HartId n)) x) same to))) are,
  kept_too copy.devices g.devices h.devices (devices_many g h alike) (left_too g h alike) kept,
  is ∙ (λ i. copy_by (same i) (memory_same g h alike i) (board_same g h alike i) (ports_same g h alike i) harts copy.devices h),
)
