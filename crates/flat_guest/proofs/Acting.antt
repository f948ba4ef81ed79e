-- What a body's actors want is what the guest's want, and what they are given leads each of them on.
use Rattle.std.proofs.Common.{◌≡◌, ℕ, ◌==◌, nat_lt, Bool, true, false, cond, refl, sym, ap, subst, ◌∙◌, List, [], ◌∷◌, ◌++◌}
use Rattle.std.proofs.Common.{length, Option, Some, None, slice_get, slice_set}
use Rattle.std.proofs.lemmas.List.{length-set}
use Rattle.std.proofs.lemmas.Bool.{eqb-true, eqb-false}
use Rattle.vm_types.specs.declared.ids.ActorId.{ActorId}
use Rattle.vm_types.specs.declared.ids.PlaceId.{PlaceId}
use Rattle.vm_types.specs.declared.op.Op.{Op}
use Rattle.vm_types.specs.declared.reply.Reply.{Reply}
use Rattle.vm_types.specs.declared.entry.Step.{Step}
use Rattle.vm_types.specs.declared.entry.Entry.{Entry}
use Rattle.vm_types.specs.Fits.{fits}
use Rattle.rv_supervisor.specs.declared.regs.Regs.{Regs}
use Rattle.hart_trace.specs.Asks.{is_port_op}
use Rattle.hart_trace.specs.States.{Hart, LeadsTo, hart_wants, hart_next}
use Rattle.hart_trace.proofs.Asks.{never_port}
use Rattle.hart_trace.proofs.Leads.{leads_next}
use Rattle.hart_trace.proofs.Traces.{hart_continues}
use Rattle.timer_trace.specs.States as timer
use Rattle.timer_trace.proofs.Leads as timer_leads
use Rattle.timer_trace.proofs.Traces as timer_traces
use Rattle.guest_devices.specs.Devices.{DeviceLeads, DeviceLeft, FlatDevice, device_calls, device_did, device_next, device_wants, left_times}
use Rattle.guest_devices.specs.Kept.{device_want, devices_given}
use Rattle.guest_devices.proofs.Follows.{did_leads, left_wants}
use Rattle.guest_devices.proofs.Soundness.{want_own}
use Rattle.flat_guest.specs.Guest.{Guest, Wants, WantsFrom, WantsOf, whole_pages}
use Rattle.flat_guest.specs.Sound.{AreSoundDevices}
use Rattle.flat_guest.specs.Steps.{device_after, guest_after}
use Rattle.flat_guest.specs.Body.{AreDevices, AreHarts, Body, IsGuest, harts_after, lefts_after, timer_after, want_of, wants, with_reply}
use Rattle.flat_guest.proofs.Lists.{get_lt, get_set_other, get_set_same, some_is, there_too}
use Rattle.flat_guest.proofs.Answering.{IsPortThere, asked_there, no_port_there}
use Rattle.flat_guest.proofs.Devices.{sound_after}

-- what a hart wants, where it is there
hart_there : (o : Option Hart) (op : Op) → want_of o ≡ Some op → (hart : Hart) × (o ≡ Some hart) × (op ≡ hart_wants hart)
hart_there None op is = cc
hart_there (Some hart) op is = (hart, refl, sym (some_is (hart_wants hart) op is))

-- what a device wants, where it is there
left_there : (o : Option DeviceLeft) (op : Op) → device_want o ≡ Some op
    → (left : DeviceLeft) × (o ≡ Some left) × (op ≡ device_wants left)
left_there None op is = cc
left_there (Some left) op is = (left, refl, sym (some_is (device_wants left) op is))

timer_port : (due : Option ℕ) → is_port_op (timer.wants_by due) ≡ false
timer_port None = refl
timer_port (Some due) = refl

module _ (b : Body) (g : Guest) (is : IsGuest b g) where
  hart_leads : (k : ℕ) (hart : Hart) → slice_get b.harts k ≡ Some hart
      → (start : Regs) × (slice_get g.starts k ≡ Some start) × LeadsTo start (g.steps (ActorId.Hart k)) hart
  hart_leads k hart here =
      let start = there_too b.harts g.starts k hart is.harts_are.count here in
      (start.0, start.1, is.harts_are.each k start.0 hart start.1 here)

  hart_wanted : (k : ℕ) (op : Op) → want_of (slice_get b.harts k) ≡ Some op → Wants g (ActorId.Hart k) op
  hart_wanted k op want =
      let steps : List Step = g.steps (ActorId.Hart k) in
      let h = hart_there (slice_get b.harts k) op want in
      let leads = hart_leads k h.0 h.1 in
      subst (λ (o : Op). Wants g (ActorId.Hart k) o) (sym h.2)
      (subst (λ (s : Option Regs). WantsFrom s steps (hart_wants h.0)) (sym leads.1)
      (hart_continues leads.0 steps h.0 leads.2))

  -- the device in the flat machine
  device_leads : (k : ℕ) (left : DeviceLeft) → slice_get b.devices k ≡ Some left
      → (d : FlatDevice) × (slice_get g.devices k ≡ Some d) × DeviceLeads d left
  device_leads k left here =
      let d = there_too b.devices g.devices k left is.devices_are.count here in
      (d.0, d.1, is.devices_are.each k d.0 left d.1 here)

  device_wanted : (k : ℕ) (op : Op) → device_want (slice_get b.devices k) ≡ Some op → Wants g (ActorId.Device k) op
  device_wanted k op want =
      let l = left_there (slice_get b.devices k) op want in
      let d = device_leads k l.0 l.1 in
      subst (λ (o : Option FlatDevice). WantsOf o op) (sym d.1) (left_wants d.0 l.0 op d.2 l.2)

  pub want_in : (actor : ActorId) (op : Op) → wants b.timer b.harts b.devices actor ≡ Some op → Wants g actor op
  want_in ActorId.Timer op want =
      subst (λ (o : Op). Wants g ActorId.Timer o) (some_is (timer.timer_wants b.timer) op want)
      (timer_traces.timer_continues (g.steps ActorId.Timer) b.timer is.timer_is)
  want_in (ActorId.Hart k) op want = hart_wanted k op want
  want_in (ActorId.Device k) op want = device_wanted k op want

  -- an act on a port is on one that is there
  pub port_there : (actor : ActorId) (op : Op) → wants b.timer b.harts b.devices actor ≡ Some op
      → IsPortThere (length g.ports) op
  port_there ActorId.Timer op want =
      no_port_there (length g.ports) op
      (ap is_port_op (sym (some_is (timer.timer_wants b.timer) op want)) ∙ timer_port b.timer.due)
  port_there (ActorId.Hart k) op want =
      let h = hart_there (slice_get b.harts k) op want in
      no_port_there (length g.ports) op (ap is_port_op h.2 ∙ never_port h.0)
  port_there (ActorId.Device k) op want =
      let l = left_there (slice_get b.devices k) op want in
      let d = device_leads k l.0 l.1 in
      let sound = is.devices_are.sound.each k d.0 d.1 in
      asked_there (length g.ports) k (left_times sound.0) (device_calls d.0) op
      (ap (λ (n : ℕ). nat_lt k n) is.devices_are.sound.as_many ∙ get_lt g.devices k d.0 d.1)
      (want_own k (whole_pages g.memory) d.0 op sound (left_wants d.0 l.0 op d.2 l.2))

-- what each is given leads it on
abbrev entry : PlaceId → ActorId → Op → Reply → Entry
entry place actor op reply =
    record { stamp = 0; before = 0; actor = actor; place = place; op = op; reply = reply }

module _ (b : Body) (g : Guest) (is : IsGuest b g) (op : Op) (place : PlaceId) (reply : Reply)
    (fit : fits op reply ≡ true) where
  abbrev made : Step
  made = record { op = op; reply = reply }

  pub timer_on : (actor : ActorId) → wants b.timer b.harts b.devices actor ≡ Some op
      → timer.LeadsTo ((guest_after g (entry place actor op reply)).steps ActorId.Timer)
      (timer_after actor b.timer reply)
  timer_on ActorId.Timer want =
      let here : timer.timer_wants b.timer ≡ op = some_is (timer.timer_wants b.timer) op want in
      subst (λ (o : Op). timer.LeadsTo (g.steps ActorId.Timer ++ record { op = o; reply = reply } ∷ [])
      (timer.timer_next b.timer reply)) here
      (timer_leads.leads_next (g.steps ActorId.Timer) b.timer reply is.timer_is
      (subst (λ (o : Op). fits o reply ≡ true) (sym here) fit))
  timer_on (ActorId.Hart k) want = is.timer_is
  timer_on (ActorId.Device k) want = is.timer_is

  module _ (k : ℕ) (h : Hart) (h_is : slice_get b.harts k ≡ Some h) (want : op ≡ hart_wants h) where
    abbrev next : Hart
    next = hart_next h reply

    own_on : (start : Regs) → slice_get g.starts k ≡ Some start
        → LeadsTo start (g.steps (ActorId.Hart k) ++ record { op = op; reply = reply } ∷ []) next
    own_on start start_is =
        subst (λ (o : Op). LeadsTo start (g.steps (ActorId.Hart k) ++ record { op = o; reply = reply } ∷ []) next)
        (sym want)
        (leads_next start (g.steps (ActorId.Hart k)) h reply (is.harts_are.each k start h start_is h_is)
        (subst (λ (o : Op). fits o reply ≡ true) want fit))

    each_by : (same : Bool) (j : ℕ) (start : Regs) (q : Hart) → (j == k) ≡ same → slice_get g.starts j ≡ Some start
        → slice_get (slice_set b.harts k next) j ≡ Some q
        → LeadsTo start (cond same (g.steps (ActorId.Hart j) ++ record { op = op; reply = reply } ∷ [])
        (g.steps (ActorId.Hart j))) q
    each_by true j start q same start_is q_is =
        let here : j ≡ k = eqb-true j k same in
        let last : next ≡ q = some_is next q (sym (get_set_same b.harts k h next h_is) ∙ sym
        (ap (λ (i : ℕ). slice_get (slice_set b.harts k next) i) here) ∙ q_is) in
        let start_here : slice_get g.starts k ≡ Some start =
        ap (λ (i : ℕ). slice_get g.starts i) (sym here) ∙ start_is in
        subst (λ (x : Hart). LeadsTo start (g.steps (ActorId.Hart j) ++ record { op = op; reply = reply } ∷ []) x) last
        (subst (λ (i : ℕ). LeadsTo start (g.steps (ActorId.Hart i) ++ record { op = op; reply = reply } ∷ []) next)
        (sym here) (own_on start start_here))
    each_by false j start q same start_is q_is =
        is.harts_are.each j start q start_is (sym (get_set_other b.harts j k next (eqb-false j k same)) ∙ q_is)

    one_on : AreHarts (slice_set b.harts k next) (guest_after g (entry place (ActorId.Hart k) op reply))
    one_on = record {
      count = length-set b.harts k next ∙ is.harts_are.count;
      each = λ j start q start_is q_is. each_by (j == k) j start q refl start_is q_is;
    }

  pub harts_on : (actor : ActorId) → wants b.timer b.harts b.devices actor ≡ Some op
      → AreHarts (harts_after actor b.harts reply) (guest_after g (entry place actor op reply))
  harts_on ActorId.Timer want = record { count = is.harts_are.count; each = is.harts_are.each }
  harts_on (ActorId.Hart k) want =
      let h = hart_there (slice_get b.harts k) op want in
      subst (λ (o : Option Hart). AreHarts (with_reply o b.harts k reply) (guest_after g (entry place (ActorId.Hart k) op reply)))
      (sym h.1) (one_on k h.0 h.1 h.2)
  harts_on (ActorId.Device k) want = record { count = is.harts_are.count; each = is.harts_are.each }

  module _ (k : ℕ) (left : DeviceLeft) (left_is : slice_get b.devices k ≡ Some left) (want : op ≡ device_wants left)
      (x : FlatDevice) (x_is : slice_get g.devices k ≡ Some x) where
    leads_by : (same : Bool) (j : ℕ) (d : FlatDevice) (l : DeviceLeft) → (j == k) ≡ same
        → slice_get (slice_set g.devices k (device_did x made)) j ≡ Some d
        → slice_get (slice_set b.devices k (device_next left reply)) j ≡ Some l → DeviceLeads d l
    leads_by true j d l same d_is l_is =
        let here : j ≡ k = eqb-true j k same in
        let first : device_did x made ≡ d = some_is (device_did x made) d
        (sym (get_set_same g.devices k x (device_did x made) x_is)
        ∙ sym (ap (λ (i : ℕ). slice_get (slice_set g.devices k (device_did x made)) i) here) ∙ d_is) in
        let second : device_next left reply ≡ l = some_is (device_next left reply) l
        (sym (get_set_same b.devices k left (device_next left reply) left_is)
        ∙ sym (ap (λ (i : ℕ). slice_get (slice_set b.devices k (device_next left reply)) i) here) ∙ l_is) in
        let leads : DeviceLeads x left = is.devices_are.each k x left x_is left_is in
        subst (λ (e : FlatDevice). DeviceLeads e l) first
        (subst (λ (m : DeviceLeft). DeviceLeads (device_did x made) m) second (did_leads x left made leads want fit))
    leads_by false j d l same d_is l_is =
        is.devices_are.each j d l (sym (get_set_other g.devices j k (device_did x made) (eqb-false j k same)) ∙ d_is)
        (sym (get_set_other b.devices j k (device_next left reply) (eqb-false j k same)) ∙ l_is)

    count_on : length (slice_set b.devices k (device_next left reply)) ≡ length (slice_set g.devices k (device_did x made))
    count_on =
        length-set b.devices k (device_next left reply) ∙ is.devices_are.count
        ∙ sym (length-set g.devices k (device_did x made))

  module _ (actor : ActorId) (want : wants b.timer b.harts b.devices actor ≡ Some op) where
    abbrev after : Guest
    after = guest_after g (entry place actor op reply)

    still_sound : AreSoundDevices (whole_pages after.memory) after.ports after.devices
    still_sound = sound_after g is.devices_are.sound place actor op reply (want_in b g is actor op want) fit

  device_on : (k : ℕ) (want : wants b.timer b.harts b.devices (ActorId.Device k) ≡ Some op)
      → AreDevices (lefts_after (ActorId.Device k) b.devices reply) (guest_after g (entry place (ActorId.Device k) op reply))
  device_on k want =
      let l = left_there (slice_get b.devices k) op want in
      let d = device_leads b g is k l.0 l.1 in
      let before : devices_given (slice_get b.devices k) b.devices k reply
      ≡ slice_set b.devices k (device_next l.0 reply) =
      ap (λ (o : Option DeviceLeft). devices_given o b.devices k reply) l.1 in
      let there : device_after (slice_get g.devices k) g.devices k made ≡ slice_set g.devices k (device_did d.0 made) =
      ap (λ (o : Option FlatDevice). device_after o g.devices k made) d.1 in
      record {
        count = ap length before ∙ count_on k l.0 l.1 l.2 d.0 d.1 ∙ sym (ap length there);
        each = λ j e m e_is m_is. leads_by k l.0 l.1 l.2 d.0 d.1 (j == k) j e m refl
            (sym (ap (λ (xs : List FlatDevice). slice_get xs j) there) ∙ e_is)
            (sym (ap (λ (xs : List DeviceLeft). slice_get xs j) before) ∙ m_is);
        sound = still_sound (ActorId.Device k) want;
      }

  pub devices_on : (actor : ActorId) → wants b.timer b.harts b.devices actor ≡ Some op
      → AreDevices (lefts_after actor b.devices reply) (guest_after g (entry place actor op reply))
  devices_on ActorId.Timer want = record {
    count = is.devices_are.count;
    each = is.devices_are.each;
    sound = still_sound ActorId.Timer want;
  }
  devices_on (ActorId.Hart k) want = record {
    count = is.devices_are.count;
    each = is.devices_are.each;
    sound = still_sound (ActorId.Hart k) want;
  }
  devices_on (ActorId.Device k) want = device_on k want
