-- A slice's events, and a drain, are a run over the items that tell them.
use Rattle.std.proofs.Common.{◌≡◌, ◌<◌, nat_le, ℕ, zero, suc, Bool, true, false, if◌then◌else◌, refl, sym, ap, ◌∙◌, subst, List, [], ◌∷◌, ◌++◌, map, take, drop, append-nil, take-append-drop, Option, Some, ◌⊎◌, inl, inr}
use Rattle.std.proofs.lemmas.Bool.{and_parts, le-leb}
use Rattle.std.proofs.lemmas.List.Elements.{All-cons}
use Rattle.vm_types.specs.declared.entry.Entry.{Entry}
use Rattle.vm_types.specs.declared.ids.ActorId.{ActorId}
use Rattle.vm_types.specs.declared.op.Op.{Op}
use Rattle.vm_types.specs.declared.reply.Reply.{Reply}
use Rattle.script_text.specs.declared.item.HostReply.TheVariants as lines
use Rattle.script_text.specs.declared.item.Item.{Item}
use Rattle.script_text.specs.declared.item.Item.TheVariants as item
use Rattle.board_table.specs.Board.{Board}
use Rattle.flat_guest.specs.Given.{Given}
use Rattle.flat_guest.specs.Given.Given.{Host, Nothing}
use Rattle.flat_guest.specs.Guest.{Guest, Wants}
use Rattle.flat_guest.specs.Steps.{FlatStep}
use Rattle.flat_machine.specs.Given.{reply_given}
use Rattle.flat_machine.specs.Items.{Answers}
use Rattle.flat_machine.specs.Machine.{Machine, running, running_by}
use Rattle.flat_machine.specs.Run.{Act}
use Rattle.vm_world.specs.Worlds.{IsWorld, WorldValue}
use Rattle.slice_runner.specs.Slices.{Leads, event_of, given_of}
use Rattle.monitor_running.specs.Happened.{HavePorts}
use Rattle.monitor_running.proofs.Asked.{IsAsking, IsDeviceCall, is_asking}
use Rattle.device_trace.specs.Acts.{is_disk_call}
use Rattle.guest_devices.specs.Kinds.{Balloon, Block, Entropy, Kind, Net, Vsock, calls_of}
use Rattle.flat_guest.specs.Sound.{IsSound}
use Rattle.flat_guest.proofs.Soundness.{sound_next}
use Rattle.vm_types.specs.declared.op.OutOp.{OutOp}
use Rattle.vm_types.specs.declared.op.OutOp.TheVariants.{DiskFlush, DiskRead, DiskWrite, DrawWord, HostClose, HostDial, HostNext, HostSend, LinkEnd, LinkPart, LinkSend, LinkTake}
use Rattle.vm_types.specs.Fits.{out_fits}
use Rattle.serve_host.specs.Events.{event_items, frame_reply, host_reply, item_by, item_of}
use Rattle.flat_trace.specs.Events.{drain_items, event_acts, quiet_act}
use Rattle.port_table.specs.Window.{most_ports}
use Rattle.vm_outside.specs.Known.{Health}
use Rattle.monitor_machine.specs.Kinds.{DevicesKnown, disks, links, vsocks}
use Rattle.monitor_machine.specs.Objects.{AreNamed, AreNamedBy, Named, ObjectKind}
use Rattle.monitor_running.specs.Asked.{ActorHasOwn, DevicesAnswered, HasOwn, Healths, ItemAsks}
use Rattle.monitor_running.specs.Devices.{AsksDevices, IsHeard, IsShort, WereAsked}
use Rattle.monitor_running.specs.Items.{drained_world}
use Rattle.monitor_running.specs.Reached.{AreOwn, NoLineage, Seen, Start, gives_lineage, told_at}
use Rattle.monitor_running.proofs.Attached.{StillTell, actor_own, own_asked, own_kept, tell_on}
use Rattle.monitor_running.proofs.Events.{rests_same, rests_uncalled}
use Rattle.monitor_running.proofs.Joins.{none_given, one_given, uncalled_none}
use Rattle.flat_trace.specs.Showing.{HasEvent, Out, Run, TraceStep, items_of, said, shown}
use Rattle.flat_trace.specs.Showing.Out.{Quiet, Shown}
use Rattle.flat_trace.proofs.Lines.{guest_is}

abbrev pub with_guest : Machine → Guest → Machine
with_guest m g = record m { guest = Some g }

-- a machine whose guest runs isn't paused
some_runs : (guest : Option Guest) (paused : Bool) (g h : Guest) → running_by guest paused ≡ Some g → running_by (Some h) paused ≡ Some h
some_runs guest true g h is = cc
some_runs guest false g h is = refl

pub still_runs : (m : Machine) (g h : Guest) → running m ≡ Some g → running (with_guest m h) ≡ Some h
still_runs m g h is = some_runs m.guest m.paused g h is

-- each of its devices has its own objects
guest_named : {K : Type 0} (kind : ObjectKind K) (start : Health) (m : Machine) (g : Guest) (now : K) → running m ≡ Some g
    → AreNamed kind start m now → (k : ℕ) → k < most_ports → Named kind start m.config k now
guest_named kind start m g now runs named =
    subst (λ (o : Option Guest). AreNamedBy kind start o m.config now) (guest_is m g runs) named

pub guest_own : (s : Start) (m : Machine) (g : Guest) (now : Seen) → running m ≡ Some g → AreOwn s m now
    → (k : ℕ) → k < most_ports → HasOwn (told_at s) m.config k now.host.devices
guest_own s m g now runs own k less = record {
  disk = guest_named disks (told_at s).disk m g now.host.devices.disk runs own.disk k less;
  link = guest_named links (told_at s).link m g now.host.devices.link runs own.link k less;
  vsock = guest_named vsocks (told_at s).vsock m g now.host.devices.vsock runs own.vsock k less;
}

-- ---- an event

-- the entry as it is outside a slice
abbrev unstamped : Entry → Entry
unstamped e = record e { stamp = 0; before = 0 }

-- a line gives an actor just what it tells
disk_again : (act : OutOp) (reply : Reply) → is_disk_call act ≡ true → out_fits act reply ≡ true
    → reply_given (host_reply reply) ≡ Host reply
disk_again (DiskRead sector part) (Reply.Bytes piece) call fits = refl
disk_again (DiskRead sector part) Reply.Failed call fits = refl
disk_again (DiskRead sector part) reply call fits = cc
disk_again (DiskWrite sector part bytes) Reply.Done call fits = refl
disk_again (DiskWrite sector part bytes) Reply.Failed call fits = refl
disk_again (DiskWrite sector part bytes) reply call fits = cc
disk_again DiskFlush Reply.Done call fits = refl
disk_again DiskFlush Reply.Failed call fits = refl
disk_again DiskFlush reply call fits = cc
disk_again act reply call fits = cc

frame_again : (length : ℕ) → nat_le length 1514 ≡ true → reply_given (frame_reply length) ≡ Host (Reply.Frame length)
frame_again length fits = ap (λ (b : Bool). reply_given (if b then lines.Frame length else lines.Failed)) fits

link_again : (act : OutOp) (reply : Reply) → calls_of Net act ≡ true → out_fits act reply ≡ true
    → reply_given (host_reply reply) ≡ Host reply
link_again LinkTake (Reply.Frame length) call fits = frame_again length (and_parts (nat_le 14 length) (nat_le length 1514) fits).1
link_again LinkTake Reply.Nothing call fits = refl
link_again LinkTake Reply.Failed call fits = refl
link_again LinkTake reply call fits = cc
link_again (LinkPart index length) (Reply.Bytes piece) call fits = refl
link_again (LinkPart index length) Reply.Failed call fits = refl
link_again (LinkPart index length) reply call fits = cc
link_again (LinkSend piece) Reply.Done call fits = refl
link_again (LinkSend piece) Reply.Failed call fits = refl
link_again (LinkSend piece) reply call fits = cc
link_again LinkEnd Reply.Done call fits = refl
link_again LinkEnd Reply.Failed call fits = refl
link_again LinkEnd reply call fits = cc
link_again act reply call fits = cc

socket_again : (act : OutOp) (reply : Reply) → calls_of Vsock act ≡ true → out_fits act reply ≡ true → IsShort (Op.Out act) reply
    → reply_given (host_reply reply) ≡ Host reply
socket_again HostNext Reply.Nothing call fits short = refl
socket_again HostNext (Reply.Opened connection) call fits short = refl
socket_again HostNext (Reply.Received piece connection) call fits short =
    ap (λ (b : Bool). if b then Host (Reply.Received piece connection) else Nothing) (le-leb _ 64 short)
socket_again HostNext (Reply.Ended connection) call fits short = refl
socket_again HostNext Reply.Failed call fits short = refl
socket_again HostNext reply call fits short = cc
socket_again (HostDial port) (Reply.Dialled connection) call fits short = refl
socket_again (HostDial port) Reply.Nothing call fits short = refl
socket_again (HostDial port) Reply.Failed call fits short = refl
socket_again (HostDial port) reply call fits short = cc
socket_again (HostSend piece connection) Reply.Done call fits short = refl
socket_again (HostSend piece connection) Reply.Failed call fits short = refl
socket_again (HostSend piece connection) reply call fits short = cc
socket_again (HostClose connection) Reply.Done call fits short = refl
socket_again (HostClose connection) Reply.Failed call fits short = refl
socket_again (HostClose connection) reply call fits short = cc
socket_again act reply call fits short = cc

word_again : (act : OutOp) (reply : Reply) → calls_of Entropy act ≡ true → out_fits act reply ≡ true
    → reply_given (host_reply reply) ≡ Host reply
word_again DrawWord (Reply.Drawn word) call fits = refl
word_again DrawWord Reply.Failed call fits = refl
word_again DrawWord reply call fits = cc
word_again act reply call fits = cc

call_again : (kind : Kind) (act : OutOp) (reply : Reply) → calls_of kind act ≡ true → out_fits act reply ≡ true
    → IsShort (Op.Out act) reply → reply_given (host_reply reply) ≡ Host reply
call_again Block act reply call fits short = disk_again act reply call fits
call_again Net act reply call fits short = link_again act reply call fits
call_again Vsock act reply call fits short = socket_again act reply call fits short
call_again Balloon act reply call fits short = cc
call_again Entropy act reply call fits short = word_again act reply call fits

given_again : (e : Entry) (act : OutOp) → IsAsking e act ⊎ IsDeviceCall e act → e.op ≡ Op.Out act → IsHeard e.actor e.op e.reply
    → reply_given (host_reply e.reply) ≡ Host e.reply
given_again e act (inl asking) is heard =
    subst (λ (r : Reply). reply_given (host_reply r) ≡ Host r) (sym asking.reply) refl
given_again e act (inr own) is heard =
    let device : IsShort e.op e.reply = subst (λ (a : ActorId). IsHeard a e.op e.reply) own.actor heard in
    call_again own.call.0 act e.reply own.call.1 own.fits (subst (λ (o : Op). IsShort o e.reply) is device)

module _ (m : Machine) (g mid : Guest) (e : Entry) (sound : IsSound g) (runs : running m ≡ Some g)
    (step : FlatStep g (event_of e) e mid) (heard : IsHeard e.actor e.op e.reply) where
  has_event : (given : Given) → given_of e.op e.reply ≡ given → HasEvent (running m) e.actor given m (with_guest m mid)
  has_event given is =
      let there : FlatStep g (record { actor = e.actor; given = given }) e mid =
      subst (λ (r : Given). FlatStep g (record { actor = e.actor; given = r }) e mid) is step in
      let answers : Answers g e.actor given m [] (with_guest m mid) = record {
        entry = unstamped e;
        end = mid;
        unstamped = (refl, refl);
        step = record { actor = there.actor; want = there.want; place = there.place; answer = there.answer; after = there.after };
        quiet = refl;
        leaves = refl;
      } in
      subst (λ (o : Option Guest). HasEvent o e.actor given m (with_guest m mid)) (sym runs) answers

  told_plain : given_of e.op e.reply ≡ Nothing → TraceStep (item.Step e.actor 1) [] m Quiet (with_guest m mid)
  told_plain is = (refl, refl, refl, has_event Nothing is)

  told_by : (op : Op) → e.op ≡ op → TraceStep (item_by op e.actor e.reply) [] m Quiet (with_guest m mid)
  told_by (Op.Out act) is =
      let reads : reply_given (host_reply e.reply) ≡ Host e.reply =
      given_again e act (is_asking g (event_of e) e mid act sound step is) is heard in
      (refl, refl, e.reply, reads, has_event (Host e.reply) (ap (λ (o : Op). given_of o e.reply) is))
  told_by (Op.Read at len) is = told_plain (ap (λ (o : Op). given_of o e.reply) is)
  told_by (Op.Write at piece) is = told_plain (ap (λ (o : Op). given_of o e.reply) is)
  told_by (Op.Amo at value kind wide) is = told_plain (ap (λ (o : Op). given_of o e.reply) is)
  told_by (Op.Lr at wide) is = told_plain (ap (λ (o : Op). given_of o e.reply) is)
  told_by (Op.Sc at value wide) is = told_plain (ap (λ (o : Op). given_of o e.reply) is)
  told_by (Op.Port port act) is = told_plain (ap (λ (o : Op). given_of o e.reply) is)
  told_by (Op.Board act) is = told_plain (ap (λ (o : Op). given_of o e.reply) is)
  told_by Op.Idle is = told_plain (ap (λ (o : Op). given_of o e.reply) is)

  pub told : TraceStep (item_of e) [] m Quiet (with_guest m mid)
  told = told_by e.op refl

  module _ (start : Healths) (old now : DevicesKnown) (own : ActorHasOwn start m.config e.actor old) where
    asks_by : (op : Op) → e.op ≡ op → AsksDevices op e.actor e.reply old now
        → ItemAsks start (item_by op e.actor e.reply) m.config (running m) old now
    asks_by (Op.Out act) is asks =
        let reads : reply_given (host_reply e.reply) ≡ Host e.reply =
        given_again e act (is_asking g (event_of e) e mid act sound step is) is heard in
        subst (λ (o : Option Guest). ItemAsks start (item.Reply e.actor (host_reply e.reply)) m.config o old now) (sym runs)
        (own, Op.Out act, e.reply, subst (λ (o : Op). Wants g e.actor o) is step.want, reads, asks)
    asks_by op is asks = rests_uncalled old now (record { disk = asks.disk; link = asks.link; vsock = asks.vsock; words = asks.words })

    pub asks : AsksDevices e.op e.actor e.reply old now → ItemAsks start (item_of e) m.config (running m) old now
    asks asked = asks_by e.op refl asked

-- ---- events

abbrev pub quiets : List Entry → List Out
quiets es = map (λ e. Quiet) es

pub quiets_show : (es : List Entry) → shown (quiets es) ≡ []
quiets_show [] = refl
quiets_show (e ∷ es) = quiets_show es

pub quiets_say : (es : List Entry) → said (quiets es) ≡ []
quiets_say [] = refl
quiets_say (e ∷ es) = quiets_say es

pub acts_items : (es : List Entry) → items_of (event_acts es) ≡ event_items es
acts_items [] = refl
acts_items (e ∷ es) = ap (λ (l : List Item). item_of e ∷ l) (acts_items es)

-- none of them gives a lineage
event_unlineaged : (op : Op) (actor : ActorId) (reply : Reply) → gives_lineage (item_by op actor reply) ≡ false
event_unlineaged (Op.Out act) actor reply = refl
event_unlineaged op actor reply = refl

pub events_unlineaged : (es : List Entry) → NoLineage (event_acts es)
events_unlineaged [] = none_given
events_unlineaged (e ∷ es) =
    All-cons (λ (act : Act). gives_lineage act.item ≡ false) (quiet_act (item_of e)) (event_acts es)
    (event_unlineaged e.op e.actor e.reply) (events_unlineaged es)

pub events_run : (es : List Entry) (m : Machine) (g h : Guest) → IsSound g → running m ≡ Some g → Leads g es h → HavePorts es
    → Run (event_acts es) m (quiets es) (with_guest m h)
events_run [] m g h sound runs leads ports =
    (refl, sym (ap (λ (o : Option Guest). record m { guest = o }) (ap (λ (x : Guest). Some x) (sym leads) ∙ sym (guest_is m g runs))))
events_run (e ∷ es) m g h sound runs leads ports = (
  Quiet,
  with_guest m leads.0,
  quiets es,
  refl,
  told m g leads.0 e sound runs leads.1 ports.0.1,
  events_run es (with_guest m leads.0) leads.0 h (sound_next g (event_of e) e leads.0 sound leads.1) (still_runs m g leads.0 runs) leads.2
      ports.1,
)

-- and the objects of devices were asked in it what they were asked in the events
pub events_answered : (es : List Entry) (m : Machine) (g h : Guest) (sound : IsSound g) (runs : running m ≡ Some g) (leads : Leads g es h)
    (ports : HavePorts es) (start : Healths) (old now : DevicesKnown) → StillTell start old
    → ((k : ℕ) → k < most_ports → HasOwn start m.config k old) → WereAsked old es now
    → DevicesAnswered start (event_acts es) m (quiets es) (with_guest m h) (events_run es m g h sound runs leads ports) old now
unfolding events_run
events_answered [] m g h sound runs leads ports start old now still own was = was
events_answered (e ∷ es) m g h sound runs leads ports start old now still own was =
    let same = own_asked e.op e.actor e.reply old was.0 was.1 in (
      was.0,
      asks m g leads.0 e sound runs leads.1 ports.0.1 start old was.0 (actor_own start m.config e.actor old ports.0.0 own) was.1,
      events_answered es (with_guest m leads.0) leads.0 h (sound_next g (event_of e) e leads.0 sound leads.1)
          (still_runs m g leads.0 runs) leads.2 ports.1 start was.0 now (tell_on start old was.0 still same)
          (λ k less. own_kept start m.config k old was.0 still same (own k less)) was.2,
    )

-- the first of the events, and the others
pub leads_split : (n : ℕ) (es : List Entry) (g h : Guest) → Leads g es h
    → (mid : Guest) × Leads g (take n es) mid × Leads mid (drop n es) h
leads_split zero es g h leads = (g, refl, leads)
leads_split (suc n) [] g h leads = (g, refl, leads)
leads_split (suc n) (e ∷ es) g h leads =
    let rest = leads_split n es leads.0 h leads.2 in
    (rest.0, (leads.0, leads.1, rest.1), rest.2)

pub items_append : (a b : List Entry) → event_items (a ++ b) ≡ event_items a ++ event_items b
items_append [] b = refl
items_append (e ∷ a) b = ap (λ (l : List Item). item_of e ∷ l) (items_append a b)

pub items_split : (n : ℕ) (es : List Entry) → event_items es ≡ event_items (take n es) ++ event_items (drop n es)
items_split n es = ap event_items (sym (take-append-drop n es)) ∙ items_append (take n es) (drop n es)

-- ---- a drain

abbrev pub drained_guest : Guest → Guest
drained_guest g = record g { board = record g.board { console = [] } }

abbrev pub drain_acts : List ℕ → List Act
drain_acts bytes = map quiet_act (drain_items bytes)

abbrev pub drain_outs : List ℕ → List Out
drain_outs [] = []
drain_outs (byte ∷ bytes) = Shown (byte ∷ bytes) ∷ []

pub drain_shows : (bytes : List ℕ) → shown (drain_outs bytes) ≡ bytes
drain_shows [] = refl
drain_shows (byte ∷ bytes) = append-nil (byte ∷ bytes)

pub drain_says : (bytes : List ℕ) → said (drain_outs bytes) ≡ []
drain_says [] = refl
drain_says (byte ∷ bytes) = refl

pub drain_told : (bytes : List ℕ) → items_of (drain_acts bytes) ≡ drain_items bytes
drain_told [] = refl
drain_told (byte ∷ bytes) = refl

pub drain_unlineaged : (bytes : List ℕ) → NoLineage (drain_acts bytes)
drain_unlineaged [] = none_given
drain_unlineaged (byte ∷ bytes) = one_given (quiet_act item.Console) refl

pub drain_run : (m : Machine) (h : Guest) (bytes : List ℕ) → bytes ≡ h.board.console
    → Run (drain_acts bytes) (with_guest m h) (drain_outs bytes) (with_guest m (drained_guest h))
drain_run m h [] is =
    (refl, ap (λ (c : List ℕ). with_guest m (record h { board = record h.board { console = c } })) (sym is))
drain_run m h (byte ∷ bytes) is =
    (Shown (byte ∷ bytes), with_guest m (drained_guest h), [], refl, (ap Shown is, (refl, (refl, refl))), (refl, refl))

-- which asks no object of a device
pub drain_answered : (m : Machine) (h : Guest) (bytes : List ℕ) (run : Run (drain_acts bytes) (with_guest m h) (drain_outs bytes) (with_guest m (drained_guest h)))
    (start : Healths) (known : DevicesKnown)
    → DevicesAnswered start (drain_acts bytes) (with_guest m h) (drain_outs bytes) (with_guest m (drained_guest h)) run known known
drain_answered m h [] run start known = rests_same known
drain_answered m h (byte ∷ bytes) run start known = (known, uncalled_none known, rests_same known)

pub drained_is : (w : WorldValue) (g : Guest) → IsWorld w g → IsWorld (drained_world w) (drained_guest g)
drained_is w g is = record {
  memory_is = is.memory_is;
  marks_are = is.marks_are;
  board_is = ap (λ (b : Board). record b { console = [] }) is.board_is;
  ports_are = is.ports_are;
  timer_is = is.timer_is;
  harts_are = record { count = is.harts_are.count; each = is.harts_are.each };
  devices_are = record { count = is.devices_are.count; each = is.devices_are.each; sound = is.devices_are.sound };
}
