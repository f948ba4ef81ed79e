-- A guest whose copy passes each test of a state file stays one.
use Rattle.std.proofs.Common.{◌≡◌, ◌≤◌, ◌<◌, ℕ, zero, suc, ◌*◌, ◌%◌, Bool, true, false, cond, refl, sym, subst, ◌∙◌, List, [], ◌∷◌, ◌++◌, length, replicate, Option, Some, None, slice_get, arith}
use Rattle.std.specs.List.{All}
use Rattle.std.proofs.lemmas.Bool.{ltb-true}
use Rattle.std.proofs.lemmas.List.{length-replicate, length-set}
use Rattle.std.proofs.lemmas.List.Elements.{All-head, All-replicate, All-set, All-tail}
use Rattle.vm_types.specs.declared.ids.ActorId.{ActorId}
use Rattle.vm_types.specs.declared.ids.PlaceId.{PlaceId}
use Rattle.vm_types.specs.declared.op.Op.{Op}
use Rattle.vm_types.specs.declared.reply.Reply.{Reply}
use Rattle.vm_types.specs.declared.entry.Step.{Step}
use Rattle.vm_types.specs.declared.entry.Entry.{Entry}
use Rattle.vm_types.specs.Fits.{fits}
use Rattle.vm_types.specs.Ids.{same_actor}
use Rattle.guest_memory.specs.Boot.{Loads, boot_memory, bytes_of_mib, image_start, tree_start}
use Rattle.guest_memory.specs.Kept as memory_kept
use Rattle.guest_memory.specs.Memory as memory
use Rattle.guest_memory.specs.Ram.{page_size}
use Rattle.guest_memory.specs.Reserved.{hart_limit}
use Rattle.board_table.specs.Acts as board_acts
use Rattle.board_table.specs.Board.{Board}
use Rattle.board_table.specs.Kept as board_kept
use Rattle.port_table.specs.declared.kind.DeviceKind.{DeviceKind}
use Rattle.port_table.specs.declared.state.PortState.{PortState}
use Rattle.rv_supervisor.specs.declared.regs.Regs.{Regs}
use Rattle.rv_supervisor.specs.Start.{start_regs}
use Rattle.flat_guest.specs.Given.{Event}
use Rattle.flat_guest.specs.Given.Given.{Nothing}
use Rattle.hart_trace.specs.States.{Hart, LeadsTo, fresh, hart_next, hart_wants}
use Rattle.hart_trace.specs.Stopped.{stopped_regs}
use Rattle.hart_trace.proofs.Leads.{leads_next}
use Rattle.hart_trace.proofs.OneHart.{one_hart}
use Rattle.hart_trace.proofs.Traces.{leads_start, some_hart, wants_only}
use Rattle.guest_devices.specs.declared.change.DeviceChange.{DeviceChange}
use Rattle.guest_devices.specs.declared.new_device.NewDevice.{NewDevice}
use Rattle.guest_devices.specs.Moments.{IsFreshNew, is_fresh_change}
use Rattle.flat_guest.specs.Body.{out_reply, reply_at}
use Rattle.flat_guest.specs.Changes.{board_shown, reset_guest, told}
use Rattle.flat_guest.specs.Guest.{Guest, Wants, WantsFrom, unwritten, whole_pages}
use Rattle.flat_guest.specs.Sound.{IsSound}
use Rattle.flat_guest.specs.Start.{start_of_harts, started, timer_restarted}
use Rattle.flat_guest.specs.Steps.{FlatStep, board_after, guest_after, memory_after, port_reply, ports_after}
use Rattle.flat_guest.proofs.Lists.{get_lt}
use Rattle.flat_guest.proofs.Soundness.{fit, hart_port_by, replied, same_hart, wants_from}
use Rattle.guest_memory.proofs.Wholes.{booted_whole, touch_ram, touch_whole}
use Rattle.board_table.proofs.Lengths.{board_long, drained_long, new_long, raised_long}
use Rattle.flat_guest.proofs.SameKinds.{ports_same, shown_kinds}
use Rattle.hart_trace.specs.Kept as hart
use Rattle.hart_trace.proofs.Shapes.{hart_shaped, start_shaped, stopped_shaped}
use Rattle.flat_guest.specs.Shaped.{IsShaped, kinds_at_start}
use Rattle.flat_guest.specs.Sound.{port_kinds}
use Rattle.flat_guest.specs.Steps.{Makes}
use Rattle.flat_guest.proofs.Soundness.{sound_next}
use Rattle.flat_guest.proofs.Timely.{timely_after, timely_reset, timely_start, timely_told}

get_all : {A : Type 0} (P : A → Type 0) (xs : List A) (k : ℕ) (x : A) → slice_get xs k ≡ Some x → All P xs → P x
get_all P [] k x is all = cc
get_all P (y ∷ xs) zero x is all =
    let same : y ≡ x = cc in
    subst P same (All-head P y xs all)
get_all P (y ∷ xs) (suc k) x is all = get_all P xs k x is (All-tail P y xs all)

-- ---- to a load-reserved no place but RAM replies a word

of_memory : (size : ℕ) (op : Op) (reply : Reply) → memory_kept.IsRamReply size op reply → hart.IsRamReply size op reply
of_memory size (Op.Lr at wide) (Reply.Word old) ram = ram
of_memory size op reply ram = tt

board_ram : (size : ℕ) (b : Board) (actor : ActorId) (op : Op) → hart.IsRamReply size op (board_acts.touch b actor op).0
board_ram size b actor (Op.Lr at wide) = tt
board_ram size b actor op = tt

port_ram : (size : ℕ) (o : Option PortState) (actor : ActorId) (op : Op) → hart.IsRamReply size op (port_reply o actor op)
port_ram size None actor (Op.Lr at wide) = tt
port_ram size None actor op = tt
port_ram size (Some p) actor (Op.Lr at wide) = tt
port_ram size (Some p) actor op = tt

out_ram : (size : ℕ) (op : Op) → hart.IsRamReply size op (out_reply op Nothing)
out_ram size (Op.Lr at wide) = tt
out_ram size op = tt

-- ---- an event

module _ (pages harts : ℕ) (kinds : List DeviceKind) (g : Guest) (event : Event) (e : Entry) (h : Guest) (sound : IsSound g)
    (is : IsShaped pages harts kinds g) (step : FlatStep g event e h) where
  abbrev size : ℕ
  size = page_size * pages

  -- a hart is there
  hart_there : (k : ℕ) (o : Option Regs) → slice_get g.starts k ≡ o → WantsFrom o (g.steps (ActorId.Hart k)) e.op → k < harts
  hart_there k None there want = absurd want
  hart_there k (Some start) there want =
      let many = is.many in
      omega (arith, many, ltb-true k (length g.starts) (get_lt g.starts k start there))

  one_of : (actor : ActorId) → Wants g actor e.op → memory_kept.IsOneOf harts actor
  one_of ActorId.Timer want = tt
  one_of (ActorId.Hart k) want = hart_there k (slice_get g.starts k) refl want
  one_of (ActorId.Device k) want = tt

  memory_on : (place : PlaceId) → memory_kept.IsWhole pages harts (memory_after place g.memory e.actor e.op)
  memory_on (PlaceId.Page i) = touch_whole pages harts g.memory e.actor e.op (one_of e.actor step.want) is.memory
  memory_on PlaceId.Board = is.memory
  memory_on (PlaceId.Port k) = is.memory
  memory_on PlaceId.Out = is.memory

  board_on : (place : PlaceId) → board_kept.IsLong harts (board_after place g.board e.actor e.op)
  board_on (PlaceId.Page i) = is.board
  board_on PlaceId.Board = board_long harts g.board is.board e.actor e.op
  board_on (PlaceId.Port k) = is.board
  board_on PlaceId.Out = is.board

  ports_on : (place : PlaceId) → port_kinds (ports_after place g.ports e.actor e.op) ≡ kinds
  ports_on place = ports_same place g.ports e.actor e.op ∙ is.ports

  place_replies : (place : PlaceId) → hart.IsRamReply size e.op (reply_at place g.memory g.board g.ports e.actor e.op Nothing)
  place_replies (PlaceId.Page i) =
      of_memory size e.op (memory.touch g.memory e.actor e.op).0
      (subst (λ (n : ℕ). memory_kept.IsRamReply n e.op (memory.touch g.memory e.actor e.op).0) is.memory.many_bytes
      (touch_ram g.memory e.actor e.op))
  place_replies PlaceId.Board = board_ram size g.board e.actor e.op
  place_replies (PlaceId.Port k) = port_ram size (slice_get g.ports k) e.actor e.op
  place_replies PlaceId.Out = out_ram size e.op

  -- ---- the harts

  own_hart : (k : ℕ) (start : Regs) (now : Hart) → slice_get g.starts k ≡ Some start → e.actor ≡ ActorId.Hart k
      → LeadsTo start (g.steps (ActorId.Hart k) ++ record { op = e.op; reply = e.reply } ∷ []) now → hart.IsShaped size now
  own_hart k start now there mine leads =
      let steps : List Step = g.steps (ActorId.Hart k) in
      let fitting : fits e.op e.reply ≡ true = fit g event e h sound step in
      let wants : Wants g (ActorId.Hart k) e.op = subst (λ (a : ActorId). Wants g a e.op) mine step.want in
      let before = some_hart start steps (sound.harts_on k start there) in
      let asked : e.op ≡ hart_wants before.0 =
      wants_only start steps before.0 e.op before.1 (wants_from (slice_get g.starts k) start steps e.op there wants) in
      let apart = hart_port_by g k e.op (Some start) there sound wants in
      let replies : hart.IsRamReply size e.op e.reply =
      subst (λ (r : Reply). hart.IsRamReply size e.op r) (sym (replied e.place g e.actor e.op event.given e.reply apart.1 step.answer))
      (place_replies e.place) in
      let wholes : size % 8 ≡ 0 = omega arith in
      let shaped : hart.IsShaped size (hart_next before.0 e.reply) =
      hart_shaped size before.0 e.reply wholes (subst (λ (o : Op). hart.IsRamReply size o e.reply) asked replies)
      (is.each k start before.0 there before.1) in
      let next : LeadsTo start (steps ++ record { op = e.op; reply = e.reply } ∷ []) (hart_next before.0 e.reply) =
      subst (λ (o : Op). LeadsTo start (steps ++ record { op = o; reply = e.reply } ∷ []) (hart_next before.0 e.reply)) (sym asked)
      (leads_next start steps before.0 e.reply before.1 (subst (λ (o : Op). fits o e.reply ≡ true) asked fitting)) in
      subst (λ (q : Hart). hart.IsShaped size q)
      (one_hart start (steps ++ record { op = e.op; reply = e.reply } ∷ []) (hart_next before.0 e.reply) now next leads) shaped

  hart_on : (k : ℕ) (start : Regs) (now : Hart) (b : Bool) → slice_get g.starts k ≡ Some start
      → same_actor (ActorId.Hart k) e.actor ≡ b
      → LeadsTo start (cond b (g.steps (ActorId.Hart k) ++ record { op = e.op; reply = e.reply } ∷ []) (g.steps (ActorId.Hart k))) now
      → hart.IsShaped size now
  hart_on k start now true there same leads = own_hart k start now there (same_hart k e.actor same) leads
  hart_on k start now false there same leads = is.each k start now there leads

  shaped_after : IsShaped pages harts kinds (guest_after g e)
  shaped_after = record {
    few = is.few;
    memory = memory_on e.place;
    board = board_on e.place;
    ports = ports_on e.place;
    many = is.many;
    each = λ k start now there leads. hart_on k start now (same_actor (ActorId.Hart k) e.actor) there refl leads;
    timely = timely_after g event e h sound is.timely step;
  }

  pub shaped_next : IsShaped pages harts kinds h
  shaped_next = subst (λ (q : Guest). IsShaped pages harts kinds q) (sym step.after) shaped_after

-- several of one actor
pub shaped_makes : (pages harts : ℕ) (kinds : List DeviceKind) (es : List Entry) (g h : Guest) (actor : ActorId) → IsSound g → IsShaped pages harts kinds g
    → Makes g actor es h → IsShaped pages harts kinds h
shaped_makes pages harts kinds [] g h actor sound is same = subst (λ (q : Guest). IsShaped pages harts kinds q) same is
shaped_makes pages harts kinds (e ∷ es) g h actor sound is (unstamped, mid, step, more) =
    let event : Event = record { actor = actor; given = Nothing } in
    shaped_makes pages harts kinds es mid h actor (sound_next g event e mid sound step) (shaped_next pages harts kinds g event e mid sound is step) more

-- ---- a start

starts_shaped : (harts mib size : ℕ) → All (λ (r : Regs). hart.IsShaped size (fresh r)) (start_of_harts harts mib)
starts_shaped harts mib size =
    All-set (λ (r : Regs). hart.IsShaped size (fresh r)) (replicate harts stopped_regs) 0 (start_regs image_start 0 (tree_start mib))
    (start_shaped size image_start 0 (tree_start mib) refl)
    (All-replicate (λ (r : Regs). hart.IsShaped size (fresh r)) harts stopped_regs (stopped_shaped size))

pub shaped_start : (harts mib : ℕ) (loads : Loads) (devices : List NewDevice) → harts ≤ hart_limit
    → length (boot_memory mib loads).bytes ≡ bytes_of_mib mib → All IsFreshNew devices
    → IsShaped (256 * mib) harts (kinds_at_start devices) (started harts mib loads devices)
shaped_start harts mib loads devices few whole new = record {
  few = few;
  memory = booted_whole mib harts loads whole;
  board = new_long harts;
  ports = refl;
  many =
      length-set (replicate harts stopped_regs) 0 (start_regs image_start 0 (tree_start mib))
      ∙ length-replicate {A = Regs} harts stopped_regs;
  each = λ k start now there leads.
      subst (λ (q : Hart). hart.IsShaped (page_size * (256 * mib)) q) (one_hart start [] (fresh start) now (leads_start start) leads)
      (get_all (λ (r : Regs). hart.IsShaped (page_size * (256 * mib)) (fresh r)) (start_of_harts harts mib) k start there
      (starts_shaped harts mib (page_size * (256 * mib))));
  timely = timely_start 0 (whole_pages (boot_memory mib loads)) 0 devices new;
}

-- ---- what is no event

pub shaped_restart : (pages harts : ℕ) (kinds : List DeviceKind) (g : Guest) → IsShaped pages harts kinds g → IsShaped pages harts kinds (timer_restarted g)
shaped_restart pages harts kinds g is = record {
  few = is.few;
  memory = is.memory;
  board = is.board;
  ports = is.ports;
  many = is.many;
  each = λ k start now there leads. is.each k start now there leads;
  timely = is.timely;
}

pub shaped_unwritten : (pages harts : ℕ) (kinds : List DeviceKind) (g : Guest) → IsShaped pages harts kinds g → IsShaped pages harts kinds (unwritten g)
shaped_unwritten pages harts kinds g is = record {
  few = is.few;
  memory = is.memory;
  board = is.board;
  ports = is.ports;
  many = is.many;
  each = λ k start now there leads. is.each k start now there leads;
  timely = is.timely;
}

pub shaped_reset : (pages harts : ℕ) (kinds : List DeviceKind) (g : Guest) → IsShaped pages harts kinds g → IsShaped pages harts kinds (reset_guest g)
shaped_reset pages harts kinds g is = record {
  few = is.few;
  memory = is.memory;
  board = is.board;
  ports = is.ports;
  many = is.many;
  each = λ k start now there leads. is.each k start now there leads;
  timely = timely_reset g is.timely;
}

pub shaped_drained : (pages harts : ℕ) (kinds : List DeviceKind) (g : Guest) → IsShaped pages harts kinds g
    → IsShaped pages harts kinds (record g { board = record g.board { console = [] } })
shaped_drained pages harts kinds g is = record {
  few = is.few;
  memory = is.memory;
  board = drained_long harts g.board is.board;
  ports = is.ports;
  many = is.many;
  each = λ k start now there leads. is.each k start now there leads;
  timely = is.timely;
}

shown_long : (shown : Option (List ℕ)) (harts k : ℕ) (b : Board) → board_kept.IsLong harts b → board_kept.IsLong harts (board_shown shown b k)
shown_long None harts k b is = is
shown_long (Some bytes) harts k b is = raised_long harts b is (ActorId.Device k)

pub shaped_told : (pages harts : ℕ) (kinds : List DeviceKind) (g : Guest) (k : ℕ) (change : DeviceChange) (shown : Option (List ℕ))
    → is_fresh_change change ≡ true → IsShaped pages harts kinds g → IsShaped pages harts kinds (told k change shown g)
shaped_told pages harts kinds g k change shown fresh is = record {
  few = is.few;
  memory = is.memory;
  board = shown_long shown harts k g.board is.board;
  ports = shown_kinds shown k g.ports ∙ is.ports;
  many = is.many;
  each = λ j start now there leads. is.each j start now there leads;
  timely = timely_told g k change shown fresh is.timely;
}
