-- A guest of which a state file can have the copy stays one.
use Rattle.std.proofs.Common.{◌≡◌, ◌≤◌, ◌<◌, ℕ, zero, suc, ◌*◌, ◌%◌, Bool, true, false, cond, refl, sym, subst, ◌∙◌, List, [], ◌∷◌, ◌++◌, length, map, replicate, Option, Some, None, slice_get, arith}
use Rattle.std.specs.List.{All}
use Rattle.std.proofs.lemmas.Bool.{ltb-true}
use Rattle.std.proofs.lemmas.List.{length-replicate, length-set}
use Rattle.std.proofs.lemmas.List.Elements.{All-cons, All-head, All-nil, All-replicate, All-set, All-tail}
use Rattle.vm_types.specs.declared.ids.ActorId.{ActorId}
use Rattle.vm_types.specs.declared.ids.PlaceId.{PlaceId}
use Rattle.vm_types.specs.declared.op.Op.{Op}
use Rattle.vm_types.specs.declared.op.BoardOp.{BoardOp}
use Rattle.vm_types.specs.declared.reply.Reply.{Reply}
use Rattle.vm_types.specs.declared.reply.Shown.{Shown}
use Rattle.vm_types.specs.declared.reply.Shown.TheVariants.{Pending, Stopped, Start}
use Rattle.vm_types.specs.declared.entry.Step.{Step}
use Rattle.vm_types.specs.declared.entry.Entry.{Entry}
use Rattle.vm_types.specs.Fits.{fits}
use Rattle.vm_types.specs.Ids.{same_actor}
use Rattle.le_fields.specs.Fields.{IsByte}
use Rattle.guest_memory.specs.Boot.{Loads, boot_memory, bytes_of_mib, image_start, tree_start}
use Rattle.guest_memory.specs.Kept as memory_kept
use Rattle.guest_memory.specs.Memory as memory
use Rattle.guest_memory.specs.Ram.{page_size}
use Rattle.guest_memory.specs.Reserved.{hart_limit}
use Rattle.guest_memory.proofs.Keeping.{booted_kept, touch_kept, touch_small}
use Rattle.board_table.specs.Acts as board_acts
use Rattle.board_table.specs.Board.{Board}
use Rattle.board_table.specs.Kept as board_kept
use Rattle.board_table.proofs.Keeping as board
use Rattle.port_table.specs.Acts as port_acts
use Rattle.port_table.specs.declared.kind.DeviceKind.{DeviceKind}
use Rattle.port_table.specs.declared.state.PortState.{PortState}
use Rattle.port_table.specs.Sizes as port_kept
use Rattle.port_table.proofs.Sizes as port
use Rattle.rv_supervisor.specs.declared.regs.Regs.{Regs}
use Rattle.rv_supervisor.specs.Start.{start_regs}
use Rattle.flat_guest.specs.Given.{Event}
use Rattle.flat_guest.specs.Given.Given.{Nothing}
use Rattle.hart_trace.specs.Asks.{is_host_op, is_port_op}
use Rattle.hart_trace.specs.Kept.{IsKept, IsReply, IsSmallOp}
use Rattle.hart_trace.specs.States.{Hart, LeadsTo, fresh, hart_next, hart_wants}
use Rattle.hart_trace.specs.Stopped.{stopped_regs}
use Rattle.hart_trace.proofs.Keeping.{hart_kept, hart_small, start_kept, stopped_kept}
use Rattle.hart_trace.proofs.Leads.{leads_next}
use Rattle.hart_trace.proofs.OneHart.{one_hart}
use Rattle.hart_trace.proofs.Traces.{leads_start, some_hart, wants_only}
use Rattle.timer_trace.specs.States.{wants_by}
use Rattle.timer_trace.proofs.Traces as timer_traces
use Rattle.guest_devices.specs.declared.change.DeviceChange.{DeviceChange}
use Rattle.guest_devices.specs.declared.new_device.NewDevice.{NewDevice}
use Rattle.guest_devices.specs.Ports.{port_at_start}
use Rattle.guest_devices.proofs.Ports.{start_kept as port_start_kept}
use Rattle.flat_guest.specs.Body.{out_reply, reply_at}
use Rattle.flat_guest.specs.Changes.{board_shown, ports_shown, ports_with, told}
use Rattle.flat_guest.specs.Guest.{Guest, Wants, WantsFrom, unwritten}
use Rattle.flat_guest.specs.Savable.{IsSavable, IsSizedPort, IsSmallAct}
use Rattle.flat_guest.specs.Sound.{IsSound}
use Rattle.flat_guest.specs.Start.{start_of_harts, started, timer_restarted}
use Rattle.flat_guest.specs.Steps.{FlatStep, board_after, guest_after, memory_after, port_after, port_reply, ports_after}
use Rattle.flat_guest.proofs.Lists.{get_lt}
use Rattle.flat_guest.proofs.Soundness.{fit, hart_port_by, replied, same_hart, wants_from}

-- ---- small ops, as each place has them

of_memory_op : (op : Op) → IsSmallOp op → memory_kept.IsSmallOp op
of_memory_op (Op.Write at piece) small = small
of_memory_op op small = tt

of_port_op : (op : Op) → IsSmallOp op → port_kept.IsSmallOp op
of_port_op (Op.Write at piece) small = small
of_port_op op small = tt

-- a port of a kind is one of its own
own_port : (kind : DeviceKind) (p : PortState) → port_kept.IsKept kind p → IsSizedPort p
own_port kind p is = subst (λ (k : DeviceKind). port_kept.IsKept k p) (sym is.kind_is) is

of_board_op : (op : Op) → IsSmallOp op → board_kept.IsSmallOp op
of_board_op (Op.Board act) small = small
of_board_op op small = tt

-- ---- and replies

of_shown : (size : ℕ) (act : BoardOp) (shown : Shown) → board_kept.IsSmallShown shown → IsReply size (Op.Board act) (Reply.Shown shown)
of_shown size act (Pending bits) small = tt
of_shown size act Stopped small = tt
of_shown size act (Start pc number word) small = small

faults : (size : ℕ) (op : Op) (reply : Reply) → reply ≡ Reply.AccessFault → IsReply size op Reply.AccessFault → IsReply size op reply
faults size op reply is none = subst (λ (r : Reply). IsReply size op r) (sym is) none

module _ (size : ℕ) (m : memory.Memory) (actor : ActorId) where
  of_memory : (op : Op) (reply : Reply) → reply ≡ (memory.touch m actor op).0 → fits op reply ≡ true
      → memory_kept.IsSmallReply size op reply → IsReply size op reply
  of_memory (Op.Read at len) (Reply.Bytes piece) is fit small = small
  of_memory (Op.Read at len) Reply.AccessFault is fit small = tt
  of_memory (Op.Read at len) reply is fit small = cc
  of_memory (Op.Write at piece) Reply.Done is fit small = tt
  of_memory (Op.Write at piece) Reply.AccessFault is fit small = tt
  of_memory (Op.Write at piece) reply is fit small = cc
  of_memory (Op.Amo at value kind wide) (Reply.Word old) is fit small = tt
  of_memory (Op.Amo at value kind wide) Reply.AccessFault is fit small = tt
  of_memory (Op.Amo at value kind wide) reply is fit small = cc
  of_memory (Op.Lr at wide) (Reply.Word old) is fit small = small
  of_memory (Op.Lr at wide) Reply.AccessFault is fit small = tt
  of_memory (Op.Lr at wide) reply is fit small = cc
  of_memory (Op.Sc at value wide) (Reply.Word failed) is fit small = omega (arith, small)
  of_memory (Op.Sc at value wide) Reply.AccessFault is fit small = tt
  of_memory (Op.Sc at value wide) reply is fit small = cc
  of_memory (Op.Board act) reply is fit small = faults size (Op.Board act) reply is tt
  of_memory (Op.Port k act) reply is fit small = faults size (Op.Port k act) reply is tt
  of_memory (Op.Out act) reply is fit small = faults size (Op.Out act) reply is tt
  of_memory Op.Idle reply is fit small = faults size Op.Idle reply is tt

of_act : (size : ℕ) (act : BoardOp) (reply : Reply) → board_kept.IsSmallReply reply → IsReply size (Op.Board act) reply
of_act size act (Reply.Word value) small = small
of_act size act (Reply.Bytes piece) small = small
of_act size act (Reply.Returned error value) small = small
of_act size act (Reply.Shown shown) small = of_shown size act shown small
of_act size act reply small = tt

module _ (size : ℕ) (b : Board) (actor : ActorId) where
  of_board : (op : Op) (reply : Reply) → reply ≡ (board_acts.touch b actor op).0 → fits op reply ≡ true → board_kept.IsSmallReply reply
      → IsReply size op reply
  of_board (Op.Read at len) (Reply.Bytes piece) is fit small = small
  of_board (Op.Read at len) Reply.AccessFault is fit small = tt
  of_board (Op.Read at len) reply is fit small = cc
  of_board (Op.Write at piece) Reply.Done is fit small = tt
  of_board (Op.Write at piece) Reply.AccessFault is fit small = tt
  of_board (Op.Write at piece) reply is fit small = cc
  of_board (Op.Board act) reply is fit small = of_act size act reply small
  of_board (Op.Amo at value kind wide) reply is fit small = faults size (Op.Amo at value kind wide) reply is tt
  of_board (Op.Lr at wide) reply is fit small = faults size (Op.Lr at wide) reply is tt
  of_board (Op.Sc at value wide) reply is fit small = faults size (Op.Sc at value wide) reply is tt
  of_board (Op.Port k act) reply is fit small = faults size (Op.Port k act) reply is tt
  of_board (Op.Out act) reply is fit small = faults size (Op.Out act) reply is tt
  of_board Op.Idle reply is fit small = faults size Op.Idle reply is tt

-- an act that isn't the device's own
module _ (size : ℕ) (p : PortState) (actor : ActorId) where
  of_port : (op : Op) (reply : Reply) → is_port_op op ≡ false → reply ≡ (port_acts.touch p actor op).0 → fits op reply ≡ true
      → port_kept.IsSmallReply reply → IsReply size op reply
  of_port (Op.Read at len) (Reply.Bytes piece) own is fit small = small
  of_port (Op.Read at len) Reply.AccessFault own is fit small = tt
  of_port (Op.Read at len) reply own is fit small = cc
  of_port (Op.Write at piece) Reply.Done own is fit small = tt
  of_port (Op.Write at piece) Reply.AccessFault own is fit small = tt
  of_port (Op.Write at piece) reply own is fit small = cc
  of_port (Op.Port k act) reply own is fit small = cc
  of_port (Op.Board act) reply own is fit small = faults size (Op.Board act) reply is tt
  of_port (Op.Amo at value kind wide) reply own is fit small = faults size (Op.Amo at value kind wide) reply is tt
  of_port (Op.Lr at wide) reply own is fit small = faults size (Op.Lr at wide) reply is tt
  of_port (Op.Sc at value wide) reply own is fit small = faults size (Op.Sc at value wide) reply is tt
  of_port (Op.Out act) reply own is fit small = faults size (Op.Out act) reply is tt
  of_port Op.Idle reply own is fit small = faults size Op.Idle reply is tt

of_nothing : (size : ℕ) (op : Op) → is_host_op op ≡ false → IsReply size op (out_reply op Nothing)
of_nothing size (Op.Read at len) host = tt
of_nothing size (Op.Write at piece) host = tt
of_nothing size (Op.Amo at value kind wide) host = tt
of_nothing size (Op.Lr at wide) host = tt
of_nothing size (Op.Sc at value wide) host = tt
of_nothing size (Op.Board act) host = tt
of_nothing size (Op.Port k act) host = tt
of_nothing size (Op.Out act) host = cc
of_nothing size Op.Idle host = tt

-- ---- lists

pub get_all : {A : Type 0} (P : A → Type 0) (xs : List A) (k : ℕ) (x : A) → slice_get xs k ≡ Some x → All P xs → P x
get_all P [] k x is all = cc
get_all P (y ∷ xs) zero x is all =
    let same : y ≡ x = cc in
    subst P same (All-head P y xs all)
get_all P (y ∷ xs) (suc k) x is all = get_all P xs k x is (All-tail P y xs all)

-- ---- an event

module _ (pages harts : ℕ) (g : Guest) (event : Event) (e : Entry) (h : Guest) (sound : IsSound g)
    (is : IsSavable pages harts g) (step : FlatStep g event e h) (own : IsSmallAct e.actor e.op) where
  abbrev size : ℕ
  size = page_size * pages

  fitting : fits e.op e.reply ≡ true
  fitting = fit g event e h sound step

  timer_small : (due : Option ℕ) → IsSmallOp (wants_by due)
  timer_small None = tt
  timer_small (Some due) = tt

  -- what is asked for is small
  hart_asks : (k : ℕ) (o : Option Regs) → slice_get g.starts k ≡ o → WantsFrom o (g.steps (ActorId.Hart k)) e.op → IsSmallOp e.op
  hart_asks k None there want = absurd want
  hart_asks k (Some start) there want =
      let steps : List Step = g.steps (ActorId.Hart k) in
      let hart = some_hart start steps (sound.harts_on k start there) in
      subst (λ (o : Op). IsSmallOp o) (sym (wants_only start steps hart.0 e.op hart.1 want))
      (hart_small size hart.0 (is.each k start hart.0 there hart.1))

  asks : (actor : ActorId) → Wants g actor e.op → IsSmallAct actor e.op → IsSmallOp e.op
  asks ActorId.Timer want small =
      let t = timer_traces.some_timer (g.steps ActorId.Timer) sound.timer_on in
      subst (λ (o : Op). IsSmallOp o) (sym (timer_traces.wants_only (g.steps ActorId.Timer) t.0 e.op t.1 want)) (timer_small t.0.due)
  asks (ActorId.Hart k) want small = hart_asks k (slice_get g.starts k) refl want
  asks (ActorId.Device k) want small = small

  small : IsSmallOp e.op
  small = asks e.actor step.want own

  -- a hart is there
  hart_there : (k : ℕ) (o : Option Regs) → slice_get g.starts k ≡ o → WantsFrom o (g.steps (ActorId.Hart k)) e.op → k < harts
  hart_there k None there want = absurd want
  hart_there k (Some start) there want =
      let many = is.many in
      omega (arith, many, ltb-true k (length g.starts) (get_lt g.starts k start there))

  one_of : (actor : ActorId) → Wants g actor e.op → memory_kept.IsOneOf harts actor
  one_of ActorId.Timer want = tt
  one_of (ActorId.Hart k) want = hart_there k (slice_get g.starts k) refl want
  one_of (ActorId.Device k) want = tt

  memory_on : (place : PlaceId) → memory_kept.IsKept pages harts (memory_after place g.memory e.actor e.op)
  memory_on (PlaceId.Page i) =
      touch_kept pages harts g.memory e.actor e.op (one_of e.actor step.want) (of_memory_op e.op small) is.memory
  memory_on PlaceId.Board = is.memory
  memory_on (PlaceId.Port k) = is.memory
  memory_on PlaceId.Out = is.memory

  board_on : (place : PlaceId) → board_kept.IsKept harts (board_after place g.board e.actor e.op)
  board_on (PlaceId.Page i) = is.board
  board_on PlaceId.Board = board.board_kept harts g.board is.board e.actor e.op (of_board_op e.op small)
  board_on (PlaceId.Port k) = is.board
  board_on PlaceId.Out = is.board

  port_on : (k : ℕ) (o : Option PortState) → slice_get g.ports k ≡ o
      → All IsSizedPort (port_after o g.ports k e.actor e.op)
  port_on k None there = is.ports
  port_on k (Some p) there =
      All-set IsSizedPort g.ports k (port_acts.touch p e.actor e.op).1
      (own_port p.kind (port_acts.touch p e.actor e.op).1
      (port.touch_stays p.kind p e.actor e.op (of_port_op e.op small) (get_all IsSizedPort g.ports k p there is.ports))) is.ports

  ports_on : (place : PlaceId) → All IsSizedPort (ports_after place g.ports e.actor e.op)
  ports_on (PlaceId.Page i) = is.ports
  ports_on PlaceId.Board = is.ports
  ports_on (PlaceId.Port k) = port_on k (slice_get g.ports k) refl
  ports_on PlaceId.Out = is.ports

  -- ---- what a hart is replied

  port_replies : (o : Option PortState) (k : ℕ) → slice_get g.ports k ≡ o → is_port_op e.op ≡ false
      → e.reply ≡ port_reply o e.actor e.op → IsReply size e.op e.reply
  port_replies None k there other replies = subst (λ (r : Reply). IsReply size e.op r) (sym replies) (fault e.op)
    where
      fault : (op : Op) → IsReply size op Reply.AccessFault
      fault (Op.Read at len) = tt
      fault (Op.Write at piece) = tt
      fault (Op.Amo at value kind wide) = tt
      fault (Op.Lr at wide) = tt
      fault (Op.Sc at value wide) = tt
      fault (Op.Board act) = tt
      fault (Op.Port k act) = tt
      fault (Op.Out act) = tt
      fault Op.Idle = tt
  port_replies (Some p) k there other replies =
      of_port size p e.actor e.op e.reply other replies fitting
      (subst (λ (r : Reply). port_kept.IsSmallReply r) (sym replies)
      (port.touch_small p.kind p e.actor e.op (get_all IsSizedPort g.ports k p there is.ports)))

  place_replies : (place : PlaceId) → is_port_op e.op ≡ false → is_host_op e.op ≡ false
      → e.reply ≡ reply_at place g.memory g.board g.ports e.actor e.op Nothing → IsReply size e.op e.reply
  place_replies (PlaceId.Page i) other host replies =
      of_memory size g.memory e.actor e.op e.reply replies fitting
      (subst (λ (r : Reply). memory_kept.IsSmallReply size e.op r) (sym replies)
      (subst (λ (n : ℕ). memory_kept.IsSmallReply n e.op (memory.touch g.memory e.actor e.op).0) is.memory.many_bytes
      (touch_small g.memory e.actor e.op is.memory.bytes)))
  place_replies PlaceId.Board other host replies =
      let few = is.few in
      of_board size g.board e.actor e.op e.reply replies fitting
      (subst (λ (r : Reply). board_kept.IsSmallReply r) (sym replies)
      (board.board_replies harts g.board is.board e.actor e.op (omega (arith, few))))
  place_replies (PlaceId.Port k) other host replies = port_replies (slice_get g.ports k) k refl other replies
  place_replies PlaceId.Out other host replies =
      subst (λ (r : Reply). IsReply size e.op r) (sym replies) (of_nothing size e.op host)

  -- ---- the harts

  own_hart : (k : ℕ) (start : Regs) (now : Hart) → slice_get g.starts k ≡ Some start → e.actor ≡ ActorId.Hart k
      → LeadsTo start (g.steps (ActorId.Hart k) ++ record { op = e.op; reply = e.reply } ∷ []) now → IsKept size now
  own_hart k start now there mine leads =
      let steps : List Step = g.steps (ActorId.Hart k) in
      let wants : Wants g (ActorId.Hart k) e.op = subst (λ (a : ActorId). Wants g a e.op) mine step.want in
      let hart = some_hart start steps (sound.harts_on k start there) in
      let asked : e.op ≡ hart_wants hart.0 =
      wants_only start steps hart.0 e.op hart.1 (wants_from (slice_get g.starts k) start steps e.op there wants) in
      let apart = hart_port_by g k e.op (Some start) there sound wants in
      let replies : IsReply size e.op e.reply =
      place_replies e.place apart.0 apart.1 (replied e.place g e.actor e.op event.given e.reply apart.1 step.answer) in
      let wholes : size % 8 ≡ 0 = omega arith in
      let kept : IsKept size (hart_next hart.0 e.reply) =
      hart_kept size hart.0 e.reply wholes (subst (λ (o : Op). IsReply size o e.reply) asked replies)
      (is.each k start hart.0 there hart.1) in
      let next : LeadsTo start (steps ++ record { op = e.op; reply = e.reply } ∷ []) (hart_next hart.0 e.reply) =
      subst (λ (o : Op). LeadsTo start (steps ++ record { op = o; reply = e.reply } ∷ []) (hart_next hart.0 e.reply)) (sym asked)
      (leads_next start steps hart.0 e.reply hart.1 (subst (λ (o : Op). fits o e.reply ≡ true) asked fitting)) in
      subst (λ (q : Hart). IsKept size q)
      (one_hart start (steps ++ record { op = e.op; reply = e.reply } ∷ []) (hart_next hart.0 e.reply) now next leads) kept

  hart_on : (k : ℕ) (start : Regs) (now : Hart) (b : Bool) → slice_get g.starts k ≡ Some start
      → same_actor (ActorId.Hart k) e.actor ≡ b
      → LeadsTo start (cond b (g.steps (ActorId.Hart k) ++ record { op = e.op; reply = e.reply } ∷ []) (g.steps (ActorId.Hart k))) now
      → IsKept size now
  hart_on k start now true there same leads = own_hart k start now there (same_hart k e.actor same) leads
  hart_on k start now false there same leads = is.each k start now there leads

  savable_after : IsSavable pages harts (guest_after g e)
  savable_after = record {
    few = is.few;
    memory = memory_on e.place;
    board = board_on e.place;
    ports = ports_on e.place;
    many = is.many;
    each = λ k start now there leads. hart_on k start now (same_actor (ActorId.Hart k) e.actor) there refl leads;
  }

  pub savable_next : IsSavable pages harts h
  savable_next = subst (λ (q : Guest). IsSavable pages harts q) (sym step.after) savable_after

-- ---- a start

start_ports : (all : List NewDevice) → All IsSizedPort (map port_at_start all)
start_ports [] = All-nil IsSizedPort
start_ports (what ∷ others) =
    All-cons IsSizedPort (port_at_start what) (map port_at_start others) (port_start_kept what) (start_ports others)

starts_kept : (harts mib pages : ℕ) → mib ≤ 4096 → All (λ (r : Regs). IsKept (page_size * pages) (fresh r)) (start_of_harts harts mib)
starts_kept harts mib pages few =
    let size : ℕ = page_size * pages in
    All-set (λ (r : Regs). IsKept size (fresh r)) (replicate harts stopped_regs) 0 (start_regs image_start 0 (tree_start mib))
    (start_kept size image_start 0 (tree_start mib) (omega arith) refl (omega arith) (omega (arith, few)))
    (All-replicate (λ (r : Regs). IsKept size (fresh r)) harts stopped_regs (stopped_kept size))

pub savable_start : (harts mib : ℕ) (loads : Loads) (devices : List NewDevice) → harts ≤ hart_limit → mib ≤ 4096
    → memory_kept.AreLoads loads → length (boot_memory mib loads).bytes ≡ bytes_of_mib mib
    → IsSavable (256 * mib) harts (started harts mib loads devices)
savable_start harts mib loads devices few small all whole = record {
  few = few;
  memory = booted_kept mib harts loads all whole;
  board = board.new_kept harts;
  ports = start_ports devices;
  many =
      length-set (replicate harts stopped_regs) 0 (start_regs image_start 0 (tree_start mib))
      ∙ length-replicate {A = Regs} harts stopped_regs;
  each = λ k start now there leads.
      subst (λ (q : Hart). IsKept (page_size * (256 * mib)) q) (one_hart start [] (fresh start) now (leads_start start) leads)
      (get_all (λ (r : Regs). IsKept (page_size * (256 * mib)) (fresh r)) (start_of_harts harts mib) k start there
      (starts_kept harts mib (256 * mib) small));
}

-- ---- what is no event

pub savable_restart : (pages harts : ℕ) (g : Guest) → IsSavable pages harts g → IsSavable pages harts (timer_restarted g)
savable_restart pages harts g is = record {
  few = is.few;
  memory = is.memory;
  board = is.board;
  ports = is.ports;
  many = is.many;
  each = λ k start now there leads. is.each k start now there leads;
}

pub savable_unwritten : (pages harts : ℕ) (g : Guest) → IsSavable pages harts g → IsSavable pages harts (unwritten g)
savable_unwritten pages harts g is = record {
  few = is.few;
  memory = is.memory;
  board = is.board;
  ports = is.ports;
  many = is.many;
  each = λ k start now there leads. is.each k start now there leads;
}

pub savable_drained : (pages harts : ℕ) (g : Guest) → IsSavable pages harts g
    → IsSavable pages harts (record g { board = record g.board { console = [] } })
savable_drained pages harts g is = record {
  few = is.few;
  memory = is.memory;
  board = board.drained harts g.board is.board;
  ports = is.ports;
  many = is.many;
  each = λ k start now there leads. is.each k start now there leads;
}

bytes_kept : (k : ℕ) (bytes : List ℕ) (ports : List PortState) (o : Option PortState) → All IsByte bytes → slice_get ports k ≡ o
    → All IsSizedPort ports → All IsSizedPort (ports_shown o ports k bytes)
bytes_kept k bytes ports None small there all = all
bytes_kept k bytes ports (Some p) small there all =
    All-set IsSizedPort ports k (port_acts.configured p bytes)
    (own_port p.kind (port_acts.configured p bytes)
    (port.configured_stays p.kind p bytes small (get_all IsSizedPort ports k p there all))) all

-- what a change shows are bytes
abbrev pub AreShown : Option (List ℕ) → Type 0
AreShown None = Unit {0}
AreShown (Some bytes) = All IsByte bytes

shown_kept : (shown : Option (List ℕ)) (k : ℕ) (ports : List PortState) → AreShown shown → All IsSizedPort ports
    → All IsSizedPort (ports_with shown ports k)
shown_kept None k ports small all = all
shown_kept (Some bytes) k ports small all = bytes_kept k bytes ports (slice_get ports k) small refl all

shown_board : (shown : Option (List ℕ)) (harts k : ℕ) (b : Board) → board_kept.IsKept harts b
    → board_kept.IsKept harts (board_shown shown b k)
shown_board None harts k b is = is
shown_board (Some bytes) harts k b is = board.raised harts b is (ActorId.Device k)

pub savable_told : (pages harts : ℕ) (g : Guest) (k : ℕ) (change : DeviceChange) (shown : Option (List ℕ)) → AreShown shown
    → IsSavable pages harts g → IsSavable pages harts (told k change shown g)
savable_told pages harts g k change shown small is = record {
  few = is.few;
  memory = is.memory;
  board = shown_board shown harts k g.board is.board;
  ports = shown_kept shown k g.ports small is.ports;
  many = is.many;
  each = λ j start now there leads. is.each j start now there leads;
}
