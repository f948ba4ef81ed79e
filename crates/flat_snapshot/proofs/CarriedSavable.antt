-- The guest that goes on from a snapshot whose copy fits a state file has numbers of their widths again.
use Rattle.std.proofs.Common.{◌≡◌, ◌<◌, ◌^◌, ℕ, zero, suc, ◌*◌, ◌%◌, true, refl, sym, ap, subst, List, [], ◌∷◌, length, map, Option, Some, slice_get, arith}
use Rattle.std.specs.Prelude.{IsTrue}
use Rattle.std.specs.List.{All, list_all}
use Rattle.std.proofs.lemmas.Bool.{and_parts}
use Rattle.std.proofs.lemmas.List.Elements.{All-head, All-tail}
use Rattle.vm_types.specs.declared.op.Op.{Op}
use Rattle.vm_types.specs.declared.reply.Reply.{Reply}
use Rattle.vm_types.specs.Fits.{fits}
use Rattle.le_fields.specs.Fields.{IsByte, bytes_of}
use Rattle.le_fields.proofs.Values.{all_bytes}
use Rattle.file_format.specs.Kinds.{byte, number16, number64}
use Rattle.file_format.specs.declared.version.Version.{Version}
use Rattle.file_format.specs.Whole.{counted}
use Rattle.file_format.proofs.Fitting.{every, of16, of32, of64, of8, of_list, of_times}
use Rattle.board_table.specs.declared.hart_state.HartState.{HartState}
use Rattle.board_table.specs.declared.hart_state.HartState.TheVariants.{Started, Stopped, StartPending}
use Rattle.board_table.specs.Kept as board_kept
use Rattle.guest_memory.specs.Ram.{page_size}
use Rattle.port_table.specs.declared.state.PortQueue.{PortQueue}
use Rattle.port_table.specs.declared.state.PortState.{PortState}
use Rattle.port_table.specs.Sizes as port_sizes
use Rattle.rv_supervisor.specs.declared.regs.Regs.{Regs}
use Rattle.rv_supervisor.specs.declared.regs.Turn.{Turn}
use Rattle.rv_supervisor.specs.declared.regs.Turn.TheVariants as turn
use Rattle.hart_trace.specs.Kept.{IsKept, IsRegs, IsReply, IsWord}
use Rattle.hart_trace.specs.States.{Hart, LeadsTo, fresh, hart_next, hart_wants}
use Rattle.hart_trace.specs.Traces.{opening}
use Rattle.hart_trace.proofs.Keeping.{hart_kept}
use Rattle.hart_trace.proofs.Leads.{leads_next}
use Rattle.hart_trace.proofs.OneHart.{one_hart}
use Rattle.hart_trace.proofs.Traces.{leads_start}
use Rattle.flat_guest.specs.Savable.{IsSavable, IsSizedPort}
use Rattle.snap_devices.specs.Ports.{port, port_fields, port_queue}
use Rattle.snap_harts.specs.declared.hart.SavedHart.{SavedHart}
use Rattle.snap_harts.specs.declared.hart.HartPlace.{HartPlace}
use Rattle.snap_harts.specs.declared.hart.HartPlace.TheVariants.{Begin, BeginWaiting, Idle, IdleWaiting, Access}
use Rattle.snap_harts.specs.Copy.{regs_of, turn_of}
use Rattle.snap_harts.specs.Harts.{hart}
use Rattle.snap_harts.specs.HartStates.{hart_state}
use Rattle.snap_state.specs.declared.copy.StateCopy.{StateCopy}
use Rattle.snap_state.specs.Boards.{board}
use Rattle.snap_state.specs.Copies.{state_copy}
use Rattle.snap_state.specs.Copy.{board_of}
use Rattle.snap_state.specs.Valid.{is_hart, is_valid}
use Rattle.snap_state.proofs.Rules.{rules_of}
use Rattle.flat_snapshot.specs.Carried.{carried_guest, hart_steps, steps_at}
use Rattle.flat_snapshot.proofs.CarriedReady.{first_shaped, shaped}
use Rattle.flat_snapshot.proofs.GoesOn.{access_fetches}

-- ---- harts

regs_are : (pages : ℕ) (s : SavedHart) → is_hart pages s ≡ true → hart.Fits s → IsRegs (page_size * pages) (regs_of s)
unfolding hart
regs_are pages s is own =
    let shape = (first_shaped pages s is).regs in
    let xs = of_times number64 31 s.x own.0.0 in
    let csrs = own.1.0 in
    record {
      many = xs.0;
      x = every number64.Fits IsWord s.x of64 xs.1;
      pc = of64 s.pc own.0.1;
      sie = shape.2;
      stvec = of64 s.stvec csrs.1.1.0;
      sscratch = of64 s.sscratch csrs.1.1.1.0;
      sepc = of64 s.sepc csrs.1.1.1.1.0;
      scause = of64 s.scause csrs.1.1.1.1.1.0;
      stval = of64 s.stval csrs.1.1.1.1.1.1;
      some = shape.0;
      few = shape.1;
      held = shape.3;
    }

first_kept : (pages : ℕ) (s : SavedHart) → is_hart pages s ≡ true → hart.Fits s → IsKept (page_size * pages) (fresh (regs_of s))
first_kept pages s is own = record { regs = regs_are pages s is own; aligned = (first_shaped pages s is).aligned; begun = tt }

-- from its fetch on the hart goes wherever the word leads
fetched_kept : (pages : ℕ) (r : Regs) (word : ℕ) (now : Hart) → r.turn ≡ turn.Fetch → IsKept (page_size * pages) (fresh r)
    → LeadsTo r (record { op = Op.Read r.pc 4; reply = Reply.Bytes (bytes_of 4 word) } ∷ []) now → IsKept (page_size * pages) now
fetched_kept pages r word now fetches is leads =
    let size : ℕ = page_size * pages in
    let reply : Reply = Reply.Bytes (bytes_of 4 word) in
    let asked : hart_wants (fresh r) ≡ Op.Read r.pc 4 = ap (λ (t : Turn). opening t r) fetches in
    let fit : fits (hart_wants (fresh r)) reply ≡ true = ap (λ (o : Op). fits o reply) asked in
    let next : LeadsTo r (record { op = Op.Read r.pc 4; reply = reply } ∷ []) (hart_next (fresh r) reply) =
    subst (λ (o : Op). LeadsTo r (record { op = o; reply = reply } ∷ []) (hart_next (fresh r) reply)) asked
    (leads_next r [] (fresh r) reply (leads_start r) fit) in
    let wholes : page_size * pages % 8 ≡ 0 = omega arith in
    let small : IsReply size (hart_wants (fresh r)) reply =
    subst (λ (o : Op). IsReply size o reply) (sym asked) (all_bytes 4 word) in
    subst (λ (q : Hart). IsKept (page_size * pages) q)
    (one_hart r (record { op = Op.Read r.pc 4; reply = reply } ∷ []) (hart_next (fresh r) reply) now next leads)
    (hart_kept (page_size * pages) (fresh r) reply wholes small is)

place_kept : (pages : ℕ) (s : SavedHart) (place : HartPlace) (now : Hart) → s.place ≡ place → IsKept (page_size * pages) (fresh (regs_of s))
    → LeadsTo (regs_of s) (steps_at place s.pc) now → IsKept (page_size * pages) now
place_kept pages s (Access word) now here is leads =
    fetched_kept pages (regs_of s) word now
    (subst (λ (p : HartPlace). turn_of s.is_look_due p ≡ turn.Fetch) (sym here) (access_fetches s.is_look_due word)) is leads
place_kept pages s Begin now here is leads =
    subst (λ (q : Hart). IsKept (page_size * pages) q) (one_hart (regs_of s) [] (fresh (regs_of s)) now (leads_start (regs_of s)) leads) is
place_kept pages s BeginWaiting now here is leads =
    subst (λ (q : Hart). IsKept (page_size * pages) q) (one_hart (regs_of s) [] (fresh (regs_of s)) now (leads_start (regs_of s)) leads) is
place_kept pages s Idle now here is leads =
    subst (λ (q : Hart). IsKept (page_size * pages) q) (one_hart (regs_of s) [] (fresh (regs_of s)) now (leads_start (regs_of s)) leads) is
place_kept pages s IdleWaiting now here is leads =
    subst (λ (q : Hart). IsKept (page_size * pages) q) (one_hart (regs_of s) [] (fresh (regs_of s)) now (leads_start (regs_of s)) leads) is

own_kept : (pages : ℕ) (s : SavedHart) (start : Regs) (now : Hart) → ◌≡◌ {A = Option Regs} (Some (regs_of s)) (Some start)
    → is_hart pages s ≡ true → hart.Fits s → LeadsTo start (steps_at s.place s.pc) now → IsKept (page_size * pages) now
own_kept pages s start now here is own leads =
    let same : regs_of s ≡ start = cc in
    place_kept pages s s.place now refl (first_kept pages s is own)
    (subst (λ (r : Regs). LeadsTo r (steps_at s.place s.pc) now) (sym same) leads)

harts_kept : (pages : ℕ) (harts : List SavedHart) (k : ℕ) (start : Regs) (now : Hart) → list_all (is_hart pages) harts ≡ true
    → All hart.Fits harts → slice_get (map regs_of harts) k ≡ Some start → LeadsTo start (hart_steps (slice_get harts k)) now
    → IsKept (page_size * pages) now
harts_kept pages [] k start now each own there leads = cc
harts_kept pages (s ∷ harts) zero start now each own there leads =
    own_kept pages s start now there (and_parts (is_hart pages s) (list_all (is_hart pages) harts) each).0
    (All-head hart.Fits s harts own) leads
harts_kept pages (s ∷ harts) (suc k) start now each own there leads =
    harts_kept pages harts k start now (and_parts (is_hart pages s) (list_all (is_hart pages) harts) each).1
    (All-tail hart.Fits s harts own) there leads

-- ---- ports

queue_sized : (q : PortQueue) → port_queue.Fits q → port_sizes.IsSizedQueue q
unfolding port_queue
queue_sized q own = record {
  descriptors = of64 q.descriptors own.0;
  available = of64 q.available own.1.0;
  used = of64 q.used own.1.1.0;
  size = of32 q.size own.1.1.1.0;
  ready = of32 q.ready own.1.1.1.1.0;
}

port_sized : (p : PortState) → port_fields.Fits p → port_sizes.IsSized p
unfolding port_fields
port_sized p own =
    let first = own.0 in
    let second = own.1 in
    let queues = of_times port_queue 3 p.queues second.1.1.1.1.0 in
    let bytes = of_times byte 8 p.config second.1.1.1.1.1 in
    record {
      offered = of64 p.offered first.1.0;
      accepted = of64 p.accepted first.1.1.0;
      offered_select = of32 p.offered_select first.1.1.1.0;
      accepted_select = of32 p.accepted_select first.1.1.1.1.0;
      queue_select = of32 p.queue_select first.1.1.1.1.1;
      interrupt_status = of32 p.interrupt_status second.0;
      status = of32 p.status second.1.0;
      config_generation = of32 p.config_generation second.1.1.0;
      many_queues = queues.0;
      queues = every port_queue.Fits port_sizes.IsSizedQueue p.queues queue_sized queues.1;
      many_bytes = bytes.0;
      bytes = every byte.Fits IsByte p.config of8 bytes.1;
    }

port_kept : (p : PortState) → (counted port).Fits p → IsSizedPort p
unfolding counted port
port_kept p own = record { kind_is = refl; state = own.0.1; sized = port_sized p own.0.0 }

-- ---- all of it

state_small : (s : HartState) → hart_state.Fits s → board_kept.IsSmallState s
unfolding hart_state
state_small Started own = tt
state_small Stopped own = tt
state_small (StartPending pc word) own = (of64 pc own.1.1.0, of64 word own.1.1.1)

module _ (version : Version) (copy : StateCopy) (bytes : List ℕ) (own : (state_copy version).Fits copy) (valid : IsTrue (is_valid copy))
    (whole : length bytes ≡ page_size * copy.pages) (all : All IsByte bytes) where
  abbrev harts : ℕ
  harts = copy.configuration.machine.vcpu_count

  board_small : (time : copy.guest_time < 2 ^ 64) → board.Fits copy.board → board_kept.IsLong harts (board_of copy)
      → board_kept.IsKept harts (board_of copy)
  unfolding board
  board_small time own long = record {
    console = long.console;
    now = time;
    pending = of16 copy.board.pending own.0;
    many_enables = long.many_enables;
    enables = every number16.Fits board_kept.AreLines copy.board.enables of16 (of_list number16 copy.board.enables own.1.0);
    many_software = long.many_software;
    many_deadlines = long.many_deadlines;
    deadlines = every number64.Fits board_kept.IsWord copy.board.deadlines of64 (of_list number64 copy.board.deadlines own.1.1.1.0);
    many_states = long.many_states;
    states = every hart_state.Fits board_kept.IsSmallState copy.board.states state_small (of_list hart_state copy.board.states own.1.1.1.1.0);
  }

  pub carried_savable : IsSavable copy.pages harts (carried_guest copy bytes)
  unfolding state_copy
  carried_savable =
      let rules = rules_of copy valid in
      let shape = shaped copy bytes true valid whole in record {
        few = shape.few;
        memory = record {
          many_bytes = whole;
          bytes = all;
          many_slots = shape.memory.many_slots;
          slots = shape.memory.slots;
        };
        board = board_small (of64 copy.guest_time own.0.1.1.1) own.1.0 shape.board;
        ports = every (counted port).Fits IsSizedPort copy.ports port_kept (of_list (counted port) copy.ports own.1.1.1.0);
        many = shape.many;
        each = λ k start now there leads.
            harts_kept copy.pages copy.harts k start now rules.harts (of_list hart copy.harts own.1.1.0) there leads;
      }
