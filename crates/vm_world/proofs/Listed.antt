-- Harts in a list: how they start, and one that is given its reply.
use Rattle.std.proofs.Common.{◌≡◌, ℕ, false, zero, suc, ◌+◌, ◌*◌, ◌<◌, ◌≤◌, refl, sym, ap, subst, ◌∙◌, List, [], ◌∷◌, ◌++◌, Option, Some, None, length, map, replicate, slice_get, slice_set, slice_index_or, arith}
use Rattle.std.specs.List.{All}
use Rattle.std.proofs.lemmas.List.{length-set, length-replicate}
use Rattle.vm_types.specs.declared.reply.Reply.{Reply}
use Rattle.rv_supervisor.specs.declared.regs.Regs.{Regs}
use Rattle.hart_trace.specs.States.{Hart, LeadsTo, fresh, hart_next}
use Rattle.hart_trace.specs.Stopped.{stopped_regs}
use Rattle.hart_trace.proofs.Traces.{leads_start}
use Rattle.timer_trace.proofs.Traces as timer_traces
use Rattle.guest_memory.specs.Boot.{Loads, boot_memory, image_start, tree_start}
use Rattle.boot_loader.specs.declared.loading.Start.{Start}
use Rattle.board_table.specs.Board.{new_board}
use Rattle.rv_supervisor.specs.Start.{start_regs}
use Rattle.timer_trace.specs.States.{new_timer}
use Rattle.guest_devices.specs.declared.new_device.NewDevice.{NewDevice}
use Rattle.guest_devices.specs.Devices.{FitsNew}
use Rattle.flat_guest.proofs.Marked.{none_marked}
use Rattle.flat_guest.specs.Body.{Body, IsGuest, with_reply}
use Rattle.flat_guest.specs.Guest.{whole_pages}
use Rattle.guest_devices.specs.Ports.{port_at_start}
use Rattle.flat_guest.specs.Start.{started, start_of_harts}
use Rattle.flat_guest.proofs.Devices.{sound_at_start}
use Rattle.vm_world.specs.Starting.{harts_at_start, lefts_at_start}
use Rattle.vm_world.proofs.Beginning.{all_pages, lefts_lead, lefts_many}

pub replicate_more : {A : Type 0} (n : ℕ) (x : A) → replicate n x ++ x ∷ [] ≡ replicate (n + 1) x
replicate_more zero x = refl
replicate_more (suc n) x =
    let next : suc (n + 1) ≡ suc n + 1 = omega arith in
    ap (λ l. x ∷ l) (replicate_more n x) ∙ ap (λ (k : ℕ). replicate k x) next

pub got : {A : Type 0} (xs : List A) (k : ℕ) (d : A) → k < length xs → slice_get xs k ≡ Some (slice_index_or xs k d)
got [] k d lt = absurd (omega arith)
got (x ∷ xs) zero d lt = refl
got (x ∷ xs) (suc k) d lt = got xs k d (omega arith)

pub got_none : {A : Type 0} (xs : List A) (k : ℕ) → length xs ≤ k → slice_get xs k ≡ None
got_none [] k past = refl
got_none (x ∷ xs) zero past = absurd (omega arith)
got_none (x ∷ xs) (suc k) past = got_none xs k (omega arith)

pub given_one : (harts : List Hart) (k : ℕ) (d : Hart) (reply : Reply) → k < length harts
    → slice_set harts k (hart_next (slice_index_or harts k d) reply) ≡ with_reply (slice_get harts k) harts k reply
given_one harts k d reply lt = ap (λ (o : Option Hart). with_reply o harts k reply) (sym (got harts k d lt))

pub given_none : (harts : List Hart) (k : ℕ) (reply : Reply) → length harts ≤ k
    → harts ≡ with_reply (slice_get harts k) harts k reply
given_none harts k reply past = ap (λ (o : Option Hart). with_reply o harts k reply) (sym (got_none harts k past))

-- each hart is where no steps lead
stopped_each : (n k : ℕ) (start : Regs) (hart : Hart) → slice_get (replicate n stopped_regs) k ≡ Some start
    → slice_get (replicate n (fresh stopped_regs)) k ≡ Some hart → LeadsTo start [] hart
stopped_each zero k start hart start_is hart_is = cc
stopped_each (suc n) zero start hart start_is hart_is =
    let one : stopped_regs ≡ start = cc in
    let same : fresh stopped_regs ≡ hart = cc in
    subst (λ (h : Hart). LeadsTo start [] h) same
    (subst (λ (r : Regs). LeadsTo r [] (fresh stopped_regs)) one (leads_start stopped_regs))
stopped_each (suc n) (suc k) start hart start_is hart_is = stopped_each n k start hart start_is hart_is

module _ (mib : ℕ) where
  abbrev first : Regs
  first = start_regs image_start 0 (tree_start mib)

  each_from : (n k : ℕ) (start : Regs) (hart : Hart)
      → slice_get (slice_set (replicate n stopped_regs) 0 first) k ≡ Some start
      → slice_get (slice_set (replicate n (fresh stopped_regs)) 0 (fresh first)) k ≡ Some hart → LeadsTo start [] hart
  each_from zero k start hart start_is hart_is = cc
  each_from (suc n) zero start hart start_is hart_is =
      let one : first ≡ start = cc in
      let same : fresh first ≡ hart = cc in
      subst (λ (h : Hart). LeadsTo start [] h) same
      (subst (λ (r : Regs). LeadsTo r [] (fresh first)) one (leads_start first))
  each_from (suc n) (suc k) start hart start_is hart_is = stopped_each n k start hart start_is hart_is

  as_many : (n : ℕ) → length (harts_at_start n image_start (tree_start mib)) ≡ length (start_of_harts n mib)
  as_many n =
      length-set (replicate n (fresh stopped_regs)) 0 (fresh first) ∙ length-replicate n (fresh stopped_regs)
      ∙ sym (length-set (replicate n stopped_regs) 0 first ∙ length-replicate n stopped_regs)

  abbrev pages_with : Loads → ℕ
  pages_with loads = whole_pages (boot_memory mib loads)

  at_start : (n : ℕ) (loads : Loads) (given : List NewDevice) (count : ℕ) → All FitsNew given
      → IsGuest (record {
        memory = boot_memory mib loads;
        marks = replicate count false;
        board = new_board n;
        ports = map port_at_start given;
        timer = new_timer;
        harts = harts_at_start n image_start (tree_start mib);
        devices = lefts_at_start (pages_with loads) 0 given;
      }) (started n mib loads given)
  at_start n loads given count fit = record {
    memory_is = refl;
    marks_are = none_marked count;
    board_is = refl;
    ports_are = refl;
    timer_is = timer_traces.leads_start;
    harts_are = record { count = as_many n; each = λ k start hart start_is hart_is. each_from n k start hart start_is hart_is };
    devices_are = record {
      count = lefts_many (pages_with loads) 0 given;
      each = λ k d left is here. lefts_lead (pages_with loads) 0 given k d left is here;
      sound = sound_at_start (pages_with loads) given fit;
    };
  }

  pub started_is : (n : ℕ) (loads : Loads) (given : List NewDevice) (count pages : ℕ) (b : Body) (start : Start)
      → b.memory ≡ boot_memory mib loads → b.marks ≡ replicate count false → b.board ≡ new_board n
      → b.ports ≡ map port_at_start given → b.timer ≡ new_timer → start ≡ record { pc = image_start; tree = tree_start mib }
      → b.harts ≡ harts_at_start n start.pc start.tree → length b.memory.bytes ≡ 4096 * pages
      → b.devices ≡ lefts_at_start pages 0 given → All FitsNew given → IsGuest b (started n mib loads given)
  started_is n loads given count pages b start memory unmarked board ports timer begins harts long devices fit =
      let here : b.harts ≡ harts_at_start n image_start (tree_start mib) =
      harts ∙ ap (λ (s : Start). harts_at_start n s.pc s.tree) begins in
      let all : pages ≡ pages_with loads = all_pages b.memory pages long ∙ ap whole_pages memory in
      let lefts : b.devices ≡ lefts_at_start (pages_with loads) 0 given =
      devices ∙ ap (λ (k : ℕ). lefts_at_start k 0 given) all in
      let is : record {
        memory = boot_memory mib loads;
        marks = replicate count false;
        board = new_board n;
        ports = map port_at_start given;
        timer = new_timer;
        harts = harts_at_start n image_start (tree_start mib);
        devices = lefts_at_start (pages_with loads) 0 given;
      } ≡ b = sym (λ i. record {
        memory = memory i;
        marks = unmarked i;
        board = board i;
        ports = ports i;
        timer = timer i;
        harts = here i;
        devices = lefts i;
      }) in
      subst (λ (c : Body). IsGuest c (started n mib loads given)) is (at_start n loads given count fit)
