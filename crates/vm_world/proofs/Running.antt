-- What the hart's small ops are answered is what its ops are answered.
use Rattle.std.proofs.Common.{◌≡◌, ℕ, zero, suc, ◌+◌, ◌-◌, ◌≤◌, nat_le, nat_lt, Bool, true, false, cond, ◌&&◌, List, [], ◌∷◌, Option, Some, None, length, slice_get, slice_set, refl, sym, ap, subst, ◌∙◌, inl, inr, arith, ◌<◌, if◌then◌else◌, ◌⊎◌}
use Rattle.std.proofs.lemmas.Bool.{cases_lt, leb-true, ltb-false, ltb-true, and_parts, false_from_ne_true}
use Rattle.vm_types.specs.declared.ids.ActorId.{ActorId}
use Rattle.vm_types.specs.declared.ids.PlaceId.{PlaceId}
use Rattle.vm_types.specs.declared.op.Op.{Op}
use Rattle.vm_types.specs.declared.reply.Reply.{Reply}
use Rattle.vm_types.specs.declared.reply.Reply.TheVariants.{AccessFault, Bytes}
use Rattle.vm_types.specs.declared.entry.Entry.{Entry}
use Rattle.vm_types.specs.Fits.{fits}
use Rattle.guest_memory.specs.Memory.{Memory, read_from}
use Rattle.guest_memory.specs.Ram.{ram_start, is_ram, page_number, page_offset, page_size}
use Rattle.board_table.specs.Board.{Board}
use Rattle.port_table.specs.declared.state.PortState.{PortState}
use Rattle.port_table.specs.Window.{is_in_one, most_ports, port_at, port_number, ports_start}
use Rattle.guest_devices.specs.declared.device.Device.{Device}
use Rattle.guest_devices.specs.Kept.{devices_left}
use Rattle.guest_pages.specs.Pages.{PageValue, flat_of, marks_of}
use Rattle.guest_pages.specs.Marks.{marks_after}
use Rattle.guest_pages.specs.Words.{at_place, place_among, read_of, read_reply, served, write_of, write_reply}
use Rattle.rv_rows.specs.declared.memory.Width.{Width}
use Rattle.rv_rows.specs.Loads.{width_bytes}
use Rattle.rv_doing.specs.declared.hart_op.HartOp.{HartOp}
use Rattle.rv_doing.specs.Accesses.{made_reply}
use Rattle.rv_doing.specs.HartOps.{op_of}
use Rattle.hart_trace.specs.Asks.{is_hart_op}
use Rattle.hart_trace.specs.States.{Hart, hart_next, hart_wants}
use Rattle.hart_trace.proofs.Asks.{hart_asks, never_host, no_host, no_port}
use Rattle.flat_guest.specs.Body.{out_reply, reply_at, want_of, with_reply}
use Rattle.flat_guest.specs.Given.Given.{Nothing}
use Rattle.flat_guest.specs.Places.{are_registers, place_by}
use Rattle.board_table.specs.Window.{is_window}
use Rattle.le_fields.specs.Fields.{bytes_of}
use Rattle.timer_trace.specs.declared.timer.Timer.{Timer}
use Rattle.flat_guest.specs.Steps.{board_after, memory_after, ports_after}
use Rattle.flat_guest.proofs.Answering.{answer_fits, no_port_there}
use Rattle.flat_guest.proofs.Lists.{get_set_same}
use Rattle.flat_guest.proofs.Soundness.{none_given}
use Rattle.flat_guest.proofs.Stepping.{entry_of, has_made_none}
use Rattle.vm_world.specs.Answering.{Advances, Goes, IsAnswered, place_with}
use Rattle.vm_world.specs.Worlds.{MakesEvent, WorldValue, body_of, place_in, world_with}
use Rattle.vm_world.proofs.Events.{HasEnded, HasRun, event_made, run_more}

-- each reply that a place gives fits the op, so it has few bytes
pub none_unfit : (pages : List PageValue) (board : Board) (ports : List PortState) (actor : ActorId) (op : HartOp) (whole : Op) (reply : Reply) → whole ≡ op_of op → is_hart_op (op_of op) ≡ true
    → reply ≡ reply_at (place_with pages ports whole) (flat_of pages) board ports actor whole Nothing → fits (op_of op) reply ≡ false → ⊥
none_unfit pages board ports actor op whole reply same own is unfit =
    let gives : reply ≡ reply_at (place_with pages ports (op_of op)) (flat_of pages) board ports actor (op_of op) Nothing = is ∙ ap (λ (o : Op). reply_at (place_with pages ports o) (flat_of pages) board ports actor o Nothing) same in
    let fit : fits (op_of op) reply ≡ true = ap (fits (op_of op)) gives ∙ answer_fits (length (flat_of pages).bytes) (flat_of pages) board ports actor (op_of op) Nothing (no_port_there (length ports) (op_of op) (no_port (op_of op) own)) (none_given (op_of op) (no_host (op_of op) own)) in
    let both : true ≡ false = sym fit ∙ unfit in
    cc

-- so does each reply to what the hart wants
pub answer_fits_want : (pages : List PageValue) (board : Board) (ports : List PortState) (actor : ActorId) (hart : Hart) (op : Op) (reply : Reply) → op ≡ hart_wants hart
    → reply ≡ reply_at (place_with pages ports op) (flat_of pages) board ports actor op Nothing → fits (hart_wants hart) reply ≡ true
answer_fits_want pages board ports actor hart op reply want is =
    let own : is_hart_op (hart_wants hart) ≡ true = hart_asks hart in
    let gives : reply ≡ reply_at (place_with pages ports (hart_wants hart)) (flat_of pages) board ports actor (hart_wants hart) Nothing = is ∙ ap (λ (o : Op). reply_at (place_with pages ports o) (flat_of pages) board ports actor o Nothing) want in
    ap (fits (hart_wants hart)) gives ∙ answer_fits (length (flat_of pages).bytes) (flat_of pages) board ports actor (hart_wants hart) Nothing (no_port_there (length ports) (hart_wants hart) (no_port (hart_wants hart) own)) (none_given (hart_wants hart) (no_host (hart_wants hart) own))

-- a read leaves everything
read_leaves : (m : Memory) (at len : ℕ) (b : Bool) → m ≡ (let answer : Reply × Memory = cond b (Bytes (read_from m at len), m) (AccessFault, m) in answer.1)
read_leaves m at len true = refl
read_leaves m at len false = refl

-- an access at RAM's start or above is none to the board's registers
too_high : (at len : ℕ) → ram_start ≤ at → at - 0x2000000 + len ≤ 4096 → ⊥
too_high at len high inside = omega (arith, high, inside)

pub not_registers : (at len : ℕ) → ram_start ≤ at → are_registers at len ≡ false
not_registers at len high =
    false_from_ne_true (are_registers at len) (λ all. too_high at len high (leb-true (at - 0x2000000 + len) 4096
    (and_parts (nat_le 0x2000000 at) (nat_le (at - 0x2000000 + len) 4096)
    (and_parts (nat_le 1 len) (is_window at len) all).1).1))

pub not_low : (at : ℕ) → nat_lt at ram_start ≡ false → ram_start ≤ at
not_low at is = ltb-false at ram_start is

-- and none to a port
far : (at : ℕ) → ram_start ≤ at → port_number at < most_ports → ⊥
far at high near = omega (arith, high, near)

none_by : (b : Bool) (k : ℕ) → b ≡ false → (let found : Option ℕ = if b then Some k else None in found) ≡ None
none_by true k is = cc
none_by false k is = refl

not_port : (at len : ℕ) → ram_start ≤ at → port_at at len ≡ None
not_port at len high =
    let near : Bool = nat_lt (port_number at) most_ports in
    let begun : Bool = nat_le 1 len && nat_le ports_start at in
    let all : Bool = nat_le 1 len && nat_le ports_start at && near && is_in_one at len in
    none_by all (port_number at)
    (false_from_ne_true all (λ is. far at high (ltb-true (port_number at) most_ports
    (and_parts begun near (and_parts (begun && near) (is_in_one at len) is).0).1)))

module _ (pages : List PageValue) (board : Board) (ports : List PortState) (actor : ActorId) where
  abbrev paged : ℕ → Bool → PlaceId
  paged at b = cond b (PlaceId.Page (page_number at)) PlaceId.Out

  abbrev place : ℕ → Bool → Option ℕ → Bool → PlaceId
  place at registers port b = place_by (length ports) registers port (paged at b)

  abbrev in_page : ℕ → ℕ → Bool
  in_page at len =
      nat_le 1 len && is_ram (length (flat_of pages).bytes) at len && nat_le (page_offset at + len) page_size

  replied : (op : Op) (at : ℕ) (r : Bool) (o : Option ℕ) (b : Bool) → r ≡ false → o ≡ None → out_reply op Nothing ≡ AccessFault
      → (at_place (paged at b) (flat_of pages) actor op).0
      ≡ reply_at (place at r o b) (flat_of pages) board ports actor op Nothing
  replied op at true o b none away out = cc
  replied op at false (Some k) b none away out = cc
  replied op at false None true none away out = refl
  replied op at false None false none away out = sym out

  left : (op : Op) (at : ℕ) (r : Bool) (o : Option ℕ) (b : Bool) → r ≡ false → o ≡ None
      → (at_place (paged at b) (flat_of pages) actor op).1 ≡ memory_after (place at r o b) (flat_of pages) actor op
  left op at true o b none away = cc
  left op at false (Some k) b none away = cc
  left op at false None true none away = refl
  left op at false None false none away = refl

  marked : (op : Op) (at : ℕ) (reply : Reply) (r : Bool) (o : Option ℕ) (b : Bool) → r ≡ false → o ≡ None
      → marks_after (paged at b) (marks_of pages) op reply ≡ marks_after (place at r o b) (marks_of pages) op reply
  marked op at reply true o b none away = cc
  marked op at reply false (Some k) b none away = cc
  marked op at reply false None b none away = refl

  read_marked : (at : ℕ) (width : Width) (reply : Reply) (b : Bool)
      → marks_of pages ≡ marks_after (paged at b) (marks_of pages) (read_of width at) reply
  read_marked at width reply true = refl
  read_marked at width reply false = refl

  kept : (op : Op) (at : ℕ) (r : Bool) (o : Option ℕ) (b : Bool) → r ≡ false → o ≡ None
      → board ≡ board_after (place at r o b) board actor op
  kept op at true o b none away = cc
  kept op at false (Some k) b none away = cc
  kept op at false None true none away = refl
  kept op at false None false none away = refl

  still : (op : Op) (at : ℕ) (r : Bool) (o : Option ℕ) (b : Bool) → r ≡ false → o ≡ None
      → ports ≡ ports_after (place at r o b) ports actor op
  still op at true o b none away = cc
  still op at false (Some k) b none away = cc
  still op at false None true none away = refl
  still op at false None false none away = refl

  read_kept : (at : ℕ) (width : Width) (b : Bool)
      → flat_of pages ≡ (at_place (paged at b) (flat_of pages) actor (read_of width at)).1
  read_kept at width true =
      read_leaves (flat_of pages) at (width_bytes width)
      (nat_le (width_bytes width) 64 && is_ram (length (flat_of pages).bytes) at (width_bytes width))
  read_kept at width false = refl

  pub read_answered : (at : ℕ) (width : Width) (reply : Reply) → ram_start ≤ at
      → reply ≡ (served pages actor (read_of width at)).0
      → IsAnswered pages board ports actor (read_of width at) reply pages board ports
  read_answered at width reply high is =
      let op : Op = read_of width at in
      let len : ℕ = width_bytes width in
      let none = not_registers at len high in
      let away = not_port at len high in
      let b : Bool = in_page at len in
      let o : Option ℕ = port_at at len in
      let r : Bool = are_registers at len in record {
        reply_is = is ∙ replied op at r o b none away refl;
        memory_is = read_kept at width b ∙ left op at r o b none away;
        marks_is = read_marked at width reply b ∙ marked op at reply r o b none away;
        board_is = kept op at r o b none away;
        ports_are = still op at r o b none away;
        count_is = refl;
      }

  pub write_answered : (at word : ℕ) (width : Width) (reply : Reply) (later : List PageValue) → ram_start ≤ at
      → reply ≡ (served pages actor (write_of width at word)).0 → flat_of later ≡ (served pages actor (write_of width at word)).1
      → marks_of later ≡ marks_after (place_among pages (write_of width at word)) (marks_of pages) (write_of width at word) reply
      → length later ≡ length pages
      → IsAnswered pages board ports actor (write_of width at word) reply later board ports
  write_answered at word width reply later high is memory marks count =
      let op : Op = write_of width at word in
      let len : ℕ = length (bytes_of (width_bytes width) word) in
      let none = not_registers at len high in
      let away = not_port at len high in
      let b : Bool = in_page at len in
      let o : Option ℕ = port_at at len in
      let r : Bool = are_registers at len in record {
        reply_is = is ∙ replied op at r o b none away refl;
        memory_is = memory ∙ left op at r o b none away;
        marks_is = marks ∙ marked op at reply r o b none away;
        board_is = kept op at r o b none away;
        ports_are = still op at r o b none away;
        count_is = count;
      }

-- lists
pub set_own : {A : Type 0} (xs : List A) (k : ℕ) (x : A) → slice_get xs k ≡ Some x → slice_set xs k x ≡ xs
set_own [] k x is = refl
set_own (y ∷ xs) zero x is = let same : y ≡ x = cc in ap (λ z. z ∷ xs) (sym same)
set_own (y ∷ xs) (suc k) x is = ap (λ l. y ∷ l) (set_own xs k x is)

pub set_twice : {A : Type 0} (xs : List A) (k : ℕ) (x y : A) → slice_set (slice_set xs k x) k y ≡ slice_set xs k y
set_twice [] k x y = refl
set_twice (z ∷ xs) zero x y = refl
set_twice (z ∷ xs) (suc k) x y = ap (λ l. z ∷ l) (set_twice xs k x y)

-- so the hart's event is the world's
pub advanced : (old new : WorldValue) (k : ℕ) (hart next : Hart) → slice_get old.harts k ≡ Some hart
    → Advances old.pages old.board old.ports hart (ActorId.Hart k) new.pages new.board new.ports next
    → new.timer ≡ old.timer → new.harts ≡ slice_set old.harts k next → new.devices ≡ old.devices
    → (e : Entry) × MakesEvent old (record { actor = ActorId.Hart k; given = Nothing }) e new
advanced old new k hart next there by timer harts devices =
    let op : Op = hart_wants hart in
    let given = ap (λ (o : Option Hart). with_reply o old.harts k by.0) (sym there) in (
      entry_of (place_in old op) (ActorId.Hart k) op by.0,
      event_made old new (ActorId.Hart k) op Nothing (place_in old op) by.0 (ap want_of there)
          (none_given op (never_host hart)) refl by.1.reply_is by.1.memory_is by.1.marks_is by.1.board_is by.1.ports_are timer
          (harts ∙ ap (λ (h : Hart). slice_set old.harts k h) by.2 ∙ given) (ap devices_left devices),
    )

-- several
module _ (k : ℕ) (pages mid later : List PageValue) (board between after : Board) (ports among behind : List PortState)
    (first hart next : Hart) (made : ℕ) (timer : Timer) (harts : List Hart) (devices : List Device)
    (there : slice_get harts k ≡ Some first) where
  abbrev start : WorldValue
  start = world_with pages board ports timer harts devices

  abbrev here : WorldValue
  here = world_with mid between among timer (slice_set harts k hart) devices

  abbrev moved : WorldValue
  moved = world_with later after behind timer (slice_set harts k next) devices

  pub none_run : HasRun (ActorId.Hart k) start 0 (world_with pages board ports timer (slice_set harts k first) devices)
  none_run =
      subst (λ (hs : List Hart). HasRun (ActorId.Hart k) start 0 (world_with pages board ports timer hs devices))
      (sym (set_own harts k first there)) (has_made_none (ActorId.Hart k) (body_of start))

  pub one_more : HasRun (ActorId.Hart k) start made here → between.off ≡ false
      → Advances mid between among hart (ActorId.Hart k) later after behind next
      → HasRun (ActorId.Hart k) start (made + 1) moved
  one_more has on by =
      run_more (ActorId.Hart k) start here moved made has on
      (advanced here moved k hart next (get_set_same harts k first hart there)
      by refl (sym (set_twice harts k hart next)) refl)

-- a hart's event that is the read or write of a word
pub read_advances : (pages : List PageValue) (board : Board) (ports : List PortState) (actor : ActorId) (hart next : Hart)
    (width : Width) (at word : ℕ) → hart_wants hart ≡ read_of width at → nat_lt at ram_start ≡ false
    → read_reply width (Some word) ≡ (served pages actor (read_of width at)).0
    → next ≡ hart_next hart (read_reply width (Some word))
    → Advances pages board ports hart actor pages board ports next
read_advances pages board ports actor hart next width at word wants high is on = (
  read_reply width (Some word),
  subst (λ (op : Op). IsAnswered pages board ports actor op (read_reply width (Some word)) pages board ports) (sym wants)
      (read_answered pages board ports actor at width (read_reply width (Some word)) (not_low at high) is),
  on,
)

made_as : (is_made : Bool) → made_reply is_made ≡ write_reply is_made
made_as true = refl
made_as false = refl

pub write_advances : (pages later : List PageValue) (board : Board) (ports : List PortState) (actor : ActorId)
    (hart next : Hart) (width : Width) (at word : ℕ)
    (is_made : Bool) → hart_wants hart ≡ write_of width at word → ram_start ≤ at
    → write_reply is_made ≡ (served pages actor (write_of width at word)).0
    → flat_of later ≡ (served pages actor (write_of width at word)).1
    → marks_of later ≡ marks_after (place_among pages (write_of width at word)) (marks_of pages) (write_of width at word) (write_reply is_made)
    → length later ≡ length pages → next ≡ hart_next hart (made_reply is_made)
    → Advances pages board ports hart actor later board ports next
write_advances pages later board ports actor hart next width at word is_made wants high is memory marks count on = (
  write_reply is_made,
  subst (λ (op : Op). IsAnswered pages board ports actor op (write_reply is_made) later board ports) (sym wants)
      (write_answered pages board ports actor at word width (write_reply is_made) later high is memory marks count),
  on ∙ ap (hart_next hart) (made_as is_made),
)

-- one or two more
pub some_more : (k : ℕ) (pages mid later : List PageValue) (board between after : Board) (ports among behind : List PortState)
    (first hart next : Hart) (made n : ℕ) (timer : Timer) (harts : List Hart) (devices : List Device)
    → slice_get harts k ≡ Some first
    → HasRun (ActorId.Hart k) (world_with pages board ports timer harts devices) made
    (world_with mid between among timer (slice_set harts k hart) devices)
    → between.off ≡ false → Goes mid between among hart (ActorId.Hart k) n later after behind next
    → HasRun (ActorId.Hart k) (world_with pages board ports timer harts devices) (made + n)
    (world_with later after behind timer (slice_set harts k next) devices)
some_more k pages mid later board between after ports among behind first hart next made n timer harts devices there has on (inl by) =
    subst (λ (m : ℕ). HasRun (ActorId.Hart k) (world_with pages board ports timer harts devices) (made + m)
    (world_with later after behind timer (slice_set harts k next) devices)) (sym by.0)
    (one_more k pages mid later board between after ports among behind first hart next made timer harts devices there has on by.1)
some_more k pages mid later board between after ports among behind first hart next made n timer harts devices there has on (inr by) =
    let one = one_more k pages mid mid board between between ports among among first hart by.1 made timer harts devices there
    has on by.2 in
    let two = one_more k pages mid later board between after ports among behind first by.1 next (made + 1) timer harts devices
    there one on by.3 in
    let count : made + 1 + 1 ≡ made + n = omega (arith, by.0) in
    subst (λ (m : ℕ). HasRun (ActorId.Hart k) (world_with pages board ports timer harts devices) m
    (world_with later after behind timer (slice_set harts k next) devices)) count two

-- one more of a hart and pages that were left as they were
pub one_later : (k : ℕ) (pages mid same later : List PageValue) (board between after : Board) (ports among behind : List PortState)
    (first hart still next : Hart) (made : ℕ) (timer : Timer) (harts : List Hart) (devices : List Device)
    → slice_get harts k ≡ Some first
    → HasRun (ActorId.Hart k) (world_with pages board ports timer harts devices) made
    (world_with mid between among timer (slice_set harts k hart) devices)
    → between.off ≡ false → (same ≡ mid) × (still ≡ hart)
    → Advances same between among still (ActorId.Hart k) later after behind next
    → HasRun (ActorId.Hart k) (world_with pages board ports timer harts devices) (made + 1)
    (world_with later after behind timer (slice_set harts k next) devices)
one_later k pages mid same later board between after ports among behind first hart still next made timer harts devices there has on left by =
    one_more k pages mid later board between after ports among behind first hart next made timer harts devices there has on
    (subst (λ (h : Hart). Advances mid between among h (ActorId.Hart k) later after behind next) left.1
    (subst (λ (p : List PageValue). Advances p between among still (ActorId.Hart k) later after behind next) left.0 by))

-- where the guest is off, all were made or no further one is
off_by : (k made count : ℕ) (w : WorldValue) → w.board.off ≡ true → (made < count) ⊎ (count ≤ made) → made ≤ count
    → (made ≡ count) ⊎ ((made < count) × HasEnded (ActorId.Hart k) w)
off_by k made count w off (inl less) within = inr (less, inl off)
off_by k made count w off (inr all) within = inl (omega (arith, all, within))

pub off_at : (k made count : ℕ) (w : WorldValue) → made ≤ count → w.board.off ≡ true
    → (made ≡ count) ⊎ ((made < count) × HasEnded (ActorId.Hart k) w)
off_at k made count w within off = off_by k made count w off (cases_lt made count) within
