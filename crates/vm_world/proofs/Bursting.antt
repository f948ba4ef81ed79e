-- A hart's instructions one after another, made by a loop that holds the pc and the count down apart.
use Rattle.std.proofs.Common.{◌≡◌, ℕ, ◌+◌, ◌-◌, ◌<◌, ◌≤◌, ◌%◌, ◌^◌, ◌++◌, nat_le, nat_lt, Bool, true, false, if◌then◌else◌, List, [], ◌∷◌, Some, length, slice_get, slice_set, refl, sym, ap, subst, ◌∙◌, arith, inl, inr}
use Rattle.std.proofs.lemmas.Bool.{leb-true, le-leb, ltb-true, false_from_ne_true}
use Rattle.vm_types.specs.Fits.{fits}
use Rattle.vm_types.specs.declared.ids.ActorId.{ActorId}
use Rattle.vm_types.specs.declared.op.Op.{Op}
use Rattle.vm_types.specs.declared.op.Op.TheVariants as op
use Rattle.vm_types.specs.declared.reply.Reply.{Reply}
use Rattle.vm_types.specs.declared.reply.Reply.TheVariants.{Bytes, Done}
use Rattle.le_fields.specs.Fields.{bytes_of}
use Rattle.guest_memory.specs.Ram.{ram_start}
use Rattle.guest_pages.specs.Words.{read_of, read_reply, served, write_of}
use Rattle.rv_rows.specs.Effects.{address_sum}
use Rattle.rv_rows.specs.Fields.{i_immediate, rd_field, rs1_field, rs2_field, s_immediate}
use Rattle.rv_rows.specs.Loads.{load_bytes, load_width}
use Rattle.rv_rows.specs.declared.memory.LoadKind.{LoadKind}
use Rattle.rv_rows.specs.declared.register.Register.{Register}
use Rattle.rv_rows.specs.declared.memory.Width.{Width}
use Rattle.rv_doing.specs.Accesses.{LoadsAs, StoresAs}
use Rattle.rv_doing.specs.Does.{does}
use Rattle.rv_doing.specs.Doing.{Asks}
use Rattle.rv_doing.specs.Replies.{after_load, after_store, with_result}
use Rattle.rv_doing.proofs.Placing.{placed_result}
use Rattle.rv_doing.proofs.Widths.{loads_low}
use Rattle.rv_supervisor.specs.Registers.{reg, with_reg}
use Rattle.hart_rv64.specs.Fetching.{IsFetching, fetch_reply}
use Rattle.hart_rv64.proofs.Fetching.{access_ended, access_wanted, plain_next}
use Rattle.board_table.specs.Board.{Board}
use Rattle.port_table.specs.declared.state.PortState.{PortState}
use Rattle.guest_pages.specs.Made.{PagesValue, Spends}
use Rattle.guest_pages.specs.Pages.{PageValue}
use Rattle.rv_doing.specs.Plain.{LeadsTo, placed}
use Rattle.rv_supervisor.specs.declared.regs.Regs.{Regs}
use Rattle.rv_supervisor.specs.declared.regs.Turn as TurnType
use Rattle.rv_supervisor.specs.declared.regs.Turn.TheVariants as Turn
use Rattle.rv_supervisor.specs.Ends.{after_jump}
use Rattle.hart_trace.specs.States.{Hart, fresh, hart_next}
use Rattle.timer_trace.specs.declared.timer.Timer.{Timer}
use Rattle.guest_devices.specs.declared.device.Device.{Device}
use Rattle.vm_world.specs.Answering.{Advances, Goes}
use Rattle.vm_world.specs.Bursts.{Bursts, CountsSo, EndsSo, GoesOn, Loads, Stores, accesses_in, counted, next_after, total}
use Rattle.vm_world.specs.declared.burst.Ended.{Ended}
use Rattle.vm_world.specs.declared.burst.Ended.TheVariants.{Accessed, Went}
use Rattle.vm_world.specs.Worlds.{world_with}
use Rattle.vm_world.proofs.Events.{HasRun}
use Rattle.vm_world.proofs.Running.{read_advances, some_more, write_advances}

-- one instruction more
total_more : (ns : List ℕ) (n : ℕ) → total (ns ++ n ∷ []) ≡ total ns + n
total_more [] n = omega arith
total_more (m ∷ ns) n = omega (arith, total_more ns n)

goes_more : (pages mid later : List PageValue) (hart between next : Hart) (actor : ActorId) (ns : List ℕ) (n : ℕ)
    → GoesOn pages hart actor ns mid between
    → ((board : Board) (ports : List PortState) → Goes mid board ports between actor n later board ports next)
    → GoesOn pages hart actor (ns ++ n ∷ []) later next
goes_more pages mid later hart between next actor [] n on by = (
  later,
  next,
  subst (λ (p : List PageValue). (board : Board) (ports : List PortState) → Goes p board ports hart actor n later board ports next) on.0
      (subst (λ (h : Hart). (board : Board) (ports : List PortState) → Goes mid board ports h actor n later board ports next) on.1 by),
  (refl, refl),
)
goes_more pages mid later hart between next actor (m ∷ ns) n on by =
    (on.0, on.1, on.2, goes_more on.0 mid later on.1 between next actor ns n on.3 by)

pub none_burst : (pages : List PageValue) (hart : Hart) (actor : ActorId) → Bursts pages hart actor 0 pages hart
none_burst pages hart actor = ([], refl, (refl, refl))

pub burst_more : (pages mid later : List PageValue) (hart between next : Hart) (actor : ActorId) (made n : ℕ)
    → Bursts pages hart actor made mid between
    → ((board : Board) (ports : List PortState) → Goes mid board ports between actor n later board ports next)
    → Bursts pages hart actor (made + n) later next
burst_more pages mid later hart between next actor made n has by = (
  has.0 ++ n ∷ [],
  total_more has.0 n ∙ ap (λ (m : ℕ). m + n) has.1,
  goes_more pages mid later hart between next actor has.0 n has.2 by,
)

pub burst_still : (pages mid later : List PageValue) (hart between next : Hart) (actor : ActorId) (made : ℕ)
    → Bursts pages hart actor made mid between → (later ≡ mid) × (next ≡ between) → Bursts pages hart actor made later next
burst_still pages mid later hart between next actor made has same =
    subst (λ (p : List PageValue). Bursts pages hart actor made p next) (sym same.0)
    (subst (λ (h : Hart). Bursts pages hart actor made mid h) (sym same.1) has)

-- so they are events of the world
module _ (k : ℕ) (pages : List PageValue) (board between : Board) (ports among : List PortState) (first : Hart) (timer : Timer)
    (harts : List Hart) (devices : List Device) (there : slice_get harts k ≡ Some first) (on : between.off ≡ false) where
  abbrev Has : ℕ → List PageValue → Hart → Type 0
  Has made later next =
      HasRun (ActorId.Hart k) (world_with pages board ports timer harts devices) made
      (world_with later between among timer (slice_set harts k next) devices)

  has_gone : (mid later : List PageValue) (hart next : Hart) (ns : List ℕ) (made : ℕ) → Has made mid hart
      → GoesOn mid hart (ActorId.Hart k) ns later next → Has (made + total ns) later next
  has_gone mid later hart next [] made has gone =
      let count : made ≡ made + 0 = omega arith in
      subst (λ (m : ℕ). Has m later next) count
      (subst (λ (p : List PageValue). Has made p next) (sym gone.0) (subst (λ (h : Hart). Has made mid h) (sym gone.1) has))
  has_gone mid later hart next (n ∷ ns) made has gone =
      let one = some_more k pages mid gone.0 board between between ports among among first hart gone.1 made n timer harts devices
      there has on (gone.2 between among) in
      let count : made + n + total ns ≡ made + (n + total ns) = omega arith in
      subst (λ (m : ℕ). Has m later next) count (has_gone gone.0 later gone.1 next ns (made + n) one gone.3)

  pub has_burst : (mid later : List PageValue) (hart next : Hart) (made n : ℕ) → Has made mid hart
      → Bursts mid hart (ActorId.Hart k) n later next → Has (made + n) later next
  has_burst mid later hart next made n has burst =
      subst (λ (m : ℕ). Has (made + m) later next) burst.1 (has_gone mid later hart next burst.0 made has burst.2)

left_of : (b : Bool) (made pc : ℕ) (r : Regs) → b ≡ false
    → (if b then record r { pc = pc; count = 32; turn = Turn.Look } else record r { pc = pc; count = r.count - made })
    ≡ record r { pc = pc; count = r.count - made }
left_of true made pc r is = cc
left_of false made pc r is = refl

same_by : (a b : Bool) → (a ≡ true → b ≡ true) → (b ≡ true → a ≡ true) → a ≡ b
same_by true b to from = sym (to refl)
same_by false true to from = from refl
same_by false false to from = refl

over : (count made : ℕ) → made < count → nat_le count made ≡ false
over count made more = false_from_ne_true (nat_le count made) (λ is. omega (arith, more, leb-true count made is))

last_one : (count made : ℕ) → made < count → nat_le (count - made) 1 ≡ nat_le count (made + 1)
last_one count made more =
    same_by (nat_le (count - made) 1) (nat_le count (made + 1))
    (λ is. le-leb count (made + 1) (omega (arith, more, leb-true (count - made) 1 is)))
    (λ is. le-leb (count - made) 1 (omega (arith, more, leb-true count (made + 1) is)))

-- an instruction that ends with a jump to the next one
pub counted_jump : (made pc next : ℕ) (r : Regs) → made < r.count → after_jump next (counted made pc r) ≡ counted (made + 1) next r
counted_jump made pc next r more =
    ap (after_jump next) (left_of (nat_le r.count made) made pc r (over r.count made more))
    ∙ ap (λ (b : Bool). if b then record r { pc = next; count = 32; turn = Turn.Look } else record r { pc = next; count = r.count - made - 1 }) (last_one r.count made more)
    ∙ ap (λ (c : ℕ). if nat_le r.count (made + 1) then record r { pc = next; count = 32; turn = Turn.Look } else record r { pc = next; count = c })
    (omega (arith, more))

-- before the first instruction they are what they are
pub counted_none : (r : Regs) → 0 < r.count → counted 0 r.pc r ≡ r
counted_none r some = left_of (nat_le r.count 0) 0 r.pc r (over r.count 0 some) ∙ ap (λ (c : ℕ). record r { count = c }) (omega arith)

counted_placed : (made pc : ℕ) (r : Regs) → made < r.count → r.turn ≡ Turn.Fetch → counted made pc r ≡ placed pc (r.count - made) Turn.Fetch r
counted_placed made pc r more turn =
    left_of (nat_le r.count made) made pc r (over r.count made more)
    ∙ ap (λ (t : TurnType.Turn). placed pc (r.count - made) t r) turn

-- what an instruction made at this pc leaves, with how many accesses were counted before it and after it
pub record Makes (before : PagesValue) (pc : ℕ) (r : Regs) (k counted now next : ℕ) (after : PagesValue) (s : Regs) : Type 0 where
  pub goes : CountsSo before.pages pc r (ActorId.Hart k) counted now next after.pages s
  pub kept : s ≡ record r { x = s.x }
  pub count : length after.pages ≡ length before.pages
  pub spends : Spends 1 before after

pub makes_also : (before after later : PagesValue) (pc : ℕ) (r s t : Regs) (k counted now also next other : ℕ) → also ≡ now → other ≡ next
    → later ≡ after → t ≡ s → Makes before pc r k counted now next after s → Makes before pc r k counted also other later t
makes_also before after later pc r s t k counted now also next other is to pages regs makes =
    subst (λ (n : ℕ). Makes before pc r k counted n other later t) (sym is)
    (subst (λ (n : ℕ). Makes before pc r k counted now n later t) (sym to)
    (subst (λ (p : PagesValue). Makes before pc r k counted now next p t) (sym pages)
    (subst (Makes before pc r k counted now next after) (sym regs) makes)))

-- and one that was begun with the same pages, registers and count
pub makes_from : (before mid after : PagesValue) (pc : ℕ) (r q s : Regs) (k counted from now next : ℕ) → mid ≡ before → q ≡ r → from ≡ counted
    → Makes mid pc q k from now next after s → Makes before pc r k counted now next after s
makes_from before mid after pc r q s k counted from now next pages regs is makes =
    subst (λ (n : ℕ). Makes before pc r k n now next after s) is
    (subst (λ (p : PagesValue). Makes p pc r k from now next after s) pages (subst (λ (x : Regs). Makes mid pc x k from now next after s) regs makes))

few_in : (ended : Ended) → accesses_in ended ≤ 1
few_in (Went next) = omega arith
few_in (Accessed next) = omega arith

pub few_counted : (pages later : List PageValue) (pc : ℕ) (r s : Regs) (actor : ActorId) (before after next : ℕ)
    → CountsSo pages pc r actor before after next later s → after ≤ before + 1
few_counted pages later pc r s actor before after next counts = omega (arith, counts.count, few_in counts.ended)

-- one instruction more, which leaves all but the registers' values
burst_goes : (pages mid later : List PageValue) (first : Hart) (actor : ActorId) (done accesses pc : ℕ) (ended : Ended) (r s : Regs)
    → Bursts pages first actor (done + accesses) mid (fresh (counted done pc r)) → done < r.count → r.turn ≡ Turn.Fetch
    → s ≡ record r { x = s.x } → EndsSo mid pc r actor ended later s
    → Bursts pages first actor (done + 1 + (accesses + accesses_in ended)) later (fresh (counted (done + 1) (next_after ended) s))
burst_goes pages mid later first actor done accesses pc ended r s gone below turn kept goes =
    let more : ℕ = accesses_in ended in
    let next : ℕ = next_after ended in
    let count : s.count ≡ r.count = ap (λ (t : Regs). t.count) kept in
    let fetch : s.turn ≡ Turn.Fetch = ap (λ (t : Regs). t.turn) kept ∙ turn in
    let under : done < s.count = omega (arith, below, count) in
    let from : placed pc (r.count - done) Turn.Fetch r ≡ counted done pc r = sym (counted_placed done pc r below turn) in
    let to : after_jump next (placed pc (r.count - done) Turn.Fetch s) ≡ counted (done + 1) next s =
    ap (λ (c : ℕ). after_jump next (placed pc (c - done) Turn.Fetch s)) (sym count)
    ∙ ap (after_jump next) (sym (counted_placed done pc s under fetch))
    ∙ counted_jump done pc next s under in
    let sum : done + accesses + (1 + more) ≡ done + 1 + (accesses + more) = omega arith in
    subst (λ (n : ℕ). Bursts pages first actor n later (fresh (counted (done + 1) next s))) sum
    (burst_more pages mid later first (fresh (counted done pc r)) (fresh (counted (done + 1) next s)) actor (done + accesses) (1 + more) gone
    (λ board ports.
    subst (λ (t : Regs). Goes mid board ports (fresh (counted done pc r)) actor (1 + more) later board ports (fresh t)) to
    (subst (λ (t : Regs). Goes mid board ports (fresh t) actor (1 + more) later board ports (fresh (after_jump next (placed pc (r.count - done) Turn.Fetch s)))) from
    (goes (r.count - done) board ports))))

pub burst_counts : (pages mid later : List PageValue) (first : Hart) (actor : ActorId) (done more accesses now pc next : ℕ) (r s : Regs)
    → done + 1 ≡ more → Bursts pages first actor (done + accesses) mid (fresh (counted done pc r)) → done < r.count → r.turn ≡ Turn.Fetch
    → s ≡ record r { x = s.x } → CountsSo mid pc r actor accesses now next later s
    → Bursts pages first actor (more + now) later (fresh (counted more next s))
burst_counts pages mid later first actor done more accesses now pc next r s is gone below turn kept counts =
    subst (λ (m : ℕ). Bursts pages first actor (m + now) later (fresh (counted m next s))) is
    (subst (λ (n : ℕ). Bursts pages first actor (done + 1 + n) later (fresh (counted (done + 1) next s))) (sym counts.count)
    (subst (λ (p : ℕ). Bursts pages first actor (done + 1 + (accesses + accesses_in counts.ended)) later (fresh (counted (done + 1) p s))) (sym counts.to)
    (burst_goes pages mid later first actor done accesses pc counts.ended r s gone below turn kept counts.goes)))

high_is : (at : ℕ) → ram_start ≤ at → nat_lt at ram_start ≡ false
high_is at far = false_from_ne_true (nat_lt at ram_start) (λ is. omega (arith, far, ltb-true at ram_start is))

load_fits : (kind : LoadKind) (at word : ℕ) → fits (op.Read at (load_bytes kind)) (Bytes (bytes_of (load_bytes kind) word)) ≡ true
load_fits LoadKind.Byte at word = refl
load_fits LoadKind.Half at word = refl
load_fits LoadKind.Word at word = refl
load_fits LoadKind.Double at word = refl
load_fits LoadKind.ByteUnsigned at word = refl
load_fits LoadKind.HalfUnsigned at word = refl
load_fits LoadKind.WordUnsigned at word = refl

-- an instruction that computes, jumps or branches is one event; one with a load or a store is two
module _ (pages : List PageValue) (board : Board) (ports : List PortState) (k pc count word : ℕ) (r : Regs)
    (small : word < 2 ^ 32) (high : ram_start ≤ pc)
    (read : (actor : ActorId) → read_reply Width.Word (Some word) ≡ (served pages actor (read_of Width.Word pc)).0) where
  abbrev at : Regs
  at = placed pc count Turn.Fetch r

  abbrev mid : Hart
  mid = hart_next (fresh at) (fetch_reply word)

  far : nat_lt pc ram_start ≡ false
  far = high_is pc high

  fetching : IsFetching (fresh at)
  fetching = record { between = refl; turn = refl }

  fetched : (next : Hart) → next ≡ mid → Advances pages board ports (fresh at) (ActorId.Hart k) pages board ports next
  fetched next is =
      read_advances pages board ports (ActorId.Hart k) (fresh at) next Width.Word pc word refl far (read (ActorId.Hart k)) is

  pub plain_goes : (next : ℕ) (s : Regs) → LeadsTo word pc next r s
      → Goes pages board ports (fresh at) (ActorId.Hart k) 1 pages board ports (fresh (after_jump next (placed pc count Turn.Fetch s)))
  plain_goes next s leads =
      inl (
        refl,
        fetched (fresh (after_jump next (placed pc count Turn.Fetch s)))
            (sym (plain_next (fresh at) word (after_jump next (placed pc count Turn.Fetch s)) small fetching far (leads count Turn.Fetch))),
      )

  pub load_made : (kind : LoadKind) (rd : Register) (address value : ℕ)
      → does word at ≡ Asks (op.Read address (load_bytes kind)) (λ reply. after_load kind rd address reply at)
      → Loads pages kind address value
      → Goes pages board ports (fresh at) (ActorId.Hart k) 2 pages board ports
      (fresh (after_jump ((pc + 4) % 2 ^ 64) (placed pc count Turn.Fetch (with_reg r rd value))))
  load_made kind rd address value asks loads =
      let end : Regs = after_jump ((pc + 4) % 2 ^ 64) (placed pc count Turn.Fetch (with_reg r rd value)) in
      let asked : Op = op.Read address (load_bytes kind) in
      let ends : Reply → Regs = λ reply. after_load kind rd address reply at in
      let reply : Reply = Bytes (bytes_of (load_bytes kind) loads.word) in
      let put : ends reply ≡ end =
      ap (λ (n : ℕ). with_result rd n at) (loads_low kind loads.word loads.fits ∙ sym loads.loaded)
      ∙ placed_result rd value pc count Turn.Fetch r in
      inr (
        refl,
        mid,
        fetched mid refl,
        read_advances pages board ports (ActorId.Hart k) mid (fresh end) (load_width kind) address loads.word
            (access_wanted (fresh at) word asked ends small fetching far asks) (high_is address loads.ram) (loads.read (ActorId.Hart k))
            (sym (access_ended (fresh at) word asked ends small fetching far asks reply (load_fits kind address loads.word) refl ∙ ap fresh put)),
      )

  pub load_goes : (kind : LoadKind) (a value : ℕ) → LoadsAs kind word → a ≡ reg r (rs1_field word)
      → Loads pages kind (address_sum a (i_immediate word)) value
      → Goes pages board ports (fresh at) (ActorId.Hart k) 2 pages board ports
      (fresh (after_jump ((pc + 4) % 2 ^ 64) (placed pc count Turn.Fetch (with_reg r (rd_field word) value))))
  load_goes kind a value shown first loads =
      load_made kind (rd_field word) (address_sum a (i_immediate word)) value (shown at a first loads.aligned) loads

  pub store_made : (width : Width) (address b : ℕ) (later : List PageValue)
      → does word at ≡ Asks (write_of width address b) (λ reply. after_store address reply at)
      → Stores pages (ActorId.Hart k) width address b later
      → Goes pages board ports (fresh at) (ActorId.Hart k) 2 later board ports
      (fresh (after_jump ((pc + 4) % 2 ^ 64) (placed pc count Turn.Fetch r)))
  store_made width address b later asks stores =
      let asked : Op = write_of width address b in
      let ends : Reply → Regs = λ reply. after_store address reply at in
      inr (
        refl,
        mid,
        fetched mid refl,
        write_advances pages later board ports (ActorId.Hart k) mid (fresh (after_jump ((pc + 4) % 2 ^ 64) at)) width address b true
            (access_wanted (fresh at) word asked ends small fetching far asks) stores.ram stores.reply stores.memory stores.marks
            stores.count (sym (access_ended (fresh at) word asked ends small fetching far asks Done refl refl)),
      )

  pub store_goes : (width : Width) (a b : ℕ) (later : List PageValue) → StoresAs width word → a ≡ reg r (rs1_field word)
      → b ≡ reg r (rs2_field word) → b < 2 ^ 64
      → Stores pages (ActorId.Hart k) width (address_sum a (s_immediate word)) b later
      → Goes pages board ports (fresh at) (ActorId.Hart k) 2 later board ports
      (fresh (after_jump ((pc + 4) % 2 ^ 64) (placed pc count Turn.Fetch r)))
  store_goes width a b later shown first second fits stores =
      store_made width (address_sum a (s_immediate word)) b later (shown at a b first second fits stores.aligned) stores

-- the register is the one that is put
pub load_ends : (pages : List PageValue) (board : Board) (ports : List PortState) (k pc count word : ℕ) (r s : Regs) (rd : Register)
    (value : ℕ) → s ≡ with_reg r rd value → rd ≡ rd_field word
    → Goes pages board ports (fresh (placed pc count Turn.Fetch r)) (ActorId.Hart k) 2 pages board ports
    (fresh (after_jump ((pc + 4) % 2 ^ 64) (placed pc count Turn.Fetch (with_reg r (rd_field word) value))))
    → Goes pages board ports (fresh (placed pc count Turn.Fetch r)) (ActorId.Hart k) 2 pages board ports
    (fresh (after_jump ((pc + 4) % 2 ^ 64) (placed pc count Turn.Fetch s)))
load_ends pages board ports k pc count word r s rd value put is goes =
    subst (λ (t : Regs). Goes pages board ports (fresh (placed pc count Turn.Fetch r)) (ActorId.Hart k) 2 pages board ports
    (fresh (after_jump ((pc + 4) % 2 ^ 64) (placed pc count Turn.Fetch t))))
    (sym (put ∙ ap (λ (d : Register). with_reg r d value) is)) goes
