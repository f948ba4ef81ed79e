-- What an actor's op is answered by its place: what the flat machine says, and a reply that fits.
use Rattle.std.proofs.Common.{◌≡◌, ℕ, ◌+◌, ◌-◌, ◌/◌, ◌%◌, nat_le, nat_lt, Bool, true, false, cond, ◌&&◌, refl, sym, ap, subst, ◌∙◌, inl, inr, List, Option, Some, None, length, slice_get}
use Rattle.vm_types.specs.declared.ids.ActorId.{ActorId}
use Rattle.vm_types.specs.declared.ids.PlaceId.{PlaceId}
use Rattle.vm_types.specs.declared.op.Op.{Op}
use Rattle.vm_types.specs.declared.op.OutOp.{OutOp}
use Rattle.vm_types.specs.declared.reply.Reply.{Reply}
use Rattle.vm_types.specs.Fits.{fits}
use Rattle.guest_memory.specs.Memory as memory
use Rattle.guest_memory.specs.Memory.{is_access}
use Rattle.guest_memory.specs.Words.{width_of}
use Rattle.guest_memory.specs.Fitting.{memory_fits}
use Rattle.guest_memory.specs.Ram.{ram_start, page_size, is_ram}
use Rattle.board_table.specs.Board.{Board}
use Rattle.board_table.specs.Acts.{is_board_op}
use Rattle.board_table.specs.Fitting.{board_reply_fits}
use Rattle.flat_guest.specs.Given.{Given}
use Rattle.flat_guest.specs.Given.Given.{Host, Nothing, Short}
use Rattle.flat_guest.specs.Guest.{Guest, layout_of}
use Rattle.device_trace.specs.Acts.{IsAskedBy, IsOwnAct}
use Rattle.port_table.specs.Acts as ports_acts
use Rattle.port_table.specs.Fitting.{port_reply_fits}
use Rattle.port_table.specs.declared.state.PortState.{PortState}
use Rattle.flat_guest.specs.Places.{are_registers, place_by, place_of, port_accessed}
use Rattle.flat_guest.specs.declared.places.Layout.{Layout}
use Rattle.flat_guest.specs.Steps.{Answers, AnswersOut, is_given, port_reply}
use Rattle.flat_guest.specs.Body.{reply_at, out_reply}
use Rattle.hart_trace.specs.Asks.{is_port_op}
use Rattle.flat_guest.proofs.Lists.{lt_get}

-- an act on a port is on one of so many
abbrev pub IsPortThere : ℕ → Op → Type 0
IsPortThere count (Op.Port port act) = nat_lt port count ≡ true
IsPortThere count op = Unit {0}

pub no_port_there : (count : ℕ) (op : Op) → is_port_op op ≡ false → IsPortThere count op
no_port_there count (Op.Port port act) is = cc
no_port_there count (Op.Read at len) is = tt
no_port_there count (Op.Write at piece) is = tt
no_port_there count (Op.Amo at value kind wide) is = tt
no_port_there count (Op.Lr at wide) is = tt
no_port_there count (Op.Sc at value wide) is = tt
no_port_there count (Op.Board act) is = tt
no_port_there count (Op.Out act) is = tt
no_port_there count Op.Idle is = tt

own_there : (count k : ℕ) (op : Op) → nat_lt k count ≡ true → IsOwnAct k op → IsPortThere count op
own_there count k (Op.Port port act) lt own = ap (λ (n : ℕ). nat_lt n count) own ∙ lt
own_there count k (Op.Read at len) lt own = tt
own_there count k (Op.Write at piece) lt own = tt
own_there count k (Op.Amo at value kind wide) lt own = tt
own_there count k (Op.Lr at wide) lt own = tt
own_there count k (Op.Sc at value wide) lt own = tt
own_there count k (Op.Board act) lt own = tt
own_there count k (Op.Out act) lt own = tt
own_there count k Op.Idle lt own = tt

pub asked_there : (count k : ℕ) (times : Bool) (calls : OutOp → Bool) (op : Op) → nat_lt k count ≡ true
    → IsAskedBy times calls k op → IsPortThere count op
asked_there count k times calls op lt (inl time) = subst (λ (o : Op). IsPortThere count o) (sym time.1) tt
asked_there count k times calls op lt (inr own) = own_there count k op lt own.0

-- the bytes are in one page of RAM
abbrev in_page : ℕ → ℕ → ℕ → Bool
in_page size at len =
    nat_le 1 len && is_ram size at len && nat_le ((at - ram_start) % page_size + len) page_size

abbrev page_place : Bool → ℕ → PlaceId
page_place page i = cond page (PlaceId.Page i) PlaceId.Out

module _ (g : Guest) (actor : ActorId) (op : Op) where
  abbrev Answered : PlaceId → Type 0
  Answered place = Answers place g actor op Nothing (reply_at place g.memory g.board g.ports actor op Nothing)

  at_port : (there : Bool) (k : ℕ) → AnswersOut op Nothing (out_reply op Nothing)
      → Answered (cond there (PlaceId.Port k) PlaceId.Out)
  at_port true k out = (refl, refl)
  at_port false k out = out

  at_place : (registers : Bool) (port : Option ℕ) (page : Bool) (i : ℕ) → AnswersOut op Nothing (out_reply op Nothing)
      → Answered (place_by (length g.ports) registers port (page_place page i))
  at_place true port page i out = (refl, refl)
  at_place false (Some k) page i out = at_port (nat_lt k (length g.ports)) k out
  at_place false None true i out = (refl, refl)
  at_place false None false i out = out

  at_own : (there : Bool) (k : ℕ) → there ≡ true → Answered (cond there (PlaceId.Port k) PlaceId.Out)
  at_own true k is = (refl, refl)
  at_own false k is = cc

answers_none : (g : Guest) (actor : ActorId) (op : Op) → IsPortThere (length g.ports) op → is_given op Nothing ≡ true
    → Answers (place_of (layout_of g) op) g actor op Nothing
    (reply_at (place_of (layout_of g) op) g.memory g.board g.ports actor op Nothing)
answers_none g actor (Op.Read at len) is none =
    at_place g actor (Op.Read at len) (are_registers at len) (port_accessed (Op.Read at len))
    (in_page (length g.memory.bytes) at len) ((at - ram_start) / page_size) (refl, refl)
answers_none g actor (Op.Write at piece) is none =
    at_place g actor (Op.Write at piece) (are_registers at (length piece)) (port_accessed (Op.Write at piece))
    (in_page (length g.memory.bytes) at (length piece)) ((at - ram_start) / page_size) (refl, refl)
answers_none g actor (Op.Amo at value kind wide) is none =
    at_place g actor (Op.Amo at value kind wide) (are_registers at (width_of wide)) (port_accessed (Op.Amo at value kind wide))
    (in_page (length g.memory.bytes) at (width_of wide)) ((at - ram_start) / page_size) (refl, refl)
answers_none g actor (Op.Lr at wide) is none =
    at_place g actor (Op.Lr at wide) (are_registers at (width_of wide)) (port_accessed (Op.Lr at wide))
    (in_page (length g.memory.bytes) at (width_of wide)) ((at - ram_start) / page_size) (refl, refl)
answers_none g actor (Op.Sc at value wide) is none =
    at_place g actor (Op.Sc at value wide) (are_registers at (width_of wide)) (port_accessed (Op.Sc at value wide))
    (in_page (length g.memory.bytes) at (width_of wide)) ((at - ram_start) / page_size) (refl, refl)
answers_none g actor (Op.Port port act) is none = at_own g actor (Op.Port port act) (nat_lt port (length g.ports)) port is
answers_none g actor (Op.Board act) is none = (refl, refl)
answers_none g actor (Op.Out act) is none = cc
answers_none g actor Op.Idle is none = (refl, refl)

some_given : (g : Guest) (actor : ActorId) (op : Op) (reply : Reply) → is_given op (Host reply) ≡ true
    → Answers (place_of (layout_of g) op) g actor op (Host reply)
    (reply_at (place_of (layout_of g) op) g.memory g.board g.ports actor op (Host reply))
some_given g actor (Op.Out act) reply fit = (refl, fit)
some_given g actor op reply fit = cc

-- nothing is short of memory
pub short_not : (op : Op) → is_given op Short ≡ true → ⊥
short_not (Op.Out act) fit = cc
short_not (Op.Port port act) fit = cc
short_not (Op.Board act) fit = cc
short_not Op.Idle fit = cc
short_not op fit = cc

pub answers_at : (g : Guest) (actor : ActorId) (op : Op) (given : Given)
    → IsPortThere (length g.ports) op → is_given op given ≡ true
    → Answers (place_of (layout_of g) op) g actor op given
    (reply_at (place_of (layout_of g) op) g.memory g.board g.ports actor op given)
answers_at g actor op Nothing is fit = answers_none g actor op is fit
answers_at g actor op (Host reply) is fit = some_given g actor op reply fit
answers_at g actor op Short is fit = absurd (short_not op fit)

-- what a port replies, there or not
port_fits : (o : Option PortState) (actor : ActorId) (op : Op) → ports_acts.is_port_op op ≡ true
    → fits op Reply.AccessFault ≡ true → fits op (port_reply o actor op) ≡ true
port_fits None actor op is fault = fault
port_fits (Some p) actor op is fault = port_reply_fits p actor op is

there_fits : (o : Option PortState) (p : PortState) (actor : ActorId) (op : Op) → ports_acts.is_port_op op ≡ true
    → o ≡ Some p → fits op (port_reply o actor op) ≡ true
there_fits None p actor op is there = cc
there_fits (Some q) p actor op is there = port_reply_fits q actor op is

module _ (m : memory.Memory) (b : Board) (ports : List PortState) (actor : ActorId) (op : Op) where
  abbrev Fitting : PlaceId → Type 0
  Fitting place = fits op (reply_at place m b ports actor op Nothing) ≡ true

  fits_port : (there : Bool) (k : ℕ) → ports_acts.is_port_op op ≡ true → fits op Reply.AccessFault ≡ true
      → fits op (out_reply op Nothing) ≡ true → Fitting (cond there (PlaceId.Port k) PlaceId.Out)
  fits_port true k is fault out = port_fits (slice_get ports k) actor op is fault
  fits_port false k is fault out = out

  fits_place : (registers : Bool) (port : Option ℕ) (page : Bool) (i : ℕ) → is_access op ≡ true
      → is_board_op op ≡ true → ports_acts.is_port_op op ≡ true → fits op Reply.AccessFault ≡ true
      → fits op (out_reply op Nothing) ≡ true → Fitting (place_by (length ports) registers port (page_place page i))
  fits_place true port page i access board is fault out = board_reply_fits b actor op board
  fits_place false (Some k) page i access board is fault out = fits_port (nat_lt k (length ports)) k is fault out
  fits_place false None true i access board is fault out = memory_fits m actor op access
  fits_place false None false i access board is fault out = out

  fits_own : (there : Bool) (k : ℕ) → ports_acts.is_port_op op ≡ true → there ≡ true → nat_lt k (length ports) ≡ true
      → Fitting (cond there (PlaceId.Port k) PlaceId.Out)
  fits_own true k is here lt =
      let p = lt_get ports k lt in
      there_fits (slice_get ports k) p.0 actor op is p.1
  fits_own false k is here lt = cc

none_fits : (size : ℕ) (m : memory.Memory) (b : Board) (ports : List PortState) (actor : ActorId) (op : Op)
    → IsPortThere (length ports) op → is_given op Nothing ≡ true
    → fits op (reply_at (place_of (record { memory_size = size; ports = length ports }) op) m b ports actor op Nothing) ≡ true
none_fits size m b ports actor (Op.Read at len) is none =
    fits_place m b ports actor (Op.Read at len) (are_registers at len) (port_accessed (Op.Read at len))
    (in_page size at len) ((at - ram_start) / page_size) refl refl refl refl refl
none_fits size m b ports actor (Op.Write at piece) is none =
    fits_place m b ports actor (Op.Write at piece) (are_registers at (length piece)) (port_accessed (Op.Write at piece))
    (in_page size at (length piece)) ((at - ram_start) / page_size) refl refl refl refl refl
none_fits size m b ports actor (Op.Amo at value kind wide) is none =
    fits_place m b ports actor (Op.Amo at value kind wide) (are_registers at (width_of wide))
    (port_accessed (Op.Amo at value kind wide)) (in_page size at (width_of wide)) ((at - ram_start) / page_size)
    refl refl refl refl refl
none_fits size m b ports actor (Op.Lr at wide) is none =
    fits_place m b ports actor (Op.Lr at wide) (are_registers at (width_of wide)) (port_accessed (Op.Lr at wide))
    (in_page size at (width_of wide)) ((at - ram_start) / page_size) refl refl refl refl refl
none_fits size m b ports actor (Op.Sc at value wide) is none =
    fits_place m b ports actor (Op.Sc at value wide) (are_registers at (width_of wide))
    (port_accessed (Op.Sc at value wide)) (in_page size at (width_of wide)) ((at - ram_start) / page_size)
    refl refl refl refl refl
none_fits size m b ports actor (Op.Port port act) is none =
    fits_own m b ports actor (Op.Port port act) (nat_lt port (length ports)) port refl is is
none_fits size m b ports actor (Op.Board act) is none = board_reply_fits b actor (Op.Board act) refl
none_fits size m b ports actor (Op.Out act) is none = cc
none_fits size m b ports actor Op.Idle is none = refl

some_fits : (there : Layout) (m : memory.Memory) (b : Board) (ports : List PortState) (actor : ActorId) (op : Op) (reply : Reply)
    → is_given op (Host reply) ≡ true → fits op (reply_at (place_of there op) m b ports actor op (Host reply)) ≡ true
some_fits there m b ports actor (Op.Out act) reply fit = fit
some_fits there m b ports actor op reply fit = cc

pub answer_fits : (size : ℕ) (m : memory.Memory) (b : Board) (ports : List PortState) (actor : ActorId) (op : Op)
    (given : Given) → IsPortThere (length ports) op → is_given op given ≡ true
    → fits op (reply_at (place_of (record { memory_size = size; ports = length ports }) op) m b ports actor op given) ≡ true
answer_fits size m b ports actor op Nothing is fit = none_fits size m b ports actor op is fit
answer_fits size m b ports actor op (Host reply) is fit =
    some_fits (record { memory_size = size; ports = length ports }) m b ports actor op reply fit
answer_fits size m b ports actor op Short is fit = absurd (short_not op fit)
