-- Where ops act, among so many pages and ports.
use Rattle.std.proofs.Common.{◌≡◌, ℕ, ◌+◌, ◌*◌, ◌-◌, ◌/◌, ◌%◌, ◌<◌, nat_le, nat_lt, max, Bool, true, false, cond, ◌&&◌, refl, sym, ap, ◌∙◌, subst, arith, length}
use Rattle.std.proofs.lemmas.Bool.{eq-eqb, lt-ltb, ltb-true}
use Rattle.std.proofs.Common.{Option, Some, None}
use Rattle.vm_types.specs.declared.entry.Entry.{Entry}
use Rattle.vm_types.specs.declared.ids.ActorId.{ActorId}
use Rattle.vm_types.specs.declared.reply.Reply.{Reply}
use Rattle.vm_types.specs.Serial.{OutFits}
use Rattle.place_locks.specs.Held.{IsEntryOf}
use Rattle.flat_guest.specs.Body.{out_reply}
use Rattle.flat_guest.specs.Given.{Given}
use Rattle.flat_guest.specs.Given.Given.{Host, Nothing, Short}
use Rattle.flat_guest.specs.Steps.{is_given}
use Rattle.guest_memory.specs.Ram.{is_ram, page_size, ram_start}
use Rattle.hart_trace.specs.Asks.{is_port_op}
use Rattle.slice_runner.specs.Runs.{IsActOf, has_port}
use Rattle.vm_types.specs.declared.op.Op.{Op}
use Rattle.vm_types.specs.declared.ids.PlaceId.{PlaceId}
use Rattle.vm_types.specs.Ids.{is_out, same_place}
use Rattle.guest_memory.specs.Route.{access_place, page_of}
use Rattle.guest_memory.specs.Words.{width_of}
use Rattle.guest_pages.proofs.Here.{here}
use Rattle.flat_guest.specs.Places.{is_register_access, place_by, port_accessed, port_place}
use Rattle.stamp_merge.specs.declared.layout.Layout.{Layout}
use Rattle.stamp_merge.proofs.Serial.{same_place-eq}
use Rattle.machine_places.specs.declared.place.MachinePlace.{MachinePlace}
use Rattle.machine_places.specs.Laid.{index_among, is_laid}
use Rattle.machine_places.proofs.Indexing.{are_apart}
use Rattle.turn_table.specs.declared.view.View.{View}
use Rattle.turn_table.specs.Acts.{IsEntryAt}
use Rattle.turn_work.specs.Work.{AreNamed, IsOutEntry}
use Rattle.flat_guest.proofs.Answering.{short_not}
use Rattle.vm_world.proofs.Events.{place_access}
use Rattle.slice_runner.specs.Values.{route_among}

below : (n at len i : ℕ) → page_of (4096 * n) at len ≡ PlaceId.Page i → i < n
below n at len i is =
    let h = here (4096 * n) at len i is in
    let some = h.some in
    let from = h.from in
    let to = h.to in
    let low = h.below in
    omega arith

access_below : (n i : ℕ) (op : Op) → access_place (4096 * n) op ≡ PlaceId.Page i → i < n
access_below n i (Op.Read at len) is = below n at len i is
access_below n i (Op.Write at piece) is = below n at (length piece) i is
access_below n i (Op.Amo at value kind wide) is = below n at (width_of wide) i is
access_below n i (Op.Lr at wide) is = below n at (width_of wide) i is
access_below n i (Op.Sc at value wide) is = below n at (width_of wide) i is
access_below n i op is = cc

-- a page that an op acts on is there
pub page_there : (layout : Layout) (i : ℕ) (op : Op) → route_among layout op ≡ PlaceId.Page i → i < layout.pages
page_there layout i op is =
    access_below layout.pages i op (place_access (record { memory_size = 4096 * layout.pages; ports = layout.ports }) i op is)

-- no access to memory is at a port
not_memory : (page : Bool) (i k : ℕ) → cond page (PlaceId.Page i) PlaceId.Out ≡ PlaceId.Port k → ⊥
not_memory true i k is = cc
not_memory false i k is = cc

-- the bytes are in one page of RAM
abbrev in_page : ℕ → ℕ → ℕ → Bool
in_page size at len =
    nat_le 1 len && is_ram size at len && nat_le ((at - ram_start) % page_size + len) page_size

no_port_of : (size at len k : ℕ) → page_of size at len ≡ PlaceId.Port k → ⊥
no_port_of size at len k is = not_memory (in_page size at len) ((at - ram_start) / page_size) k is

-- the port is one of so many
by_test : (port ports k : ℕ) (t : Bool) → nat_lt port ports ≡ t → cond t (PlaceId.Port port) PlaceId.Out ≡ PlaceId.Port k → k < ports
by_test port ports k true lt is =
    let same : port ≡ k = cc in subst (λ (n : ℕ). n < ports) same (ltb-true port ports lt)
by_test port ports k false lt is = cc

of_port : (ports port k : ℕ) → port_place ports port ≡ PlaceId.Port k → k < ports
of_port ports port k is = by_test port ports k (nat_lt port ports) refl is

by_place : (ports k : ℕ) (registers : Bool) (o : Option ℕ) (memory : PlaceId) → (memory ≡ PlaceId.Port k → ⊥)
    → place_by ports registers o memory ≡ PlaceId.Port k → k < ports
by_place ports k true o memory not is = cc
by_place ports k false (Some port) memory not is = of_port ports port k is
by_place ports k false None memory not is = absurd (not is)

-- a port that an op acts on is there
pub port_there : (layout : Layout) (k : ℕ) (op : Op) → route_among layout op ≡ PlaceId.Port k → k < layout.ports
port_there layout k (Op.Read at len) is =
    let op : Op = Op.Read at len in
    by_place layout.ports k (is_register_access op) (port_accessed op) (page_of (4096 * layout.pages) at len)
    (no_port_of (4096 * layout.pages) at len k) is
port_there layout k (Op.Write at piece) is =
    let op : Op = Op.Write at piece in
    by_place layout.ports k (is_register_access op) (port_accessed op) (page_of (4096 * layout.pages) at (length piece))
    (no_port_of (4096 * layout.pages) at (length piece) k) is
port_there layout k (Op.Amo at value kind wide) is =
    let op : Op = Op.Amo at value kind wide in
    by_place layout.ports k (is_register_access op) (port_accessed op) (page_of (4096 * layout.pages) at (width_of wide))
    (no_port_of (4096 * layout.pages) at (width_of wide) k) is
port_there layout k (Op.Lr at wide) is =
    let op : Op = Op.Lr at wide in
    by_place layout.ports k (is_register_access op) (port_accessed op) (page_of (4096 * layout.pages) at (width_of wide))
    (no_port_of (4096 * layout.pages) at (width_of wide) k) is
port_there layout k (Op.Sc at value wide) is =
    let op : Op = Op.Sc at value wide in
    by_place layout.ports k (is_register_access op) (port_accessed op) (page_of (4096 * layout.pages) at (width_of wide))
    (no_port_of (4096 * layout.pages) at (width_of wide) k) is
port_there layout k (Op.Port port act) is = of_port layout.ports port k is
port_there layout k (Op.Board act) is = cc
port_there layout k (Op.Out act) is = cc
port_there layout k Op.Idle is = cc

-- the place of an op is there, if it has one
pub laid_out : (layout : Layout) (op : Op) (place : PlaceId) → place ≡ route_among layout op → is_out place ≡ false → is_laid layout place ≡ true
laid_out layout op (PlaceId.Page i) is inner = lt-ltb i layout.pages (page_there layout i op (sym is))
laid_out layout op (PlaceId.Port k) is inner = lt-ltb k layout.ports (port_there layout k op (sym is))
laid_out layout op PlaceId.Board is inner = refl
laid_out layout op PlaceId.Out is inner = cc

-- with no place the reply is what the machine allows
none_fits : (layout : Layout) (op : Op) → route_among layout op ≡ PlaceId.Out → has_port layout op ≡ true → is_given op Nothing ≡ true
    → OutFits op (out_reply op Nothing)
none_fits layout (Op.Read at len) is own fit = refl
none_fits layout (Op.Write at piece) is own fit = refl
none_fits layout (Op.Amo at value kind wide) is own fit = refl
none_fits layout (Op.Lr at wide) is own fit = refl
none_fits layout (Op.Sc at value wide) is own fit = refl
none_fits layout (Op.Port port act) is own fit =
    let there : port_place layout.ports port ≡ PlaceId.Port port = ap (λ (t : Bool). cond t (PlaceId.Port port) PlaceId.Out) own in
    let both = sym there ∙ is in cc
none_fits layout (Op.Board act) is own fit = cc
none_fits layout (Op.Out act) is own fit = cc
none_fits layout Op.Idle is own fit = refl

some_fits : (op : Op) (reply : Reply) → is_given op (Host reply) ≡ true → OutFits op (out_reply op (Host reply))
some_fits (Op.Out act) reply fit = fit
some_fits op reply fit = cc

out_fits_by : (layout : Layout) (op : Op) (given : Given) → route_among layout op ≡ PlaceId.Out → has_port layout op ≡ true
    → is_given op given ≡ true → OutFits op (out_reply op given)
out_fits_by layout op Nothing is own fit = none_fits layout op is own fit
out_fits_by layout op (Host reply) is own fit = some_fits op reply fit
out_fits_by layout op Short is own fit = absurd (short_not op fit)

module _ (layout : Layout) (clock : ℕ) (actor : ActorId) (op : Op) (given : Given) where
  -- an act in a turn at its place
  at_one : (place : PlaceId) (e : Entry) → is_out place ≡ false → place ≡ route_among layout op
      → IsEntryOf e actor place op clock → IsActOf e actor op given layout clock
  at_one place e inner placed is =
      let inside : is_out e.place ≡ false = ap is_out is.place_is ∙ inner in record {
        actor_is = is.actor_is;
        op_is = is.op_is;
        placed = (is.place_is ∙ placed ∙ ap (route_among layout) (sym is.op_is), λ out. absurd (clash (e.place) inside out));
        stamp_is = is.stamp_is;
        out = λ out. absurd (clash (e.place) inside out);
        given_is = λ out. absurd (clash (e.place) inside out);
      }
    where
      clash : (p : PlaceId) → is_out p ≡ false → is_out p ≡ true → ⊥
      clash p inside outside = let both = sym inside ∙ outside in cc

  pub at_place : (v : View MachinePlace) (place : PlaceId) (i : ℕ) (e : Entry) → AreNamed (index_among layout) v.round → is_out place ≡ false
      → place ≡ route_among layout op → i ≡ index_among layout place → i < layout.pages + (layout.ports + 1)
      → IsEntryAt v i e actor op clock → IsActOf e actor op given layout clock
  at_place v place i e named inner placed is below at =
      let name = named i at.0 at.1 in
      let less : index_among layout at.0.id < layout.pages + (layout.ports + 1) = subst (λ (n : ℕ). n < layout.pages + (layout.ports + 1)) (sym name.0) below in
      let test : same_place at.0.id place ≡ true =
      sym (are_apart layout at.0.id place less) ∙ eq-eqb (index_among layout at.0.id) (index_among layout place) (name.0 ∙ is) in
      at_one place e inner placed (subst (λ (p : PlaceId). IsEntryOf e actor p op clock) (same_place-eq at.0.id place test) at.2)

  -- an act with no place
  pub at_none : (e : Entry) → has_port layout op ≡ true → is_given op given ≡ true → route_among layout op ≡ PlaceId.Out
      → IsOutEntry e actor op (out_reply op given) clock → IsActOf e actor op given layout clock
  at_none e own fit nowhere is = record {
    actor_is = is.actor_is;
    op_is = is.op_is;
    placed = (
      is.place_is ∙ sym nowhere ∙ ap (route_among layout) (sym is.op_is),
      λ out. rw (is.reply_is, is.op_is) (out_fits_by layout op given nowhere own fit),
    );
    stamp_is = rw is.before_is (is.stamp_is ∙ add_one clock);
    out = λ out. is.before_is;
    given_is = λ out. is.reply_is;
  }
    where
      add_one : (k : ℕ) → k + 1 ≡ 1 + max k 0
      add_one k = omega arith

pub inside_of : (place : PlaceId) → (place ≡ PlaceId.Out → ⊥) → is_out place ≡ false
inside_of (PlaceId.Page i) not = refl
inside_of (PlaceId.Port k) not = refl
inside_of PlaceId.Board not = refl
inside_of PlaceId.Out not = absurd (not refl)

-- an act on no port is on none that isn't there
pub no_port_op : (layout : Layout) (op : Op) → is_port_op op ≡ false → has_port layout op ≡ true
no_port_op layout (Op.Port port act) not = cc
no_port_op layout op not = refl
