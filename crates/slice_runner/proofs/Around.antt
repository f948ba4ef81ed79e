-- A slice of a world's parts is one of the world, of which some pages were made spare before it.
use Rattle.std.proofs.Common.{◌≡◌, ℕ, suc, ◌+◌, All, Bool, List, length, sym, ap, ◌∙◌, subst}
use Rattle.pause_gate.specs.Tally.{Tally}
use Rattle.vm_types.specs.declared.entry.Entry.{Entry}
use Rattle.vm_types.specs.declared.op.OutOp.{OutOp}
use Rattle.vm_types.specs.declared.reply.Reply.{Reply}
use Rattle.guest_pages.specs.Marks.{AreMarks}
use Rattle.guest_pages.specs.Pages.{marks_of}
use Rattle.vm_world.specs.declared.world.parting.WorldParts.{WorldParts}
use Rattle.vm_world.specs.Worlds.{IsSameButSpare, IsWorld, WorldValue}
use Rattle.vm_world.proofs.Events.{same_world}
use Rattle.slice_runner.specs.declared.devices.Devices.{Devices}
use Rattle.slice_runner.specs.declared.room.Counts.{Counts}
use Rattle.slice_runner.specs.declared.room.Room.{Room}
use Rattle.slice_runner.specs.declared.stop.Stopped.{Stopped}
use Rattle.slice_runner.specs.Blanks.{pool_of}
use Rattle.slice_runner.specs.Opened.{AreBackParts, world_of}
use Rattle.slice_runner.specs.Room.{HasRoom, counts_of}
use Rattle.slice_runner.specs.Slices.{DevicesAnswered, IsSerial, IsThere, MarksFollow, acting, acting_of, written_by}
use Rattle.slice_runner.specs.Stops.{AreStopped}

-- the parts were put back, and then blanks
pub put_and_given : (w put back : WorldValue) (m : ℕ) → IsSameButSpare put back → put ≡ record w { spare = m } → back ≡ record w { spare = back.spare }
put_and_given w put back m given is = given ∙ ap (λ (v : WorldValue). record v { spare = back.spare }) is

module _ (old made : WorldValue) (p : WorldParts) (n : ℕ) (same : IsSameButSpare old made) (taken : record (world_of p) { spare = n } ≡ made) where
  -- as many harts
  pub harts_around : length p.harts.items ≡ length old.harts
  harts_around = ap (λ (w : WorldValue). length w.harts) taken ∙ ap (λ (w : WorldValue). length w.harts) same

  -- as many devices that act
  pub acting_around : (how : Devices) → acting_of how (length p.devices.items) ≡ acting how old
  acting_around how = ap (λ (w : WorldValue). acting how w) taken ∙ ap (λ (w : WorldValue). acting how w) same

  -- room for the world is room for its parts
  pub room_around : {Q : Type 0} (how : Devices) (pages ports : ℕ) (counts : Counts) (total steps blanks : ℕ) (room : Room Q) → pages ≡ length old.pages
      → ports ≡ length old.ports → counts.harts ≡ length old.harts → counts.devices ≡ acting how old → blanks ≡ pool_of steps old.pages
      → counts.passes ≡ total → HasRoom pages ports counts steps blanks room
      → HasRoom (length p.pages.items) (length p.ports.items) (counts_of (length p.harts.items) (acting_of how (length p.devices.items)) total) steps
      (pool_of steps p.pages.items) room
  room_around {Q} how pages ports counts total steps blanks room pages_many ports_many harts_many devices_many blanks_are passes_are has =
      let pages_are : p.pages.items ≡ old.pages = ap (λ (w : WorldValue). w.pages) taken ∙ ap (λ (w : WorldValue). w.pages) same in
      let ports_are : p.ports.items ≡ old.ports = ap (λ (w : WorldValue). w.ports) taken ∙ ap (λ (w : WorldValue). w.ports) same in
      let harts_are : p.harts.items ≡ old.harts = ap (λ (w : WorldValue). w.harts) taken ∙ ap (λ (w : WorldValue). w.harts) same in
      let same_counts : counts ≡ counts_of (length p.harts.items) (acting_of how (length p.devices.items)) total =
      λ i. record {
        harts = (harts_many ∙ ap length (sym harts_are)) i;
        devices = (devices_many ∙ sym (acting_around how)) i;
        passes = passes_are i;
      } in
      subst (λ (c : Counts). HasRoom (length p.pages.items) (length p.ports.items) c steps (pool_of steps p.pages.items) room) same_counts
      (subst (λ (k : ℕ). HasRoom k (length p.ports.items) counts steps (pool_of steps p.pages.items) room)
      (pages_many ∙ ap length (sym pages_are))
      (subst (λ (k : ℕ). HasRoom pages k counts steps (pool_of steps p.pages.items) room) (ports_many ∙ ap length (sym ports_are))
      (subst (λ (k : ℕ). HasRoom pages ports counts steps k room) (blanks_are ∙ ap (pool_of steps) (sym pages_are)) has)))

  pub there_around : (how : Devices) (es : List Entry)
      → All (λ (e : Entry). IsThere (length (world_of p).harts) (acting_of how (length p.devices.items)) e.actor) es
      → All (λ (e : Entry). IsThere (length old.harts) (acting how old) e.actor) es
  there_around how es there =
      subst (λ (k : ℕ). All (λ (e : Entry). IsThere k (acting how old) e.actor) es) harts_around
      (subst (λ (k : ℕ). All (λ (e : Entry). IsThere (length p.harts.items) k e.actor) es) (acting_around how) there)

  pub answered_around : {K : Type 0} (Answers : ℕ → OutOp → Reply → K → K → Type 0) (how : Devices) (es : List Entry) (known left : K)
      → DevicesAnswered Answers es 0 (acting_of how (length p.devices.items)) known left → DevicesAnswered Answers es 0 (acting how old) known left
  answered_around Answers how es known left answered =
      subst (λ (k : ℕ). DevicesAnswered Answers es 0 k known left) (acting_around how) answered

  module _ (back : WorldValue) (q : WorldParts) (m : ℕ) (put : back ≡ record (world_of q) { spare = m }) where
    pub serial_around : (es : List Entry) → IsSerial (world_of p) es (world_of q) → IsSerial old es back
    serial_around es serial g is =
        let is_made : IsWorld made g = same_world old made g same is in
        let is_parts : IsWorld (record (world_of p) { spare = n }) g = subst (λ (w : WorldValue). IsWorld w g) (sym taken) is_made in
        let to = serial g is_parts in
        (to.0, to.1, subst (λ (w : WorldValue). IsWorld w to.0) (sym put) to.2)

    pub marks_around : (es : List Entry) → MarksFollow p.pages.items es q.pages.items → MarksFollow old.pages es back.pages
    marks_around es follow written are =
        let before : marks_of p.pages.items ≡ marks_of old.pages =
        ap (λ (w : WorldValue). marks_of w.pages) taken ∙ ap (λ (w : WorldValue). marks_of w.pages) same in
        subst (λ (l : List Bool). AreMarks l (written_by written es)) (ap (λ (w : WorldValue). marks_of w.pages) (sym put))
        (follow written (subst (λ (l : List Bool). AreMarks l written) (sym before) are))

    pub back_around : AreBackParts p q → IsSameButSpare old back
    back_around are =
        put ∙ ap (λ (w : WorldValue). record w { spare = m }) are.world ∙ ap (λ (w : WorldValue). record w { spare = m }) taken
        ∙ ap (λ (w : WorldValue). record w { spare = m }) same ∙ ap (λ (k : ℕ). record old { spare = k }) (sym (ap (λ (w : WorldValue). w.spare) put))

-- the stops say nothing of spare pages, neither of those before nor of those behind
pub stopped_around : {Q : Type 0} (tally : Q → Tally) (steps : ℕ) (how : Devices) (old made : WorldValue) (p : WorldParts) (n : ℕ) → IsSameButSpare old made
    → record (world_of p) { spare = n } ≡ made → (es : List Entry) (back : WorldValue) (q : WorldParts) (m : ℕ)
    (stops : List Stopped) (before after : List Q) → back ≡ record (world_of q) { spare = m }
    → AreStopped tally steps (acting_of how (length p.devices.items)) (world_of p) es (world_of q) stops before after
    → AreStopped tally steps (acting how old) old es back stops before after
stopped_around tally steps how old made p n same taken es back q m stops before after put stopped =
    let many : acting_of how (length p.devices.items) ≡ acting how old = acting_around old made p n same taken how in
    let first : record (world_of p) { spare = 0 } ≡ record old { spare = 0 } = ap (λ (w : WorldValue). record w { spare = 0 }) (taken ∙ same) in
    let begun = subst (λ (w : WorldValue). AreStopped tally steps (acting how old) w es (world_of q) stops before after) first (record {
      count = stopped.count ∙ ap (λ (k : ℕ). suc (length q.harts.items + k)) many;
      each = λ i s a b at first last.
          let one = stopped.each i s a b at first last in
          record { actor_is = one.actor_is; want = one.want; wants = one.wants; cause = one.cause };
    }) in
    subst (λ (w : WorldValue). AreStopped tally steps (acting how old) old es w stops before after) (sym put)
    (record {
      count = begun.count;
      each = λ i s a b at first last.
          let one = begun.each i s a b at first last in
          record { actor_is = one.actor_is; want = one.want; wants = one.wants; cause = one.cause };
    })
