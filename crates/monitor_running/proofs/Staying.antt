-- A ready machine stays so by its events and by a drain.
use Rattle.std.proofs.Common.{◌≡◌, Bool, true, false, inl, inr, refl, sym, ap, subst, ◌∙◌, List, [], ◌∷◌, Option, Some}
use Rattle.vm_types.specs.declared.entry.Entry.{Entry}
use Rattle.flat_guest.specs.Guest.{Guest}
use Rattle.flat_machine.specs.Machine.{Machine}
use Rattle.flat_machine.specs.Ready.{IsReadyGuest, Ready}
use Rattle.flat_machine.proofs.Ready.{event_ready, guest_ready}
use Rattle.vm_world.specs.Worlds.{IsSameButSpare, IsWorld, WorldValue}
use Rattle.vm_world.proofs.Events.{same_world}
use Rattle.slice_runner.specs.Slices.{Leads, event_of}
use Rattle.monitor_machine.specs.Live.{Live}
use Rattle.monitor_machine.specs.Running.{resting_world, running_world}
use Rattle.monitor_machine.specs.Ready.{IsReadyLive}
use Rattle.monitor_machine.proofs.Lines.{some_guest}
use Rattle.monitor_machine.proofs.Standing.{drain_stays}
use Rattle.monitor_running.specs.Staying.{MayBeDrained, StaysReady}

-- ---- one after another

pub stays_same : (w v : WorldValue) → v ≡ w → StaysReady w v
stays_same w v is = λ live runs ready. subst (λ (u : WorldValue). IsReadyLive (record live { guest = Some u })) (sym is) ready

pub stays_then : (u v w : WorldValue) → StaysReady u v → StaysReady v w → StaysReady u w
stays_then u v w first second = λ live runs ready. second live runs (first live runs ready)

-- ---- a drain

pub stays_drained : (w v : WorldValue) → MayBeDrained w v → StaysReady w v
stays_drained w v (inl same) = stays_same w v same
stays_drained w v (inr is) = λ live runs ready.
    subst (λ (u : WorldValue). IsReadyLive (record live { guest = Some u })) (sym is)
    (drain_stays (record live { guest = Some w }) w refl ready)

-- ---- events

leads_ready : (es : List Entry) (m : Machine) (g h : Guest) → Ready m → IsReadyGuest m.config false g → m.paused ≡ false → Leads g es h
    → Ready (record m { guest = Some h })
leads_ready [] m g h ready own runs same = record {
  taken = ready.taken;
  guest =
      subst (λ (b : Bool). IsReadyGuest m.config b h) (sym runs) (subst (λ (q : Guest). IsReadyGuest m.config false q) same own);
  next = ready.next;
  base = ready.base;
}
leads_ready (e ∷ es) m g h ready own runs (mid, step, more) =
    let next = event_ready m g mid (event_of e) e ready own runs step in
    leads_ready es m mid h ready (subst (λ (b : Bool). IsReadyGuest m.config b mid) runs next.guest) runs more

-- whichever events lead from each guest that the world was to one that it is
pub stays_led : (w v : WorldValue)
    → ((g : Guest) → IsWorld w g → (es : List Entry) × (h : Guest) × Leads g es h × IsWorld v h) → StaysReady w v
stays_led w v led = λ live runs (m, own, ready).
    let there = some_guest (Some w) w m.guest own.guest_is refl in
    let to = led there.0 there.2 in
    let moving = sym own.paused_is ∙ runs in
    let guest = subst (λ (b : Bool). IsReadyGuest m.config b there.0) moving (guest_ready m there.0 ready there.1) in (
      record m { guest = Some to.1 },
      record {
        id_is = own.id_is;
        ids_is = own.ids_is;
        config_is = own.config_is;
        metadata_is = own.metadata_is;
        guest_is = to.3;
        paused_is = own.paused_is;
      },
      leads_ready to.0 m there.0 to.1 ready guest moving to.2,
    )

-- other pages are spare
pub stays_made : (w v : WorldValue) → IsSameButSpare w v → StaysReady w v
stays_made w v same = stays_led w v (λ g is. ([], g, refl, same_world w v g same is))

-- ---- the machine whose world ran

some_taken : (guest : Option WorldValue) (paused : Bool) (w : WorldValue) → running_world guest paused ≡ Some w
    → (guest ≡ Some w) × (paused ≡ false)
some_taken guest true w some = cc
some_taken guest false w some = (some, refl)

pub put_back : (live taken : Live) (w v : WorldValue) → running_world live.guest live.paused ≡ Some w
    → taken ≡ record live { guest = resting_world live.guest live.paused } → StaysReady w v
    → IsReadyLive (record taken { guest = Some w }) → IsReadyLive (record taken { guest = Some v })
put_back live taken w v some left stays ready =
    let moving : taken.paused ≡ false = ap (λ (l : Live). l.paused) left ∙ (some_taken live.guest live.paused w some).1 in
    stays taken moving ready
