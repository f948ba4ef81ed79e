-- The guest that a world is, is sound.
use Rattle.std.proofs.Common.{sym, subst, List, [], ◌∷◌}
use Rattle.vm_types.specs.declared.ids.ActorId.{ActorId}
use Rattle.vm_types.specs.declared.entry.Entry.{Entry}
use Rattle.hart_trace.proofs.Traces as hart_traces
use Rattle.timer_trace.proofs.Traces as timer_traces
use Rattle.flat_guest.specs.Guest.{Guest}
use Rattle.flat_guest.specs.Sound.{IsSound}
use Rattle.flat_guest.proofs.Lists.{there_too}
use Rattle.flat_guest.proofs.Soundness.{sound_next}
use Rattle.slice_runner.specs.Slices.{Leads, event_of}
use Rattle.vm_world.specs.Worlds.{IsWorld, WorldValue}

pub world_sound : (w : WorldValue) (g : Guest) → IsWorld w g → IsSound g
world_sound w g is = record {
  timer_on = timer_traces.timer_prefix (g.steps ActorId.Timer) w.timer is.timer_is;
  harts_on = λ k start begins.
      let hart = there_too g.starts w.harts k start (sym is.harts_are.count) begins in
      hart_traces.hart_prefix start (g.steps (ActorId.Hart k)) hart.0 (is.harts_are.each k start hart.0 begins hart.1);
  devices_on = is.devices_are.sound;
}

-- and so is each that events lead to
pub sound_led : (es : List Entry) (g h : Guest) → IsSound g → Leads g es h → IsSound h
sound_led [] g h sound leads = subst (λ (x : Guest). IsSound x) leads sound
sound_led (e ∷ es) g h sound leads =
    sound_led es leads.0 h (sound_next g (event_of e) e leads.0 sound leads.1) leads.2
