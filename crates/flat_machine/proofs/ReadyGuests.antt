-- A guest that is ready stays so, where its machine halts it or lets it go on, and where it is reset, written out or read from;
-- and a sound one stays sound behind its events.
use Rattle.std.proofs.Common.{Bool, true, false, refl, subst, List, [], ◌∷◌, Option, Some, None}
use Rattle.vm_types.specs.declared.ids.ActorId.{ActorId}
use Rattle.vm_types.specs.declared.entry.Entry.{Entry}
use Rattle.vm_config.specs.declared.config.Config.{Config}
use Rattle.flat_guest.specs.Changes.{reset_guest}
use Rattle.flat_guest.specs.Given.Given.{Nothing}
use Rattle.flat_guest.specs.Guest.{Guest, unwritten}
use Rattle.flat_guest.specs.Sound.{IsSound}
use Rattle.flat_guest.specs.Start.{timer_restarted}
use Rattle.flat_guest.specs.Steps.{Makes}
use Rattle.flat_guest.proofs.Shaped.{shaped_drained, shaped_restart, shaped_unwritten}
use Rattle.flat_guest.proofs.Soundness.{sound_next, sound_reset, sound_restart}
use Rattle.flat_snapshot.proofs.Ready.{ready_reset}
use Rattle.flat_machine.specs.Machine.{drained_guest}
use Rattle.flat_machine.specs.Ready.{IsReadyGuest, ReadyBy}
use Rattle.flat_machine.specs.Requests.{halted}

restarted_ready : (config : Config) (paused : Bool) (g : Guest) → IsReadyGuest config paused g → IsReadyGuest config true (timer_restarted g)
restarted_ready config paused g is = record {
  sound = sound_restart g is.sound;
  ready = record {
    configured = is.ready.configured;
    shaped = shaped_restart _ _ _ g is.ready.shaped;
    devices = is.ready.devices;
  };
  rests = λ stands. refl;
}

pub halted_ready : (config : Config) (paused : Bool) (guest : Option Guest) → ReadyBy config paused guest → ReadyBy config true (halted paused guest)
halted_ready config true guest is = is
halted_ready config false None is = tt
halted_ready config false (Some g) is = restarted_ready config false g is

pub resumed_ready : (config : Config) (paused : Bool) (guest : Option Guest) → ReadyBy config paused guest → ReadyBy config false guest
resumed_ready config paused None is = tt
resumed_ready config paused (Some g) is = record { sound = is.sound; ready = is.ready; rests = λ stands. absurd cc }

pub unwritten_ready : (config : Config) (paused : Bool) (g : Guest) → IsReadyGuest config paused g → IsReadyGuest config paused (unwritten g)
unwritten_ready config paused g is = record {
  sound = record { timer_on = is.sound.timer_on; harts_on = is.sound.harts_on; devices_on = is.sound.devices_on };
  ready = record {
    configured = is.ready.configured;
    shaped = shaped_unwritten _ _ _ g is.ready.shaped;
    devices = is.ready.devices;
  };
  rests = is.rests;
}

pub reset_ready : (config : Config) (paused : Bool) (g : Guest) → IsReadyGuest config paused g → IsReadyGuest config paused (reset_guest g)
reset_ready config paused g is = record {
  sound = sound_reset g is.sound;
  ready = ready_reset config g is.ready;
  rests = is.rests;
}

pub drained_ready : (config : Config) (paused : Bool) (guest : Option Guest) → ReadyBy config paused guest → ReadyBy config paused (drained_guest guest)
drained_ready config paused None is = tt
drained_ready config paused (Some g) is = record {
  sound = record { timer_on = is.sound.timer_on; harts_on = is.sound.harts_on; devices_on = is.sound.devices_on };
  ready = record {
    configured = is.ready.configured;
    shaped = shaped_drained _ _ _ g is.ready.shaped;
    devices = is.ready.devices;
  };
  rests = is.rests;
}

pub made_sound : (es : List Entry) (g h : Guest) (actor : ActorId) → Makes g actor es h → IsSound g → IsSound h
made_sound [] g h actor made sound = subst (λ (q : Guest). IsSound q) made sound
made_sound (e ∷ es) g h actor (unstamped, mid, step, more) sound =
    made_sound es mid h actor more (sound_next g (record { actor = actor; given = Nothing }) e mid sound step)
