use Rattle.std.proofs.Common.{◌∙◌, ℕ, sym, ap, subst, List, Option, slice_get}
use Rattle.port_table.specs.declared.state.PortState.{PortState}
use Rattle.guest_devices.specs.declared.change.DeviceChange.{DeviceChange}
use Rattle.guest_devices.specs.Kinds.{FitsChange}
use Rattle.flat_guest.specs.Changes.{told}
use Rattle.flat_machine.specs.Balloon.{target_in}
use Rattle.vm_world.specs.Worlds.{IsWorld}
use Rattle.monitor_machine.proofs.machine.telling.show_target.Goals as goal

pub change-requires : goal.change-requires
change-requires c = subst FitsChange (sym c.interval_told.ensures) tt

pub returns : goal.returns
returns c = λ g is.
    let k = c.args.device in
    let shows : List PortState → Option (List ℕ) = λ l. target_in c.args.balloon.now (slice_get l k) in
    subst (λ (t : DeviceChange). IsWorld c.change.new.self (told k t (shows g.ports) g)) c.interval_told.ensures
    (subst (λ (o : Option (List ℕ)). IsWorld c.change.new.self (told k c.interval_told.result o g)) (c.target_by-shown.ensures ∙ ap shows is.ports_are)
    (c.change.ensures.guest g is))
