-- One port more, of one device more that fits.
use Rattle.std.proofs.Common.{◌∙◌, ◌++◌, ◌∷◌, [], sym, ap, map, subst, take}
use Rattle.std.proofs.lemmas.List.{map_push, take_more}
use Rattle.std.proofs.lemmas.List.Elements.{All-more, All-nil}
use Rattle.guest_devices.specs.Devices.{FitsNew}
use Rattle.guest_devices.specs.Ports.{port_at_start}
use Rattle.vm_world.proofs.starting.ports_at_start.Goals as goal

pub loop-what-init : goal.loop-what-init
loop-what-init c = record { ports = c.new-ports.ensures.items; fit = All-nil FitsNew }

pub loop-what-preserved : goal.loop-what-preserved
loop-what-preserved c =
    let what = c.what-item.result in
    let made = map port_at_start (take c.loop-what.what-index c.args.devices.now) in record {
      ports = c.in_ok-push.ensures.items
          ∙ (λ i. c.loop-what.invariant.ports i ++ c.port_at_start.ensures.port i ∷ [])
          ∙ (λ i. made ++ port_at_start (c.what-item.is i) ∷ [])
          ∙ sym (map_push port_at_start (take c.loop-what.what-index c.args.devices.now) _)
          ∙ ap (map port_at_start) (sym (take_more c.args.devices.now c.loop-what.what-index what c.loop-what-test.true));
      fit = All-more FitsNew c.args.devices.now c.loop-what.what-index what c.loop-what-test.true c.loop-what.invariant.fit
          (subst FitsNew c.what-item.is c.port_at_start.ensures.fits);
    }
