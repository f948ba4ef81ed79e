-- What is left of what turns are given, where a part of it was lent.
use Rattle.std.proofs.Common.{◌≡◌, ◌∙◌, sym, ap, subst, None}
use Rattle.vm_host.specs.Storing.{DiskKnown}
use Rattle.vm_host.specs.Telling.{ClockKnown, Lasts}
use Rattle.vm_outside.specs.Known.{SinkKnown}
use Rattle.flat_machine.specs.Machine.{Machine}
use Rattle.monitor_machine.specs.Kinds.{DevicesKnown}
use Rattle.monitor_running.specs.Asked.{HostKnown}
use Rattle.monitor_running.specs.Objects.{TurnKnown, known_with, with_clock, with_devices, with_disk, with_host}
use Rattle.monitor_running.specs.Ran.{Went}
use Rattle.monitor_running.proofs.Events.{rests_same}
use Rattle.monitor_running.proofs.Lifts.{went_resting}

-- ---- objects of devices were asked, twice

pub beside_more : (a b c : TurnKnown) → b ≡ with_devices a b.host.devices → c ≡ with_devices b c.host.devices
    → c ≡ with_devices a c.host.devices
beside_more a b c first behind =
    behind ∙ ap (λ (k : TurnKnown). with_devices k c.host.devices) first

-- the disks were lent, and given back as they were
pub disk_settled : (was now : TurnKnown) (lent back : DiskKnown) → lent ≡ was.host.devices.disk → now ≡ with_disk was back → back ≡ lent
    → now ≡ was
disk_settled was now lent back from set same =
    set ∙ ap (λ (d : DiskKnown). with_disk was d) (same ∙ from)

-- the clock and the objects of devices were asked nothing, and kept what they knew
pub host_unasked : (was now : TurnKnown) → now ≡ with_host was now.host → now.host ≡ was.host → now ≡ was
host_unasked was now set same = set ∙ ap (λ (h : HostKnown). with_host was h) same

-- or the clock alone
pub clock_unasked : (was now : TurnKnown) → now ≡ with_clock was now.host.clock → now.host.clock ≡ was.host.clock → now ≡ was
clock_unasked was now set same = set ∙ ap (λ (c : ClockKnown). with_clock was c) same

-- or the objects of devices alone
pub devices_unasked : (was now : TurnKnown) → now ≡ with_devices was now.host.devices → now.host.devices ≡ was.host.devices → now ≡ was
devices_unasked was now set same = set ∙ ap (λ (d : DevicesKnown). with_devices was d) same

-- the clock rested
pub clock_rested : {B : Type 0} (Is : B → Machine → Type 0) (first now : TurnKnown) (sink : SinkKnown) (b c : B)
    → now ≡ with_clock first now.host.clock → Lasts first.host.clock now.host.clock → c ≡ b
    → Went Is None (known_with first sink) b (known_with now sink) c
clock_rested Is first now sink b c set rests same =
    subst (λ (k : TurnKnown). Went Is None (known_with first sink) b (known_with k sink) c) (sym set)
    (went_resting Is first.trace sink first.host (record first.host { clock = now.host.clock }) b c same
    (record { clock = rests; devices = rests_same first.host.devices }))
