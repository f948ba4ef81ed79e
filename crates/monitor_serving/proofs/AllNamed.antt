-- The objects of the three kinds that have names are attached one after another.
use Rattle.std.proofs.Common.{◌≡◌, ◌∙◌, sym, ap, subst}
use Rattle.vm_host.specs.Framing.{LinkKnown}
use Rattle.vm_host.specs.Hosting.{VsockKnown}
use Rattle.vm_host.specs.Storing.{DiskKnown}
use Rattle.flat_machine.specs.Machine.{Machine}
use Rattle.monitor_machine.specs.Kinds.{DevicesKnown, disks, links, vsocks, words}
use Rattle.monitor_machine.specs.Objects.{AreNamed, ObjectKind, Uncalled}
use Rattle.monitor_machine.proofs.Attaching.{uncalled_none, words_beside}
use Rattle.monitor_running.specs.Asked.{DevicesUncalled, HaveOwn, healths}
use Rattle.monitor_running.specs.Objects.{TurnKnown, with_devices, with_disk, with_link, with_vsock}

-- an object of a kind was lent, and attached
pub lent_attached : {K : Type 0} (kind : ObjectKind K) (m : Machine) (given now lent last : K) → lent ≡ given → now ≡ last
    → AreNamed kind (kind.health lent) m last → AreNamed kind (kind.health given) m now
lent_attached {K} kind m given now lent last from back has =
    subst (λ (k : K). AreNamed kind (kind.health given) m k) (sym back)
    (subst (λ (k : K). AreNamed kind (kind.health k) m last) from has)

-- what is known first, behind the disks, behind the links, and at last
module _ (a b c d : TurnKnown) (disk : b ≡ with_disk a b.host.devices.disk) (link : c ≡ with_link b c.host.devices.link)
    (vsock : d ≡ with_vsock c d.host.devices.vsock) where
  -- all three are others at last, and nothing else
  pub all : d ≡ with_vsock (with_link (with_disk a b.host.devices.disk) c.host.devices.link) d.host.devices.vsock
  all = vsock ∙ ap (λ (k : TurnKnown). with_vsock k d.host.devices.vsock)
      (link ∙ ap (λ (k : TurnKnown). with_link k c.host.devices.link) disk)

  at_last : d.host.devices
      ≡ record { disk = b.host.devices.disk; link = c.host.devices.link; vsock = d.host.devices.vsock; words = a.host.devices.words }
  at_last = ap (λ (k : TurnKnown). k.host.devices) all

  link_first : b.host.devices.link ≡ a.host.devices.link
  link_first = ap (λ (k : TurnKnown). k.host.devices.link) disk

  vsock_first : c.host.devices.vsock ≡ a.host.devices.vsock
  vsock_first = ap (λ (k : TurnKnown). k.host.devices.vsock) link ∙ ap (λ (k : TurnKnown). k.host.devices.vsock) disk

  pub beside : d ≡ with_devices a d.host.devices
  beside = all ∙ ap (λ (x : DevicesKnown). with_devices a x) (sym at_last)

  pub uncalled : Uncalled disks a.host.devices.disk b.host.devices.disk → Uncalled links b.host.devices.link c.host.devices.link
      → Uncalled vsocks c.host.devices.vsock d.host.devices.vsock → DevicesUncalled a.host.devices d.host.devices
  uncalled of_disk of_link of_vsock =
      subst (λ (x : DevicesKnown). DevicesUncalled a.host.devices x) (sym at_last)
      (record {
        disk = of_disk;
        link = subst (λ (l : LinkKnown). Uncalled links l c.host.devices.link) link_first of_link;
        vsock = subst (λ (v : VsockKnown). Uncalled vsocks v d.host.devices.vsock) vsock_first of_vsock;
        words = uncalled_none words words_beside a.host.devices.words;
      })

  pub attached : (m : Machine) → AreNamed disks a.host.devices.disk.health m b.host.devices.disk
      → AreNamed links b.host.devices.link.health m c.host.devices.link
      → AreNamed vsocks c.host.devices.vsock.health m d.host.devices.vsock → HaveOwn (healths a.host.devices) m d.host.devices
  attached m of_disk of_link of_vsock =
      subst (λ (x : DevicesKnown). HaveOwn (healths a.host.devices) m x) (sym at_last)
      (record {
        disk = of_disk;
        link = subst (λ (l : LinkKnown). AreNamed links l.health m c.host.devices.link) link_first of_link;
        vsock = subst (λ (v : VsockKnown). AreNamed vsocks v.health m d.host.devices.vsock) vsock_first of_vsock;
      })
