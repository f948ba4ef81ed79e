-- The configuration in a state file, part by part in the order of the API, and the fields of each. A part that there
-- isn't yet is absent, a zero.
use Rattle.std.specs.Prelude.{[], ◌∷◌, refl}
use Rattle.file_format.specs.Format.{Format}
use Rattle.file_format.specs.Kinds.{number64, flag, text, optional, list_of, fixed, zeros, ◌&◌, made_of}
use Rattle.api_calls.specs.declared.balloon.Balloon.{Balloon}
use Rattle.api_calls.specs.declared.vsock.Vsock.{Vsock}
use Rattle.snap_state.specs.Drives.{drive}
use Rattle.snap_state.specs.Interfaces.{interface}
use Rattle.snap_state.specs.Mmds.{mmds}
use Rattle.snap_state.specs.declared.configuration.BootSource.{BootSource}
use Rattle.snap_state.specs.declared.configuration.Configuration.{Configuration}

-- what is booted
unfoldable pub boot_source : Format BootSource
boot_source =
    made_of (λ b. (b.kernel_image_path, (b.initrd_path, b.boot_args)))
    (λ (kernel_image_path, (initrd_path, boot_args)).
    record { kernel_image_path = kernel_image_path; initrd_path = initrd_path; boot_args = boot_args })
    (λ _. refl) (λ _. refl)
    (text & optional text & text)

-- how much memory it is to take in MiB, whether its driver may take some back, and how many seconds are between two reports
unfoldable pub balloon : Format Balloon
balloon =
    made_of (λ b. (b.amount_mib, (b.deflate_on_oom, b.stats_polling_interval_s)))
    (λ (amount_mib, (deflate_on_oom, stats_polling_interval_s)).
    record {
      amount_mib = amount_mib;
      deflate_on_oom = deflate_on_oom;
      stats_polling_interval_s = stats_polling_interval_s;
    })
    (λ _. refl) (λ _. refl)
    (number64 & flag & number64)

-- the guest's CID, and the name of the host's socket
unfoldable pub vsock : Format Vsock
vsock =
    made_of (λ v. (v.guest_cid, v.uds_path)) (λ (guest_cid, uds_path). record { guest_cid = guest_cid; uds_path = uds_path })
    (λ _. refl) (λ _. refl)
    (number64 & text)

-- The boot source, which is always there; the drives; the network interfaces; the vsock device, if there is one; the machine,
-- whose smt, a zero, stands before track_dirty_pages; the balloon, if there is one; and how the guest is given metadata, if it is.
unfoldable pub configuration : Format Configuration
configuration =
    made_of
    (λ c. (
      (tt, (c.boot_source, (c.drives, (c.interfaces, c.vsock)))),
      (c.machine.vcpu_count, (c.machine.mem_size_mib, (tt, (c.machine.track_dirty_pages, (c.balloon, c.mmds))))),
    ))
    (λ ((_, (boot_source, (drives, (interfaces, vsock)))), (vcpu_count, (mem_size_mib, (_, (track_dirty_pages, (balloon, mmds)))))).
    record {
      boot_source = boot_source;
      drives = drives;
      interfaces = interfaces;
      vsock = vsock;
      machine = record { vcpu_count = vcpu_count; mem_size_mib = mem_size_mib; track_dirty_pages = track_dirty_pages };
      balloon = balloon;
      mmds = mmds;
    })
    (λ _. refl) (λ _. refl)
    (
    (fixed (1 ∷ []) & boot_source & list_of drive & list_of interface & optional vsock)
    & (number64 & number64 & zeros 1 & flag & optional balloon & optional mmds)
    )
