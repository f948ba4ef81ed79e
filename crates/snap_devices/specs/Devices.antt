-- A device as bytes.
use Rattle.std.specs.Prelude.{◌≡◌, ℕ, zero, suc, false, None, [], refl}
use Rattle.std.proofs.Common.{sym, ap}
use Rattle.file_format.specs.Ends.{Listing, chosen_list, no_list, standing_list, whole}
use Rattle.file_format.specs.Kinds.{byte}
use Rattle.dev_core.specs.Collecting as collecting
use Rattle.queue_device.specs.declared.device.QueueRounds.{QueueRounds}
use Rattle.queue_device.specs.declared.phase.Phase.TheVariants.{Between}
use Rattle.queue_device.specs.Lanes.{new_rounds}
use Rattle.block_device.specs.declared.kind.BlockKind.{BlockKind}
use Rattle.block_device.specs.declared.work.BlockStage.TheVariants as block_at
use Rattle.net_device.specs.declared.kind.Stage.TheVariants as net_at
use Rattle.net_device.specs.Work as net_work
use Rattle.vsock_device.specs.declared.kind.Stage.TheVariants as vsock_at
use Rattle.vsock_device.specs.declared.kind.VsockKind.{VsockKind}
use Rattle.vsock_device.specs.Data.{new_data}
use Rattle.balloon_device.specs.declared.kind.Stage.TheVariants as balloon_at
use Rattle.balloon_device.specs.Statistics.{no_statistics}
use Rattle.balloon_device.specs.Work as balloon_work
use Rattle.entropy_device.specs.declared.kind.Stage.TheVariants as entropy_at
use Rattle.entropy_device.specs.Work as entropy_work
use Rattle.guest_devices.specs.declared.device.Device.{Device}
use Rattle.guest_devices.specs.declared.device.Device.TheVariants as kept
use Rattle.snap_devices.specs.Balloons.{balloon}
use Rattle.snap_devices.specs.Blocks.{block}
use Rattle.snap_devices.specs.Entropies.{entropy}
use Rattle.snap_devices.specs.Nets.{net}
use Rattle.snap_devices.specs.Vsocks.{vsock}

-- its kind, as a byte: that of its port (VIRTIO 1.2, 5: `Ports.kind_code`)
abbrev pub device_code : Device → ℕ
device_code (kept.Net n) = 0
device_code (kept.Block b) = 1
device_code (kept.Balloon b) = 2
device_code (kept.Vsock v) = 3
device_code (kept.Entropy e) = 4

-- of another device it is one that has done nothing
abbrev pub block_of : Device → QueueRounds BlockKind
block_of (kept.Block b) = b
block_of _ = record {
  rounds = new_rounds 0 0;
  kind = record {
    facts = record { sectors = 0; drive_id = []; is_read_only = false; limits = record { bandwidth = None; ops = None } };
    work = record { stage = block_at.Rest; from = collecting.nothing; to = [] };
  };
  phase = Between;
}

abbrev pub net_of : Device → QueueRounds net_work.Kept
net_of (kept.Net n) = n
net_of _ = record {
  rounds = new_rounds 0 0;
  kind = record {
    own = record {
      text = [];
      rx = record { bandwidth = None; ops = None };
      tx = record { bandwidth = None; ops = None };
    };
    doing = record { stage = net_at.Rest; bytes = [] };
  };
  phase = Between;
}

abbrev pub balloon_of : Device → QueueRounds balloon_work.Kept
balloon_of (kept.Balloon b) = b
balloon_of _ = record {
  rounds = new_rounds 0 0;
  kind = record {
    own = record { interval = 0; last = 0; statistics = no_statistics };
    stage = balloon_at.Rest;
  };
  phase = Between;
}

abbrev pub vsock_of : Device → QueueRounds VsockKind
vsock_of (kept.Vsock v) = v
vsock_of _ = record {
  rounds = new_rounds 0 0;
  kind = record { own = new_data 0; stage = vsock_at.Rest };
  phase = Between;
}

abbrev pub entropy_of : Device → QueueRounds entropy_work.Kept
entropy_of (kept.Entropy e) = e
entropy_of _ = record {
  rounds = new_rounds 0 0;
  kind = record {
    own = record { limits = record { bandwidth = None; ops = None } };
    stage = entropy_at.Rest;
  };
  phase = Between;
}

-- and behind it what is kept of it
abbrev pub devices : ℕ → Listing Device
devices zero = standing_list kept.Net net_of (whole net) (λ _ _. refl)
devices (suc zero) = standing_list kept.Block block_of block (λ _ _. refl)
devices (suc (suc zero)) = standing_list kept.Balloon balloon_of (whole balloon) (λ _ _. refl)
devices (suc (suc (suc zero))) = standing_list kept.Vsock vsock_of (whole vsock) (λ _ _. refl)
devices (suc (suc (suc (suc zero)))) = standing_list kept.Entropy entropy_of (whole entropy) (λ _ _. refl)
devices (suc (suc (suc (suc (suc n))))) = no_list

pub device_code-is : (code : ℕ) (d : Device) → (devices code).Fits d → code ≡ device_code d
device_code-is zero d fits = sym (ap device_code fits.0)
device_code-is (suc zero) d fits = sym (ap device_code fits.0)
device_code-is (suc (suc zero)) d fits = sym (ap device_code fits.0)
device_code-is (suc (suc (suc zero))) d fits = sym (ap device_code fits.0)
device_code-is (suc (suc (suc (suc zero)))) d fits = sym (ap device_code fits.0)
device_code-is (suc (suc (suc (suc (suc n))))) d fits = absurd fits

unfoldable pub device : Listing Device
device = chosen_list byte devices device_code device_code-is
