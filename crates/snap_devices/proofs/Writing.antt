-- A block device is written by its form and what stands behind it, and so is a device.
use Rattle.std.proofs.Common.{◌≡◌, ℕ, refl, sym, ap, subst, ◌∙◌, append_assoc, true, List, [], ◌∷◌, ◌++◌, arith}
use Rattle.file_format.specs.Ends.{EndFits, end_bytes, ended}
use Rattle.file_format.specs.Kinds.{byte}
use Rattle.queue_device.specs.declared.device.QueueRounds.{QueueRounds}
use Rattle.block_device.specs.declared.kind.BlockKind.{BlockKind}
use Rattle.block_device.specs.States.{is_state}
use Rattle.net_device.specs.Work as net_work
use Rattle.vsock_device.specs.declared.kind.VsockKind.{VsockKind}
use Rattle.balloon_device.specs.Work as balloon_work
use Rattle.entropy_device.specs.Work as entropy_work
use Rattle.guest_devices.specs.declared.device.Device.{Device}
use Rattle.guest_devices.specs.declared.device.Device.TheVariants as kept
use Rattle.snap_devices.specs.declared.file.FileMore.{FileMore}
use Rattle.snap_devices.specs.Balloons.{balloon}
use Rattle.snap_devices.specs.Blocks.{block, block_fields}
use Rattle.snap_devices.specs.Devices.{device}
use Rattle.snap_devices.specs.Entropies.{entropy}
use Rattle.snap_devices.specs.Forms.{block_filed, more_filed}
use Rattle.snap_devices.specs.Limits.{end_of_device}
use Rattle.snap_devices.specs.Nets.{net}
use Rattle.snap_devices.specs.Vsocks.{vsock}
use Rattle.snap_devices.proofs.Forms.{stands}

pub record Written (b : QueueRounds BlockKind) (old new : List ℕ) : Type 0 where
  pub fits : block.Fits b
  pub bytes : new ≡ old ++ block.bytes b

form_written : (b : QueueRounds BlockKind) (old mid new : List ℕ) → is_state b ≡ true
    → block_fields.Fits (block_filed b) → mid ≡ block_fields.puts (block_filed b) old
    → EndFits end_of_device (more_filed b) → new ≡ mid ++ end_bytes end_of_device (more_filed b) → Written b old new
unfolding block ended
form_written b old mid new is fits put ends end =
    let s = stands b is in
    record {
      fits = (s.0, ((fits, ends), s.1));
      bytes =
          end
          ∙ ap (λ (x : List ℕ). x ++ end_bytes end_of_device (more_filed b)) (put ∙ block_fields.same (block_filed b) old)
          ∙ append_assoc old (block_fields.bytes (block_filed b)) (end_bytes end_of_device (more_filed b));
    }

-- what is written is what a call gave of it
pub block_written : (b state : QueueRounds BlockKind) (more : FileMore) (old mid new : List ℕ) → state ≡ b → more ≡ more_filed state
    → is_state b ≡ true → block_fields.Fits (block_filed state) → mid ≡ block_fields.puts (block_filed state) old
    → EndFits end_of_device more → new ≡ mid ++ end_bytes end_of_device more → Written b old new
block_written b state more old mid new same behind is fits put ends end =
    subst (λ (k : QueueRounds BlockKind). Written k old new) same
    (form_written state old mid new (subst (λ (k : QueueRounds BlockKind). is_state k ≡ true) (sym same) is) fits put
    (subst (EndFits end_of_device) behind ends) (end ∙ ap (λ (m : FileMore). mid ++ end_bytes end_of_device m) behind))

-- ---- a device

pub record DeviceWritten (d : Device) (old new : List ℕ) : Type 0 where
  pub fits : device.Fits d
  pub bytes : new ≡ old ++ device.bytes d

block_put : (b : QueueRounds BlockKind) (old mid new : List ℕ) → block.Fits b → mid ≡ byte.puts 1 old
    → new ≡ mid ++ block.bytes b → DeviceWritten (kept.Block b) old new
unfolding device byte
block_put b old mid new fits put end = record {
  fits = (omega arith, (refl, fits));
  bytes = end ∙ ap (λ (x : List ℕ). x ++ block.bytes b) put ∙ append_assoc old (1 ∷ []) (block.bytes b);
}

net_put : (n : QueueRounds net_work.Kept) (old mid new : List ℕ) → net.Fits n → mid ≡ byte.puts 0 old
    → new ≡ net.puts n mid → DeviceWritten (kept.Net n) old new
unfolding device byte
net_put n old mid new fits put end = record {
  fits = (omega arith, (refl, fits));
  bytes = end ∙ net.same n mid ∙ ap (λ (x : List ℕ). x ++ net.bytes n) put ∙ append_assoc old (0 ∷ []) (net.bytes n);
}

balloon_put : (b : QueueRounds balloon_work.Kept) (old mid new : List ℕ) → balloon.Fits b → mid ≡ byte.puts 2 old
    → new ≡ balloon.puts b mid → DeviceWritten (kept.Balloon b) old new
unfolding device byte
balloon_put b old mid new fits put end = record {
  fits = (omega arith, (refl, fits));
  bytes =
      end ∙ balloon.same b mid ∙ ap (λ (x : List ℕ). x ++ balloon.bytes b) put ∙ append_assoc old (2 ∷ []) (balloon.bytes b);
}

entropy_put : (e : QueueRounds entropy_work.Kept) (old mid new : List ℕ) → entropy.Fits e → mid ≡ byte.puts 4 old
    → new ≡ entropy.puts e mid → DeviceWritten (kept.Entropy e) old new
unfolding device byte
entropy_put e old mid new fits put end = record {
  fits = (omega arith, (refl, fits));
  bytes =
      end ∙ entropy.same e mid ∙ ap (λ (x : List ℕ). x ++ entropy.bytes e) put ∙ append_assoc old (4 ∷ []) (entropy.bytes e);
}

vsock_put : (v : QueueRounds VsockKind) (old mid new : List ℕ) → vsock.Fits v → mid ≡ byte.puts 3 old
    → new ≡ vsock.puts v mid → DeviceWritten (kept.Vsock v) old new
unfolding device byte
vsock_put v old mid new fits put end = record {
  fits = (omega arith, (refl, fits));
  bytes = end ∙ vsock.same v mid ∙ ap (λ (x : List ℕ). x ++ vsock.bytes v) put ∙ append_assoc old (3 ∷ []) (vsock.bytes v);
}

pub block_device : (d : Device) (b : QueueRounds BlockKind) (old mid new : List ℕ) → d ≡ kept.Block b → block.Fits b
    → mid ≡ byte.puts 1 old → new ≡ mid ++ block.bytes b → DeviceWritten d old new
block_device d b old mid new is fits put end =
    subst (λ (it : Device). DeviceWritten it old new) (sym is) (block_put b old mid new fits put end)

pub net_device : (d : Device) (n : QueueRounds net_work.Kept) (old mid new : List ℕ) → d ≡ kept.Net n → net.Fits n
    → mid ≡ byte.puts 0 old → new ≡ net.puts n mid → DeviceWritten d old new
net_device d n old mid new is fits put end =
    subst (λ (it : Device). DeviceWritten it old new) (sym is) (net_put n old mid new fits put end)

pub balloon_device : (d : Device) (b : QueueRounds balloon_work.Kept) (old mid new : List ℕ) → d ≡ kept.Balloon b → balloon.Fits b
    → mid ≡ byte.puts 2 old → new ≡ balloon.puts b mid → DeviceWritten d old new
balloon_device d b old mid new is fits put end =
    subst (λ (it : Device). DeviceWritten it old new) (sym is) (balloon_put b old mid new fits put end)

pub entropy_device : (d : Device) (e : QueueRounds entropy_work.Kept) (old mid new : List ℕ) → d ≡ kept.Entropy e → entropy.Fits e
    → mid ≡ byte.puts 4 old → new ≡ entropy.puts e mid → DeviceWritten d old new
entropy_device d e old mid new is fits put end =
    subst (λ (it : Device). DeviceWritten it old new) (sym is) (entropy_put e old mid new fits put end)

pub vsock_device : (d : Device) (v : QueueRounds VsockKind) (old mid new : List ℕ) → d ≡ kept.Vsock v → vsock.Fits v
    → mid ≡ byte.puts 3 old → new ≡ vsock.puts v mid → DeviceWritten d old new
vsock_device d v old mid new is fits put end =
    subst (λ (it : Device). DeviceWritten it old new) (sym is) (vsock_put v old mid new fits put end)
