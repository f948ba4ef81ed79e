-- What is known of the disks of block devices, and what each call leaves of that.
use Rattle.std.specs.Prelude.{◌≡◌, ◌⊎◌, ℕ, ◌+◌, ◌*◌, List, [], ◌∷◌, ◌++◌, Some}
use Rattle.vm_types.specs.Saved.{written}
use Rattle.vm_outside.specs.Filing.{IsReadAt}
use Rattle.vm_outside.specs.Known.{Health}
use Rattle.vm_host.specs.Devices.{Attaches, ChangesAt}
use Rattle.vm_host.specs.declared.attached.Attached.{Attached}
use Rattle.vm_host.specs.declared.disk.DiskCall.{DiskCall}
use Rattle.vm_host.specs.declared.disk.DiskCall.TheVariants as call

-- for each device, the name of the file that was attached, and the bytes that its disk holds; and all writes and flushes,
-- the oldest first
pub record DiskKnown : Type 0 where
  pub health : Health
  pub files : ℕ → Attached
  pub held : ℕ → List ℕ
  pub calls : List DiskCall

-- where a part of a sector begins: a sector has 512 bytes and a part 64 (VIRTIO 1.2, 5.2.6)
abbrev pub place_of : ℕ → ℕ → ℕ
place_of sector part = 512 * sector + 64 * part

-- these are the bytes of that part
abbrev pub IsPart : List ℕ → ℕ → ℕ → List ℕ → Type 0
IsPart disk sector part bytes = IsReadAt (Some disk) (place_of sector part) bytes

-- the bytes are written over those of that part
abbrev pub WritesPart : ℕ → ℕ → List ℕ → List ℕ → List ℕ → Type 0
WritesPart sector part bytes old new = new ≡ written old (place_of sector part) bytes

-- all is as it was
pub record SameDisks (old new : DiskKnown) : Type 0 where
  pub files : new.files ≡ old.files
  pub held : new.held ≡ old.held
  pub calls : new.calls ≡ old.calls

-- `attach`: the device's disk is the file of this name
pub record AttachesDisk (device : ℕ) (name : List ℕ) (old new : DiskKnown) : Type 0 where
  pub files : Attaches device name old.files new.files
  pub held : new.held ≡ old.held
  pub calls : new.calls ≡ old.calls

-- the call is made
abbrev pub IsMade : List DiskCall → DiskCall → List DiskCall → Type 0
IsMade old call new = new ≡ old ++ call ∷ []

-- one that failed may have been made
abbrev pub MayBeMade : List DiskCall → DiskCall → List DiskCall → Type 0
MayBeMade old call new = (new ≡ old) ⊎ IsMade old call new

-- `write` is done
pub record WritesDisk (device sector part : ℕ) (bytes : List ℕ) (old new : DiskKnown) : Type 0 where
  pub files : new.files ≡ old.files
  pub held : ChangesAt old.held device new.held (WritesPart sector part bytes)
  pub calls : IsMade old.calls (call.Wrote device sector part bytes) new.calls

-- `write` failed: the device's disk may hold anything
pub record MayWriteDisk (device sector part : ℕ) (bytes : List ℕ) (old new : DiskKnown) : Type 0 where
  pub files : new.files ≡ old.files
  pub held : ChangesAt old.held device new.held (λ before after. Unit {0})
  pub calls : MayBeMade old.calls (call.Wrote device sector part bytes) new.calls

-- `flush` is done
pub record FlushesDisk (device : ℕ) (old new : DiskKnown) : Type 0 where
  pub files : new.files ≡ old.files
  pub held : new.held ≡ old.held
  pub calls : IsMade old.calls (call.Flushed device) new.calls

-- `flush` failed
pub record MayFlushDisk (device : ℕ) (old new : DiskKnown) : Type 0 where
  pub files : new.files ≡ old.files
  pub held : new.held ≡ old.held
  pub calls : MayBeMade old.calls (call.Flushed device) new.calls
