-- Frames in a stream: each stands behind its length (the stream format of QEMU's `-netdev stream` and of `passt`).
use Rattle.std.specs.Prelude.{◌≡◌, ◌≤◌, ◌<◌, ℕ, ◌+◌, ◌-◌, min, List, [], ◌++◌, length}
use Rattle.std.specs.Coded.{×_prop, →_prop, le_prop}
use Rattle.std.specs.Int.{w32, to_be_bytes}
use Rattle.vm_host.specs.Framing.{IsFrameLength}
use Rattle.link_frames.specs.declared.coming.Coming.{Coming}
use Rattle.link_frames.specs.declared.coming.Coming.TheVariants as coming
use Rattle.link_frames.specs.declared.coming.Fed.{Fed}
use Rattle.link_frames.specs.declared.coming.Fed.TheVariants as fed

-- a frame in a stream: four bytes of its length, the highest first, and its own
abbrev pub frame_bytes : List ℕ → List ℕ
frame_bytes frame = to_be_bytes w32 (length frame) ++ frame

-- what is kept is the beginning of one frame, and not all of it
abbrev pub IsBegun : Coming → Type 0
IsBegun (coming.Length bytes) = length bytes.items < 4
IsBegun (coming.Frame count bytes) = IsFrameLength count × (length bytes.items < count)
IsBegun (coming.Dropped count left) = (IsFrameLength count → ⊥) × ((0 < left) × (left ≤ count))

pub IsBegun-prop : (c : Coming) → IsProp (IsBegun c)
IsBegun-prop (coming.Length bytes) = le_prop
IsBegun-prop (coming.Frame count bytes) = ×_prop (×_prop le_prop le_prop) le_prop
IsBegun-prop (coming.Dropped count left) =
    let never : IsProp (IsFrameLength count → ⊥) = →_prop {A = IsFrameLength count} {B = ⊥} (λ x y. absurd x) in
    let some : IsProp (0 < left) = le_prop in
    let most : IsProp (left ≤ count) = le_prop in
    ×_prop never (×_prop some most)

-- these bytes have come since the last frame ended; those of a frame that is dropped aren't kept
abbrev pub Stands : Coming → List ℕ → Type 0
Stands (coming.Length bytes) begun = begun ≡ bytes.items
Stands (coming.Frame count bytes) begun = begun ≡ to_be_bytes w32 count ++ bytes.items
Stands (coming.Dropped count left) begun =
    (skipped : List ℕ) × (begun ≡ to_be_bytes w32 count ++ skipped) × (length skipped + left ≡ count)

-- no part is longer than the longest frame
abbrev pub most_wanted : ℕ
most_wanted = 1514

-- how many bytes the length lacks, or the frame
abbrev pub wanted_of : Coming → ℕ
wanted_of (coming.Length bytes) = 4 - length bytes.items
wanted_of (coming.Frame count bytes) = count - length bytes.items
wanted_of (coming.Dropped count left) = min left most_wanted

-- these are the bytes of a frame that is dropped
pub record IsDropped (seen : List ℕ) : Type 0 where
  pub frame : List ℕ
  pub bytes : seen ≡ frame_bytes frame
  pub length : IsFrameLength (length frame) → ⊥

-- a frame that is given is one by its length
abbrev pub IsGiven : Fed → Type 0
IsGiven (fed.Frame frame) = IsFrameLength (length frame.items)
IsGiven other = Unit {0}

-- what has been seen since the last frame ended, with what is told of it, and what is begun then
abbrev pub Feeds : Fed → List ℕ → Coming → Type 0
Feeds fed.More seen new = Stands new seen
Feeds (fed.Frame frame) seen new = (seen ≡ frame_bytes frame.items) × IsFrameLength (length frame.items) × Stands new []
Feeds fed.Dropped seen new = IsDropped seen × Stands new []
