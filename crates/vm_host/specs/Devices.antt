-- What is known for each device, and what a call for one of them leaves.
use Rattle.std.specs.Prelude.{◌≡◌, ◌≢◌, ℕ, List}
use Rattle.vm_host.specs.declared.attached.Attached.{Attached}
use Rattle.vm_host.specs.declared.attached.Attached.TheVariants as attached

-- `Change` holds for this device, and the others stay
pub record ChangesAt {A : Type 0} (old : ℕ → A) (device : ℕ) (new : ℕ → A) (Change : A → A → Type 0) : Type 0 where
  pub here : Change (old device) (new device)
  pub others : (other : ℕ) → other ≢ device → new other ≡ old other

-- an object was attached, and by this name if the name was kept
abbrev pub IsOf : List ℕ → Attached → Type 0
IsOf name attached.Nothing = ⊥
IsOf name (attached.Named kept) = kept ≡ name
IsOf name attached.Unkept = Unit {0}

-- `attach`: the device has the object of this name from now on
abbrev pub Attaches : ℕ → List ℕ → (ℕ → Attached) → (ℕ → Attached) → Type 0
Attaches device name old new = ChangesAt old device new (λ before after. IsOf name after)
