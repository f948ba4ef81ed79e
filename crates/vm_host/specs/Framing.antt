-- What is known of the links of network devices, and what each call leaves of that.
use Rattle.std.specs.Prelude.{◌≡◌, ◌≤◌, ℕ, ◌*◌, List, [], ◌∷◌, ◌++◌, length, take, drop, Option, None, Some, Result, MatchResult}
use Rattle.vm_outside.specs.Known.{Health}
use Rattle.vm_host.specs.Devices.{Attaches, ChangesAt}
use Rattle.vm_host.specs.declared.attached.Attached.{Attached}

-- of one device: the frames that come, the one that was taken last, those that were sent, the oldest first, and
-- the bytes of the one that is being sent
pub record Wire : Type 0 where
  pub coming : List (List ℕ)
  pub taken : List ℕ
  pub sent : List (List ℕ)
  pub begun : List ℕ

-- of each device the socket that its link is, and what passes on it
pub record LinkKnown : Type 0 where
  pub health : Health
  pub sockets : ℕ → Attached
  pub wires : ℕ → Wire

-- `attach`: the device's link is the socket of this name
pub record AttachesLink (device : ℕ) (name : List ℕ) (old new : LinkKnown) : Type 0 where
  pub sockets : Attaches device name old.sockets new.sockets
  pub wires : new.wires ≡ old.wires

-- a frame's length in bytes: without its check sequence an Ethernet frame has 14 to 1,514
abbrev pub IsFrameLength : ℕ → Type 0
IsFrameLength count = (14 ≤ count) × (count ≤ 1514)

abbrev pub AreFrameLengths : Option ℕ → Type 0
AreFrameLengths None = Unit {0}
AreFrameLengths (Some count) = IsFrameLength count

-- the first of the frames that come is taken
pub record TakesFrame (count : ℕ) (old new : Wire) : Type 0 where
  pub coming : old.coming ≡ new.taken ∷ new.coming
  pub length : count ≡ length new.taken
  pub sent : new.sent ≡ old.sent
  pub begun : new.begun ≡ old.begun

-- `take`
abbrev pub Takes : (ℕ → Wire) → ℕ → (ℕ → Wire) → Option ℕ → Type 0
Takes old device new None = new ≡ old
Takes old device new (Some count) = ChangesAt old device new (TakesFrame count)

-- so many bytes of the frame, from the piece of 64 bytes with this number on
abbrev pub IsPiece : List ℕ → ℕ → ℕ → List ℕ → Type 0
IsPiece frame index count bytes = bytes ≡ take count (drop (64 * index) frame)

-- these are the bytes of the frame that is being sent, and all else stays
pub record Begins (bytes : List ℕ) (old new : Wire) : Type 0 where
  pub coming : new.coming ≡ old.coming
  pub taken : new.taken ≡ old.taken
  pub sent : new.sent ≡ old.sent
  pub begun : new.begun ≡ bytes

abbrev pub SendsPart : List ℕ → Wire → Wire → Type 0
SendsPart piece old new = Begins (old.begun ++ piece) old new

-- the frame that was being sent is dropped
abbrev pub Drops : Wire → Wire → Type 0
Drops old new = Begins [] old new

-- the frame that was being sent is sent
pub record SendsFrame (old new : Wire) : Type 0 where
  pub coming : new.coming ≡ old.coming
  pub taken : new.taken ≡ old.taken
  pub sent : new.sent ≡ old.sent ++ old.begun ∷ []
  pub begun : new.begun ≡ []

-- `send_part` and `send_end`: where they fail, the frame is dropped
abbrev pub Sends : {T E : Type 0} → (ℕ → Wire) → ℕ → (ℕ → Wire) → Result T E → (Wire → Wire → Type 0) → Type 0
Sends old device new result Change =
    MatchResult result (λ _. ChangesAt old device new Change) (λ _. ChangesAt old device new Drops)
