-- What is known of the host's end of the vsock device, and what each call leaves of that.
use Rattle.std.specs.Prelude.{◌≡◌, ◌<◌, ℕ, List, [], ◌∷◌, ◌++◌, length, Option, None, Result, MatchResult}
use Rattle.vm_outside.specs.Known.{Health}
use Rattle.vm_host.specs.Devices.{IsOf}
use Rattle.vm_host.specs.declared.attached.Attached.{Attached}
use Rattle.vm_host.specs.declared.vsock_host.HostEvent.{HostEvent}
use Rattle.vm_host.specs.declared.vsock_host.HostEvent.TheVariants as event
use Rattle.vm_host.specs.declared.vsock_host.HostAct.{HostAct}
use Rattle.vm_host.specs.declared.vsock_host.HostAct.TheVariants as act

-- the name that it was attached with, what it has left to tell, what it has left to answer those who dial, and what was
-- done, the oldest first
pub record VsockKnown : Type 0 where
  pub health : Health
  pub sockets : Attached
  pub coming : List HostEvent
  pub answers : List (Option ℕ)
  pub done : List HostAct

-- bytes come at least one at a time
abbrev pub IsEvent : HostEvent → Type 0
IsEvent (event.Bytes connection piece) = 0 < length piece
IsEvent other = Unit {0}

-- `attach`: this is the name that it was attached with
pub record AttachesVsock (name : List ℕ) (old new : VsockKnown) : Type 0 where
  pub sockets : IsOf name new.sockets
  pub coming : new.coming ≡ old.coming
  pub answers : new.answers ≡ old.answers
  pub done : new.done ≡ old.done

-- nothing passed
pub record Rests (old new : VsockKnown) : Type 0 where
  pub sockets : new.sockets ≡ old.sockets
  pub coming : new.coming ≡ old.coming
  pub answers : new.answers ≡ old.answers
  pub done : new.done ≡ old.done

-- this is the first of what it had left to tell
pub record Happens (happened : HostEvent) (old new : VsockKnown) : Type 0 where
  pub sockets : new.sockets ≡ old.sockets
  pub coming : old.coming ≡ happened ∷ new.coming
  pub answers : new.answers ≡ old.answers
  pub done : new.done ≡ old.done

-- `next`
abbrev pub Comes : VsockKnown → VsockKnown → HostEvent → Type 0
Comes old new event.Nothing = Rests old new
Comes old new happened = Happens happened old new

-- who dials is given the next answer, and None where there is no more
abbrev pub IsAnswered : List (Option ℕ) → Option ℕ → List (Option ℕ) → Type 0
IsAnswered [] answer new = (answer ≡ None) × (new ≡ [])
IsAnswered (next ∷ old) answer new = (answer ≡ next) × (new ≡ old)

pub record Dials (port : ℕ) (old new : VsockKnown) (answer : Option ℕ) : Type 0 where
  pub sockets : new.sockets ≡ old.sockets
  pub coming : new.coming ≡ old.coming
  pub answered : IsAnswered old.answers answer new.answers
  pub done : new.done ≡ old.done ++ act.Dialled port answer ∷ []

-- `send` and `close` are done
pub record Does (what : HostAct) (old new : VsockKnown) : Type 0 where
  pub sockets : new.sockets ≡ old.sockets
  pub coming : new.coming ≡ old.coming
  pub answers : new.answers ≡ old.answers
  pub done : new.done ≡ old.done ++ what ∷ []

-- a call that fails does nothing
abbrev pub OrRests : {T E : Type 0} → VsockKnown → VsockKnown → Result T E → (T → Type 0) → Type 0
OrRests old new result Change = MatchResult result Change (λ _. Rests old new)
