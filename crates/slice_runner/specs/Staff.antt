-- Actors that go to work, and come back.
use Rattle.std.specs.Prelude.{ℕ, suc, ◌≡◌, All, List, [], ◌∷◌, ◌++◌, map}
use Rattle.hart_trace.specs.States.{Hart}
use Rattle.guest_devices.specs.declared.device.Device.{Device}
use Rattle.stamp_merge.specs.declared.journal.Journal.{Journal}
use Rattle.turn_table.specs.declared.view.Round.{Round}
use Rattle.machine_places.specs.declared.place.MachinePlace.{MachinePlace}
use Rattle.slice_runner.specs.declared.places.Places.{Places}
use Rattle.slice_runner.specs.declared.stop.Stopped.{Stopped}
use Rattle.slice_runner.specs.declared.staffing.Actors.{Actors}
use Rattle.slice_runner.specs.declared.worker.DeviceWorker.{DeviceWorker}
use Rattle.slice_runner.specs.declared.worker.HartWorker.{HartWorker}
use Rattle.slice_runner.specs.declared.worker.TimerWorker.{TimerWorker}
use Rattle.slice_runner.specs.declared.worker.Track.{Track}
use Rattle.slice_runner.specs.Runs.{Begins}
use Rattle.slice_runner.specs.Seats.{IsSeatedIn}
use Rattle.slice_runner.specs.Stops.{actor_of}

abbrev pub harts_of : {Q : Type 0} → List (HartWorker Q) → List Hart
harts_of {Q} workers = map (λ (w : HartWorker Q). w.hart) workers

abbrev pub devices_of : {Q : Type 0} → List (DeviceWorker Q) → List Device
devices_of {Q} workers = map (λ (w : DeviceWorker Q). w.device) workers

abbrev pub hart_tracks : {Q : Type 0} → List (HartWorker Q) → List (Track Q)
hart_tracks {Q} workers = map (λ (w : HartWorker Q). w.track) workers

abbrev pub device_tracks : {Q : Type 0} → List (DeviceWorker Q) → List (Track Q)
device_tracks {Q} workers = map (λ (w : DeviceWorker Q). w.track) workers

-- of all actors, in the order of their passes
abbrev pub tracks_of : {Q : Type 0} → TimerWorker Q → List (HartWorker Q) → List (DeviceWorker Q) → List (Track Q)
tracks_of timer workers devices = timer.track ∷ (hart_tracks workers ++ device_tracks devices)

abbrev pub passes_of : {Q : Type 0} → List (Track Q) → List Q
passes_of {Q} tracks = map (λ (t : Track Q). t.pass) tracks

abbrev pub journal_of : {Q : Type 0} → Track Q → Journal
journal_of track = record { actor = track.work.actor; entries = track.work.journal }

abbrev pub journals_from : {Q : Type 0} → List (Track Q) → List Journal
journals_from {Q} tracks = map (λ (t : Track Q). journal_of t) tracks

abbrev pub stop_of : {Q : Type 0} → Track Q → Stopped
stop_of track = record { actor = track.work.actor; stop = track.stop }

abbrev pub stops_from : {Q : Type 0} → List (Track Q) → List Stopped
stops_from {Q} tracks = map (λ (t : Track Q). stop_of t) tracks

-- the actors at these places and the next ones, where there are so many harts
abbrev pub AreNumbered : {Q : Type 0} → ℕ → ℕ → List (Track Q) → Type 0
AreNumbered harts k [] = Unit {0}
AreNumbered harts k (t ∷ ts) = (t.work.actor ≡ actor_of harts k) × AreNumbered harts (suc k) ts

-- the devices of these numbers, from k on
abbrev pub AreDevices : {Q : Type 0} → ℕ → List (DeviceWorker Q) → Type 0
AreDevices k [] = Unit {0}
AreDevices k (d ∷ ds) = (d.number ≡ k) × AreDevices (suc k) ds

-- the actors go to work, each with the pass at its place, and these passes are left
pub record AreHired {Q : Type 0} (n blanks harts : ℕ) (passes : List Q) (tracks : List (Track Q)) (left : List Q) : Type 0 where
  pub passes_are : passes_of tracks ++ left ≡ passes
  pub numbered : AreNumbered harts 0 tracks
  pub begin : All (λ (t : Track Q). Begins n blanks t) tracks

-- these actors are at work, each with its track
pub record AreAtWork {Q : Type 0} (actors : Actors) (tracks : List (Track Q)) (timer : TimerWorker Q) (workers : List (HartWorker Q))
    (devices : List (DeviceWorker Q)) : Type 0 where
  pub timer_is : timer.timer ≡ actors.timer
  pub harts_are : harts_of workers ≡ actors.harts.items
  pub devices_are : devices_of devices ≡ actors.devices.items
  pub numbers : AreDevices 0 devices
  pub tracks_are : tracks_of timer workers devices ≡ tracks

-- each has a seat in this round of these places
abbrev pub AreSeated : {Q : Type 0} → Places → Round MachinePlace → List (Track Q) → Type 0
AreSeated {Q} places round tracks = All (λ (t : Track Q). IsSeatedIn places round t.work) tracks

-- they came back, with their passes, their journals and their stops
pub record AreBack {Q : Type 0} (tracks : List (Track Q)) (left passes : List Q) (journals : List Journal) (stops : List Stopped) :
    Type 0 where
  pub passes_are : passes ≡ passes_of tracks ++ left
  pub journals_are : journals ≡ journals_from tracks
  pub stops_are : stops ≡ stops_from tracks
