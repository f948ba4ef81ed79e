-- The copy of a world is the copy of each guest that it is.
use Rattle.std.proofs.Common.{◌≡◌, ℕ, suc, ◌+◌, true, List, [], ◌∷◌, Some, length, slice_get, refl, subst, ◌∙◌, arith}
use Rattle.std.specs.List.{list_all}
use Rattle.std.proofs.lemmas.Bool.{and_from, and_parts}
use Rattle.vm_types.specs.declared.ids.ActorId.{ActorId}
use Rattle.vm_types.specs.declared.ids.ActorId.TheVariants.{Hart as HartId}
use Rattle.vm_types.specs.declared.entry.Step.{Step}
use Rattle.vm_config.specs.declared.config.Config.{Config}
use Rattle.rv_supervisor.specs.declared.regs.Regs.{Regs}
use Rattle.hart_trace.specs.States.{Hart, LeadsTo}
use Rattle.guest_devices.specs.declared.device.Device.{Device}
use Rattle.guest_devices.specs.Devices.{DeviceLeads, DeviceLeft, FlatDevice}
use Rattle.guest_devices.specs.Kept.{AreReset, device_left, devices_left, is_kept}
use Rattle.flat_guest.specs.Changes.{reset_guest}
use Rattle.flat_guest.specs.Guest.{Guest, none_written}
use Rattle.snap_state.specs.declared.copy.StateCopy.{StateCopy}
use Rattle.flat_snapshot.specs.Copies.{AreHarts, AreKept, IsCopyOf, copy_of}
use Rattle.vm_world.specs.Worlds.{IsWorld, WorldValue}
use Rattle.vm_world.proofs.Events.{reset_is}
use Rattle.world_copy.specs.Copying.{IsCopyIn, copy_in}

are_listed : (starts : List Regs) (k : ℕ) (steps : ActorId → List Step) (harts : List Hart) → length harts ≡ length starts
    → ((i : ℕ) (start : Regs) (hart : Hart) → slice_get starts i ≡ Some start → slice_get harts i ≡ Some hart
    → LeadsTo start (steps (HartId (k + i))) hart)
    → AreHarts k starts steps harts
are_listed [] k steps [] long each = refl
are_listed [] k steps (h ∷ harts) long each = absurd (omega (arith, long))
are_listed (start ∷ starts) k steps [] long each = absurd (omega (arith, long))
are_listed (start ∷ starts) k steps (h ∷ harts) long each =
    let here : k + 0 ≡ k = omega arith in
    let later : (i : ℕ) (s : Regs) (q : Hart) → slice_get starts i ≡ Some s → slice_get harts i ≡ Some q
    → LeadsTo s (steps (HartId (suc k + i))) q = λ i s q begins is.
    let next : k + suc i ≡ suc k + i = omega arith in
    subst (λ (n : ℕ). LeadsTo s (steps (HartId n)) q) next (each (suc i) s q begins is) in (
      h,
      harts,
      refl,
      subst (λ (n : ℕ). LeadsTo start (steps (HartId n)) h) here (each 0 start h refl refl),
      are_listed starts (suc k) steps harts (omega (arith, long)) later,
    )

pub harts_are : (w : WorldValue) (g : Guest) → IsWorld w g → AreHarts 0 g.starts g.steps w.harts
harts_are w g is = are_listed g.starts 0 g.steps w.harts is.harts_are.count (λ i start hart begins here.
    let same : i ≡ 0 + i = omega arith in
    subst (λ (n : ℕ). LeadsTo start (g.steps (HartId n)) hart) same (is.harts_are.each i start hart begins here))

kept_are : (kept : List Device) (devices : List FlatDevice) → length (devices_left kept) ≡ length devices
    → ((k : ℕ) (d : FlatDevice) (left : DeviceLeft) → slice_get devices k ≡ Some d → slice_get (devices_left kept) k ≡ Some left
    → DeviceLeads d left)
    → list_all is_kept kept ≡ true → AreKept kept devices
kept_are [] [] long each known = tt
kept_are [] (d ∷ devices) long each known = absurd (omega (arith, long))
kept_are (it ∷ kept) [] long each known = absurd (omega (arith, long))
kept_are (it ∷ kept) (d ∷ devices) long each known =
    let parts = and_parts (is_kept it) (list_all is_kept kept) known in (
      each 0 d (device_left it) refl refl,
      parts.0,
      kept_are kept devices (omega (arith, long)) (λ k other left is here. each (suc k) other left is here) parts.1,
    )

in_world : (w : WorldValue) (g : Guest) → list_all is_kept w.devices ≡ true → IsWorld w g → AreKept w.devices g.devices
in_world w g known is = kept_are w.devices g.devices is.devices_are.count is.devices_are.each known

-- what may be kept behind a Reset
known : (devices kept : List Device) → AreReset devices kept → list_all is_kept kept ≡ true
known [] [] are = refl
known [] (now ∷ kept) are = absurd are
known (it ∷ devices) [] are = absurd are
known (it ∷ devices) (now ∷ kept) are = and_from (is_kept now) (list_all is_kept kept) are.0.0 (known devices kept are.1)

guest_is : (config : Config) (w : WorldValue) (g : Guest) (kept : List Device) → IsWorld w g
    → copy_in config w kept ≡ copy_of config (reset_guest g) w.harts kept
guest_is config w g kept is = λ i. copy_of config (record {
  memory = is.memory_is i;
  board = is.board_is i;
  ports = is.ports_are i;
  starts = [];
  steps = λ actor. [];
  devices = [];
  written = none_written;
}) w.harts kept

pub copied : (config : Config) (w : WorldValue) (g : Guest) (copy : StateCopy) → IsCopyIn config w copy → IsWorld w g
    → IsCopyOf config (reset_guest g) copy
copied config w g copy (are, made) is =
    let v : WorldValue = record w { devices = copy.devices } in (
      w.harts,
      harts_are w g is,
      in_world v (reset_guest g) (known w.devices copy.devices are) (reset_is w v g (are, refl) is),
      made ∙ guest_is config w g copy.devices is,
    )
