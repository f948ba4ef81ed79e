-- A ready world has counted harts, and each copy of it passes the tests of a state file.
use Rattle.std.proofs.Common.{◌≡◌, ◌≤◌, ◌<◌, ℕ, zero, suc, true, nat_le, List, [], ◌∷◌, Some, length, get_or, slice_get, refl, sym, ap, arith}
use Rattle.std.specs.Prelude.{IsTrue}
use Rattle.std.proofs.lemmas.Bool.{and_parts, leb-true}
use Rattle.api_calls.specs.declared.call.MachineConfig.{MachineConfig}
use Rattle.vm_config.specs.declared.config.Config.{Config}
use Rattle.rv_supervisor.specs.declared.regs.Regs.{Regs}
use Rattle.hart_trace.specs.States.{Hart}
use Rattle.flat_guest.specs.Changes.{reset_guest}
use Rattle.flat_guest.specs.Guest.{Guest}
use Rattle.flat_guest.proofs.Soundness.{sound_reset}
use Rattle.snap_state.specs.declared.copy.StateCopy.{StateCopy}
use Rattle.snap_state.specs.Valid.{is_machine, is_valid}
use Rattle.flat_snapshot.specs.Copies.{IsCopyOf}
use Rattle.flat_snapshot.proofs.Ready.{ready_reset, valid_copy}
use Rattle.vm_world.specs.Worlds.{IsWorld, WorldValue}
use Rattle.world_copy.specs.Copying.{AreCounted}
use Rattle.world_copy.specs.Ready.{IsReadyWorld}

-- ---- its harts

pub item_of : (harts : List Hart) (i : ℕ) (h : Hart) → i < length harts → h ≡ get_or harts i h → slice_get harts i ≡ Some h
item_of [] i h less is = absurd (omega (arith, less))
item_of (first ∷ harts) zero h less is = ap Some (sym is)
item_of (first ∷ harts) (suc i) h less is = item_of harts i h (omega (arith, less)) is

-- each begins somewhere
start_at : (harts : List Hart) (starts : List Regs) (i : ℕ) (h : Hart) → length harts ≡ length starts → slice_get harts i ≡ Some h
    → (start : Regs) × (slice_get starts i ≡ Some start)
start_at [] starts i h long is = absurd cc
start_at (first ∷ harts) [] i h long is = absurd (omega (arith, long))
start_at (first ∷ harts) (start ∷ starts) zero h long is = (start, refl)
start_at (first ∷ harts) (start ∷ starts) (suc i) h long is = start_at harts starts i h (omega (arith, long)) is

pub are_counted : (config : Config) (w : WorldValue) → IsReadyWorld config w → AreCounted w.harts
are_counted config w it i h there =
    let begins = start_at w.harts it.guest.starts i h it.is.harts_are.count there in
    (it.ready.shaped.each i begins.0 h begins.1 (it.is.harts_are.each i begins.0 h begins.1 there)).regs.1

-- ---- its copy

few_mib : (m : MachineConfig) → is_machine m ≡ true → m.mem_size_mib ≤ 4096
few_mib m is = leb-true m.mem_size_mib 4096 (and_parts _ (nat_le m.mem_size_mib 4096) is).1

pub ready_valid : (config : Config) (w : WorldValue) (copy : StateCopy) → IsReadyWorld config w
    → ((g : Guest) → IsWorld w g → IsCopyOf config (reset_guest g) copy) → IsTrue (is_valid copy)
ready_valid config w copy it of =
    valid_copy config (reset_guest it.guest) copy (sound_reset it.guest it.sound) (ready_reset config it.guest it.ready)
    (few_mib config.machine it.ready.configured.machine) (of it.guest it.is)
