-- What a load finds has a number that files can have, and so has the snapshot of a create that is allowed.
use Rattle.std.proofs.Common.{◌≡◌, ◌≤◌, ◌<◌, ◌^◌, ℕ, ◌&&◌, Bool, true, false, not, nat_le, nat_lt, if◌then◌else◌, List, length, drop, Option, Some, None, Result, Ok, Err, subst, arith, refl}
use Rattle.std.specs.Prelude.{IsTrue, is_none}
use Rattle.std.specs.FinMap.{get}
use Rattle.std.proofs.lemmas.Bool.{and_from, and_parts, leb-false, lt-ltb, ltb-true}
use Rattle.vm_types.specs.Saved.{Saved}
use Rattle.vm_types.specs.declared.identity.Identity.{Identity}
use Rattle.refusals.specs.declared.refusal.Refusal.{Refusal}
use Rattle.refusals.specs.declared.refusal.Refusal.TheVariants as refusal
use Rattle.http_stream.specs.declared.request.Next.{Next}
use Rattle.api_calls.specs.declared.call.ApiCall.TheVariants as call
use Rattle.api_calls.specs.declared.call.SnapshotCreate.{SnapshotCreate}
use Rattle.api_calls.specs.declared.call.SnapshotFiles.{SnapshotFiles}
use Rattle.api_rules.specs.Table.{is_diff, is_paused, own_refusal}
use Rattle.file_format.specs.Identities.{is_numbered}
use Rattle.file_format.specs.Starts.{is_closed, is_other}
use Rattle.file_format.specs.Versions.{version_of}
use Rattle.snap_state.specs.declared.copy.StateCopy.{StateCopy}
use Rattle.snap_state.specs.Files as state
use Rattle.snap_state.specs.Valid.{is_valid}
use Rattle.flat_snapshot.specs.Found.{Snapshot, found, memory_found, state_found, state_read}
use Rattle.flat_snapshot.proofs.Finds.{holds, passes}
use Rattle.flat_snapshot.proofs.Finds.{both}
use Rattle.flat_machine.specs.Machine.{Machine, phase_of}
use Rattle.flat_machine.specs.Requests.{allowed, next_identity}
use Rattle.flat_machine.proofs.Allowed.{allowed_is}

read_numbered : (size : ℕ) (o : Option ((ℕ × (Identity × StateCopy)) × List ℕ)) (s : Identity × StateCopy) → state_read size o ≡ Ok s
    → IsTrue (is_numbered s.0)
read_numbered size None s is = absurd cc
read_numbered size (Some read) s is =
    let one = holds (state.is_accepted size (length read.1) read.0.0 read.0.1.0 read.0.1.1) refusal.BadField (Ok read.0.1) s is in
    let same : read.0.1 ≡ s = let e = one.1 in cc in
    let all = and_parts _ (is_valid read.0.1.1) one.0 in
    subst (λ (x : Identity × StateCopy). IsTrue (is_numbered x.0)) same (and_parts _ (is_numbered read.0.1.0) all.0).1

state_numbered : (o : Option (List ℕ)) (s : Identity × StateCopy) → state_found o ≡ Ok s → IsTrue (is_numbered s.0)
state_numbered None s is = absurd cc
state_numbered (Some given) s is =
    let late : Result (Identity × StateCopy) Refusal = state_read (length (drop 12 given)) ((state.contents (version_of given)).reads (drop 12 given)) in
    let one = passes (is_closed 32 given) refusal.GateClosed (if is_other (state.magic (version_of given)) given then Err refusal.WrongMagic else late) s is in
    let two = passes (is_other (state.magic (version_of given)) given) refusal.WrongMagic late s one.1 in
    read_numbered (length (drop 12 given)) ((state.contents (version_of given)).reads (drop 12 given)) s two.1

pub found_numbered : (saved : Saved) (files : SnapshotFiles) (it : Snapshot) → found saved files ≡ Ok it → 1 ≤ it.identity.number
unfolding found
found_numbered saved files it is =
    let one = both (state_found (get saved files.snapshot_path)) _ it is in
    let two = both (memory_found one.0.0 one.0.1.pages (get saved files.mem_file_path)) _ it one.2 in
    let made : Snapshot = record { identity = one.0.0; copy = one.0.1; bytes = two.0 } in
    let same : made ≡ it = let e = two.2 in cc in
    let numbered = state_numbered (get saved files.snapshot_path) one.0 one.1 in
    let first = ltb-true 0 one.0.0.number (and_parts (nat_lt 0 one.0.0.number) _ numbered).0 in
    subst (λ (x : Snapshot). 1 ≤ x.identity.number) same (omega (arith, first))

-- ---- the next snapshot of a machine that is allowed a create has one too

pub last_row : (first second third fourth : Bool) (why because last late : Refusal)
    → (if first then Some why else (if second then Some because else (if third then Some last else (if fourth then Some late else None)))) ≡ None
    → fourth ≡ false
last_row true second third fourth why because last late none = absurd cc
last_row false true third fourth why because last late none = absurd cc
last_row false false true fourth why because last late none = absurd cc
last_row false false false true why because last late none = absurd cc
last_row false false false false why because last late none = refl

numbered : (m : Machine) (it : SnapshotCreate) → 1 ≤ m.ids.next
    → own_refusal (phase_of m) m.config m.ids (call.CreateSnapshot it) ≡ None → IsTrue (is_numbered (next_identity m))
numbered m it first own =
    let small : m.ids.next < 2 ^ 63 =
    leb-false (2 ^ 63) m.ids.next
    (last_row (not (is_paused (phase_of m))) (is_diff it.snapshot_type && not m.config.machine.track_dirty_pages)
    (is_diff it.snapshot_type && is_none m.ids.base) (nat_le (2 ^ 63) m.ids.next) refusal.NotPaused refusal.NotTracked refusal.NoBase refusal.NoSlotLeft own) in
    and_from (nat_lt 0 m.ids.next) (nat_lt m.ids.next 0x8000_0000_0000_0000) (lt-ltb 0 m.ids.next (omega (arith, first)))
    (lt-ltb m.ids.next 0x8000_0000_0000_0000 (omega (arith, small)))

pub create_numbered : (m : Machine) (given : Next) (it : SnapshotCreate) → allowed m given ≡ Ok (call.CreateSnapshot it) → 1 ≤ m.ids.next
    → IsTrue (is_numbered (next_identity m))
create_numbered m given it is first = numbered m it first (allowed_is m given (call.CreateSnapshot it) is).own
