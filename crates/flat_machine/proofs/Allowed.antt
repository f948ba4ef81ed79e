-- What is known of a call that a machine allows.
use Rattle.std.proofs.Common.{◌≡◌, refl, subst, ◌∙◌, Option, Some, None, Result, Ok}
use Rattle.refusals.specs.declared.refusal.Refusal.{Refusal}
use Rattle.serde_json.specs.Data.{Data}
use Rattle.metadata_store.specs.Store.{patched, put}
use Rattle.http_stream.specs.declared.request.Next.{Next}
use Rattle.http_stream.specs.declared.request.Next.TheVariants as next
use Rattle.http_stream.specs.declared.request.Request.{Request}
use Rattle.api_calls.specs.Call.{call_of}
use Rattle.api_calls.specs.declared.call.ApiCall.{ApiCall}
use Rattle.api_calls.specs.declared.call.ApiCall.TheVariants as call
use Rattle.api_rules.specs.Table.{decision, misplaced, own_refusal, unless, when_allowed}
use Rattle.flat_snapshot.specs.Found.{Snapshot, found}
use Rattle.flat_machine.specs.Machine.{Machine, phase_of}
use Rattle.flat_machine.specs.Requests.{allowed, by_contents, decided, file_refusal, start_refusal}
use Rattle.flat_snapshot.proofs.Finds.{both}

-- a call that is read from a request, comes at its time and isn't refused, nor by what it asks of the files or the metadata
pub record IsAllowed (m : Machine) (it : ApiCall) : Type 0 where
  pub request : Request
  pub call_is : call_of request ≡ Ok it
  pub placed : misplaced (when_allowed it) (phase_of m) ≡ None
  pub own : own_refusal (phase_of m) m.config m.ids it ≡ None
  pub contents : by_contents m it ≡ Ok it

pub same_call : (a b : ApiCall) → ◌≡◌ {A = Result ApiCall Refusal} (Ok a) (Ok b) → a ≡ b
same_call a b is = cc

pub not_refused : (why : Option Refusal) (due : Result ApiCall Refusal) (it : ApiCall) → unless why due ≡ Ok it → (why ≡ None) × (due ≡ Ok it)
not_refused None due it is = (refl, is)
not_refused (Some why) due it is = absurd cc

contents_same : (m : Machine) (first it : ApiCall) → by_contents m first ≡ Ok it → first ≡ it
contents_same m call.InstanceStart it is =
    same_call call.InstanceStart it (not_refused (start_refusal m.config m.saved) (Ok call.InstanceStart) it is).1
contents_same m (call.PatchDrive patch) it is =
    same_call (call.PatchDrive patch) it (not_refused (file_refusal patch.path_on_host m.saved) (Ok (call.PatchDrive patch)) it is).1
contents_same m (call.LoadSnapshot load) it is =
    let found_is = both (found m.saved load.files) (λ (s : Snapshot). Ok (call.LoadSnapshot load)) it is in
    same_call (call.LoadSnapshot load) it found_is.2
contents_same m (call.PutMetadata body) it is =
    let put_is = both (put body) (λ (d : Data). Ok (call.PutMetadata body)) it is in
    same_call (call.PutMetadata body) it put_is.2
contents_same m (call.PatchMetadata patch) it is =
    let merged = both (patched m.metadata patch) (λ (d : Data). Ok (call.PatchMetadata patch)) it is in
    same_call (call.PatchMetadata patch) it merged.2
contents_same m first it is = same_call first it is

pub allowed_is : (m : Machine) (given : Next) (it : ApiCall) → allowed m given ≡ Ok it → IsAllowed m it
allowed_is m (next.Request r) it is =
    let first = both (decided m (next.Request r)) (by_contents m) it is in
    let asked = both (call_of r) (decision (phase_of m) m.config m.ids) first.0 first.1 in
    let own : Option Refusal = own_refusal (phase_of m) m.config m.ids asked.0 in
    let placed = not_refused (misplaced (when_allowed asked.0) (phase_of m)) (unless own (Ok asked.0)) first.0 asked.2 in
    let taken = not_refused own (Ok asked.0) first.0 placed.1 in
    let last = contents_same m first.0 it first.2 in
    let same = same_call asked.0 first.0 taken.1 ∙ last in
    record {
      request = r;
      call_is = subst (λ (c : ApiCall). call_of r ≡ Ok c) same asked.1;
      placed = subst (λ (c : ApiCall). misplaced (when_allowed c) (phase_of m) ≡ None) same placed.0;
      own = subst (λ (c : ApiCall). own_refusal (phase_of m) m.config m.ids c ≡ None) same taken.0;
      contents = subst (λ (c : ApiCall). by_contents m c ≡ Ok it) last first.2;
    }
allowed_is m (next.Bad why) it is = absurd cc
allowed_is m next.None it is = absurd cc
