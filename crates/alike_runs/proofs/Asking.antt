-- Machines that are alike allow the same requests, and answer them alike.
use Rattle.std.proofs.Common.{◌≡◌, ◌^◌, ℕ, nat_le, Bool, true, false, not, ◌&&◌, if◌then◌else◌, refl, sym, ap, subst, ◌∙◌, List, [], ◌∷◌, Option, Some, None, is_none, Result, Ok, Err}
use Rattle.std.specs.FinMap.{get}
use Rattle.refusals.specs.declared.refusal.Refusal.{Refusal}
use Rattle.refusals.specs.declared.refusal.Refusal.TheVariants as refusal
use Rattle.serde_json.specs.Data.{Data}
use Rattle.metadata_store.specs.Store.{patched}
use Rattle.http_stream.specs.declared.request.Next.{Next}
use Rattle.http_stream.specs.declared.request.Next.TheVariants as next
use Rattle.api_calls.specs.Call.{call_of, ◌>>=◌}
use Rattle.api_calls.specs.declared.call.ApiCall.{ApiCall}
use Rattle.api_calls.specs.declared.call.ApiCall.TheVariants as call
use Rattle.vm_config.specs.declared.config.Config.{Config}
use Rattle.vm_config.specs.declared.config.Phase.{Phase}
use Rattle.vm_config.specs.declared.statistics.Statistics.{Statistics}
use Rattle.vm_config.specs.Devices.{balloon_device}
use Rattle.api_rules.specs.declared.answer.Answer.{Answer}
use Rattle.api_rules.specs.declared.ids.Ids.{Ids}
use Rattle.api_rules.specs.Table.{decision, first_refusal, has_started, is_diff, is_paused, misplaced, own_refusal, unless, when_allowed}
use Rattle.responses.specs.Responses.{Response}
use Rattle.flat_guest.specs.Guest.{Guest}
use Rattle.flat_snapshot.proofs.Finds.{both}
use Rattle.flat_machine.specs.Balloon.{TellsBalloon}
use Rattle.flat_machine.specs.Machine.{Machine, phase_by, phase_of}
use Rattle.flat_machine.specs.Requests.{AnswersBy, Responds, allowed, by_contents, decided, file_refusal}
use Rattle.flat_machine.proofs.Allowed.{not_refused, same_call}
use Rattle.flat_machine.proofs.Between.{IsLater, at_its_time, started}
use Rattle.alike_runs.specs.Alike.{Alike}
use Rattle.alike_runs.specs.Twins.{Twins}
use Rattle.alike_runs.proofs.Files.{base_none, file_there}
use Rattle.alike_runs.proofs.Guests.{tells_too}

-- ---- which calls are allowed of a machine that has started

later_is : (m : Machine) (given : Next) (it : ApiCall) → has_started (phase_of m) ≡ true → decided m given ≡ Ok it → IsLater it
later_is m (next.Request r) it has is =
    let asked = both (call_of r) (decision (phase_of m) m.config m.ids) it is in
    let own : Option Refusal = own_refusal (phase_of m) m.config m.ids asked.0 in
    let placed = not_refused (misplaced (when_allowed asked.0) (phase_of m)) (unless own (Ok asked.0)) it asked.2 in
    let taken = not_refused own (Ok asked.0) it placed.1 in
    subst IsLater (same_call asked.0 it taken.1) (at_its_time (phase_of m) (when_allowed asked.0) has placed.0)
later_is m (next.Bad why) it has is = absurd cc
later_is m next.None it has is = absurd cc

-- ---- its own refusals

own_alike : (p : Phase) (config : Config) (a b : Ids) (c : ApiCall) → is_none a.base ≡ is_none b.base → a.next ≡ b.next
    → own_refusal p config a c ≡ own_refusal p config b c
own_alike p config a b (call.CreateSnapshot it) none number =
    λ i. first_refusal (
    (not (is_paused p), refusal.NotPaused)
    ∷ (is_diff it.snapshot_type && not config.machine.track_dirty_pages, refusal.NotTracked)
    ∷ (is_diff it.snapshot_type && none i, refusal.NoBase)
    ∷ (nat_le (2 ^ 63) (number i), refusal.NoSlotLeft)
    ∷ []
    )
own_alike p config a b it none number = refl

-- ---- both have started

same_phase : (p : Bool) (g h : Guest) → phase_by (Some g) p ≡ phase_by (Some h) p
same_phase true g h = refl
same_phase false g h = refl

module _ (twins : List Twins) (m n : Machine) (alike : Alike twins m n) where
  pub phase_alike : phase_of m ≡ phase_of n
  phase_alike =
      ap (λ (o : Option Guest). phase_by o m.paused) alike.first
      ∙ ap (λ (p : Bool). phase_by (Some alike.g) p) alike.paused
      ∙ same_phase n.paused alike.g alike.h
      ∙ sym (ap (λ (o : Option Guest). phase_by o n.paused) alike.second)

  decision_alike : (c : ApiCall) → decision (phase_of m) m.config m.ids c ≡ decision (phase_of n) n.config n.ids c
  decision_alike c =
      ap (λ (r : Option Refusal). unless (misplaced (when_allowed c) (phase_of m)) (unless r (Ok c)))
      (own_alike (phase_of m) m.config m.ids n.ids c (base_none twins m.ids.base n.ids.base alike.base) alike.next)
      ∙ (λ i. decision (phase_alike i) (alike.config i) n.ids c)

  pub decided_alike : (given : Next) → decided m given ≡ decided n given
  decided_alike (next.Request r) = λ i. call_of r >>= (λ (c : ApiCall). decision_alike c i)
  decided_alike (next.Bad why) = refl
  decided_alike next.None = refl

  there_by : (path : Option (List ℕ)) → file_refusal path m.saved ≡ file_refusal path n.saved
  there_by None = refl
  there_by (Some path) =
      ap (λ (b : Bool). if b then None else Some refusal.NoSuchFile)
      (file_there twins (get m.saved path) (get n.saved path) (alike.saved path))

  contents_alike : (it : ApiCall) → IsLater it → by_contents m it ≡ by_contents n it
  contents_alike (call.PatchDrive patch) later =
      ap (λ (r : Option Refusal). unless r (Ok (call.PatchDrive patch))) (there_by patch.path_on_host)
  contents_alike call.InstanceStart later = absurd later
  contents_alike (call.LoadSnapshot load) later = absurd later
  contents_alike (call.PatchMetadata patch) later =
      ap (λ (d : Data). patched d patch >>= (λ (kept : Data). Ok (call.PatchMetadata patch))) alike.metadata
  contents_alike it later = refl

  contents_by : (given : Next) (r : Result ApiCall Refusal) → decided m given ≡ r → (r >>= by_contents m) ≡ (r >>= by_contents n)
  contents_by given (Ok it) is = contents_alike it (later_is m given it (started alike.g m alike.first) is)
  contents_by given (Err why) is = refl

  pub allowed_alike : (given : Next) → allowed m given ≡ allowed n given
  allowed_alike given =
      contents_by given (decided m given) refl
      ∙ ap (λ (r : Result ApiCall Refusal). r >>= by_contents n) (decided_alike given)

  -- a balloon tells the same
  tells_alike : (s : Option Statistics) → TellsBalloon m.guest (balloon_device m.config) s → TellsBalloon n.guest (balloon_device n.config) s
  tells_alike s is =
      subst (λ (c : Config). TellsBalloon n.guest (balloon_device c) s) alike.config
      (subst (λ (o : Option Guest). TellsBalloon o (balloon_device m.config) s) (sym alike.second)
      (tells_too alike.g alike.h alike.guests (balloon_device m.config) s
      (subst (λ (o : Option Guest). TellsBalloon o (balloon_device m.config) s) alike.first is)))

  pub answers_alike : (r : Result ApiCall Refusal) (answer : Answer) → AnswersBy m r answer → AnswersBy n r answer
  answers_alike (Ok it) answer (told, tells, is) = (
    told,
    record {
      id_is = tells.id_is ∙ alike.id;
      phase_is = tells.phase_is ∙ phase_alike;
      config_is = tells.config_is ∙ alike.config;
      metadata_is = tells.metadata_is ∙ alike.metadata;
      statistics_is = tells_alike told.statistics tells.statistics_is;
    },
    is,
  )
  answers_alike (Err why) answer is = is

  pub responds_alike : (given : Next) (said : List Response) → Responds m given said → Responds n given said
  responds_alike given said (answer, by, is) = (
    answer,
    answers_alike (allowed n given) answer (subst (λ (r : Result ApiCall Refusal). AnswersBy m r answer) (allowed_alike given) by),
    is,
  )
