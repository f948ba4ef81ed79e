-- Bytes for which there was no memory: what was answered of them can be the beginning of a whole conversation.
use Rattle.std.proofs.Common.{◌≡◌, ℕ, inl, inr, refl, sym, ap, ◌∙◌, subst, List, [], ◌∷◌, ◌++◌, append_assoc}
use Rattle.vm_outside.specs.Known.{FilesKnown, Tells}
use Rattle.refusals.specs.declared.refusal.Refusal.TheVariants as refusal
use Rattle.api_rules.specs.Answers.{refused}
use Rattle.http_stream.specs.declared.request.Next.{Next}
use Rattle.http_stream.specs.Conversation.{Conversation, arrived}
use Rattle.http_stream.specs.Stream.{Connection}
use Rattle.http_stream.proofs.ConversationLemmas.{each, some_conversation}
use Rattle.responses.specs.declared.form.ResponseForm.TheVariants.{Http}
use Rattle.responses.specs.Responses.{Response}
use Rattle.flat_machine.specs.Items.{Talks}
use Rattle.flat_machine.specs.Machine.{AreFilesOf, Machine}
use Rattle.flat_machine.specs.Outcome.{Outcome}
use Rattle.flat_machine.specs.Outcome.Outcome.{NoMemory}
use Rattle.flat_machine.specs.Requests.{RequestStep, respond}
use Rattle.monitor_core.specs.declared.monitor.Monitor.{Monitor}
use Rattle.monitor_core.specs.State.{IsMonitor}
use Rattle.monitor_core.specs.Talking.{Begins, HasHalted, HasStopped}

-- whatever is due can be answered by 503, which changes nothing
rest_talk : (c : Connection) (m : Machine)
    → (count : ℕ) × (responses : List Response) × (d : Connection)
    × Conversation RequestStep (each count NoMemory) c m responses d m
rest_talk c m =
    let answers : (due : Next) (k : Machine) → k ≡ m
    → (said : List Response) × (n : Machine) × RequestStep NoMemory due k said n × (n ≡ m) =
    λ due k same. (respond due (refused refusal.OutOfMemory), k, (refl, refl), same) in
    let all = some_conversation RequestStep NoMemory (λ k. k ≡ m) answers c m refl in (
      all.0,
      all.1,
      all.2,
      subst (λ (n : Machine). Conversation RequestStep (each all.0 NoMemory) c m all.1 all.2 n) all.5 all.4,
    )

-- what has begun goes on
begins_then : (hows more : List Outcome) (c d e : Connection) (m n k : Machine) (s t : List Response)
    → Begins RequestStep hows c m s d n → Conversation RequestStep more d n t e k
    → Conversation RequestStep (hows ++ more) c m (s ++ t) e k
begins_then [] more c d e m n k s t (dc, se, nm) behind =
    subst (λ (l : List Response). Conversation RequestStep more c m (l ++ t) e k) (sym se)
    (subst (λ (x : Connection). Conversation RequestStep more x m t e k) dc
    (subst (λ (x : Machine). Conversation RequestStep more d x t e k) nm behind))
begins_then (how ∷ hows) more c d e m n k s t (given, after, first, mid, rest, takes, step, on, is) behind = (
  given,
  after,
  first,
  mid,
  rest ++ t,
  takes,
  step,
  begins_then hows more after d e mid n k rest t on behind,
  ap (λ (l : List Response). l ++ t) is ∙ append_assoc first rest t,
)

module _ (bytes : List ℕ) (monitor after : Monitor) (files left : FilesKnown) (m : Machine) (tells : Tells files.health)
    (was : IsMonitor monitor files m) where
  -- a whole conversation, behind which these are the files
  abbrev pub IsTalk : Type 0
  IsTalk =
      (outcomes : List Outcome) × (responses : List Response) × (n : Machine) × Talks bytes outcomes m responses n × AreFilesOf left n

  stopped_talk : HasStopped Http (record monitor { front = arrived monitor.front bytes }) after files left → IsTalk
  stopped_talk stopped =
      let a = stopped.answered in
      let p = a.went tells m (record { own = was.own.live; files = was.files }) in
      let r = rest_talk after.front p.0 in
      let whole = begins_then a.outcomes (each r.0 NoMemory) (arrived monitor.front bytes) after.front r.2 m p.0 p.0 a.responses r.1 p.1 r.3 in
      let same = stopped.files (a.lasts.still tells) in (
        a.outcomes ++ each r.0 NoMemory,
        a.responses ++ r.1,
        record p.0 { connection = r.2 },
        (
          r.2,
          p.0,
          subst (λ (x : Connection). Conversation RequestStep (a.outcomes ++ each r.0 NoMemory) (arrived x bytes) m (a.responses ++ r.1) r.2 p.0)
              was.own.connection_is whole,
          refl,
        ),
        record { saved_is = same.saved ∙ p.2.files.saved_is; calls_is = same.calls ∙ p.2.files.calls_is },
      )

  pub halted_talk : HasHalted Http bytes monitor after files left → IsTalk
  halted_talk (inl (same, kept)) =
      let r = rest_talk (arrived m.connection bytes) m in (
        each r.0 NoMemory,
        r.1,
        record m { connection = r.2 },
        (r.2, m, r.3, refl),
        record {
          saved_is = ap (λ (k : FilesKnown). k.saved) kept ∙ was.files.saved_is;
          calls_is = ap (λ (k : FilesKnown). k.calls) kept ∙ was.files.calls_is;
        },
      )
  halted_talk (inr stopped) = stopped_talk stopped
