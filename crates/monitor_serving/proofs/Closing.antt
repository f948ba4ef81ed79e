-- A connection that fails does so at bytes that are no request, and their answer ends it.
use Rattle.std.proofs.Common.{◌≡◌, ℕ, ◌⊎◌, inl, inr, Bool, true, false, ◌||◌, refl, sym, ap, ◌∙◌, subst, List, [], ◌∷◌, ◌++◌, if◌then◌else◌}
use Rattle.std.specs.List.{list_any}
use Rattle.std.proofs.lemmas.List.Folds.{list_any-append}
use Rattle.std.proofs.lemmas.Bool.{or_right}
use Rattle.vm_outside.specs.Known.{FilesKnown}
use Rattle.api_rules.specs.declared.answer.Answer.{Answer}
use Rattle.http_stream.specs.declared.request.Next.{Next}
use Rattle.http_stream.specs.declared.request.Next.TheVariants as next
use Rattle.http_stream.specs.Conversation.{Conversation, Takes, arrived}
use Rattle.http_stream.specs.Stream.{Connection}
use Rattle.http_stream.proofs.CutLemmas.{request_lives}
use Rattle.responses.specs.Responses.{Response}
use Rattle.flat_machine.specs.Items.{Talks}
use Rattle.flat_machine.specs.Machine.{Machine}
use Rattle.flat_machine.specs.Outcome.{Outcome}
use Rattle.flat_machine.specs.Outcome.Outcome.{Answered, Failed, NoMemory}
use Rattle.flat_machine.specs.Requests as requests
use Rattle.flat_machine.specs.Requests.{RequestStep, respond}
use Rattle.flat_trace.specs.Showing.Out.{Heard}
use Rattle.monitor_core.specs.declared.monitor.Monitor.{Monitor}
use Rattle.monitor_core.specs.State.{IsMonitor}
use Rattle.monitor_serving.specs.Views.{HasClosed}

-- ---- in either of two

pub any_first : {A : Type 0} (p : A → Bool) (a b : List A) → list_any p a ≡ true → list_any p (a ++ b) ≡ true
any_first p a b is = list_any-append p a b ∙ ap (λ (x : Bool). x || list_any p b) is

pub any_more : {A : Type 0} (p : A → Bool) (a b : List A) → list_any p b ≡ true → list_any p (a ++ b) ≡ true
any_more p a b is = list_any-append p a b ∙ ap (λ (x : Bool). list_any p a || x) is ∙ or_right (list_any p a) true refl

-- ---- what is due

abbrev ends : List Response → Bool
ends responses = list_any (λ (r : Response). r.closes) responses

taken_closes : (c : Connection) (given : Next) (after : Connection) → Takes c given after → after.failed ≡ true
    → requests.closes given ≡ true
taken_closes c (next.Request r) after takes failed = let lives = request_lives c.pending r after takes.judged in cc
taken_closes c (next.Bad why) after takes failed = refl
taken_closes c next.None after takes failed = absurd takes.due

respond_closes : (given : Next) (first : List Response) (answer : Answer) → requests.closes given ≡ true
    → first ≡ respond given answer → ends first ≡ true
respond_closes given first answer closing is = ap ends is ∙ ap (λ (b : Bool). b || false) closing

step_closes : (how : Outcome) (given : Next) (m : Machine) (first : List Response) (mid : Machine) → RequestStep how given m first mid
    → requests.closes given ≡ true → ends first ≡ true
step_closes (Answered kept) given m first mid step closing = respond_closes given first step.0.0 closing step.0.2
step_closes (Failed left) given m first mid step closing = respond_closes given first _ closing step.3
step_closes NoMemory given m first mid step closing = respond_closes given first _ closing step.0

talk_closes : (outcomes : List Outcome) (c : Connection) (m : Machine) (responses : List Response) (d : Connection) (n : Machine)
    → Conversation RequestStep outcomes c m responses d n → d.failed ≡ true → (c.failed ≡ true) ⊎ (ends responses ≡ true)
talk_closes [] c m responses d n (quiet, same, none, still) failed =
    inl (subst (λ (x : Connection). x.failed ≡ true) same failed)
talk_closes (how ∷ hows) c m responses d n (given, after, first, mid, rest, takes, step, on, is) failed =
    inr (ap ends is ∙ by_rest (talk_closes hows after mid rest d n on failed))
  where
    by_rest : (after.failed ≡ true) ⊎ (ends rest ≡ true) → ends (first ++ rest) ≡ true
    by_rest (inl it) =
        any_first (λ (r : Response). r.closes) first rest
        (step_closes how given m first mid step (taken_closes c given after takes it))
    by_rest (inr it) = any_more (λ (r : Response). r.closes) first rest it

-- ---- bytes that come

arrived_fails : (c : Connection) (bytes : List ℕ) → (arrived c bytes).failed ≡ true → c.failed ≡ true
arrived_fails c bytes failed = by_failed c.failed refl failed
  where
    by_failed : (b : Bool) → c.failed ≡ b → (if b then c else record c { pending = c.pending ++ bytes }).failed ≡ true → c.failed ≡ true
    by_failed true is it = is
    by_failed false is it = it

pub heard_closes : (monitor after : Monitor) (files left : FilesKnown) (m n : Machine) (bytes : List ℕ) (outcomes : List Outcome)
    (responses : List Response) → IsMonitor monitor files m → IsMonitor after left n → Talks bytes outcomes m responses n
    → after.front.failed ≡ true → (monitor.front.failed ≡ true) ⊎ HasClosed (Heard bytes responses ∷ [])
heard_closes monitor after files left m n bytes outcomes responses was is (d, mid, talked, leaves) failed =
    by_talk (talk_closes outcomes (arrived m.connection bytes) m responses d mid talked
    (subst (λ (x : Connection). x.failed ≡ true) (is.own.connection_is ∙ ap (λ (x : Machine). x.connection) leaves) failed))
  where
    by_talk : ((arrived m.connection bytes).failed ≡ true) ⊎ (ends responses ≡ true)
        → (monitor.front.failed ≡ true) ⊎ HasClosed (Heard bytes responses ∷ [])
    by_talk (inl it) =
        inl (subst (λ (x : Connection). x.failed ≡ true) (sym was.own.connection_is) (arrived_fails m.connection bytes it))
    by_talk (inr it) = inr (ap (λ (b : Bool). b || false) it)
