-- What a line leaves that brings one request on a connection that holds nothing.
use Rattle.std.proofs.Common.{◌≡◌, ℕ, false, refl, ap, subst, ◌∙◌, List, [], ◌∷◌, Result, Ok, inl, inr}
use Rattle.refusals.specs.declared.refusal.Refusal.{Refusal}
use Rattle.http_stream.specs.declared.request.Next.{Next}
use Rattle.http_stream.specs.declared.request.Next.TheVariants as next
use Rattle.http_stream.specs.declared.request.Request.{Request}
use Rattle.http_stream.specs.Answers.{OneAnswer}
use Rattle.http_stream.specs.Conversation.{Conversation, IsDue, IsQuiet, arrived, new_connection}
use Rattle.http_stream.specs.Sent.{sent}
use Rattle.http_stream.specs.Stream.{Answer, Connection, early, waits}
use Rattle.api_calls.specs.declared.call.ApiCall.{ApiCall}
use Rattle.api_calls.specs.Call.{◌>>=◌, call_of}
use Rattle.api_rules.specs.Table.{decision}
use Rattle.responses.specs.Responses.{Response}
use Rattle.guest_devices.specs.declared.device.Device.{Device}
use Rattle.flat_machine.specs.Items.{TalkLines}
use Rattle.flat_machine.specs.Machine.{Machine, phase_of}
use Rattle.flat_machine.specs.Outcome.{AreAnswered, Outcome}
use Rattle.flat_machine.specs.Outcome.Outcome.{Answered, Failed, NoMemory}
use Rattle.flat_machine.specs.Requests.{LeavesBy, RequestStep, allowed, by_contents}
use Rattle.run_chain.specs.Asked.{Asks}

-- the request was answered by the machine, which kept this of its devices, and nothing is left on the connection
pub record Heard (c : ApiCall) (m n : Machine) : Type 0 where
  pub request : Request
  pub asks : call_of request ≡ Ok c
  pub kept : List Device
  pub said : List Response
  pub mid : Machine
  pub step : RequestStep (Answered kept) (next.Request request) m said mid
  pub leaves : n ≡ record mid { connection = new_connection }

module _ (one : OneAnswer) where
  -- nothing is due on a connection that holds nothing
  none_due : (hows : List Outcome) (m n : Machine) (text : List Response) (d : Connection)
      → Conversation RequestStep hows new_connection m text d n → (d ≡ new_connection) × (n ≡ m)
  none_due [] m n text d (quiet, stays, none, is) = (stays, is)
  none_due (how ∷ hows) m n text d (given, after, first, mid, rest, takes, step, more, is) =
      let same = one [] (record { next = given; after = after }) (waits []) takes.judged (early refl refl) in
      absurd (subst IsDue (ap (λ (a : Answer). a.next) same) takes.due)

  module _ (method path body : List ℕ) (c : ApiCall) (asks : Asks method path body c) where
    abbrev bytes : List ℕ
    bytes = sent method path body

    abbrev come : Connection
    come = record { pending = bytes; failed = false }

    abbrev whole : Answer
    whole = record { next = next.Request asks.request; after = new_connection }

    -- something is due
    not_quiet : IsQuiet come → ⊥
    not_quiet (inl failed) = absurd cc
    not_quiet (inr (live, judged)) =
        let same : next.None ≡ next.Request asks.request =
        ap (λ (a : Answer). a.next) (one bytes (record { next = next.None; after = come }) whole judged asks.gives) in
        absurd cc

    by_talk : (outcomes : List Outcome) (m n last : Machine) (said : List Response) (after : Connection) → AreAnswered outcomes
        → Conversation RequestStep outcomes come m said after last → n ≡ record last { connection = after } → Heard c m n
    by_talk [] m n last said after good (quiet, stays, none, is) leaves = absurd (not_quiet quiet)
    by_talk (Answered kept ∷ outcomes) m n last said after good (given, d, first, mid, rest, takes, step, more, is) leaves =
        let same = one bytes (record { next = given; after = d }) whole takes.judged asks.gives in
        let given_is : given ≡ next.Request asks.request = ap (λ (a : Answer). a.next) same in
        let after_is : d ≡ new_connection = ap (λ (a : Answer). a.after) same in
        let left =
        none_due outcomes mid last rest after
        (subst (λ (x : Connection). Conversation RequestStep outcomes x mid rest after last) after_is more) in
        record {
          request = asks.request;
          asks = asks.asks;
          kept = kept;
          said = first;
          mid = mid;
          step = subst (λ (x : Next). RequestStep (Answered kept) x m first mid) given_is step;
          leaves =
              leaves
              ∙ ap (λ (x : Connection). record last { connection = x }) left.0
              ∙ ap (λ (q : Machine). record q { connection = new_connection }) left.1;
        }
    by_talk (Failed left ∷ outcomes) m n last said after good talk leaves = absurd good
    by_talk (NoMemory ∷ outcomes) m n last said after good talk leaves = absurd good

    pub one_request : (m n : Machine) (outcomes : List Outcome) (text : List ℕ) → m.connection ≡ new_connection → AreAnswered outcomes
        → TalkLines bytes outcomes m text n → Heard c m n
    one_request m n outcomes text empty good (said, (after, last, talk, leaves), is) =
        by_talk outcomes m n last said after good
        (subst (λ (d : Connection). Conversation RequestStep outcomes (arrived d bytes) m said after last) empty talk) leaves

-- ---- what it leaves, where the machine allows it

module _ (c : ApiCall) (m n : Machine) (it : ApiCall) (heard : Heard c m n) (decides : decision (phase_of m) m.config m.ids c ≡ Ok it)
    (contents : by_contents m it ≡ Ok it) where
  pub allows : allowed m (next.Request heard.request) ≡ Ok it
  allows =
      ap (λ (r : Result ApiCall Refusal). (r >>= λ a. decision (phase_of m) m.config m.ids a) >>= by_contents m) heard.asks
      ∙ ap (λ (r : Result ApiCall Refusal). r >>= by_contents m) decides ∙ contents

  pub leaves_by : LeavesBy m (Ok it) heard.kept heard.mid
  leaves_by = subst (λ (r : Result ApiCall Refusal). LeavesBy m r heard.kept heard.mid) allows heard.step.1
