-- What a connection gave and has left is the same, whatever comes of it.
use Rattle.std.proofs.Common.{◌≡◌, ℕ, sym, ap, ◌∙◌, List, [], ◌∷◌, ◌++◌, append_assoc}
use Rattle.serve_host.specs.Passing.{ConnKnown, Gives, Waits}
use Rattle.serve_host.specs.Listening.{Ended, IsFresh, ListenerKnown, TakesBack, brought, ended_of}
use Rattle.monitor_core.specs.declared.monitor.Monitor.{Monitor}
use Rattle.monitor_serving.specs.declared.served.Served.TheVariants as served
use Rattle.monitor_serving.specs.Connections.{HaveCome, Serves, place, still_coming}
use Rattle.monitor_serving.specs.Views.{Hosts}

pub waits_bring : (old new : ConnKnown) → Waits old new → new.gave ++ new.left ≡ old.gave ++ old.left
waits_bring old new waits = ap (λ (l : List ℕ). l ++ new.left) waits.gave ∙ ap (λ (l : List ℕ). old.gave ++ l) waits.left

pub gives_bring : (old new : ConnKnown) (bytes : List ℕ) → Gives old new bytes → new.gave ++ new.left ≡ old.gave ++ old.left
gives_bring old new bytes gives =
    ap (λ (l : List ℕ). l ++ new.left) gives.gave ∙ append_assoc old.gave bytes new.left
    ∙ ap (λ (l : List ℕ). old.gave ++ l) (sym gives.left)

-- ---- which connections have come

-- a listener whose connections are the same
pub come_same : (first : ListenerKnown) (since : List Ended) (a b : ListenerKnown) → b.ended ≡ a.ended → b.coming ≡ a.coming
    → HaveCome first since a → HaveCome first since b
come_same first since a b ended coming came = record {
  ended = ended ∙ came.ended;
  coming = came.coming ∙ ap (λ (l : List (List ℕ)). brought since ++ l) (sym coming);
}

pub serves_same : (monitor : Monitor) (hosts : Hosts) (a b : ListenerKnown) → b.ended ≡ a.ended → b.coming ≡ a.coming
    → Serves served.Ended (place monitor hosts a) (place monitor hosts b)
serves_same monitor hosts a b ended coming s first old = record {
  flat = old.flat;
  talk = old.talk;
  since = old.since;
  stands = old.stands;
  came = come_same first old.since a b ended coming old.came;
  told = old.told;
}

-- one was taken back, and is over
pub come_back : (first : ListenerKnown) (since : List Ended) (bytes : List ℕ) (listener left : ListenerKnown) (fresh conn : ConnKnown)
    → IsFresh fresh bytes → conn.gave ++ conn.left ≡ fresh.gave ++ fresh.left → TakesBack conn listener left
    → HaveCome first since (still_coming bytes listener) → HaveCome first (ended_of conn ∷ since) left
come_back first since bytes listener left fresh conn is brings back came = record {
  ended = back.ended ∙ ap (λ (l : List Ended). ended_of conn ∷ l) came.ended;
  coming =
      came.coming ∙ ap (λ (l : List (List ℕ)). brought since ++ (bytes ∷ l)) (sym back.coming)
      ∙ ap (λ (b : List ℕ). brought since ++ (b ∷ left.coming)) (sym whole)
      ∙ sym (append_assoc (brought since) ((conn.gave ++ conn.left) ∷ []) left.coming);
}
  where
    whole : conn.gave ++ conn.left ≡ bytes
    whole = brings ∙ ap (λ (l : List ℕ). l ++ fresh.left) is.gave ∙ is.left
