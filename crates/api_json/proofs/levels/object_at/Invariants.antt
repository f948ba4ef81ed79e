use Rattle.std.proofs.Common.{◌≡◌, map, drop, List, ℕ, Bor}
use Rattle.serde_json.specs.View.{view}
use Rattle.api_calls.specs.Form.{object_at}
use Rattle.api_json.proofs.levels.object_at.Given as goal

abbrev pub invariant-loop-name : goal.invariant-loop-name
invariant-loop-name l =
    object_at (map (λ (t : Bor (List ℕ)). t.now) (drop l.name-index l.place)) (view l.value)
    ≡ object_at (map (λ (t : Bor (List ℕ)). t.now) l.place) (view l.body)
