use Rattle.std.proofs.Common.{◌≡◌, refl, ap, ◌∙◌, true, false}
use Rattle.serde_json.specs.View.{view}
use Rattle.api_calls.specs.Call.{object_of, object_in}
use Rattle.api_json.proofs.CallLemmas.{json_some, json_none}
use Rattle.api_json.proofs.body.object_of.Goals as goal

pub returns-then-is_object : goal.returns-then-is_object
unfolding object_of
returns-then-is_object c =
    ap object_in (json_some c.args.bytes.now (view c.in-Ok.value) c.in-Ok.ensures.ok.0 c.in-Ok.ensures.ok.1)
    ∙ rw (← c.if-is_object.ensures) refl

pub returns-else-is_object : goal.returns-else-is_object
unfolding object_of
returns-else-is_object c =
    ap object_in (json_some c.args.bytes.now (view c.in-Ok.value) c.in-Ok.ensures.ok.0 c.in-Ok.ensures.ok.1)
    ∙ rw (← c.if-is_object.ensures) refl

pub returns-else-is_memory : goal.returns-else-is_memory
unfolding object_of
returns-else-is_memory c =
    ap object_in (json_none c.args.bytes.now (c.in-Err.ensures.err
    (λ m. let k : false ≡ true = c.if-is_memory.ensures.1 m in cc)))
