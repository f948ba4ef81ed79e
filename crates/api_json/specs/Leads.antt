-- Where a request leads in the code is where it leads by the definition.
use Rattle.std.specs.Prelude.{◌≡◌, Result, Ok, Err}
use Rattle.refusals.specs.declared.refusal.Refusal.{Refusal}
use Rattle.api_calls.specs.Routes as routes
use Rattle.api_json.specs.Tables.{target_of}
use Rattle.api_json.specs.declared.routes.Target.{Target}

abbrev pub Leads : Result Target Refusal → Result routes.Target Refusal → Type 0
Leads (Ok t) due = due ≡ Ok (target_of t)
Leads (Err why) due = due ≡ Err why
