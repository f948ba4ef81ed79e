-- What a PUT or a PATCH of the metadata comes to.
use Rattle.std.specs.Prelude.{◌≡◌, Result, Ok, Err}
use Rattle.serde_json.specs.Data.{Data}
use Rattle.refusals.specs.declared.refusal.Refusal.{Refusal}
use Rattle.monitor_plans.specs.declared.plan.Plan.{Plan}
use Rattle.monitor_plans.specs.declared.plan.Plan.TheVariants as plan

abbrev pub StoreGives : Plan → Result Data Refusal → Type 0
StoreGives (plan.Stores kept) due = due ≡ Ok kept
StoreGives (plan.Refused why) due = due ≡ Err why
StoreGives plan.NoMemory due = Unit {0}
StoreGives it due = ⊥
