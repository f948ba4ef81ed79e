-- What is returned is what is due, unless there was no memory.
use Rattle.std.specs.Prelude.{◌≡◌, Result, Ok, Err}
use Rattle.refusals.specs.declared.refusal.Refusal.{Refusal}
use Rattle.api_json.specs.declared.error.ReadError.{ReadError}
use Rattle.api_json.specs.declared.error.ReadError.TheVariants as errors

abbrev pub Fails : {B : Type 0} → ReadError → Result B Refusal → Type 0
Fails errors.OutOfMemory due = Unit {0}
Fails (errors.Refused why) due = due ≡ Err why

-- seen by view
abbrev pub GivesBy : {A B : Type 0} → (A → B) → Result A ReadError → Result B Refusal → Type 0
GivesBy view (Ok x) due = due ≡ Ok (view x)
GivesBy view (Err e) due = Fails e due

abbrev pub Gives : {A : Type 0} → Result A ReadError → Result A Refusal → Type 0
Gives r due = GivesBy (λ x. x) r due
