-- What a call is answered: a status, and for some a body.
use Rattle.std.specs.Prelude.{Some, None}
use Rattle.refusals.specs.declared.refusal.Refusal.{Refusal}
use Rattle.refusals.specs.Refusals.{status_of, fault_text}
use Rattle.api_calls.specs.declared.call.ApiCall.{ApiCall}
use Rattle.api_calls.specs.declared.call.ApiCall.TheVariants as call
use Rattle.vm_config.specs.Texts.{Told, text_of}
use Rattle.api_rules.specs.declared.answer.Answer.{Answer}

abbrev pub refused : Refusal → Answer
refused refusal = record { status = status_of refusal; body = Some (fault_text refusal) }

abbrev pub no_content : Answer
no_content = record { status = 204; body = None }

-- a call that tells is answered OK with its text, and any other No Content
abbrev pub accepted : ApiCall → Told → Answer
accepted (call.Get part) told = record {
  status = 200;
  body = Some (text_of part told);
}
accepted it told = no_content
