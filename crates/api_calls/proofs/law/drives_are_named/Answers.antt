use Rattle.api_calls.specs.declared.call.ApiCall.TheVariants as call
use Rattle.api_calls.proofs.Asked.{asked_is}
use Rattle.api_calls.proofs.law.drives_are_named.Goals as goal

pub returns : goal.returns
returns c = record {
  put = λ r drive is. let said = asked_is r (call.PutDrive drive) is in (said.0, said.1);
  patch = λ r patch is. let said = asked_is r (call.PatchDrive patch) is in (said.0, said.1);
}
