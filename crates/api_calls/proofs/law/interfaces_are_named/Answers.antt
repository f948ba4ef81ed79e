use Rattle.api_calls.specs.declared.call.ApiCall.TheVariants as call
use Rattle.api_calls.proofs.Asked.{asked_is}
use Rattle.api_calls.proofs.law.interfaces_are_named.Goals as goal

pub returns : goal.returns
returns c = record {
  put = λ r interface is. let said = asked_is r (call.PutInterface interface) is in (said.0, said.1, said.2);
  patch = λ r patch is. (asked_is r (call.PatchInterface patch) is).0;
}
