use Rattle.api_calls.specs.declared.call.ApiCall.TheVariants as call
use Rattle.api_calls.proofs.Asked.{asked_is}
use Rattle.api_calls.proofs.law.limits_are_bounded.Goals as goal

pub returns : goal.returns
returns c = record {
  drive = λ r drive is. (asked_is r (call.PutDrive drive) is).2;
  drive_patch = λ r patch is. (asked_is r (call.PatchDrive patch) is).2;
  interface = λ r interface is. (asked_is r (call.PutInterface interface) is).3;
  interface_patch = λ r patch is. (asked_is r (call.PatchInterface patch) is).1;
  entropy = λ r entropy is. asked_is r (call.PutEntropy entropy) is;
}
