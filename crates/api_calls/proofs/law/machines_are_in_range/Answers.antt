use Rattle.api_calls.specs.declared.call.ApiCall.TheVariants as call
use Rattle.api_calls.proofs.Asked.{asked_is}
use Rattle.api_calls.proofs.law.machines_are_in_range.Goals as goal

pub returns : goal.returns
returns c = record {
  harts = λ r machine is. (asked_is r (call.PutMachineConfig machine) is).0;
  mib = λ r machine is. (asked_is r (call.PutMachineConfig machine) is).1;
  patched_harts = λ r patch n is given. (asked_is r (call.PatchMachineConfig patch) is).0 n given;
  patched_mib = λ r patch n is given. (asked_is r (call.PatchMachineConfig patch) is).1 n given;
}
