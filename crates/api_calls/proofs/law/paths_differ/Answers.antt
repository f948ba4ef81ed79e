use Rattle.api_calls.specs.declared.call.ApiCall.TheVariants as call
use Rattle.api_calls.proofs.Asked.{asked_is}
use Rattle.api_calls.proofs.law.paths_differ.Goals as goal

pub returns : goal.returns
returns c = record {
  differ = λ r it is. (asked_is r (call.CreateSnapshot it) is).2;
  paths = λ r it is. let said = asked_is r (call.CreateSnapshot it) is in (said.0, said.1);
  loaded = λ r load is. asked_is r (call.LoadSnapshot load) is;
}
