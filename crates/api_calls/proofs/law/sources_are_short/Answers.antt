use Rattle.api_calls.specs.declared.call.ApiCall.TheVariants as call
use Rattle.api_calls.proofs.Asked.{asked_is}
use Rattle.api_calls.proofs.law.sources_are_short.Goals as goal

pub returns : goal.returns
returns c = record {
  short = λ r source is. let said = asked_is r (call.PutBootSource source) is in (said.0, said.1, said.2);
  text = λ r source is. (asked_is r (call.PutBootSource source) is).3;
}
