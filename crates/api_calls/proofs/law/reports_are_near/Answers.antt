use Rattle.api_calls.specs.declared.call.ApiCall.TheVariants as call
use Rattle.api_calls.proofs.Asked.{asked_is}
use Rattle.api_calls.proofs.law.reports_are_near.Goals as goal

pub returns : goal.returns
returns c = record {
  put = λ r balloon is. asked_is r (call.PutBalloon balloon) is;
  patch = λ r patch is. asked_is r (call.PatchStatistics patch) is;
}
