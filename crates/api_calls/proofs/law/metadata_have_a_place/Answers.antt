use Rattle.api_calls.specs.declared.call.ApiCall.TheVariants as call
use Rattle.api_calls.proofs.Asked.{asked_is}
use Rattle.api_calls.proofs.law.metadata_have_a_place.Goals as goal

pub returns : goal.returns
returns c = λ r mmds is. asked_is r (call.PutMmdsConfig mmds) is
