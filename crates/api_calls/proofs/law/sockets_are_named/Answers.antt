use Rattle.api_calls.specs.declared.call.ApiCall.TheVariants as call
use Rattle.api_calls.proofs.Asked.{asked_is}
use Rattle.api_calls.proofs.law.sockets_are_named.Goals as goal

pub returns : goal.returns
returns c = λ r vsock is. let said = asked_is r (call.PutVsock vsock) is in (said.0.0, said.0.1, said.1)
