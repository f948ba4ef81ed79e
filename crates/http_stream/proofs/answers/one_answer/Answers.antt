use Rattle.http_stream.proofs.CutLemmas.{judged_once}
use Rattle.http_stream.proofs.AnswerLemmas.{some_answer, some_reading}
use Rattle.http_stream.proofs.answers.one_answer.Goals as goal

pub returns : goal.returns
returns c = record { some = some_answer; one = judged_once; read = some_reading }
