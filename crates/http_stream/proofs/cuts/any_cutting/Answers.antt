use Rattle.http_stream.proofs.CutLemmas.{one_reading, cuts_anywhere, fails_for_good, request_falls}
use Rattle.http_stream.proofs.cuts.any_cutting.Goals as goal

pub returns : goal.returns
returns c = record { one = one_reading; cuts = cuts_anywhere; fails = fails_for_good; takes = request_falls }
