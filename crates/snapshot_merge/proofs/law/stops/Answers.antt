use Rattle.std.proofs.Common.{refl}
use Rattle.snapshot_merge.proofs.law.stops.Goals as goal

pub returns-clause-cut : goal.returns-clause-cut
returns-clause-cut c base diff before calls next left moment same = λ disk image. (left, moment, same disk image)

pub returns-clause-failed : goal.returns-clause-failed
returns-clause-failed c base diff before calls done rest parts =
    λ disk image. (disk, record { done = done; rest = rest; parts = parts; left = image }, (refl, refl))

pub returns-clause-next : goal.returns-clause-next
returns-clause-next c base diff other m d file text now is room settled = λ disk image.
    (is.text, ((is.settled disk image).0, record { are_bytes = is.are_bytes; file = is.merged; left = room }, settled disk image))
