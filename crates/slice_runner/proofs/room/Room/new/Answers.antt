use Rattle.std.proofs.Common.{rules}
use Rattle.slice_runner.proofs.room.Room.new.Goals as goal

pub returns : goal.returns
returns g c = λ blanks filled. record { places = search rules; crew = c.in_ok-crew.ensures blanks filled }
