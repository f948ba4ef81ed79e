use Rattle.flat_guest.proofs.Narrow.{widths_next}
use Rattle.flat_guest.proofs.law.wide_events.Goals as goal

pub returns : goal.returns
returns c pages harts g event e h few sound widths step small = widths_next pages few harts g event e h sound widths step small
