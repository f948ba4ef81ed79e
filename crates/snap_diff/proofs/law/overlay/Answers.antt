use Rattle.snap_diff.proofs.Overlays.{page_inside, page_outside, stays_whole}
use Rattle.snap_diff.proofs.law.overlay.Goals as goal

pub returns-clause-whole : goal.returns-clause-whole
returns-clause-whole c = stays_whole

pub returns-clause-inside : goal.returns-clause-inside
returns-clause-inside c = page_inside

pub returns-clause-outside : goal.returns-clause-outside
returns-clause-outside c = page_outside
