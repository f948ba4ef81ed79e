use Rattle.guest_devices.proofs.Follows.{at_start, continues_wanted, did_leads, left_wants, one_left, reset_leads, told_leads, wants_continues, wants_left, wants_only}
use Rattle.guest_devices.proofs.law.devices_follow.Goals as goal

pub returns-clause-begins : goal.returns-clause-begins
returns-clause-begins c = at_start

pub returns-clause-one : goal.returns-clause-one
returns-clause-one c = one_left

pub returns-clause-only : goal.returns-clause-only
returns-clause-only c = wants_only

pub returns-clause-wants : goal.returns-clause-wants
returns-clause-wants c = left_wants

pub returns-clause-left : goal.returns-clause-left
returns-clause-left c = wants_left

pub returns-clause-goes_on : goal.returns-clause-goes_on
returns-clause-goes_on c = did_leads

pub returns-clause-change : goal.returns-clause-change
returns-clause-change c = told_leads

pub returns-clause-reset : goal.returns-clause-reset
returns-clause-reset c = reset_leads

pub returns-clause-continues : goal.returns-clause-continues
returns-clause-continues c = wants_continues

pub returns-clause-wanted : goal.returns-clause-wanted
returns-clause-wanted c = continues_wanted
