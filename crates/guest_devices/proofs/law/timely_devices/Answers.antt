use Rattle.guest_devices.proofs.Moments.{copied_timely, device_later, did_timely, kept_timely, new_timely, reset_timely, told_timely}
use Rattle.guest_devices.proofs.law.timely_devices.Goals as goal

pub returns-clause-begins : goal.returns-clause-begins
returns-clause-begins c = new_timely

pub returns-clause-later : goal.returns-clause-later
returns-clause-later c = device_later

pub returns-clause-stays : goal.returns-clause-stays
returns-clause-stays c = did_timely

pub returns-clause-told : goal.returns-clause-told
returns-clause-told c = told_timely

pub returns-clause-reset : goal.returns-clause-reset
returns-clause-reset c = reset_timely

pub returns-clause-resumed : goal.returns-clause-resumed
returns-clause-resumed c = kept_timely

pub returns-clause-copied : goal.returns-clause-copied
returns-clause-copied c = copied_timely
