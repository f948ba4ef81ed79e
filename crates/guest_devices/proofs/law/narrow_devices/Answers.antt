use Rattle.guest_devices.proofs.Narrow.{copied_narrow, did_narrow, new_narrow, reset_narrow, told_narrow, write_narrow}
use Rattle.guest_devices.proofs.law.narrow_devices.Goals as goal

pub returns-clause-begins : goal.returns-clause-begins
returns-clause-begins c port pages what few own = new_narrow port pages few what own

pub returns-clause-stays : goal.returns-clause-stays
returns-clause-stays c port pages d s few narrow want fit = did_narrow port pages few d s narrow want fit

pub returns-clause-told : goal.returns-clause-told
returns-clause-told c port pages d change few fits small narrow = told_narrow port pages few d change fits small narrow

pub returns-clause-reset : goal.returns-clause-reset
returns-clause-reset c port pages d few narrow = reset_narrow port pages few d narrow

pub returns-clause-writes : goal.returns-clause-writes
returns-clause-writes c port pages d op few narrow want = write_narrow port pages few d op narrow want

pub returns-clause-copied : goal.returns-clause-copied
returns-clause-copied c port pages d few narrow = copied_narrow port pages d few narrow
