use Rattle.guest_devices.proofs.Soundness.{at_sound, copied, did_sound, new_sound, reset_sound, resumed_sound, some_want, told_sound, want_host, want_inside, want_own}
use Rattle.guest_devices.proofs.Saved.{flat_saved}
use Rattle.guest_devices.proofs.law.sound_devices.Goals as goal

pub returns-clause-begins : goal.returns-clause-begins
returns-clause-begins c = new_sound

pub returns-clause-stays : goal.returns-clause-stays
returns-clause-stays c = did_sound

pub returns-clause-told : goal.returns-clause-told
returns-clause-told c = told_sound

pub returns-clause-reset : goal.returns-clause-reset
returns-clause-reset c = reset_sound

pub returns-clause-again : goal.returns-clause-again
returns-clause-again c = at_sound

pub returns-clause-some : goal.returns-clause-some
returns-clause-some c = some_want

pub returns-clause-own : goal.returns-clause-own
returns-clause-own c = want_own

pub returns-clause-inside : goal.returns-clause-inside
returns-clause-inside c = want_inside

pub returns-clause-host : goal.returns-clause-host
returns-clause-host c = want_host

pub returns-clause-resumed : goal.returns-clause-resumed
returns-clause-resumed c = resumed_sound

pub returns-clause-copied : goal.returns-clause-copied
returns-clause-copied c = copied

pub returns-clause-saved : goal.returns-clause-saved
returns-clause-saved c = flat_saved
