use Rattle.port_table.proofs.KindStays.{touch_same}
use Rattle.port_table.proofs.Sizes.{configured_stays, new_stays, touch_small, touch_stays}
use Rattle.port_table.proofs.law.port_stays.Goals as goal

pub returns-clause-new : goal.returns-clause-new
returns-clause-new c = new_stays

pub returns-clause-touched : goal.returns-clause-touched
returns-clause-touched c = touch_stays

pub returns-clause-configured : goal.returns-clause-configured
returns-clause-configured c = configured_stays

pub returns-clause-replies : goal.returns-clause-replies
returns-clause-replies c = touch_small

pub returns-clause-kind : goal.returns-clause-kind
returns-clause-kind c = touch_same
