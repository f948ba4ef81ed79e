use Rattle.std.proofs.Common.{◌∷◌, ◌++◌, [], arith}
use Rattle.guest_pages.proofs.Making.{less_room, room_left, spends_more}
use Rattle.vm_world.specs.Worlds.{pages_of}
use Rattle.monitor_running.proofs.Making.{made_twice}
use Rattle.monitor_running.proofs.waiting.step_twice.Goals as goal

pub returns-clause-gone : goal.returns-clause-gone
returns-clause-gone g c = λ first asked gone.
    c.step_once-2.ensures.gone first asked (c.step_once.ensures.gone first asked gone)

pub returns-clause-made : goal.returns-clause-made
returns-clause-made g c = λ first actors there made.
    made_twice actors c.args.actor c.step_once-2.new.events.items first c.step_once-2.new.world
    (c.step_once-2.ensures.made first (actors ++ c.args.actor ∷ []) there (c.step_once.ensures.made first actors there made))

pub step_once-requires-2-clause-room : goal.step_once-requires-2-clause-room
step_once-requires-2-clause-room g c =
    room_left 1 1 (pages_of c.args.world.now) (pages_of c.step_once.new.world) c.requires.room c.step_once.ensures.spends

pub returns-clause-spends : goal.returns-clause-spends
returns-clause-spends g c =
    spends_more 1 1 (pages_of c.args.world.now) (pages_of c.step_once.new.world) (pages_of c.step_once-2.new.world)
    c.step_once.ensures.spends c.step_once-2.ensures.spends

pub step_once-requires-clause-room : goal.step_once-requires-clause-room
step_once-requires-clause-room g c = less_room 1 2 (pages_of c.args.world.now) (omega arith) c.requires.room
