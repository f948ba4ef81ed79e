use Rattle.std.proofs.Common.{sym}
use Rattle.guest_pages.proofs.Making.{no_spends}
use Rattle.vm_world.specs.Worlds.{pages_of}
use Rattle.monitor_running.proofs.Making.{made_in, made_out}
use Rattle.monitor_running.proofs.waiting.step_hart.Goals as goal

pub returns-then-not-is_left_out-clause-made : goal.returns-then-not-is_left_out-clause-made
returns-then-not-is_left_out-clause-made g c = λ first actors there made.
    made_in c.args.but c.args.hart actors c.step_twice.new.events.items first c.step_twice.new.world (sym c.if-not-is_left_out.ensures) (c.step_twice.ensures.made first actors there made)

pub returns-else-not-is_left_out-clause-made : goal.returns-else-not-is_left_out-clause-made
returns-else-not-is_left_out-clause-made g c = λ first actors there made.
    made_out c.args.but c.args.hart actors c.args.events.now.items first c.args.world.now (sym c.if-not-is_left_out.ensures) made

pub returns-else-not-is_left_out-clause-spends : goal.returns-else-not-is_left_out-clause-spends
returns-else-not-is_left_out-clause-spends g c = no_spends 2 (pages_of c.args.world.now)
