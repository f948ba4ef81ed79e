use Rattle.std.proofs.Common.{arith, rules}
use Rattle.guest_pages.proofs.Making.{less_room, no_spends}
use Rattle.vm_world.proofs.burst.run_burst.Goals as goal

pub run_in_ram-requires-clause-before_look : goal.run_in_ram-requires-clause-before_look
run_in_ram-requires-clause-before_look c = search rules

pub run_in_ram-requires-clause-room : goal.run_in_ram-requires-clause-room
run_in_ram-requires-clause-room c =
    less_room c.min-most.result c.args.left c.args.pages.now (omega (arith, c.min-most.ensures)) c.requires

pub returns-then-not-fetches-clause-spends : goal.returns-then-not-fetches-clause-spends
returns-then-not-fetches-clause-spends c = no_spends 0 c.args.pages.now

pub returns-then-most-eq0-clause-spends : goal.returns-then-most-eq0-clause-spends
returns-then-most-eq0-clause-spends c = no_spends 0 c.args.pages.now
