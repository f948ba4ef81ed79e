use Rattle.std.proofs.Common.{◌≤◌, ◌+◌, ◌-◌, ◌*◌, vec_len, vec_capacity}
use Rattle.guest_pages.specs.Made.{HasRoom}
use Rattle.vm_world.specs.Worlds.{pages_of}
use Rattle.monitor_running.specs.Waiting.{HasGone, HasMade, turns}
use Rattle.monitor_running.proofs.waiting.pass_time.Given as goal

abbrev pub invariant-loop-number : goal.invariant-loop-number
invariant-loop-number g l = record {
  gone : HasGone l.events.items l.fn.world l.world (g.C.Clock.known l.fn.clock) (g.C.Clock.known l.clock);
  made : HasMade (turns l.but l.number) l.events.items l.fn.world l.world;
  most : vec_len l.events ≤ 2 * l.number + 2;
  room : 2 * l.harts + 2 ≤ vec_capacity l.events;
  spare : HasRoom (2 * (l.harts - l.number)) (pages_of l.world);
}
