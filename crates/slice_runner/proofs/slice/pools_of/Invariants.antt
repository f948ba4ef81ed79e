use Rattle.std.proofs.Common.{◌≡◌, ◌*◌, ◌-◌, ◌≤◌, length, vec_capacity, All}
use Rattle.vm_world.specs.Worlds.{IsSameButSpare}
use Rattle.slice_runner.proofs.slice.pools_of.Given as goal

abbrev pub invariant-loop-actor : goal.invariant-loop-actor
invariant-loop-actor l = record {
  same : IsSameButSpare l.fn.world l.world;
  enough : (l.actors - l._actor) * l.blanks ≤ l.world.spare;
  many : length l.pools.items ≡ l._actor;
  filled : All (λ pool. length pool.items ≡ l.blanks) l.pools.items;
  room : l.actors ≤ vec_capacity l.pools;
}
