use Rattle.std.proofs.Common.{◌+◌, ◌-◌, ◌≤◌, ◌≡◌, length}
use Rattle.vm_types.specs.declared.ids.ActorId.{ActorId}
use Rattle.guest_pages.specs.Code.{IsCode}
use Rattle.guest_pages.specs.Made.{Spends}
use Rattle.hart_trace.specs.States.{fresh}
use Rattle.vm_world.specs.Bursts.{Bursts, counted}
use Rattle.vm_world.proofs.burst.run_in_ram.Given as goal

abbrev pub invariant-loop-left : goal.invariant-loop-left
invariant-loop-left l = record {
  within : l.left ≤ l.most;
  few : l.accesses ≤ (l.most - l.left);
  kept : l.regs ≡ record l.fn.regs { x = l.regs.x };
  code : IsCode l.code l.pages.pages;
  gone : Bursts l.fn.pages.pages (fresh l.fn.regs) (ActorId.Hart l.number) ((l.most - l.left) + l.accesses) l.pages.pages (fresh (counted (l.most - l.left) l.pc l.regs));
  many : length l.pages.pages ≡ length l.fn.pages.pages;
  spent : Spends (l.most - l.left) l.fn.pages l.pages;
  spends : Spends ((l.most - l.left) + l.accesses) l.fn.pages l.pages;
}

abbrev pub decreases-loop-left : goal.decreases-loop-left
decreases-loop-left l = l.left
