use Rattle.std.proofs.Common.{◌≡◌, ◌∙◌, ℕ, sym, ap, subst, Option, Some, None, slice_get}
use Rattle.flat_guest.proofs.Lists.{some_is}
use Rattle.vm_world.specs.Worlds.{WorldValue}
use Rattle.monitor_machine.specs.Seen.{live_of}
use Rattle.monitor_machine.specs.Telling.{statistics_at, statistics_in}
use Rattle.monitor_machine.proofs.Telling.{live_tells}
use Rattle.monitor_machine.proofs.machine.LiveMachine.statistics.Goals as goal

pub returns-in-None-clause-tells : goal.returns-in-None-clause-tells
returns-in-None-clause-tells c =
    rw (← c.self.view_is)
    (live_tells (live_of c.self.inside) (λ w k it there numbered here.
    absurd (let none : ◌≡◌ {A = Option WorldValue} None (Some w) = sym c.in-None.is ∙ there in cc)))

pub returns-in-Some-clause-tells : goal.returns-in-Some-clause-tells
returns-in-Some-clause-tells c =
    rw (← c.self.view_is)
    (live_tells (live_of c.self.inside) (λ w k it there numbered here.
    let same = some_is w c.in-Some.guest (sym there ∙ c.in-Some.is) in
    c.statistics_at.ensures.kept k it (c.balloon_number.ensures ∙ numbered)
    (subst (λ (v : WorldValue). slice_get v.devices k ≡ Some it) same here)))

pub returns-in-Some-clause-is : goal.returns-in-Some-clause-is
returns-in-Some-clause-is c =
    let live = live_of c.self.inside in
    rw (← c.self.view_is)
    (c.statistics_at.ensures.is ∙ ap (λ (n : Option ℕ). statistics_at n c.in-Some.guest) c.balloon_number.ensures
    ∙ ap (λ (o : Option WorldValue). statistics_in live.config o) (sym c.in-Some.is))
