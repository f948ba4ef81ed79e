use Rattle.std.proofs.Common.{◌≡◌, ◌∙◌, ℕ, sym, ap, subst, Option, Some, None, slice_get}
use Rattle.flat_guest.proofs.Lists.{some_is}
use Rattle.monitor_machine.specs.Telling.{statistics_at, told_by}
use Rattle.monitor_machine.proofs.machine.telling.statistics_at.Goals as goal

pub returns-clause-is : goal.returns-clause-is
returns-clause-is c =
    c.told_by.ensures ∙ (λ i. told_by (c.shown.ensures i) (c.statistics-told.ensures.told i))
    ∙ ap (λ (n : Option ℕ). statistics_at n c.args.guest.now) (sym c.in-Some.is)

pub returns-clause-kept : goal.returns-clause-kept
returns-clause-kept c = λ k it numbered here.
    let same = some_is k c.in-Some.device (sym numbered ∙ c.in-Some.is) in
    c.statistics-told.ensures.kept it (subst (λ (n : ℕ). slice_get c.args.guest.now.devices n ≡ Some it) same here)

pub returns-in_default-clause-kept : goal.returns-in_default-clause-kept
returns-in_default-clause-kept c = λ k it numbered here.
    absurd (let none : ◌≡◌ {A = Option ℕ} None (Some k) = sym c.in_default.is ∙ numbered in cc)
