use Rattle.std.proofs.Common.{◌≡◌, ◌*◌, Bool, List, ℕ, length, ap, ◌∙◌, arith}
use Rattle.guest_pages.specs.Pages.{flat_of}
use Rattle.snap_diff.specs.Runs.{chosen, runs_of}
use Rattle.monitor_plans.specs.Headings.{kinds_in}
use Rattle.monitor_plans.proofs.Headings.{as_many_in, few_there, kinds_here}
use Rattle.monitor_plans.proofs.heading.runs_in.Goals as goal

pub runs_of-requires-clause-few : goal.runs_of-requires-clause-few
runs_of-requires-clause-few c = omega (arith, few_there c.args.numbers.now (length c.args.memory.now.pages) c.requires.there, c.requires.few)

pub runs_of-requires-clause-kinds : goal.runs_of-requires-clause-kinds
runs_of-requires-clause-kinds c =
    let ns = c.args.numbers.now in
    let pages = c.args.memory.now.pages in
    let kinds_are : c.in_ok-kinds.kinds.items ≡ kinds_in pages ns =
    c.in_ok-kinds.ensures
    ∙ kinds_here (length pages) ns (flat_of pages).bytes c.in-Some.pages c.in-Some.ensures.pages
    (c.len-size.ensures.bytes ∙ ap (λ (n : ℕ). 4096 * n) c.len-size.ensures.pages) c.requires.there in
    ap (λ (l : List Bool). length l) (c.deref.ensures.value ∙ kinds_are) ∙ as_many_in pages ns

pub chosen-requires : goal.chosen-requires
chosen-requires c =
    let ns = c.args.numbers.now in
    let pages = c.args.memory.now.pages in
    let kinds_are : c.in_ok-kinds.kinds.items ≡ kinds_in pages ns =
    c.in_ok-kinds.ensures
    ∙ kinds_here (length pages) ns (flat_of pages).bytes c.in-Some.pages c.in-Some.ensures.pages
    (c.len-size.ensures.bytes ∙ ap (λ (n : ℕ). 4096 * n) c.len-size.ensures.pages) c.requires.there in
    ap (λ (l : List Bool). length l) (c.deref-2.ensures.value ∙ kinds_are) ∙ as_many_in pages ns

pub returns-clause-runs : goal.returns-clause-runs
returns-clause-runs c =
    let ns = c.args.numbers.now in
    let pages = c.args.memory.now.pages in
    let kinds_are : c.in_ok-kinds.kinds.items ≡ kinds_in pages ns =
    c.in_ok-kinds.ensures
    ∙ kinds_here (length pages) ns (flat_of pages).bytes c.in-Some.pages c.in-Some.ensures.pages
    (c.len-size.ensures.bytes ∙ ap (λ (n : ℕ). 4096 * n) c.len-size.ensures.pages) c.requires.there in
    c.in_ok-runs.ensures ∙ ap (runs_of ns) (c.deref.ensures.value ∙ kinds_are)

pub returns-clause-stored : goal.returns-clause-stored
returns-clause-stored c =
    let ns = c.args.numbers.now in
    let pages = c.args.memory.now.pages in
    let kinds_are : c.in_ok-kinds.kinds.items ≡ kinds_in pages ns =
    c.in_ok-kinds.ensures
    ∙ kinds_here (length pages) ns (flat_of pages).bytes c.in-Some.pages c.in-Some.ensures.pages
    (c.len-size.ensures.bytes ∙ ap (λ (n : ℕ). 4096 * n) c.len-size.ensures.pages) c.requires.there in
    c.in_ok-stored.ensures ∙ ap (chosen ns) (c.deref-2.ensures.value ∙ kinds_are)
