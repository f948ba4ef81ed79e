use Rattle.std.proofs.Common.{not, rules}
use borrow.Author.Tests.{tests}
use Rattle.std.proofs.lemmas.Iterator.{YieldsList-from_slice}
use Rattle.std.proofs.lemmas.Iterator.Consumers.{YieldsList-at, YieldsList-from_filter, YieldsList-from_chain, nth_from_yields_List}
use Rattle.vm_config.specs.Drives.{is_root}
use Rattle.vm_config.proofs.drives.NamedList+Drive.at_device.Goals as goal

pub returns : goal.returns
returns c =
    let drives = c.args.self.now in
    nth_from_yields_List c.nth.result c.nth.new.self c.args.number c.nth.ensures.ran (
    YieldsList-from_chain
    (YieldsList-at c.chain.ensures.first (
    YieldsList-from_filter _ is_root (YieldsList-at c.filter-roots.ensures.source (YieldsList-from_slice drives cc)) c.filter-roots.ensures.closure (λ x b q k. search (rules, tests))))
    (YieldsList-at c.chain.ensures.second (
    YieldsList-from_filter _ (λ d. not (is_root d)) (YieldsList-at c.filter-others.ensures.source (YieldsList-from_slice drives cc)) c.filter-others.ensures.closure (λ x b q k. search (rules, tests))))
    c.chain.ensures.first_done c.chain.ensures.second_done)
