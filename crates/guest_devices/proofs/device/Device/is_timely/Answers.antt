-- By its buckets.
use Rattle.std.proofs.Common.{true, false, sym, ap, ◌∙◌}
use Rattle.guest_devices.specs.Moments.{are_before, is_timely}
use Rattle.guest_devices.proofs.Moments.{block_test, both_on, entropy_test, first_off, rx_test, tx_test}
use Rattle.guest_devices.proofs.device.Device.is_timely.Goals as goal

pub returns-in-Block : goal.returns-in-Block
returns-in-Block c =
    c.are_before.ensures ∙ block_test c.args.time c.state.result.now c.in-Block.block c.state.ensures.state
    ∙ sym (ap (is_timely c.args.time) c.in-Block.is)

pub returns-then-are_before : goal.returns-then-are_before
returns-then-are_before c =
    let first = c.are_before-in-Net.ensures
    ∙ rx_test c.args.time c.state-in-Net.result.now c.in-Net.net c.rx.result.now c.state-in-Net.ensures.state c.rx.ensures in
    let second = c.are_before-then-are_before.ensures
    ∙ tx_test c.args.time c.state-in-Net.result.now c.in-Net.net c.tx.result.now c.state-in-Net.ensures.state c.tx.ensures in
    second ∙ both_on _ _ (sym first ∙ c.if-are_before.true) ∙ sym (ap (is_timely c.args.time) c.in-Net.is)

pub returns-else-are_before : goal.returns-else-are_before
returns-else-are_before c =
    let first = c.are_before-in-Net.ensures
    ∙ rx_test c.args.time c.state-in-Net.result.now c.in-Net.net c.rx.result.now c.state-in-Net.ensures.state c.rx.ensures in
    c.if-are_before.false ∙ first_off _ (are_before c.args.time c.in-Net.net.kind.own.tx) (sym first ∙ c.if-are_before.false)
    ∙ sym (ap (is_timely c.args.time) c.in-Net.is)

pub returns-in-Entropy : goal.returns-in-Entropy
returns-in-Entropy c =
    c.are_before-in-Entropy.ensures
    ∙ entropy_test c.args.time c.state-in-Entropy.result.now c.in-Entropy.entropy c.limits.result.now c.state-in-Entropy.ensures.state
    c.limits.ensures
    ∙ sym (ap (is_timely c.args.time) c.in-Entropy.is)
