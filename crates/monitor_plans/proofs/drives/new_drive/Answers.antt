-- A number of sectors has the width of its field, and nothing passed through the buckets yet.
use Rattle.std.proofs.Common.{◌≡◌, ◌<◌, ◌^◌, true, sym, subst, rules}
use Rattle.rate_gate.specs.Gate.{Buckets}
use Rattle.guest_devices.specs.Moments.{are_before}
use Rattle.flat_machine.proofs.Fresh.{limits_fresh}
use Rattle.monitor_plans.proofs.drives.new_drive.Goals as goal

pub returns-clause-fits : goal.returns-clause-fits
returns-clause-fits c =
    let small : c.sectors_of.result < 2 ^ 64 = search rules in
    (small, subst (λ (b : Buckets). are_before 0 b ≡ true) (sym c.gate_of.ensures) (limits_fresh c.args.drive.now.rate_limiter))
