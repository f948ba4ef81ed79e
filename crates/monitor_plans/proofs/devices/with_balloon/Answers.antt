use Rattle.monitor_plans.proofs.DevicesMade.{balloon_few, balloon_near}
use Rattle.monitor_plans.proofs.devices.with_balloon.Goals as goal

pub new_balloon-requires-clause-few : goal.new_balloon-requires-clause-few
new_balloon-requires-clause-few c = balloon_few c.args.config.now c.in-Some.balloon c.requires c.in-Some.is

pub new_balloon-requires-clause-near : goal.new_balloon-requires-clause-near
new_balloon-requires-clause-near c = balloon_near c.args.config.now c.in-Some.balloon c.requires c.in-Some.is
