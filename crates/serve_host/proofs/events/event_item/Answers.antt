use Rattle.std.proofs.Common.{rules}
use Rattle.serve_host.proofs.events.event_item.Goals as goal

pub returns-in_ok-host_reply-in-Out-clause-item : goal.returns-in_ok-host_reply-in-Out-clause-item
returns-in_ok-host_reply-in-Out-clause-item c = search rules
