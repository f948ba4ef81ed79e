use Rattle.std.proofs.Common.{rules}
use Rattle.command_line.proofs.reading.replay_id.Goals as goal

pub returns-in-Replay : goal.returns-in-Replay
returns-in-Replay c = search rules
