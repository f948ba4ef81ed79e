-- It is read where it is in a state that it may be in.
use Rattle.snap_devices.proofs.Reading.{entropy_read, entropy_refused}
use Rattle.snap_devices.proofs.entropy.entropy_at.Goals as goal

pub returns-in-Some : goal.returns-in-Some
returns-in-Some c =
    entropy_read c.args.input.now c.read_fields.new.input c.in_ok-state.state c.in-Some.it c.in_ok-state.ensures c.in-Some.ensures

pub returns-in-None : goal.returns-in-None
returns-in-None c =
    entropy_refused c.args.input.now c.read_fields.new.input c.in_ok-state.state c.in_ok-state.ensures c.in-None.ensures
