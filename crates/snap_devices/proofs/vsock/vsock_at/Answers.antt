-- It is read where it is in a state that it may be in.
use Rattle.snap_devices.proofs.Reading.{vsock_gone, vsock_read, vsock_refused}
use Rattle.snap_devices.proofs.vsock.vsock_at.Goals as goal

pub returns-in-Some-clause-vsock : goal.returns-in-Some-clause-vsock
returns-in-Some-clause-vsock c =
    vsock_read c.args.input.now c.read_fields.new.input c.in_ok-state.state c.in-Some.it c.in_ok-state.ensures.fields c.in-Some.ensures

pub returns-in-Some-clause-gone : goal.returns-in-Some-clause-gone
returns-in-Some-clause-gone c = vsock_gone c.in_ok-state.state c.in-Some.it c.in-Some.ensures c.in_ok-state.ensures.gone

pub returns-in-None-clause-vsock : goal.returns-in-None-clause-vsock
returns-in-None-clause-vsock c =
    vsock_refused c.args.input.now c.read_fields.new.input c.in_ok-state.state c.in_ok-state.ensures.fields c.in-None.ensures
