-- The vsock device of a machine: what it starts with.
use Rattle.api_calls.specs.declared.vsock.Vsock.{Vsock}
use Rattle.vsock_device.specs.declared.new_vsock.NewVsock.{NewVsock}

-- the guest's CID
abbrev pub new_vsock : Vsock → NewVsock
new_vsock v = record { guest_cid = v.guest_cid }
