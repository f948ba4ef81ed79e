-- The operations of vsock packets by their numbers (VIRTIO 1.2, 5.10.6).
use Rattle.std.specs.Prelude.{ℕ, ◌==◌, if◌then◌else◌, Option, Some, None}
use Rattle.vsock_packet.specs.declared.operation.Operation.{Operation}
use Rattle.vsock_packet.specs.declared.operation.Operation.TheVariants as operation

abbrev pub number_of : Operation → ℕ
number_of operation.Request = 1
number_of operation.Response = 2
number_of operation.Rst = 3
number_of operation.Shutdown = 4
number_of operation.Rw = 5
number_of operation.CreditUpdate = 6
number_of operation.CreditRequest = 7

-- the operation that has this number, if one has
abbrev pub operation_of : ℕ → Option Operation
operation_of n =
    if n == number_of operation.Request then Some operation.Request
    else if n == number_of operation.Response then Some operation.Response
    else if n == number_of operation.Rst then Some operation.Rst
    else if n == number_of operation.Shutdown then Some operation.Shutdown
    else if n == number_of operation.Rw then Some operation.Rw
    else if n == number_of operation.CreditUpdate then Some operation.CreditUpdate
    else if n == number_of operation.CreditRequest then Some operation.CreditRequest
    else None
