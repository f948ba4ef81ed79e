use Rattle.std.proofs.Common.{rules}
use Rattle.monitor_machine.proofs.machine.objects.attach_socket.Goals as goal

pub returns-in-Some-clause-attached : goal.returns-in-Some-clause-attached
returns-in-Some-clause-attached g c = λ k tells name is. search (rules, is, c.socket_of.ensures k, c.attach.ensures.attaches tells)

pub returns-in_default-clause-attached : goal.returns-in_default-clause-attached
returns-in_default-clause-attached g c = λ k tells name is. search (rules, is, c.socket_of.ensures k)
