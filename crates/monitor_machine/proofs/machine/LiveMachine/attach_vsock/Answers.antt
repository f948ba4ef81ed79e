use Rattle.std.proofs.Common.{◌∙◌, ap, subst}
use Rattle.vm_config.specs.declared.config.Config.{Config}
use Rattle.monitor_machine.specs.Kinds.{vsocks}
use Rattle.monitor_machine.specs.Live.{Live}
use Rattle.monitor_machine.specs.Objects.{Named}
use Rattle.monitor_machine.proofs.Attaching.{all_attached}
use Rattle.monitor_machine.proofs.machine.LiveMachine.attach_vsock.Goals as goal

pub returns-clause-attached : goal.returns-clause-attached
returns-clause-attached g c =
    let V = g.V.VsockHost in
    let start = (V.known c.args.vsock.now).health in
    let now = V.known c.attach_socket.new.vsock in
    all_attached vsocks c.args.self.now start now
    (λ k less.
    subst (λ (config : Config). Named vsocks start config k now) (c.get-config.ensures.same ∙ ap (λ (l : Live). l.config) c.self.view_is)
    (c.attach_socket.ensures.attached k))
