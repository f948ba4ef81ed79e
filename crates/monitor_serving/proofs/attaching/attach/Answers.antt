use Rattle.monitor_serving.proofs.AllNamed as one
use Rattle.monitor_serving.proofs.attaching.attach.Goals as goal

pub returns-clause-attached : goal.returns-clause-attached
returns-clause-attached g c = λ files m is.
    let all = g.W.TurnObjects.known in
    one.attached (all c.args.with.now) (all c.attach_disks.new.with) (all c.attach_links.new.with) (all c.attach_vsock.new.with)
    c.attach_disks.ensures.beside c.attach_links.ensures.beside c.attach_vsock.ensures.beside m
    (c.attach_disks.ensures.attached files m is) (c.attach_links.ensures.attached files m is) (c.attach_vsock.ensures.attached files m is)

pub returns-clause-uncalled : goal.returns-clause-uncalled
returns-clause-uncalled g c =
    let all = g.W.TurnObjects.known in
    one.uncalled (all c.args.with.now) (all c.attach_disks.new.with) (all c.attach_links.new.with) (all c.attach_vsock.new.with)
    c.attach_disks.ensures.beside c.attach_links.ensures.beside c.attach_vsock.ensures.beside
    c.attach_disks.ensures.uncalled c.attach_links.ensures.uncalled c.attach_vsock.ensures.uncalled

pub returns-clause-beside : goal.returns-clause-beside
returns-clause-beside g c =
    let all = g.W.TurnObjects.known in
    one.beside (all c.args.with.now) (all c.attach_disks.new.with) (all c.attach_links.new.with) (all c.attach_vsock.new.with)
    c.attach_disks.ensures.beside c.attach_links.ensures.beside c.attach_vsock.ensures.beside
