use Rattle.std.proofs.Common.{ap, ◌∙◌, sym, subst}
use Rattle.hart_trace.specs.States.{hart_next, hart_wants}
use Rattle.hart_trace.specs.Asks.{is_port_op}
use Rattle.hart_trace.proofs.Asks.{never_host, never_port}
use Rattle.turn_work.specs.declared.worker.Worker.{Worker}
use Rattle.machine_places.specs.declared.place.MachinePlace.{MachinePlace}
use Rattle.slice_runner.specs.Seats.{IsSeated}
use Rattle.slice_runner.proofs.Routes.{no_port_op}
use Rattle.slice_runner.proofs.Seats.{seated_after, seated_same}
use Rattle.slice_runner.proofs.Working.{none_given, went}
use Rattle.slice_runner.proofs.worker.HartWorker.step.Goals as goal

pub act-entry-requires-clause-given : goal.act-entry-requires-clause-given
act-entry-requires-clause-given g c =
    none_given c.want-op.result _ c.want-op.ensures (never_host c.args.self.now.hart)

pub act-entry-requires-clause-port : goal.act-entry-requires-clause-port
act-entry-requires-clause-port g c =
    no_port_op c.args.places.now.layout c.want-op.result (ap is_port_op c.want-op.ensures ∙ never_port c.args.self.now.hart)

pub act-entry-requires-clause-seat : goal.act-entry-requires-clause-seat
act-entry-requires-clause-seat g c =
    subst (λ (w : Worker MachinePlace). IsSeated c.args.places.now w) (sym c.in_default.ensures.same.work) c.requires.seat

pub returns-clause-seat : goal.returns-clause-seat
returns-clause-seat g c =
    seated_after c.args.places.now c.args.self.now.track.work c.stops.new.self.work c.act-entry.new.self.work c.in_default.ensures.same.work c.act-entry.ensures.seat

pub returns-in-Some-clause-seat : goal.returns-in-Some-clause-seat
returns-in-Some-clause-seat g c =
    seated_same c.args.places.now c.args.self.now.track.work c.stops.new.self.work c.requires.seat c.in-Some.ensures.same.work

pub returns-clause-went : goal.returns-clause-went
returns-clause-went g c = λ id s found blanks way.
    went hart_wants hart_next g.G.Gate.tally c.args.places.now.layout c.args.places.now.made.items id s found blanks c.args.self.now.hart c.args.self.now.track c.stops.new.self c.want-op.result way c.in_default.ensures.same c.want-op.ensures c.act-entry.new.self c.act-entry.result _ c.give.new.self c.in_default.ensures.why c.act-entry.ensures.entry c.act-entry.ensures.wrote c.give.ensures
