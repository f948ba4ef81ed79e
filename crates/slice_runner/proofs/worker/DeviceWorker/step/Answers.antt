use Rattle.std.proofs.Common.{ap, ◌∙◌, ◌++◌, ◌∷◌, [], sym, subst}
use Rattle.guest_devices.specs.Devices.{device_next, device_wants}
use Rattle.guest_devices.specs.Kept.{device_left}
use Rattle.turn_work.specs.declared.worker.Worker.{Worker}
use Rattle.machine_places.specs.declared.place.MachinePlace.{MachinePlace}
use Rattle.slice_runner.specs.Seats.{IsSeated}
use Rattle.slice_runner.proofs.Asked.{answered, given_fits}
use Rattle.slice_runner.proofs.Seats.{seated_after, seated_same}
use Rattle.slice_runner.proofs.Working.{went}
use Rattle.slice_runner.proofs.worker.DeviceWorker.step.Goals as goal

pub act-entry-requires-clause-given : goal.act-entry-requires-clause-given
act-entry-requires-clause-given g c =
    given_fits g.O.DeviceObjects.Answers c.args.self.now.number c.want-op.result _ _ c.ask_object-given.result c.ask_object-given.ensures

pub act-entry-requires-clause-seat : goal.act-entry-requires-clause-seat
act-entry-requires-clause-seat g c =
    subst (λ (w : Worker MachinePlace). IsSeated c.args.places.now w) (sym c.in_default.ensures.same.work) c.requires.seat

pub returns-clause-seat : goal.returns-clause-seat
returns-clause-seat g c =
    seated_after c.args.places.now c.args.self.now.track.work c.stops.new.self.work c.act-entry.new.self.work c.in_default.ensures.same.work c.act-entry.ensures.seat

pub returns-in-Some-clause-seat : goal.returns-in-Some-clause-seat
returns-in-Some-clause-seat g c =
    seated_same c.args.places.now c.args.self.now.track.work c.stops.new.self.work c.requires.seat c.in-Some.ensures.same.work

pub returns-clause-went : goal.returns-clause-went
returns-clause-went g c = λ id s found blanks way.
    went device_wants device_next g.G.Gate.tally c.args.places.now.layout c.args.places.now.made.items id s found blanks (device_left c.args.self.now.device) c.args.self.now.track c.stops.new.self c.want-op.result way c.in_default.ensures.same c.want-op.ensures c.act-entry.new.self c.act-entry.result _ (device_left c.give.new.self) c.in_default.ensures.why c.act-entry.ensures.entry c.act-entry.ensures.wrote c.give.ensures

pub returns-clause-answers : goal.returns-clause-answers
returns-clause-answers g c = λ start had.
    let e = c.act-entry.result in
    let act = c.act-entry.ensures.entry in
    let old = c.args.self.now.track.work.journal.items in
    answered g.O.DeviceObjects.Answers c.args.self.now.number start (g.O.DeviceObjects.known c.args.objects.now) (g.O.DeviceObjects.known c.ask_object-given.new.objects) old c.act-entry.new.self.work.journal.items e c.want-op.result c.ask_object-given.result c.args.places.now.layout had (c.act-entry.ensures.wrote.items ∙ ap (λ w. w.journal.items ++ e ∷ []) c.in_default.ensures.same.work) act.op_is act.placed.0 act.given_is c.ask_object-given.ensures
