use Rattle.std.proofs.Common.{List, ap, ◌∙◌}
use Rattle.vm_types.specs.declared.reply.Reply.{Reply}
use Rattle.guest_pages.specs.Pages.{flat_of, marks_of}
use Rattle.guest_pages.specs.Made.{is_ready}
use Rattle.guest_pages.proofs.Making.{spends_same}
use Rattle.hart_trace.specs.States.{Hart}
use Rattle.timer_trace.specs.declared.timer.Timer.{Timer}
use Rattle.guest_devices.specs.declared.device.Device.{Device}
use Rattle.guest_devices.specs.Kept.{devices_left}
use Rattle.flat_guest.specs.Body.{harts_after, lefts_after, timer_after}
use Rattle.flat_guest.specs.Given.{as_given}
use Rattle.vm_world.specs.Worlds.{pages_of}
use Rattle.vm_world.proofs.Events.{event_made, there_now}
use Rattle.vm_world.proofs.world.World.event.Goals as goal

pub returns-clause-made : goal.returns-clause-made
returns-clause-made c =
    let answered = c.answer-reply.ensures in
    let given = c.give.ensures in
    let actor = c.args.actor in
    event_made c.args.self.now c.give.new.self actor c.args.op (as_given c.args.given) c.route-place.result c.answer-reply.result
    c.requires.want c.requires.given c.route-place.ensures answered.reply
    (ap flat_of given.pages ∙ answered.memory)
    (ap marks_of given.pages ∙ answered.marks)
    (given.board ∙ answered.board)
    (given.ports ∙ answered.ports)
    (given.timer ∙ ap (λ (t : Timer). timer_after actor t c.again.result) answered.timer
    ∙ ap (λ (r : Reply). timer_after actor c.args.self.now.timer r) c.again.ensures)
    (given.harts ∙ ap (λ (hs : List Hart). harts_after actor hs c.again.result) answered.harts
    ∙ ap (λ (r : Reply). harts_after actor c.args.self.now.harts r) c.again.ensures)
    (given.devices ∙ ap (λ (ds : List Device). lefts_after actor (devices_left ds) c.again.result) answered.devices
    ∙ ap (λ (r : Reply). lefts_after actor (devices_left c.args.self.now.devices) r) c.again.ensures)

pub returns-clause-there : goal.returns-clause-there
returns-clause-there c =
    let answered = c.answer-reply.ensures in
    let given = c.give.ensures in
    let actor = c.args.actor in
    there_now c.give.new.self c.args.self.now.timer c.args.self.now.harts (devices_left c.args.self.now.devices) actor c.args.op c.again.result c.requires.want
    (given.timer ∙ ap (λ (t : Timer). timer_after actor t c.again.result) answered.timer)
    (given.harts ∙ ap (λ (hs : List Hart). harts_after actor hs c.again.result) answered.harts)
    (given.devices ∙ ap (λ (ds : List Device). lefts_after actor (devices_left ds) c.again.result) answered.devices)

pub answer-reply-requires-clause-ready : goal.answer-reply-requires-clause-ready
answer-reply-requires-clause-ready c = ap (is_ready (pages_of c.args.self.now)) c.route-place.ensures ∙ c.requires.ready

pub returns-clause-spends : goal.returns-clause-spends
returns-clause-spends c =
    spends_same 1 (pages_of c.args.self.now) (pages_of c.answer-reply.new.self) (pages_of c.give.new.self)
    c.give.ensures.pages c.give.ensures.spare c.answer-reply.ensures.spends
