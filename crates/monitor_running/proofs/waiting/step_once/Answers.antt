use Rattle.std.proofs.Common.{sym, subst, List, ◌∷◌, ◌++◌, []}
use Rattle.vm_types.specs.declared.entry.Entry.{Entry}
use Rattle.guest_pages.specs.Made.{Spends}
use Rattle.guest_pages.proofs.Making.{no_spends, room_ready}
use Rattle.flat_guest.specs.Given.{as_given}
use Rattle.vm_world.specs.Worlds.{WorldValue, pages_of, place_in}
use Rattle.monitor_running.specs.Waiting.{HasGone, HasMade}
use Rattle.monitor_running.proofs.Going.{gone_more, gone_still}
use Rattle.monitor_running.proofs.Making.{made_more, never_refused}
use Rattle.monitor_running.proofs.waiting.step_once.Goals as goal

pub returns-in-Ok-clause-gone : goal.returns-in-Ok-clause-gone
returns-in-Ok-clause-gone g c = λ first asked gone.
    subst (λ (es : List Entry). HasGone es first c.step_with.new.self asked (g.C.Clock.known c.ask_clock-given.new.clock))
    (sym c.push_reserved.ensures.items)
    (gone_more first c.args.world.now asked (g.C.Clock.known c.args.clock.now) (g.C.Clock.known c.ask_clock-given.new.clock)
    c.args.events.now.items c.args.actor c.in-Some.op c.ask_clock-given.result c.in-Some.ensures.wants c.ask_clock-given.ensures
    gone c.step_with.new.self c.in-Ok.entry c.in-Ok.ensures.made)

pub returns-in-Ok-clause-made : goal.returns-in-Ok-clause-made
returns-in-Ok-clause-made g c = λ first actors there made.
    subst (λ (es : List Entry). HasMade (actors ++ c.args.actor ∷ []) es first c.step_with.new.self) (sym c.push_reserved.ensures.items)
    (made_more first c.args.world.now actors c.args.actor c.args.events.now.items there made (as_given c.ask_clock-given.result)
    c.step_with.new.self c.in-Ok.entry c.in-Ok.ensures.made)

pub returns-in-Err-clause-made : goal.returns-in-Err-clause-made
returns-in-Err-clause-made g c = λ first actors there made.
    never_refused first c.args.world.now actors c.args.actor c.args.events.now.items there made c.in-Some.op
    c.ask_clock-given.result (g.C.Clock.known c.args.clock.now) (g.C.Clock.known c.ask_clock-given.new.clock)
    c.in-Some.ensures.wants c.ask_clock-given.ensures
    (λ h is wants none.
    let no =
    c.in-Err.ensures.promised h c.in-Some.op is wants none
    (room_ready (pages_of c.args.world.now) (place_in c.args.world.now c.in-Some.op) c.requires.room) in cc) c.step_with.new.self _

pub returns-in-Err-clause-gone : goal.returns-in-Err-clause-gone
returns-in-Err-clause-gone g c = λ first asked gone.
    gone_still first c.args.world.now asked (g.C.Clock.known c.args.clock.now) (g.C.Clock.known c.ask_clock-given.new.clock)
    c.args.events.now.items c.args.actor c.in-Some.op c.ask_clock-given.result c.in-Some.ensures.wants c.ask_clock-given.ensures
    gone c.step_with.new.self c.in-Err.ensures.err
    (λ h is none.
    let no =
    c.in-Err.ensures.promised h c.in-Some.op is (c.in-Some.ensures.wants h is) none
    (room_ready (pages_of c.args.world.now) (place_in c.args.world.now c.in-Some.op) c.requires.room) in cc)

pub returns-in_default-clause-spends : goal.returns-in_default-clause-spends
returns-in_default-clause-spends g c = no_spends 1 (pages_of c.args.world.now)

pub returns-in-Err-clause-spends : goal.returns-in-Err-clause-spends
returns-in-Err-clause-spends g c =
    subst (λ (w : WorldValue). Spends 1 (pages_of c.args.world.now) (pages_of w)) (sym c.in-Err.ensures.err)
    (no_spends 1 (pages_of c.args.world.now))

pub step_with-requires : goal.step_with-requires
step_with-requires g c = sym c.in-Some.ensures.state
