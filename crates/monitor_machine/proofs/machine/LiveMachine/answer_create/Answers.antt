use Rattle.std.proofs.Common.{◌∙◌, ap, subst, sym}
use Rattle.monitor_machine.proofs.Creating.{ended_done, ended_failed, is_unwritten, is_written, same_create, same_part}
use Rattle.monitor_machine.proofs.Standing.{ended_stays}
use Rattle.monitor_machine.specs.Live.{Live}
use Rattle.monitor_machine.specs.Seen.{live_of}
use Rattle.monitor_machine.specs.Telling.{TellsOwn}
use Rattle.monitor_machine.proofs.machine.LiveMachine.answer_create.Goals as goal

pub invariant_of-self : goal.invariant_of-self
invariant_of-self g c =
    ended_stays (live_of c.self.inside) c.create-written.result c.args.creation.identity c.args.creation.next c.end_create.new.ids
    c.end_create.new.guest (c.requires.number ∙ ap (λ (l : Live). l.ids.next) (sym c.self.view_is)) c.requires.next c.end_create.ensures.done
    c.end_create.ensures.failed c.self.invariant

pub invariant_of-self-2 : goal.invariant_of-self-2
invariant_of-self-2 g c =
    ended_stays (live_of c.self.inside) c.create-written.result c.args.creation.identity c.args.creation.next c.end_create.new.ids
    c.end_create.new.guest (c.requires.number ∙ ap (λ (l : Live). l.ids.next) (sym c.self.view_is)) c.requires.next c.end_create.ensures.done
    c.end_create.ensures.failed c.self.invariant

pub returns-clause-ok : goal.returns-clause-ok
returns-clause-ok g c =
    rw (← c.self.view_is)
    (λ request kept due.
    let known = g.F.Files.known in
    is_written c.args.form c.args.creation (live_of c.self.inside)
    (record (live_of c.self.inside) { ids = c.end_create.new.ids; guest = c.end_create.new.guest }) c.in-Some.guest c.args.text.now c.in-Ok.texts.done (known c.args.files.now)
    (known c.create-written.new.files) request kept c.in-Some.is due (subst (λ (l : Live). TellsOwn l) (sym c.self.view_is) c.in-Ok.ensures.tells)
    (ended_done c.args.creation (live_of c.self.inside) _ _ _ _ c.in-Ok-written.is c.end_create.ensures.done) c.in-Ok.ensures.done c.in-Ok-written.ensures.called.kept
    (λ told. same_create _ _ _ _ _ _ _ _ _ _ _ _ c.as_str-2.ensures c.as_slice.ensures c.in-Some-pages_of.ensures.pages c.as_str.ensures
    c.as_slice-2.ensures (c.in-Ok-written.ensures.created told)))

pub returns-in-Err-clause-ok : goal.returns-in-Err-clause-ok
returns-in-Err-clause-ok g c =
    rw (← c.self.view_is)
    (λ request kept due.
    let known = g.F.Files.known in
    is_unwritten c.args.form c.args.creation (live_of c.self.inside) _ c.in-Some.guest c.args.text.now c.in-Ok.texts.failed (known c.args.files.now)
    (known c.create-written.new.files) request kept c.in-Some.is due
    (ended_failed c.args.creation (live_of c.self.inside) _ _ _ _ c.in-Err.is c.end_create.ensures.failed) c.in-Ok.ensures.failed c.in-Err.ensures.called.failed
    (λ told. same_part _ _ _ _ _ _ _ _ _ _ _ _ c.as_str-2.ensures c.as_slice.ensures c.in-Some-pages_of.ensures.pages c.as_str.ensures
    c.as_slice-2.ensures (c.in-Err.ensures.begun told)))
