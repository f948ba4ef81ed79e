use Rattle.std.proofs.Common.{◌≡◌, ◌∙◌, arith, length, sym, ap, subst}
use Rattle.slice_runner.specs.Blanks.{pool_of}
use Rattle.slice_runner.specs.Opened.{IsOpened, world_of}
use Rattle.slice_runner.specs.Room.{ForCrew, counts_of}
use Rattle.slice_runner.specs.Slices.{acting_of}
use Rattle.slice_runner.proofs.sharing.share.Goals as goal

pub run-requires-clause-room : goal.run-requires-clause-room
run-requires-clause-room g c κs within =
    let blanks = pool_of c.args.steps c.args.parts.pages.items in
    let opened = c.in-Ok.ensures.opened in (
      blanks,
      subst (λ k. ForCrew (counts_of k (acting_of c.args.how (length c.in-Ok.opened.devices.items)) (length c.args.passes.now.items)) c.args.steps blanks c.args.room.crew) (sym (ap length opened.harts))
          (subst (λ k. ForCrew (counts_of (length c.args.parts.harts.items) (acting_of c.args.how k) (length c.args.passes.now.items)) c.args.steps blanks c.args.room.crew) (sym (ap length opened.devices))
          c.requires.room.crew),
    )

pub returns-in-Ok-clause-shared : goal.returns-in-Ok-clause-shared
returns-in-Ok-clause-shared g c =
    let opened = c.in-Ok.ensures.opened in
    let w = world_of c.args.parts in
    let many : c.acting-acting.result ≡ acting_of c.args.how (length c.in-Ok.opened.devices.items) =
    c.acting-acting.ensures ∙ ap (acting_of c.args.how) (omega (arith, c.len.ensures, c.args.parts.devices.ok.0, ap length opened.devices)) in
    c.run.ensures.slice w (subst (λ k. IsOpened w k c.in-Ok.opened) many opened) c.requires.pages c.requires.room.crew.work.filled
