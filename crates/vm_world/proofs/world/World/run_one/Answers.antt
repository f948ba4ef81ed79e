use Rattle.std.proofs.Common.{◌≡◌, ◌<◌, ◌∙◌, Some, ap, arith, length, slice_get, subst, sym}
use Rattle.std.proofs.lemmas.Option.{slice_get-get_or}
use Rattle.guest_pages.specs.Made.{HasRoom}
use Rattle.hart_trace.specs.States.{Hart}
use Rattle.vm_world.specs.Worlds.{IsWorld, WorldValue, pages_of}
use Rattle.vm_world.proofs.world.World.run_one.Goals as goal

pub run_hart-requires-clause-room : goal.run_hart-requires-clause-room
run_hart-requires-clause-room c = subst (λ (w : WorldValue). HasRoom c.args.count (pages_of w)) (sym c.self.view_is) c.requires.room

pub returns : goal.returns
returns c = λ g is.
    let w = c.self.inside in
    let hart = c.index_mut.result.now in
    let below : c.args.number < length w.harts.items = omega (arith, c.if-at-len.false, c.len.ensures) in
    let here : slice_get w.harts.items c.args.number ≡ Some hart =
    slice_get-get_or w.harts.items c.args.number hart below ∙ ap (λ (h : Hart). Some h) (sym c.index_mut.ensures.value) in
    c.run_hart.ensures.runs w.timer w.harts.items w.devices.items here g (subst (λ (v : WorldValue). IsWorld v g) (sym c.self.view_is) is)
