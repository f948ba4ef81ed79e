use Rattle.std.proofs.Common.{◌≡◌, ◌<◌, ◌+◌, suc, ℕ, get_or, length, slice_set, arith, refl, sym, ◌∙◌, subst}
use Rattle.std.proofs.lemmas.List.{length-set}
use Rattle.slice_runner.specs.declared.worker.DeviceWorker.{DeviceWorker}
use Rattle.slice_runner.specs.Ends.{DeviceEnds, IsReady}
use Rattle.slice_runner.proofs.Doing.{HaveWorked, all_at, as_before, worked_more}
use Rattle.slice_runner.proofs.running.run_devices.Goals as goal

pub run_device-requires : goal.run_device-requires
run_device-requires g c =
    let serves = g.G.Gate.serves c.args.gate.now in
    let l = c.loop-number in
    let d = c.index_mut.result.now in
    let old = c.args.devices.now.items in
    let lt : l.number < length old = omega (arith, c.loop-number-test.true, c.len-number-end.ensures, c.args.devices.now.ok.0) in
    let same : d ≡ get_or old l.number d =
    c.index_mut.ensures.value ∙ as_before serves g.G.Gate.tally g.O.DeviceObjects.Answers c.args.places.now c.args.n (g.O.DeviceObjects.known c.args.objects.now) (g.O.DeviceObjects.known l.objects) l.number old l.devices.items d l.invariant in
    record {
      ready = subst (λ (x : DeviceWorker g.row.Q.Denot). IsReady serves c.args.places.now c.args.n x.track) (sym same)
          (all_at (λ (x : DeviceWorker g.row.Q.Denot). IsReady serves c.args.places.now c.args.n x.track) old l.number d lt c.requires.ready);
    }

pub loop-number-preserved : goal.loop-number-preserved
loop-number-preserved g c =
    let serves = g.G.Gate.serves c.args.gate.now in
    let tally = g.G.Gate.tally in
    let Answers = g.O.DeviceObjects.Answers in
    let known = g.O.DeviceObjects.known c.args.objects.now in
    let left = g.O.DeviceObjects.known c.run_device.new.objects in
    let l = c.loop-number in
    let mid = g.O.DeviceObjects.known l.objects in
    let d = c.index_mut.result.now in
    let v = c.run_device.new.device in
    let old = c.args.devices.now.items in
    let next = slice_set l.devices.items l.number v in
    let lt : l.number < length old = omega (arith, c.loop-number-test.true, c.len-number-end.ensures, c.args.devices.now.ok.0) in
    let e : suc l.number ≡ l.number + 1 = omega arith in
    subst (λ (k : ℕ). HaveWorked serves tally Answers c.args.places.now c.args.n known left k old next) e
    (worked_more serves tally Answers c.args.places.now c.args.n known mid left l.number old l.devices.items next v d lt l.invariant
    (subst (λ (x : DeviceWorker g.row.Q.Denot). DeviceEnds serves tally Answers c.args.places.now c.args.n mid left x v) c.index_mut.ensures.value c.run_device.ensures)
    refl (length-set l.devices.items l.number v))
