use Rattle.std.proofs.Common.{length, arith, refl, ap, ◌∙◌, ◌++◌, ◌∷◌}
use Rattle.std.specs.Vec.Iter.{into_iter_items}
use Rattle.slice_runner.specs.declared.worker.DeviceWorker.{DeviceWorker}
use Rattle.slice_runner.specs.Staff.{hart_tracks}
use Rattle.slice_runner.proofs.Staff.{devices_more, fewer_by_one, moved}
use Rattle.slice_runner.proofs.staffing.post.Goals as goal

pub loop-device-preserved : goal.loop-device-preserved
loop-device-preserved g c =
    let l = c.loop-device in
    let h = l.invariant in
    let devices = c.in-Some-next-3.ensures.items in
    let tracks = c.in-Some-next-4.ensures.items in
    let now = c.push_reserved-in-Some-next-3.new.self.items in
    let pushed = c.push_reserved-in-Some-next-3.ensures.items in
    let rest = into_iter_items c.next-in-loop-device.new.self in
    let rest_tracks = into_iter_items c.next-in-Some-next-3.new.self in
    let worker : DeviceWorker g.row.Q.Denot = record { number = l.number; device = c.in-Some-next-3.device; track = c.in-Some-next-4.track } in
    let tail = moved (λ (w : DeviceWorker g.row.Q.Denot). w.track) l.posted.items now worker (into_iter_items l.rest) rest_tracks _ pushed tracks refl in
    record {
      devices = moved (λ (w : DeviceWorker g.row.Q.Denot). w.device) l.posted.items now worker (into_iter_items l.devices) rest _ pushed devices h.devices;
      tracks = ap (λ xs. c.in-Some.track ∷ (hart_tracks c.loop-hart.workers.items ++ xs)) tail ∙ h.tracks;
      tracks_left = omega (arith, h.tracks_left, ap length devices, ap length tracks);
      number = omega (arith, h.number, fewer_by_one _ _ _ pushed);
      numbers = devices_more l.posted.items now worker h.numbers h.number pushed;
      all = omega (arith, h.all, ap length devices);
      room = omega (arith, h.room, ap length devices, c.push_reserved-in-Some-next-3.ensures.len, c.push_reserved-in-Some-next-3.ensures.capacity);
    }
