use Rattle.std.proofs.Common.{length, arith, sym, ap, ◌∙◌, ◌++◌, vec_len, vec_capacity}
use Rattle.std.specs.Vec.Iter.{into_iter_items}
use Rattle.slice_runner.specs.Staff.{device_tracks, devices_of, hart_tracks, harts_of}
use Rattle.slice_runner.proofs.Staff.{all_over, none_left}
use Rattle.slice_runner.proofs.staffing.gather.Goals as goal

pub loop-posted-init : goal.loop-posted-init
loop-posted-init g c =
    let l = c.loop-worker in
    let h = l.invariant in
    let none = none_left (into_iter_items l.rest) (omega (arith, c.in_default.ensures.cases.0, l.rest.rest.ok)) in
    let rest = c.into_iter-rest-2.ensures.rest in
    let harts = sym (ap (λ xs. l.home.harts.items ++ harts_of xs) none ∙ all_over l.home.harts.items) ∙ h.harts in
    let tracks = sym (ap (λ xs. l.tracks.items ++ hart_tracks xs) none ∙ all_over l.tracks.items) ∙ h.tracks in
    let kept = ap (λ x. x.devices) h.same in
    record {
      harts = harts;
      devices = λ i. (ap (λ v. v.items) kept ∙ c.requires.devices.0) i ++ devices_of (rest i);
      tracks = λ i. tracks i ++ device_tracks (rest i);
      same = h.same ∙ (λ i. record c.args.home.now { harts = l.home.harts; devices = sym kept i });
      room_devices = omega (arith, ap length rest, ap vec_len kept, ap vec_capacity kept, c.requires.devices.1, ap length c.requires.devices.0, c.args.home.now.devices.ok.0);
      room = omega (arith, h.room, ap length rest, ap length none);
    }

pub returns-clause-tracks : goal.returns-clause-tracks
returns-clause-tracks g c =
    let l = c.loop-posted in
    let none = none_left (into_iter_items l.rest) (omega (arith, c.in_default-next.ensures.cases.0, l.rest.rest.ok)) in
    sym (ap (λ xs. l.tracks.items ++ device_tracks xs) none ∙ all_over l.tracks.items) ∙ l.invariant.tracks

pub returns-clause-devices : goal.returns-clause-devices
returns-clause-devices g c =
    let l = c.loop-posted in
    let none = none_left (into_iter_items l.rest) (omega (arith, c.in_default-next.ensures.cases.0, l.rest.rest.ok)) in
    sym (ap (λ xs. l.home.devices.items ++ devices_of xs) none ∙ all_over l.home.devices.items) ∙ l.invariant.devices
