use Rattle.std.proofs.Common.{◌≡◌, ℕ, ◌+◌, ◌*◌, ◌≤◌, ◌++◌, All, length, vec_capacity, sym, ap, ◌∙◌, subst, arith, le_trans}
use Rattle.std.proofs.lemmas.List.{length-append}
use Rattle.stamp_merge.specs.Journals.{all_of}
use Rattle.stamp_merge.specs.Merged.{journals_of}
use Rattle.stamp_merge.specs.Order.{IsOrder}
use Rattle.turn_work.specs.Work.{HasNoted}
use Rattle.machine_places.specs.Laid.{index_among}
use Rattle.vm_world.specs.Worlds.{world_with}
use Rattle.slice_runner.specs.Blanks.{pool_of}
use Rattle.slice_runner.specs.Room.{ForWork, IsHome}
use Rattle.slice_runner.specs.Slices.{IsSlice, acting_of}
use Rattle.slice_runner.specs.Staff.{AreBack, AreHired, AreSeated, tracks_of}
use Rattle.slice_runner.proofs.Ending.{long_map}
use Rattle.slice_runner.proofs.Joined.{after_long, after_seated, all_bound, all_many, all_served, as_many, devices_ready, harts_ready, left_served, timer_ready, tracks_long}
use Rattle.slice_runner.proofs.Shared.{done, left}
use Rattle.slice_runner.proofs.Whole.{devices_long}
use Rattle.slice_runner.proofs.sharing.Opened.run.Goals as goal

pub hire-hired-requires-clause-seat : goal.hire-hired-requires-clause-seat
hire-hired-requires-clause-seat g c = c.requires.opened.1.seat

pub hire-hired-requires-clause-parts : goal.hire-hired-requires-clause-parts
hire-hired-requires-clause-parts g c =
    omega (arith, c.requires.opened.1.parts, c.len-count.ensures, c.args.self.harts.ok.0, c.acting.ensures, ap (acting_of c.args.how) c.len.ensures, ap (acting_of c.args.how) c.args.self.devices.ok.0)

pub hire-hired-requires-clause-passes : goal.hire-hired-requires-clause-passes
hire-hired-requires-clause-passes g c =
    omega (arith, c.requires.passes, ap (λ v. length v.items) c.replace-given.ensures.value, c.len-count.ensures, c.args.self.harts.ok.0, c.acting.ensures, ap (acting_of c.args.how) c.len.ensures, ap (acting_of c.args.how) c.args.self.devices.ok.0)

pub hire-hired-requires-clause-room : goal.hire-hired-requires-clause-room
hire-hired-requires-clause-room g c =
    let many : length c.args.self.harts.items + (acting_of c.args.how (length c.args.self.devices.items) + 1) ≡ c.len-count.result + (c.acting.result + 1) =
    omega (arith, c.len-count.ensures, c.args.self.harts.ok.0, c.acting.ensures, ap (acting_of c.args.how) c.len.ensures, ap (acting_of c.args.how) c.args.self.devices.ok.0) in (
      c.requires.room.0,
      subst (λ k. ForWork k (length c.replace-given.result.items) c.requires.room.0 c.args.room.work) many
          (subst (λ v. ForWork (length c.args.self.harts.items + (acting_of c.args.how (length c.args.self.devices.items) + 1)) (length v.items) c.requires.room.0 c.args.room.work) (sym c.replace-given.ensures.value) c.requires.room.1.work),
    )

pub run_all-requires-clause-timer : goal.run_all-requires-clause-timer
run_all-requires-clause-timer g c κs within =
    let serves = g.G.Gate.serves c.args.gate.now in
    let tracks = c.post-crew.ensures.tracks_are in
    timer_ready serves c.args.self.places c.args.self.seat.me.0.round c.args.steps c.requires.room.0 c.len-count.result _ c.post-crew.result.timer c.post-crew.result.workers.items c.post-crew.result.devices.items _
    (subst (λ ts. AreHired c.args.steps c.requires.room.0 c.len-count.result c.replace-given.result.items ts c.hire-hired.result.left.items) (sym tracks) (c.hire-hired.ensures.hired c.args.steps c.requires.room.0 c.requires.room.1.entries c.requires.room.1.work.filled))
    (subst (AreSeated c.args.self.places c.args.self.seat.me.0.round) (sym tracks) c.hire-hired.ensures.seated)
    (subst (λ v. All serves v.items) (sym c.replace-given.ensures.value) c.requires.serve)

pub run_all-requires-clause-harts : goal.run_all-requires-clause-harts
run_all-requires-clause-harts g c κs within =
    let serves = g.G.Gate.serves c.args.gate.now in
    let tracks = c.post-crew.ensures.tracks_are in
    harts_ready serves c.args.self.places c.args.self.seat.me.0.round c.args.steps c.requires.room.0 c.len-count.result _ c.post-crew.result.timer c.post-crew.result.workers.items c.post-crew.result.devices.items _
    (subst (λ ts. AreHired c.args.steps c.requires.room.0 c.len-count.result c.replace-given.result.items ts c.hire-hired.result.left.items) (sym tracks) (c.hire-hired.ensures.hired c.args.steps c.requires.room.0 c.requires.room.1.entries c.requires.room.1.work.filled))
    (subst (AreSeated c.args.self.places c.args.self.seat.me.0.round) (sym tracks) c.hire-hired.ensures.seated)
    (subst (λ v. All serves v.items) (sym c.replace-given.ensures.value) c.requires.serve)

pub run_all-requires-clause-devices : goal.run_all-requires-clause-devices
run_all-requires-clause-devices g c κs within =
    let serves = g.G.Gate.serves c.args.gate.now in
    let tracks = c.post-crew.ensures.tracks_are in
    devices_ready serves c.args.self.places c.args.self.seat.me.0.round c.args.steps c.requires.room.0 c.len-count.result _ c.post-crew.result.timer c.post-crew.result.workers.items c.post-crew.result.devices.items _
    (subst (λ ts. AreHired c.args.steps c.requires.room.0 c.len-count.result c.replace-given.result.items ts c.hire-hired.result.left.items) (sym tracks) (c.hire-hired.ensures.hired c.args.steps c.requires.room.0 c.requires.room.1.entries c.requires.room.1.work.filled))
    (subst (AreSeated c.args.self.places c.args.self.seat.me.0.round) (sym tracks) c.hire-hired.ensures.seated)
    (subst (λ v. All serves v.items) (sym c.replace-given.ensures.value) c.requires.serve)

pub gather-gathered-requires-clause-room : goal.gather-gathered-requires-clause-room
gather-gathered-requires-clause-room g c =
    let serves = g.G.Gate.serves c.args.gate.now in
    let vs = c.run_all.new.harts.items in
    let es = c.run_all.new.devices.items in
    let long = after_long serves g.G.Gate.tally g.O.DeviceObjects.Answers c.args.self.places c.args.steps _ _ _ _ _ _ _ vs _ es c.run_all.ensures.beside c.run_all.ensures.harts in
    omega (arith, long, tracks_long c.run_all.new.timer vs es, ap length c.post-crew.ensures.tracks_are, c.hire-hired.ensures.many, c.len-count.ensures, c.args.self.harts.ok.0, c.acting.ensures, ap (acting_of c.args.how) c.len.ensures, ap (acting_of c.args.how) c.args.self.devices.ok.0, c.requires.room.1.posts.for_tracks)

pub gather-gathered-requires-clause-harts : goal.gather-gathered-requires-clause-harts
gather-gathered-requires-clause-harts g c = (
  c.requires.room.1.home.no_harts,
  omega (arith, c.run_all.ensures.harts.same, long_map (λ w. w.hart) c.post-crew.result.workers.items, ap length c.post-crew.ensures.harts_are, c.requires.room.1.home.for_harts),
)

pub gather-gathered-requires-clause-devices : goal.gather-gathered-requires-clause-devices
gather-gathered-requires-clause-devices g c =
    let serves = g.G.Gate.serves c.args.gate.now in
    let long = devices_long serves g.G.Gate.tally g.O.DeviceObjects.Answers c.args.self.places c.args.steps _ _ _ _ c.run_all.ensures.beside.devices in (
      c.requires.room.1.home.no_devices,
      omega (arith, long, long_map (λ d. d.device) c.post-crew.result.devices.items, ap length c.post-crew.ensures.devices_are, c.part-parted.ensures.acting, c.requires.room.1.home.for_devices),
    )

pub dismiss-requires-clause-seated : goal.dismiss-requires-clause-seated
dismiss-requires-clause-seated g c =
    let serves = g.G.Gate.serves c.args.gate.now in
    let crew = c.post-crew.result in
    let round = c.args.self.seat.me.0.round in
    let before = subst (AreSeated c.args.self.places round) (sym c.post-crew.ensures.tracks_are) c.hire-hired.ensures.seated in
    let after = after_seated serves g.G.Gate.tally g.O.DeviceObjects.Answers c.args.self.places c.args.steps _ _ _ _ crew.timer c.run_all.new.timer crew.workers.items c.run_all.new.harts.items crew.devices.items c.run_all.new.devices.items c.run_all.ensures.beside c.run_all.ensures.harts round before in
    subst (λ r. AreSeated c.args.self.places r c.gather-gathered.result.1.items) (sym c.hire-hired.ensures.round)
    (subst (AreSeated c.args.self.places round) (sym c.gather-gathered.ensures.tracks) after)

pub dismiss-requires-clause-empty : goal.dismiss-requires-clause-empty
dismiss-requires-clause-empty g c = ap (λ v. v.items) c.replace-given.ensures.after ∙ c.requires.room.1.no_passes

pub dismiss-requires-clause-passes : goal.dismiss-requires-clause-passes
dismiss-requires-clause-passes g c =
    let serves = g.G.Gate.serves c.args.gate.now in
    let crew = c.post-crew.result in
    let blanks = c.requires.room.0 in
    let tracks = c.post-crew.ensures.tracks_are in
    let hired = subst (λ ts. AreHired c.args.steps blanks c.len-count.result c.replace-given.result.items ts c.hire-hired.result.left.items) (sym tracks) (c.hire-hired.ensures.hired c.args.steps blanks c.requires.room.1.entries c.requires.room.1.work.filled) in
    let seated = subst (AreSeated c.args.self.places c.args.self.seat.me.0.round) (sym tracks) c.hire-hired.ensures.seated in
    let served = subst (λ v. All serves v.items) (sym c.replace-given.ensures.value) c.requires.serve in
    let many = as_many serves c.args.self.places c.args.self.seat.me.0.round c.args.steps blanks c.len-count.result _ crew.timer crew.workers.items crew.devices.items _ hired seated served in
    let long = after_long serves g.G.Gate.tally g.O.DeviceObjects.Answers c.args.self.places c.args.steps _ _ _ _ _ _ _ _ _ _ c.run_all.ensures.beside c.run_all.ensures.harts in
    omega (arith, many, long, ap length c.gather-gathered.ensures.tracks, ap (λ v. length v.items) c.replace-given.ensures.value, ap vec_capacity c.replace-given.ensures.after, c.requires.room.1.for_passes)

pub dismiss-requires-clause-home : goal.dismiss-requires-clause-home
dismiss-requires-clause-home g c =
    let serves = g.G.Gate.serves c.args.gate.now in
    let long = after_long serves g.G.Gate.tally g.O.DeviceObjects.Answers c.args.self.places c.args.steps _ _ _ _ _ _ _ _ _ _ c.run_all.ensures.beside c.run_all.ensures.harts in
    let many : length c.args.self.harts.items + (acting_of c.args.how (length c.args.self.devices.items) + 1) ≡ length c.gather-gathered.result.1.items =
    omega (arith, long, ap length c.gather-gathered.ensures.tracks, ap length c.post-crew.ensures.tracks_are, c.hire-hired.ensures.many, c.len-count.ensures, c.args.self.harts.ok.0, c.acting.ensures, ap (acting_of c.args.how) c.len.ensures, ap (acting_of c.args.how) c.args.self.devices.ok.0) in
    let done : IsHome (length c.gather-gathered.result.1.items) c.args.room.home = subst (λ k. IsHome k c.args.room.home) many c.requires.room.1.home.done in
    subst (λ h. IsHome (length c.gather-gathered.result.1.items) h) (sym c.gather-gathered.ensures.others)
    (record {
      no_journals = done.no_journals;
      for_journals = done.for_journals;
      no_stops = done.no_stops;
      for_stops = done.for_stops;
      no_pools = done.no_pools;
      for_pools = done.for_pools;
    })

pub close-requires-clause-whole : goal.close-requires-clause-whole
close-requires-clause-whole g c =
    let serves = g.G.Gate.serves c.args.gate.now in
    let long = after_long serves g.G.Gate.tally g.O.DeviceObjects.Answers c.args.self.places c.args.steps _ _ _ _ _ _ _ _ _ _ c.run_all.ensures.beside c.run_all.ensures.harts in
    omega (arith, c.dismiss.ensures.parts, c.hire-hired.ensures.parts, c.hire-hired.ensures.many, long, ap length c.gather-gathered.ensures.tracks, ap length c.post-crew.ensures.tracks_are, c.requires.opened.1.all)

pub take_all-board-requires-clause-all : goal.take_all-board-requires-clause-all
take_all-board-requires-clause-all g c =
    let w = c.requires.opened.0 in
    let o = c.requires.opened.1 in
    let noted = c.dismiss.ensures.noted in
    let told = left w c.args.self.seat.me.0.round c.dismiss.new.seat.me.0 c.close.result.items o.laid (noted.round_is ∙ c.hire-hired.ensures.round) c.close.ensures.count c.close.ensures.told in
    (told.of_pages, told.of_ports, told.of_board, told.are, omega (arith, told.pages_many, o.for_pages), omega (arith, told.ports_many, o.for_ports))

pub merge-requires-clause-room : goal.merge-requires-clause-room
merge-requires-clause-room g c =
    let serves = g.G.Gate.serves c.args.gate.now in
    let js = c.dismiss.new.home.journals.items in
    let n = c.args.steps in
    let back = subst (λ ts. AreBack ts c.hire-hired.result.left.items c.dismiss.new.passes.items js c.dismiss.new.home.stops.items) c.gather-gathered.ensures.tracks c.dismiss.ensures.back in
    let bound = all_bound serves g.G.Gate.tally g.O.DeviceObjects.Answers c.args.self.places n _ _ _ _ _ _ _ _ _ _ c.run_all.ensures.beside c.run_all.ensures.harts _ _ _ _ back in
    let long = after_long serves g.G.Gate.tally g.O.DeviceObjects.Answers c.args.self.places n _ _ _ _ _ _ _ _ _ _ c.run_all.ensures.beside c.run_all.ensures.harts in
    let many : length (tracks_of c.run_all.new.timer c.run_all.new.harts.items c.run_all.new.devices.items) ≡ length c.args.self.harts.items + (acting_of c.args.how (length c.args.self.devices.items) + 1) =
    omega (arith, long, ap length c.post-crew.ensures.tracks_are, c.hire-hired.ensures.many, c.len-count.ensures, c.args.self.harts.ok.0, c.acting.ensures, ap (acting_of c.args.how) c.len.ensures, ap (acting_of c.args.how) c.args.self.devices.ok.0) in
    subst (λ l. length (all_of (journals_of l)) ≤ vec_capacity c.args.room.events) (sym c.as_slice.ensures.value)
    (le_trans (subst (λ (k : ℕ). length (all_of (journals_of js)) ≤ k * n) many bound) c.requires.room.1.for_events)

pub rejoin-devices-requires : goal.rejoin-devices-requires
rejoin-devices-requires g c =
    let serves = g.G.Gate.serves c.args.gate.now in
    let long = devices_long serves g.G.Gate.tally g.O.DeviceObjects.Answers c.args.self.places c.args.steps _ _ _ _ c.run_all.ensures.beside.devices in
    let es = c.run_all.new.devices.items in
    let acted : length c.dismiss.new.home.devices.items ≡ length c.part-parted.result.0.items =
    omega (arith, ap (λ v. length v.items) c.dismiss.ensures.others.1, ap length c.gather-gathered.ensures.devices, long_map (λ d. d.device) es, long, long_map (λ d. d.device) c.post-crew.result.devices.items, ap length c.post-crew.ensures.devices_are) in
    let all : length c.args.self.devices.items ≡ length c.dismiss.new.home.devices.items + length c.part-parted.result.1.items =
    omega (arith, acted, ap length c.part-parted.ensures.both, length-append c.part-parted.result.0.items c.part-parted.result.1.items) in
    acted ∙ c.part-parted.ensures.acting ∙ ap (acting_of c.args.how) all

pub returns-clause-serve : goal.returns-clause-serve
returns-clause-serve g c =
    let serves = g.G.Gate.serves c.args.gate.now in
    let crew = c.post-crew.result in
    let blanks = c.requires.room.0 in
    let tracks = c.post-crew.ensures.tracks_are in
    let hired = subst (λ ts. AreHired c.args.steps blanks c.len-count.result c.replace-given.result.items ts c.hire-hired.result.left.items) (sym tracks) (c.hire-hired.ensures.hired c.args.steps blanks c.requires.room.1.entries c.requires.room.1.work.filled) in
    let seated = subst (AreSeated c.args.self.places c.args.self.seat.me.0.round) (sym tracks) c.hire-hired.ensures.seated in
    let served = subst (λ v. All serves v.items) (sym c.replace-given.ensures.value) c.requires.serve in
    let back = subst (λ ts. AreBack ts c.hire-hired.result.left.items c.dismiss.new.passes.items c.dismiss.new.home.journals.items c.dismiss.new.home.stops.items) c.gather-gathered.ensures.tracks c.dismiss.ensures.back in
    all_served serves g.G.Gate.tally g.O.DeviceObjects.Answers c.args.self.places c.args.steps _ _ _ _ _ _ _ _ _ _ c.run_all.ensures.beside c.run_all.ensures.harts _ _ _ _ back
    (left_served serves c.args.self.places c.args.self.seat.me.0.round c.args.steps blanks c.len-count.result _ crew.timer crew.workers.items crew.devices.items _ hired seated served)

pub returns-clause-same : goal.returns-clause-same
returns-clause-same g c =
    let serves = g.G.Gate.serves c.args.gate.now in
    let crew = c.post-crew.result in
    let blanks = c.requires.room.0 in
    let tracks = c.post-crew.ensures.tracks_are in
    let hired = subst (λ ts. AreHired c.args.steps blanks c.len-count.result c.replace-given.result.items ts c.hire-hired.result.left.items) (sym tracks) (c.hire-hired.ensures.hired c.args.steps blanks c.requires.room.1.entries c.requires.room.1.work.filled) in
    let seated = subst (AreSeated c.args.self.places c.args.self.seat.me.0.round) (sym tracks) c.hire-hired.ensures.seated in
    let served = subst (λ v. All serves v.items) (sym c.replace-given.ensures.value) c.requires.serve in
    let back = subst (λ ts. AreBack ts c.hire-hired.result.left.items c.dismiss.new.passes.items c.dismiss.new.home.journals.items c.dismiss.new.home.stops.items) c.gather-gathered.ensures.tracks c.dismiss.ensures.back in
    all_many serves g.G.Gate.tally g.O.DeviceObjects.Answers c.args.self.places c.args.steps _ _ _ _ _ _ _ _ _ _ c.run_all.ensures.beside c.run_all.ensures.harts _ _ _ _ back
    ∙ as_many serves c.args.self.places c.args.self.seat.me.0.round c.args.steps blanks c.len-count.result _ crew.timer crew.workers.items crew.devices.items _ hired seated served
    ∙ ap (λ v. length v.items) c.replace-given.ensures.value

pub returns-clause-slice : goal.returns-clause-slice
returns-clause-slice g c = λ w o are filled.
    let serves = g.G.Gate.serves c.args.gate.now in
    let tally = g.G.Gate.tally in
    let Answers = g.O.DeviceObjects.Answers in
    let n = c.args.steps in
    let asked = g.C.Clock.known c.args.clock.now in
    let now = g.C.Clock.known c.run_all.new.clock in
    let known = g.O.DeviceObjects.known c.args.objects.now in
    let later = g.O.DeviceObjects.known c.run_all.new.objects in
    let places = c.args.self.places in
    let crew = c.post-crew.result in
    let t = c.run_all.new.timer in
    let vs = c.run_all.new.harts.items in
    let es = c.run_all.new.devices.items in
    let resting = c.part-parted.result.1.items in
    let over = c.hire-hired.result.left.items in
    let left_seat = c.dismiss.new.seat in
    let home = c.dismiss.new.home in
    let did = c.dismiss.ensures in
    let posted = c.post-crew.ensures in
    let r = c.args.self.seat.me.0.round in
    let round = did.noted.round_is ∙ c.hire-hired.ensures.round in
    let told = left w r left_seat.me.0 c.close.result.items o.laid round c.close.ensures.count c.close.ensures.told in
    let took = c.take_all-board.ensures.all told.of_pages told.of_ports told.of_board told.are in
    let hired = c.hire-hired.ensures.hired n (pool_of n w.pages) c.requires.room.1.entries filled in
    let count : c.len-count.result ≡ length w.harts = omega (arith, c.len-count.ensures, c.args.self.harts.ok.0, ap length o.harts) in
    let given = subst (λ v. AreHired n (pool_of n w.pages) c.len-count.result v.items c.hire-hired.result.tracks.items over) c.replace-given.ensures.value hired in
    let hired_in = subst (λ k. AreHired n (pool_of n w.pages) k c.args.passes.now.items (tracks_of crew.timer crew.workers.items crew.devices.items) over) count
    (subst (λ ts. AreHired n (pool_of n w.pages) c.len-count.result c.args.passes.now.items ts over) (sym posted.tracks_are) given) in
    let noted = subst (λ s. HasNoted s (index_among places.layout) left_seat.me.0 (all_of (journals_of home.journals.items))) c.hire-hired.ensures.round did.noted in
    let back = subst (λ ts. AreBack ts over c.dismiss.new.passes.items home.journals.items home.stops.items) c.gather-gathered.ensures.tracks did.back in
    let harts_now = ap (λ v. v.items) did.others.0 ∙ c.gather-gathered.ensures.harts in
    let devices_now = c.rejoin-devices.ensures ∙ ap (λ l. l ++ resting) (ap (λ v. v.items) did.others.1 ∙ c.gather-gathered.ensures.devices) in
    let devices_are = ap (λ l. l ++ resting) posted.devices_are ∙ c.part-parted.ensures.both ∙ o.devices in
    let slice = done w r left_seat.me.0 c.close.result.items o.laid round c.close.ensures.count c.close.ensures.told serves tally Answers n asked now known later places crew.timer t crew.workers.items vs crew.devices.items es resting over c.args.passes.now.items c.dismiss.new.passes.items
    c.take_all-board.new.pages.items c.take_all-board.new.ports.items c.take_all-board.result home.harts.items c.rejoin-devices.result.items home.journals.items home.stops.items c.merge.new.out.items
    are o.layout o.made hired_in (posted.timer_is ∙ o.timer) (posted.harts_are ∙ o.harts) devices_are posted.numbers c.run_all.ensures.beside c.run_all.ensures.harts harts_now devices_now back noted took (subst (λ l. IsOrder (all_of (journals_of l)) c.merge.new.out.items) c.as_slice.ensures.value c.merge.ensures) in
    let acted : length crew.devices.items ≡ acting_of c.args.how (length w.devices) =
    sym (long_map (λ d. d.device) crew.devices.items) ∙ ap length posted.devices_are ∙ c.part-parted.ensures.acting ∙ ap (acting_of c.args.how) (ap length o.devices) in
    subst (λ k. IsSlice tally Answers n k asked now known later w c.merge.new.out.items (world_with c.take_all-board.new.pages.items c.take_all-board.result c.take_all-board.new.ports.items c.gather-gathered.result.0 home.harts.items c.rejoin-devices.result.items) home.stops.items c.args.passes.now.items c.dismiss.new.passes.items) acted
    (subst (λ u. IsSlice tally Answers n (length crew.devices.items) asked now known later w c.merge.new.out.items (world_with c.take_all-board.new.pages.items c.take_all-board.result c.take_all-board.new.ports.items u home.harts.items c.rejoin-devices.result.items) home.stops.items c.args.passes.now.items c.dismiss.new.passes.items) (sym c.gather-gathered.ensures.timer) slice)
