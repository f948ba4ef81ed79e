use Rattle.std.proofs.Common.{◌+◌, arith, sym, subst}
use Rattle.monitor_plans.specs.declared.drives.DriveFiles.{DriveFiles}
use Rattle.monitor_plans.proofs.DrivesAsked.{HasAsked, all_asked, limits_there, none_asked, one_asked}
use Rattle.monitor_plans.proofs.drives.drive_files.Goals as goal
use Rattle.monitor_plans.proofs.drives.drive_files.Goals.{in-Some+in_ok-ask, in_default}

pub loop-number-preserved : goal.loop-number-preserved
loop-number-preserved g c =
    let known = g.F.Files.known in
    let before = known c.args.files.now in
    let drives = c.args.drives.now in
    let number = c.loop-number.number in
    let Asked = λ (files : g.row.F.Denot) (found : DriveFiles). HasAsked drives before (known files) found (number + 1) in
    let so_far = c.loop-number.invariant.so_far in
    elim c.match-at_device.branch [
      | in-Some+in_ok-ask w ↦
          let e = w.in_ok-ask.ensures in record {
            so_far = subst (λ (files : g.row.F.Denot). Asked files c.match-at_device.found) (sym w.files-is)
                (subst (λ (found : DriveFiles). Asked w.ask.new.files found) (sym w.found-is)
                (one_asked drives before (known c.loop-number.files) (known w.ask.new.files) c.loop-number.found w.ask.new.self number w.in-Some.drive.now
                so_far w.in-Some.ensures e.drives e.there e.more e.fit e.same e.cause e.lasts));
          }
      | in_default w ↦ record {
        so_far = subst (λ (files : g.row.F.Denot). Asked files c.match-at_device.found) (sym w.files-is)
            (subst (λ (found : DriveFiles). Asked c.loop-number.files found) (sym w.found-is)
            (none_asked drives before (known c.loop-number.files) c.loop-number.found number so_far w.in_default.ensures));
      }
    ]

pub returns-clause-drives : goal.returns-clause-drives
returns-clause-drives g c = λ told.
    (all_asked c.args.drives.now (g.F.Files.known c.args.files.now) (g.F.Files.known c.loop-number.files) c.loop-number.found c.loop-number.number
    c.loop-number.invariant.so_far (omega arith) told).0

pub returns-clause-there : goal.returns-clause-there
returns-clause-there g c = λ told.
    (all_asked c.args.drives.now (g.F.Files.known c.args.files.now) (g.F.Files.known c.loop-number.files) c.loop-number.found c.loop-number.number
    c.loop-number.invariant.so_far (omega arith) told).1

pub returns-clause-many : goal.returns-clause-many
returns-clause-many g c =
    let many = c.loop-number.invariant.so_far.many (omega arith) in
    omega (arith, many)

pub returns-clause-fit : goal.returns-clause-fit
returns-clause-fit g c = c.loop-number.invariant.so_far.fit

pub ask-requires : goal.ask-requires
ask-requires g c = limits_there c.args.drives.now c.loop-number.number c.in-Some.drive.now c.requires c.in-Some.ensures
