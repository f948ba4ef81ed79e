-- What doesn't fit isn't kept.
use Rattle.std.proofs.Common.{◌≡◌, false, subst, Option}
use Rattle.block_device.specs.declared.work.BlockStage.{BlockStage}
use Rattle.block_device.specs.Kept.{is_at, working_from}
use Rattle.snap_devices.proofs.Forms.{none_at, work_off}
use Rattle.snap_devices.proofs.form.kept_of.Goals as goal

pub returns-in_default-from_parts-clause-none : goal.returns-in_default-from_parts-clause-none
returns-in_default-from_parts-clause-none c =
    let f = c.args.file in
    let m = c.args.more in
    let is = c.in_default-from_parts.is in
    let made = c.from_parts.ensures in
    let none : Option.None ≡ working_from c.stage_kept-stage.result f.from f.to = cc in
    work_off f m
    (subst (λ (s : BlockStage). is_at s f.from f.to ≡ false) c.stage_kept-stage.ensures
    (none_at c.stage_kept-stage.result f.from f.to none))
