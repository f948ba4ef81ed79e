use Rattle.std.proofs.Common.{sym, ap, subst, ◌∙◌, List}
use Rattle.api_calls.specs.declared.call.Drive.{Drive}
use Rattle.vm_config.specs.declared.config.Config.{Config}
use Rattle.vm_config.specs.Drives.{put_drive}
use Rattle.flat_machine.specs.Ready.{AreFitting}
use Rattle.monitor_plans.proofs.drive_changes.put_drive.Goals as goal

pub returns-in-Ok-clause-gives : goal.returns-in-Ok-clause-gives
returns-in-Ok-clause-gives c = c.in-Ok.ensures ∙ ap (λ (k : Config). put_drive k.drives c.args.drive) c.get.ensures.same

pub returns-in-Ok-clause-keeps : goal.returns-in-Ok-clause-keeps
returns-in-Ok-clause-keeps c = λ world early. (
  subst (λ (drives : List Drive). AreFitting drives c.args.config.now.interfaces c.args.config.now.vsock c.args.config.now.balloon c.args.config.now.entropy)
      (sym (c.in-Ok.ensures ∙ ap (λ (k : Config). put_drive k.drives c.args.drive) c.get.ensures.same)) c.requires,
  early,
  tt,
)
