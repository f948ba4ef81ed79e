use Rattle.std.proofs.Common.{sym, ap, subst, ◌∙◌, List}
use Rattle.api_calls.specs.declared.interface.Interface.{Interface}
use Rattle.vm_config.specs.declared.config.Config.{Config}
use Rattle.vm_config.specs.Interfaces.{put_interface}
use Rattle.flat_machine.specs.Ready.{AreLinked}
use Rattle.monitor_plans.proofs.interface_changes.put_interface.Goals as goal

pub returns-in-Ok-clause-gives : goal.returns-in-Ok-clause-gives
returns-in-Ok-clause-gives c = c.in-Ok.ensures ∙ ap (λ (k : Config). put_interface k.interfaces c.args.interface) c.get.ensures.same

pub returns-in-Ok-clause-keeps : goal.returns-in-Ok-clause-keeps
returns-in-Ok-clause-keeps c = λ world early. (
  subst (λ (interfaces : List Interface). AreLinked c.args.config.now.drives interfaces c.args.config.now.vsock c.args.config.now.balloon c.args.config.now.entropy c.args.config.now.mmds)
      (sym (c.in-Ok.ensures ∙ ap (λ (k : Config). put_interface k.interfaces c.args.interface) c.get.ensures.same)) c.requires,
  early,
  tt,
)
