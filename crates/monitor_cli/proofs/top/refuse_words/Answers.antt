use Rattle.std.proofs.Common.{◌≡◌, ◌∙◌, ap, sym}
use Rattle.vm_types.specs.declared.exit.Exit.{Exit}
use Rattle.monitor_cli.specs.Command.{refusal_of}
use Rattle.monitor_cli.proofs.Commanding.{refused_by, unbegun_by}
use Rattle.monitor_cli.proofs.top.refuse_words.Goals as goal
use Rattle.monitor_cli.proofs.top.refuse_words.Goals.{in-Usage, in-OutOfMemory}

pub returns-clause-unbegun : goal.returns-clause-unbegun
returns-clause-unbegun g c =
    let is : c.match-why.exit ≡ refusal_of c.args.why =
    elim c.match-why.branch [
      | in-Usage w ↦ w.exit-is ∙ ap refusal_of (sym w.in-Usage.is)
      | in-OutOfMemory w ↦ w.exit-is ∙ ap refusal_of (sym w.in-OutOfMemory.is)
    ] in
    unbegun_by c.args.why c.match-why.exit c.refuse.result _ _ is c.refuse.ensures.ends c.refuse.ensures.unbegun

pub returns-clause-command : goal.returns-clause-command
returns-clause-command g c = λ words none.
    let is : c.match-why.exit ≡ refusal_of c.args.why =
    elim c.match-why.branch [
      | in-Usage w ↦ w.exit-is ∙ ap refusal_of (sym w.in-Usage.is)
      | in-OutOfMemory w ↦ w.exit-is ∙ ap refusal_of (sym w.in-OutOfMemory.is)
    ] in
    refused_by words c.args.why c.refuse.result _ _ (c.refuse.ensures.ends ∙ is) none
    (unbegun_by c.args.why c.match-why.exit c.refuse.result _ _ is c.refuse.ensures.ends c.refuse.ensures.unbegun) c.refuse.ensures.lasts
