use Rattle.vm_outside.specs.Crashes.{Images, NoFile}
use Rattle.gate_file.specs.Stages.{calls_of}
use Rattle.gate_file.proofs.Staging.{behind, in_stages, left_then, of_other}
use Rattle.gate_file.proofs.law.any_stage.Goals as goal

pub returns-clause-inside : goal.returns-clause-inside
returns-clause-inside c before name text stages disk settled inside moment =
    in_stages name (Images before) stages text inside settled moment.done moment.rest moment.parts disk
    (left_then NoFile before moment.done disk moment.left)

pub returns-clause-others : goal.returns-clause-others
returns-clause-others c before name text other stages disk differs moment =
    of_other name before other differs stages text disk moment

pub returns-clause-after : goal.returns-clause-after
returns-clause-after c before name text stages settled disk left =
    behind name (Images before) stages text settled disk (left_then NoFile before (calls_of name stages text) disk left)
