use Rattle.vm_types.specs.Serial.{OutFits}
use Rattle.stamp_merge.proofs.Legal.{legal_run}
use Rattle.turn_law.proofs.Histories.{history, legal}
use Rattle.turn_law.proofs.law.told_is_run.Goals as goal

pub returns : goal.returns
returns g c = λ route index opening ends start lasts journals v now es followed is noted values told order.
    legal_run g.P.Fed.touch g.A.Actor.wants g.A.Actor.next route OutFits opening ends start lasts journals
    (history g.P.Fed.touch g.P.Fed.value g.P.Fed.made index journals v now is noted told) es
    (legal g.P.Fed.touch g.P.Fed.value g.P.Fed.made index journals v now is noted told g.A.Actor.wants g.A.Actor.next route opening ends start lasts followed values) order
