use Rattle.turn_law.proofs.Histories.{stamped}
use Rattle.turn_law.proofs.law.told_is_stamped.Goals as goal

pub returns : goal.returns
returns g c = λ index journals v now es stamps is noted told order.
    stamped g.P.Fed.touch g.P.Fed.value g.P.Fed.made index journals v now is noted told es stamps order
