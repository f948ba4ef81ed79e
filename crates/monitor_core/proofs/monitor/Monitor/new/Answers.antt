use Rattle.monitor_core.proofs.monitor.Monitor.new.Goals as goal

pub returns : goal.returns
returns c = λ known.
    let is = c.new-2.ensures known in
    record { own = record { live = is.own; connection_is = c.in_ok-front.ensures }; files = is.files }
