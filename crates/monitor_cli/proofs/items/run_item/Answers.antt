use Rattle.std.proofs.Common.{ap, ◌∙◌, List, ℕ, ◌++◌}
use Rattle.monitor_cli.proofs.Parts.{took_front}
use Rattle.monitor_cli.proofs.items.run_item.Goals as goal

pub returns-in-Ok-write_all-clause-done : goal.returns-in-Ok-write_all-clause-done
returns-in-Ok-write_all-clause-done g c = record {
  text = c.in-Ok.text;
  goes = c.in-Ok.ensures.goes;
  takes = λ told. c.in-Ok-write_all.ensures.takes told ∙ ap (λ (l : List ℕ). (g.K.Sink.known c.args.sink.now).taken ++ l) c.as_slice.ensures;
}

pub returns-clause-ends : goal.returns-clause-ends
returns-clause-ends g c = record {
  text = c.in-Ok.text;
  goes = c.in-Ok.ensures.goes;
  takes = λ told. took_front c.as_slice.result.now c.in-Ok.text _ _ c.as_slice.ensures (c.in-Err.ensures.takes told);
}
