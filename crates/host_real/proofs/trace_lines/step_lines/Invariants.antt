use Rattle.std.proofs.Common.{◌≡◌, ◌++◌, ◌∷◌, [], flat_map}
use Rattle.script_text.specs.Written.{line_of}
use Rattle.serve_host.specs.Tracing.{steps_of}
use Rattle.host_real.proofs.trace_lines.step_lines.Given as goal

abbrev pub invariant-loop-made : goal.invariant-loop-made
invariant-loop-made l = record {
  lines : l.lines.items ≡ flat_map (λ step. line_of step ++ 10 ∷ []) (steps_of l.fn.actor l._made);
}
