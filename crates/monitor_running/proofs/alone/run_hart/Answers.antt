use Rattle.std.proofs.Common.{◌+◌, ℕ, None, sym, subst, arith}
use Rattle.monitor_running.specs.Alone.{HasRun}
use Rattle.monitor_running.proofs.Lone.{run_more, run_same, run_to_reserved}
use Rattle.monitor_running.proofs.Passing.{passed_on}
use Rattle.monitor_running.proofs.alone.run_hart.Goals as goal

pub returns-then-count-next-clause-run : goal.returns-then-count-next-clause-run
returns-then-count-next-clause-run g c =
    subst (λ (n : ℕ). HasRun c.args.turn.hart (c.loop-made.made + n) c.args.world.now c.run.new.self) (sym c.min-made.ensures)
    (run_more c.args.turn.hart c.loop-made.made c.at_once-next.result c.in-Ok-run.count c.args.world.now c.reserve.new.self
    c.run.new.self (run_to_reserved c.args.turn.hart c.loop-made.made c.args.world.now c.loop-made.world c.reserve.new.self c.reserve.ensures.ok c.loop-made.invariant.run) c.in-Ok-run.ensures.made)

pub returns-then-not-looks_open-clause-run : goal.returns-then-not-looks_open-clause-run
returns-then-not-looks_open-clause-run g c =
    subst (λ (n : ℕ). HasRun c.args.turn.hart (c.loop-made.made + n) c.args.world.now c.run.new.self) (sym c.min-made.ensures)
    (run_more c.args.turn.hart c.loop-made.made c.at_once-next.result c.in-Ok-run.count c.args.world.now c.reserve.new.self
    c.run.new.self (run_to_reserved c.args.turn.hart c.loop-made.made c.args.world.now c.loop-made.world c.reserve.new.self c.reserve.ensures.ok c.loop-made.invariant.run) c.in-Ok-run.ensures.made)

pub returns-then-not-looks_open-clause-passes : goal.returns-then-not-looks_open-clause-passes
returns-then-not-looks_open-clause-passes g c =
    passed_on _ _ None _ c.loop-made.passes.items _ c.requires.some c.loop-made.invariant.passes c.if-not-looks_open.ensures

pub loop-made-preserved : goal.loop-made-preserved
loop-made-preserved g c = record {
  run =
      subst (λ (n : ℕ). HasRun c.args.turn.hart (c.loop-made.made + n) c.args.world.now c.run.new.self) (sym c.min-made.ensures)
      (run_more c.args.turn.hart c.loop-made.made c.at_once-next.result c.in-Ok-run.count c.args.world.now c.reserve.new.self
      c.run.new.self (run_to_reserved c.args.turn.hart c.loop-made.made c.args.world.now c.loop-made.world c.reserve.new.self c.reserve.ensures.ok c.loop-made.invariant.run) c.in-Ok-run.ensures.made);
  most = omega (arith, c.min-made.ensures, c.at_once-next.ensures, c.loop-made-test.true, c.loop-made.invariant.most);
  some = omega (arith, c.if-not-looks_open.ensures.same, c.loop-made.invariant.some);
  passes =
      passed_on _ _ None _ c.loop-made.passes.items _ c.requires.some c.loop-made.invariant.passes c.if-not-looks_open.ensures;
}

pub returns-in_default-clause-run : goal.returns-in_default-clause-run
returns-in_default-clause-run g c = run_same c.args.turn.hart c.loop-made.made c.args.world.now c.loop-made.world c.reserve.new.self c.in_default.ensures.err c.loop-made.invariant.run

pub returns-in_default-run-clause-run : goal.returns-in_default-run-clause-run
returns-in_default-run-clause-run g c =
    run_same c.args.turn.hart c.loop-made.made c.args.world.now c.reserve.new.self c.run.new.self c.in_default-run.ensures.err
    (run_to_reserved c.args.turn.hart c.loop-made.made c.args.world.now c.loop-made.world c.reserve.new.self c.reserve.ensures.ok c.loop-made.invariant.run)
