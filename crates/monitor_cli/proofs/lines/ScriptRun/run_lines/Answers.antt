use Rattle.std.proofs.Common.{◌≡◌, [], List, ℕ, arith, refl, sym, subst, ◌∙◌}
use Rattle.vm_outside.proofs.Passing.{lasts_more}
use Rattle.script_text.specs.Lines.{judged}
use Rattle.monitor_cli.proofs.Arriving.{goes_on}
use Rattle.monitor_cli.proofs.Halting.{bad_line, item_ends, no_memory}
use Rattle.monitor_cli.proofs.lines.ScriptRun.run_lines.Goals as goal

pub returns-in_default-clause-ended : goal.returns-in_default-clause-ended
returns-in_default-clause-ended g c = λ tf tk start before came rest reached.
    no_memory start before came rest _ _ _ (c.lines.invariant.went tf tk start before came rest reached) [] rest refl

pub returns-in-Bad-clause-ended : goal.returns-in-Bad-clause-ended
returns-in-Bad-clause-ended g c = λ tf tk start before came rest reached.
    let gave = rw c.in-Bad.is at c.in-Ok.ensures.ok in
    let so_far = c.lines.invariant.went tf tk start before came rest reached in
    bad_line start before came rest _ _ _ so_far c.next.new.self gave.1 (sym (c.is_off.ensures _ _ so_far.is) ∙ c.if-is_off.false)

pub returns-in-Err-clause-ended : goal.returns-in-Err-clause-ended
returns-in-Err-clause-ended g c = λ tf tk start before came rest reached.
    let gave = rw c.in-Line.is at c.in-Ok.ensures.ok in
    let was = c.lines.invariant in
    let so_far = was.went tf tk start before came rest reached in
    item_ends start before came rest _ _ _ so_far c.next.new.self c.in-Line.item gave.1 (sym (c.is_off.ensures _ _ so_far.is) ∙ c.if-is_off.false)
    (was.lasts_files.still tf) (was.lasts_sink.still tk) _ _ _ c.in-Err.exit c.in-Err.ensures.ends

pub lines-preserved : goal.lines-preserved
lines-preserved g c =
    let gave = rw c.in-Line.is at c.in-Ok.ensures.ok in
    let was = c.lines.invariant in
    let ran = c.in_default-run_item.ensures in
    record {
      count = omega (arith, gave.0, was.count);
      lasts_files = lasts_more _ _ _ was.lasts_files ran.lasts.0;
      lasts_sink = lasts_more _ _ _ was.lasts_sink ran.lasts.1;
      kept = ran.sink ∙ was.kept;
      went = λ tf tk start before came rest reached.
          let so_far = was.went tf tk start before came rest reached in
          goes_on start before came rest _ _ _ so_far c.next.new.self c.in-Line.item gave.1 (sym (c.is_off.ensures _ _ so_far.is) ∙ c.if-is_off.false)
          (was.lasts_files.still tf) (was.lasts_sink.still tk) _ _ _ ran.done;
    }

pub returns-then-is_off-clause-paused : goal.returns-then-is_off-clause-paused
returns-then-is_off-clause-paused g c = λ known m is. sym (c.is_off.ensures known m is) ∙ c.if-is_off.true

pub returns-in-Nothing-clause-paused : goal.returns-in-Nothing-clause-paused
returns-in-Nothing-clause-paused g c =
    let gave = rw c.in-Nothing.is at c.in-Ok.ensures.ok in
    (subst (λ (held : List ℕ). judged held ≡ []) (sym gave.1) gave.0, λ known m is. sym (c.is_off.ensures known m is) ∙ c.if-is_off.false)
