use Rattle.std.proofs.Common.{arith, refl, ap, sym, ◌+◌, subst, ◌∙◌, ◌≡◌, ◌++◌, ◌≤◌, inl, inr, length, take, length-append, append_assoc, List, ℕ}
use Rattle.std.proofs.lemmas.List.{length-take, take-append-le}
use Rattle.vm_types.specs.declared.exit.Exit.{Exit}
use Rattle.vm_types.specs.declared.exit.Object.TheVariants as object
use Rattle.vm_outside.proofs.Passing.{lasts_more}
use Rattle.script_text.specs.Lines.{judged}
use Rattle.flat_machine.specs.Replay.{longest_script}
use Rattle.monitor_cli.specs.Lines.{BeforeLast, Reached}
use Rattle.monitor_cli.proofs.Arriving.{fed}
use Rattle.monitor_cli.proofs.Commanding.{past_early, past_end}
use Rattle.monitor_cli.proofs.Halting.{no_memory, past, source_failed}
use Rattle.monitor_cli.proofs.script.run_script.Goals as goal

at_most : (bytes : List ℕ) (came : ℕ) → length bytes ≡ came → came ≤ longest_script → length bytes ≤ longest_script
at_most bytes came is small = subst (λ (n : ℕ). n ≤ longest_script) (sym is) small

pub returns-in-Ok-Off-clause-finished : goal.returns-in-Ok-Off-clause-finished
returns-in-Ok-Off-clause-finished g c = λ ti tf tk start before reached.
    let was = c.pieces.invariant in
    let so_far = was.went ti tf tk start before reached in
    let now = c.in-Ok-Off.ensures.went (was.lasts_files.still tf) (was.lasts_sink.still tk) start before so_far.0 _ so_far.2 in
    record { came = so_far.0; reached = now; done = inr ((rw c.in-Ok-Off.field-0-is at c.in-Ok-Off.ensures.paused) _ _ now.is) }

pub returns-in-Err-clause-ended : goal.returns-in-Err-clause-ended
returns-in-Err-clause-ended g c = λ ti tf tk start before reached.
    let was = c.pieces.invariant in
    let so_far = was.went ti tf tk start before reached in
    c.in-Err.ensures.ended (was.lasts_files.still tf) (was.lasts_sink.still tk) start before so_far.0 _ so_far.2

pub returns-then-came-clause-finished : goal.returns-then-came-clause-finished
returns-then-came-clause-finished g c = past_end c.past_longest.result c.past_longest.ensures.end (λ end ti tf tk start before reached.
    let was = c.pieces.invariant in
    let paused = rw c.in-Ok-Empty.field-0-is at c.in-Ok-Empty.ensures.paused in
    let so_far = was.went ti tf tk start before reached in
    let now = c.in-Ok-Empty.ensures.went (was.lasts_files.still tf) (was.lasts_sink.still tk) start before so_far.0 _ so_far.2 in
    let none = end (was.lasts_source.still ti) in
    record {
      came = so_far.0;
      reached = subst (λ (l : List ℕ). Reached start before so_far.0 l c.run_lines.new.self (g.K.Sink.known c.run_lines.new.sink) (g.F.Files.known c.run_lines.new.files)) (none.0 ∙ sym none.1) now;
      done = inl (paused.0, none.1);
    })

pub returns-then-came-clause-ended : goal.returns-then-came-clause-ended
returns-then-came-clause-ended g c = past_early c.past_longest.result c.past_longest.ensures.more (λ exit by ti tf tk start before reached.
    let was = c.pieces.invariant in
    let paused = rw c.in-Ok-Empty.field-0-is at c.in-Ok-Empty.ensures.paused in
    let so_far = was.went ti tf tk start before reached in
    let now = c.in-Ok-Empty.ensures.went (was.lasts_files.still tf) (was.lasts_sink.still tk) start before so_far.0 _ so_far.2 in
    past start before so_far.0 _ _ _ _ now paused.0 (paused.1 _ _ now.is) (so_far.1 ∙ c.if-came.true) (g.I.Source.known c.pieces.source) (g.I.Source.known c.past_longest.new.source) refl (was.lasts_source.still ti) exit by)

pub returns-in_default-clause-ended : goal.returns-in_default-clause-ended
returns-in_default-clause-ended g c = λ ti tf tk start before reached.
    let was = c.pieces.invariant in
    let paused = rw c.in-Ok-Empty.field-0-is at c.in-Ok-Empty.ensures.paused in
    let so_far = was.went ti tf tk start before reached in
    let now = c.in-Ok-Empty.ensures.went (was.lasts_files.still tf) (was.lasts_sink.still tk) start before so_far.0 _ so_far.2 in
    let same = c.in_default.ensures.bytes (was.lasts_source.still ti) in
    subst (λ (l : List ℕ). BeforeLast (Exit.Fault object.Source) start before l (g.K.Sink.known c.run_lines.new.sink) (g.F.Files.known c.run_lines.new.files)) (sym same)
    (source_failed start before so_far.0 _ _ _ _ now paused.0 (paused.1 _ _ now.is))

pub returns-then-count-eq0-clause-finished : goal.returns-then-count-eq0-clause-finished
returns-then-count-eq0-clause-finished g c = λ ti tf tk start before reached.
    let was = c.pieces.invariant in
    let paused = rw c.in-Ok-Empty.field-0-is at c.in-Ok-Empty.ensures.paused in
    let so_far = was.went ti tf tk start before reached in
    let now = c.in-Ok-Empty.ensures.went (was.lasts_files.still tf) (was.lasts_sink.still tk) start before so_far.0 _ so_far.2 in
    let read = c.in-Ok.ensures.bytes (was.lasts_source.still ti) in
    let same = read.0 ∙ ap (λ (n : ℕ). take n c.read.new.buf ++ (g.I.Source.known c.read.new.self).left) c.if-count-eq0.true in
    record {
      came = so_far.0;
      reached = subst (λ (l : List ℕ). Reached start before so_far.0 l c.run_lines.new.self (g.K.Sink.known c.run_lines.new.sink) (g.F.Files.known c.run_lines.new.files)) same now;
      done = inl (paused.0, read.1 c.if-count-eq0.true (omega (arith, length-take {A = ℕ}, c.read.auto.buf, c.min-room.ensures, c.if-came.false, was.small)));
    }

pub returns-in_default-feed-clause-ended : goal.returns-in_default-feed-clause-ended
returns-in_default-feed-clause-ended g c = λ ti tf tk start before reached.
    let was = c.pieces.invariant in
    let so_far = was.went ti tf tk start before reached in
    let now = c.in-Ok-Empty.ensures.went (was.lasts_files.still tf) (was.lasts_sink.still tk) start before so_far.0 _ so_far.2 in
    let read = c.in-Ok.ensures.bytes (was.lasts_source.still ti) in
    no_memory start before so_far.0 _ _ _ _ now (take c.in-Ok.count c.read.new.buf) (g.I.Source.known c.read.new.self).left read.0

pub pieces-preserved : goal.pieces-preserved
pieces-preserved g c =
    let was = c.pieces.invariant in
    let ran = c.in-Ok-Empty.ensures in
    let held = take-append-le c.in-Ok.count c.read.new.buf _ c.in-Ok.ensures.bound in
    let piece = take c.in-Ok.count c.read.new.buf in
    let old = c.run_lines.new.self.reader in
    let takes = c.in-Ok-feed.ensures.ok in
    let gave = λ (more : List ℕ). takes.same more ∙ (ap (λ (l : List ℕ). judged (old ++ (l ++ more))) held
    ∙ ap judged (sym (append_assoc old piece more))) in
    record {
      count = omega (arith, ran.count, was.count, takes.grows, ap length held, length-take {A = ℕ}, c.in-Ok.ensures.bound);
      small = omega (arith, length-take {A = ℕ}, c.in-Ok.ensures.bound, c.read.auto.buf, c.min-room.ensures, was.small);
      lasts_source = lasts_more _ _ _ was.lasts_source c.in-Ok.ensures.called.lasts;
      lasts_files = lasts_more _ _ _ was.lasts_files ran.lasts.0;
      lasts_sink = lasts_more _ _ _ was.lasts_sink ran.lasts.1;
      kept_source = c.in-Ok.ensures.called.kept ∙ was.kept_source;
      kept_sink = ran.sink ∙ was.kept_sink;
      went = λ ti tf tk start before reached.
          let so_far = was.went ti tf tk start before reached in
          let now = ran.went (was.lasts_files.still tf) (was.lasts_sink.still tk) start before so_far.0 _ so_far.2 in
          let read = c.in-Ok.ensures.bytes (was.lasts_source.still ti) in
          let size : length (so_far.0 ++ piece) ≡ c.pieces.came + c.in-Ok.count = omega (arith, length-append {A = ℕ}, length-take {A = ℕ}, so_far.1, c.in-Ok.ensures.bound) in (
            so_far.0 ++ piece,
            size,
            fed start before so_far.0 piece (g.I.Source.known c.read.new.self).left _ _ _ _ gave
                (at_most (so_far.0 ++ piece) (c.pieces.came + c.in-Ok.count) size (omega (arith, length-take {A = ℕ}, c.in-Ok.ensures.bound, c.read.auto.buf, c.min-room.ensures, was.small)))
                (subst (λ (l : List ℕ). Reached start before so_far.0 l c.run_lines.new.self (g.K.Sink.known c.run_lines.new.sink) (g.F.Files.known c.run_lines.new.files)) read.0 now),
          );
    }
