-- Counts of faults that rise one after another, and causes by how a replay ended.
use Rattle.std.proofs.Common.{◌≡◌, ℕ, ◌+◌, ◌≤◌, ◌∙◌, arith}
use Rattle.vm_types.specs.Causes.{Rose, RoseBy}
use Rattle.vm_types.specs.declared.exit.Exit.{Exit}
use Rattle.vm_types.specs.declared.exit.Object.TheVariants as object
use Rattle.vm_outside.proofs.Passing.{rose_later}
use Rattle.monitor_cli.specs.Answering.{IsClosing}
use Rattle.monitor_cli.specs.Known.{FilesCause, IsReplayEnd, SinkCause, SinkTold, SourceCause}
use Rattle.monitor_cli.specs.Lines.{IsLinesEnd, IsRunsEnd}
use Rattle.monitor_cli.specs.Taking.{IsQuiet}

pub rose_more : (n k i j l : ℕ) → RoseBy n i j → RoseBy k j l → RoseBy (n + k) i l
rose_more n k i j l first second = omega arith

pub rose_kept : (n i j l : ℕ) → RoseBy n i j → l ≡ j → RoseBy n i l
rose_kept n i j l rose kept = omega (arith, rose, kept)

pub none_more : (n i j : ℕ) → RoseBy n i j → RoseBy (n + 0 + 0) i j
none_more n i j rose = omega (arith, rose)

pub one_of_more : (n i j : ℕ) → RoseBy (n + 1) i j → Rose i j
one_of_more n i j rose = omega (arith, rose)

-- what a call on another object means for each way to end
pub source_stays : (exit : Exit) (i j : ℕ) → IsLinesEnd exit → j ≡ i → SourceCause exit i j
source_stays (Exit.Fault object.Source) i j end same = absurd end
source_stays (Exit.Fault object.Sink) i j end same = same
source_stays (Exit.Fault object.Files) i j end same = same
source_stays (Exit.Fault object.Trace) i j end same = absurd end
source_stays (Exit.Fault object.Listener) i j end same = absurd end
source_stays (Exit.Fault object.Words) i j end same = absurd end
source_stays Exit.Done i j end same = same
source_stays Exit.Usage i j end same = same
source_stays (Exit.Script line) i j end same = same
source_stays Exit.OutOfMemory i j end same = same

-- the sink's count behind the last line
pub sink_told : (exit : Exit) (i mid j : ℕ) → SinkCause exit i mid → mid ≤ j → (IsQuiet exit → j ≡ mid) → SinkTold exit i j
sink_told (Exit.Fault object.Sink) i mid j cause later quiet = rose_later i mid j cause later
sink_told Exit.Done i mid j cause later quiet = quiet tt ∙ cause
sink_told (Exit.Fault object.Source) i mid j cause later quiet = tt
sink_told (Exit.Fault object.Files) i mid j cause later quiet = tt
sink_told (Exit.Fault object.Trace) i mid j cause later quiet = tt
sink_told (Exit.Fault object.Listener) i mid j cause later quiet = tt
sink_told (Exit.Fault object.Words) i mid j cause later quiet = tt
sink_told Exit.Usage i mid j cause later quiet = tt
sink_told (Exit.Script line) i mid j cause later quiet = tt
sink_told Exit.OutOfMemory i mid j cause later quiet = tt

-- and where a script's run is done, by its closing text
pub closing_source : (exit : Exit) (i j : ℕ) → IsClosing exit → j ≡ i → SourceCause exit i j
closing_source Exit.Done i j is same = same
closing_source (Exit.Fault object.Sink) i j is same = same
closing_source Exit.OutOfMemory i j is same = same
closing_source (Exit.Fault object.Source) i j is same = absurd is
closing_source (Exit.Fault object.Files) i j is same = absurd is
closing_source (Exit.Fault object.Trace) i j is same = absurd is
closing_source (Exit.Fault object.Listener) i j is same = absurd is
closing_source (Exit.Fault object.Words) i j is same = absurd is
closing_source Exit.Usage i j is same = absurd is
closing_source (Exit.Script line) i j is same = absurd is

pub closing_sink : (exit : Exit) (i mid j : ℕ) → IsClosing exit → mid ≡ i → SinkCause exit mid j → SinkCause exit i j
closing_sink Exit.Done i mid j is same cause = cause ∙ same
closing_sink (Exit.Fault object.Sink) i mid j is same cause = omega (arith, same, cause)
closing_sink Exit.OutOfMemory i mid j is same cause = cause ∙ same
closing_sink (Exit.Fault object.Source) i mid j is same cause = absurd is
closing_sink (Exit.Fault object.Files) i mid j is same cause = absurd is
closing_sink (Exit.Fault object.Trace) i mid j is same cause = absurd is
closing_sink (Exit.Fault object.Listener) i mid j is same cause = absurd is
closing_sink (Exit.Fault object.Words) i mid j is same cause = absurd is
closing_sink Exit.Usage i mid j is same cause = absurd is
closing_sink (Exit.Script line) i mid j is same cause = absurd is

pub closing_files : (exit : Exit) (i j : ℕ) → IsClosing exit → FilesCause exit i j
closing_files Exit.Done i j is = tt
closing_files (Exit.Fault object.Sink) i j is = tt
closing_files Exit.OutOfMemory i j is = tt
closing_files (Exit.Fault object.Source) i j is = absurd is
closing_files (Exit.Fault object.Files) i j is = absurd is
closing_files (Exit.Fault object.Trace) i j is = absurd is
closing_files (Exit.Fault object.Listener) i j is = absurd is
closing_files (Exit.Fault object.Words) i j is = absurd is
closing_files Exit.Usage i j is = absurd is
closing_files (Exit.Script line) i j is = absurd is

-- a replay's ends
pub runs_named : (exit : Exit) → IsRunsEnd exit → IsReplayEnd exit
runs_named (Exit.Fault object.Source) end = tt
runs_named (Exit.Fault object.Sink) end = tt
runs_named (Exit.Fault object.Files) end = tt
runs_named (Exit.Fault object.Trace) end = absurd end
runs_named (Exit.Fault object.Listener) end = absurd end
runs_named (Exit.Fault object.Words) end = absurd end
runs_named Exit.Done end = absurd end
runs_named Exit.Usage end = absurd end
runs_named (Exit.Script line) end = tt
runs_named Exit.OutOfMemory end = tt

pub closing_named : (exit : Exit) → IsClosing exit → IsReplayEnd exit
closing_named Exit.Done is = tt
closing_named (Exit.Fault object.Sink) is = tt
closing_named Exit.OutOfMemory is = tt
closing_named (Exit.Fault object.Source) is = absurd is
closing_named (Exit.Fault object.Files) is = absurd is
closing_named (Exit.Fault object.Trace) is = absurd is
closing_named (Exit.Fault object.Listener) is = absurd is
closing_named (Exit.Fault object.Words) is = absurd is
closing_named Exit.Usage is = absurd is
closing_named (Exit.Script line) is = absurd is
