-- What is known of the three host objects of a replay.
use Rattle.std.specs.Prelude.{◌≡◌, ℕ}
use Rattle.vm_types.specs.Causes.{Rose}
use Rattle.vm_types.specs.declared.exit.Exit.{Exit}
use Rattle.vm_types.specs.declared.exit.Object.TheVariants as object
use Rattle.vm_outside.specs.Known.{FilesKnown, Lasts, SinkKnown, SourceKnown, Tells}

pub record Known : Type 0 where
  pub source : SourceKnown
  pub sink : SinkKnown
  pub files : FilesKnown

abbrev pub all_known : SourceKnown → SinkKnown → FilesKnown → Known
all_known source sink files = record { source = source; sink = sink; files = files }

-- each tells its content
pub record AllTell (k : Known) : Type 0 where
  pub source : Tells k.source.health
  pub sink : Tells k.sink.health
  pub files : Tells k.files.health

-- each that told its content still does, and no count has fallen
pub record AllLast (before now : Known) : Type 0 where
  pub source : Lasts before.source.health now.source.health
  pub sink : Lasts before.sink.health now.sink.health
  pub files : Lasts before.files.health now.files.health

-- no count rose
pub record NoneRose (before now : Known) : Type 0 where
  pub source : Rose before.source.health.faults now.source.health.faults → ⊥
  pub sink : Rose before.sink.health.faults now.sink.health.faults → ⊥
  pub files : Rose before.files.health.faults now.files.health.faults → ⊥

-- the source's count rose exactly where its fault is named
abbrev pub SourceCause : Exit → ℕ → ℕ → Type 0
SourceCause (Exit.Fault object.Source) before now = Rose before now
SourceCause exit before now = now ≡ before

-- the sink's before the last line rose exactly where its fault is named
abbrev pub SinkCause : Exit → ℕ → ℕ → Type 0
SinkCause (Exit.Fault object.Sink) before now = Rose before now
SinkCause exit before now = now ≡ before

-- and at the end: a sink that fails at the last line is not named
abbrev pub SinkTold : Exit → ℕ → ℕ → Type 0
SinkTold (Exit.Fault object.Sink) before now = Rose before now
SinkTold Exit.Done before now = now ≡ before
SinkTold exit before now = Unit {0}

-- the files' rose where their fault is named
abbrev pub FilesCause : Exit → ℕ → ℕ → Type 0
FilesCause (Exit.Fault object.Files) before now = Rose before now
FilesCause exit before now = Unit {0}

-- a replay asks no other object, and makes no slices
abbrev pub IsReplayEnd : Exit → Type 0
IsReplayEnd (Exit.Fault object.Trace) = ⊥
IsReplayEnd (Exit.Fault object.Listener) = ⊥
IsReplayEnd (Exit.Fault object.Words) = ⊥
IsReplayEnd exit = Unit {0}

-- before the last line: each fault that is named has its cause, and those of source and sink are named
pub record CausedSoFar (exit : Exit) (before now : Known) : Type 0 where
  pub named : IsReplayEnd exit
  pub source : SourceCause exit before.source.health.faults now.source.health.faults
  pub sink : SinkCause exit before.sink.health.faults now.sink.health.faults
  pub files : FilesCause exit before.files.health.faults now.files.health.faults

-- and at the end
pub record Caused (exit : Exit) (before now : Known) : Type 0 where
  pub named : IsReplayEnd exit
  pub source : SourceCause exit before.source.health.faults now.source.health.faults
  pub sink : SinkTold exit before.sink.health.faults now.sink.health.faults
  pub files : FilesCause exit before.files.health.faults now.files.health.faults
