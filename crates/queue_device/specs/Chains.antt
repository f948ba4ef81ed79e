-- A chain that was taken of a queue.
use Rattle.std.specs.Prelude.{ℕ, List}
use Rattle.vq_split.specs.declared.queue.Queue.{Queue}
use Rattle.vq_split.specs.declared.queue.Part.{Part}
use Rattle.dev_core.specs.declared.collect.Collect.{Collect}
use Rattle.dev_core.specs.Pieces.{Got}

-- the queue as it was then, the number of its first descriptor, the parts that its kind still needs, and what was read of it
-- before it may be served
pub record Chain : Type 0 where
  pub queue : Queue
  pub head : ℕ
  pub parts : List Part
  pub got : Got

-- what a kind keeps of a chain that it took: the parts that it still needs, and what it read
pub record Taken : Type 0 where
  pub parts : List Part
  pub got : Got

-- bytes that are held, with the parts that more are read from
abbrev pub got_of : Collect → Got
got_of from = record { bytes = from.held; parts = from.from }
